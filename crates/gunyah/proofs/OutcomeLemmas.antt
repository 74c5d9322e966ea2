-- Front parts: of the names that are asked, of the bytes that are taken.
use Rattle.std.proofs.Common.{◌≡◌, ◌∙◌, sym, ℕ, zero, suc, ◌+◌, ◌-◌}
use Rattle.std.proofs.Common.{List, [], ◌∷◌, ◌++◌, length, take, drop, Option}
use Rattle.std.proofs.Common.{None, Some, refl, ap, arith, append_assoc, length-append}
use Rattle.std.proofs.Math.Seq.{take-add}
use Rattle.std.specs.Io.KnownBytes.{append_known}
use Rattle.gunyah.specs.Outcome.{TookFirst}

-- bytes taken behind others of one output are a longer front part of it
pub took_more : (known : Option (List ℕ)) (bytes : List ℕ) (count more : ℕ)
    → append_known (append_known known (take count bytes)) (take more (drop count bytes)) ≡ append_known known (take (count + more) bytes)
took_more None bytes count more = refl
took_more (Some taken) bytes count more =
    ap Some (append_assoc taken (take count bytes) (take more (drop count bytes)) ∙ ap (λ x. taken ++ x) (sym (take-add count more bytes)))

-- a front part is as long as its length says
take_front : {A : Type 0} → (count : ℕ) (items : List A) → take (length (take count items)) items ≡ take count items
take_front zero items = refl
take_front (suc count) [] = refl
take_front (suc count) (x ∷ items) = ap (λ l. x ∷ l) (take_front count items)

-- a list that grew by a front part of some items grew by the first of them, so many as it grew by
pub grew_by_first : {A : Type 0} → (before now items : List A) (count : ℕ) → now ≡ before ++ take count items
    → now ≡ before ++ take (length now - length before) items
grew_by_first before now items count grown =
    let more : length (take count items) ≡ length now - length before = omega (arith, ap length grown, length-append before (take count items)) in
    grown ∙ ap (λ l. before ++ l) (sym (take_front count items) ∙ ap (λ n. take n items) more)

-- so many bytes of the output were taken
pub took_first : (before now : Option (List ℕ)) (bytes : List ℕ) (count : ℕ) → now ≡ append_known before (take count bytes) → TookFirst before now bytes
took_first None now bytes count taken = taken
took_first (Some before) None bytes count taken = absurd (cc)
took_first (Some before) (Some now) bytes count taken = ap Some (grew_by_first before now bytes count (cc))
