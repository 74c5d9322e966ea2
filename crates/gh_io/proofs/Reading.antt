-- What is read of a reader, and what it has left.
use Rattle.std.proofs.Common.{◌≡◌, ◌≤◌, ◌∙◌, ℕ, List, ◌++◌, length, take}
use Rattle.std.proofs.Common.{Option, None, Some, IfSome, sym, ap, append_assoc, append-nil}
use Rattle.std.proofs.lemmas.List.{take_all}
use Rattle.std.proofs.Math.Seq.{take-append_seam}
use Rattle.std.specs.Io.KnownBytes.{prepend_known, IsAtEnd}

-- bytes that a read moved behind those so far leave the whole as it was
pub moved_on : (old new : Option (List ℕ)) (bytes more : List ℕ) → old ≡ prepend_known more new
    → prepend_known (bytes ++ more) new ≡ prepend_known bytes old
moved_on old None bytes more moved = ap (prepend_known bytes) (sym moved)
moved_on old (Some left) bytes more moved =
    ap Some (append_assoc bytes more left) ∙ ap (prepend_known bytes) (sym moved)

-- where nothing is left, all was read
pub whole_front : (all left : Option (List ℕ)) (bytes : List ℕ) (most : ℕ)
    → prepend_known bytes left ≡ all → IsAtEnd left → length bytes ≤ most
    → IfSome all (λ file. bytes ≡ take most file)
whole_front None left bytes most read end within = tt
whole_front (Some file) None bytes most read end within = absurd (cc)
whole_front (Some file) (Some left) bytes most read end within =
    let same : bytes ++ left ≡ file = cc in
    let whole : file ≡ bytes = sym same ∙ ap (λ l. bytes ++ l) end ∙ append-nil bytes in
    sym (ap (take most) whole ∙ take_all most bytes within)

-- where as many bytes were read as were asked for, they are the first
pub full_front : (all left : Option (List ℕ)) (bytes : List ℕ) (most : ℕ)
    → prepend_known bytes left ≡ all → length bytes ≡ most
    → IfSome all (λ file. bytes ≡ take most file)
full_front None left bytes most read full = tt
full_front (Some file) None bytes most read full = absurd (cc)
full_front (Some file) (Some left) bytes most read full =
    let same : bytes ++ left ≡ file = cc in
    sym (ap (take most) (sym same) ∙ ap (λ n. take n (bytes ++ left)) (sym full) ∙ take-append_seam bytes left)
