-- What was asked of files while they are loaded in turn.
use Rattle.std.proofs.Common.{◌≡◌, ◌≤◌, ◌<◌, ◌+◌, ◌-◌, ◌∙◌}
use Rattle.std.proofs.Common.{ℕ, true, false, inl, inr, Bool, List, [], ◌∷◌}
use Rattle.std.proofs.Common.{◌++◌, length, take, map, get_or, Bor, Option, None}
use Rattle.std.proofs.Common.{Some, IfSome, Result, Ok, Err, refl, sym, ap, subst, arith}
use Rattle.std.proofs.Common.{if◌then◌else◌, append_assoc, length-append}
use Rattle.std.proofs.lemmas.List.{take_more, take-map, take-take}
use Rattle.std.proofs.lemmas.List.{map-append, length-map, length-take-le}
use Rattle.std.proofs.lemmas.List.Elements.{All-take, All-same, All-push}
use Rattle.std.specs.List.{All}
use Rattle.gh_io.specs.Outside.{request}
use Rattle.gh_io.specs.declared.files.Request.{Request}
use Rattle.gunyah.proofs.OutcomeLemmas.{grew_by_first}
use Rattle.gunyah.specs.Input.{is_small, sized, LoadsAs}
use Rattle.gunyah.specs.Outcome.{requests, made, Asked, AsksFor, FindsLarge}
use Rattle.gunyah.specs.Outcome.{ReadOf, SmallBefore, texts_under}
use Rattle.gh_callfile.specs.Grammar.{texts_of}
use Rattle.gunyah.specs.declared.read_err.BadFile.{BadFile}
use Rattle.gunyah.specs.declared.read_err.BadFile.TheVariants as bad
use Rattle.gunyah.specs.declared.read_err.ReadErr.{ReadErr}
use Rattle.gunyah.specs.declared.read_err.ReadErr.TheVariants as stop

-- names, as a caller lends them
abbrev Names : Type 0
Names = List (Bor (List ℕ))

-- the text isn't too large
abbrev Small : List ℕ → Type 0
Small text = is_small text ≡ true

-- the first of the files of these names aren't too large
abbrev SmallUpTo : Option (List ℕ → List ℕ) → Names → ℕ → Type 0
SmallUpTo contents names count = IfSome contents (λ file. All Small (map file (texts_of (take count names))))

-- the first of these names were asked for, and no others
abbrev AskedUpTo : List Request → List Request → Names → ℕ → Type 0
AskedUpTo before now names count = now ≡ before ++ requests (texts_of (take count names))

front_of_requests : (names : Names) (count : ℕ) → requests (texts_of (take count names)) ≡ take count (requests (texts_of names))
front_of_requests names count =
    sym (take-map (λ (name : List ℕ). request name 8388609) count (texts_of names) ∙ ap requests (take-map (λ (text : Bor (List ℕ)). text.now) count names))

requests_of_front : (names : Names) (count : ℕ) → count ≤ length names → length (requests (texts_of (take count names))) ≡ count
requests_of_front names count within =
    length-map (texts_of (take count names)) (λ (name : List ℕ). request name 8388609)
    ∙ length-map (take count names) (λ (text : Bor (List ℕ)). text.now) ∙ length-take-le count names within

-- so many requests were made as files were asked for
made_count : (before now : List Request) (names : Names) (count : ℕ) → count ≤ length names → AskedUpTo before now names count → made before now ≡ count
made_count before now names count within asked =
    omega (arith, ap length asked, length-append before (requests (texts_of (take count names))), requests_of_front names count within)

-- the request of the next name stands behind those before it
next_request : (names : Names) (i : ℕ) (other : Bor (List ℕ)) → i < length names
    → requests (texts_of (take (i + 1) names)) ≡ requests (texts_of (take i names)) ++ request (get_or names i other).now 8388609 ∷ []
next_request names i other within =
    ap (λ (front : Names). requests (texts_of front)) (take_more names i other within)
    ∙ ap requests (map-append (λ (text : Bor (List ℕ)). text.now) (take i names) (get_or names i other ∷ []))
    ∙ map-append (λ (name : List ℕ). request name 8388609) (texts_of (take i names)) ((get_or names i other).now ∷ [])

pub asked_more : (before mid now : List Request) (names : Names) (i : ℕ) (other : Bor (List ℕ)) → i < length names
    → AskedUpTo before mid names i → now ≡ mid ++ request (get_or names i other).now 8388609 ∷ [] → AskedUpTo before now names (i + 1)
asked_more before mid now names i other within asked more =
    more ∙ ap (λ l. l ++ request (get_or names i other).now 8388609 ∷ []) asked
    ∙ append_assoc before (requests (texts_of (take i names))) (request (get_or names i other).now 8388609 ∷ [])
    ∙ ap (λ l. before ++ l) (sym (next_request names i other within))

-- a file that is read as it is isn't too large
sized_small : (small : Bool) (number : ℕ) (text value : List ℕ)
    → (if◌then◌else◌ {A = Result (List ℕ) BadFile} small (Ok text) (Err (bad.TooLarge number))) ≡ Ok value → small ≡ true
sized_small true number text value sized = refl
sized_small false number text value sized = absurd (let never : ⊥ = cc in never)

-- a file more that isn't too large
pub small_more : (contents : Option (List ℕ → List ℕ)) (names : Names) (i number : ℕ) (other : Bor (List ℕ)) (value : List ℕ) → i < length names
    → SmallUpTo contents names i
    → IfSome contents (λ file. LoadsAs (sized number (file (get_or names i other).now)) (Ok value))
    → SmallUpTo contents names (i + 1)
small_more None names i number other value within small loads = tt
small_more (Some file) names i number other value within small loads =
    let next : Small (file (get_or names i other).now) = sized_small (is_small (file (get_or names i other).now)) number (file (get_or names i other).now) value loads in
    let front : map file (texts_of (take (i + 1) names)) ≡ map file (texts_of (take i names)) ++ file (get_or names i other).now ∷ [] =
    ap (λ (some : Names). map file (texts_of some)) (take_more names i other within)
    ∙ ap (map file) (map-append (λ (text : Bor (List ℕ)). text.now) (take i names) (get_or names i other ∷ []))
    ∙ map-append file (texts_of (take i names)) ((get_or names i other).now ∷ []) in
    All-same Small (map file (texts_of (take (i + 1) names))) (map file (texts_of (take i names)) ++ file (get_or names i other).now ∷ []) front
    (All-push Small (map file (texts_of (take i names))) (file (get_or names i other).now) small next)

-- fewer files of which none is too large
front_small : (contents : Option (List ℕ → List ℕ)) (names : Names) (count : ℕ) → SmallUpTo contents names count
    → IfSome (texts_under contents (texts_of names)) (λ told. All Small (take count told))
front_small None names count small = tt
front_small (Some file) names count small =
    All-same Small (take count (map file (texts_of names))) (map file (texts_of (take count names)))
    (take-map file count (texts_of names) ∙ ap (map file) (take-map (λ (text : Bor (List ℕ)). text.now) count names)) small

-- of two counts that differ by one or not at all, the one before the first is within the second
small_before : (texts : Option (List (List ℕ))) (count i : ℕ) → count ≤ i + 1
    → IfSome texts (λ told. All Small (take i told)) → SmallBefore count texts
small_before None count i within small = tt
small_before (Some told) count i within small =
    All-same Small (take (count - 1) told) (take (count - 1) (take i told)) (sym (take-take (count - 1) i told (omega arith)))
    (All-take Small (count - 1) (take i told) small)

-- where files were asked for up to one, of which the ones before aren't too large
ended : (Count : ℕ → ℕ → Type 0) (contents : Option (List ℕ → List ℕ)) (before now : List Request) (names : Names) (i count : ℕ)
    → count ≤ length names → count ≤ i + 1 → AskedUpTo before now names count → SmallUpTo contents names i → Count count (length names)
    → Asked Count before now (texts_of names) (texts_under contents (texts_of names))
ended Count contents before now names i count within next asked small counts =
    let so_many : made before now ≡ count = made_count before now names count within asked in
    record {
      first = grew_by_first before now (requests (texts_of names)) count (asked ∙ ap (λ l. before ++ l) (front_of_requests names count));
      count = subst (λ n. Count n (length (texts_of names))) (sym so_many) (subst (Count count) (sym (length-map names (λ (text : Bor (List ℕ)). text.now))) counts);
      small = subst (λ n. SmallBefore n (texts_under contents (texts_of names))) (sym so_many) (small_before (texts_under contents (texts_of names)) count i next (front_small contents names i small));
    }

stopped_at : (e : ReadErr) (contents : Option (List ℕ → List ℕ)) (before mid now : List Request) (names : Names) (i number : ℕ) (other : Bor (List ℕ)) → i < length names
    → number ≡ i + 1 → AskedUpTo before mid names i → SmallUpTo contents names i
    → AsksFor {X = List ℕ} (Err e) mid now (get_or names i other).now → FindsLarge {X = List ℕ} (Err e) number
    → Asked (ReadOf {X = List (List ℕ)} (Err e)) before now (texts_of names) (texts_under contents (texts_of names))
stopped_at stop.Failed contents before mid now names i number other within is asked small asks large =
    ended (ReadOf {X = List (List ℕ)} (Err stop.Failed)) contents before now names i (i + 1) (omega arith) (omega arith) (asked_more before mid now names i other within asked asks) small (omega arith)
stopped_at (stop.Bad fault) contents before mid now names i number other within is asked small asks large =
    ended (ReadOf {X = List (List ℕ)} (Err (stop.Bad fault))) contents before now names i (i + 1) (omega arith) (omega arith) (asked_more before mid now names i other within asked asks) small
    (subst (λ (f : BadFile). ReadOf {X = List (List ℕ)} (Err (stop.Bad f)) (i + 1) (length names)) (sym large) (sym is))
stopped_at stop.NoMemory contents before mid now names i number other within is asked small (inl same) large =
    ended (ReadOf {X = List (List ℕ)} (Err stop.NoMemory)) contents before now names i i (omega arith) (omega arith) (same ∙ asked) small tt
stopped_at stop.NoMemory contents before mid now names i number other within is asked small (inr asks) large =
    ended (ReadOf {X = List (List ℕ)} (Err stop.NoMemory)) contents before now names i (i + 1) (omega arith) (omega arith) (asked_more before mid now names i other within asked asks) small tt

-- the loading ended at the next file
pub ended_at : (result : Result (List (List ℕ)) ReadErr) (e : ReadErr) (contents : Option (List ℕ → List ℕ)) (before mid now : List Request) (names : Names) (i number : ℕ) (other : Bor (List ℕ))
    → result ≡ Err e → i < length names → number ≡ i + 1 → AskedUpTo before mid names i → SmallUpTo contents names i
    → AsksFor {X = List ℕ} (Err e) mid now (get_or names i other).now → FindsLarge {X = List ℕ} (Err e) number
    → Asked (ReadOf result) before now (texts_of names) (texts_under contents (texts_of names))
ended_at result e contents before mid now names i number other is within counts asked small asks large =
    subst (λ (r : Result (List (List ℕ)) ReadErr). Asked (ReadOf r) before now (texts_of names) (texts_under contents (texts_of names))) (sym is)
    (stopped_at e contents before mid now names i number other within counts asked small asks large)

stopped_behind : (contents : Option (List ℕ → List ℕ)) (before mid now : List Request) (names : Names) (i : ℕ) (other : Bor (List ℕ)) → i < length names
    → AskedUpTo before mid names i → SmallUpTo contents names i → now ≡ mid ++ request (get_or names i other).now 8388609 ∷ []
    → Asked (ReadOf {X = List (List ℕ)} (Err stop.NoMemory)) before now (texts_of names) (texts_under contents (texts_of names))
stopped_behind contents before mid now names i other within asked small asks =
    ended (ReadOf {X = List (List ℕ)} (Err stop.NoMemory)) contents before now names i (i + 1) (omega arith) (omega arith) (asked_more before mid now names i other within asked asks) small tt

-- memory ran out behind the next file
pub ended_behind : (result : Result (List (List ℕ)) ReadErr) (contents : Option (List ℕ → List ℕ)) (before mid now : List Request) (names : Names) (i : ℕ) (other : Bor (List ℕ))
    → result ≡ Err stop.NoMemory → i < length names → AskedUpTo before mid names i → SmallUpTo contents names i
    → now ≡ mid ++ request (get_or names i other).now 8388609 ∷ []
    → Asked (ReadOf result) before now (texts_of names) (texts_under contents (texts_of names))
ended_behind result contents before mid now names i other is within asked small asks =
    subst (λ (r : Result (List (List ℕ)) ReadErr). Asked (ReadOf r) before now (texts_of names) (texts_under contents (texts_of names))) (sym is)
    (stopped_behind contents before mid now names i other within asked small asks)
