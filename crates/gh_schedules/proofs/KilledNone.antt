-- No object is killed and not retired: as a test of all rows, and of each object; and what leaves it
-- so.
use Rattle.std.proofs.Common.{◌≡◌, ◌≤◌, ◌∙◌, ℕ, Bool, true, false, List, [], ◌∷◌, refl, sym, ap, arith, Option, Some, None, find, is_some, if◌then◌else◌}
use Rattle.std.specs.Prelude.{◌||◌, count_by, option_map}
use Rattle.std.specs.List.{list_any}
use Rattle.std.specs.Option.{option_map_or}
use Rattle.std.proofs.lemmas.Bool.{eqb-true}
use Rattle.gh_model.specs.QueueCalls.{one_if}
use Rattle.gh_model.specs.Rows.{is_object, object_row}
use Rattle.gh_model.specs.declared.rows.ObjectRow.{ObjectRow}
use Rattle.gh_model.specs.declared.state.State.{State}
use Rattle.gh_invariant.specs.Valid.{IsValid}
use Rattle.gh_invariant.proofs.Counting.{count_cons, found_one, one_true}
use Rattle.gh_events.specs.Config.{is_killed}
use Rattle.gh_events.proofs.EventObjects.{counters_of, life}
use Rattle.gh_events.proofs.Finding.{found_passes, same_number}
use Rattle.gh_events.proofs.GraceTurn.{found_fails}

-- the object of this serial is killed and not retired
abbrev pub killed_in : State → (ℕ → ℕ) → (ℕ → Bool) → ℕ → Bool
killed_in s index dead serial =
    option_map_or (is_killed dead index) (object_row s serial) false

abbrev pub NoneKilled : State → (ℕ → ℕ) → (ℕ → Bool) → Type 0
NoneKilled s index dead = (serial : ℕ) → killed_in s index dead serial ≡ false

-- what a test finds is what another one finds that it passes alone
own_by : {R : Type 0} (p k : R → Bool) (first row : R) (rows : List R) (here there : Bool)
    → p first ≡ here → k first ≡ there → k row ≡ true → count_by k (first ∷ rows) ≤ 1
    → (if here then Some first else find p rows) ≡ Some row
    → (find p rows ≡ Some row → find k rows ≡ Some row)
    → (if there then Some first else find k rows) ≡ Some row
own_by p k first row rows true there is at own once found rest =
    let same : first ≡ row = cc in
    let yes : there ≡ true = sym at ∙ ap k same ∙ own in
    rw yes (ap Some same)
own_by p k first row rows false false is at own once found rest = rest found
own_by p k first row rows false true is at own once found rest =
    let later : find k rows ≡ Some row = rest found in
    let one : one_if (k first) ≡ 1 = one_true (k first) at in
    absurd (omega (arith, once, count_cons k first rows, one, found_one k rows row later))

pub own_found : {R : Type 0} (p k : R → Bool) (rows : List R) (row : R) → k row ≡ true
    → count_by k rows ≤ 1 → find p rows ≡ Some row → find k rows ≡ Some row
own_found p k [] row own once found = absurd (let never : ⊥ = cc in never)
own_found p k (first ∷ rows) row own once found =
    own_by p k first row rows (p first) (k first) refl refl own once found
    (λ later. own_found p k rows row own (omega (arith, once, count_cons k first rows)) later)

-- so the row of an object is found by its serial
pub own_row : (p : ObjectRow → Bool) (rows : List ObjectRow) (row : ObjectRow)
    → ((serial : ℕ) → count_by (is_object serial) rows ≤ 1) → find p rows ≡ Some row
    → find (is_object row.serial.0) rows ≡ Some row
own_row p rows row once found =
    own_found p (is_object row.serial.0) rows row (same_number row.serial.0) (once row.serial.0) found

-- where some item passes a test, one is found
pub any_found : {X : Type 0} (p : X → Bool) (xs : List X) → list_any p xs ≡ true
    → is_some (find p xs) ≡ true
any_found p [] any = absurd (let never : ⊥ = cc in never)
any_found p (x ∷ xs) any = by_first (p x) any (any_found p xs)
  where
    by_first : (here : Bool) → (here || list_any p xs) ≡ true → (list_any p xs ≡ true → is_some (find p xs) ≡ true)
        → is_some (if here then Some x else find p xs) ≡ true
    by_first true some rest = refl
    by_first false some rest = rest some

none_by : (s : State) (index : ℕ → ℕ) (dead : ℕ → Bool) → IsValid s → NoneKilled s index dead
    → (found : Option ObjectRow) → find (is_killed dead index) s.objects ≡ found
    → is_some found ≡ true → ⊥
none_by s index dead valid none None is some = let never : ⊥ = cc in never
none_by s index dead valid none (Some row) is some =
    let own : object_row s row.serial.0 ≡ Some row = own_row (is_killed dead index) s.objects row valid.objects.once is in
    let passes : is_killed dead index row ≡ true = found_passes (is_killed dead index) s.objects row is in
    let fails : is_killed dead index row ≡ false = sym (ap (λ (one : Option ObjectRow). option_map_or (is_killed dead index) one false) own) ∙ none row.serial.0 in
    let never : ⊥ = cc in never

-- where no object is killed, no row is
pub none_some : (s : State) (index : ℕ → ℕ) (dead : ℕ → Bool) → IsValid s
    → NoneKilled s index dead → list_any (is_killed dead index) s.objects ≡ false
none_some s index dead valid none = by_any (list_any (is_killed dead index) s.objects) refl
  where
    by_any : (any : Bool) → list_any (is_killed dead index) s.objects ≡ any → list_any (is_killed dead index) s.objects ≡ false
    by_any false is = is
    by_any true is =
        absurd (none_by s index dead valid none (find (is_killed dead index) s.objects) refl (any_found (is_killed dead index) s.objects is))

none_found : (s : State) (index : ℕ → ℕ) (dead : ℕ → Bool) (serial : ℕ) (found : Option ObjectRow)
    → object_row s serial ≡ found → list_any (is_killed dead index) s.objects ≡ false
    → option_map_or (is_killed dead index) found false ≡ false
none_found s index dead serial None is none = refl
none_found s index dead serial (Some row) is none =
    found_fails (is_object serial) (is_killed dead index) s.objects row none is

-- and the other way round
pub none_each : (s : State) (index : ℕ → ℕ) (dead : ℕ → Bool)
    → list_any (is_killed dead index) s.objects ≡ false → NoneKilled s index dead
none_each s index dead none serial = none_found s index dead serial (object_row s serial) refl none

-- an object with the same life, at the same index, is killed where it was
life_by : (index later : ℕ → ℕ) (dead : ℕ → Bool) (serial : ℕ) (old new : Option ObjectRow)
    → ((row : ObjectRow) → old ≡ Some row → row.serial.0 ≡ serial)
    → ((row : ObjectRow) → new ≡ Some row → row.serial.0 ≡ serial)
    → later serial ≡ index serial
    → option_map counters_of new ≡ option_map counters_of old
    → option_map_or (is_killed dead later) new false ≡ option_map_or (is_killed dead index) old false
life_by index later dead serial None None is_old is_new same life = refl
life_by index later dead serial None (Some row) is_old is_new same life =
    absurd (let never : ⊥ = cc in never)
life_by index later dead serial (Some row) None is_old is_new same life =
    absurd (let never : ⊥ = cc in never)
life_by index later dead serial (Some old) (Some new) is_old is_new same life =
    let counters : new.retired ≡ old.retired = cc in
    let at : later new.serial.0 ≡ index old.serial.0 = ap later (is_new new refl) ∙ same ∙ sym (ap index (is_old old refl)) in
    ap (λ (kept : Option (List ℕ)). if is_some kept then false else dead (later new.serial.0)) counters
    ∙ ap (λ (n : ℕ). if is_some old.retired then false else dead n) at

pub life_killed : (s new : State) (index later : ℕ → ℕ) (dead : ℕ → Bool) (serial : ℕ)
    → later serial ≡ index serial → life new.objects serial ≡ life s.objects serial
    → killed_in new later dead serial ≡ killed_in s index dead serial
life_killed s new index later dead serial same life_same =
    life_by index later dead serial (object_row s serial) (object_row new serial)
    (λ row is. eqb-true row.serial.0 serial (found_passes (is_object serial) s.objects row is))
    (λ row is. eqb-true row.serial.0 serial (found_passes (is_object serial) new.objects row is)) same life_same
