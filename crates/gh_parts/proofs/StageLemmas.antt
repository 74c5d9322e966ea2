-- Without memory, changes of which only one wants it are made up to a change of stage, which can be
-- taken back.
use Rattle.std.proofs.Common.{◌≡◌, ◌∙◌, ◌∷◌, ◌⊎◌, [], ℕ, zero, suc, Bool, true, false, List, take, Option, Some, None, Result, Ok, Err, refl, sym, ap, inl, inr, find}
use Rattle.std.specs.Prelude.{◌||◌, IsSomeAnd, OnErr, is_err, slice_get}
use Rattle.std.specs.List.{list_any}
use Rattle.std.specs.Option.{option_map}
use Rattle.std.proofs.lemmas.Bool.{cases_Bool, not-true}
use Rattle.gh_base.specs.declared.ids.Serial.{Serial}
use Rattle.gh_base.specs.declared.kind.Stage.{Stage}
use Rattle.gh_model.proofs.ChangedRows.{change_here, change_later}
use Rattle.gh_model.specs.Changes.{changed_all, set_stage, with_stage}
use Rattle.gh_model.specs.Rows.{change_row, is_object, object_row}
use Rattle.gh_model.specs.declared.change.Change.{Change}
use Rattle.gh_model.specs.declared.change.Change.TheVariants.{SetStage}
use Rattle.gh_model.specs.declared.rows.ObjectRow.{ObjectRow}
use Rattle.gh_model.specs.declared.state.State.{State}
use Rattle.gh_parts.specs.MakingAll.{MadeBefore, restored, stage_before, staged, wants_first, wants_memory, wants_once}
use Rattle.gh_parts.specs.Stands.{Stands}
use Rattle.gh_parts.specs.declared.parts.Parts.{Parts}

-- what is so of an error is so at an error
pub said : {T E : Type 0} (result : Result T E) (Q : Type 0) (here : Bool) → here ≡ true → here ≡ is_err result
    → OnErr result Q → Q
said (Ok value) Q here is same on = absurd (let never : ⊥ = cc in never)
said (Err error) Q here is same on = on

none_here : (here later : Bool) → (here || later) ≡ false → here ≡ true → ⊥
none_here true later none is = cc
none_here false later none is = cc

none_later : (here later : Bool) → (here || later) ≡ false → later ≡ false
none_later true later none = absurd (let never : ⊥ = cc in never)
none_later false later none = none

-- where none passes, the one at a place doesn't
none_at : {X : Type 0} (p : X → Bool) (xs : List X) (at : ℕ) → list_any p xs ≡ false
    → IsSomeAnd (slice_get xs at) (λ x. p x ≡ true) → ⊥
none_at p [] at none some = some
none_at p (x ∷ xs) zero none some = none_here (p x) (list_any p xs) none some
none_at p (x ∷ xs) (suc at) none some = none_at p xs at (none_later (p x) (list_any p xs) none) some

wanted_by : (changes : List Change) (made : ℕ) (here : Bool) → list_any wants_memory changes ≡ here
    → IsSomeAnd (slice_get changes made) (λ one. wants_memory one ≡ true) → here ≡ true
wanted_by changes made true is next = refl
wanted_by changes made false is next = absurd (none_at wants_memory changes made is next)

-- changes that are made up to one that wants memory want it
pub wanted : (parts : Parts) (s : State) (changes : List Change) → MadeBefore parts s changes
    → list_any wants_memory changes ≡ true
wanted parts s changes before =
    wanted_by changes before.made (list_any wants_memory changes) refl before.next

first_by : (parts : Parts) (s : State) (change : Change) (changes : List Change) (made : ℕ)
    → list_any wants_memory changes ≡ false
    → IsSomeAnd (slice_get (change ∷ changes) made) (λ one. wants_memory one ≡ true)
    → Stands parts (changed_all s (take made (change ∷ changes))) → Stands parts s
first_by parts s change changes zero none next stands = stands
first_by parts s change changes (suc made) none next stands = absurd (none_at wants_memory changes made none next)

stage_by : (parts : Parts) (s : State) (object : Serial) (stage : Stage) (changes : List Change) (made : ℕ)
    → wants_first changes ≡ true
    → IsSomeAnd (slice_get (SetStage object stage ∷ changes) made) (λ one. wants_memory one ≡ true)
    → Stands parts (changed_all s (take made (SetStage object stage ∷ changes))) → Stands parts (set_stage object stage s)
stage_by parts s object stage changes zero first next stands = absurd (let never : ⊥ = cc in never)
stage_by parts s object stage [] (suc made) first next stands = absurd next
stage_by parts s object stage (change ∷ changes) (suc zero) first next stands = stands
stage_by parts s object stage (change ∷ changes) (suc (suc made)) first next stands =
    absurd (none_at wants_memory changes made (not-true _ first) next)

-- the parts stand for the rows behind the change of stage
pub made_first : (parts : Parts) (s : State) (changes : List Change) → wants_once changes ≡ true
    → MadeBefore parts s changes → Stands parts (staged s changes)
made_first parts s [] once before = absurd before.next
made_first parts s (SetStage object stage ∷ changes) once before =
    stage_by parts s object stage changes before.made once before.next before.stands
made_first parts s (change ∷ changes) once before =
    first_by parts s change changes before.made (not-true _ once) before.next before.stands

-- a row that isn't found isn't changed
unchanged_by : {R : Type 0} (test : R → Bool) (change : R → R) (row : R) (rows : List R)
    → (test row ≡ true) ⊎ (test row ≡ false) → find test (row ∷ rows) ≡ None
    → (find test rows ≡ None → change_row test change rows ≡ rows) → change_row test change (row ∷ rows) ≡ row ∷ rows
unchanged_by test change row rows (inl here) none others =
    let found : find test (row ∷ rows) ≡ Some row = rw here refl in
    absurd (let never : ⊥ = cc in never)
unchanged_by test change row rows (inr later) none others =
    let same : find test (row ∷ rows) ≡ find test rows = rw later refl in
    change_later test change row rows later ∙ ap (λ ys. row ∷ ys) (others (sym same ∙ none))

unchanged : {R : Type 0} (test : R → Bool) (change : R → R) (rows : List R) → find test rows ≡ None
    → change_row test change rows ≡ rows
unchanged test change [] none = refl
unchanged test change (row ∷ rows) none =
    unchanged_by test change row rows (cases_Bool (test row)) none (λ later. unchanged test change rows later)

-- and one that is changed back is as it was
back_by : {R : Type 0} (test : R → Bool) (change back : R → R) (row : R) (rows : List R)
    → (test row ≡ true) ⊎ (test row ≡ false) → test (change row) ≡ test row
    → ((old : R) → find test (row ∷ rows) ≡ Some old → back (change old) ≡ old)
    → (((old : R) → find test rows ≡ Some old → back (change old) ≡ old)
    → change_row test back (change_row test change rows) ≡ rows)
    → change_row test back (change_row test change (row ∷ rows)) ≡ row ∷ rows
back_by test change back row rows (inl here) kept returns others =
    let found : find test (row ∷ rows) ≡ Some row = rw here refl in
    ap (change_row test back) (change_here test change row rows here)
    ∙ change_here test back (change row) rows (kept ∙ here) ∙ ap (λ one. one ∷ rows) (returns row found)
back_by test change back row rows (inr later) kept returns others =
    let same : find test (row ∷ rows) ≡ find test rows = rw later refl in
    ap (change_row test back) (change_later test change row rows later)
    ∙ change_later test back row (change_row test change rows) later
    ∙ ap (λ ys. row ∷ ys) (others (λ old is. returns old (same ∙ is)))

changed_back : {R : Type 0} (test : R → Bool) (change back : R → R) (rows : List R)
    → ((row : R) → test (change row) ≡ test row)
    → ((old : R) → find test rows ≡ Some old → back (change old) ≡ old)
    → change_row test back (change_row test change rows) ≡ rows
changed_back test change back [] kept returns = refl
changed_back test change back (row ∷ rows) kept returns =
    back_by test change back row rows (cases_Bool (test row)) (kept row) returns
    (λ later. changed_back test change back rows kept later)

stage_back : (s : State) (object : Serial) (stage : Stage) (changes : List Change) (found : Option ObjectRow)
    → object_row s object.0 ≡ found
    → restored (set_stage object stage s) (SetStage object stage ∷ changes) (option_map (λ (row : ObjectRow). row.stage) found) ≡ s
stage_back s object stage changes None none =
    ap (λ (objects : List ObjectRow). record s { objects = objects })
    (unchanged (is_object object.0) (with_stage stage) s.objects none)
stage_back s object stage changes (Some row) is =
    ap (λ (objects : List ObjectRow). record s { objects = objects })
    (changed_back (is_object object.0) (with_stage stage) (with_stage row.stage) s.objects (λ one. refl) (returned row is))
  where
    returned : (row : ObjectRow) → find (is_object object.0) s.objects ≡ Some row → (old : ObjectRow)
        → find (is_object object.0) s.objects ≡ Some old → with_stage row.stage (with_stage stage old) ≡ old
    returned row is old found =
        let same : row ≡ old = cc in
        ap (λ (one : ObjectRow). with_stage one.stage (with_stage stage old)) same

-- so the change of stage can be taken back
pub restored_back : (s : State) (changes : List Change)
    → restored (staged s changes) changes (stage_before s changes) ≡ s
restored_back s [] = refl
restored_back s (SetStage object stage ∷ changes) =
    stage_back s object stage changes (object_row s object.0) refl
restored_back s (change ∷ changes) = refl
