-- An object's references and a partition's units at the end of a boot are what its lines give.
use Rattle.std.proofs.Common.{◌≡◌, ◌+◌, ◌<◌, ◌++◌, ℕ, List, [], ◌∷◌, refl, ap, arith, IsTrue}
use Rattle.std.specs.Prelude.{⊤}
use Rattle.gh_model.specs.Boot.{after_line, boot_fits, boot_state, changes_of_line, empty_state}
use Rattle.gh_model.specs.Changes.{changed, changed_all}
use Rattle.gh_model.specs.References.{references}
use Rattle.gh_model.specs.Units.{given_units, used_units}
use Rattle.gh_model.specs.declared.boot_line.BootLine.{BootLine}
use Rattle.gh_model.specs.declared.boot_line.BootLine.TheVariants.{Pages, Partition, Cspace, Addrspace, Doorbell, RootExtent, Extent, Msgqueue, Map, Cap, Vm, Rm, Link}
use Rattle.gh_model.specs.declared.change.Change.{Change}
use Rattle.gh_model.specs.declared.state.State.{State}
use Rattle.gh_invariant.specs.BootChanges.{boot_changes, changes_of_lines}
use Rattle.gh_invariant.specs.Effects.{gained, losses, lost, returns, returns_all, takes_all, times, units_of}
use Rattle.gh_invariant.specs.Premises.{Together}
use Rattle.gh_invariant.proofs.BootValid.{boot_makes, boot_may, empty_valid}
use Rattle.gh_invariant.proofs.ChangesInOrder.{references_all, units_all}

-- no line takes a reference or returns units

record TakesNothing (s : State) (change : Change) : Type 0 where
  references : losses s change ≡ []
  units : returns s change ≡ []

abbrev TakesNone : State → List Change → Type 0
TakesNone s [] = ⊤
TakesNone s (change ∷ changes) =
    Together (TakesNothing s change) (TakesNone (changed s change) changes)

one_takes : (s : State) (change : Change) → TakesNothing s change → TakesNone s (change ∷ [])
one_takes s change none = record { first = none; others = tt }

two_take : (s : State) (first second : Change) → TakesNothing s first
    → TakesNothing (changed s first) second → TakesNone s (first ∷ second ∷ [])
two_take s first second none also = record { first = none; others = record { first = also; others = tt } }

three_take : (s : State) (first second third : Change) → TakesNothing s first
    → TakesNothing (changed s first) second → TakesNothing (changed (changed s first) second) third
    → TakesNone s (first ∷ second ∷ third ∷ [])
three_take s first second third none also last =
    record { first = none; others = record { first = also; others = record { first = last; others = tt } } }

line_takes : (s : State) (line : BootLine) → TakesNone s (changes_of_line s line)
line_takes s (Pages count) = one_takes s _ (record { references = refl; units = refl })
line_takes s (Partition quota) = one_takes s _ (record { references = refl; units = refl })
line_takes s (Cspace partition) = one_takes s _ (record { references = refl; units = refl })
line_takes s (Addrspace partition) = one_takes s _ (record { references = refl; units = refl })
line_takes s (Doorbell partition) = one_takes s _ (record { references = refl; units = refl })
line_takes s (RootExtent partition) =
    two_take s _ _ (record { references = refl; units = refl })
    (record { references = refl; units = refl })
line_takes s (Extent partition parent offset count access held_offset held_count) =
    three_take s _ _ _ (record { references = refl; units = refl })
    (record { references = refl; units = refl }) (record { references = refl; units = refl })
line_takes s (Msgqueue partition depth size) =
    two_take s _ _ (record { references = refl; units = refl })
    (record { references = refl; units = refl })
line_takes s (Map space extent base offset count access) =
    one_takes s _ (record { references = refl; units = refl })
line_takes s (Cap cspace slot object rights master) =
    one_takes s _ (record { references = refl; units = refl })
line_takes s (Vm cspace space) = one_takes s _ (record { references = refl; units = refl })
line_takes s (Rm cspace space partition) =
    two_take s _ _ (record { references = refl; units = refl })
    (record { references = refl; units = refl })
line_takes s (Link vm extent request reply) =
    three_take s _ _ _ (record { references = refl; units = refl })
    (record { references = refl; units = refl }) (record { references = refl; units = refl })

none_append : (s : State) (changes others : List Change) → TakesNone s changes
    → TakesNone (changed_all s changes) others → TakesNone s (changes ++ others)
none_append s [] others none later = later
none_append s (change ∷ changes) others none later =
    record { first = none.first; others = none_append (changed s change) changes others none.others later }

lines_take : (s : State) (lines : List BootLine) → TakesNone s (changes_of_lines s lines)
lines_take s [] = tt
lines_take s (line ∷ lines) =
    none_append s (changes_of_line s line) (changes_of_lines (after_line s line) lines)
    (line_takes s line) (lines_take (after_line s line) lines)

none_lost : (s : State) (changes : List Change) → TakesNone s changes → lost s changes ≡ []
none_lost s [] none = refl
none_lost s (change ∷ changes) none =
    rw none.first.references (none_lost (changed s change) changes none.others)

none_returned : (s : State) (changes : List Change) → TakesNone s changes
    → returns_all s changes ≡ []
none_returned s [] none = refl
none_returned s (change ∷ changes) none =
    rw none.first.units (none_returned (changed s change) changes none.others)

-- an object's references are those that the lines give it
pub boot_refers : (lines : List BootLine) (object : ℕ) → IsTrue (boot_fits lines) → 0 < object
    → references (boot_state lines) object ≡ times object (gained empty_state (boot_changes lines))
boot_refers lines object fit some =
    let made : references (changed_all empty_state (boot_changes lines)) object
    ≡ references (boot_state lines) object =
    ap (λ (s : State). references s object) (boot_makes lines) in
    let none : times object (lost empty_state (boot_changes lines)) ≡ 0 =
    ap (times object)
    (none_lost empty_state (boot_changes lines) (lines_take empty_state lines)) in
    let nothing : references empty_state object ≡ 0 = refl in
    omega (
      arith,
      references_all 1 empty_state (boot_changes lines) object some (omega arith) empty_valid
          (boot_may lines fit),
    )

-- and a partition's units are those that they take from it
pub boot_takes : (lines : List BootLine) (partition : ℕ) → IsTrue (boot_fits lines)
    → used_units (boot_state lines) partition + given_units (boot_state lines) partition
    ≡ units_of partition (takes_all empty_state (boot_changes lines))
boot_takes lines partition fit =
    let used : used_units (changed_all empty_state (boot_changes lines)) partition
    ≡ used_units (boot_state lines) partition =
    ap (λ (s : State). used_units s partition) (boot_makes lines) in
    let given : given_units (changed_all empty_state (boot_changes lines)) partition
    ≡ given_units (boot_state lines) partition =
    ap (λ (s : State). given_units s partition) (boot_makes lines) in
    let none : units_of partition (returns_all empty_state (boot_changes lines)) ≡ 0 =
    ap (units_of partition)
    (none_returned empty_state (boot_changes lines) (lines_take empty_state lines)) in
    let unused : used_units empty_state partition ≡ 0 = refl in
    let ungiven : given_units empty_state partition ≡ 0 = refl in
    omega (
      arith,
      units_all 1 empty_state (boot_changes lines) partition (omega arith) empty_valid
          (boot_may lines fit),
    )
