-- Changes in order keep and move what each of them keeps and moves.
use Rattle.std.proofs.Common.{◌≡◌, ◌+◌, ◌<◌, ◌≤◌, ◌∙◌, ℕ, List, [], ◌∷◌, refl, subst, sym, arith}
use Rattle.std.proofs.lemmas.List.Sums.{sum_by-append}
use Rattle.gh_model.specs.Changes.{changed, changed_all}
use Rattle.gh_model.specs.References.{references}
use Rattle.gh_model.specs.Units.{used_units, given_units}
use Rattle.gh_model.specs.declared.change.Change.{Change}
use Rattle.gh_model.specs.declared.state.State.{State}
use Rattle.gh_model.proofs.RoomLemmas.{change_counts}
use Rattle.gh_invariant.specs.Effects.{is_that, times, gains, losses, gained, lost, share_for, units_of, takes, returns, takes_all, returns_all}
use Rattle.gh_invariant.specs.Premises.{MayChangeAll}
use Rattle.gh_invariant.specs.Valid.{IsValidTo}
use Rattle.gh_invariant.proofs.Counting.{count_append}
use Rattle.gh_invariant.proofs.ReferencesLaw.{moves}
use Rattle.gh_invariant.proofs.UnitsOfChange.{units_moved}
use Rattle.gh_invariant.proofs.ValidKept.{valid_kept}

-- no change counts an entry
room_stays : (last : ℕ) (s : State) (change : Change) → s.entries + 1 ≤ last
    → (changed s change).entries + 1 ≤ last
room_stays last s change room = subst (λ (n : ℕ). n + 1 ≤ last) (sym (change_counts s change).entries) room

-- a valid state stays so
pub valid_all : (last : ℕ) (s : State) (changes : List Change) → s.entries + 1 ≤ last
    → IsValidTo last s → MayChangeAll s changes → IsValidTo last (changed_all s changes)
valid_all last s [] room valid may = valid
valid_all last s (change ∷ changes) room valid may =
    valid_all last (changed s change) changes (room_stays last s change room) (valid_kept last s change room valid may.first) may.others

-- references move by what all of them give and take
pub references_all : (last : ℕ) (s : State) (changes : List Change) (object : ℕ) → 0 < object
    → s.entries + 1 ≤ last → IsValidTo last s → MayChangeAll s changes
    → references (changed_all s changes) object + times object (lost s changes)
    ≡ references s object + times object (gained s changes)
references_all last s [] object some room valid may = refl
references_all last s (change ∷ changes) object some room valid may =
    let others : references (changed_all (changed s change) changes) object + times object (lost (changed s change) changes)
    ≡ references (changed s change) object + times object (gained (changed s change) changes) =
    references_all last (changed s change) changes object some (room_stays last s change room) (valid_kept last s change room valid may.first) may.others in
    omega (
      arith,
      others,
      moves last s valid object change some may.first,
      count_append (is_that object) (losses s change) (lost (changed s change) changes),
      count_append (is_that object) (gains s change) (gained (changed s change) changes),
    )

-- and so do units
pub units_all : (last : ℕ) (s : State) (changes : List Change) (partition : ℕ)
    → s.entries + 1 ≤ last → IsValidTo last s → MayChangeAll s changes
    → used_units (changed_all s changes) partition + given_units (changed_all s changes) partition + units_of partition (returns_all s changes)
    ≡ used_units s partition + given_units s partition + units_of partition (takes_all s changes)
units_all last s [] partition room valid may = refl
units_all last s (change ∷ changes) partition room valid may =
    let others : used_units (changed_all (changed s change) changes) partition
    + given_units (changed_all (changed s change) changes) partition
    + units_of partition (returns_all (changed s change) changes)
    ≡ used_units (changed s change) partition + given_units (changed s change) partition
    + units_of partition (takes_all (changed s change) changes) =
    units_all last (changed s change) changes partition (room_stays last s change room) (valid_kept last s change room valid may.first) may.others in
    omega (
      arith,
      others,
      units_moved last s change partition valid,
      sum_by-append (share_for partition) (returns s change) (returns_all (changed s change) changes),
      sum_by-append (share_for partition) (takes s change) (takes_all (changed s change) changes),
    )
