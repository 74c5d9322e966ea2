-- The state is that of the boot file, whose objects have indices that there are.
use Rattle.std.proofs.Common.{◌<◌, ◌≤◌, ◌∙◌, ap, map, subst, sym}
use Rattle.std.specs.List.{range_with_len}
use Rattle.gh_base.specs.declared.limits.TheConstants.{CPUS, OBJECT_INDICES, PARTITIONS}
use Rattle.gh_items.specs.Beginning.{AreAllNoted, ArePlaced, new_seat}
use Rattle.gh_items.proofs.BeginningLemmas.{boot_few, boot_some, boot_within, first_stands}
use Rattle.gh_items.proofs.beginning.begin_run.Goals as goal
use Rattle.gh_model.specs.Boot.{boot_state}
use Rattle.gh_model.specs.declared.state.State.{State}
use Rattle.gh_schedules.specs.Indices.{boot_index}
use Rattle.gh_schedules.specs.Places.{boot_place}

pub boot_places-requires-clause-some : goal.boot_places-requires-clause-some
boot_places-requires-clause-some c =
    subst (λ (s : State). 0 < s.next_serial) (sym (c.state.ensures.state ∙ c.in_ok-plain.ensures)) (boot_some c.args.boot.now c.lines-lines.ensures.fits)

pub boot_places-requires-clause-within : goal.boot_places-requires-clause-within
boot_places-requires-clause-within c serial =
    subst (λ (s : State). boot_index s serial < OBJECT_INDICES) (sym (c.state.ensures.state ∙ c.in_ok-plain.ensures))
    (boot_within c.args.boot.now c.lines-lines.ensures.fits serial)

pub boot_noted-requires-clause-some : goal.boot_noted-requires-clause-some
boot_noted-requires-clause-some c =
    subst (λ (s : State). 0 < s.next_serial) (sym (c.state-2.ensures.state ∙ c.in_ok-plain.ensures)) (boot_some c.args.boot.now c.lines-lines.ensures.fits)

pub boot_noted-requires-clause-within : goal.boot_noted-requires-clause-within
boot_noted-requires-clause-within c serial =
    subst (λ (s : State). boot_place s serial ≤ PARTITIONS) (sym (c.state-2.ensures.state ∙ c.in_ok-plain.ensures))
    (boot_few c.args.boot.now c.lines-lines.ensures.fits serial)

pub returns-clause-stands : goal.returns-clause-stands
returns-clause-stands c =
    first_stands (boot_state c.args.boot.now) _ c.in_ok-plain.ensures c.new.ensures c.new-2.ensures
    (subst (λ (s : State). ArePlaced s.next_serial c.in_ok-places.places (boot_index s)) (c.state.ensures.state ∙ c.in_ok-plain.ensures)
    c.in_ok-places.ensures)
    (subst (λ (s : State). AreAllNoted s.next_serial c.in_ok-noted.noted (boot_place s)) (c.state-2.ensures.state ∙ c.in_ok-plain.ensures)
    c.in_ok-noted.ensures)
    (c.in_ok-seats.ensures
    ∙ ap (λ (s : State). map (new_seat s) (range_with_len 0 CPUS)) (c.state-3.ensures.state ∙ c.in_ok-plain.ensures))
    c.in_ok-calls.ensures
