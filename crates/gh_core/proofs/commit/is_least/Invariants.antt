-- None of the rows so far stands before the slot.
use Rattle.std.proofs.Common.{◌≡◌, ◌||◌, not, drop}
use Rattle.std.specs.List.{list_all}
use Rattle.gh_model.specs.declared.rows.CapabilityRow.{CapabilityRow}
use Rattle.gh_events.specs.Entries.{is_before, is_least, is_plain_of}
use Rattle.gh_core.proofs.commit.is_least.Given as goal

abbrev pub invariant-loop-row : goal.invariant-loop-row
invariant-loop-row l =
    list_all (λ (row : CapabilityRow). not (is_plain_of l.object.0 row) || is_before l.space.0 l.slot row) (drop l.row-index l.rows)
    ≡ is_least l.present l.object.0 l.space.0 l.slot
