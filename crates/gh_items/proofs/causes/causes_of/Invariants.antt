-- The causes so far and those of the rows that are left are all causes.
use Rattle.std.proofs.Common.{◌≡◌, ◌++◌, drop}
use Rattle.std.specs.Prelude.{flat_map}
use Rattle.gh_events.specs.TurnEvents.{as_list}
use Rattle.gh_items.specs.Swept.{cause_now}
use Rattle.gh_items.proofs.causes.causes_of.Given as goal

abbrev pub ghost-cause : goal.ghost-cause
ghost-cause g a = g.conf

abbrev pub invariant-loop-row : goal.invariant-loop-row
invariant-loop-row g l = record {
  rest : l.held ++ flat_map (λ row. as_list (cause_now g.conf row)) (drop l.row-index l.rows)
      ≡ flat_map (λ row. as_list (cause_now g.conf row)) l.rows;
}
