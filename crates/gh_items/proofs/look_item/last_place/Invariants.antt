-- The looks that are left lead from the last place to that of all looks.
use Rattle.std.proofs.Common.{◌≡◌, drop, map}
use Rattle.gh_core.specs.Running.{seen_of}
use Rattle.gh_model.specs.Marks.{place_after_looks}
use Rattle.gh_items.proofs.look_item.last_place.Given as goal

abbrev pub invariant-loop-one : goal.invariant-loop-one
invariant-loop-one l = record {
  rest : place_after_looks l.last (map seen_of (drop l.one-index l.seen)) ≡ place_after_looks l.before (map seen_of l.seen);
}
