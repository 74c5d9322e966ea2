-- The looks so far and those that are left are all looks.
use Rattle.std.proofs.Common.{◌≡◌, ◌++◌, drop, length, map}
use Rattle.gh_core.specs.Running.{seen_of}
use Rattle.gh_model.specs.Marks.{look_of}
use Rattle.gh_core.proofs.call_events.looks_of.Given as goal

abbrev pub invariant-loop-look : goal.invariant-loop-look
invariant-loop-look l = record {
  count : length l.looks ≡ l.look-index;
  rest : l.looks ++ map look_of (map seen_of (drop l.look-index l.seen)) ≡ map look_of (map seen_of l.seen);
}
