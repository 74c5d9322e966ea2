-- What is left is allowed, and makes of the state what all makes of the boot's.
use Rattle.std.proofs.Common.{◌≡◌, drop, map, true}
use Rattle.gh_core.specs.Running.{all_made, event_of}
use Rattle.gh_model.specs.History.{replay}
use Rattle.gh_core.proofs.log.replayed.Given as goal

abbrev pub invariant-loop-logged : goal.invariant-loop-logged
invariant-loop-logged l = record {
  allowed : all_made l.plain (map event_of (drop l.logged-index l.log)) ≡ true;
  rest : replay l.plain (map event_of (drop l.logged-index l.log))
      ≡ replay l.initial.plain (map event_of l.log);
}
