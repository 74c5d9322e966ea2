-- The last so far and those that are left have the last one of all.
use Rattle.std.proofs.Common.{◌≡◌, drop, map, None, option_map}
use Rattle.std.specs.List.{last_or}
use Rattle.gh_core.specs.Running.{seen_of}
use Rattle.gh_core.proofs.call_events.last_look.Given as goal

abbrev pub invariant-loop-look : goal.invariant-loop-look
invariant-loop-look l =
    last_or (option_map seen_of l.last) (map seen_of (drop l.look-index l.seen)) ≡ last_or None (map seen_of l.seen)
