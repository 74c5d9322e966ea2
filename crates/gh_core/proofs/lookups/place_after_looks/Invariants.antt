-- What is left goes on from here as all goes on from the begin.
use Rattle.std.proofs.Common.{◌≡◌, drop, map}
use Rattle.gh_core.specs.Running.{seen_of}
use Rattle.gh_model.specs.Marks.{place_after_looks}
use Rattle.gh_core.proofs.lookups.place_after_looks.Given as goal

abbrev pub invariant-loop-look : goal.invariant-loop-look
invariant-loop-look l =
    place_after_looks l.place (map seen_of (drop l.look-index l.seen))
    ≡ place_after_looks l.fn.last (map seen_of l.seen)
