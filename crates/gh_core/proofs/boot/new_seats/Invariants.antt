-- So many seats so far.
use Rattle.std.proofs.Common.{◌≡◌, map, replicate}
use Rattle.gh_core.specs.Running.{cpu_of}
use Rattle.gh_events.specs.Start.{new_cpu}
use Rattle.gh_core.proofs.boot.new_seats.Given as goal

abbrev pub invariant-loop-done : goal.invariant-loop-done
invariant-loop-done l = map cpu_of l.seats ≡ replicate l.done new_cpu
