-- No donation takes a page from the machine.
use Rattle.std.proofs.Common.{◌≤◌, length}
use Rattle.bench_parts.proofs.memory.every_second.Given as goal

abbrev pub invariant-loop-page : goal.invariant-loop-page
invariant-loop-page l = 4096 ≤ length l.extents.holders
