-- As many slots are left as times.
use Rattle.std.proofs.Common.{◌≡◌, ◌+◌, length}
use Rattle.gh_model.proofs.act.forget.Given as goal

abbrev pub invariant-loop-done : goal.invariant-loop-done
invariant-loop-done l = length l.taken + l.done ≡ length l.initial.taken
