-- Pages have gone to the parent alone; fewer of them are left each time.
use Rattle.std.specs.Prelude.{count_by}
use Rattle.gh_model.specs.Memory.{is_serial}
use Rattle.gh_parts.proofs.ReturnLemmas.{Returning}
use Rattle.gh_parts.proofs.returns.return_runs.Given as goal

abbrev pub invariant-loop-first : goal.invariant-loop-first
invariant-loop-first l = Returning l.extent.0 l.parent l.initial.extents l.extents l.initial.shares l.shares

abbrev pub decreases-loop-first : goal.decreases-loop-first
decreases-loop-first l = count_by (is_serial l.extent.0) l.extents.holders
