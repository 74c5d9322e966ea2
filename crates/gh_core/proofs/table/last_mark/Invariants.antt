-- What is left goes over the last one so far as all goes over none.
use Rattle.std.proofs.Common.{◌≡◌, drop, fold}
use Rattle.gh_core.specs.Tables.{later_mark}
use Rattle.gh_core.proofs.table.last_mark.Given as goal

abbrev pub invariant-loop-mark : goal.invariant-loop-mark
invariant-loop-mark l =
    fold (later_mark l.at) l.last (drop l.mark-index l.marked) ≡ fold (later_mark l.fn.at) l.initial.last l.marked
