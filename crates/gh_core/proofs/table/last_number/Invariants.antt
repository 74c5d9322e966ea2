-- What is left goes over the last one so far as all goes over none.
use Rattle.std.proofs.Common.{◌≡◌, drop, fold}
use Rattle.gh_core.specs.Tables.{later_number}
use Rattle.gh_core.proofs.table.last_number.Given as goal

abbrev pub invariant-loop-number : goal.invariant-loop-number
invariant-loop-number l =
    fold (later_number l.at) l.last (drop l.number-index l.written) ≡ fold (later_number l.fn.at) l.initial.last l.written
