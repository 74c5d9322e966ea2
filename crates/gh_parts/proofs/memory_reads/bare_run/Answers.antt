-- A run within the pages is serial 0's, and no other run is one of the machine's.
use Rattle.std.proofs.Common.{◌∙◌, arith}
use Rattle.gh_parts.proofs.BareLemmas.{bare_told}
use Rattle.gh_parts.proofs.memory_reads.bare_run.Goals as goal

pub returns : goal.returns
returns c =
    c.holds_bare.ensures
    ∙ bare_told c.args.pages c.args.extent.0 c.args.first c.args.count
    (omega (arith, c.if-first-pages.false, c.if-count-pages.false))
