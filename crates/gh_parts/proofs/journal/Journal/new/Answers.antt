-- Each list is that of nothing.
use Rattle.gh_parts.proofs.StandsBeginning.{journal_is}
use Rattle.gh_parts.proofs.journal.Journal.new.Goals as goal

pub returns : goal.returns
returns c =
    journal_is c.in_ok-new.field-0 c.in_ok-no_retirements.field-0 c.new-2.result c.new-3.result c.new-4.result c.new-5.result c.in_ok-new-2.field-0
    c.in_ok-new.ensures c.in_ok-no_retirements.ensures c.new-2.ensures c.new-3.ensures c.new-4.ensures c.new-5.ensures c.in_ok-new-2.ensures
