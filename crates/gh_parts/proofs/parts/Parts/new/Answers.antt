-- The parts of nothing stand for the state of nothing.
use Rattle.gh_parts.proofs.StandsBeginning.{parts_stand}
use Rattle.gh_parts.proofs.parts.Parts.new.Goals as goal

pub returns : goal.returns
returns c =
    parts_stand c.in_ok-new.field-0 c.in_ok-new-2.field-0 c.in_ok-new-3.field-0 c.in_ok-new.ensures c.in_ok-new-2.ensures
    c.in_ok-new-3.ensures
