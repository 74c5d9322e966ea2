-- No bit is set where no word is.
use Rattle.gh_cspace.proofs.FilledLemmas.{MarksFilled-new}
use Rattle.gh_cspace.proofs.cspace.Cspace.new.Goals as goal

pub invariant_of-result : goal.invariant_of-result
invariant_of-result c = MarksFilled-new
