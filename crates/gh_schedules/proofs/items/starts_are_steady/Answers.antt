-- The law is the lemma.
use Rattle.gh_schedules.proofs.BootBlocks.{start_is_steady}
use Rattle.gh_schedules.proofs.items.starts_are_steady.Goals as goal

pub returns : goal.returns
returns c = λ lines fits. start_is_steady lines fits
