-- The law is the lemma.
use Rattle.gh_schedules.proofs.BootBlocks.{given_steady}
use Rattle.gh_schedules.proofs.items.given_call_keeps_steady.Goals as goal

pub returns : goal.returns
returns c = λ conf at number frame steady may. given_steady conf at number frame steady may
