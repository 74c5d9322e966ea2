-- The changes keep the state valid, and counting the entry ends it.
use Rattle.gh_invariant.proofs.EntriesKept.{made_valid}
use Rattle.gh_invariant.proofs.entries.act_keeps_valid.Goals as goal

pub returns : goal.returns
returns c = λ s changes valid may. made_valid s valid changes may
