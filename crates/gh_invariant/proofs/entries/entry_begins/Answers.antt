-- Settings up to an entry are up to the next.
use Rattle.gh_invariant.proofs.EntriesKept.{begins}
use Rattle.gh_invariant.proofs.entries.entry_begins.Goals as goal

pub returns : goal.returns
returns c = λ s valid. begins s valid
