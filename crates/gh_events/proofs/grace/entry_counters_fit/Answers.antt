use Rattle.gh_events.proofs.GraceCounters.{counters_fit}
use Rattle.gh_events.proofs.grace.entry_counters_fit.Goals as goal

pub returns : goal.returns
returns c = λ conf cpu entry seen at graced may keeps within. counters_fit conf cpu.0 entry seen at graced may keeps within
