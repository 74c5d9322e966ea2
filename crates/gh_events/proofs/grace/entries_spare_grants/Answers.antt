use Rattle.gh_events.proofs.GraceSpares.{entry_spares}
use Rattle.gh_events.proofs.grace.entries_spare_grants.Goals as goal

pub returns : goal.returns
returns c = λ conf cpu entry graced may. entry_spares conf cpu.0 entry graced may
