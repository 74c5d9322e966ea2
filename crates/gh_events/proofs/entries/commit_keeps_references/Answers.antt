use Rattle.gh_events.proofs.EntryKeeps.{commit_keeps}
use Rattle.gh_events.proofs.entries.commit_keeps_references.Goals as goal

pub returns : goal.returns
returns c = λ conf cpu entry sound state spares may. commit_keeps conf cpu.0 entry sound state spares may
