use Rattle.gh_events.proofs.EntryKeeps.{set_cap_keeps}
use Rattle.gh_events.proofs.entries.set_cap_keeps_references.Goals as goal

pub returns : goal.returns
returns c = λ conf cpu entry space slot word sound state may. set_cap_keeps conf cpu.0 entry space.0 slot word sound state may
