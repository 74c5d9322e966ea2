use Rattle.gh_events.proofs.StateKeeps.{file_sound}
use Rattle.gh_events.proofs.entries.boot_file_has_references.Goals as goal

pub returns : goal.returns
returns c = λ lines index fits indices. file_sound lines index fits indices
