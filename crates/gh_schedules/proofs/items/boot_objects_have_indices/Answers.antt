-- The law is the lemma.
use Rattle.gh_schedules.proofs.Ranks.{boot_indices}
use Rattle.gh_schedules.proofs.items.boot_objects_have_indices.Goals as goal

pub returns : goal.returns
returns c = λ lines fits. boot_indices lines fits
