-- The law is the lemma.
use Rattle.gh_events.proofs.SoundGrants.{reclaim_spares_call}
use Rattle.gh_events.proofs.sound.reclaims_spare_calls.Goals as goal

pub returns : goal.returns
returns c = λ conf cpu serial seen at call sound may is. reclaim_spares_call conf at call sound is cpu.0 serial seen may
