use Rattle.gh_rpc.proofs.OpenLemmas.{open_exactly}
use Rattle.gh_rpc.proofs.law.open_message_is_unfinished.Goals as goal

pub returns : goal.returns
returns c = open_exactly
