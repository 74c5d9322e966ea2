use Rattle.gh_rpc.proofs.OpenLemmas.{gives_exactly}
use Rattle.gh_rpc.proofs.law.stream_gives_its_messages.Goals as goal

pub returns : goal.returns
returns c = gives_exactly
