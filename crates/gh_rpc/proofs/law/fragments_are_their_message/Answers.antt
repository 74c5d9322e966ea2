use Rattle.gh_rpc.proofs.MessageLemmas.{fragments_are_message}
use Rattle.gh_rpc.proofs.law.fragments_are_their_message.Goals as goal

pub returns : goal.returns
returns c = fragments_are_message
