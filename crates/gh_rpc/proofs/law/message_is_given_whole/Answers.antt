use Rattle.gh_rpc.proofs.StreamLemmas.{message_closed, message_given}
use Rattle.gh_rpc.proofs.law.message_is_given_whole.Goals as goal

pub returns-clause-given : goal.returns-clause-given
returns-clause-given c = message_given

pub returns-clause-closed : goal.returns-clause-closed
returns-clause-closed c = message_closed
