use Rattle.gh_rpc.proofs.OpenLemmas.{begins_anew}
use Rattle.gh_rpc.proofs.law.fault_begins_anew.Goals as goal

pub returns : goal.returns
returns c = begins_anew
