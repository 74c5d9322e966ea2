use Rattle.gh_rcu.proofs.GraceLemmas.{waited_is_reading}
use Rattle.gh_rcu.proofs.law.grace_law.Goals as goal

pub returns-clause-reading : goal.returns-clause-reading
returns-clause-reading c = waited_is_reading c.args.seen c.args.now
