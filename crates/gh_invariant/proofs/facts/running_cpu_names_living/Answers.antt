-- The law is the lemma.
use Rattle.gh_invariant.proofs.FactLemmas.{spaces_live}
use Rattle.gh_invariant.proofs.facts.running_cpu_names_living.Goals as goal

pub returns : goal.returns
returns c = λ s cpu row valid found running. spaces_live s valid cpu row found running
