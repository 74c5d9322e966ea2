-- What is read as a boot file is one, so that the law of runs holds of it.
use Rattle.gunyah.proofs.LawLemmas.{legal_under}
use Rattle.gunyah.proofs.law.law_of_step.Goals as goal

pub returns : goal.returns
returns g c = λ names. legal_under (g.F.Files.contents c.args.files.now) names
