use Rattle.gh_callfile.proofs.CpuLemmas.{cpus_have_rows}
use Rattle.gh_callfile.proofs.law.cpus_have_rows.Goals as goal

pub returns : goal.returns
returns c = λ cpu. cpus_have_rows c.args.boot.now cpu
