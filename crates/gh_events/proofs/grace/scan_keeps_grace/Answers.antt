use Rattle.gh_events.proofs.GraceScans.{scan_graced}
use Rattle.gh_events.proofs.grace.scan_keeps_grace.Goals as goal

pub returns : goal.returns
returns c = λ conf cpu of_cpu graced may. scan_graced conf of_cpu.0 graced
