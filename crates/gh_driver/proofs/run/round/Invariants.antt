-- Each CPU's turn begins where those before it led.
use Rattle.gh_driver.specs.Follows.{Follows}
use Rattle.gh_driver.proofs.RoundLemmas.{turns}
use Rattle.gh_driver.proofs.run.round.Given as goal

abbrev pub ghost-call : goal.ghost-call
ghost-call g a = turns g.P.Program.answer g.P.Program.after g.course a.cpu.0

abbrev pub invariant-loop-at : goal.invariant-loop-at
invariant-loop-at g l = record {
  follows : Follows g.P.Program.wants_reply l.run (turns g.P.Program.answer g.P.Program.after g.course l.at);
}
