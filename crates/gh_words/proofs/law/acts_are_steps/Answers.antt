-- Each event of the plans is the holder's own.
use Rattle.gh_words.proofs.InterleavedSteps.{acts_are_steps, sweeps_are_steps}
use Rattle.gh_words.proofs.law.acts_are_steps.Goals as goal

pub returns-clause-swept : goal.returns-clause-swept
returns-clause-swept g c words at conf moved = sweeps_are_steps g.W.Words.between at (g.W.Words.shows words) conf moved

pub returns-clause-acted : goal.returns-clause-acted
returns-clause-acted g c words at conf moved = acts_are_steps g.W.Words.between at (g.W.Words.shows words) conf moved
