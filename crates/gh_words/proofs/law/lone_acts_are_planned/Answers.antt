-- Nothing comes between.
use Rattle.gh_words.proofs.InterleavedAlone.{acts_alone, sweeps_alone}
use Rattle.gh_words.proofs.law.lone_acts_are_planned.Goals as goal

pub returns-clause-swept : goal.returns-clause-swept
returns-clause-swept g c words at conf only moved = (sweeps_alone g.W.Words.between only at (g.W.Words.shows words) conf moved).behind

pub returns-clause-possible : goal.returns-clause-possible
returns-clause-possible g c words at conf only moved = (sweeps_alone g.W.Words.between only at (g.W.Words.shows words) conf moved).done

pub returns-clause-acted : goal.returns-clause-acted
returns-clause-acted g c words at conf only moved = (acts_alone g.W.Words.between only at (g.W.Words.shows words) conf moved).behind

pub returns-clause-done : goal.returns-clause-done
returns-clause-done g c words at conf only moved = (acts_alone g.W.Words.between only at (g.W.Words.shows words) conf moved).done
