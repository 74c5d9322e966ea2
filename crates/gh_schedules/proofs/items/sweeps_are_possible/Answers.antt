-- The laws are the lemmas.
use Rattle.gh_schedules.proofs.SweepLaw.{sweep_begins, sweep_blocks, sweep_causes, sweep_causes_now, sweep_done}
use Rattle.gh_schedules.proofs.items.sweeps_are_possible.Goals as goal

pub returns-clause-possible : goal.returns-clause-possible
returns-clause-possible c = λ conf at sound is_cpu blocks begins. sweep_done conf at sound is_cpu blocks begins

pub returns-clause-begins : goal.returns-clause-begins
returns-clause-begins c = λ conf at sound is_cpu blocks begins. sweep_begins conf at sound is_cpu blocks begins

pub returns-clause-held : goal.returns-clause-held
returns-clause-held c = λ conf at holder sound is_cpu blocks begins nine turn.
    sweep_causes conf at sound is_cpu blocks begins nine holder turn

pub returns-clause-blocks : goal.returns-clause-blocks
returns-clause-blocks c = λ conf at sound is_cpu blocks begins. sweep_blocks conf at sound is_cpu blocks begins

pub returns-clause-causes : goal.returns-clause-causes
returns-clause-causes c = λ conf at holder sound is_cpu blocks begins nine turn.
    sweep_causes_now conf at sound is_cpu blocks begins nine holder turn
