-- The laws are the lemma.
use Rattle.gh_schedules.proofs.ActItems.{act_leads}
use Rattle.gh_schedules.proofs.ItemsLaw.{act_between}
use Rattle.gh_schedules.proofs.items.acts_are_possible.Goals as goal
use Rattle.gh_schedules.specs.Items.{act}
use Rattle.gh_schedules.specs.Trace.{after_all}

pub returns-clause-possible : goal.returns-clause-possible
returns-clause-possible c = λ conf at call steady is_cpu is.
    (act_leads conf at steady.sound steady.nine is_cpu steady.free call is steady.blocks).done

pub returns-clause-between : goal.returns-clause-between
returns-clause-between c = λ conf at call steady is_cpu is.
    act_between (after_all conf (act at conf)) at (act_leads conf at steady.sound steady.nine is_cpu steady.free call is steady.blocks).behind

pub returns-clause-free : goal.returns-clause-free
returns-clause-free c = λ conf at call steady is_cpu is.
    (act_leads conf at steady.sound steady.nine is_cpu steady.free call is steady.blocks).behind.0.turn_is
