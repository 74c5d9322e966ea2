-- The laws are the lemma.
use Rattle.gh_schedules.proofs.ItemsLaw.{item_leads, item_steady}
use Rattle.gh_schedules.proofs.OwnEvents.{item_leaves}
use Rattle.gh_schedules.proofs.items.items_are_possible.Goals as goal

pub returns-clause-possible : goal.returns-clause-possible
returns-clause-possible c = λ conf at steady is_cpu. (item_leads conf at steady.sound steady.nine is_cpu steady.free steady.blocks).done

pub returns-clause-steady : goal.returns-clause-steady
returns-clause-steady c = λ conf at steady is_cpu. item_steady conf at steady.sound steady.nine is_cpu steady.free steady.blocks

pub returns-clause-others : goal.returns-clause-others
returns-clause-others c = λ conf at cpu apart. item_leaves conf at cpu apart
