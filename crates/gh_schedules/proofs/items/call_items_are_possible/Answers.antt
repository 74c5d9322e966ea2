-- The laws are the lemma.
use Rattle.gh_schedules.proofs.CallItems.{call_item_done}
use Rattle.gh_schedules.proofs.items.call_items_are_possible.Goals as goal

pub returns-clause-possible : goal.returns-clause-possible
returns-clause-possible c = λ conf at sound is_cpu apart. (call_item_done conf at sound is_cpu apart).done

pub returns-clause-turn : goal.returns-clause-turn
returns-clause-turn c = λ conf at sound is_cpu apart. (call_item_done conf at sound is_cpu apart).behind
