-- The law is the lemma.
use Rattle.gh_schedules.proofs.ItemCalls.{item_is_item}
use Rattle.gh_schedules.proofs.items.items_are_items.Goals as goal

pub returns : goal.returns
returns c = λ conf at given is_cpu steady has. item_is_item conf at given steady is_cpu has
