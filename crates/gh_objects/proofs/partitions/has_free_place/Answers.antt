-- A free place is found exactly where fewer are had than there are.
use Rattle.std.proofs.Common.{ap, ◌∙◌}
use Rattle.std.specs.Prelude.{is_some}
use Rattle.gh_objects.proofs.ListLemmas.{found-few}
use Rattle.gh_objects.proofs.partitions.has_free_place.Goals as goal

pub returns : goal.returns
returns c = c.is_some.ensures ∙ ap is_some c.find_free.ensures.place ∙ found-few _
