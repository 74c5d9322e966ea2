-- What stays are the rows that aren't chosen.
use Rattle.std.proofs.Common.{not, rules}
use Rattle.std.proofs.lemmas.Fn.{filter_same}
use Rattle.gh_addrspace.specs.Rows.{is_chosen}
use Rattle.gh_addrspace.specs.declared.mapping.Mapping.{Mapping}
use Rattle.gh_addrspace.proofs.space.remove_chosen.Goals as goal

pub returns : goal.returns
returns c =
    filter_same _ (λ (m : Mapping). not (is_chosen c.args.chosen m)) _ (λ x b q h. search rules) _ _ c.retain.ensures.filtered
