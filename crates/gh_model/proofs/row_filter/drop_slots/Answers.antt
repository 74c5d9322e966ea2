-- What stays are the rows that don't pass the test.
use Rattle.std.proofs.Common.{rules, not}
use Rattle.std.proofs.lemmas.Fn.{filter_same}
use Rattle.gh_model.specs.declared.rows.CapabilityRow.{CapabilityRow}
use Rattle.gh_model.specs.Changes.{is_in_cspace}
use Rattle.gh_model.proofs.row_filter.drop_slots.Goals as goal

pub returns : goal.returns
returns c =
    filter_same _ (λ (x : CapabilityRow). not (is_in_cspace c.args.cspace.0 x)) _ (λ x b q h. search rules) _ _ c.keep_rows.ensures
