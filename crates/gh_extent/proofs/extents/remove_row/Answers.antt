-- What stays are the rows of other extents.
use Rattle.std.proofs.Common.{rules}
use Rattle.std.proofs.lemmas.Fn.{filter_same}
use Rattle.gh_extent.specs.Extents.{is_other}
use Rattle.gh_model.specs.declared.rows.ExtentRow.{ExtentRow}
use Rattle.gh_extent.proofs.extents.remove_row.Goals as goal

pub returns : goal.returns
returns c =
    filter_same _ (λ (x : ExtentRow). is_other c.args.extent.0 x) _ (λ x b q h. search rules) _ _ c.retain.ensures.filtered
