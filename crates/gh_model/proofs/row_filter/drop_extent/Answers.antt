-- What stays are the rows that don't pass the test.
use Rattle.std.proofs.Common.{rules, not}
use Rattle.std.proofs.lemmas.Fn.{filter_same}
use Rattle.gh_model.specs.declared.rows.ExtentRow.{ExtentRow}
use Rattle.gh_model.specs.Rows.{is_extent}
use Rattle.gh_model.proofs.row_filter.drop_extent.Goals as goal

pub returns : goal.returns
returns c =
    filter_same _ (λ (x : ExtentRow). not (is_extent c.args.object.0 x)) _ (λ x b q h. search rules) _ _ c.keep_rows.ensures
