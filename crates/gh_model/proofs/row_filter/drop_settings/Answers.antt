-- What stays are the rows that don't pass the test.
use Rattle.std.proofs.Common.{rules, not}
use Rattle.std.proofs.lemmas.Fn.{filter_same}
use Rattle.gh_model.specs.declared.rows.SetAtRow.{SetAtRow}
use Rattle.gh_model.specs.Changes.{is_set_in}
use Rattle.gh_model.proofs.row_filter.drop_settings.Goals as goal

pub returns : goal.returns
returns c =
    filter_same _ (λ (x : SetAtRow). not (is_set_in c.args.cspace.0 x)) _ (λ x b q h. search rules) _ _ c.keep_rows.ensures
