-- What stays are the rows that don't pass the test.
use Rattle.std.proofs.Common.{rules, not}
use Rattle.std.proofs.lemmas.Fn.{filter_same}
use Rattle.gh_model.specs.declared.rows.MappingRow.{MappingRow}
use Rattle.gh_model.specs.Changes.{is_mapping}
use Rattle.gh_model.proofs.row_filter.unmap_row.Goals as goal

pub returns : goal.returns
returns c =
    filter_same _ (λ (x : MappingRow). not (is_mapping c.args.row.space.0 c.args.row.extent.0 c.args.row.base c.args.row.offset c.args.row.count x)) _ (λ x b q h. search rules) _ _ c.keep_rows.ensures
