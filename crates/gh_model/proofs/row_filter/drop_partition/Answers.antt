-- What stays are the rows that don't pass the test.
use Rattle.std.proofs.Common.{rules, not}
use Rattle.std.proofs.lemmas.Fn.{filter_same}
use Rattle.gh_model.specs.declared.rows.PartitionRow.{PartitionRow}
use Rattle.gh_model.specs.Rows.{is_partition}
use Rattle.gh_model.proofs.row_filter.drop_partition.Goals as goal

pub returns : goal.returns
returns c =
    filter_same _ (λ (x : PartitionRow). not (is_partition c.args.object.0 x)) _ (λ x b q h. search rules) _ _ c.keep_rows.ensures
