-- What is written so far and what the rest writes make the whole.
use Rattle.std.proofs.Common.{◌≡◌, ◌++◌, drop, string_bytes, filter}
use Rattle.std.specs.List.{flat_map}
use Rattle.gh_model.specs.Text.{units_line, is_partition_row}
use Rattle.gh_driver.proofs.text.put_partitions.Given as goal

abbrev pub invariant-loop-row : goal.invariant-loop-row
invariant-loop-row l = string_bytes l.out ++ flat_map (units_line l.state) (filter is_partition_row (drop l.row-index l.rows)) ≡ string_bytes l.fn.out ++ flat_map (units_line l.state) (filter is_partition_row l.rows)
