-- The partition point is how many names from the front are less.
use Rattle.std.proofs.Common.{sym, rules, ltb}
use Rattle.std.proofs.lemmas.List.Sorted.{IsPartitionPoint-from_clause, IsPartitionedBy-ltb}
use Rattle.gh_objects.specs.Names.{itself}
use Rattle.gh_objects.proofs.NamesLemmas.{place_in-partition_point}
use Rattle.gh_objects.proofs.names.place_of.Goals as goal

pub returns-clause-place : goal.returns-clause-place
returns-clause-place c =
    sym (place_in-partition_point c.args.name c.args.names.now c.partition_point.result c.partition_point.ensures.bound
    (IsPartitionPoint-from_clause (λ n. ltb n c.args.name) c.args.names.now c.partition_point.result c.partition_point.ensures.partitioned
    (IsPartitionedBy-ltb itself c.args.names.now c.args.name c.requires) (λ a r f k. search rules)))
