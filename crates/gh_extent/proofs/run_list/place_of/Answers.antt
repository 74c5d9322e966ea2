-- The partition point is how many runs from the front end by the page.
use Rattle.std.proofs.Common.{rules}
use Rattle.std.proofs.lemmas.List.Sorted.{IsPartitionPoint-from_clause, IsPartitionedBy-leb}
use Rattle.gh_extent.specs.Runs.{ends_by}
use Rattle.gh_extent.proofs.RunLemmas.{IsNonDecreasingBy-ends, place-partition_point}
use Rattle.gh_extent.proofs.run_list.place_of.Goals as goal

pub returns-clause-place : goal.returns-clause-place
returns-clause-place c =
    let page = c.args.page in
    let runs = c.args.runs.now in
    place-partition_point page runs c.partition_point.result (record { end = 0; holder = record { 0 = 0 } })
    c.partition_point.ensures.bound
    (IsPartitionPoint-from_clause (ends_by page) runs c.partition_point.result c.partition_point.ensures.partitioned
    (IsPartitionedBy-leb (λ r. r.end) runs page (IsNonDecreasingBy-ends runs 0 c.requires)) (λ a r f k. search rules))
