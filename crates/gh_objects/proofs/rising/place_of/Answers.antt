-- The partition point is how many serials from the front are less.
use Rattle.std.proofs.Common.{sym, arith, rules}
use Rattle.std.proofs.lemmas.List.Sorted.{IsPartitionPoint-from_clause, IsPartitionedBy-ltb}
use Rattle.gh_objects.specs.Serials.{number, is_above}
use Rattle.gh_objects.proofs.RisingLemmas.{place_in-lt-length, place_in-partition_point}
use Rattle.gh_objects.proofs.rising.place_of.Goals as goal

pub returns : goal.returns
returns c =
    let place =
    place_in-partition_point c.args.serial c.args.serials.now c.partition_point.result c.partition_point.ensures.bound
    (IsPartitionPoint-from_clause (is_above c.args.serial) c.args.serials.now c.partition_point.result c.partition_point.ensures.partitioned
    (IsPartitionedBy-ltb number c.args.serials.now c.args.serial.0 c.requires) (λ a r f k. search rules)) in
    record {
      place = sym place;
      within = c.partition_point.ensures.bound;
      there = λ has. omega (arith, place, place_in-lt-length c.args.serial c.args.serials.now has);
    }
