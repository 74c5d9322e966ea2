-- A place is found exactly for a live partition.
use Rattle.std.proofs.Common.{ap, ◌∙◌}
use Rattle.gh_objects.specs.Headers.{HeaderTable, header_at, is_partition, place_of}
use Rattle.gh_objects.specs.Partitions.{place_if}
use Rattle.gh_objects.proofs.PartitionsLemmas.{position-place_if}
use Rattle.gh_objects.proofs.headers.Headers.place.Goals as goal

pub returns-clause-place : goal.returns-clause-place
returns-clause-place c =
    c.place_of.ensures
    ∙ position-place_if _ _ c.self.invariant c.args.partition.0
    ∙ ap (λ (s : HeaderTable). place_if (is_partition (header_at s.headers c.args.partition.0)) (place_of s.partitions c.args.partition.0)) c.self.view_is
