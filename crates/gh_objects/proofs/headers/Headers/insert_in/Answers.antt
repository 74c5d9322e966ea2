-- A new partition gets a free place, and any other object none.
use Rattle.std.proofs.Common.{◌≡◌, ◌<◌, false, length, refl, sym, ◌∙◌, arith}
use Rattle.gh_objects.specs.Headers.{header_at, is_partition}
use Rattle.gh_objects.proofs.PartitionsLemmas.{HavePlaces-same, HavePlaces-new}
use Rattle.gh_objects.proofs.headers.Headers.insert_in.Goals as goal
use Rattle.gh_objects.proofs.headers.Headers.insert_in.Goals.{then-is_partition_kind}
use Rattle.gh_objects.proofs.headers.Headers.insert_in.Goals.{else-is_partition_kind}

pub invariant_of-self : goal.invariant_of-self
invariant_of-self c =
    let index = c.first_free-index.result in
    let within : index < length c.self.inside.table = omega (arith, c.first_free-index.ensures.within, c.self.invariant.indices) in
    let vacant : is_partition (header_at c.self.inside.table index) ≡ false = rw c.first_free-index.ensures.free refl in
    elim c.if-is_partition_kind.branch [
      | then-is_partition_kind w ↦
          let place = w.free_place-place.ensures in
          rw (c.set.ensures, w.self-inside-is)
          (HavePlaces-new _ _ c.self.invariant index _ within w.free_place-place.result place.within place.free vacant
          (sym c.is_partition_kind.ensures ∙ w.if-is_partition_kind.true))
      | else-is_partition_kind w ↦
          rw (c.set.ensures, w.self-inside-is)
          (HavePlaces-same _ _ c.self.invariant index _ within (sym c.is_partition_kind.ensures ∙ w.if-is_partition_kind.false ∙ sym vacant))
    ]
