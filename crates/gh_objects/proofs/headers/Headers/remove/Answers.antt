-- A partition that goes leaves its place, and any other object has none to leave.
use Rattle.std.proofs.Common.{◌<◌, Bool, ℕ, None, length, refl, sym, ap, ◌∙◌}
use Rattle.gh_objects.specs.Headers.{HeaderTable, header_at, is_partition, place_of}
use Rattle.gh_objects.proofs.ListLemmas.{is_some-within}
use Rattle.gh_objects.proofs.PartitionsLemmas.{HavePlaces-same, HavePlaces-gone}
use Rattle.gh_objects.proofs.PartitionsLemmas.{place_if-Some, place_if-None}
use Rattle.gh_objects.proofs.headers.Headers.remove.Goals as goal
use Rattle.gh_objects.proofs.headers.Headers.remove.Goals.{in-Some, in_default}

pub invariant_of-self : goal.invariant_of-self
invariant_of-self c =
    let headers = c.self.inside.table in
    let partitions = c.self.inside.partitions in
    let index = c.args.object.0 in
    let within : index < length headers = is_some-within headers index (rw (← c.self.view_is) at c.requires) in
    let lives : HeaderTable → Bool = λ s. is_partition (header_at s.headers index) in
    let place : HeaderTable → ℕ = λ s. place_of s.partitions index in
    elim c.match-place.branch [
      | in-Some w ↦
          let home = place_if-Some _ _ _ w.in-Some.ensures.place in
          rw (c.set.ensures, w.self-inside-is, home.1 ∙ ap place (sym c.self.view_is))
          (HavePlaces-gone headers partitions c.self.invariant index None within (ap lives c.self.view_is ∙ home.0) refl)
      | in_default w ↦
          let none = place_if-None _ _ w.in_default.ensures.place in
          rw (c.set.ensures, w.self-inside-is)
          (HavePlaces-same headers partitions c.self.invariant index None within (sym (ap lives c.self.view_is ∙ none)))
    ]
