-- A share has as many address spaces as before.
use Rattle.std.proofs.Common.{◌≡◌, ◌∙◌, ◌++◌, ℕ, List, ap, drop, length, sym, take}
use Rattle.std.proofs.Math.Seq.{take-append_seam}
use Rattle.gh_parts.specs.PageMoves.{Follows}
use Rattle.gh_parts.specs.Shares.{spaces_in}
use Rattle.gh_parts.specs.declared.shares.Place.{Place}
use Rattle.gh_parts.proofs.SpaceCounts.{spaces_stay}
use Rattle.gh_parts.proofs.shares.Share.follow.Goals as goal

pub invariant_of-self : goal.invariant_of-self
invariant_of-self c =
    let new : List Place = c.follow_places.new.places in
    let back : List Place = drop (length new) c.self.inside.places.items in
    let size : c.self.inside.places.len ≡ length new = sym (c.follow_places.ensures.places ∙ c.as_mut_slice.ensures.len) in
    c.self.invariant
    ∙ ap spaces_in (sym c.as_mut_slice.ensures.value)
    ∙ sym (spaces_stay (Follows c.args.from.0 c.args.to c.args.first c.args.count) c.as_mut_slice.result.now new c.follow_places.ensures)
    ∙ ap spaces_in (sym (ap (λ (n : ℕ). take n (new ++ back)) size ∙ take-append_seam new back))
