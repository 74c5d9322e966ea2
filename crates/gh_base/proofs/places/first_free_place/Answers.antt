-- The bits that are 1 from the lowest up end at the first 0.
use Rattle.std.specs.Int.{w128, bit_at, trailing_ones}
use Rattle.std.proofs.Common.{arith, ◌≡◌, ◌<◌, ◌≢◌, ◌-◌, ◌^◌, ℕ}
use Rattle.std.proofs.lemmas.Nat.Bits.{bit_at-trailing_ones}
use Rattle.gh_base.proofs.places.first_free_place.Goals as goal

first_clear : (bits first : ℕ) → first ≡ trailing_ones w128 bits → bits ≢ 2 ^ 128 - 1 → bits < 2 ^ 128
    → (first < 128) × (bit_at bits first ≡ 0) × ((place : ℕ) → place < first → bit_at bits place ≡ 1)
first_clear bits first is some fits = rw is (bit_at-trailing_ones w128 bits (omega arith))

pub returns : goal.returns
returns c =
    let first = first_clear _ _ c.trailing_ones.ensures c.requires c.ranges.bits.fits in
    record { within = first.0; free = first.1; taken_before = first.2 }
