-- How a capability space lies: the words, and a bit for each of them that says whether it fills its
-- slot. No public clause cites this module.
use Rattle.std.specs.Prelude.{◌≡◌, ◌==◌, ℕ, ◌<◌, List, length, slice_index_or}
use Rattle.std.specs.Int.{bit_at}
use Rattle.gh_base.specs.declared.cap_word.CapWord.{CapWord}
use Rattle.gh_base.specs.declared.limits.TheConstants.{CSPACE_SLOTS}
use Rattle.gh_cspace.specs.Cspace.{is_free, never_set}

-- there is a word for each slot, and a word is free exactly where the bit of its place is 0; past
-- the words the bits are 0
pub record MarksFilled (filled : ℕ) (words : List CapWord) : Type 0 where
  pub slots : length words ≡ CSPACE_SLOTS
  pub bits : (place : ℕ) → place < 128
      → is_free (slice_index_or words place never_set) ≡ (bit_at filled place == 0)
