-- The words as a map from capability numbers. These lemmas are for callers.
use Rattle.std.proofs.Common.{◌≡◌, ◌≢◌, ℕ, ◌-◌, List}
use Rattle.std.proofs.Common.{length, eqb, cond, ap, refl, inl, inr, arith}
use Rattle.std.proofs.lemmas.Bool.{cases_eq, ne_eqb}
use Rattle.std.proofs.lemmas.List.{get_or-set_same, get_or-set_other}
use Rattle.gh_base.specs.declared.cap_word.CapWord.{CapWord}
use Rattle.gh_base.specs.declared.limits.TheConstants.{CSPACE_SLOTS}
use Rattle.gh_cspace.specs.Cspace.{IsSlot, word_at, with_word, never_set}

module _ (words : List CapWord) (slot : ℕ) (word : CapWord) (within : IsSlot slot) where
  -- a slot that is set has its word
  pub word_at-with_word_same : length words ≡ CSPACE_SLOTS → word_at (with_word words slot word) slot ≡ word
  word_at-with_word_same slots =
      rw (ne_eqb slot 0 (omega arith)) (get_or-set_same words (slot - 1) word never_set (omega arith))

  -- every other number keeps its word
  pub word_at-with_word_other : (other : ℕ) → other ≢ slot → word_at (with_word words slot word) other ≡ word_at words other
  word_at-with_word_other other apart =
      elim (cases_eq other 0) [
        | inl none ↦ rw none refl
        | inr some ↦ ap (cond (eqb other 0) never_set) (get_or-set_other words (slot - 1) (other - 1) word never_set (omega arith))
      ]
