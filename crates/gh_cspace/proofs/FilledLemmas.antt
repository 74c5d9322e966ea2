-- The bits of filled slots follow the words.
use Rattle.std.proofs.Common.{◌≡◌, ◌≢◌, ℕ, ◌-◌, ◌<◌, ◌^◌, List, get_or}
use Rattle.std.proofs.Common.{set, replicate, true, eqb, sym, ap, ◌∙◌, refl, inl, inr}
use Rattle.std.proofs.Common.{arith, eqb-true, lit<, ltb, cond, Bool, false, ◌+◌, Some, None}
use Rattle.std.specs.Int.{bit_at}
use Rattle.std.specs.Bool.{then_some}
use Rattle.std.specs.List.{position_or_len}
use Rattle.std.specs.Option.{option_map}
use Rattle.std.proofs.lemmas.Bool.{cases_eq, cases_lt}
use Rattle.std.proofs.lemmas.List.{get_or-replicate, get_or_past, get_or-set_same}
use Rattle.std.proofs.lemmas.List.{get_or-set_other, length-set, length-replicate}
use Rattle.std.proofs.lemmas.List.Sums.{position_or_len_is}
use Rattle.std.proofs.lemmas.Nat.Bits.{bit_at-zero, bit_at_ones}
use Rattle.gh_base.specs.declared.cap_word.CapWord.{CapWord}
use Rattle.gh_cspace.specs.Cspace.{is_free, never_set, free_slot}
use Rattle.gh_cspace.specs.Filled.{MarksFilled}

-- every word of a new capability space is the one that was never set
unset : (place : ℕ) → get_or (replicate 127 never_set) place never_set ≡ never_set
unset place =
    elim (cases_lt place 127) [
      | inl within ↦ get_or-replicate 127 place never_set never_set within
      | inr past ↦ get_or_past (replicate 127 never_set) place never_set (omega (arith, length-replicate 127 never_set))
    ]

-- no slot is filled before the first entry
pub MarksFilled-new : MarksFilled 0 (replicate 127 never_set)
MarksFilled-new = record {
  slots = length-replicate 127 never_set;
  bits = λ place _. rw (unset place, bit_at-zero place) refl;
}

-- the bits still follow where one place gets a word and its bit
pub MarksFilled-set : (filled bits : ℕ) (words : List CapWord) (place : ℕ) (word : CapWord) → MarksFilled filled words → place < 127
    → is_free word ≡ eqb (bit_at bits place) 0
    → ((other : ℕ) → other < 128 → other ≢ place → bit_at bits other ≡ bit_at filled other)
    → MarksFilled bits (set words place word)
MarksFilled-set filled bits words place word marks slot here others = record {
  slots = length-set words place word ∙ marks.slots;
  bits = λ other within.
      elim (cases_eq other place) [
        | inl same ↦ rw (same, get_or-set_same words place word never_set (omega (arith, marks.slots))) here
        | inr apart ↦ rw (get_or-set_other words place other word never_set apart, others other within apart) (marks.bits other within)
      ];
}

-- the last bit is no slot's, so not all bits are 1
pub MarksFilled-some_clear : (filled : ℕ) (words : List CapWord) → MarksFilled filled words → filled ≢ 2 ^ 128 - 1
MarksFilled-some_clear filled words marks full =
    let past : eqb (bit_at filled 127) 0 ≡ true =
    sym (marks.bits 127 (lit< tt)) ∙ ap is_free (get_or_past words 127 never_set (omega (arith, marks.slots))) in
    omega (arith, eqb-true (bit_at filled 127) 0 past, ap (λ bits. bit_at bits 127) full, bit_at_ones 128 127 (lit< tt))

-- the first place whose bit is 0 is that of the least free slot, and past the slots there is none
pub free_slot-first_free : (filled : ℕ) (words : List CapWord) (first : ℕ) → MarksFilled filled words → first < 128 → bit_at filled first ≡ 0
    → ((place : ℕ) → place < first → bit_at filled place ≡ 1)
    → then_some (ltb first 127) (first + 1) ≡ free_slot words
free_slot-first_free filled words first marks within clear before =
    let place : position_or_len is_free words ≡ first =
    position_or_len_is is_free words first never_set (omega (arith, marks.slots))
    (λ earlier below. marks.bits earlier (omega arith) ∙ ap (λ bit. eqb bit 0) (before earlier below))
    (λ _. marks.bits first within ∙ ap (λ bit. eqb bit 0) clear) in
    rw (place, marks.slots) (then_some-option_map (ltb first 127) first)
  where
    then_some-option_map : (b : Bool) (n : ℕ) → then_some b (n + 1) ≡ option_map (λ place. place + 1) (cond b (Some n) None)
    then_some-option_map true n = refl
    then_some-option_map false n = refl
