-- Serials that are put into a rising list, and taken out of it.
use Rattle.std.proofs.Common.{◌≡◌, ℕ, ◌+◌, ◌<◌, ◌≤◌, true}
use Rattle.std.proofs.Common.{false, List, [], ◌∷◌, ◌++◌, length, refl, sym}
use Rattle.std.proofs.Common.{ap, ◌∙◌, arith, inl, inr, ◌⊎◌, one-add}
use Rattle.std.specs.List.{insert, remove, Contains}
use Rattle.std.specs.List.Sorted.{IsNonDecreasingBy, IsPartitionPoint}
use Rattle.std.proofs.lemmas.Bool.{cases_lt, lt-ltb, le-ltb, ltb-true, ltb-false}
use Rattle.std.proofs.lemmas.List.Sorted.{IsNonDecreasingBy-insert}
use Rattle.std.proofs.lemmas.List.Sums.{prefix_len-le-length, prefix_len_is}
use Rattle.std.proofs.lemmas.List.Sums.{prefix_len_passes, prefix_len_stops}
use Rattle.gh_base.specs.declared.ids.Serial.{Serial}
use Rattle.gh_objects.specs.Rising.{place_in}
use Rattle.gh_objects.specs.Serials.{number, with_serial, rising, is_above}

-- one serial is less than the other, or it isn't
tells : (serial other : Serial) → (is_above serial other ≡ true × (other.0 < serial.0)) ⊎ (is_above serial other ≡ false × (serial.0 ≤ other.0))
tells serial other =
    elim (cases_lt other.0 serial.0) [
      | inl less ↦ inl (lt-ltb other.0 serial.0 less, less)
      | inr not_less ↦ inr (le-ltb other.0 serial.0 not_less, not_less)
    ]

-- an edit behind the first serial keeps it
insert-next : (first : Serial) (rest : List Serial) (at : ℕ) (serial : Serial) → insert (first ∷ rest) (1 + at) serial ≡ first ∷ insert rest at serial
insert-next first rest at serial = rw (one-add at) refl

remove-next : (first : Serial) (rest : List Serial) (at : ℕ) → remove (first ∷ rest) (1 + at) ≡ first ∷ remove rest at
remove-next first rest at = rw (one-add at) refl

-- to put a serial in is to insert it at its place
pub insert-place_in : (serial : Serial) (serials : List Serial) → insert serials (place_in serial serials) serial ≡ with_serial serial serials
insert-place_in serial [] = refl
insert-place_in serial (first ∷ rest) =
    elim (tells serial first) [
      | inl less ↦ rw less.0 (insert-next first rest (place_in serial rest) serial ∙ ap (λ xs. first ∷ xs) (insert-place_in serial rest))
      | inr other ↦ rw other.0 refl
    ]

-- the place is where a binary search ends
pub place_in-partition_point : (serial : Serial) (serials : List Serial) (at : ℕ) → at ≤ length serials
    → IsPartitionPoint (λ s. is_above serial s ≡ true) (λ s. is_above serial s ≡ false) serials at → place_in serial serials ≡ at
place_in-partition_point serial serials at bound point =
    prefix_len_is (is_above serial) serials at serial bound
    (λ k before. point.0 k serial (omega arith) before)
    (λ within. point.1 at serial (omega arith) within)

-- to remove what stands at the place of a serial that was put in leaves the others
pub remove-place_in : (serial : Serial) (rest : List Serial) → remove (with_serial serial rest) (place_in serial (with_serial serial rest)) ≡ rest
remove-place_in serial [] = rw (le-ltb serial.0 serial.0 (omega arith)) refl
remove-place_in serial (first ∷ rest) =
    elim (tells serial first) [
      | inl less ↦ rw (less.0, less.0) (remove-next first (with_serial serial rest) (place_in serial (with_serial serial rest)) ∙ ap (λ xs. first ∷ xs) (remove-place_in serial rest))
      | inr other ↦ rw (other.0, le-ltb serial.0 serial.0 (omega arith)) refl
    ]

module _ (serial : Serial) (serials : List Serial) where
  -- a serial that the list has stands before its end
  pub place_in-lt-length : Contains serials serial → place_in serial serials < length serials
  place_in-lt-length has =
      elim (cases_lt (place_in serial serials) (length serials)) [
        | inl within ↦ within
        | inr past ↦
            let less = ltb-true _ _ (prefix_len_passes (is_above serial) serials has.0 serial (omega (arith, has.1))) in
            absurd (omega (arith, less, ap number has.2))
      ]

  -- a rising list with one serial more at its place still rises
  pub IsNonDecreasingBy-insert_place : IsNonDecreasingBy number serials → IsNonDecreasingBy number (insert serials (place_in serial serials) serial)
  IsNonDecreasingBy-insert_place up =
      IsNonDecreasingBy-insert number serials (place_in serial serials) serial up (prefix_len-le-length (is_above serial) serials)
      (λ k d before. omega (arith, ltb-true _ _ (prefix_len_passes (is_above serial) serials k d before)))
      (λ k d from within.
      omega (arith, ltb-false _ _ (prefix_len_stops (is_above serial) serials d (omega arith)), up (place_in serial serials) k d from within))

-- serials of one number are one
same_serial : (a b : Serial) → a.0 ≡ b.0 → a ≡ b
same_serial a b same = let of : ℕ → Serial = λ n. record { 0 = n } in ap of same

-- two serials put in, the first less than the second
with_serial-less : (a b : Serial) → a.0 < b.0 → (serials : List Serial) → with_serial a (with_serial b serials) ≡ with_serial b (with_serial a serials)
with_serial-less a b less [] = rw (le-ltb b.0 a.0 (omega arith), lt-ltb a.0 b.0 less) refl
with_serial-less a b less (first ∷ rest) =
    elim (cases_lt first.0 a.0) [
      | inl under_a ↦
          rw (lt-ltb first.0 b.0 (omega arith), lt-ltb first.0 a.0 under_a, lt-ltb first.0 b.0 (omega arith))
          (ap (λ xs. first ∷ xs) (with_serial-less a b less rest))
      | inr from_a ↦
          elim (cases_lt first.0 b.0) [
            | inl under_b ↦ rw (lt-ltb first.0 b.0 under_b, le-ltb first.0 a.0 from_a, lt-ltb a.0 b.0 less, lt-ltb first.0 b.0 under_b) refl
            | inr from_b ↦ rw (le-ltb first.0 b.0 from_b, le-ltb b.0 a.0 (omega arith), le-ltb first.0 a.0 from_a, lt-ltb a.0 b.0 less, le-ltb first.0 b.0 from_b) refl
          ]
    ]

-- the order in which two serials are put in makes no difference
pub with_serial-comm : (a b : Serial) (serials : List Serial) → with_serial a (with_serial b serials) ≡ with_serial b (with_serial a serials)
with_serial-comm a b serials =
    elim (cases_lt a.0 b.0) [
      | inl less ↦ with_serial-less a b less serials
      | inr other ↦
          elim (cases_lt b.0 a.0) [
            | inl greater ↦ sym (with_serial-less b a greater serials)
            | inr same ↦ ap (λ s. with_serial s (with_serial b serials)) (same_serial a b (omega arith)) ∙ ap (λ s. with_serial b (with_serial s serials)) (sym (same_serial a b (omega arith)))
          ]
    ]

-- a serial from the middle can be put in last
pub rising-middle : (front : List Serial) (serial : Serial) (back : List Serial) → rising (front ++ serial ∷ back) ≡ with_serial serial (rising (front ++ back))
rising-middle [] serial back = refl
rising-middle (first ∷ front) serial back =
    ap (with_serial first) (rising-middle front serial back) ∙ with_serial-comm first serial (rising (front ++ back))

pub length-with_serial : (serial : Serial) (serials : List Serial) → length (with_serial serial serials) ≡ length serials + 1
length-with_serial serial [] = refl
length-with_serial serial (first ∷ rest) =
    elim (tells serial first) [
      | inl less ↦ rw less.0 (omega (arith, length-with_serial serial rest))
      | inr other ↦ rw other.0 (omega arith)
    ]

pub length-rising : (serials : List Serial) → length (rising serials) ≡ length serials
length-rising [] = refl
length-rising (serial ∷ rest) = omega (arith, length-with_serial serial (rising rest), length-rising rest)
