-- The causes that the holder names, where its call ends for want of units, are those of the objects
-- that are held.
use Rattle.std.proofs.Common.{◌≡◌, ◌≢◌, ◌+◌, ◌≤◌, ◌∙◌, ℕ, zero, suc, Bool, true, false, List, [], ◌∷◌, ◌++◌, refl, subst, sym, ap, arith, Option, Some, None, find, is_some, map, option_map, slice_get, if◌then◌else◌}
use Rattle.std.specs.Prelude.{◌&&◌, count_by, flat_map}
use Rattle.std.specs.List.{list_all}
use Rattle.std.proofs.lemmas.Bool.{and_parts}
use Rattle.gh_base.specs.Counters.{is_odd}
use Rattle.gh_base.specs.declared.mark.Held.{Held}
use Rattle.gh_invariant.specs.Valid.{IsValid}
use Rattle.gh_invariant.proofs.Counting.{count_cons}
use Rattle.gh_model.proofs.CpuRows.{Stands, from_filter, stands_later}
use Rattle.gh_model.proofs.RunLists.{no_item}
use Rattle.gh_model.specs.Graced.{retirement}
use Rattle.gh_model.specs.Held.{AreHeld, Holds, held_rows, is_held, serial_of, serial_of_row}
use Rattle.gh_model.specs.QueueCalls.{one_if}
use Rattle.gh_model.specs.Rows.{is_object, object_row}
use Rattle.gh_model.specs.declared.rows.ObjectRow.{ObjectRow}
use Rattle.gh_model.specs.declared.state.State.{State}
use Rattle.gh_events.specs.Config.{Holder}
use Rattle.gh_events.specs.TurnEvents.{as_list, cause, cause_of, causes, first_reader, has_causes, is_scan, pins_of, reading}
use Rattle.gh_events.proofs.Finding.{same_number}

-- a row that stands is found, where one at most passes

counted_by : {R : Type 0} (p : R → Bool) (first : R) (rows : List R) (here : Bool) → p first ≡ here
    → count_by p (first ∷ rows) ≡ one_if here + count_by p rows
counted_by p first rows here is = count_cons p first rows ∙ ap (λ (b : Bool). one_if b + count_by p rows) is

-- a row that passes is counted
stands_counted : {R : Type 0} (p : R → Bool) (rows : List R) (i : ℕ) (row : R)
    → slice_get rows i ≡ Some row → p row ≡ true → 1 ≤ count_by p rows
stands_counted p [] i row is passes = absurd (no_item i row is)
stands_counted p (first ∷ rows) zero row is passes =
    let same : first ≡ row = cc in
    let all : count_by p (first ∷ rows) ≡ one_if true + count_by p rows = counted_by p first rows true (ap p same ∙ passes) in
    let one : one_if true ≡ 1 = refl in
    omega (arith, all, one)
stands_counted p (first ∷ rows) (suc i) row is passes =
    let all : count_by p (first ∷ rows) ≡ one_if (p first) + count_by p rows = counted_by p first rows (p first) refl in
    omega (arith, all, stands_counted p rows i row is passes)

-- and found
pub stands_found : {R : Type 0} (p : R → Bool) (rows : List R) (i : ℕ) (row : R)
    → slice_get rows i ≡ Some row → p row ≡ true → count_by p rows ≤ 1 → find p rows ≡ Some row
stands_found p [] i row is passes once = absurd (no_item i row is)
stands_found p (first ∷ rows) zero row is passes once =
    let same : first ≡ row = cc in rw (ap p same ∙ passes) is
stands_found p (first ∷ rows) (suc i) row is passes once =
    by_first (p first) refl (λ few. stands_found p rows i row is passes few)
  where
    by_first : (here : Bool) → p first ≡ here → (count_by p rows ≤ 1 → find p rows ≡ Some row)
        → find p (first ∷ rows) ≡ Some row
    by_first true here rest =
        let all : count_by p (first ∷ rows) ≡ one_if true + count_by p rows = counted_by p first rows true here in
        let one : one_if true ≡ 1 = refl in
        absurd (omega (arith, all, one, once, stands_counted p rows i row is passes))
    by_first false here rest =
        let all : count_by p (first ∷ rows) ≡ one_if false + count_by p rows = counted_by p first rows false here in
        rw here (rest (let none : one_if false ≡ 0 = refl in omega (arith, all, none, once)))

-- the first CPU that still has its odd counter

record IsReader (from : ℕ) (counters : List ℕ) (reader : ℕ × ℕ) : Type 0 where
  at : ℕ
  counts : reader.0 ≡ from + at
  is : slice_get counters at ≡ Some reader.1
  odd : is_odd reader.1 ≡ true

reader_later : (from counter : ℕ) (counters : List ℕ) (reader : ℕ × ℕ) → IsReader (from + 1) counters reader
    → IsReader from (counter ∷ counters) reader
reader_later from counter counters reader later = record {
  at = suc later.at;
  counts = let counts : reader.0 ≡ from + 1 + later.at = later.counts in omega (arith, counts);
  is = later.is;
  odd = later.odd;
}

reader_by : (from counter : ℕ) (counters : List ℕ) (reader : ℕ × ℕ) (others : Option (ℕ × ℕ)) (odd scan : Bool)
    → is_odd counter ≡ odd → (others ≡ Some reader → IsReader (from + 1) counters reader)
    → (if odd && scan then Some (from, counter) else others) ≡ Some reader
    → IsReader from (counter ∷ counters) reader
reader_by from counter counters reader others true true is rest found =
    let same : (from, counter) ≡ reader = cc in
    subst (λ (one : ℕ × ℕ). IsReader from (counter ∷ counters) one) same
    record { at = 0; counts = omega arith; is = refl; odd = is }
reader_by from counter counters reader others true false is rest found = reader_later from counter counters reader (rest found)
reader_by from counter counters reader others false scan is rest found = reader_later from counter counters reader (rest found)

first_reads : (scans : ℕ → Option ℕ) (from : ℕ) (counters : List ℕ) (reader : ℕ × ℕ)
    → first_reader scans from counters ≡ Some reader → IsReader from counters reader
first_reads scans from [] reader is = absurd (let never : ⊥ = cc in never)
first_reads scans from (counter ∷ counters) reader is =
    reader_by from counter counters reader (first_reader scans (from + 1) counters) (is_odd counter) (is_scan counter (scans from)) refl
    (λ later. first_reads scans (from + 1) counters reader later) is

-- one cause

module _ (holder : Holder) (row : ObjectRow) where
  pins_name : (count : Option ℕ) (one : Held) → option_map (pins_of row) count ≡ Some one
      → serial_of one ≡ row.serial
  pins_name None one is = absurd (let never : ⊥ = cc in never)
  pins_name (Some count) one is = let same : pins_of row count ≡ one = cc in sym (ap serial_of same)

  reading_names : (reader : Option (ℕ × ℕ)) (one : Held) → option_map (reading row) reader ≡ Some one
      → serial_of one ≡ row.serial
  reading_names None one is = absurd (let never : ⊥ = cc in never)
  reading_names (Some reader) one is = let same : reading row reader ≡ one = cc in sym (ap serial_of same)

  -- a cause names its object
  cause_names : (retired : Option (List ℕ)) (one : Held) → cause holder row retired ≡ Some one
      → serial_of one ≡ row.serial
  cause_names None one is = pins_name (holder.failed row.serial.0) one is
  cause_names (Some counters) one is = reading_names (first_reader holder.scans 0 counters) one is

  pins_hold : (saw : (count : ℕ) → holder.failed row.serial.0 ≡ Some count → count ≢ 0) (failed : Option ℕ)
      → holder.failed row.serial.0 ≡ failed → (one : Held) → option_map (pins_of row) failed ≡ Some one
      → Holds None one
  pins_hold saw None found one is = absurd (let never : ⊥ = cc in never)
  pins_hold saw (Some count) found one is =
      let same : pins_of row count ≡ one = cc in subst (Holds None) same (saw count found)

  reading_holds : (counters : List ℕ) (found : Option (ℕ × ℕ)) → first_reader holder.scans 0 counters ≡ found
      → (one : Held) → option_map (reading row) found ≡ Some one → Holds (Some counters) one
  reading_holds counters None found one is = absurd (let never : ⊥ = cc in never)
  reading_holds counters (Some reader) found one is =
      let same : reading row reader ≡ one = cc in
      let reads : IsReader 0 counters reader = first_reads holder.scans 0 counters reader found in
      let there : reads.at ≡ reader.0 = let counts : reader.0 ≡ 0 + reads.at = reads.counts in omega (arith, counts) in
      subst (Holds (Some counters)) same (subst (λ (n : ℕ). slice_get counters n ≡ Some reader.1) there reads.is, reads.odd)

  -- and fits its retirement, where failed kills saw pins
  cause_holds : (saw : (count : ℕ) → holder.failed row.serial.0 ≡ Some count → count ≢ 0)
      (retired : Option (List ℕ)) (one : Held) → cause holder row retired ≡ Some one → Holds retired one
  cause_holds saw None one is = pins_hold saw (holder.failed row.serial.0) refl one is
  cause_holds saw (Some counters) one is =
      reading_holds counters (first_reader holder.scans 0 counters) refl one is

-- all causes

module _ (holder : Holder) where
  abbrev listed : ObjectRow → List Held
  listed row = as_list (cause_of holder row)

  abbrev is_caused : ObjectRow → Bool
  is_caused row = is_some (cause_of holder row)

  names_by : (row : ObjectRow) (found : Option Held) (others : List Held) → cause_of holder row ≡ found
      → is_some found ≡ true → map serial_of (as_list found ++ others) ≡ row.serial ∷ map serial_of others
  names_by row None others is some = absurd (let never : ⊥ = cc in never)
  names_by row (Some one) others is some =
      ap (λ serial. serial ∷ map serial_of others) (cause_names holder row row.retired one is)

  -- where each object has its cause, these name the objects
  all_named : (rows : List ObjectRow) → list_all is_caused rows ≡ true
      → map serial_of (flat_map listed rows) ≡ map serial_of_row rows
  all_named [] all = refl
  all_named (row ∷ rows) all =
      let parts : (is_caused row ≡ true) × (list_all is_caused rows ≡ true) = and_parts _ _ all in
      names_by row (cause_of holder row) (flat_map listed rows) refl parts.0
      ∙ ap (λ serials. row.serial ∷ serials) (all_named rows parts.1)

  -- a cause in the list is that of an object
  record IsOf (rows : List ObjectRow) (one : Held) : Type 0 where
    row : ObjectRow
    stands : Stands rows row
    is : cause_of holder row ≡ Some one

  of_later : (first : ObjectRow) (rows : List ObjectRow) (one : Held) → IsOf rows one → IsOf (first ∷ rows) one
  of_later first rows one of =
      record { row = of.row; stands = stands_later first rows of.row of.stands; is = of.is }

  of_by : (row : ObjectRow) (rows : List ObjectRow) (found : Option Held) (i : ℕ) (one : Held)
      → cause_of holder row ≡ found → slice_get (as_list found ++ flat_map listed rows) i ≡ Some one
      → ((j : ℕ) → slice_get (flat_map listed rows) j ≡ Some one → IsOf rows one) → IsOf (row ∷ rows) one
  of_by row rows None i one is there rest = of_later row rows one (rest i there)
  of_by row rows (Some first) zero one is there rest =
      record { row = row; stands = record { at = 0; is = refl }; is = is ∙ there }
  of_by row rows (Some first) (suc i) one is there rest = of_later row rows one (rest i there)

  cause_is_of : (rows : List ObjectRow) (i : ℕ) (one : Held) → slice_get (flat_map listed rows) i ≡ Some one
      → IsOf rows one
  cause_is_of [] i one there = absurd (no_item i one there)
  cause_is_of (row ∷ rows) i one there =
      of_by row rows (cause_of holder row) i one refl there (λ j later. cause_is_of rows j one later)

  module _ (s : State) (valid : IsValid s)
      (saw : (serial count : ℕ) → holder.failed serial ≡ Some count → count ≢ 0) where
    one_holds : (one : Held) → IsOf (held_rows s) one → Holds (retirement (object_row s (serial_of one).0)) one
    one_holds one of =
        let stands : Stands s.objects of.row = from_filter (is_held s) s.objects of.stands.at of.row of.stands.is in
        let found : object_row s of.row.serial.0 ≡ Some of.row = stands_found (is_object of.row.serial.0) s.objects stands.at of.row stands.is (same_number of.row.serial.0) (valid.objects.once of.row.serial.0) in
        let names : serial_of one ≡ of.row.serial = cause_names holder of.row of.row.retired one of.is in
        let retired : retirement (object_row s (serial_of one).0) ≡ of.row.retired = ap (λ serial. retirement (object_row s serial.0)) names ∙ ap retirement found in
        subst (λ (counters : Option (List ℕ)). Holds counters one) (sym retired)
        (cause_holds holder of.row (λ count failed. saw of.row.serial.0 count failed) of.row.retired one of.is)

    -- the list names each object that is held, with its cause
    pub causes_are_held : has_causes holder s ≡ true → AreHeld s (causes holder s)
    causes_are_held all = record {
      names = all_named (held_rows s) all;
      causes = λ i one there. one_holds one (cause_is_of (held_rows s) i one there);
    }
