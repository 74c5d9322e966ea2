-- The counts list the serials of doomed and of retired objects as the rows do.
use Rattle.std.proofs.Common.{◌≡◌, ◌∙◌, ◌==◌, ◌+◌, ℕ, Bool, true, false, not, [], refl, sym, ap}
use Rattle.std.proofs.Common.{arith, IsTrue, Option, Some, None, find, is_some, if◌then◌else◌}
use Rattle.std.specs.Prelude.{◌&&◌}
use Rattle.std.specs.Option.{option_map}
use Rattle.gh_base.specs.declared.ids.Serial.{Serial}
use Rattle.gh_events.specs.Rising.{rises, serials_of}
use Rattle.gh_invariant.proofs.Counting.{count_found, found_passes}
use Rattle.gh_invariant.specs.Effects.{is_that, times}
use Rattle.gh_invariant.specs.Valid.{IsValidWithin}
use Rattle.gh_model.specs.QueueCalls.{one_if}
use Rattle.gh_model.specs.References.{references}
use Rattle.gh_model.specs.Rows.{is_object}
use Rattle.gh_model.specs.declared.rows.ObjectRow.{ObjectRow}
use Rattle.gh_model.specs.declared.state.State.{State}
use Rattle.gh_objects.specs.Counts.{count_at, doomed, doomed_serial, retired, retired_serial}
use Rattle.gh_objects.specs.Headers.{header_at}
use Rattle.gh_objects.specs.declared.count.Count.{Count}
use Rattle.gh_objects.specs.declared.header.Header.{Header}
use Rattle.gh_schedules.specs.Sweep.{doomed_objects, is_doomed_row, is_retired_row, retired_objects}
use Rattle.gh_parts.specs.Index.{index_of}
use Rattle.gh_parts.specs.Stands.{Stands, count_of}
use Rattle.gh_parts.specs.declared.parts.Parts.{Parts}
use Rattle.gh_parts.proofs.ListedObjects.{AreListedBy, is_told, listed_by}
use Rattle.gh_parts.proofs.Options.{some_same}
use Rattle.std.proofs.lemmas.Bool.{eqb-true}

module _ (parts : Parts) (s : State) (stand : Stands parts s) where
  abbrev index : ℕ → ℕ
  index serial = index_of parts.table.headers serial

  -- a count stands at the index of its serial
  counted_by : (at : ℕ) (count : Count) (found : Option ObjectRow) (serial : ℕ)
      → find (is_object serial) s.objects ≡ found → Some count ≡ option_map (count_of s []) found
      → count.serial.0 ≡ serial
  counted_by at count None serial is none = absurd (let never : ⊥ = cc in never)
  counted_by at count (Some row) serial is same =
      let one : count ≡ count_of s [] row = some_same count (count_of s [] row) same in
      ap (λ (c : Count). c.serial.0) one ∙ eqb-true row.serial.0 serial (found_passes (is_object serial) s.objects row is)

  headed_by : (at : ℕ) (count : Count) (header : Option Header) → header_at parts.table.headers at ≡ header
      → count_at parts.journal.counts at ≡ Some count → at ≡ index count.serial.0
  headed_by at count None bare is =
      let none : count_at parts.journal.counts at ≡ None = stand.references.bare at bare in
      absurd (let never : ⊥ = cc in never)
  headed_by at count (Some header) is_header is =
      let here : index header.serial.0 ≡ at = stand.objects.indexed.alone at header is_header in
      let row : Some count ≡ option_map (count_of s []) (find (is_object header.serial.0) s.objects) =
      sym is ∙ ap (count_at parts.journal.counts) (sym here) ∙ stand.references.each header.serial.0 in
      let named : count.serial.0 ≡ header.serial.0 =
      counted_by at count (find (is_object header.serial.0) s.objects) header.serial.0 refl row in
      sym here ∙ ap index (sym named)

  -- what is told by a test of counts
  module _ (valid : IsValidWithin s) (rising : IsTrue (rises (serials_of s.objects))) (told : Option Count → Option Serial)
      (test : Count → Bool) (q : ObjectRow → Bool) (none : told None ≡ None)
      (some : (count : Count) → told (Some count) ≡ (if test count then Some count.serial else None))
      (same : (row : ObjectRow) → test (count_of s [] row) ≡ q row) where
    told_serial : (b : Bool) (serial other : Serial) → (if b then Some serial else None) ≡ Some other → serial ≡ other
    told_serial true serial other is = some_same serial other is
    told_serial false serial other is = absurd (let never : ⊥ = cc in never)

    own_by : (at : ℕ) (serial : Serial) (count : Option Count) → count_at parts.journal.counts at ≡ count
        → told count ≡ Some serial → at ≡ index serial.0
    own_by at serial None is tells = absurd (let never : ⊥ = cc in never)
    own_by at serial (Some count) is tells =
        let named : count.serial ≡ serial = told_serial (test count) count.serial serial (sym (some count) ∙ tells) in
        headed_by at count (header_at parts.table.headers at) refl is ∙ ap (λ (one : Serial). index one.0) named

    tells_by : (b : Bool) (x : ℕ) (serial : Serial) → is_that x serial ≡ true
        → one_if (is_told x (if b then Some serial else None)) ≡ one_if b
    tells_by true x serial is = ap one_if is
    tells_by false x serial is = refl

    each_by : (x : ℕ) (found : Option ObjectRow) → find (is_object x) s.objects ≡ found
        → one_if (is_told x (told (option_map (count_of s []) found))) ≡ count_found q found
    each_by x None is = ap (λ (o : Option Serial). one_if (is_told x o)) none
    each_by x (Some row) is =
        ap (λ (o : Option Serial). one_if (is_told x o)) (some (count_of s [] row))
        ∙ tells_by (test (count_of s [] row)) x row.serial (found_passes (is_object x) s.objects row is)
        ∙ ap one_if (same row)

    listed : AreListedBy told q parts.journal.counts s.objects index
    listed = record {
      none = none;
      own = λ at serial tells. own_by at serial (count_at parts.journal.counts at) refl tells;
      each = λ x.
          ap (λ (count : Option Count). one_if (is_told x (told count))) (stand.references.each x)
          ∙ each_by x (find (is_object x) s.objects) refl;
      once = valid.objects.once;
      rising = rising;
    }

  none_owed : (row : ObjectRow) → (references s row.serial.0 + times row.serial.0 [] == 0) ≡ (references s row.serial.0 == 0)
  none_owed row =
      let none : times row.serial.0 [] ≡ 0 = refl in
      ap (λ (n : ℕ). n == 0) (omega (arith, none))

  pub doomed_told : IsValidWithin s → IsTrue (rises (serials_of s.objects)) → doomed parts.journal.counts ≡ doomed_objects s
  doomed_told valid rising =
      let test : Count → Bool = λ count. (count.references == 0) && not count.retired in
      listed_by doomed_serial (is_doomed_row s) parts.journal.counts s.objects index
      (listed valid rising doomed_serial test (is_doomed_row s) refl (λ count. refl)
      (λ row. ap (λ (b : Bool). b && not (is_some row.retired)) (none_owed row)))

  pub retired_told : IsValidWithin s → IsTrue (rises (serials_of s.objects)) → retired parts.journal.counts ≡ retired_objects s
  retired_told valid rising =
      listed_by retired_serial is_retired_row parts.journal.counts s.objects index
      (listed valid rising retired_serial (λ count. count.retired) is_retired_row refl (λ count. refl) (λ row. refl))
