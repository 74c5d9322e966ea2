-- As many headers are of a kind as rows of objects are.
use Rattle.std.proofs.Common.{◌≡◌, ◌≢◌, ◌<◌, ◌≤◌, ◌+◌, ◌∙◌, ◌∷◌, ◌==◌, ℕ, suc, Bool, true, false, List, [], Option, Some, None}
use Rattle.std.proofs.Common.{refl, sym, ap, subst, arith, inl, inr, find, get_or, length}
use Rattle.std.specs.Prelude.{count_by}
use Rattle.std.specs.Option.{option_map}
use Rattle.std.proofs.lemmas.Bool.{cases_Bool, cases_eq, cases_lt, eq-eqb, false_from_ne_true, ne_eqb}
use Rattle.std.proofs.lemmas.List.{get_or_past}
use Rattle.std.proofs.lemmas.List.Folds.{find_at}
use Rattle.std.proofs.lemmas.Option.{slice_get-get_or, slice_get_past}
use Rattle.gh_base.specs.Kind.{kind_number}
use Rattle.gh_base.specs.declared.kind.Kind.{Kind}
use Rattle.gh_invariant.proofs.Counting.{count_cons, count_found, find_here, find_later, one_false, one_true, unfound}
use Rattle.gh_invariant.proofs.RowsLeft.{count_fewer, count_without, find_gone, find_left}
use Rattle.gh_invariant.specs.Valid.{IsValidWithin}
use Rattle.gh_model.specs.Boot.{kind_count}
use Rattle.gh_model.specs.Changes.{without}
use Rattle.gh_model.specs.QueueCalls.{one_if}
use Rattle.gh_model.specs.Rows.{is_object}
use Rattle.gh_model.specs.declared.rows.ObjectRow.{ObjectRow}
use Rattle.gh_model.specs.declared.state.State.{State}
use Rattle.gh_objects.specs.Headers.{has_kind, has_serial, header_at}
use Rattle.gh_objects.specs.declared.header.Header.{Header}
use Rattle.gh_parts.specs.Index.{AreIndexed, index_of}
use Rattle.gh_parts.specs.Stands.{Stands, header_of}
use Rattle.gh_parts.specs.declared.parts.Parts.{Parts}
use Rattle.gh_parts.proofs.IndexLemmas.{alone, serials_same}
use Rattle.gh_parts.proofs.Options.{some_same}

-- where no place passes none is counted
none_counted : {X : Type 0} (p : X → Bool) (xs : List X) (d : X)
    → ((i : ℕ) → i < length xs → p (get_or xs i d) ≡ true → ⊥) → count_by p xs ≡ 0
none_counted p [] d none = refl
none_counted p (x ∷ xs) d none =
    let fails : p x ≡ false = false_from_ne_true (p x) (none 0 (omega arith)) in
    omega (
      arith,
      count_cons p x xs,
      one_false (p x) fails,
      none_counted p xs d (λ i within is. none (suc i) (omega (arith, within)) is),
    )

-- where one place passes at most, one is counted at most
once_counted : {X : Type 0} (p : X → Bool) (xs : List X) (d : X)
    → ((i j : ℕ) → p (get_or xs i d) ≡ true → p (get_or xs j d) ≡ true → i ≡ j) → count_by p xs ≤ 1
once_counted p [] d alone = let none : count_by p [] ≡ 0 = refl in omega arith
once_counted p (x ∷ xs) d alone =
    elim (cases_Bool (p x)) [
      | inl here ↦
          omega (
            arith,
            count_cons p x xs,
            one_true (p x) here,
            none_counted p xs d (λ i within is. let same : 0 ≡ suc i = alone 0 (suc i) here is in omega (arith, same)),
          )
      | inr later ↦
          omega (
            arith,
            count_cons p x xs,
            one_false (p x) later,
            once_counted p xs d (λ i j is also. let same : suc i ≡ suc j = alone (suc i) (suc j) is also in omega (arith, same)),
          )
    ]

-- the kind of a header that is found
abbrev header_kind : Header → Kind
header_kind header = header.kind

abbrev kind_in : Option (Option Header) → Option Kind
kind_in None = None
kind_in (Some header) = option_map header_kind header

abbrev row_kind : ObjectRow → Kind
row_kind row = row.kind

-- the row is of the kind
abbrev is_of : Kind → ObjectRow → Bool
is_of k row = kind_number row.kind == kind_number k

-- by each serial the headers and the rows have one kind, if they have one, and each has it once
record Paired (headers : List (Option Header)) (rows : List ObjectRow) : Type 0 where
  pub same : (serial : ℕ) → kind_in (find (has_serial serial) headers) ≡ option_map row_kind (find (is_object serial) rows)
  pub headers_once : (serial : ℕ) → count_by (has_serial serial) headers ≤ 1
  pub rows_once : (serial : ℕ) → count_by (is_object serial) rows ≤ 1

module _ (k : Kind) where
  -- where no serial has a kind no header has
  none_of : (headers : List (Option Header)) → ((serial : ℕ) → kind_in (find (has_serial serial) headers) ≡ None)
      → count_by (has_kind k) headers ≡ 0
  none_of [] none = refl
  none_of (None ∷ headers) none =
      let rest : count_by (has_kind k) headers ≡ 0 = none_of headers none in
      let all : count_by (has_kind k) (None ∷ headers) ≡ one_if false + count_by (has_kind k) headers = count_cons (has_kind k) None headers in
      let zero : one_if false ≡ 0 = refl in
      omega arith
  none_of (Some h ∷ headers) none =
      let own : find (has_serial h.serial.0) (Some h ∷ headers) ≡ Some (Some h) =
      find_here (has_serial h.serial.0) (Some h) headers (eq-eqb h.serial.0 h.serial.0 refl) in
      let some : Some h.kind ≡ None = sym (ap kind_in own) ∙ none h.serial.0 in
      absurd (let never : ⊥ = cc in never)

  -- a header that is found counts as a row of its kind
  found_of : (found : Option (Option Header)) (kind : Kind) → kind_in found ≡ Some kind
      → count_found (has_kind k) found ≡ one_if (kind_number kind == kind_number k)
  found_of None kind is = absurd (let never : ⊥ = cc in never)
  found_of (Some None) kind is = absurd (let never : ⊥ = cc in never)
  found_of (Some (Some h)) kind is =
      ap (λ (one : Kind). one_if (kind_number one == kind_number k)) (some_same h.kind kind is)

  module _ (row : ObjectRow) (rows : List ObjectRow) (headers : List (Option Header)) (paired : Paired headers (row ∷ rows)) where
    abbrev rest : List (Option Header)
    rest = without (has_serial row.serial.0) headers

    own_row : find (is_object row.serial.0) (row ∷ rows) ≡ Some row
    own_row = find_here (is_object row.serial.0) row rows (eq-eqb row.serial.0 row.serial.0 refl)

    row_gone : find (is_object row.serial.0) rows ≡ None
    row_gone =
        unfound (is_object row.serial.0) rows
        (omega (
          arith,
          paired.rows_once row.serial.0,
          count_cons (is_object row.serial.0) row rows,
          one_true (is_object row.serial.0 row) (eq-eqb row.serial.0 row.serial.0 refl),
        ))

    header_gone : find (has_serial row.serial.0) (without (has_serial row.serial.0) headers) ≡ None
    header_gone = find_gone (has_serial row.serial.0) (has_serial row.serial.0) headers (λ header fails. fails)

    header_left : (serial : ℕ) → serial ≢ row.serial.0
        → find (has_serial serial) (without (has_serial row.serial.0) headers) ≡ find (has_serial serial) headers
    header_left serial apart =
        find_left (has_serial serial) (has_serial row.serial.0) headers
        (λ header is. false_from_ne_true (has_serial serial header) (λ also. apart (serials_same serial row.serial.0 header also is)))

    others_paired : Paired (without (has_serial row.serial.0) headers) rows
    others_paired = record {
      same = λ serial.
          elim (cases_eq serial row.serial.0) [
            | inl equal ↦
                subst (λ (n : ℕ). kind_in (find (has_serial n) rest) ≡ option_map row_kind (find (is_object n) rows)) (sym equal)
                (ap kind_in header_gone ∙ sym (ap (option_map row_kind) row_gone))
            | inr apart ↦
                ap kind_in (header_left serial apart)
                ∙ paired.same serial
                ∙ ap (option_map row_kind)
                (find_later (is_object serial) row rows (ne_eqb row.serial.0 serial (λ equal. apart (sym equal))))
          ];
      headers_once = λ serial.
          omega (arith, count_fewer (has_serial serial) (has_serial row.serial.0) headers, paired.headers_once serial);
      rows_once = λ serial.
          omega (arith, paired.rows_once serial, count_cons (is_object serial) row rows);
    }

    one_more : count_by (has_kind k) (without (has_serial row.serial.0) headers) ≡ count_by (is_of k) rows
        → count_by (has_kind k) headers ≡ count_by (is_of k) (row ∷ rows)
    one_more others =
        let found : count_found (has_kind k) (find (has_serial row.serial.0) headers) ≡ one_if (kind_number row.kind == kind_number k) =
        found_of (find (has_serial row.serial.0) headers) row.kind
        (paired.same row.serial.0 ∙ ap (option_map row_kind) own_row) in
        omega (
          arith,
          found,
          others,
          count_without (has_kind k) (has_serial row.serial.0) headers (paired.headers_once row.serial.0),
          count_cons (is_of k) row rows,
        )

  as_many : (rows : List ObjectRow) (headers : List (Option Header)) → Paired headers rows
      → count_by (has_kind k) headers ≡ count_by (is_of k) rows
  as_many [] headers paired = none_of headers paired.same
  as_many (row ∷ rows) headers paired =
      one_more row rows headers paired
      (as_many rows (without (has_serial row.serial.0) headers) (others_paired row rows headers paired))

-- headers by their serials
module _ (headers : List (Option Header)) (all : AreIndexed headers) where
  serial_once : (serial : ℕ) → count_by (has_serial serial) headers ≤ 1
  serial_once serial =
      once_counted (has_serial serial) headers None
      (λ i j is also. sym (alone headers all serial i is) ∙ alone headers all serial j also)

  kind_at : (serial : ℕ)
      → kind_in (find (has_serial serial) headers) ≡ option_map header_kind (header_at headers (index_of headers serial))
  kind_at serial =
      elim (cases_lt (index_of headers serial) (length headers)) [
        | inl below ↦
            ap kind_in (find_at (has_serial serial) headers ∙ slice_get-get_or headers (index_of headers serial) None below)
        | inr past ↦
            ap kind_in (find_at (has_serial serial) headers ∙ slice_get_past headers (index_of headers serial) past)
            ∙ sym (ap (option_map header_kind) (get_or_past headers (index_of headers serial) None past))
      ]

kinds_same : (headers : List (Option Header)) (found : Option ObjectRow)
    → option_map header_kind (option_map (header_of headers) found) ≡ option_map row_kind found
kinds_same headers None = refl
kinds_same headers (Some row) = refl

-- the headers of a kind are as many as its objects
pub kind_told : (parts : Parts) (s : State) → Stands parts s → IsValidWithin s → (k : Kind)
    → count_by (has_kind k) parts.table.headers ≡ kind_count s k
kind_told parts s stand valid k =
    as_many k s.objects parts.table.headers
    (record {
      same = λ serial.
          kind_at parts.table.headers stand.objects.indexed serial
          ∙ ap (option_map header_kind) (stand.objects.each serial)
          ∙ kinds_same parts.table.headers (find (is_object serial) s.objects);
      headers_once = serial_once parts.table.headers stand.objects.indexed;
      rows_once = valid.objects.once;
    })
