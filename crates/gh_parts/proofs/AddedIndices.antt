-- Where the live objects are once a header more stands at a free index.
use Rattle.std.proofs.Common.{◌≡◌, ◌≢◌, ◌<◌, ◌≤◌, ◌∙◌, not, ℕ, true, false, List, Option, Some, None, refl, sym, ap, subst, arith}
use Rattle.std.proofs.Common.{inl, inr, length, set}
use Rattle.std.proofs.lemmas.Bool.{both_ways, cases_eq, cases_lt, eq-eqb, ne_eqb}
use Rattle.std.proofs.lemmas.List.{get_or-set_other, get_or-set_same, get_or_past, length-set}
use Rattle.std.proofs.lemmas.List.Folds.{position_or_len-set}
use Rattle.std.proofs.lemmas.List.Sums.{position_or_len_is, prefix_len_passes}
use Rattle.gh_base.specs.declared.limits.TheConstants.{OBJECT_INDICES}
use Rattle.gh_objects.specs.Headers.{has_serial, header_at}
use Rattle.gh_objects.specs.declared.header.Header.{Header}
use Rattle.gh_parts.specs.Index.{AreIndexed, index_of}
use Rattle.gh_parts.proofs.FoundRows.{not_true}
use Rattle.gh_parts.proofs.IndexLemmas.{header_found}
use Rattle.gh_parts.proofs.Options.{some_same}

-- where a serial has no index, no header has it
pub serial_nowhere : (headers : List (Option Header)) (serial index : ℕ)
    → length headers ≤ index_of headers serial → has_serial serial (header_at headers index) ≡ false
serial_nowhere headers serial index past =
    elim (cases_lt index (length headers)) [
      | inl below ↦
          not_true (has_serial serial (header_at headers index))
          (prefix_len_passes (λ (header : Option Header). not (has_serial serial header)) headers index None (omega arith))
      | inr beyond ↦ ap (has_serial serial) (get_or_past headers index None beyond)
    ]

module _ (headers : List (Option Header)) (all : AreIndexed headers) (at : ℕ) (header : Header)
    (below : at < OBJECT_INDICES) (free : header_at headers at ≡ None)
    (past : length headers ≤ index_of headers header.serial.0) where
  abbrev serial : ℕ
  serial = header.serial.0

  -- the headers with the one more
  abbrev pub now : List (Option Header)
  now = set headers at (Some header)

  inside : at < length headers
  inside = omega (arith, all.indices)

  pub header_here : header_at now at ≡ Some header
  header_here = get_or-set_same headers at (Some header) None inside

  pub header_there : (index : ℕ) → index ≢ at → header_at now index ≡ header_at headers index
  header_there index apart = get_or-set_other headers at index (Some header) None apart

  -- the new object is at its index
  pub index_here : index_of now serial ≡ at
  index_here =
      position_or_len_is (has_serial serial) now at None (omega (arith, length-set headers at (Some header), inside))
      (λ k before. ap (has_serial serial) (header_there k (λ same. omega (arith, before))) ∙ serial_nowhere headers serial k past)
      (λ within. ap (has_serial serial) header_here ∙ eq-eqb serial serial refl)

  -- every other where it was
  pub index_there : (x : ℕ) → x ≢ serial → index_of now x ≡ index_of headers x
  index_there x apart =
      position_or_len-set (has_serial x) headers at (Some header) None
      (ne_eqb serial x (λ same. apart (sym same)) ∙ sym (ap (has_serial x) free))

  -- which isn't the new object's
  pub index_apart : (x : ℕ) → index_of headers x ≢ at
  index_apart x same =
      both_ways (has_serial x (header_at headers at)) (ap (has_serial x) free)
      (subst (λ (i : ℕ). has_serial x (header_at headers i) ≡ true) same
      (header_found headers x (subst (λ (i : ℕ). i < length headers) (sym same) inside)))

  pub header_kept : (x : ℕ) → x ≢ serial
      → header_at now (index_of now x) ≡ header_at headers (index_of headers x)
  header_kept x apart =
      ap (header_at now) (index_there x apart) ∙ header_there (index_of headers x) (index_apart x)

  alone_here : (index : ℕ) (found : Header) → header_at now index ≡ Some found → index ≡ at
      → index_of now found.serial.0 ≡ index
  alone_here index found is same =
      let one : header ≡ found =
      some_same header found (sym header_here ∙ subst (λ (i : ℕ). header_at now i ≡ Some found) same is) in
      subst (λ (h : Header). index_of now h.serial.0 ≡ index) one (index_here ∙ sym same)

  alone_there : (index : ℕ) (found : Header) → header_at headers index ≡ Some found
      → index_of now found.serial.0 ≡ index
  alone_there index found is =
      index_there found.serial.0
      (λ same. both_ways (has_serial serial (header_at headers index)) (serial_nowhere headers serial index past)
      (ap (has_serial serial) is ∙ eq-eqb found.serial.0 serial same))
      ∙ all.alone index found is

  -- no two have one serial
  pub indexed_now : AreIndexed now
  indexed_now = record {
    indices = length-set headers at (Some header) ∙ all.indices;
    alone = λ index found is.
        elim (cases_eq index at) [
          | inl same ↦ alone_here index found is same
          | inr apart ↦ alone_there index found (sym (header_there index apart) ∙ is)
        ];
  }
