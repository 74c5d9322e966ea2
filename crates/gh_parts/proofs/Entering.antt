-- An object that is entered: its row is the last, and it is found by its serial, which is new.
use Rattle.std.proofs.Common.{◌≡◌, ◌≢◌, ◌<◌, ◌≤◌, ◌∙◌, ◌∷◌, ◌++◌, ℕ, false, List, [], Option, Some, None, refl, sym, ap, subst, arith, inl}
use Rattle.std.proofs.Common.{inr, length, find, set, IsTrue}
use Rattle.std.specs.Option.{option_map}
use Rattle.std.proofs.lemmas.Bool.{both_ways, cases_lt, eq-eqb, ne_eqb}
use Rattle.gh_base.specs.declared.ids.Serial.{Serial}
use Rattle.gh_base.specs.declared.kind.Kind.{Kind}
use Rattle.gh_base.specs.declared.kind.Kind.TheVariants as kind
use Rattle.gh_base.specs.declared.limits.TheConstants.{OBJECT_INDICES}
use Rattle.gh_invariant.proofs.Counting.{find_push_new, find_push_other, found_all, unfound}
use Rattle.gh_invariant.specs.Lives.{is_housed, lives_as}
use Rattle.gh_invariant.specs.Valid.{IsValidWithin}
use Rattle.gh_model.specs.Boot.{is_of_kind}
use Rattle.gh_model.specs.Rows.{is_object}
use Rattle.gh_model.specs.declared.rows.ObjectRow.{ObjectRow}
use Rattle.gh_model.specs.declared.state.State.{State}
use Rattle.gh_objects.specs.Headers.{has_serial, header_at}
use Rattle.gh_objects.specs.declared.header.Header.{Header}
use Rattle.gh_parts.specs.Index.{index_of}
use Rattle.gh_parts.specs.ObjectChanges.{new_header}
use Rattle.gh_parts.specs.Stands.{StandsOwing, header_of}
use Rattle.gh_parts.specs.declared.parts.Parts.{Parts}
use Rattle.gh_parts.proofs.AddedIndices.{index_here, index_there}
use Rattle.gh_parts.proofs.IndexLemmas.{header_found}

-- a serial whose index has no header is past the last
pub past_none : (headers : List (Option Header)) (x : ℕ) → header_at headers (index_of headers x) ≡ None
    → length headers ≤ index_of headers x
past_none headers x none =
    elim (cases_lt (index_of headers x) (length headers)) [
      | inl below ↦
          absurd (both_ways (has_serial x (header_at headers (index_of headers x)))
          (ap (has_serial x) none) (header_found headers x below))
      | inr past ↦ past
    ]

-- the object has the next serial, isn't retired, and comes to an index that is free; its partition is
-- at the index that its header says
pub record Enters (owed : List Serial) (parts : Parts) (s : State) (row : ObjectRow) (home at : ℕ)
    : Type 0 where
  pub stand : StandsOwing owed parts s
  pub valid : IsValidWithin s
  pub serial : row.serial.0 ≡ s.next_serial
  pub unretired : row.retired ≡ None
  pub below : at < OBJECT_INDICES
  pub free : header_at parts.table.headers at ≡ None
  pub housed : home ≡ index_of (set parts.table.headers at (Some (new_header home row))) row.partition.0

module _ (owed : List Serial) (parts : Parts) (s : State) (row : ObjectRow) (home at : ℕ)
    (enters : Enters owed parts s row home at) where
  abbrev pub headers : List (Option Header)
  headers = parts.table.headers

  abbrev pub serial : ℕ
  serial = row.serial.0

  abbrev pub header : Header
  header = new_header home row

  abbrev pub now : List (Option Header)
  now = set headers at (Some header)

  abbrev pub objects : List ObjectRow
  objects = s.objects ++ row ∷ []

  -- no object has its serial
  pub unmade : find (is_object serial) s.objects ≡ None
  unmade =
      unfound (is_object serial) s.objects
      (enters.valid.objects.later serial (omega (arith, enters.serial)))

  -- and so none has an index for it
  pub unindexed : length headers ≤ index_of headers serial
  unindexed =
      past_none headers serial
      (enters.stand.objects.each serial ∙ ap (option_map (header_of headers)) unmade)

  pub found_here : find (is_object serial) objects ≡ Some row
  found_here = find_push_new (is_object serial) s.objects row unmade (eq-eqb serial serial refl)

  pub found_there : (x : ℕ) → x ≢ serial → find (is_object x) objects ≡ find (is_object x) s.objects
  found_there x apart =
      find_push_other (is_object x) s.objects row (ne_eqb serial x (λ same. apart (sym same)))

  pub at_here : index_of now serial ≡ at
  at_here = index_here headers enters.stand.objects.indexed at header enters.below enters.free unindexed

  pub at_there : (x : ℕ) → x ≢ serial → index_of now x ≡ index_of headers x
  at_there x apart =
      index_there headers enters.stand.objects.indexed at header enters.below enters.free unindexed x apart

  -- what lives isn't the new object
  pub lives_apart : (x : ℕ) (k : Kind) → IsTrue (lives_as s.objects x k) → x ≢ serial
  lives_apart x k lives same =
      both_ways (lives_as s.objects x k)
      (ap (is_of_kind k) (subst (λ (n : ℕ). find (is_object n) s.objects ≡ None) (sym same) unmade)) lives

  -- nor does an object that lives live in it
  pub home_apart : (x : ℕ) (one : ObjectRow) → find (is_object x) s.objects ≡ Some one
      → one.partition.0 ≢ serial
  home_apart x one is =
      lives_apart one.partition.0 kind.Partition
      (found_all (is_object x) (is_housed s.objects) s.objects one enters.valid.objects.housed is)

  -- what doesn't live so before lives so only if it is the new object
  pub lives_there : (x : ℕ) (k : Kind) → x ≢ serial → lives_as objects x k ≡ lives_as s.objects x k
  lives_there x k apart = ap (is_of_kind k) (found_there x apart)

  pub lives_not : (k : Kind) → lives_as s.objects serial k ≡ false
  lives_not k = ap (is_of_kind k) unmade
