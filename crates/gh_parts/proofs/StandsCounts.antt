-- The counts stand for the references once a reference more or less is counted.
use Rattle.std.proofs.Common.{◌≡◌, ◌≢◌, ◌≤◌, ◌+◌, ◌∙◌, ◌∷◌, ◌==◌, ℕ, true, List, Option, Some, None, refl, sym, ap, subst, arith, inl}
use Rattle.std.proofs.Common.{inr, find, is_some, length, slice_set}
use Rattle.std.specs.Prelude.{IfSome}
use Rattle.std.specs.Option.{option_map}
use Rattle.std.proofs.lemmas.Bool.{cases_eq, cases_lt, eq-eqb, eqb-true, ne_eqb}
use Rattle.std.proofs.lemmas.List.{get_or-set_other, get_or_past, set-get_or}
use Rattle.gh_base.specs.declared.ids.Serial.{Serial}
use Rattle.gh_invariant.proofs.Counting.{count_cons, found_passes, one_false, one_true}
use Rattle.gh_invariant.specs.Effects.{is_that, times}
use Rattle.gh_invariant.specs.Lives.{lives}
use Rattle.gh_model.specs.QueueCalls.{one_if}
use Rattle.gh_model.specs.References.{references}
use Rattle.gh_model.specs.Rows.{is_object}
use Rattle.gh_model.specs.declared.rows.ObjectRow.{ObjectRow}
use Rattle.gh_model.specs.declared.state.State.{State}
use Rattle.gh_objects.proofs.ListLemmas.{set_map-here}
use Rattle.gh_objects.specs.Counts.{count_at, count_changed, with_reference, without_reference}
use Rattle.gh_objects.specs.Headers.{header_at}
use Rattle.gh_objects.specs.declared.count.Count.{Count}
use Rattle.gh_objects.specs.declared.header.Header.{Header}
use Rattle.gh_parts.specs.Index.{AreIndexed, index_of}
use Rattle.gh_parts.specs.Stands.{ReferencesStand, count_of}
use Rattle.gh_parts.proofs.IndexLemmas.{one_serial}

-- where nothing is counted no count changes
pub uncounted : (change : Count → Count) (counts : List (Option Count)) (index : ℕ)
    → count_at counts index ≡ None → count_changed change counts index ≡ counts
uncounted change counts index none =
    ap (λ (count : Option Count). slice_set counts index (option_map change count)) none
    ∙ ap (slice_set counts index) (sym none)
    ∙ set-get_or counts index None

-- where no object is found, nothing is counted
pub past_uncounted : (headers : List (Option Header)) (counts : List (Option Count)) (owed : List Serial)
    (s : State) (index : ℕ) → ReferencesStand headers counts owed s → length headers ≤ index
    → count_at counts index ≡ None
past_uncounted headers counts owed s index stand past = stand.bare index (get_or_past headers index None past)

-- a count that another list of owed references makes another
pub record Recounts (s : State) (object : ℕ) (before after : List Serial) (change : Count → Count)
    : Type 0 where
  pub here : (row : ObjectRow) → row.serial.0 ≡ object
      → change (count_of s before row) ≡ count_of s after row
  pub there : (row : ObjectRow) → row.serial.0 ≢ object
      → count_of s before row ≡ count_of s after row

module _ (headers : List (Option Header)) (counts : List (Option Count)) (s : State) (object : ℕ)
    (before after : List Serial) (change : Count → Count) (indexed : AreIndexed headers)
    (recounts : Recounts s object before after change)
    (stand : ReferencesStand headers counts before s) where
  abbrev at : ℕ
  at = index_of headers object

  abbrev now : List (Option Count)
  now = count_changed change counts at

  found_here : (found : Option ObjectRow) → find (is_object object) s.objects ≡ found
      → option_map change (option_map (count_of s before) found) ≡ option_map (count_of s after) found
  found_here None is = refl
  found_here (Some row) is =
      ap Some (recounts.here row (eqb-true row.serial.0 object (found_passes (is_object object) s.objects row is)))

  found_there : (x : ℕ) → x ≢ object → (found : Option ObjectRow) → find (is_object x) s.objects ≡ found
      → option_map (count_of s before) found ≡ option_map (count_of s after) found
  found_there x apart None is = refl
  found_there x apart (Some row) is =
      ap Some (recounts.there row (λ same.
      apart (sym (eqb-true row.serial.0 x (found_passes (is_object x) s.objects row is)) ∙ same)))

  count_there : (x : ℕ) → x ≢ object
      → count_at now (index_of headers x) ≡ count_at counts (index_of headers x)
  count_there x apart =
      elim (cases_eq (index_of headers x) at) [
        | inl same ↦
            ap (λ (all : List (Option Count)). count_at all (index_of headers x))
            (uncounted change counts at (past_uncounted headers counts before s at stand
            (elim (cases_lt (index_of headers x) (length headers)) [
              | inl below ↦ absurd (apart (one_serial headers x object below same))
              | inr past ↦ omega (arith, same)
            ])))
        | inr another ↦ get_or-set_other counts at (index_of headers x) (option_map change (count_at counts at)) None another
      ]

  bare_by : (index : ℕ) → header_at headers index ≡ None → count_at now index ≡ None
  bare_by index none =
      elim (cases_eq index at) [
        | inl same ↦
            subst (λ (i : ℕ). count_at now i ≡ None) (sym same)
            (set_map-here change counts at
            ∙ ap (option_map change) (subst (λ (i : ℕ). count_at counts i ≡ None) same (stand.bare index none)))
        | inr apart ↦
            get_or-set_other counts at index (option_map change (count_at counts at)) None apart
            ∙ stand.bare index none
      ]

  -- the counts stand for the references and the other list
  pub references_recounted : ReferencesStand headers now after s
  references_recounted = record {
    each = λ x.
        elim (cases_eq x object) [
          | inl same ↦
              subst (λ (n : ℕ). count_at now (index_of headers n) ≡ option_map (count_of s after) (find (is_object n) s.objects)) (sym same)
              (set_map-here change counts at
              ∙ ap (option_map change) (stand.each object)
              ∙ found_here (find (is_object object) s.objects) refl)
          | inr apart ↦
              count_there x apart ∙ stand.each x ∙ found_there x apart (find (is_object x) s.objects) refl
        ];
    bare = bare_by;
  }

-- how often a serial is owed once another is owed too
pub times_here : (object : Serial) (owed : List Serial) (n : ℕ) → n ≡ object.0
    → times n (object ∷ owed) ≡ times n owed + 1
times_here object owed n same =
    let sum : times n (object ∷ owed) ≡ one_if (object.0 == n) + times n owed =
    count_cons (is_that n) object owed in
    omega (arith, sum, one_true (object.0 == n) (eq-eqb object.0 n (sym same)))

-- and one that isn't the object
pub times_there : (object : Serial) (owed : List Serial) (n : ℕ) → n ≢ object.0
    → times n owed ≡ times n (object ∷ owed)
times_there object owed n apart =
    let sum : times n (object ∷ owed) ≡ one_if (object.0 == n) + times n owed =
    count_cons (is_that n) object owed in
    omega (arith, sum, one_false (object.0 == n) (ne_eqb object.0 n (λ same. apart (sym same))))

count_with : ObjectRow → ℕ → Count
count_with row n = record { serial = row.serial; references = n; retired = is_some row.retired }

pub owe_recounts : (s : State) (object : Serial) (owed : List Serial)
    → Recounts s object.0 owed (object ∷ owed) with_reference
unfolding count_with
owe_recounts s object owed = record {
  here = λ row same. ap (count_with row) (omega (arith, times_here object owed row.serial.0 same));
  there = λ row apart.
      ap (λ (n : ℕ). count_with row (references s row.serial.0 + n)) (times_there object owed row.serial.0 apart);
}

pub settle_recounts : (s : State) (object : Serial) (owed : List Serial)
    → Recounts s object.0 (object ∷ owed) owed without_reference
unfolding count_with
settle_recounts s object owed = record {
  here = λ row same. ap (count_with row) (omega (arith, times_here object owed row.serial.0 same));
  there = λ row apart.
      ap (λ (n : ℕ). count_with row (references s row.serial.0 + n)) (sym (times_there object owed row.serial.0 apart));
}

countable_by : (s : State) (owed : List Serial) (object : ℕ) (found : Option ObjectRow)
    → find (is_object object) s.objects ≡ found → (P : ℕ → Type 0)
    → (lives s.objects object ≡ true → P (references s object + times object owed))
    → IfSome (option_map (count_of s owed) found) (λ (count : Count). P count.references)
countable_by s owed object None is P holds = tt
countable_by s owed object (Some row) is P holds =
    subst (λ (n : ℕ). P (references s n + times n owed))
    (sym (eqb-true row.serial.0 object (found_passes (is_object object) s.objects row is)))
    (holds (ap is_some is))

-- what holds of the references of an object that lives and of those that are owed holds of its count
pub countable : (headers : List (Option Header)) (counts : List (Option Count)) (owed : List Serial)
    (s : State) (object index : ℕ) → index_of headers object ≡ index
    → ReferencesStand headers counts owed s → (P : ℕ → Type 0)
    → (lives s.objects object ≡ true → P (references s object + times object owed))
    → IfSome (count_at counts index) (λ (count : Count). P count.references)
countable headers counts owed s object index at stand P holds =
    subst (λ (count : Option Count). IfSome count (λ (one : Count). P one.references))
    (sym (stand.each object) ∙ ap (count_at counts) at)
    (countable_by s owed object (find (is_object object) s.objects) refl P holds)

-- one that is owed is counted
pub owed_some : (s : State) (object : Serial) (owed : List Serial)
    → 1 ≤ references s object.0 + times object.0 (object ∷ owed)
owed_some s object owed = omega (arith, times_here object owed object.0 refl)
