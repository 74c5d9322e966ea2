-- Objects stand once an object is entered.
use Rattle.std.proofs.Common.{◌≡◌, ◌≢◌, ◌∙◌, ◌∷◌, ◌++◌, ℕ, List, [], Option, Some, None, refl, sym, ap, subst, arith, inl, inr}
use Rattle.std.proofs.Common.{find, set}
use Rattle.std.specs.Prelude.{slice_index_or}
use Rattle.std.specs.Option.{option_map}
use Rattle.std.proofs.lemmas.Bool.{cases_eq}
use Rattle.std.proofs.lemmas.List.{get_or-set_other, get_or-set_same, length-set}
use Rattle.gh_base.specs.declared.ids.Serial.{Serial}
use Rattle.gh_model.specs.Rows.{is_object}
use Rattle.gh_model.specs.declared.rows.ObjectRow.{ObjectRow}
use Rattle.gh_model.specs.declared.state.State.{State}
use Rattle.gh_objects.specs.Headers.{header_at}
use Rattle.gh_objects.specs.declared.header.Header.{Header}
use Rattle.gh_parts.specs.Index.{index_of, indexed}
use Rattle.gh_parts.specs.Shares.{place_at, with_place}
use Rattle.gh_parts.specs.Stands.{ObjectsStand, header_of}
use Rattle.gh_parts.specs.declared.body.Body.{Body}
use Rattle.gh_parts.specs.declared.parts.Parts.{Parts}
use Rattle.gh_parts.specs.declared.shares.Place.{Place}
use Rattle.gh_parts.proofs.AddedIndices.{header_here, header_kept, index_apart, indexed_now}
use Rattle.gh_parts.proofs.Entering.{Enters, at_here, at_there, found_here, found_there, home_apart, unindexed}
use Rattle.gh_parts.proofs.Options.{some_same}
use Rattle.gh_parts.proofs.PlaceLemmas.{place_elsewhere, place_here, places_whole}

module _ (owed : List Serial) (parts : Parts) (s : State) (row : ObjectRow) (home at : ℕ)
    (enters : Enters owed parts s row home at) (body : Body) where
  abbrev headers : List (Option Header)
  headers = parts.table.headers

  abbrev serial : ℕ
  serial = row.serial.0

  abbrev header : Header
  header = record {
    kind = row.kind;
    partition = indexed home;
    serial = row.serial;
    stage = row.stage;
  }

  abbrev now : List (Option Header)
  now = set headers at (Some header)

  abbrev objects : List ObjectRow
  objects = s.objects ++ row ∷ []

  abbrev place : Place
  place = record { cost = row.cost; body = body }

  abbrev shares : List (List Place)
  shares = with_place parts.shares at place

  abbrev retirements : List (Option (List ℕ))
  retirements = set parts.journal.retirements at None

  -- the header of another object names the same index as before
  header_same : (x : ℕ) (found : Option ObjectRow) → find (is_object x) s.objects ≡ found
      → option_map (header_of headers) found ≡ option_map (header_of now) found
  header_same x None is = refl
  header_same x (Some one) is =
      ap (λ (i : ℕ). Some (record { kind = one.kind; partition = indexed i; serial = one.serial; stage = one.stage }))
      (sym (at_there owed parts s row home at enters one.partition.0 (home_apart owed parts s row home at enters x one is)))

  header_now : (x : ℕ) → x ≢ serial → header_at now (index_of now x) ≡ header_at headers (index_of headers x)
  header_now x apart =
      header_kept headers enters.stand.objects.indexed at header enters.below enters.free
      (unindexed owed parts s row home at enters) x apart

  each_now : (x : ℕ) → header_at now (index_of now x) ≡ option_map (header_of now) (find (is_object x) objects)
  each_now x =
      elim (cases_eq x serial) [
        | inl same ↦
            subst (λ (n : ℕ). header_at now (index_of now n) ≡ option_map (header_of now) (find (is_object n) objects)) (sym same)
            (ap (header_at now) (at_here owed parts s row home at enters)
            ∙ header_here headers enters.stand.objects.indexed at header enters.below enters.free (unindexed owed parts s row home at enters)
            ∙ ap (λ (i : ℕ). Some (record { kind = row.kind; partition = indexed i; serial = row.serial; stage = row.stage })) enters.housed
            ∙ ap (option_map (header_of now)) (sym (found_here owed parts s row home at enters)))
        | inr apart ↦
            header_now x apart ∙ enters.stand.objects.each x
            ∙ header_same x (find (is_object x) s.objects) refl
            ∙ ap (option_map (header_of now)) (sym (found_there owed parts s row home at enters x apart))
      ]

  -- another object's index isn't the new one's
  index_other : (x : ℕ) → index_of headers x ≢ at
  index_other x =
      index_apart headers enters.stand.objects.indexed at header enters.below enters.free
      (unindexed owed parts s row home at enters) x

  -- what is at another object's index stays
  pub place_there : (x : ℕ) → x ≢ serial
      → place_at shares (index_of now x) ≡ place_at parts.shares (index_of headers x)
  place_there x apart =
      ap (place_at shares) (at_there owed parts s row home at enters x apart)
      ∙ place_elsewhere parts.shares at place (index_of headers x) (index_other x)

  pub place_now : place_at shares (index_of now serial) ≡ place
  place_now =
      ap (place_at shares) (at_here owed parts s row home at enters)
      ∙ place_here parts.shares at place enters.stand.objects.whole enters.below

  row_is : (one : ObjectRow) → find (is_object serial) objects ≡ Some one → row ≡ one
  row_is one is = some_same row one (sym (found_here owed parts s row home at enters) ∙ is)

  costs_now : (x : ℕ) (one : ObjectRow) → find (is_object x) objects ≡ Some one
      → (place_at shares (index_of now x)).cost ≡ one.cost
  costs_now x one is =
      elim (cases_eq x serial) [
        | inl same ↦
            subst (λ (n : ℕ). (place_at shares (index_of now n)).cost ≡ one.cost) (sym same)
            (ap (λ (p : Place). p.cost) place_now
            ∙ ap (λ (r : ObjectRow). r.cost) (row_is one (subst (λ (n : ℕ). find (is_object n) objects ≡ Some one) same is)))
        | inr apart ↦
            ap (λ (p : Place). p.cost) (place_there x apart)
            ∙ enters.stand.objects.costs x one (sym (found_there owed parts s row home at enters x apart) ∙ is)
      ]

  retired_now : (x : ℕ) (one : ObjectRow) → find (is_object x) objects ≡ Some one
      → slice_index_or retirements (index_of now x) None ≡ one.retired
  retired_now x one is =
      elim (cases_eq x serial) [
        | inl same ↦
            subst (λ (n : ℕ). slice_index_or retirements (index_of now n) None ≡ one.retired) (sym same)
            (ap (λ (i : ℕ). slice_index_or retirements i None) (at_here owed parts s row home at enters)
            ∙ get_or-set_same parts.journal.retirements at None None (omega (arith, enters.stand.objects.room, enters.below))
            ∙ sym enters.unretired
            ∙ ap (λ (r : ObjectRow). r.retired) (row_is one (subst (λ (n : ℕ). find (is_object n) objects ≡ Some one) same is)))
        | inr apart ↦
            ap (λ (i : ℕ). slice_index_or retirements i None) (at_there owed parts s row home at enters x apart)
            ∙ get_or-set_other parts.journal.retirements at (index_of headers x) None None (index_other x)
            ∙ enters.stand.objects.retired x one (sym (found_there owed parts s row home at enters x apart) ∙ is)
      ]

  -- objects
  pub objects_now : ObjectsStand now shares retirements objects
  objects_now = record {
    indexed = indexed_now headers enters.stand.objects.indexed at header enters.below enters.free
        (unindexed owed parts s row home at enters);
    whole = places_whole parts.shares at place enters.stand.objects.whole;
    each = each_now;
    costs = costs_now;
    retired = retired_now;
    room = length-set parts.journal.retirements at None ∙ enters.stand.objects.room;
  }
