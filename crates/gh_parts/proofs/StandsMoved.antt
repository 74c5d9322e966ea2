-- The counts stand for the references once a change has moved them: what was owed before it was what
-- it gives, and what is owed behind it is what it takes.
use Rattle.std.proofs.Common.{◌≡◌, ◌<◌, ◌∙◌, ℕ, List, Option, Some, None, refl, sym, ap, subst, arith, find, is_some}
use Rattle.std.specs.Option.{option_map}
use Rattle.std.proofs.lemmas.Bool.{eqb-true}
use Rattle.gh_invariant.proofs.Counting.{found_passes}
use Rattle.gh_invariant.proofs.ReferencesLaw.{moves}
use Rattle.gh_invariant.specs.Effects.{gains, losses}
use Rattle.gh_invariant.specs.Premises.{MayChange}
use Rattle.gh_invariant.specs.Valid.{IsValidTo}
use Rattle.gh_model.specs.Changes.{changed}
use Rattle.gh_model.specs.Rows.{is_object}
use Rattle.gh_model.specs.declared.change.Change.{Change}
use Rattle.gh_model.specs.declared.rows.ObjectRow.{ObjectRow}
use Rattle.gh_model.specs.declared.state.State.{State}
use Rattle.gh_objects.specs.declared.count.Count.{Count}
use Rattle.gh_objects.specs.declared.header.Header.{Header}
use Rattle.gh_parts.specs.Stands.{ReferencesStand, count_of}
use Rattle.gh_parts.proofs.Living.{object_some}

count_with : ObjectRow → ℕ → Count
count_with row n = record { serial = row.serial; references = n; retired = is_some row.retired }

module _ (last : ℕ) (s : State) (change : Change) (valid : IsValidTo last s) (may : MayChange s change) where
  -- no object has serial 0
  pub serial_some : (serial : ℕ) (row : ObjectRow) → find (is_object serial) s.objects ≡ Some row
      → 0 < serial
  serial_some serial row is = object_some last s valid serial row is

  count_moved : (row : ObjectRow) → 0 < row.serial.0
      → count_of s (gains s change) row ≡ count_of (changed s change) (losses s change) row
  unfolding count_with
  count_moved row some =
      ap (count_with row) (omega (arith, moves last s valid row.serial.0 change some may))

  found_moved : (serial : ℕ) (found : Option ObjectRow) → find (is_object serial) s.objects ≡ found
      → option_map (count_of s (gains s change)) found
      ≡ option_map (count_of (changed s change) (losses s change)) found
  found_moved serial None is = refl
  found_moved serial (Some row) is =
      ap Some (count_moved row
      (subst (λ (n : ℕ). 0 < n)
      (sym (eqb-true row.serial.0 serial (found_passes (is_object serial) s.objects row is)))
      (serial_some serial row is)))

  -- of a change that leaves the objects
  pub references_moved : (headers : List (Option Header)) (counts : List (Option Count))
      → (changed s change).objects ≡ s.objects → ReferencesStand headers counts (gains s change) s
      → ReferencesStand headers counts (losses s change) (changed s change)
  references_moved headers counts same stand = record {
    each = λ serial.
        stand.each serial
        ∙ found_moved serial (find (is_object serial) s.objects) refl
        ∙ ap (λ (objects : List ObjectRow). option_map (count_of (changed s change) (losses s change)) (find (is_object serial) objects))
        (sym same);
    bare = stand.bare;
  }
