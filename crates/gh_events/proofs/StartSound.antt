-- The references of the configuration before any event are sound.
use Rattle.std.proofs.Common.{◌≡◌, ◌∙◌, not, ℕ, Bool, true, false, inl, refl, sym, ap, arith, Option, Some, None, is_some}
use Rattle.std.specs.Option.{option_map_or}
use Rattle.std.proofs.lemmas.Bool.{eqb-true}
use Rattle.gh_base.specs.declared.limits.TheConstants.{CPUS}
use Rattle.gh_model.specs.References.{references}
use Rattle.gh_model.specs.Rows.{is_object}
use Rattle.gh_model.specs.declared.rows.ObjectRow.{ObjectRow}
use Rattle.gh_model.specs.declared.state.State.{State}
use Rattle.gh_events.specs.Config.{is_at, object_at, references_at}
use Rattle.gh_events.specs.References.{AreCounted, ArePlaced, HasReferences, HoldsSoundly, IsRow, pins_at, pins_of}
use Rattle.gh_events.specs.Start.{AreIndices, IsUnretired, boot_dead, new_cpu, start}
use Rattle.gh_events.proofs.Finding.{finds, found_passes, same_number, total_none}

-- a CPU before its first call holds nothing
new_holds : (boot : State) (index : ℕ → ℕ) → HoldsSoundly (start boot index) new_cpu
new_holds boot index = record {
  pinned = λ i pin is. absurd (let never : ⊥ = cc in never);
  granted = λ call seen current last. let is : None ≡ Some call = current.is_current in absurd (let never : ⊥ = cc in never);
  dying = λ call seen current last. let is : None ≡ Some call = current.is_current in absurd (let never : ⊥ = cc in never);
}

new_pins : (boot : State) (index : ℕ → ℕ) (at : ℕ) → pins_at (start boot index).cpu at ≡ 0
new_pins boot index at = total_none CPUS (λ cpu. pins_of new_cpu at) (λ cpu. refl)

module _ (boot : State) (index : ℕ → ℕ) (indices : AreIndices boot index) where
  -- an object of the boot stands at its index
  stands : (row : ObjectRow) → IsRow boot row
      → is_some (object_at boot index (index row.serial.0)) ≡ true
  stands row is =
      finds (is_object row.serial.0) (is_at index (index row.serial.0)) boot.objects row is (same_number (index row.serial.0))

  -- and no other does
  stands_alone : (row found : ObjectRow) → IsRow boot row
      → object_at boot index (index row.serial.0) ≡ Some found → found.serial.0 ≡ row.serial.0
  stands_alone row found is there =
      indices.unique found.serial.0 row.serial.0 (finds (is_at index (index row.serial.0)) (is_object found.serial.0) boot.objects found there (same_number found.serial.0)) (finds (is_object row.serial.0) (is_object row.serial.0) boot.objects row is (same_number row.serial.0)) (eqb-true (index found.serial.0) (index row.serial.0) (found_passes (is_at index (index row.serial.0)) boot.objects found there))

  counts_by : (row : ObjectRow) (found : Option ObjectRow) → IsRow boot row
      → object_at boot index (index row.serial.0) ≡ found → is_some found ≡ true
      → option_map_or (λ (one : ObjectRow). references boot one.serial.0) found 0
      ≡ references boot row.serial.0
  counts_by row None is there some = absurd (let never : ⊥ = cc in never)
  counts_by row (Some found) is there some =
      ap (λ (serial : ℕ). references boot serial) (stands_alone row found is there)

  -- the word at an object's index is its references
  pub counted_there : (row : ObjectRow) → IsRow boot row
      → references_at boot index (index row.serial.0) ≡ references boot row.serial.0
  counted_there row is =
      counts_by row (object_at boot index (index row.serial.0)) is refl (stands row is)

  alive_by : (some : Bool) → not some ≡ false → some ≡ true
  alive_by true alive = refl
  alive_by false alive = absurd (let never : ⊥ = cc in never)

  empty_by : (found : Option ObjectRow) → not (is_some found) ≡ true
      → option_map_or (λ (one : ObjectRow). references boot one.serial.0) found 0 ≡ 0
  empty_by None dead = refl
  empty_by (Some found) dead = absurd (let never : ⊥ = cc in never)

  -- the word of an object of the boot isn't dead
  not_dead : (row : ObjectRow) → IsRow boot row → boot_dead boot index (index row.serial.0) ≡ true
      → ⊥
  not_dead row is dead = let some : is_some (object_at boot index (index row.serial.0)) ≡ true = stands row is in cc

  start_counted : AreCounted (start boot index)
  start_counted = record {
    counts = λ row is alive. let none : pins_at (start boot index).cpu (index row.serial.0) ≡ 0 = new_pins boot index (index row.serial.0) in omega (arith, counted_there row is);
    homes = λ at within alive. inl (alive_by (is_some (object_at boot index at)) alive);
    dead_counts = λ at within dead. empty_by (object_at boot index at) dead ∙ sym (new_pins boot index at);
  }

  start_placed : IsUnretired boot → ArePlaced (start boot index)
  start_placed unretired = record {
    unique = λ row other is also same. indices.unique row.serial.0 other.serial.0 (finds (is_object row.serial.0) (is_object row.serial.0) boot.objects row is (same_number row.serial.0)) (finds (is_object other.serial.0) (is_object other.serial.0) boot.objects other also (same_number other.serial.0)) same;
    doomed = λ row is dead. absurd (not_dead row is dead);
    unowed = λ at dead. refl;
    retired = λ row is counters. let none : is_some row.retired ≡ false = unretired row is in absurd (let never : ⊥ = cc in never);
    fresh = λ holder at held acted revived. absurd (let never : ⊥ = cc in never);
  }

  -- the configuration before any event is sound
  pub start_sound : IsUnretired boot → HasReferences (start boot index)
  start_sound unretired = record {
    counted = start_counted;
    placed = start_placed unretired;
    holds = λ cpu. new_holds boot index;
    seats = λ cpu at beyond. refl;
  }
