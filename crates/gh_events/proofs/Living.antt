-- An object that lives at an index, by its own row; and a word that has a pin.
use Rattle.std.proofs.Common.{◌≡◌, ◌+◌, ◌≤◌, ◌∙◌, ℕ, zero, suc, true, List, [], ◌∷◌, refl, subst, sym, ap, arith, Option, Some, None, find, is_some, slice_get}
use Rattle.std.specs.Prelude.{count_by, cond}
use Rattle.std.proofs.lemmas.Bool.{eqb-true}
use Rattle.std.proofs.lemmas.List.Sums.{sum_by-append}
use Rattle.gh_model.specs.Rows.{is_object}
use Rattle.gh_model.specs.declared.rows.ObjectRow.{ObjectRow}
use Rattle.gh_model.specs.declared.state.State.{State}
use Rattle.gh_events.specs.Config.{Pin, is_at, is_pin_at, object_at}
use Rattle.gh_events.specs.References.{IsRow}
use Rattle.gh_events.proofs.Finding.{finds, found_passes, same_number}
use Rattle.gh_events.proofs.PinKeeps.{counts_hit}

-- the object of this serial lives at this index
pub record LivesAt (s : State) (index : ℕ → ℕ) (at serial : ℕ) : Type 0 where
  pub row : ObjectRow
  pub is : IsRow s row
  pub there : index row.serial.0 ≡ at
  pub same : row.serial.0 ≡ serial

lives_by : (s : State) (index : ℕ → ℕ) (at : ℕ) (found : ObjectRow) (own : Option ObjectRow)
    → find (is_object found.serial.0) s.objects ≡ own → is_some own ≡ true
    → index found.serial.0 ≡ at → LivesAt s index at found.serial.0
lives_by s index at found None is some there = absurd (let never : ⊥ = cc in never)
lives_by s index at found (Some row) is some there =
    let same : row.serial.0 ≡ found.serial.0 = eqb-true row.serial.0 found.serial.0 (found_passes (is_object found.serial.0) s.objects row is) in
    record {
      row = row;
      is = subst (λ (n : ℕ). find (is_object n) s.objects ≡ Some row) (sym same) is;
      there = ap index same ∙ there;
      same = same;
    }

-- what is found at an index lives there
pub lives_there : (s : State) (index : ℕ → ℕ) (at : ℕ) (found : ObjectRow)
    → object_at s index at ≡ Some found → LivesAt s index at found.serial.0
lives_there s index at found is =
    lives_by s index at found (find (is_object found.serial.0) s.objects) refl (finds (is_at index at) (is_object found.serial.0) s.objects found is (same_number found.serial.0)) (eqb-true (index found.serial.0) at (found_passes (is_at index at) s.objects found is))

-- what lives is found at its index
pub stands_there : (s : State) (index : ℕ → ℕ) (row : ObjectRow) → IsRow s row
    → is_some (object_at s index (index row.serial.0)) ≡ true
stands_there s index row is =
    finds (is_object row.serial.0) (is_at index (index row.serial.0)) s.objects row is (same_number (index row.serial.0))

-- the index of what lives isn't one where nothing does
pub index_apart : (s : State) (index : ℕ → ℕ) (row : ObjectRow) (at : ℕ) → IsRow s row
    → object_at s index at ≡ None → index row.serial.0 ≡ at → ⊥
index_apart s index row at is none there =
    let some : is_some (object_at s index at) ≡ true = subst (λ (n : ℕ). is_some (object_at s index n) ≡ true) there (stands_there s index row is) in
    cc

-- a list of pins counts its first one and the others
pub cons_counts : (at : ℕ) (pin : Pin) (pins : List Pin) → count_by (is_pin_at at) (pin ∷ pins)
    ≡ count_by (is_pin_at at) (pin ∷ []) + count_by (is_pin_at at) pins
cons_counts at pin pins =
    sum_by-append (λ (one : Pin). cond (is_pin_at at one) 1 0) (pin ∷ []) pins

-- and with one at an index it counts one at least
pub pins_some : (at i : ℕ) (pins : List Pin) (pin : Pin) → slice_get pins i ≡ Some pin
    → is_pin_at at pin ≡ true → 1 ≤ count_by (is_pin_at at) pins
pins_some at i [] pin is here = absurd (let never : ⊥ = cc in never)
pins_some at zero (first ∷ pins) pin is here =
    let same : first ≡ pin = cc in
    omega (arith, cons_counts at first pins, counts_hit at first (ap (is_pin_at at) same ∙ here))
pins_some at (suc i) (first ∷ pins) pin is here =
    omega (arith, cons_counts at first pins, pins_some at i pins pin is here)
