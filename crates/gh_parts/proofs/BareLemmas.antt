-- Pages that no extent holds yet are serial 0's.
use Rattle.std.proofs.Common.{◌≡◌, ◌≢◌, ◌∙◌, ◌+◌, ◌-◌, ◌≤◌, ◌==◌, ◌||◌, ◌&&◌, ℕ, zero, suc, Bool, true, false, List, refl, sym, ap, arith, inl, inr}
use Rattle.std.proofs.Common.{take, replicate, length}
use Rattle.std.specs.List.{list_all}
use Rattle.std.proofs.lemmas.Bool.{cases_eq, eq-eqb, le-leb, ne_eqb}
use Rattle.std.proofs.lemmas.List.{drop-replicate, length-replicate, take-replicate}
use Rattle.gh_base.specs.declared.ids.Serial.{Serial}
use Rattle.gh_model.specs.Memory.{HoldsRun, holds_all, is_serial}
use Rattle.gh_model.specs.MemoryCalls.{holds_run}
use Rattle.gh_parts.specs.Slots.{no_serial}

module _ (extent : ℕ) where
  all_own : extent ≡ 0 → (count : ℕ) → list_all (is_serial extent) (replicate count no_serial) ≡ true
  all_own same zero = refl
  all_own same (suc count) =
      ap (λ (b : Bool). b && list_all (is_serial extent) (replicate count no_serial)) (eq-eqb 0 extent (sym same))
      ∙ all_own same count

  some_other : extent ≢ 0 → (count : ℕ) → list_all (is_serial extent) (replicate (suc count) no_serial) ≡ false
  some_other apart count =
      ap (λ (b : Bool). b && list_all (is_serial extent) (replicate count no_serial))
      (ne_eqb 0 extent (λ same. apart (sym same)))

  all_same : (count : ℕ)
      → list_all (is_serial extent) (replicate count no_serial) ≡ ((count == 0) || (extent == 0))
  all_same zero = refl
  all_same (suc count) =
      elim (cases_eq extent 0) [
        | inl same ↦
            all_own same (suc count)
            ∙ sym (ap (λ (b : Bool). b || (extent == 0)) (ne_eqb (suc count) 0 (λ is. omega (arith, is))) ∙ eq-eqb extent 0 same)
        | inr apart ↦
            some_other apart count
            ∙ sym (ap (λ (b : Bool). b || (extent == 0)) (ne_eqb (suc count) 0 (λ is. omega (arith, is))) ∙ ne_eqb extent 0 apart)
      ]

module _ (pages extent first count : ℕ) where
  run_same : first + count ≤ pages
      → holds_all (replicate pages no_serial) extent first count ≡ list_all (is_serial extent) (replicate count no_serial)
  run_same within =
      ap (λ (holders : List Serial). list_all (is_serial extent) (take count holders)) (drop-replicate first pages no_serial)
      ∙ ap (list_all (is_serial extent)) (take-replicate count (pages - first) no_serial (omega (arith, within)))

  -- whether an extent holds a run of them
  pub bare_told : first + count ≤ pages
      → ((count == 0) || (extent == 0)) ≡ holds_run (replicate pages no_serial) (record { 0 = extent }) first count
  bare_told within =
      sym (ap (λ (b : Bool). b && holds_all (replicate pages no_serial) extent first count)
      (le-leb (first + count) (length (replicate pages no_serial)) (omega (arith, within, length-replicate pages no_serial)))
      ∙ run_same within
      ∙ all_same extent count)

-- serial 0 holds each run of them
pub bare_held : (pages first count : ℕ) → first + count ≤ pages → HoldsRun (replicate pages no_serial) 0 first count
bare_held pages first count within = record {
  within = omega (arith, within, length-replicate pages no_serial);
  held = run_same pages 0 first count within ∙ all_own 0 refl count;
}
