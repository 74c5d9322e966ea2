-- A call that an item changes where it is.
use Rattle.std.proofs.Common.{◌≡◌, ◌<◌, ◌∙◌, ℕ, zero, suc, false, true, List, [], ◌∷◌, Option, Some, None, ap, arith, get_or, length, refl, slice_get, slice_set, subst, sym}
use Rattle.std.specs.Option.{unwrap_or}
use Rattle.std.proofs.lemmas.Option.{slice_get-get_or}
use Rattle.gh_base.specs.declared.limits.TheConstants.{CPUS}
use Rattle.gh_core.specs.Running.{current_of}
use Rattle.gh_core.specs.declared.current.CurrentCall.{CurrentCall}
use Rattle.gh_events.specs.Config.{Config}
use Rattle.gh_events.specs.Sound.{IsSound}
use Rattle.gh_items.specs.Held.{Held, IsHeld, call_goes_on, cpu_goes_on, goes_on}
use Rattle.gh_items.specs.Stands.{Stands, with_call}
use Rattle.gh_items.specs.declared.progress.Progress.{Progress}
use Rattle.gh_items.proofs.SeatLemmas.{current_is}

-- it is the configuration's
pub held_current : (from : Held) (call : CurrentCall) → IsHeld from call → (from.conf.cpu from.at).current ≡ Some (current_of call)
held_current from call held = current_is from.progress from.conf from.at call held.stands held.within

-- what is put where it was changes nothing
set_same : {X : Type 0} (xs : List X) (at : ℕ) (x : X) → slice_get xs at ≡ Some x → slice_set xs at x ≡ xs
set_same [] at x is = refl
set_same (y ∷ xs) zero x is = ap (λ (z : _). z ∷ xs) (let same : x ≡ y = cc in same)
set_same (y ∷ xs) (suc at) x is = ap (λ (others : List _). y ∷ others) (set_same xs at x is)

pub call_same : (progress : Progress) (at : ℕ) (call : Option CurrentCall) → slice_get progress.calls at ≡ Some call → with_call progress at call ≡ progress
call_same progress at call is = ap (λ (calls : List (Option CurrentCall)). record progress { calls = calls }) (set_same progress.calls at call is)

-- the call that is found where the CPU's call goes on
module _ (progress : Progress) (conf : Config) (at : ℕ) (stands : Stands progress conf) (within : at < CPUS)
    (calls : List (Option CurrentCall)) (other : Option CurrentCall) (are : calls ≡ progress.calls) where
  there : slice_get progress.calls at ≡ Some (get_or calls at other)
  there =
      let counted : length calls ≡ length progress.calls = ap (λ (xs : List (Option CurrentCall)). length xs) are in
      ap (λ (xs : List (Option CurrentCall)). slice_get xs at) (sym are) ∙ slice_get-get_or calls at other (omega (arith, counted, stands.nine_calls))

  going : cpu_goes_on progress at ≡ call_goes_on (get_or calls at other)
  going = ap (λ (o : Option (Option CurrentCall)). call_goes_on (unwrap_or o None)) there

  pub found_goes : (call : CurrentCall) → get_or calls at other ≡ Some call → cpu_goes_on progress at ≡ true → goes_on call.stage ≡ true
  found_goes call is goes = sym (going ∙ ap call_goes_on is) ∙ goes

  -- a CPU that has none doesn't go on
  pub none_goes : {A : Type 0} → get_or calls at other ≡ None → cpu_goes_on progress at ≡ true → A
  none_goes is goes =
      let never : false ≡ true = sym (going ∙ ap call_goes_on is) ∙ goes in
      absurd (let never_so : ⊥ = cc in never_so)

  found_stands : (call : CurrentCall) → get_or calls at other ≡ Some call → Stands (with_call progress at (Some call)) conf
  found_stands call is =
      subst (λ (p : Progress). Stands p conf) (sym (call_same progress at (Some call) (there ∙ ap (λ (o : Option CurrentCall). Some o) is))) stands

pub found_held : (from : Held) (progress : Progress) (at : ℕ) → progress ≡ from.progress → at ≡ from.at → Stands progress from.conf
    → IsSound from.conf → at < CPUS → from.conf.turn ≡ None
    → (calls : List (Option CurrentCall)) (other : Option CurrentCall) → calls ≡ progress.calls
    → (call : CurrentCall) → get_or calls at other ≡ Some call → IsHeld from call
found_held from progress at same here stands sound within free calls other are call is = record {
  stands = subst (λ (p : Progress). Stands p from.conf) (λ i. with_call (same i) (here i) (Some call))
      (found_stands progress from.conf at stands within calls other are call is);
  sound = sound;
  within = subst (λ (n : ℕ). n < CPUS) here within;
  free = free;
}
