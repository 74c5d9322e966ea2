-- An index without a live object whose word isn't dead has no pins.
use Rattle.std.proofs.Common.{◌≡◌, ◌+◌, ◌∙◌, ℕ, zero, suc, Bool, true, false, List, [], ◌∷◌, refl, subst, ap, arith, Option, Some, None}
use Rattle.std.specs.Prelude.{count_by, slice_get}
use Rattle.std.specs.List.{last_or}
use Rattle.std.proofs.lemmas.Bool.{eqb-true}
use Rattle.gh_base.specs.declared.limits.TheConstants.{CPUS}
use Rattle.gh_invariant.proofs.Counting.{count_cons, one_false}
use Rattle.gh_model.specs.Marks.{Seen}
use Rattle.gh_model.specs.QueueCalls.{one_if}
use Rattle.gh_events.specs.CallEvents.{pin_of_look}
use Rattle.gh_events.specs.Config.{AtAct, Config, Cpu, Current, DeadPin, Failed, Looked, Pin, Reading, Stage, Undone, is_pin_at, object_at, pin_of, present, seen_index}
use Rattle.gh_events.specs.References.{HasReferences, HoldsSoundly, IsPinned, dead_pin, pin_at_stage, pins_at, pins_of}
use Rattle.gh_events.proofs.Finding.{total_none}

-- where none of the items passes, none is counted
pub none_counted : {X : Type 0} (p : X → Bool) (items : List X)
    → ((i : ℕ) (item : X) → slice_get items i ≡ Some item → p item ≡ false)
    → count_by p items ≡ 0
none_counted p [] fails = refl
none_counted p (item ∷ items) fails =
    let all : count_by p (item ∷ items) ≡ one_if (p item) + count_by p items = count_cons p item items in
    let first : one_if (p item) ≡ 0 = one_false (p item) (fails 0 item refl) in
    let others : count_by p items ≡ 0 = none_counted p items (λ i one is. fails (suc i) one is) in
    omega arith

pub misses : (here : Bool) → (here ≡ true → ⊥) → here ≡ false
misses true never = absurd (never refl)
misses false never = refl

module _ (conf : Config) (at : ℕ) (empty : object_at (present conf) conf.index at ≡ None)
    (alive : conf.dead at ≡ false) where
  not_pinned : (pin : Pin) → IsPinned conf pin → is_pin_at at pin ≡ true → ⊥
  not_pinned pin pinned here =
      let same : pin.index ≡ at = eqb-true pin.index at here in
      let there : object_at (present conf) conf.index at ≡ Some pinned.row = subst (λ (n : ℕ). object_at (present conf) conf.index n ≡ Some pinned.row) same pinned.lives_there in
      cc

  look_by : (seen : Seen) → conf.dead (seen_index seen) ≡ true
      → count_by (is_pin_at at) (pin_of seen ∷ []) ≡ 0
  look_by seen dead =
      none_counted (is_pin_at at) (pin_of seen ∷ []) (λ i pin is. misses (is_pin_at at pin) (one_by i pin is))
    where
      one_by : (i : ℕ) (pin : Pin) → slice_get (pin_of seen ∷ []) i ≡ Some pin → is_pin_at at pin ≡ true → ⊥
      one_by zero pin is here =
          let that : pin_of seen ≡ pin = cc in
          let same : seen_index seen ≡ at = ap (λ (one : Pin). one.index) that ∙ eqb-true pin.index at here in
          let dead_there : conf.dead at ≡ true = subst (λ (n : ℕ). conf.dead n ≡ true) same dead in
          cc
      one_by (suc i) pin is here = absurd (let never : ⊥ = cc in never)

  last_by : (last : Option Seen)
      → ((seen : Seen) → last ≡ Some seen → conf.dead (seen_index seen) ≡ true)
      → count_by (is_pin_at at) (pin_of_look last) ≡ 0
  last_by None dying = refl
  last_by (Some seen) dying = look_by seen (dying seen refl)

  stage_by : (stage : Stage) (seen : List Seen)
      → ((one : Seen) → stage ≡ DeadPin → last_or None seen ≡ Some one → conf.dead (seen_index one) ≡ true)
      → count_by (is_pin_at at) (pin_at_stage stage seen) ≡ 0
  stage_by DeadPin seen dying = last_by (last_or None seen) (λ one last. dying one refl last)
  stage_by Reading seen dying = refl
  stage_by Looked seen dying = refl
  stage_by Undone seen dying = refl
  stage_by Failed seen dying = refl
  stage_by AtAct seen dying = refl

  dead_by : (cpu : Cpu) (current : Option Current) → cpu.current ≡ current → HoldsSoundly conf cpu
      → count_by (is_pin_at at) (dead_pin current) ≡ 0
  dead_by cpu None is holds = refl
  dead_by cpu (Some call) is holds =
      stage_by call.stage call.seen (λ one stage last. holds.dying call one (record { is_current = is; at_stage = stage }) last)

  cpu_has_none : (cpu : Cpu) → HoldsSoundly conf cpu → pins_of cpu at ≡ 0
  cpu_has_none cpu holds =
      let held : count_by (is_pin_at at) cpu.pins ≡ 0 = none_counted (is_pin_at at) cpu.pins (λ i pin is. misses (is_pin_at at pin) (not_pinned pin (holds.pinned i pin is))) in
      let dead : count_by (is_pin_at at) (dead_pin cpu.current) ≡ 0 = dead_by cpu cpu.current refl holds in
      omega arith

  -- no pins at the index
  pub no_pins : HasReferences conf → pins_at conf.cpu at ≡ 0
  no_pins sound =
      total_none CPUS (λ (cpu : ℕ). pins_of (conf.cpu cpu) at) (λ cpu. cpu_has_none (conf.cpu cpu) (sound.holds cpu))
