-- A turn that is taken, and one that is given back with its call ended, keep sound references.
use Rattle.std.proofs.Common.{◌≡◌, ◌+◌, ◌<◌, ◌∙◌, ℕ, Bool, true, false, List, [], ◌∷◌, inl, refl, subst, sym, ap, arith, Option, Some, None, is_some, slice_get, if◌then◌else◌}
use Rattle.std.specs.Prelude.{count_by}
use Rattle.std.specs.List.{list_any}
use Rattle.gh_base.specs.declared.limits.TheConstants.{CPUS}
use Rattle.gh_events.specs.CallEvents.{begun, has_needs}
use Rattle.gh_events.specs.Config.{AtAct, Config, Cpu, Current, DeadPin, Failed, Given, Holder, Looked, Pin, Reading, Stage, Undone, is_pin_at}
use Rattle.gh_events.specs.Entries.{is_that_index}
use Rattle.gh_events.specs.References.{HasReferences, dead_pin, grants_at, has_grant, owed_at, pins_of}
use Rattle.gh_events.specs.TurnEvents.{Ending, MayEnd, MayTake, call_at_act, end_call, ended, ending, if_at_act, if_lookless, new_holder, ready, taken, with_ending}
use Rattle.gh_events.proofs.CallsKeep.{no_grant}
use Rattle.gh_events.proofs.CpuMoves.{Moves, part_sound, with_part}
use Rattle.gh_events.proofs.LeaveKeeps.{no_call}
use Rattle.gh_events.proofs.TurnKeeps.{TurnStays, quit_owed, turn_sound}

-- a call at its act has no pin on a dead word and no grant beside its pins
pub record IsQuiet (current : Option Current) : Type 0 where
  pub no_dead : dead_pin current ≡ []
  pub no_grants : has_grant current ≡ false

quiet_at_act : (call : Current) → call.stage ≡ AtAct → IsQuiet (Some call)
quiet_at_act call is = record { no_dead = rw is refl; no_grants = rw is refl }

-- a part of a CPU with the same pins, and neither before nor behind one on a dead word, is sound
module _ (conf : Config) (at : ℕ) (sound : HasReferences conf) (cpu : Cpu)
    (pins : cpu.pins ≡ (conf.cpu at).pins) (before : dead_pin (conf.cpu at).current ≡ [])
    (quiet : IsQuiet cpu.current) where
  quiet_moved : (i : ℕ) → conf.count i + pins_of (conf.cpu at) i ≡ conf.count i + pins_of cpu i
  quiet_moved i =
      let old : count_by (is_pin_at i) (dead_pin (conf.cpu at).current) ≡ 0 = ap (λ (list : List Pin). count_by (is_pin_at i) list) before in
      let new : count_by (is_pin_at i) (dead_pin cpu.current) ≡ 0 = ap (λ (list : List Pin). count_by (is_pin_at i) list) quiet.no_dead in
      let same : count_by (is_pin_at i) cpu.pins ≡ count_by (is_pin_at i) (conf.cpu at).pins = ap (λ (list : List Pin). count_by (is_pin_at i) list) pins in
      omega (arith, old, new, same)

  quiet_moves : at < CPUS → Moves conf at cpu conf.count
  quiet_moves within = record {
    is_cpu = within;
    moved = quiet_moved;
    homed = λ i. inl refl;
    holding = record {
      pinned = λ i pin is. (sound.holds at).pinned i pin (ap (λ (list : List Pin). slice_get list i) (sym pins) ∙ is);
      granted = λ other seen now last. absurd (no_grant cpu.current other quiet.no_grants now.is_current now.grants);
      dying = λ other seen now last. absurd (no_grant cpu.current other quiet.no_grants now.is_current (ap grants_at now.at_stage));
    };
  }

  pub quiet_sound : at < CPUS → HasReferences (with_part conf at cpu conf.count conf.counter)
  quiet_sound within = part_sound conf at cpu conf.count conf.counter (quiet_moves within) sound

-- Take

pub stage_ready : (stage : Stage) (call found : Current) → call.stage ≡ stage
    → if_at_act stage call ≡ Some found → call.stage ≡ AtAct
stage_ready Reading call found at is = absurd (no_call found is)
stage_ready Looked call found at is = absurd (no_call found is)
stage_ready DeadPin call found at is = absurd (no_call found is)
stage_ready Undone call found at is = absurd (no_call found is)
stage_ready Failed call found at is = absurd (no_call found is)
stage_ready AtAct call found at is = at

-- a call that is ready is at its act, and so was the one in progress if there was one
pub record IsReady (current : Option Current) (call : Current) : Type 0 where
  pub stage : call.stage ≡ AtAct
  pub before : dead_pin current ≡ []

lookless_ready : (looks : Bool) (given : Given) (call : Current)
    → (if looks then None else Some (begun 0 AtAct given)) ≡ Some call → call.stage ≡ AtAct
lookless_ready true given call is = absurd (no_call call is)
lookless_ready false given call is =
    let same : begun 0 AtAct given ≡ call = cc in
    sym (ap (λ (one : Current). one.stage) same)

next_ready : (next : Option Given) (call : Current) → if_lookless next ≡ Some call
    → call.stage ≡ AtAct
next_ready None call is = absurd (no_call call is)
next_ready (Some given) call is = lookless_ready (has_needs given) given call is

pub at_act_same : (stage : Stage) (call found : Current) → stage ≡ AtAct → if_at_act stage call ≡ Some found
    → call ≡ found
at_act_same stage call found at is =
    let now : if_at_act AtAct call ≡ Some found = subst (λ (one : Stage). if_at_act one call ≡ Some found) at is in
    cc

is_ready : (current : Option Current) (pins : List Pin) (next : Option Given) (call : Current)
    → call_at_act current pins next ≡ Some call → IsReady current call
is_ready (Some before) pins next call is =
    let at : before.stage ≡ AtAct = stage_ready before.stage before call refl is in
    let same : before ≡ call = at_act_same before.stage before call at is in
    record {
      stage = sym (ap (λ (one : Current). one.stage) same) ∙ at;
      before = rw at refl;
    }
is_ready None [] next call is = record { stage = next_ready next call is; before = refl }
is_ready None (pin ∷ pins) next call is = absurd (no_call call is)

module _ (conf : Config) (at : ℕ) (sound : HasReferences conf) where
  taking : Cpu
  taking = record (conf.cpu at) {
    next = if is_some (conf.cpu at).current then (conf.cpu at).next else None;
    current = ready (conf.cpu at);
  }

  take_stays : conf.turn ≡ None
      → TurnStays (with_part conf at taking conf.count conf.counter) (Some (new_holder at))
  unfolding taking
  take_stays free = record {
    owed = λ i. sym (ap (λ (one : Option Holder). owed_at one i) free);
    revived = λ i revived some. let none : owed_at conf.turn i ≡ 0 = ap (λ (one : Option Holder). owed_at one i) free in absurd (omega (arith, none, some));
    fresh = λ holder i held acted revived. let same : new_holder at ≡ holder = cc in let none : false ≡ true = ap (λ (one : Holder). list_any (is_that_index i) one.revived) same ∙ revived in absurd (let never : ⊥ = cc in never);
  }

  -- a turn that is taken keeps sound references
  pub take_keeps : MayTake conf at → HasReferences (taken conf at)
  unfolding taking
  take_keeps may =
      let is : IsReady (conf.cpu at).current may.call = is_ready (conf.cpu at).current (conf.cpu at).pins (conf.cpu at).next may.call may.is_ready in
      let quiet : IsQuiet (ready (conf.cpu at)) = subst (λ (one : Option Current). IsQuiet one) (sym may.is_ready) (quiet_at_act may.call is.stage) in
      turn_sound (with_part conf at taking conf.count conf.counter) (Some (new_holder at)) (take_stays may.free) (quiet_sound conf at sound taking refl is.before quiet may.is_cpu)

  -- Free behind the act

  ended_cpu : (call : Current) (ending : Option Ending) → (conf.cpu at).current ≡ Some call
      → call.stage ≡ AtAct → at < CPUS
      → HasReferences (with_part conf at (with_ending at (conf.cpu at) call ending) conf.count conf.counter)
  ended_cpu call None is stage within =
      quiet_sound conf at sound (conf.cpu at) refl (rw is (quiet_at_act call stage).no_dead) (subst (λ (one : Option Current). IsQuiet one) (sym is) (quiet_at_act call stage)) within
  ended_cpu call (Some end) is stage within =
      quiet_sound conf at sound (with_ending at (conf.cpu at) call (Some end)) refl (rw is (quiet_at_act call stage).no_dead) (record { no_dead = refl; no_grants = refl }) within

  end_stays : (cpu : Cpu) → (may : MayEnd conf at)
      → TurnStays (with_part conf at cpu conf.count conf.counter) None
  end_stays cpu may = record {
    owed = λ i. sym (quit_owed conf may.holder i may.has_turn.turn (may.owes_nothing i));
    revived = λ i revived some. let none : owed_at conf.turn i ≡ 0 = quit_owed conf may.holder i may.has_turn.turn (may.owes_nothing i) in absurd (omega (arith, none, some));
    fresh = λ holder i held acted revived. absurd (let never : ⊥ = cc in never);
  }

  ends_with : (holder : Option Holder) (current : Option Current) (may : MayEnd conf at)
      → holder ≡ Some may.holder → current ≡ Some may.call
      → HasReferences (with_part conf at (end_call conf at holder current) conf.count conf.counter)
  ends_with None current may has is = absurd (let never : ⊥ = cc in never)
  ends_with (Some holder) None may has is = absurd (no_call may.call is)
  ends_with (Some holder) (Some call) may has is =
      let same : call ≡ may.call = cc in
      ended_cpu call (ending conf at holder call) (may.in_act.is_current ∙ ap (λ (one : Current). Some one) (sym same)) (ap (λ (one : Current). one.stage) same ∙ may.in_act.at_stage) may.is_cpu

  -- a turn that is given back behind its act keeps sound references
  pub end_keeps : MayEnd conf at → HasReferences (ended conf at)
  end_keeps may =
      turn_sound (with_part conf at (end_call conf at conf.turn (conf.cpu at).current) conf.count conf.counter) None (end_stays (end_call conf at conf.turn (conf.cpu at).current) may) (ends_with conf.turn (conf.cpu at).current may may.has_turn.turn may.in_act.is_current)
