-- The turn of an act: it is taken in a sound configuration, and given back with the call's end.
use Rattle.std.proofs.Common.{◌≡◌, ◌<◌, ◌∙◌, ℕ, Bool, true, false, List, [], ◌∷◌, refl, subst, sym, ap, arith, length, map, Option, Some, None, is_some, if◌then◌else◌}
use Rattle.std.specs.Prelude.{nat_lt}
use Rattle.std.proofs.lemmas.Bool.Decides.{nat_tests}
use Rattle.gh_base.specs.declared.cap_word.Need.{Need}
use Rattle.gh_base.specs.declared.limits.TheConstants.{CPUS}
use Rattle.gh_model.specs.Marks.{Fails, Grants, Outcome, Wants, outcome}
use Rattle.gh_model.specs.Registers.{needs_of}
use Rattle.gh_events.specs.CallEvents.{begun, has_grants, has_needs}
use Rattle.gh_events.specs.Calls.{CurrentIs, came_fits, pinned_looks}
use Rattle.gh_events.specs.Config.{AtAct, Config, Cpu, Current, DeadPin, Failed, Given, HasTurn, Holder, IsIn, Looked, OwesNothing, Pin, Reading, Stage, Undone, came_to, pin_of, present}
use Rattle.gh_schedules.specs.Indices.{HasBlocks}
use Rattle.gh_schedules.specs.Items.{freeing, taking, unpins}
use Rattle.std.specs.List.{list_all}
use Rattle.gh_events.specs.Sound.{IsSound}
use Rattle.gh_schedules.specs.Sweep.{HasNotBegun}
use Rattle.gh_schedules.specs.Trace.{and_then}
use Rattle.gh_events.specs.TurnEvents.{Ending, MayEnd, MayTake, call_at_act, end_call, ended, ending, if_at_act, if_lookless, new_holder, ready, taken, with_ending}
use Rattle.gh_schedules.proofs.CallItems.{IsUnpinning, pin_within, unpins_lead}
use Rattle.gh_events.proofs.Finding.{put_here}
use Rattle.gh_schedules.proofs.KilledNone.{NoneKilled, killed_in, none_some}
use Rattle.gh_schedules.proofs.QuietEvents.{is_quiet, pins_quiet, quiet_blocks}
use Rattle.gh_schedules.proofs.TraceLaws.{Leads, leads_then}

-- Take

-- the call of a CPU that is at its act has its grants, each with its pin
pub record IsReady (conf : Config) (at : ℕ) (call : Current) : Type 0 where
  pub stage : call.stage ≡ AtAct
  pub granted : came_to call ≡ Grants
  pub pinned : (conf.cpu at).pins ≡ map pin_of call.seen

grants_of : (came : Outcome) → has_grants came ≡ true → came ≡ Grants
grants_of (Wants slot need) has = absurd (let never : ⊥ = cc in never)
grants_of (Fails errno) has = absurd (let never : ⊥ = cc in never)
grants_of Grants has = refl

no_needs : (needs : List (ℕ × Need)) → nat_lt 0 (length needs) ≡ false → outcome needs [] ≡ Grants
no_needs [] none = refl
no_needs (need ∷ needs) none = absurd (let never : ⊥ = grind (arith, nat_tests) in never)

module _ (conf : Config) (at : ℕ) (sound : IsSound conf) where
  at_act_ready : (call : Current) → (conf.cpu at).current ≡ Some call → call.stage ≡ AtAct → IsReady conf at call
  at_act_ready call is stage =
      let now : CurrentIs conf.boot conf.history conf.index conf.dead at (conf.cpu at) call = (sound.calls.calls at).current call is in
      record {
        stage = stage;
        granted = grants_of (came_to call) (sym (ap (λ (one : Stage). came_fits one (came_to call)) stage) ∙ now.came);
        pinned = now.pinned ∙ ap (λ (one : Stage). map pin_of (pinned_looks one call.seen)) stage;
      }

  stage_ready : (current call : Current) → (conf.cpu at).current ≡ Some current → (stage : Stage) → current.stage ≡ stage
      → if_at_act stage current ≡ Some call → IsReady conf at call
  stage_ready current call is Reading stage ready_is = absurd (let never : ⊥ = cc in never)
  stage_ready current call is Looked stage ready_is = absurd (let never : ⊥ = cc in never)
  stage_ready current call is DeadPin stage ready_is = absurd (let never : ⊥ = cc in never)
  stage_ready current call is Undone stage ready_is = absurd (let never : ⊥ = cc in never)
  stage_ready current call is Failed stage ready_is = absurd (let never : ⊥ = cc in never)
  stage_ready current call is AtAct stage ready_is =
      let same : current ≡ call = cc in subst (IsReady conf at) same (at_act_ready current is stage)

  given_ready : (given : Given) (call : Current) → (conf.cpu at).pins ≡ [] → (looks : Bool) → has_needs given ≡ looks
      → (if looks then None else Some (begun 0 AtAct given)) ≡ Some call → IsReady conf at call
  given_ready given call dropped true looks is = absurd (let never : ⊥ = cc in never)
  given_ready given call dropped false looks is =
      let same : begun 0 AtAct given ≡ call = cc in
      subst (IsReady conf at) same (record { stage = refl; granted = no_needs (needs_of given.call) looks; pinned = dropped })

  next_ready : (call : Current) → (conf.cpu at).pins ≡ [] → (next : Option Given) → if_lookless next ≡ Some call
      → IsReady conf at call
  next_ready call dropped None is = absurd (let never : ⊥ = cc in never)
  next_ready call dropped (Some given) is = given_ready given call dropped (has_needs given) refl is

  pins_ready : (call : Current) (pins : List Pin) → (conf.cpu at).pins ≡ pins
      → call_at_act None pins (conf.cpu at).next ≡ Some call → IsReady conf at call
  pins_ready call [] dropped is = next_ready call dropped (conf.cpu at).next is
  pins_ready call (pin ∷ pins) held is = absurd (let never : ⊥ = cc in never)

  ready_by : (call : Current) (current : Option Current) → (conf.cpu at).current ≡ current
      → call_at_act current (conf.cpu at).pins (conf.cpu at).next ≡ Some call → IsReady conf at call
  ready_by call None none is = pins_ready call (conf.cpu at).pins refl is
  ready_by call (Some current) there is = stage_ready current call there current.stage refl is

  pub is_ready : (call : Current) → ready (conf.cpu at) ≡ Some call → IsReady conf at call
  is_ready call is = ready_by call (conf.cpu at).current refl is

  -- a free turn leaves no object killed
  none_free : conf.turn ≡ None → (serial : ℕ) (killed : Bool)
      → killed_in (present conf) conf.index conf.dead serial ≡ killed
      → killed_in (present conf) conf.index conf.dead serial ≡ false
  none_free free serial false is = is
  none_free free serial true is =
      let held : is_some conf.turn ≡ true = sound.grace.held serial is in
      let none : is_some conf.turn ≡ false = ap is_some free in
      absurd (let never : ⊥ = cc in never)

  module _ (is_cpu : at < CPUS) (free : conf.turn ≡ None) (call : Current)
      (is : ready (conf.cpu at) ≡ Some call) where
    pub may_take : MayTake conf at
    may_take = record {
      is_cpu = is_cpu;
      free = free;
      call = call;
      is_ready = is;
      granted = (is_ready call is).granted;
      all_pinned = (is_ready call is).pinned;
    }

    begun_act : HasNotBegun (taken conf at) at
    begun_act = record {
      holder = new_holder at;
      call = call;
      has_turn = record { turn = refl; its_cpu = refl };
      in_act = record {
        is_current = ap (λ (cpu : Cpu). cpu.current) (put_here conf.cpu at _) ∙ is;
        at_stage = (is_ready call is).stage;
      };
      owes_nothing = λ i. refl;
      unrevived = refl;
      not_acted = refl;
      no_part = refl;
      none_killed = none_some (present conf) conf.index conf.dead sound.valid.valid (λ serial. none_free free serial (killed_in (present conf) conf.index conf.dead serial) refl);
    }

    -- the turn is taken, and the act may begin
    pub take_leads : Leads conf (taking at conf) (λ new. new ≡ taken conf at)
    unfolding taking
    take_leads = record { done = (may_take, tt); behind = refl }

    pub take_begins : HasNotBegun (taken conf at) at
    take_begins = begun_act

-- Free

-- a call has ended whole: its CPU is between calls, the turn is free, and objects lie in their blocks
abbrev pub HasEnded : ℕ → Config → Type 0
HasEnded at new = IsUnpinning new at None [] × HasBlocks new

-- the holder's act has come to its end
pub record HasActed (conf : Config) (at : ℕ) : Type 0 where
  pub sound : IsSound conf
  pub is_cpu : at < CPUS
  pub holder : Holder
  pub call : Current
  pub has_turn : HasTurn conf at holder
  pub in_act : IsIn (conf.cpu at) call AtAct
  pub owes_nothing : OwesNothing holder
  pub none_killed : NoneKilled (present conf) conf.index conf.dead
  pub has_ended : is_some (ending conf at holder call) ≡ true
  pub blocks : HasBlocks conf

module _ (conf : Config) (at : ℕ) (acted : HasActed conf at) where
  may_end : MayEnd conf at
  may_end = record {
    is_cpu = acted.is_cpu;
    holder = acted.holder;
    call = acted.call;
    has_turn = acted.has_turn;
    in_act = acted.in_act;
    owes_nothing = acted.owes_nothing;
    none_killed = none_some (present conf) conf.index conf.dead acted.sound.valid.valid acted.none_killed;
    has_ended = acted.has_ended;
  }

  abbrev EndsWith : Cpu → Type 0
  EndsWith cpu = (cpu.current ≡ None) × (cpu.pins ≡ (conf.cpu at).pins)

  ends_by : (found : Option Ending) → is_some found ≡ true → EndsWith (with_ending at (conf.cpu at) acted.call found)
  ends_by None some = absurd (let never : ⊥ = cc in never)
  ends_by (Some one) some = (refl, refl)

  ends_there : EndsWith ((ended conf at).cpu at)
  ends_there =
      let new : (ended conf at).cpu at ≡ with_ending at (conf.cpu at) acted.call (ending conf at acted.holder acted.call) =
      put_here conf.cpu at (end_call conf at conf.turn (conf.cpu at).current)
      ∙ ap (λ (turn : Option Holder). end_call conf at turn (conf.cpu at).current) acted.has_turn.turn
      ∙ ap (end_call conf at (Some acted.holder)) acted.in_act.is_current in
      subst EndsWith (sym new) (ends_by (ending conf at acted.holder acted.call) acted.has_ended)

  ended_unpins : IsUnpinning (ended conf at) at None (conf.cpu at).pins
  ended_unpins = record {
    is_cpu = acted.is_cpu;
    turn_is = refl;
    ended = ends_there.0;
    held = ends_there.1;
    within = λ i pin is. pin_within conf at i pin acted.sound is;
  }

  unpins_leads : Leads conf (and_then (freeing at) (unpins at) conf) (λ new. IsUnpinning new at None [])
  unfolding freeing
  unpins_leads =
      leads_then (freeing at) (unpins at) conf (λ new. IsUnpinning new at None (conf.cpu at).pins) (λ new. IsUnpinning new at None [])
      (record { done = (may_end, tt); behind = ended_unpins })
      (λ new has. unpins_lead new at None (conf.cpu at).pins has)

  all_quiet : list_all is_quiet (and_then (freeing at) (unpins at) conf) ≡ true
  unfolding and_then freeing unpins
  all_quiet = pins_quiet at ((ended conf at).cpu at).pins

  -- the turn is given back with the call's end, and the pins go
  pub free_leads : Leads conf (and_then (freeing at) (unpins at) conf) (HasEnded at)
  free_leads = record {
    done = unpins_leads.done;
    behind = (unpins_leads.behind, quiet_blocks conf (and_then (freeing at) (unpins at) conf) all_quiet acted.blocks);
  }
