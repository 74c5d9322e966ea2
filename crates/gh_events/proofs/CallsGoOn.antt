-- The events of a call that leave the finished calls keep sound calls.
use Rattle.std.proofs.Common.{◌≡◌, ◌==◌, ◌+◌, ◌*◌, ◌-◌, ◌∙◌, ℕ, true, false, not, List, [], ◌∷◌, refl, subst, sym, ap, arith, Option, Some, None, count_by, map, is_some, option_map}
use Rattle.std.specs.List.{last_or, list_any}
use Rattle.gh_base.specs.declared.cap_word.Need.{Need}
use Rattle.gh_model.specs.Marks.{Seen, has_looks, failure, outcome}
use Rattle.gh_model.specs.Registers.{needs_of}
use Rattle.gh_events.specs.Calls.{CurrentIs, DeathIs, HasCalls, NextIs, came_fits, is_dying, looks_fit, needs_fit, pinned_looks, section_behind, steps, steps_at}
use Rattle.gh_events.specs.CallEvents.{MayEnter, MayUndo, MayUnpin, at_stage, begun, entered, undone, unpinned, without_pin}
use Rattle.gh_events.specs.Config.{AtAct, Config, Cpu, Current, DeadPin, IsIn, Pin, Reading, Stage, Undone, came_to, is_pin_at, pin_of, put}
use Rattle.gh_events.proofs.CallMoves.{CallGoesOn, on_sound}
use Rattle.gh_events.proofs.CallsKeep.{stage_number}
use Rattle.gh_events.proofs.CpuMoves.{with_part}
use Rattle.gh_events.proofs.Finding.{put_here, put_other}

-- a CPU without a call in progress isn't at its act
pub none_acts : (current : Option Current) (call : Current) → current ≡ None → current ≡ Some call → ⊥
none_acts None call none is = let never : ⊥ = cc in never
none_acts (Some other) call none is = let never : ⊥ = cc in never

-- no look came to a refusal yet
none_failed : (needs : List (ℕ × Need)) → failure (outcome needs []) ≡ None
none_failed [] = refl
none_failed (need ∷ needs) = refl

-- Enter

module _ (conf : Config) (at : ℕ) (sound : HasCalls conf) (may : MayEnter conf at) where
  entering : Cpu
  entering = record (conf.cpu at) {
    next = None;
    current = option_map (begun (conf.counter at + 1) Reading) (conf.cpu at).next;
  }

  first : Current
  first = begun (conf.counter at + 1) Reading may.given

  next_is : NextIs (conf.cpu at) may.given
  next_is = (sound.calls at).next may.given may.next

  is_first : option_map (begun (conf.counter at + 1) Reading) (conf.cpu at).next ≡ Some first
  unfolding first
  is_first = ap (option_map (begun (conf.counter at + 1) Reading)) may.next

  counter_is : conf.counter at ≡ 2 * count_by has_looks (conf.cpu at).made
  counter_is =
      let none : steps (conf.cpu at).current ≡ 0 = ap steps may.between.none in
      let all : conf.counter at ≡ 2 * count_by has_looks (conf.cpu at).made + steps (conf.cpu at).current = sound.counters at in
      omega (arith, none, all)

  first_section : conf.counter at + 1 ≡ section_behind (conf.cpu at).made may.given
  first_section = rw may.looks (ap (λ (n : ℕ). n + 1) counter_is)

  first_is : CurrentIs conf.boot conf.history conf.index conf.dead at entering first
  unfolding entering first
  first_is = record {
    follows = next_is.follows;
    section = first_section;
    looks = λ i seen is. absurd (let never : ⊥ = cc in never);
    came = ap (λ (failed : Option _). not (is_some failed)) (none_failed (needs_of may.given.call));
    looked = refl;
    needs = may.looks;
    pinned = next_is.dropped;
    dies = λ seen dying last. absurd (let never : ⊥ = cc in never);
  }

  enter_on : CallGoesOn conf at entering (put conf.counter at (conf.counter at + 1))
  unfolding entering first
  enter_on = record {
    other = λ call acts. none_acts (conf.cpu at).current call may.between.none acts.is_current;
    same = refl;
    counts =
        let one : steps (option_map (begun (conf.counter at + 1) Reading) (conf.cpu at).next) ≡ 1 = ap steps is_first in
        let new : put conf.counter at (conf.counter at + 1) at ≡ conf.counter at + 1 = put_here conf.counter at (conf.counter at + 1) in
        omega (arith, one, new, counter_is);
    counters = λ n differs. put_other conf.counter at (conf.counter at + 1) n differs;
    current = λ call is.
        let same : Some first ≡ Some call = sym is_first ∙ is in
        let equal : first ≡ call = cc in
        subst (λ (one : Current). CurrentIs conf.boot conf.history conf.index conf.dead at entering one) equal first_is;
    next = λ given is. absurd (let never : ⊥ = cc in never);
    idle = λ none. absurd (let idle : (conf.cpu at).next ≡ None = ((sound.calls at).idle none).next in let given : (conf.cpu at).next ≡ Some may.given = may.next in let never : ⊥ = cc in never);
  }

  -- a call that enters its section keeps sound calls
  pub enter_keeps_calls : HasCalls (entered conf at)
  unfolding entering
  enter_keeps_calls =
      on_sound conf at entering conf.count (put conf.counter at (conf.counter at + 1)) enter_on sound

-- A call goes on to another stage

-- a call in progress at another stage, with these pins
abbrev pub staged : Cpu → Stage → List Pin → Cpu
staged cpu stage pins =
    record cpu { current = option_map (at_stage stage) cpu.current; pins = pins }

-- what the step needs: the call isn't at its act, and the new stage tells what its looks came to
pub record StageMoves (conf : Config) (at : ℕ) (call : Current) (stage : Stage) (pins : List Pin)
    (counter : ℕ → ℕ) : Type 0 where
  pub is_current : (conf.cpu at).current ≡ Some call
  pub no_act : call.stage ≡ AtAct → ⊥
  pub came : came_fits stage (came_to call) ≡ true
  pub looked : looks_fit stage call.seen ≡ true
  pub needs : needs_fit stage call.given ≡ true
  pub pinned : pins ≡ map pin_of (pinned_looks stage call.seen)
  pub dies : (seen : Seen) → is_dying stage ≡ true → last_or None call.seen ≡ Some seen
      → DeathIs conf.boot conf.history conf.index conf.dead seen
  pub counts : counter at ≡ 2 * count_by has_looks (conf.cpu at).made + steps_at stage call.given
  pub counters : (n : ℕ) → (n == at) ≡ false → counter n ≡ conf.counter n

module _ (conf : Config) (at : ℕ) (call : Current) (stage : Stage) (pins : List Pin)
    (count counter : ℕ → ℕ) (moves : StageMoves conf at call stage pins counter)
    (sound : HasCalls conf) where
  now : CurrentIs conf.boot conf.history conf.index conf.dead at (conf.cpu at) call
  now = (sound.calls at).current call moves.is_current

  is_staged : option_map (at_stage stage) (conf.cpu at).current ≡ Some (at_stage stage call)
  is_staged = ap (option_map (at_stage stage)) moves.is_current

  new_is : CurrentIs conf.boot conf.history conf.index conf.dead at (staged (conf.cpu at) stage pins)
      (at_stage stage call)
  new_is = record {
    follows = now.follows;
    section = now.section;
    looks = now.looks;
    came = moves.came;
    looked = moves.looked;
    needs = moves.needs;
    pinned = moves.pinned;
    dies = moves.dies;
  }

  in_progress : (other : Current) → (conf.cpu at).current ≡ Some other → call ≡ other
  in_progress other is = let same : Some call ≡ Some other = sym moves.is_current ∙ is in cc

  stage_on : CallGoesOn conf at (staged (conf.cpu at) stage pins) counter
  stage_on = record {
    other = λ other acts. moves.no_act (ap (λ (one : Current). one.stage) (in_progress other acts.is_current) ∙ acts.at_stage);
    same = refl;
    counts =
        let same : steps (option_map (at_stage stage) (conf.cpu at).current) ≡ steps_at stage call.given = ap steps is_staged in
        let all : counter at ≡ 2 * count_by has_looks (conf.cpu at).made + steps_at stage call.given = moves.counts in
        omega (arith, same, all);
    counters = moves.counters;
    current = λ other is.
        let same : Some (at_stage stage call) ≡ Some other = sym is_staged ∙ is in
        let equal : at_stage stage call ≡ other = cc in
        subst (λ (one : Current). CurrentIs conf.boot conf.history conf.index conf.dead at (staged (conf.cpu at) stage pins) one) equal new_is;
    next = λ given is. absurd (none_acts (conf.cpu at).current call ((sound.calls at).next given is).none moves.is_current);
    idle = λ none. absurd (none_acts (conf.cpu at).current call ((sound.calls at).idle none).current moves.is_current);
  }

  -- the calls stay sound
  pub stage_sound : HasCalls (with_part conf at (staged (conf.cpu at) stage pins) count counter)
  stage_sound = on_sound conf at (staged (conf.cpu at) stage pins) count counter stage_on sound

-- what a call's stage tells, at the stage that it is known to be at
module _ (conf : Config) (at : ℕ) (sound : HasCalls conf) (call : Current) (stage : Stage)
    (is_in : IsIn (conf.cpu at) call stage) where
  abbrev Now : Type 0
  Now = CurrentIs conf.boot conf.history conf.index conf.dead at (conf.cpu at) call

  its_call : Now
  its_call = (sound.calls at).current call is_in.is_current

  pub its_came : came_fits stage (came_to call) ≡ true
  its_came = subst (λ (one : Stage). came_fits one (came_to call) ≡ true) is_in.at_stage its_call.came

  pub its_looked : looks_fit stage call.seen ≡ true
  its_looked = subst (λ (one : Stage). looks_fit one call.seen ≡ true) is_in.at_stage its_call.looked

  pub its_needs : needs_fit stage call.given ≡ true
  its_needs = subst (λ (one : Stage). needs_fit one call.given ≡ true) is_in.at_stage its_call.needs

  pub its_pinned : (conf.cpu at).pins ≡ map pin_of (pinned_looks stage call.seen)
  its_pinned = subst (λ (one : Stage). (conf.cpu at).pins ≡ map pin_of (pinned_looks one call.seen)) is_in.at_stage its_call.pinned

  pub its_death : (seen : Seen) → is_dying stage ≡ true → last_or None call.seen ≡ Some seen
      → DeathIs conf.boot conf.history conf.index conf.dead seen
  its_death seen dying last =
      its_call.dies seen (subst (λ (one : Stage). is_dying one ≡ true) (sym is_in.at_stage) dying) last

  pub its_counter : conf.counter at ≡ 2 * count_by has_looks (conf.cpu at).made + steps_at stage call.given
  its_counter =
      let one : steps (conf.cpu at).current ≡ steps_at call.stage call.given = ap steps is_in.is_current in
      let two : steps_at call.stage call.given ≡ steps_at stage call.given = ap (λ (one : Stage). steps_at one call.given) is_in.at_stage in
      let all : conf.counter at ≡ 2 * count_by has_looks (conf.cpu at).made + steps (conf.cpu at).current = sound.counters at in
      omega (arith, one, two, all)

-- Undo

-- a call that undoes its pin on a dead word keeps sound calls
pub undo_keeps_calls : (conf : Config) (at object : ℕ) → HasCalls conf → MayUndo conf at object
    → HasCalls (undone conf at object)
undo_keeps_calls conf at object sound may =
    stage_sound conf at may.call Undone (conf.cpu at).pins (put conf.count object (conf.count object - 1)) conf.counter record {
      is_current = may.dead.is_current;
      no_act = λ acts. let never : DeadPin ≡ AtAct = sym may.dead.at_stage ∙ acts in dead_no_act never;
      came = its_came conf at sound may.call DeadPin may.dead;
      looked = its_looked conf at sound may.call DeadPin may.dead;
      needs = its_needs conf at sound may.call DeadPin may.dead;
      pinned = its_pinned conf at sound may.call DeadPin may.dead;
      dies = λ seen dying last. its_death conf at sound may.call DeadPin may.dead seen refl last;
      counts = its_counter conf at sound may.call DeadPin may.dead;
      counters = λ n differs. refl;
    } sound
  where
    dead_no_act : DeadPin ≡ AtAct → ⊥
    dead_no_act is = let never : 2 ≡ 5 = ap stage_number is in cc

-- Unpin

no_pin : (at : ℕ) (pins : List Pin) → pins ≡ [] → list_any (is_pin_at at) pins ≡ true → ⊥
no_pin at [] none held = let never : ⊥ = cc in never
no_pin at (pin ∷ pins) none held = let never : ⊥ = cc in never

unpinned_cpu : Cpu → ℕ → Cpu
unpinned_cpu cpu object = record cpu { pins = without_pin object cpu.pins }

-- a pin that is dropped behind the end of its call keeps sound calls
pub unpin_keeps_calls : (conf : Config) (at object : ℕ) → HasCalls conf → MayUnpin conf at object
    → HasCalls (unpinned conf at object)
unfolding unpinned_cpu
unpin_keeps_calls conf at object sound may =
    on_sound conf at (unpinned_cpu (conf.cpu at) object) (put conf.count object (conf.count object - 1)) conf.counter record {
      other = λ call acts. none_acts (conf.cpu at).current call may.ended acts.is_current;
      same = refl;
      counts = sound.counters at;
      counters = λ n differs. refl;
      current = λ call is. absurd (none_acts (conf.cpu at).current call may.ended is);
      next = λ given is. absurd (no_pin object (conf.cpu at).pins ((sound.calls at).next given is).dropped may.held);
      idle = λ none. absurd (no_pin object (conf.cpu at).pins ((sound.calls at).idle none).pins may.held);
    } sound
