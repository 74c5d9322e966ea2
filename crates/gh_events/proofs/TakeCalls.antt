-- A CPU that takes the turn keeps sound calls.
use Rattle.std.proofs.Common.{◌≡◌, ◌+◌, ◌*◌, ◌∙◌, ◌⊎◌, inl, inr, ℕ, Bool, true, false, List, [], ◌∷◌, ◌++◌, refl, subst, sym, ap, arith, Option, Some, None, count_by, is_some, map, if◌then◌else◌}
use Rattle.std.proofs.lemmas.Bool.Decides.{eqb_tells}
use Rattle.std.proofs.lemmas.List.{append-nil}
use Rattle.gh_model.specs.History as history
use Rattle.gh_model.specs.Legal.{CallIs, EntryIs, GoesOn, IsEndOf, IsNumbered, LookIs}
use Rattle.gh_model.specs.Marks.{InTurn, Made, cspace_of, has_looks, place_after}
use Rattle.gh_model.specs.Registers.{needs_of}
use Rattle.gh_model.specs.Rows.{cpu_row}
use Rattle.gh_model.specs.declared.entry.Entry.{Entry}
use Rattle.gh_model.specs.declared.entry.Entry.TheVariants.{Acted, Part, Retired, Reclaimed}
use Rattle.gh_events.specs.Calls.{CurrentIs, GivenIs, HasCalls, IsActing, IsIdle, NextIs, Waits, calls_in, calls_of, came_fits, counted, is_dying, looks_fit, needs_fit, pinned_looks, section_behind, steps, steps_at}
use Rattle.gh_events.specs.CallEvents.{begun, has_grants, has_needs}
use Rattle.gh_events.specs.Config.{AtAct, Config, Cpu, Current, DeadPin, Failed, Given, Holder, IsIn, Looked, Pin, Reading, Stage, Undone, came_to, has_acted, pin_of, put}
use Rattle.gh_events.specs.TurnEvents.{MayTake, call_at_act, if_at_act, new_holder, ready, taken}
use Rattle.gh_events.proofs.CallMoves.{DeathsAre}
use Rattle.gh_events.proofs.CallsGoOn.{none_acts}
use Rattle.gh_events.proofs.Finding.{put_here, put_other}
use Rattle.gh_events.proofs.HolderCalls.{none_committed}

-- where a call at its act comes from: it was in progress, or it is the next one and has no looks
pub data Comes (cpu : Cpu) (call : Current) : Type 0 where
  Was : IsIn cpu call AtAct → Comes cpu call
  Begins : (given : Given) → cpu.current ≡ None → cpu.next ≡ Some given → has_needs given ≡ false
      → call ≡ begun 0 AtAct given → Comes cpu call

at_act_only : (stage : Stage) (call other : Current) → if_at_act stage call ≡ Some other
    → (stage ≡ AtAct) × (call ≡ other)
at_act_only AtAct call other is = (refl, (let same : call ≡ other = cc in same))
at_act_only Reading call other is = absurd (let never : ⊥ = cc in never)
at_act_only Looked call other is = absurd (let never : ⊥ = cc in never)
at_act_only DeadPin call other is = absurd (let never : ⊥ = cc in never)
at_act_only Undone call other is = absurd (let never : ⊥ = cc in never)
at_act_only Failed call other is = absurd (let never : ⊥ = cc in never)

begins_by : (cpu : Cpu) (given : Given) (call : Current) (needs : Bool) → has_needs given ≡ needs
    → cpu.current ≡ None → cpu.next ≡ Some given
    → (if needs then None else Some (begun 0 AtAct given)) ≡ Some call → Comes cpu call
begins_by cpu given call true needs none next is = absurd (let never : ⊥ = cc in never)
begins_by cpu given call false needs none next is =
    Begins given none next needs (let same : begun 0 AtAct given ≡ call = cc in sym same)

pub comes_by : (cpu : Cpu) (call : Current) (current : Option Current) (pins : List Pin)
    (next : Option Given) → cpu.current ≡ current → cpu.next ≡ next
    → call_at_act current pins next ≡ Some call → Comes cpu call
comes_by cpu call (Some one) pins next was given is =
    let both = at_act_only one.stage one call is in
    Was record {
      is_current = was ∙ ap Some both.1;
      at_stage = ap (λ (c : Current). c.stage) (sym both.1) ∙ both.0;
    }
comes_by cpu call None [] None was given is = absurd (let never : ⊥ = cc in never)
comes_by cpu call None [] (Some one) was given is =
    begins_by cpu one call (has_needs one) refl was given is
comes_by cpu call None (pin ∷ pins) next was given is = absurd (let never : ⊥ = cc in never)

module _ (conf : Config) (at : ℕ) (sound : HasCalls conf) (may : MayTake conf at) where
  taker : Cpu
  taker = record (conf.cpu at) {
    next = if is_some (conf.cpu at).current then (conf.cpu at).next else None;
    current = ready (conf.cpu at);
  }

  comes : Comes (conf.cpu at) may.call
  comes = comes_by (conf.cpu at) may.call (conf.cpu at).current (conf.cpu at).pins (conf.cpu at).next refl refl may.is_ready

  -- the call's number, frame, section and looks are those that it had, or those of its begin
  record IsReady : Type 0 where
    follows : GivenIs (conf.cpu at).made may.call.given
    section : may.call.section ≡ section_behind (conf.cpu at).made may.call.given
    looks : InTurn (LookIs conf.boot conf.history (cspace_of conf.boot at) (place_after (conf.cpu at).made) (needs_of may.call.given.call)) may.call.seen
    acts : may.call.stage ≡ AtAct
    steps_are : steps_at AtAct may.call.given ≡ steps (conf.cpu at).current

  abbrev Begun : Current → Type 0
  Begun call = InTurn (LookIs conf.boot conf.history (cspace_of conf.boot at) (place_after (conf.cpu at).made) (needs_of call.given.call)) call.seen

  is_ready : Comes (conf.cpu at) may.call → IsReady
  is_ready (Was in_act) =
      let now : CurrentIs conf.boot conf.history conf.index conf.dead at (conf.cpu at) may.call = (sound.calls at).current may.call in_act.is_current in
      record {
        follows = now.follows;
        section = now.section;
        looks = now.looks;
        acts = in_act.at_stage;
        steps_are = ap (λ (stage : Stage). steps_at stage may.call.given) (sym in_act.at_stage) ∙ ap steps (sym in_act.is_current);
      }
  is_ready (Begins given none next no_needs same) =
      let follows : GivenIs (conf.cpu at).made given = ((sound.calls at).next given next).follows in
      let its : may.call.given ≡ given = ap (λ (one : Current). one.given) same in
      let zero : section_behind (conf.cpu at).made given ≡ 0 = rw no_needs refl in
      let still : steps_at AtAct given ≡ 0 = rw no_needs refl in
      record {
        follows = subst (λ (one : Given). GivenIs (conf.cpu at).made one) (sym its) follows;
        section = ap (λ (one : Current). one.section) same ∙ sym zero ∙ ap (section_behind (conf.cpu at).made) (sym its);
        looks = subst Begun (sym same) (λ i seen is. absurd (let never : ⊥ = cc in never));
        acts = ap (λ (one : Current). one.stage) same;
        steps_are = ap (steps_at AtAct) its ∙ still ∙ ap steps (sym none);
      }

  ready_now : IsReady
  ready_now = is_ready comes

  taker_current : CurrentIs conf.boot conf.history conf.index conf.dead at taker may.call
  unfolding taker
  taker_current = record {
    follows = ready_now.follows;
    section = ready_now.section;
    looks = ready_now.looks;
    came = subst (λ (stage : Stage). came_fits stage (came_to may.call) ≡ true) (sym ready_now.acts) (ap has_grants may.granted);
    looked = subst (λ (stage : Stage). looks_fit stage may.call.seen ≡ true) (sym ready_now.acts) refl;
    needs = subst (λ (stage : Stage). needs_fit stage may.call.given ≡ true) (sym ready_now.acts) refl;
    pinned = subst (λ (stage : Stage). (conf.cpu at).pins ≡ map pin_of (pinned_looks stage may.call.seen)) (sym ready_now.acts) may.all_pinned;
    dies = λ seen dying last.
        let never : is_dying AtAct ≡ true = subst (λ (stage : Stage). is_dying stage ≡ true) ready_now.acts dying in
        absurd (let no : ⊥ = cc in no);
  }

  no_next : (current : Option Current) (next : Option Given) (given : Given)
      → (next ≡ Some given → current ≡ None) → (if is_some current then next else None) ≡ Some given → ⊥
  no_next None next given none is = let never : ⊥ = cc in never
  no_next (Some call) next given none is = let gone : Some call ≡ None = none is in let never : ⊥ = cc in never

  not_idle : (cpu : Cpu) → IsIdle cpu → Comes cpu may.call → ⊥
  not_idle cpu idle (Was in_act) = none_acts cpu.current may.call idle.current in_act.is_current
  not_idle cpu idle (Begins given none next no_needs same) =
      let gone : cpu.next ≡ None = idle.next in let never : ⊥ = cc in never

  abbrev after : Config
  after = taken conf at

  -- no act is committed at a turn's begin, nor was one while the turn was free
  calls_are_made : (turn : Option Holder) (n : ℕ) (cpu : Cpu) → ((holder : Holder) → turn ≡ Some holder → has_acted holder ≡ false)
      → calls_of conf.boot conf.history turn n cpu ≡ cpu.made
  calls_are_made turn n cpu none =
      ap (λ (more : List Made). cpu.made ++ more) (none_committed conf.boot conf.history turn n cpu.current none) ∙ append-nil cpu.made

  old_none : (holder : Holder) → conf.turn ≡ Some holder → has_acted holder ≡ false
  old_none holder is = let free : conf.turn ≡ None = may.free in absurd (let never : ⊥ = cc in never)

  new_none : (holder : Holder) → Some (new_holder at) ≡ Some holder → has_acted holder ≡ false
  new_none holder is = let same : new_holder at ≡ holder = cc in ap has_acted (sym same)

  made_same : (n : ℕ) → (put conf.cpu at taker n).made ≡ (conf.cpu n).made
  unfolding taker
  made_same n =
      elim (eqb_tells n at) as (λ _. (put conf.cpu at taker n).made ≡ (conf.cpu n).made) [
        | inl same ↦
            subst (λ (i : ℕ). (put conf.cpu at taker i).made ≡ (conf.cpu i).made) (sym same.1) here
        | inr differs ↦ ap (λ (one : Cpu). one.made) (put_other conf.cpu at taker n differs.0)
      ]
    where
      here : (put conf.cpu at taker at).made ≡ (conf.cpu at).made
      here = ap (λ (one : Cpu). one.made) (put_here conf.cpu at taker)

  calls_same : (n : ℕ) → calls_of conf.boot conf.history (Some (new_holder at)) n (put conf.cpu at taker n) ≡ calls_in conf n
  calls_same n =
      calls_are_made (Some (new_holder at)) n (put conf.cpu at taker n) new_none ∙ made_same n
      ∙ sym (calls_are_made conf.turn n (conf.cpu n) old_none)

  -- the rest of a CPU's calls
  record IsRest (n : ℕ) (cpu : Cpu) : Type 0 where
    current : (call : Current) → cpu.current ≡ Some call → CurrentIs conf.boot conf.history conf.index conf.dead n cpu call
    next : (given : Given) → cpu.next ≡ Some given → NextIs cpu given
    idle : cpu_row conf.boot n ≡ None → IsIdle cpu
    counts : conf.counter n ≡ counted cpu

  rest_here : IsRest at taker
  unfolding taker
  rest_here = record {
    current = λ call is.
        let same : Some may.call ≡ Some call = sym may.is_ready ∙ is in
        let equal : may.call ≡ call = cc in
        subst (λ (one : Current). CurrentIs conf.boot conf.history conf.index conf.dead at taker one) equal taker_current;
    next = λ given is. absurd (no_next (conf.cpu at).current (conf.cpu at).next given (λ next. ((sound.calls at).next given next).none) is);
    idle = λ none. absurd (not_idle (conf.cpu at) ((sound.calls at).idle none) comes);
    counts =
        let new : steps (ready (conf.cpu at)) ≡ steps_at may.call.stage may.call.given = ap steps may.is_ready in
        let acts : steps_at may.call.stage may.call.given ≡ steps_at AtAct may.call.given = ap (λ (stage : Stage). steps_at stage may.call.given) ready_now.acts in
        let were : steps_at AtAct may.call.given ≡ steps (conf.cpu at).current = ready_now.steps_are in
        let old : conf.counter at ≡ 2 * count_by has_looks (conf.cpu at).made + steps (conf.cpu at).current = sound.counters at in
        omega (arith, new, acts, were, old);
  }

  rest : (n : ℕ) → IsRest n (put conf.cpu at taker n)
  rest n =
      elim (eqb_tells n at) as (λ _. IsRest n (put conf.cpu at taker n)) [
        | inl same ↦
            subst (λ (i : ℕ). IsRest i (put conf.cpu at taker i)) (sym same.1)
            (subst (IsRest at) (sym (put_here conf.cpu at taker)) rest_here)
        | inr differs ↦
            subst (IsRest n) (sym (put_other conf.cpu at taker n differs.0))
            record {
              current = (sound.calls n).current;
              next = (sound.calls n).next;
              idle = (sound.calls n).idle;
              counts = sound.counters n;
            }
      ]

  take_entry : (n : ℕ) (event : history.Event) (entry : Entry)
      → EntryIs conf.boot conf.history (calls_in conf) n event entry
      → EntryIs conf.boot conf.history (calls_in after) n event entry
  unfolding taker
  take_entry n event (Acted of number) is =
      subst (λ (calls : List Made). IsEndOf calls number (n + 1)) (sym (calls_same of.0)) is
  take_entry n event (Part of number space slot) is = is
  take_entry n event (Retired serial seen) is = is
  take_entry n event (Reclaimed serial seen) is = is

  take_part : (n : ℕ) (event : history.Event)
      → GoesOn conf.boot conf.history n event ⊎ Waits conf.history conf.turn conf.cpu n event
      → GoesOn conf.boot conf.history n event ⊎ Waits conf.history (Some (new_holder at)) (put conf.cpu at taker) n event
  take_part n event (inl on) = inl on
  take_part n event (inr waits) =
      let free : conf.turn ≡ None = may.free in
      let held : conf.turn ≡ Some waits.holder = waits.has_turn in
      absurd (let never : ⊥ = cc in never)

  take_acts : (holder : Holder) → Some (new_holder at) ≡ Some holder → IsActing (put conf.cpu at taker) holder
  unfolding taker
  take_acts holder is =
      let same : new_holder at ≡ holder = cc in
      let number : at ≡ holder.cpu = ap (λ (one : Holder). one.cpu) same in
      record {
        call = may.call;
        in_act = subst (λ (n : ℕ). IsIn (put conf.cpu at taker n) may.call AtAct) number
            (subst (λ (one : Cpu). IsIn one may.call AtAct) (sym (put_here conf.cpu at taker)) record { is_current = may.is_ready; at_stage = ready_now.acts });
      }

  take_deaths : (n : ℕ) → DeathsAre conf (put conf.cpu at taker n).made
  take_deaths n = subst (DeathsAre conf) (sym (made_same n)) (sound.entries.deaths n)

  -- a CPU that takes the turn keeps sound calls
  pub take_keeps_calls : HasCalls (taken conf at)
  unfolding taker
  take_keeps_calls = record {
    calls = λ n. record {
      finished = subst (λ (calls : List Made). InTurn (CallIs conf.boot conf.history n) calls) (sym (calls_same n)) (sound.calls n).finished;
      numbered = subst (λ (calls : List Made). InTurn IsNumbered calls) (sym (calls_same n)) (sound.calls n).numbered;
      current = (rest n).current;
      next = (rest n).next;
      idle = (rest n).idle;
    };
    counters = λ n. (rest n).counts;
    entries = record {
      acting = take_acts;
      entries = λ n event is. take_entry n event event.entry (sound.entries.entries n event is);
      parts = λ n event is part. take_part n event (sound.entries.parts n event is part);
      untaken = λ closed. sound.entries.untaken (rw may.free refl);
      unreferenced = sound.entries.unreferenced;
      deaths = take_deaths;
    };
  }
