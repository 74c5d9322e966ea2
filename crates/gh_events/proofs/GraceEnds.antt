-- A turn that is taken, and one that is given back with its call ended, keep grace.
use Rattle.std.proofs.Common.{◌≡◌, ◌==◌, ◌<◌, ◌∙◌, ℕ, Bool, true, false, List, [], ◌∷◌, ◌⊎◌, inl, inr, refl, sym, ap, arith, Option, Some, None, is_some, if◌then◌else◌}
use Rattle.std.specs.Prelude.{slice_index, ◌-◌}
use Rattle.std.specs.List.{list_any}
use Rattle.gh_base.specs.declared.call.Call.{Call}
use Rattle.gh_base.specs.declared.frame.Reply.{Reply}
use Rattle.gh_base.specs.declared.limits.TheConstants.{CPUS}
use Rattle.gh_base.specs.declared.mark.End.{End}
use Rattle.gh_base.specs.declared.mark.End.TheVariants as finish
use Rattle.gh_base.specs.declared.mark.Held.{Held}
use Rattle.gh_model.specs.Act.{Verdict, Done, Refused}
use Rattle.gh_model.specs.Graced.{finds, granting}
use Rattle.gh_model.specs.History.{state_at}
use Rattle.gh_model.specs.Legal.{is_short}
use Rattle.gh_model.specs.Marks.{Seen, place}
use Rattle.gh_model.specs.declared.state.State.{State}
use Rattle.gh_events.specs.CallEvents.{begun, finished, has_needs}
use Rattle.gh_events.specs.Config.{AtAct, Config, Cpu, Current, Given, Holder, Pin, Stage, came_to, entries, has_acted, has_part, judged, present}
use Rattle.gh_events.specs.Entries.{is_that_index}
use Rattle.gh_events.specs.Grace.{AreRevived, CpuGrace, HasGrace, entered_now, granting_at, is_open_at, objects_of, open_now, scan_of}
use Rattle.gh_events.specs.TurnEvents.{Ending, MayEnd, MayTake, acted_ending, call_at_act, causes, has_causes, refused_ending, short_ending, end_call, ended, ending, if_lookless, new_holder, ready, taken, with_ending}
use Rattle.gh_events.proofs.CpuMoves.{with_part}
use Rattle.gh_events.proofs.GraceCalls.{Begins, Ends, begins, closed_one, ends, same_calls}
use Rattle.gh_events.proofs.GraceEvents.{same_part}
use Rattle.gh_events.proofs.GraceFrames.{part_graced, turn_graced}
use Rattle.gh_events.proofs.GraceScans.{free_graced}
use Rattle.gh_events.proofs.LeaveKeeps.{no_call}
use Rattle.gh_events.proofs.TakeKeeps.{at_act_same, stage_ready}

-- Take

-- the call that is ready was the one in progress, or begins without looks
pub record IsNewCall (current : Option Current) (call : Current) : Type 0 where
  pub given : Given
  pub none : current ≡ None
  pub is : begun 0 AtAct given ≡ call

lookless_new : (looks : Bool) (given : Given) (call : Current)
    → (if looks then None else Some (begun 0 AtAct given)) ≡ Some call → begun 0 AtAct given ≡ call
lookless_new true given call is = absurd (no_call call is)
lookless_new false given call is = cc

next_new : (next : Option Given) (call : Current) → if_lookless next ≡ Some call → IsNewCall None call
next_new None call is = absurd (no_call call is)
next_new (Some given) call is =
    record { given = given; none = refl; is = lookless_new (has_needs given) given call is }

pub ready_new : (current : Option Current) (pins : List Pin) (next : Option Given) (call : Current)
    → call_at_act current pins next ≡ Some call → (current ≡ Some call) ⊎ IsNewCall current call
ready_new (Some before) pins next call is =
    let at : before.stage ≡ AtAct = stage_ready before.stage before call refl is in
    let same : before ≡ call = at_act_same before.stage before call at is in
    inl (ap (λ (one : Current). Some one) same)
ready_new None [] next call is = inr (next_new next call is)
ready_new None (pin ∷ pins) next call is = absurd (no_call call is)

module _ (conf : Config) (at : ℕ) (graced : HasGrace conf) (within : at < CPUS) (next : Cpu)
    (made : next.made ≡ (conf.cpu at).made) where
  new_call : (call : Current) → next.current ≡ Some call → IsNewCall (conf.cpu at).current call
      → Begins (objects_of conf) conf.history at (conf.cpu at) next (conf.counter at) (scan_of conf.turn at) (graced.each at within) (conf.counter at)
  new_call call now new =
      let is : next.current ≡ Some (begun 0 AtAct new.given) = now ∙ ap (λ (one : Current). Some one) (sym new.is) in
      let opens : open_now next.current ≡ 0 = ap open_now is in
      let enters : entered_now next.current ≡ 0 = ap entered_now is in
      record {
        call = begun 0 AtAct new.given;
        none = new.none;
        now = is;
        made = made;
        no_grant = refl;
        no_looks = λ serial. refl;
        rises = omega arith;
        counts = omega (arith, opens, enters);
        opened = λ opened. absurd (let never : ⊥ = cc in never);
        left = λ closed. inl refl;
      }

  taken_cpu : (call : Current) → next.current ≡ Some call
      → ((conf.cpu at).current ≡ Some call) ⊎ IsNewCall (conf.cpu at).current call
      → CpuGrace (objects_of conf) conf.history at next (conf.counter at) (scan_of conf.turn at)
  taken_cpu call now (inl same) =
      same_calls (objects_of conf) conf.history at (conf.cpu at) next (conf.counter at) (scan_of conf.turn at) (graced.each at within) (now ∙ sym same) made
  taken_cpu call now (inr new) =
      begins (objects_of conf) conf.history at (conf.cpu at) next (conf.counter at) (scan_of conf.turn at) (graced.each at within) (conf.counter at) (new_call call now new)

  pub taken_part : (call : Current) → next.current ≡ Some call
      → ((conf.cpu at).current ≡ Some call) ⊎ IsNewCall (conf.cpu at).current call
      → HasGrace (with_part conf at next conf.count conf.counter)
  taken_part call now new =
      part_graced conf at next conf.count conf.counter (same_part conf at next within (taken_cpu call now new)) graced

-- at its begin a turn has revived nothing
new_revived : (dead : ℕ → Bool) (at : ℕ) → AreRevived (Some (new_holder at)) dead
new_revived dead at holder i is acted revived =
    let same : new_holder at ≡ holder = cc in
    let none : false ≡ true = ap (λ (one : Holder). list_any (is_that_index i) one.revived) same ∙ revived in
    absurd (let never : ⊥ = cc in never)

module _ (conf : Config) (at : ℕ) (graced : HasGrace conf) where
  taking : Cpu
  taking = record (conf.cpu at) {
    next = if is_some (conf.cpu at).current then (conf.cpu at).next else None;
    current = ready (conf.cpu at);
  }

  -- a turn that is taken keeps grace
  pub take_graced : MayTake conf at → HasGrace (taken conf at)
  unfolding taking
  take_graced may =
      let part : HasGrace (with_part conf at taking conf.count conf.counter) = taken_part conf at graced may.is_cpu taking refl may.call may.is_ready (ready_new (conf.cpu at).current (conf.cpu at).pins (conf.cpu at).next may.call may.is_ready) in
      turn_graced (with_part conf at taking conf.count conf.counter) conf.count conf.dead (Some (new_holder at)) (record { killed = λ serial. refl; scans = λ cpu. sym (ap (λ (one : Option Holder). scan_of one cpu) may.free); held = λ held. refl; revived = new_revived conf.dead at }) part

-- Free behind the act

acts_end : (number : ℕ) (verdict : Verdict) (ending : Ending) → acted_ending number verdict ≡ Some ending
    → place ending.end ≡ Some number
acts_end number (Done new reply) ending is =
    let same : record { end = finish.Entry number; reply = reply } ≡ ending = cc in
    sym (ap (λ (one : Ending). place one.end) same)
acts_end number (Refused reply) ending is = absurd (let never : ⊥ = cc in never)

shorts_end : (short : Bool) (number : ℕ) (held : List Held) (reply : Reply) (ending : Ending)
    → (if short then Some (record { end = finish.Short number held; reply = reply }) else None) ≡ Some ending
    → place ending.end ≡ Some number
shorts_end true number held reply ending is =
    let same : record { end = finish.Short number held; reply = reply } ≡ ending = cc in
    sym (ap (λ (one : Ending). place one.end) same)
shorts_end false number held reply ending is = absurd (let never : ⊥ = cc in never)

refused_by : (none short : Bool) (holder : Holder) (s : State) (number : ℕ) (reply : Reply) (ending : Ending)
    → (if none then None else (if short then short_ending holder s number reply else Some (record { end = finish.Act number; reply = reply }))) ≡ Some ending
    → place ending.end ≡ Some number
refused_by true short holder s number reply ending is = absurd (let never : ⊥ = cc in never)
refused_by false true holder s number reply ending is = shorts_end (has_causes holder s) number (causes holder s) reply ending is
refused_by false false holder s number reply ending is =
    let same : record { end = finish.Act number; reply = reply } ≡ ending = cc in
    sym (ap (λ (one : Ending). place one.end) same)

refuses_end : (holder : Holder) (s : State) (number : ℕ) (call : Call) (verdict : Verdict) (ending : Ending)
    → refused_ending holder s number call verdict ≡ Some ending → place ending.end ≡ Some number
refuses_end holder s number call (Done new reply) ending is = absurd (let never : ⊥ = cc in never)
refuses_end holder s number call (Refused reply) ending is =
    refused_by (slice_index reply.x 0 == 0) (is_short call reply) holder s number reply ending is

ending_by : (acted part : Bool) (number : ℕ) (verdict other : Verdict) (holder : Holder) (s : State)
    (call : Call) (ending : Ending)
    → (if acted then acted_ending number verdict else (if part then None else refused_ending holder s number call other)) ≡ Some ending
    → place ending.end ≡ Some number
ending_by true part number verdict other holder s call ending is = acts_end number verdict ending is
ending_by false true number verdict other holder s call ending is = absurd (let never : ⊥ = cc in never)
ending_by false false number verdict other holder s call ending is =
    refuses_end holder s number call other ending is

-- the end of the holder's call has its place at the history's end
pub end_place : (conf : Config) (at : ℕ) (holder : Holder) (call : Current) (end : Ending)
    → ending conf at holder call ≡ Some end → place end.end ≡ Some (entries conf)
end_place conf at holder call end is =
    ending_by (has_acted holder) (has_part holder) (entries conf) (judged (state_at conf.boot conf.history (entries conf - 1)) at call) (judged (present conf) at call) holder (present conf) call.given.call end is

-- and a call that ends with its act was granted the objects of all its looks
pub placed_grants : (end : End) (number : ℕ) (seen : List Seen) → place end ≡ Some number
    → granting end seen ≡ seen
placed_grants finish.Frame number seen is = refl
placed_grants finish.Refused number seen is = absurd (let never : ⊥ = cc in never)
placed_grants finish.Dead number seen is = refl
placed_grants (finish.Act at) number seen is = refl
placed_grants (finish.Short at held) number seen is = refl
placed_grants (finish.Entry entry) number seen is = refl

end_grants : (conf : Config) (at : ℕ) (holder : Holder) (call : Current) (end : Ending)
    → ending conf at holder call ≡ Some end → granting end.end call.seen ≡ call.seen
end_grants conf at holder call end is =
    placed_grants end.end (entries conf) call.seen (end_place conf at holder call end is)

module _ (conf : Config) (at : ℕ) (graced : HasGrace conf) (free : conf.turn ≡ None) (within : at < CPUS) where
  end_ends : (call : Current) (end : Ending) → (conf.cpu at).current ≡ Some call → call.stage ≡ AtAct
      → granting end.end call.seen ≡ call.seen
      → Ends (objects_of conf) conf.history at (conf.cpu at) (with_ending at (conf.cpu at) call (Some end)) (conf.counter at) (scan_of conf.turn at) (graced.each at within) (conf.counter at)
  end_ends call end is stage grants =
      let closed : is_open_at call.stage ≡ false = ap is_open_at stage in
      let none : open_now (conf.cpu at).current ≡ 0 = closed_one (conf.cpu at).current call is closed in
      let grace : CpuGrace (objects_of conf) conf.history at (conf.cpu at) (conf.counter at) (scan_of conf.turn at) = graced.each at within in
      record {
        call = call;
        new = finished at call end.end end.reply;
        is = is;
        none = refl;
        made = refl;
        section = refl;
        grants = λ serial granted. ap (λ (one : Stage). list_any (finds serial) (granting_at one (came_to call) call.seen)) stage ∙ (ap (list_any (finds serial)) (sym grants) ∙ granted);
        counts = omega (arith, none);
        left = grace.left call is closed;
        unscanned = λ placed. ap (λ (one : Option Holder). scan_of one at) free;
      }

  pub end_part : (call : Current) (end : Option Ending) → (conf.cpu at).current ≡ Some call
      → call.stage ≡ AtAct
      → ((one : Ending) → end ≡ Some one → granting one.end call.seen ≡ call.seen)
      → HasGrace (with_part conf at (with_ending at (conf.cpu at) call end) conf.count conf.counter)
  end_part call None is stage grants =
      part_graced conf at (conf.cpu at) conf.count conf.counter (same_part conf at (conf.cpu at) within (graced.each at within)) graced
  end_part call (Some end) is stage grants =
      part_graced conf at (with_ending at (conf.cpu at) call (Some end)) conf.count conf.counter (same_part conf at (with_ending at (conf.cpu at) call (Some end)) within (ends (objects_of conf) conf.history at (conf.cpu at) (with_ending at (conf.cpu at) call (Some end)) (conf.counter at) (scan_of conf.turn at) (graced.each at within) (conf.counter at) (end_ends call end is stage (grants end refl)))) graced

module _ (conf : Config) (at : ℕ) (graced : HasGrace conf) (may : MayEnd conf at) where
  end_by : (holder : Option Holder) (current : Option Current) → holder ≡ Some may.holder
      → current ≡ Some may.call
      → HasGrace (with_part (record conf { turn = None }) at (end_call conf at holder current) conf.count conf.counter)
  end_by None current has is = absurd (let never : ⊥ = cc in never)
  end_by (Some holder) None has is = absurd (no_call may.call is)
  end_by (Some holder) (Some call) has is =
      let same : call ≡ may.call = cc in
      end_part (record conf { turn = None }) at (free_graced conf may.none_killed graced) refl may.is_cpu call (ending conf at holder call) (may.in_act.is_current ∙ ap (λ (one : Current). Some one) (sym same)) (ap (λ (one : Current). one.stage) same ∙ may.in_act.at_stage) (λ one is_end. end_grants conf at holder call one is_end)

  -- a turn that is given back behind its act keeps grace
  pub end_graced : HasGrace (ended conf at)
  end_graced = end_by conf.turn (conf.cpu at).current may.has_turn.turn may.in_act.is_current
