-- What each event leaves of the calls of a CPU: it has the same calls, or the one in progress has
-- ended.
use Rattle.std.proofs.Common.{◌≡◌, ◌==◌, ◌⊎◌, inl, inr, ◌+◌, ◌∙◌, ℕ, Bool, true, false, [], ◌∷◌, ◌++◌, refl, subst, sym, ap, Option, Some, None, if◌then◌else◌}
use Rattle.std.specs.Prelude.{is_some, option_map}
use Rattle.gh_base.specs.declared.frame.Reply.{Reply}
use Rattle.gh_base.specs.declared.mark.End.{End}
use Rattle.gh_model.specs.Marks.{Made, frame_of}
use Rattle.gh_events.specs.CallEvents.{MayEnter, after_leave, at_stage, begun, finished, found, with_call, with_end, with_left, with_look, with_pin}
use Rattle.gh_events.specs.Config.{Config, Cpu, Current, DeadPin, Given, Holder, Reading, Stage, Undone, put}
use Rattle.gh_schedules.specs.Course.{call_of_cpu, either_call}
use Rattle.gh_events.specs.Entries.{index_after}
use Rattle.gh_events.specs.Events.{Possible, after}
use Rattle.gh_events.specs.TurnEvents.{Ending, MayTake, end_call, ending, ready, with_ending}
use Rattle.gh_events.specs.ValidState.{HasValid}
use Rattle.gh_events.specs.declared.event.Event.{Event}
use Rattle.gh_events.specs.declared.event.Event.TheVariants.{Enter, Leave, Take, Look, Pin, Unpin, Undo, Kill, Commit, SetCap, Free, Scan, Revive, Join, Split}
use Rattle.gh_events.proofs.FewPins.{committed_cpus, killed_cpus}
use Rattle.gh_events.proofs.LengthCalls.{put_each}
use Rattle.gh_events.proofs.TakeCalls.{Begins, Comes, Was, comes_by}

-- the CPU has the same calls, and no next one where it had none
pub record SameCalls (before now : Cpu) : Type 0 where
  pub made : now.made ≡ before.made
  pub same : call_of_cpu now ≡ call_of_cpu before
  pub next : before.next ≡ None → now.next ≡ None

-- the call in progress has ended
pub record CallOver (before now : Cpu) : Type 0 where
  pub given : Given
  pub call : Made
  pub has : call_of_cpu before ≡ Some given
  pub made : now.made ≡ before.made ++ call ∷ []
  pub frame : frame_of call ≡ given.frame
  pub none : call_of_cpu now ≡ None

abbrev pub CallsOn : Cpu → Cpu → Type 0
CallsOn before now = SameCalls before now ⊎ CallOver before now

pub as_before : (cpu : Cpu) → CallsOn cpu cpu
as_before cpu = inl (record { made = refl; same = refl; next = λ none. none })

-- a call that goes on
changed_call : (cpu : Cpu) (change : Current → Current) → ((call : Current) → (change call).given ≡ call.given)
    → CallsOn cpu (with_call change cpu)
changed_call cpu change keeps = inl (record { made = refl; same = by_current cpu.current; next = λ none. none })
  where
    by_current : (current : Option Current) → either_call (option_map change current) cpu.next ≡ either_call current cpu.next
    by_current None = refl
    by_current (Some call) = ap Some (keeps call)

-- a call that begins
begun_call : (conf : Config) (at : ℕ) → MayEnter conf at
    → CallsOn (conf.cpu at) (record (conf.cpu at) { next = None; current = option_map (begun (conf.counter at + 1) Reading) (conf.cpu at).next })
begun_call conf at may = inl (record {
  made = refl;
  same = by_next (conf.cpu at).next ∙ sym (ap (λ (one : Option Current). either_call one (conf.cpu at).next) may.between.none);
  next = λ none. refl;
})
  where
    by_next : (next : Option Given)
        → either_call (option_map (begun (conf.counter at + 1) Reading) next) None ≡ either_call None next
    by_next None = refl
    by_next (Some given) = refl

-- a call that has its end
ended_call : (at : ℕ) (cpu : Cpu) (call : Current) (end : End) (reply : Reply) → cpu.current ≡ Some call → cpu.next ≡ None
    → CallsOn cpu (with_end cpu (finished at call end reply))
ended_call at cpu call end reply is alone = inr (record {
  given = call.given;
  call = finished at call end reply;
  has = ap (λ (one : Option Current). either_call one cpu.next) is;
  made = refl;
  frame = refl;
  none = alone;
})

left_by : (at : ℕ) (cpu : Cpu) (call : Current) → cpu.current ≡ Some call → cpu.next ≡ None → (stage : Stage)
    → CallsOn cpu (with_left at cpu call stage)
left_by at cpu call is alone Reading =
    inl (record { made = refl; same = sym (ap (λ (one : Option Current). either_call one cpu.next) is); next = λ none. none })
left_by at cpu call is alone _ = ended_call at cpu call _ _ is alone

left_call : (at : ℕ) (cpu : Cpu) (current : Option Current) → cpu.current ≡ current → (is_some current ≡ true → cpu.next ≡ None)
    → CallsOn cpu (after_leave at cpu current)
left_call at cpu None is alone = as_before cpu
left_call at cpu (Some call) is alone = left_by at cpu call is (alone refl) call.stage

freed_by : (at : ℕ) (cpu : Cpu) (call : Current) (end : Option Ending) → cpu.current ≡ Some call → cpu.next ≡ None
    → CallsOn cpu (with_ending at cpu call end)
freed_by at cpu call None is alone = as_before cpu
freed_by at cpu call (Some end) is alone = ended_call at cpu call end.end end.reply is alone

freed_call : (conf : Config) (at : ℕ) (turn : Option Holder) (current : Option Current) → (conf.cpu at).current ≡ current
    → (is_some current ≡ true → (conf.cpu at).next ≡ None) → CallsOn (conf.cpu at) (end_call conf at turn current)
freed_call conf at None current is alone = as_before (conf.cpu at)
freed_call conf at (Some holder) None is alone = as_before (conf.cpu at)
freed_call conf at (Some holder) (Some call) is alone = freed_by at (conf.cpu at) call (ending conf at holder call) is (alone refl)

-- a call that comes to its act
pub taken_call : (conf : Config) (at : ℕ) → MayTake conf at
    → SameCalls (conf.cpu at) (record (conf.cpu at) {
      next = if is_some (conf.cpu at).current then (conf.cpu at).next else None;
      current = ready (conf.cpu at);
    })
taken_call conf at may = record {
  made = refl;
  same =
      ap (λ (one : Option Current). either_call one (if is_some cpu.current then cpu.next else None)) may.is_ready
      ∙ its (comes_by cpu may.call cpu.current cpu.pins cpu.next refl refl may.is_ready);
  next = λ none. stays (is_some cpu.current) none;
}
  where
    cpu : Cpu
    cpu = conf.cpu at

    stays : (some : Bool) → cpu.next ≡ None → (if some then cpu.next else None) ≡ None
    stays true none = none
    stays false none = refl

    its : Comes cpu may.call → Some may.call.given ≡ call_of_cpu cpu
    its (Was in_act) = sym (ap (λ (one : Option Current). either_call one cpu.next) in_act.is_current)
    its (Begins given none next no_needs same) =
        ap (λ (one : Current). Some one.given) same ∙ sym next
        ∙ sym (ap (λ (one : Option Current). either_call one cpu.next) none)

pinned_call : (dead : Bool) (cpu : Cpu) → CallsOn cpu (with_pin dead cpu)
pinned_call true cpu = changed_call cpu (at_stage DeadPin) (λ call. refl)
pinned_call false cpu = inl (record { made = refl; same = by_current cpu.current; next = λ none. none })
  where
    by_current : (current : Option Current)
        → either_call (option_map (at_stage Reading) current) cpu.next ≡ either_call current cpu.next
    by_current None = refl
    by_current (Some call) = refl

-- every event

module _ (conf : Config) where
  abbrev AllOn : (ℕ → Cpu) → Type 0
  AllOn cpus = (n : ℕ) → CallsOn (conf.cpu n) (cpus n)

  one_on : (at : ℕ) (one : Cpu) → CallsOn (conf.cpu at) one → AllOn (put conf.cpu at one)
  one_on at one on n = put_each (λ i cpu. CallsOn (conf.cpu i) cpu) conf.cpu at one on (λ i differs. as_before (conf.cpu i)) n

  all_on : AllOn conf.cpu
  all_on n = as_before (conf.cpu n)

  pub event_calls : (event : Event) → HasValid conf → Possible conf event → AllOn (after conf event).cpu
  event_calls (Enter cpu) valid may = one_on cpu.0 _ (begun_call conf cpu.0 may)
  event_calls (Leave cpu) valid may =
      one_on cpu.0 _ (left_call cpu.0 (conf.cpu cpu.0) (conf.cpu cpu.0).current refl (valid.cpus cpu.0).alone)
  event_calls (Take cpu) valid may = one_on cpu.0 _ (inl (taken_call conf cpu.0 may))
  event_calls (Look cpu slot) valid may =
      one_on cpu.0 _ (changed_call (conf.cpu cpu.0) (λ call. with_look (found conf cpu.0 slot call) call) (λ call. refl))
  event_calls (Pin cpu object false) valid may = one_on cpu.0 _ (pinned_call (conf.dead object.0) (conf.cpu cpu.0))
  event_calls (Pin cpu object true) valid may = all_on
  event_calls (Unpin cpu object false) valid may = one_on cpu.0 _ (inl (record { made = refl; same = refl; next = λ none. none }))
  event_calls (Unpin cpu object true) valid may = all_on
  event_calls (Undo cpu object) valid may = one_on cpu.0 _ (changed_call (conf.cpu cpu.0) (at_stage Undone) (λ call. refl))
  event_calls (Kill cpu object) valid may =
      subst AllOn (sym (killed_cpus conf object.0 (conf.count object.0 == 0))) all_on
  event_calls (Commit cpu entry) valid may =
      subst AllOn (sym (committed_cpus conf entry (λ new. conf.index) (conf.cpu cpu.0).current)) all_on
  event_calls (SetCap cpu entry space slot word) valid may =
      subst AllOn (sym (committed_cpus conf entry (λ new. index_after conf new word) (conf.cpu cpu.0).current)) all_on
  event_calls (Free cpu true) valid may =
      one_on cpu.0 _ (freed_call conf cpu.0 conf.turn (conf.cpu cpu.0).current refl (valid.cpus cpu.0).alone)
  event_calls (Free cpu false) valid may = all_on
  event_calls (Scan cpu of_cpu) valid may = all_on
  event_calls (Revive cpu object count) valid may = all_on
  event_calls (Join cpu) valid may = all_on
  event_calls (Split cpu) valid may = all_on
