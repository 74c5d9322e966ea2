-- What events that are each possible where they come leave of the calls of a CPU, and how they read
-- as the steps of a course.
use Rattle.std.proofs.Common.{◌≡◌, ◌==◌, ◌∙◌, inl, inr, ℕ, false, List, [], ◌∷◌, ◌++◌, refl, subst, sym, ap, Option, Some, None, map}
use Rattle.std.proofs.lemmas.List.{append-nil}
use Rattle.gh_model.specs.Marks.{Made}
use Rattle.gh_events.specs.Config.{Config, Cpu, Current, Given, IsBetween}
use Rattle.gh_events.specs.Events.{after}
use Rattle.gh_events.specs.Sound.{Does, IsSound, Runs, after_steps, made_by}
use Rattle.gh_events.specs.declared.event.Event.{Event}
use Rattle.gh_schedules.specs.Course.{call_of_cpu, either_call}
use Rattle.gh_schedules.specs.Schedule.{CallEnds}
use Rattle.gh_schedules.specs.Trace.{AreDone, after_all}
use Rattle.gh_schedules.proofs.CallsOver.{CallsOn, as_before, event_calls}
use Rattle.gh_schedules.proofs.OwnEvents.{AreOwn, own_leave}
use Rattle.gh_events.proofs.SoundEvents.{event_keeps_sound}

-- a CPU without a call has none
no_call : (cpu : Cpu) (given : Given) → call_of_cpu cpu ≡ None → call_of_cpu cpu ≡ Some given → ⊥
no_call cpu given none is = let never : ⊥ = cc in never

-- what one event leaves, and then others
calls_then : (first middle last : Cpu) → CallsOn first middle → CallsOn middle last → CallsOn first last
calls_then first middle last (inl on) (inl more) = inl (record {
  made = more.made ∙ on.made;
  same = more.same ∙ on.same;
  next = λ none. more.next (on.next none);
})
calls_then first middle last (inl on) (inr over) = inr (record {
  given = over.given;
  call = over.call;
  has = sym on.same ∙ over.has;
  made = over.made ∙ ap (λ (list : List Made). list ++ over.call ∷ []) on.made;
  frame = over.frame;
  none = over.none;
})
calls_then first middle last (inr over) (inl on) = inr (record {
  given = over.given;
  call = over.call;
  has = over.has;
  made = on.made ∙ over.made;
  frame = over.frame;
  none = on.same ∙ over.none;
})
calls_then first middle last (inr over) (inr more) = absurd (no_call middle more.given over.none more.has)

-- each CPU has the same calls behind them, or the one in progress has ended
pub trace_calls : (events : List Event) (conf : Config) → IsSound conf → AreDone conf events → (n : ℕ)
    → CallsOn (conf.cpu n) ((after_all conf events).cpu n)
trace_calls [] conf sound done n = as_before (conf.cpu n)
trace_calls (event ∷ events) conf sound done n =
    calls_then (conf.cpu n) ((after conf event).cpu n) ((after_all (after conf event) events).cpu n)
    (event_calls conf event sound.valid done.0 n)
    (trace_calls events (after conf event) (event_keeps_sound conf event sound done.0) done.1 n)

-- a call in progress of a CPU that is between calls behind them has ended
module _ (before now : Cpu) (given : Given) (has : call_of_cpu before ≡ Some given) (alone : before.next ≡ None)
    (between : IsBetween now) where
  next_is : call_of_cpu now ≡ now.next
  next_is = ap (λ (one : Option Current). either_call one now.next) between.none

  pub on_ends : CallsOn before now → CallEnds given before now
  on_ends (inl on) =
      absurd (no_call now given (next_is ∙ on.next alone) (on.same ∙ has))
  on_ends (inr over) = record {
    call = over.call;
    made = over.made;
    frame = over.frame ∙ ap (λ (one : Given). one.frame) (let same : over.given ≡ given = same_given over.given has over.has in same);
    none = sym next_is ∙ over.none;
    between = between;
  }
    where
      same_given : (other : Given) → call_of_cpu before ≡ Some given → call_of_cpu before ≡ Some other → other ≡ given
      same_given other is is_other = let same : other ≡ given = cc in same

-- the events as steps
pub trace_runs : (events : List Event) (conf : Config) → AreDone conf events → Runs conf (map Does events)
trace_runs [] conf done = tt
trace_runs (event ∷ events) conf done = (done.0, trace_runs events (after conf event) done.1)

done_of : (events : List Event) (conf : Config) → Runs conf (map Does events) → AreDone conf events
done_of [] conf runs = tt
done_of (event ∷ events) conf runs = (runs.0, done_of events (after conf event) runs.1)

pub trace_behind : (events : List Event) (conf : Config) → after_steps conf (map Does events) ≡ after_all conf events
trace_behind [] conf = refl
trace_behind (event ∷ events) conf = trace_behind events (after conf event)

-- the calls that a CPU has more behind them
more_calls : (before now : Cpu) → CallsOn before now → (more : List Made) × (now.made ≡ before.made ++ more)
more_calls before now (inl on) = ([], on.made ∙ sym (append-nil before.made))
more_calls before now (inr over) = (over.call ∷ [], over.made)

pub steps_more : (events : List Event) (conf : Config) (at : ℕ) → IsSound conf → Runs conf (map Does events)
    → (more : List Made) × (made_by (after_steps conf (map Does events)) at ≡ made_by conf at ++ more)
steps_more events conf at sound runs =
    more_calls (conf.cpu at) ((after_steps conf (map Does events)).cpu at)
    (subst (λ (new : Config). CallsOn (conf.cpu at) (new.cpu at)) (sym (trace_behind events conf))
    (trace_calls events conf sound (done_of events conf runs) at))

-- events of one CPU leave the others as they are
pub steps_leave : (events : List Event) (conf : Config) (at other : ℕ) → (other == at) ≡ false → AreOwn at events
    → (after_steps conf (map Does events)).cpu other ≡ conf.cpu other
steps_leave events conf at other apart own =
    ap (λ (new : Config). new.cpu other) (trace_behind events conf) ∙ own_leave conf at other events apart own
