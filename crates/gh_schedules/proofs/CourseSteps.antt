-- The steps of a course: steps come behind steps, and the events of one CPU lead one by one to where
-- they lead together.
use Rattle.std.proofs.Common.{◌≡◌, ◌<◌, ◌∙◌, ℕ, List, [], ◌∷◌, ◌++◌, refl, sym, ap, append_assoc, arith, Option, map}
use Rattle.std.specs.List.{list_all}
use Rattle.std.proofs.lemmas.Bool.{and_parts, eqb-true}
use Rattle.std.proofs.lemmas.List.{append-nil}
use Rattle.gh_base.specs.declared.frame.Reply.{Reply}
use Rattle.gh_base.specs.declared.limits.TheConstants.{CPUS}
use Rattle.gh_base.specs.declared.mark.Mark.{Mark}
use Rattle.gh_model.specs.Marks.{Made}
use Rattle.gh_model.specs.declared.program.Step as program
use Rattle.gh_schedules.specs.Course.{Course, IsInterleaving, behind_step, behind_steps, marks_added, with_steps}
use Rattle.gh_events.specs.Config.{Config}
use Rattle.gh_events.specs.Events.{after}
use Rattle.gh_events.specs.Sound.{Does, Gives, IsSound, Runs, Step, after_step, after_steps, made_by}
use Rattle.gh_events.specs.declared.event.Event.{Event}
use Rattle.gh_schedules.proofs.CourseMarks.{added_twice, none_added}
use Rattle.gh_schedules.proofs.OwnEvents.{AreOwn, event_leaves, is_own, maker}
use Rattle.gh_schedules.proofs.TraceCalls.{steps_leave, steps_more}
use Rattle.gh_events.proofs.SoundEvents.{event_keeps_sound}

-- no steps lead nowhere else
no_steps : {P : Type 0} (course : Course P) → course ≡ with_steps course []
no_steps course = λ i. record course { steps = steps_same i; marks = marks_same i }
  where
    steps_same : course.steps ≡ course.steps ++ []
    steps_same = sym (append-nil course.steps)

    marks_same : course.marks ≡ course.marks ++ marks_added course.conf course.conf
    marks_same =
        sym (append-nil course.marks)
        ∙ ap (λ (added : List Mark). course.marks ++ added) (sym (none_added course.conf course.conf 0 (omega arith) (λ cpu apart. refl) refl))

module _ {P : Type 0} (answer : P → Option Reply → program.Step) (after_reply : P → Option Reply → P) where
  abbrev Behind : Course P → List Step → Course P
  Behind course steps = behind_steps answer after_reply course steps

  abbrev Next : Course P → Step → Course P
  Next course step = behind_step answer after_reply course step

  -- the configuration behind them
  pub step_conf : (course : Course P) (step : Step) → (Next course step).conf ≡ after_step course.conf step
  step_conf course (Gives at number frame) = refl
  step_conf course (Does event) = refl

  pub steps_conf : (steps : List Step) (course : Course P) → (Behind course steps).conf ≡ after_steps course.conf steps
  steps_conf [] course = refl
  steps_conf (step ∷ steps) course =
      steps_conf steps (Next course step) ∙ ap (λ (conf : Config). after_steps conf steps) (step_conf course step)

  pub interleave_on : (course : Course P) (steps more : List Step) → IsInterleaving answer after_reply course steps
      → IsInterleaving answer after_reply (Behind course steps) more → IsInterleaving answer after_reply course (steps ++ more)
  interleave_on course [] more come later = later
  interleave_on course (step ∷ steps) more come later =
      (come.0, interleave_on (Next course step) steps more come.1 later)

  -- events that are possible one after the other
  pub events_interleave : (course : Course P) (events : List Event) → Runs course.conf (map Does events)
      → IsInterleaving answer after_reply course (map Does events)
  events_interleave course [] runs = tt
  events_interleave course (event ∷ events) runs =
      (runs.0, events_interleave (Next course (Does event)) events runs.1)

  -- an event of a CPU, and then more of them
  module _ (course : Course P) (event : Event) (events : List Event) (at : ℕ) (within : at < CPUS)
      (sound : IsSound course.conf) (runs : Runs course.conf (map Does (event ∷ events)))
      (is : maker event ≡ at) (own : AreOwn at events) where
    abbrev middle : Config
    middle = after course.conf event

    abbrev last : Config
    last = after_steps middle (map Does events)

    first_more : (more : List Made) × (made_by middle at ≡ made_by course.conf at ++ more)
    first_more = steps_more (event ∷ []) course.conf at sound (runs.0, tt)

    later_more : (more : List Made) × (made_by last at ≡ made_by middle at ++ more)
    later_more = steps_more events middle at (event_keeps_sound course.conf event sound runs.0) runs.1

    marks_joined : (course.marks ++ marks_added course.conf middle) ++ marks_added middle last
        ≡ course.marks ++ marks_added course.conf last
    marks_joined =
        append_assoc course.marks (marks_added course.conf middle) (marks_added middle last)
        ∙ ap (λ (added : List Mark). course.marks ++ added)
        (added_twice course.conf middle last at first_more.0 later_more.0 within
        (λ cpu apart. event_leaves course.conf at cpu apart event is) (λ cpu apart. steps_leave events middle at cpu apart own)
        first_more.1 later_more.1)

    joined : with_steps (Next course (Does event)) (map Does events) ≡ with_steps course (map Does (event ∷ events))
    joined = λ i. record course { steps = steps_joined i; conf = last; marks = marks_joined i }
      where
        steps_joined : (course.steps ++ Does event ∷ []) ++ map Does events ≡ course.steps ++ map Does (event ∷ events)
        steps_joined = append_assoc course.steps (Does event ∷ []) (map Does events)

  -- the events of one CPU
  pub behind_events : (events : List Event) (course : Course P) (at : ℕ) → at < CPUS → IsSound course.conf
      → Runs course.conf (map Does events) → AreOwn at events
      → Behind course (map Does events) ≡ with_steps course (map Does events)
  behind_events [] course at within sound runs own = no_steps course
  behind_events (event ∷ events) course at within sound runs own =
      let parts = and_parts (is_own at event) (list_all (is_own at) events) own in
      behind_events events (Next course (Does event)) at within (event_keeps_sound course.conf event sound runs.0) runs.1 parts.1
      ∙ joined course event events at within sound runs (eqb-true (maker event) at parts.0) parts.1
