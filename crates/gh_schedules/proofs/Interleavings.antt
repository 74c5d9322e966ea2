-- Every interleaving of programs is sound, and a run once all have made their exit calls.
use Rattle.std.proofs.Common.{◌≡◌, ◌∙◌, inl, inr, ℕ, List, [], ◌∷◌, ◌++◌, filter, refl, subst, sym, ap, IsSome, IsTrue, Option, None, map, ◌+◌, ◌<◌, arith, length, false, true}
use Rattle.std.specs.List.{last_or, list_any}
use Rattle.std.specs.Prelude.{Result, Ok, Err, is_some}
use Rattle.std.proofs.lemmas.Bool.Decides.{eqb_tells}
use Rattle.gh_base.specs.declared.call.Call.{Call}
use Rattle.gh_base.specs.declared.errno.Errno.{Errno}
use Rattle.gh_base.specs.declared.frame.Frame.{Frame}
use Rattle.gh_base.specs.declared.frame.Reply.{Reply}
use Rattle.gh_base.specs.declared.limits.TheConstants.{CPUS}
use Rattle.gh_model.specs.Boot.{boot_fits, boot_state}
use Rattle.gh_model.specs.History.{entry_of}
use Rattle.gh_model.specs.Legal.{exits, is_exit_call}
use Rattle.gh_model.specs.Marks.{Made}
use Rattle.gh_model.specs.Program.{last_number}
use Rattle.gh_model.specs.Programs.{frames_made}
use Rattle.gh_model.specs.Registers.{call_of}
use Rattle.gh_model.specs.Rows.{cpu_row}
use Rattle.gh_model.specs.Run.{IsRun, is_mark_of}
use Rattle.gh_model.specs.declared.boot_line.BootLine.{BootLine}
use Rattle.gh_model.specs.declared.program.Step as program
use Rattle.gh_model.specs.declared.state.State.{State}
use Rattle.gh_events.specs.Config.{Config, Cpu, Current, IsBetween, present, put}
use Rattle.gh_events.specs.Events.{Possible, after}
use Rattle.gh_events.specs.Sound.{Does, Gives, IsAtRest, IsSound, MayStep, Runs, Step, after_steps, made_by}
use Rattle.gh_events.specs.Start.{AreIndices, MayGive, given, new_cpu, refused_frame, start, with_next}
use Rattle.gh_events.specs.declared.event.Event.TheVariants.{Enter, Leave, Take, Look, Pin, Unpin, Undo, Kill, Commit, SetCap, Free, Scan, Revive, Join, Split}
use Rattle.gh_events.specs.declared.event.Event.{Event}
use Rattle.gh_schedules.specs.Course.{Course, IsInterleaving, IsNextCall, MayCome, begin, behind_step, behind_steps, marks_added, marks_by, call_of_cpu, either_call, next_standing}
use Rattle.gh_model.proofs.FittingLemmas.{boot_fitting, cpu_small}
use Rattle.gh_schedules.proofs.CallsOver.{CallsOn, event_calls}
use Rattle.gh_schedules.proofs.CourseMarks.{marks_stay}
use Rattle.gh_schedules.proofs.CoursePrograms.{Follows, end_counted, end_follows, new_follows, next_counted, next_follows, same_follows}
use Rattle.gh_schedules.proofs.CourseRuns.{rest_is_run}
use Rattle.gh_schedules.proofs.CourseStays.{MoreCalls, has_none, marks_more, steps_boot}
use Rattle.gh_schedules.proofs.CourseSteps.{step_conf, steps_conf}
use Rattle.gh_schedules.proofs.OwnEvents.{event_leaves, maker}
use Rattle.gh_schedules.proofs.TraceCalls.{steps_more}
use Rattle.gh_events.proofs.Finding.{put_here, put_other}
use Rattle.gh_events.proofs.LengthCalls.{put_each}
use Rattle.gh_events.proofs.SoundEvents.{boot_stays, event_keeps_sound, run_is_sound, step_keeps_sound, start_is_sound}

-- a CPU whose program hasn't ended has a number left for its next call
abbrev IsCounted : Cpu → Type 0
IsCounted cpu = list_any exits cpu.made ≡ false → length cpu.made < last_number

-- an event is made by a CPU
maker_within : (conf : Config) (event : Event) → Possible conf event → maker event < CPUS
maker_within conf (Enter cpu) may = may.is_cpu
maker_within conf (Leave cpu) may = may.is_cpu
maker_within conf (Take cpu) may = may.is_cpu
maker_within conf (Look cpu slot) may = may.is_cpu
maker_within conf (Pin cpu object false) may = may.is_cpu
maker_within conf (Pin cpu object true) may = may.is_cpu
maker_within conf (Unpin cpu object false) may = may.is_cpu
maker_within conf (Unpin cpu object true) may = may.is_cpu
maker_within conf (Undo cpu object) may = may.is_cpu
maker_within conf (Kill cpu object) may = may.is_cpu
maker_within conf (Commit cpu entry) may = may.is_cpu
maker_within conf (SetCap cpu entry space slot word) may = may.is_cpu
maker_within conf (Free cpu true) may = may.is_cpu
maker_within conf (Free cpu false) may = may.is_cpu
maker_within conf (Scan cpu of_cpu) may = may.is_cpu
maker_within conf (Revive cpu object count) may = may.is_cpu
maker_within conf (Join cpu) may = may.is_cpu
maker_within conf (Split cpu) may = may.is_cpu

module _ {P : Type 0} (answer : P → Option Reply → program.Step) (after_reply : P → Option Reply → P) (first : ℕ → P) where
  abbrev Behind : Course P → Step → Course P
  Behind course step = behind_step answer after_reply course step

  -- what a course keeps with each step
  record Keeps (course : Course P) : Type 0 where
    sound : IsSound course.conf
    follow : (cpu : ℕ) → Follows answer after_reply (first cpu) (course.conf.cpu cpu) (course.programs cpu)
    counted : (cpu : ℕ) → IsCounted (course.conf.cpu cpu)
    seats : (cpu : ℕ) → is_some (cpu_row course.conf.boot cpu) ≡ true → cpu < CPUS
    marks_are : (cpu : ℕ) → filter (is_mark_of cpu) course.marks ≡ marks_by course.conf cpu

  -- a step of programs is a step
  step_may : (course : Course P) (step : Step) → MayCome answer after_reply course step → MayStep course.conf step
  step_may course (Gives at number frame) come = come.may
  step_may course (Does event) come = come

  -- a call that a CPU is given
  module _ (course : Course P) (at number : ℕ) (frame : Frame) (keeps : Keeps course)
      (come : IsNextCall answer after_reply course at number frame) where
    none : call_of_cpu (course.conf.cpu at) ≡ None
    none = ap (λ (one : Option Current). either_call one (course.conf.cpu at).next) come.may.between.none ∙ come.may.none

    abbrev left : P
    left = (next_standing answer after_reply course at).program

    here : Follows answer after_reply (first at) (with_next at number frame (course.conf.cpu at) (call_of frame)) left
    here =
        subst (λ (one : Frame). Follows answer after_reply (first at) (with_next at number one (course.conf.cpu at) (call_of one)) left)
        (sym come.its_frame)
        (next_follows answer after_reply (first at) at number (course.conf.cpu at) (course.programs at) (keeps.follow at)
        come.may.runs come.may.between.none none (call_of (next_standing answer after_reply course at).frame))

    here_counted : IsCounted (with_next at number frame (course.conf.cpu at) (call_of frame))
    here_counted =
        subst (λ (one : Frame). IsCounted (with_next at number one (course.conf.cpu at) (call_of one))) (sym come.its_frame)
        (next_counted answer after_reply (first at) at number (course.conf.cpu at) (course.programs at) (keeps.follow at)
        come.may.runs come.may.between.none none (call_of (next_standing answer after_reply course at).frame)
        (keeps.counted at come.may.runs))

    given_counted : (cpu : ℕ) → IsCounted ((given course.conf at number frame).cpu cpu)
    given_counted cpu =
        put_each (λ n one. IsCounted one) course.conf.cpu at (with_next at number frame (course.conf.cpu at) (call_of frame))
        here_counted (λ n differs. keeps.counted n) cpu

    given_each : (cpu : ℕ)
        → Follows answer after_reply (first cpu) ((given course.conf at number frame).cpu cpu) (put course.programs at left cpu)
    given_each cpu =
        elim (eqb_tells cpu at) as (λ _. Follows answer after_reply (first cpu) ((given course.conf at number frame).cpu cpu) (put course.programs at left cpu)) [
          | inl same ↦
              subst (λ (n : ℕ). Follows answer after_reply (first n) ((given course.conf at number frame).cpu n) (put course.programs at left n)) (sym same.1)
              (subst (λ (p : P). Follows answer after_reply (first at) ((given course.conf at number frame).cpu at) p) (sym (put_here course.programs at left))
              (subst (λ (one : Cpu). Follows answer after_reply (first at) one left)
              (sym (put_here course.conf.cpu at (with_next at number frame (course.conf.cpu at) (call_of frame)))) here))
          | inr differs ↦
              subst (λ (p : P). Follows answer after_reply (first cpu) ((given course.conf at number frame).cpu cpu) p) (sym (put_other course.programs at left cpu differs.0))
              (subst (λ (one : Cpu). Follows answer after_reply (first cpu) one (course.programs cpu))
              (sym (put_other course.conf.cpu at _ cpu differs.0)) (keeps.follow cpu))
        ]

    given_calls : MoreCalls (course.conf.cpu at) ((given course.conf at number frame).cpu at)
    given_calls =
        subst (MoreCalls (course.conf.cpu at)) (sym (put_here course.conf.cpu at (with_next at number frame (course.conf.cpu at) (call_of frame))))
        (by_shape (call_of frame))
      where
        by_shape : (shape : Result Call Errno) → MoreCalls (course.conf.cpu at) (with_next at number frame (course.conf.cpu at) shape)
        by_shape (Ok call) = inl refl
        by_shape (Err errno) = inr (refused_frame at number frame errno, refl)

    given_marks : (cpu : ℕ)
        → filter (is_mark_of cpu) (course.marks ++ marks_added course.conf (given course.conf at number frame)) ≡ marks_by (given course.conf at number frame) cpu
    given_marks =
        marks_more course.conf (given course.conf at number frame) at (keeps.seats at come.may.is_cpu)
        (λ cpu apart. put_other course.conf.cpu at _ cpu apart) given_calls
        (step_keeps_sound course.conf (Gives at number frame) keeps.sound come.may).calls course.marks keeps.marks_are

  -- an event
  event_marks : (course : Course P) (event : Event) (keeps : Keeps course) → Possible course.conf event → (cpu : ℕ)
      → filter (is_mark_of cpu) (course.marks ++ marks_added course.conf (after course.conf event)) ≡ marks_by (after course.conf event) cpu
  event_marks course event keeps may =
      let more = steps_more (event ∷ []) course.conf (maker event) keeps.sound (may, tt) in
      marks_stay course.conf (after course.conf event) (maker event) more.0 (maker_within course.conf event may)
      (λ cpu apart. event_leaves course.conf (maker event) cpu apart event refl) more.1
      (event_keeps_sound course.conf event keeps.sound may).calls course.marks keeps.marks_are

  event_each : (course : Course P) (cpu : ℕ) (now : Cpu) → Keeps course → CallsOn (course.conf.cpu cpu) now
      → Follows answer after_reply (first cpu) now (course.programs cpu)
  event_each course cpu now keeps (inl on) =
      same_follows answer after_reply (first cpu) (course.conf.cpu cpu) now (course.programs cpu) (keeps.follow cpu) on.made on.same
  event_each course cpu now keeps (inr over) =
      end_follows answer after_reply (first cpu) (course.conf.cpu cpu) now (course.programs cpu) (keeps.follow cpu) over.given over.call
      (has_none course.conf cpu over.given keeps.sound.calls over.has) over.has over.made over.frame over.none

  event_counted : (course : Course P) (cpu : ℕ) (now : Cpu) → Keeps course → CallsOn (course.conf.cpu cpu) now → IsCounted now
  event_counted course cpu now keeps (inl on) =
      subst (λ (list : List Made). list_any exits list ≡ false → length list < last_number) (sym on.made) (keeps.counted cpu)
  event_counted course cpu now keeps (inr over) =
      let going : list_any exits (course.conf.cpu cpu).made ≡ false =
      has_none course.conf cpu over.given keeps.sound.calls over.has in
      end_counted answer after_reply (first cpu) (course.conf.cpu cpu) now (course.programs cpu) (keeps.follow cpu) over.given over.call
      going over.has over.made over.frame (keeps.counted cpu going)

  step_keeps : (course : Course P) (step : Step) → Keeps course → MayCome answer after_reply course step
      → Keeps (Behind course step)
  step_keeps course (Gives at number frame) keeps come = record {
    sound = step_keeps_sound course.conf (Gives at number frame) keeps.sound come.may;
    follow = given_each course at number frame keeps come;
    counted = given_counted course at number frame keeps come;
    seats = keeps.seats;
    marks_are = given_marks course at number frame keeps come;
  }
  step_keeps course (Does event) keeps come = record {
    sound = step_keeps_sound course.conf (Does event) keeps.sound come;
    follow = λ cpu. event_each course cpu ((after course.conf event).cpu cpu) keeps (event_calls course.conf event keeps.sound.valid come cpu);
    counted = λ cpu. event_counted course cpu ((after course.conf event).cpu cpu) keeps (event_calls course.conf event keeps.sound.valid come cpu);
    seats = λ cpu there. keeps.seats cpu (subst (λ (boot : State). is_some (cpu_row boot cpu) ≡ true) (boot_stays course.conf event) there);
    marks_are = event_marks course event keeps come;
  }

  steps_keep : (steps : List Step) (course : Course P) → Keeps course → IsInterleaving answer after_reply course steps
      → Keeps (behind_steps answer after_reply course steps)
  steps_keep [] course keeps come = keeps
  steps_keep (step ∷ steps) course keeps come =
      steps_keep steps (Behind course step) (step_keeps course step keeps come.0) come.1

  -- its steps are those of a run
  steps_run : (steps : List Step) (course : Course P) → IsInterleaving answer after_reply course steps → Runs course.conf steps
  steps_run [] course come = tt
  steps_run (step ∷ steps) course come = (
    step_may course step come.0,
    subst (λ (conf : Config). Runs conf steps) (step_conf answer after_reply course step) (steps_run steps (Behind course step) come.1),
  )

  module _ (lines : List BootLine) (index : ℕ → ℕ) (steps : List Step) (fits : IsTrue (boot_fits lines))
      (indices : AreIndices (boot_state lines) index)
      (come : IsInterleaving answer after_reply (begin (start (boot_state lines) index) first) steps) where
    abbrev last : Config
    last = after_steps (start (boot_state lines) index) steps

    begin_keeps : Keeps (begin (start (boot_state lines) index) first)
    begin_keeps = record {
      sound = start_is_sound lines index fits indices;
      follow = λ cpu. new_follows answer after_reply (first cpu);
      counted = λ cpu none. let zero_calls : length new_cpu.made ≡ 0 = refl in omega arith;
      seats = λ cpu there. omega (arith, cpu_small (boot_state lines) cpu (boot_fitting lines fits) there);
      marks_are = λ cpu. refl;
    }

    pub interleaving_sound : IsSound last
    interleaving_sound =
        run_is_sound lines index steps fits indices (steps_run steps (begin (start (boot_state lines) index) first) come)

    abbrev whole : Course P
    whole = behind_steps answer after_reply (begin (start (boot_state lines) index) first) steps

    keeps : Keeps whole
    keeps = steps_keep steps (begin (start (boot_state lines) index) first) begin_keeps come

    whole_conf : whole.conf ≡ last
    whole_conf = steps_conf answer after_reply steps (begin (start (boot_state lines) index) first)

    last_follows : (cpu : ℕ) → Follows answer after_reply (first cpu) (last.cpu cpu) (whole.programs cpu)
    last_follows cpu =
        subst (λ (conf : Config). Follows answer after_reply (first cpu) (conf.cpu cpu) (whole.programs cpu)) whole_conf (keeps.follow cpu)

    -- the marks of each CPU's calls are in order
    pub last_marks : (cpu : ℕ) → filter (is_mark_of cpu) whole.marks ≡ marks_by last cpu
    last_marks cpu =
        subst (λ (conf : Config). filter (is_mark_of cpu) whole.marks ≡ marks_by conf cpu) whole_conf (keeps.marks_are cpu)

    boot_is : last.boot ≡ boot_state lines
    boot_is = steps_boot (start (boot_state lines) index) steps

    pub interleaving_is_run : IsAtRest last
        → ((cpu : ℕ) → IsSome (cpu_row (boot_state lines) cpu) → IsTrue (is_exit_call (last_or None (made_by last cpu))))
        → IsRun lines (λ cpu. frames_made answer after_reply (first cpu)) (map entry_of last.history) whole.marks (present last)
    interleaving_is_run rest exits =
        rest_is_run lines fits last boot_is interleaving_sound rest
        (λ cpu there. exits cpu (subst (λ (boot : State). IsSome (cpu_row boot cpu)) boot_is there))
        (λ cpu. frames_made answer after_reply (first cpu)) (λ cpu. (last_follows cpu).frames)
        whole.marks last_marks

    last_counted : (cpu : ℕ) → IsCounted (last.cpu cpu)
    last_counted cpu =
        subst (λ (conf : Config). IsCounted (conf.cpu cpu)) whole_conf (keeps.counted cpu)

    -- a program that hasn't ended goes on
    pub program_goes_on : (cpu : ℕ) → IsSome (cpu_row (boot_state lines) cpu) → IsBetween (last.cpu cpu)
        → (last.cpu cpu).next ≡ None → list_any exits (made_by last cpu) ≡ false
        → MayGive last cpu (length (made_by last cpu) + 1)
    program_goes_on cpu there between none going = record {
      is_cpu = subst (λ (boot : State). is_some (cpu_row boot cpu) ≡ true) (sym boot_is) there;
      between = between;
      none = none;
      runs = going;
      counts = refl;
      bounded = omega (arith, last_counted cpu going);
    }
