-- A whole course is a run: at its end all is at rest, its history is legal and graced, and each CPU's
-- calls are those of its program.
use Rattle.std.proofs.Common.{◌≡◌, ◌<◌, ◌∙◌, ℕ, suc, Bool, true, false, not, List, [], ◌∷◌, length, refl, subst, sym, ap, arith, Option, Some, None, IsSome, IsTrue, filter, map, slice_get}
use Rattle.std.specs.List.{last_or, list_any}
use Rattle.std.specs.Prelude.{◌&&◌, ◌||◌, is_some, take}
use Rattle.std.proofs.lemmas.Bool.{both_ways, or_parts}
use Rattle.gh_base.specs.declared.frame.Frame.{Frame}
use Rattle.gh_base.specs.declared.frame.Reply.{Reply}
use Rattle.gh_base.specs.declared.ids.CpuNo.{CpuNo}
use Rattle.gh_base.specs.declared.limits.TheConstants.{CPUS}
use Rattle.gh_base.specs.declared.mark.Mark.{Mark}
use Rattle.gh_model.specs.Boot.{boot_fits, boot_state}
use Rattle.gh_model.specs.Graced.{IsGraced}
use Rattle.gh_model.specs.History.{entry_of, replay}
use Rattle.gh_model.specs.Legal.{IsLegal, exits, is_exit_call}
use Rattle.gh_model.specs.Marks.{Made, frame_of, reply_of}
use Rattle.gh_model.specs.Programs.{frames_made}
use Rattle.gh_model.specs.Rows.{cpu_row}
use Rattle.gh_model.specs.Run.{IsRun, is_mark_of}
use Rattle.gh_model.specs.declared.boot_line.BootLine.{BootLine}
use Rattle.gh_model.specs.declared.program.Step as program
use Rattle.gh_model.specs.declared.rows.CpuRow.{CpuRow}
use Rattle.gh_model.specs.declared.state.State.{State}
use Rattle.gh_events.specs.Config.{Config, Current, Given, present}
use Rattle.gh_events.specs.Sound.{IsAtRest, IsSound, made_by}
use Rattle.gh_events.specs.Start.{new_cpu}
use Rattle.gh_schedules.specs.Course.{Course, IsCourse, begin, call_of_cpu, either_call, goes_on, marks_by}
use Rattle.gh_schedules.specs.Schedule.{boot_start, course_of, scheduled}
use Rattle.gh_model.proofs.FittingLemmas.{boot_fitting, cpu_small}
use Rattle.gh_schedules.proofs.BootBlocks.{start_is_steady}
use Rattle.gh_schedules.proofs.CoursePrograms.{FollowsSoFar, new_follows}
use Rattle.gh_schedules.proofs.CourseRounds.{HasEnded, rounds_end, schedule_stays}
use Rattle.gh_schedules.proofs.CourseStays.{Stays, has_none, steps_are, steps_boot}
use Rattle.gh_events.proofs.SoundRest.{rest_graced, rest_legal, rest_numbered}

-- exit calls

or_later : (a b : Bool) → a ≡ false → (a || b) ≡ true → b ≡ true
or_later true b none is = absurd (let never : ⊥ = cc in never)
or_later false b none is = is

or_first : (a : Bool) → (a || false) ≡ true → a ≡ true
or_first true is = refl
or_first false is = is

some_none : {X : Type 0} (o : Option X) (x : X) → o ≡ Some x → o ≡ None → ⊥
some_none None x is none = let never : ⊥ = cc in never
some_none (Some y) x is none = let never : ⊥ = cc in never

-- none before a call exits
abbrev NoneBefore : List Made → Type 0
NoneBefore made = (i : ℕ) (one : Made) → slice_get made i ≡ Some one → list_any exits (take i made) ≡ false

-- where one exits and none before a call, the last one does
last_exits : (first : Made) (made : List Made) → NoneBefore (first ∷ made)
    → list_any exits (first ∷ made) ≡ true → is_exit_call (last_or None (first ∷ made)) ≡ true
last_exits first [] none is = or_first (exits first) is
last_exits first (second ∷ made) none is =
    let before : exits first ≡ false = (or_parts (exits first) false (none 1 second refl)).0 in
    last_exits second made (λ i one there. (or_parts (exits first) (list_any exits (take i (second ∷ made))) (none (suc i) one there)).1)
    (or_later (exits first) (list_any exits (second ∷ made)) before is)

exit_is_last : (made : List Made) → NoneBefore made → list_any exits made ≡ true
    → is_exit_call (last_or None made) ≡ true
exit_is_last [] none is = absurd (let never : ⊥ = cc in never)
exit_is_last (first ∷ made) none is = last_exits first made none is

-- a sound configuration at rest

module _ (lines : List BootLine) (fits : IsTrue (boot_fits lines)) (conf : Config) (boot_is : conf.boot ≡ boot_state lines)
    (sound : IsSound conf) (rest : IsAtRest conf) where
  -- where each CPU's last call is its exit call and its calls are its program's, it is a run
  pub rest_is_run : ((cpu : ℕ) → IsSome (cpu_row conf.boot cpu) → IsTrue (is_exit_call (last_or None (made_by conf cpu))))
      → (frames : ℕ → List Reply → List Frame)
      → ((cpu : ℕ) → map frame_of (made_by conf cpu) ≡ frames cpu (map reply_of (made_by conf cpu)))
      → (marks : List Mark) → ((cpu : ℕ) → filter (is_mark_of cpu) marks ≡ marks_by conf cpu)
      → IsRun lines frames (map entry_of conf.history) marks (present conf)
  rest_is_run exits frames follow marks are = record {
    history = conf.history;
    calls = made_by conf;
    its_entries = refl;
    its_marks = λ cpu. sym (are cpu);
    its_state = ap (λ (boot : State). replay boot conf.history) (sym boot_is);
    legal = subst (λ (boot : State). IsLegal boot conf.history (made_by conf)) boot_is (rest_legal conf sound rest exits);
    graced = subst (λ (boot : State). IsGraced boot conf.history (made_by conf)) boot_is (rest_graced conf sound rest);
    programs = follow;
  }

-- the course

module _ {P : Type 0} (answer : P → Option Reply → program.Step) (after : P → Option Reply → P)
    (lines : List BootLine) (first : ℕ → P) (fits : IsTrue (boot_fits lines)) where
  abbrev begin_conf : Config
  begin_conf = boot_start lines

  abbrev Kept : Course P → Type 0
  Kept course = Stays answer after begin_conf first course

  -- before its first call a CPU has its program
  begin_follows : (cpu : ℕ) → FollowsSoFar answer after (first cpu) new_cpu (first cpu)
  begin_follows cpu = record {
    follows = new_follows answer after (first cpu);
    idle = λ is. record { none = refl; dropped = refl };
    counted = λ none. let zero_calls : length new_cpu.made ≡ 0 = refl in omega arith;
  }

  begin_stays : Kept (begin begin_conf first)
  begin_stays = record {
    come = tt;
    behind = refl;
    steady = start_is_steady lines fits;
    follow = begin_follows;
    marks_are = λ cpu. refl;
  }

  seats : (cpu : ℕ) → is_some (cpu_row begin_conf.boot cpu) ≡ true → cpu < CPUS
  seats cpu there = omega (arith, cpu_small (boot_state lines) cpu (boot_fitting lines fits) there)

  module _ (schedule : List CpuNo) where
    abbrev course : Course P
    course = course_of answer after lines first schedule

    course_ended : HasEnded answer after begin_conf first seats course
    course_ended =
        rounds_end answer after begin_conf first seats (scheduled answer after lines first schedule)
        (schedule_stays answer after begin_conf first seats schedule (begin begin_conf first) begin_stays)

    stays : Kept course
    stays = course_ended.stays

    boot_is : course.conf.boot ≡ boot_state lines
    boot_is = ap (λ (conf : Config). conf.boot) (steps_are answer after begin_conf first course stays) ∙ steps_boot begin_conf course.steps

    -- at its end

    exited : (cpu : ℕ) → is_some (cpu_row course.conf.boot cpu) ≡ true → list_any exits (made_by course.conf cpu) ≡ true
    exited cpu there = by_exit (list_any exits (made_by course.conf cpu)) refl
      where
        by_exit : (any : Bool) → list_any exits (made_by course.conf cpu) ≡ any → any ≡ true
        by_exit true is = refl
        by_exit false is =
            let going : goes_on course.conf cpu ≡ true =
            ap (λ (b : Bool). b && not (list_any exits (made_by course.conf cpu))) there ∙ ap not is in
            absurd (both_ways (goes_on course.conf cpu) (course_ended.all_ended cpu) going)

    -- no CPU has a call
    call_none : (cpu : ℕ) (call : Option Given) → call_of_cpu (course.conf.cpu cpu) ≡ call
        → call_of_cpu (course.conf.cpu cpu) ≡ None
    call_none cpu None is = is
    call_none cpu (Some call) is = absurd (by_row (cpu_row course.conf.boot cpu) refl)
      where
        none : list_any exits (made_by course.conf cpu) ≡ false
        none = has_none course.conf cpu call stays.steady.sound.calls is

        by_row : (row : Option CpuRow) → cpu_row course.conf.boot cpu ≡ row → ⊥
        by_row None missing =
            let idle = (stays.steady.sound.calls.calls cpu).idle missing in
            some_none (call_of_cpu (course.conf.cpu cpu)) call is (ap (λ (one : Option Current). either_call one (course.conf.cpu cpu).next) idle.current ∙ idle.next)
        by_row (Some row) there =
            both_ways (list_any exits (made_by course.conf cpu)) none (exited cpu (ap is_some there))

    pub rest : IsAtRest course.conf
    rest = record {
      free = stays.steady.free;
      between = λ cpu. (stays.follow cpu).idle (call_none cpu (call_of_cpu (course.conf.cpu cpu)) refl);
    }

    last_is_exit : (cpu : ℕ) → IsSome (cpu_row course.conf.boot cpu)
        → IsTrue (is_exit_call (last_or None (made_by course.conf cpu)))
    last_is_exit cpu there =
        exit_is_last (made_by course.conf cpu) (λ i one is. (rest_numbered course.conf stays.steady.sound rest cpu i one is).no_exit) (exited cpu there)

    pub exits_last : (cpu : ℕ) → IsSome (cpu_row (boot_state lines) cpu)
        → IsTrue (is_exit_call (last_or None (made_by course.conf cpu)))
    exits_last cpu there = last_is_exit cpu (subst (λ (boot : State). IsSome (cpu_row boot cpu)) (sym boot_is) there)

    as_course : (one : Course P) → Kept one → IsCourse answer after begin_conf first one
    as_course one kept = record {
      come = kept.come;
      behind = kept.behind;
      steady = kept.steady;
      marks = kept.marks_are;
    }

    pub course_is : IsCourse answer after begin_conf first course
    course_is = as_course course stays

    pub scheduled_is : IsCourse answer after begin_conf first (scheduled answer after lines first schedule)
    scheduled_is =
        as_course (scheduled answer after lines first schedule)
        (schedule_stays answer after begin_conf first seats schedule (begin begin_conf first) begin_stays)

    -- it is a run
    pub course_is_run : IsRun lines (λ cpu. frames_made answer after (first cpu)) (map entry_of course.conf.history)
        course.marks (present course.conf)
    course_is_run =
        rest_is_run lines fits course.conf boot_is stays.steady.sound rest last_is_exit (λ cpu. frames_made answer after (first cpu))
        (λ cpu. (stays.follow cpu).follows.frames) course.marks stays.marks_are
