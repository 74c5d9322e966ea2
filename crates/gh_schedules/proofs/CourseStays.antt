-- What a course keeps, step by step: its configuration is sound, the turn is free between items, and
-- each CPU's calls are those of its program.
use Rattle.std.proofs.Common.{◌≡◌, ◌==◌, ◌+◌, ◌<◌, ◌∙◌, ◌⊎◌, inl, inr, ℕ, true, false, List, [], ◌∷◌, ◌++◌, length, refl, subst, sym, ap, arith, Option, Some, None, filter, map}
use Rattle.std.specs.List.{list_any}
use Rattle.std.specs.Prelude.{Result, Ok, Err, is_some}
use Rattle.std.proofs.lemmas.Bool.Decides.{eqb_tells}
use Rattle.std.proofs.lemmas.List.Sums.{fold-append}
use Rattle.std.proofs.lemmas.List.{append-nil}
use Rattle.gh_base.specs.declared.call.Call.{Call}
use Rattle.gh_base.specs.declared.errno.Errno.{Errno}
use Rattle.gh_base.specs.declared.frame.Reply.{Reply}
use Rattle.gh_base.specs.declared.limits.TheConstants.{CPUS}
use Rattle.gh_base.specs.declared.mark.Mark.{Mark}
use Rattle.gh_model.specs.Legal.{exits}
use Rattle.gh_model.specs.Marks.{Made}
use Rattle.gh_model.specs.Program.{last_number}
use Rattle.gh_model.specs.Registers.{call_of}
use Rattle.gh_model.specs.Rows.{cpu_row}
use Rattle.gh_model.specs.Run.{is_mark_of}
use Rattle.gh_model.specs.declared.program.Standing.{Standing}
use Rattle.gh_model.specs.declared.program.Step as program
use Rattle.gh_events.specs.Calls.{HasCalls}
use Rattle.gh_events.specs.Config.{Config, Cpu, Current, Given, IsBetween, put}
use Rattle.gh_events.specs.Sound.{Does, Gives, Step, after_step, after_steps, made_by}
use Rattle.gh_events.specs.Start.{MayGive, given, refused_frame, with_next}
use Rattle.gh_schedules.specs.Course.{Course, IsInterleaving, begin, behind_step, behind_steps, call_of_cpu, either_call, marks_added, marks_by, next_standing, with_call, with_steps}
use Rattle.gh_schedules.specs.Items.{IsSteady, item}
use Rattle.gh_schedules.specs.Schedule.{CallEnds, CallGoesOn, IsItem}
use Rattle.gh_schedules.proofs.BootBlocks.{given_steady}
use Rattle.gh_schedules.proofs.CourseMarks.{marks_stay}
use Rattle.gh_schedules.proofs.CoursePrograms.{FollowsSoFar, end_counted, end_follows, next_counted, next_follows, same_follows}
use Rattle.gh_schedules.proofs.CourseSteps.{behind_events, events_interleave, interleave_on, steps_conf}
use Rattle.gh_schedules.proofs.OwnEvents.{item_own}
use Rattle.gh_events.proofs.Finding.{put_here, put_other}
use Rattle.gh_events.proofs.SoundEvents.{boot_stays}

-- steps

step_boot : (conf : Config) (step : Step) → (after_step conf step).boot ≡ conf.boot
step_boot conf (Gives at number frame) = refl
step_boot conf (Does event) = boot_stays conf event

pub steps_boot : (conf : Config) (steps : List Step) → (after_steps conf steps).boot ≡ conf.boot
steps_boot conf [] = refl
steps_boot conf (step ∷ steps) = steps_boot (after_step conf step) steps ∙ step_boot conf step

-- calls

-- a CPU that has a call has made no exit call
pub has_none : (conf : Config) (at : ℕ) (given : Given) → HasCalls conf → call_of_cpu (conf.cpu at) ≡ Some given
    → list_any exits (made_by conf at) ≡ false
has_none conf at given sound is = by_current (conf.cpu at).current refl
  where
    by_next : (next : Option Given) → (conf.cpu at).next ≡ next → next ≡ Some given
        → list_any exits (made_by conf at) ≡ false
    by_next None is_next same = absurd (let never : ⊥ = cc in never)
    by_next (Some one) is_next same = ((sound.calls at).next one is_next).follows.no_exit

    by_current : (current : Option Current) → (conf.cpu at).current ≡ current
        → list_any exits (made_by conf at) ≡ false
    by_current None none =
        by_next (conf.cpu at).next refl (sym (ap (λ (one : Option Current). either_call one (conf.cpu at).next) none) ∙ is)
    by_current (Some call) there = ((sound.calls at).current call there).follows.no_exit

-- one CPU's finished calls are as they were, or one more
abbrev pub MoreCalls : Cpu → Cpu → Type 0
MoreCalls before now =
    (now.made ≡ before.made) ⊎ ((call : Made) × (now.made ≡ before.made ++ call ∷ []))

-- the calls that it has more
abbrev more_of : (before now : Cpu) → MoreCalls before now → List Made
more_of before now (inl same) = []
more_of before now (inr one) = one.0 ∷ []

more_are : (before now : Cpu) (either : MoreCalls before now) → now.made ≡ before.made ++ more_of before now either
more_are before now (inl same) = same ∙ sym (append-nil before.made)
more_are before now (inr one) = one.1

-- so the marks of each CPU are still those of its calls
pub marks_more : (before behind : Config) (at : ℕ) → at < CPUS
    → ((cpu : ℕ) → (cpu == at) ≡ false → behind.cpu cpu ≡ before.cpu cpu) → MoreCalls (before.cpu at) (behind.cpu at)
    → HasCalls behind → (marks : List Mark) → ((cpu : ℕ) → filter (is_mark_of cpu) marks ≡ marks_by before cpu) → (cpu : ℕ)
    → filter (is_mark_of cpu) (marks ++ marks_added before behind) ≡ marks_by behind cpu
marks_more before behind at within others own sound marks were cpu =
    marks_stay before behind at (more_of (before.cpu at) (behind.cpu at) own) within others
    (more_are (before.cpu at) (behind.cpu at) own) sound marks were cpu

-- a CPU that goes on
pub record Goes (conf : Config) (at : ℕ) : Type 0 where
  pub row : is_some (cpu_row conf.boot at) ≡ true
  pub no_exit : list_any exits (made_by conf at) ≡ false

module _ {P : Type 0} (answer : P → Option Reply → program.Step) (after : P → Option Reply → P)
    (begin_conf : Config) (first : ℕ → P) where
  -- what a course keeps between items
  pub record Stays (course : Course P) : Type 0 where
    pub come : IsInterleaving answer after (begin begin_conf first) course.steps
    pub behind : behind_steps answer after (begin begin_conf first) course.steps ≡ course
    pub steady : IsSteady course.conf
    pub follow : (cpu : ℕ) → FollowsSoFar answer after (first cpu) (course.conf.cpu cpu) (course.programs cpu)
    pub marks_are : (cpu : ℕ) → filter (is_mark_of cpu) course.marks ≡ marks_by course.conf cpu

  -- its configuration is the one behind its steps
  pub steps_are : (course : Course P) → Stays course → course.conf ≡ after_steps begin_conf course.steps
  steps_are course stays =
      sym (ap (λ (one : Course P). one.conf) stays.behind) ∙ steps_conf answer after course.steps (begin begin_conf first)

  -- more steps, by which a CPU finishes these calls, and behind which programs have this left
  module _ (course : Course P) (steps : List Step) (programs : ℕ → P) (stays : Stays course)
      (come : IsInterleaving answer after course steps)
      (comes_to : behind_steps answer after course steps ≡ record (with_steps course steps) { programs = programs })
      (steady : IsSteady (after_steps course.conf steps))
      (each : (cpu : ℕ) → FollowsSoFar answer after (first cpu) ((after_steps course.conf steps).cpu cpu) (programs cpu))
      (at : ℕ) (within : at < CPUS)
      (others : (cpu : ℕ) → (cpu == at) ≡ false → (after_steps course.conf steps).cpu cpu ≡ course.conf.cpu cpu)
      (own : MoreCalls (course.conf.cpu at) ((after_steps course.conf steps).cpu at)) where
    steps_stay : Stays (record (with_steps course steps) { programs = programs })
    steps_stay = record {
      come =
          interleave_on answer after (begin begin_conf first) course.steps steps stays.come
          (subst (λ (one : Course P). IsInterleaving answer after one steps) (sym stays.behind) come);
      behind =
          fold-append (behind_step answer after) (begin begin_conf first) course.steps steps
          ∙ ap (λ (one : Course P). behind_steps answer after one steps) stays.behind ∙ comes_to;
      steady = steady;
      follow = each;
      marks_are = marks_more course.conf (after_steps course.conf steps) at within others own steady.sound.calls course.marks stays.marks_are;
    }

  -- of which one CPU has this left, and the others are as they were
  module _ (course : Course P) (conf : Config) (at : ℕ) (left : P) (stays : Stays course)
      (others : (cpu : ℕ) → (cpu == at) ≡ false → conf.cpu cpu ≡ course.conf.cpu cpu)
      (own : FollowsSoFar answer after (first at) (conf.cpu at) left) where
    each_but_one : (cpu : ℕ) → FollowsSoFar answer after (first cpu) (conf.cpu cpu) (put course.programs at left cpu)
    each_but_one cpu =
        elim (eqb_tells cpu at) as (λ _. FollowsSoFar answer after (first cpu) (conf.cpu cpu) (put course.programs at left cpu)) [
          | inl same ↦
              subst (λ (n : ℕ). FollowsSoFar answer after (first n) (conf.cpu n) (put course.programs at left n)) (sym same.1)
              (subst (λ (p : P). FollowsSoFar answer after (first at) (conf.cpu at) p) (sym (put_here course.programs at left)) own)
          | inr differs ↦
              subst (λ (p : P). FollowsSoFar answer after (first cpu) (conf.cpu cpu) p) (sym (put_other course.programs at left cpu differs.0))
              (subst (λ (one : Cpu). FollowsSoFar answer after (first cpu) one (course.programs cpu)) (sym (others cpu differs.0)) (stays.follow cpu))
        ]

    each_as_was : left ≡ course.programs at → (cpu : ℕ)
        → FollowsSoFar answer after (first cpu) (conf.cpu cpu) (course.programs cpu)
    each_as_was same cpu =
        elim (eqb_tells cpu at) as (λ _. FollowsSoFar answer after (first cpu) (conf.cpu cpu) (course.programs cpu)) [
          | inl here ↦
              subst (λ (n : ℕ). FollowsSoFar answer after (first n) (conf.cpu n) (course.programs n)) (sym here.1)
              (subst (λ (p : P). FollowsSoFar answer after (first at) (conf.cpu at) p) same own)
          | inr differs ↦
              subst (λ (one : Cpu). FollowsSoFar answer after (first cpu) one (course.programs cpu)) (sym (others cpu differs.0)) (stays.follow cpu)
        ]

  -- it is given its program's next call
  module _ (course : Course P) (at : ℕ) (stays : Stays course) (goes : Goes course.conf at) (within : at < CPUS)
      (none : call_of_cpu (course.conf.cpu at) ≡ None) where
    abbrev cpu : Cpu
    cpu = course.conf.cpu at

    abbrev made : List Made
    made = made_by course.conf at

    abbrev standing : Standing P
    standing = next_standing answer after course at

    own : FollowsSoFar answer after (first at) cpu (course.programs at)
    own = stays.follow at

    between : IsBetween cpu
    between = own.idle none

    no_next : cpu.next ≡ None
    no_next = sym (ap (λ (one : Option Current). either_call one cpu.next) between.none) ∙ none

    may_give : MayGive course.conf at (length made + 1)
    may_give = record {
      is_cpu = goes.row;
      between = between;
      none = no_next;
      runs = goes.no_exit;
      counts = refl;
      bounded = omega (arith, own.counted goes.no_exit);
    }

    given_follows : (call : Result Call Errno)
        → FollowsSoFar answer after (first at) (with_next at (length made + 1) standing.frame cpu call) standing.program
    given_follows call = record {
      follows = next_follows answer after (first at) at (length made + 1) cpu (course.programs at) own.follows goes.no_exit between.none none call;
      idle = still_between call;
      counted = next_counted answer after (first at) at (length made + 1) cpu (course.programs at) own.follows goes.no_exit between.none none call (own.counted goes.no_exit);
    }
      where
        still_between : (shape : Result Call Errno)
            → call_of_cpu (with_next at (length made + 1) standing.frame cpu shape) ≡ None
            → IsBetween (with_next at (length made + 1) standing.frame cpu shape)
        still_between (Ok call) is = record { none = between.none; dropped = between.dropped }
        still_between (Err errno) is = record { none = between.none; dropped = between.dropped }

    pub given_more : (shape : Result Call Errno) → MoreCalls cpu (with_next at (length made + 1) standing.frame cpu shape)
    given_more (Ok call) = inl refl
    given_more (Err errno) = inr (refused_frame at (length made + 1) standing.frame errno, refl)

    -- the CPU behind the step
    pub given_here : (given course.conf at (length made + 1) standing.frame).cpu at
        ≡ with_next at (length made + 1) standing.frame cpu (call_of standing.frame)
    given_here = put_here course.conf.cpu at (with_next at (length made + 1) standing.frame cpu (call_of standing.frame))

    pub call_stays : Stays (with_call answer after course at standing)
    call_stays =
        steps_stay course (Gives at (length made + 1) standing.frame ∷ []) (put course.programs at standing.program) stays
        (record { may = may_give; its_frame = refl }, tt) refl
        (given_steady course.conf at (length made + 1) standing.frame stays.steady may_give)
        (each_but_one course (given course.conf at (length made + 1) standing.frame) at standing.program stays
        (λ n differs. put_other course.conf.cpu at _ n differs)
        (subst (λ (one : Cpu). FollowsSoFar answer after (first at) one standing.program) (sym given_here)
        (given_follows (call_of standing.frame))))
        at within (λ n differs. put_other course.conf.cpu at _ n differs)
        (subst (λ (now : Cpu). MoreCalls cpu now) (sym given_here) (given_more (call_of standing.frame)))

  -- an item of the call that it has
  module _ (course : Course P) (at : ℕ) (call : Given) (stays : Stays course) (within : at < CPUS)
      (has : call_of_cpu (course.conf.cpu at) ≡ Some call) where
    abbrev before : Cpu
    before = course.conf.cpu at

    was : FollowsSoFar answer after (first at) before (course.programs at)
    was = stays.follow at

    goes_follows : (now : Cpu) → CallGoesOn before now → FollowsSoFar answer after (first at) now (course.programs at)
    goes_follows now on =
        let still : call_of_cpu now ≡ Some call = on.same ∙ has in
        record {
          follows = same_follows answer after (first at) before now (course.programs at) was.follows on.made on.same;
          idle = λ is. absurd (let never : ⊥ = cc in never);
          counted = subst (λ (list : List Made). list_any exits list ≡ false → length list < last_number) (sym on.made) was.counted;
        }

    ended_follows : (now : Cpu) → CallEnds call before now → FollowsSoFar answer after (first at) now (course.programs at)
    ended_follows now ends =
        let going : list_any exits before.made ≡ false = has_none course.conf at call stays.steady.sound.calls has in
        let none : call_of_cpu now ≡ None =
        ap (λ (one : Option Current). either_call one now.next) ends.between.none ∙ ends.none in
        record {
          follows = end_follows answer after (first at) before now (course.programs at) was.follows call ends.call going has ends.made ends.frame none;
          idle = λ is. ends.between;
          counted = end_counted answer after (first at) before now (course.programs at) was.follows call ends.call going has ends.made ends.frame (was.counted going);
        }

    either_follows : (now : Cpu) → CallGoesOn before now ⊎ CallEnds call before now
        → FollowsSoFar answer after (first at) now (course.programs at)
    either_follows now (inl on) = goes_follows now on
    either_follows now (inr ends) = ended_follows now ends

    pub either_more : (now : Cpu) → CallGoesOn before now ⊎ CallEnds call before now → MoreCalls before now
    either_more now (inl on) = inl on.made
    either_more now (inr ends) = inr (ends.call, ends.made)

    abbrev behind_item : Config
    behind_item = after_steps course.conf (map Does (item course.conf at))

    pub item_stays : IsItem course.conf at call (item course.conf at) → Stays (with_steps course (map Does (item course.conf at)))
    item_stays is =
        steps_stay course (map Does (item course.conf at)) course.programs stays
        (events_interleave answer after course (item course.conf at) is.runs)
        (behind_events answer after (item course.conf at) course at within stays.steady.sound is.runs (item_own at course.conf)) is.steady
        (each_as_was course behind_item at (course.programs at) stays is.others (either_follows (behind_item.cpu at) is.own) refl)
        at within is.others (either_more (behind_item.cpu at) is.own)
