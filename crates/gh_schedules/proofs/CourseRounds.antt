-- Rounds of a course: each CPU that goes on makes one call more in each, so that all have ended.
use Rattle.std.proofs.Common.{◌≡◌, ◌==◌, ◌+◌, ◌<◌, ◌≤◌, ◌∙◌, ◌⊎◌, inl, inr, ℕ, zero, suc, Bool, true, false, not, List, [], ◌∷◌, length, refl, subst, sym, ap, arith, Option, fold, if◌then◌else◌}
use Rattle.std.specs.Prelude.{◌&&◌, ◌||◌, is_some}
use Rattle.std.specs.List.{list_any, range_with_len}
use Rattle.std.proofs.lemmas.Bool.{and_parts, and_right, eqb-true, not-true}
use Rattle.std.proofs.lemmas.Bool.Decides.{nat_tests}
use Rattle.gh_base.specs.declared.frame.Reply.{Reply}
use Rattle.gh_base.specs.declared.ids.CpuNo.{CpuNo}
use Rattle.gh_base.specs.declared.limits.TheConstants.{CPUS}
use Rattle.gh_model.specs.Legal.{exits}
use Rattle.gh_model.specs.Program.{last_number}
use Rattle.gh_model.specs.Rows.{cpu_row}
use Rattle.gh_model.specs.declared.program.Step as program
use Rattle.gh_model.specs.declared.state.State.{State}
use Rattle.gh_events.specs.Config.{Config}
use Rattle.gh_schedules.specs.Course.{Course, goes_on, with_next_call}
use Rattle.gh_schedules.specs.Schedule.{advanced, called, ended_call, round, rounds, with_item}
use Rattle.gh_events.specs.Sound.{made_by}
use Rattle.gh_schedules.proofs.CourseEnds.{Grows, as_was, grows_on, one_advanced, one_called}
use Rattle.gh_schedules.proofs.CourseStays.{Goes, Stays, steps_are, steps_boot}

-- a CPU that goes on is one of the boot and has made no exit call
goes : (conf : Config) (at : ℕ) → goes_on conf at ≡ true → Goes conf at
goes conf at is =
    let both = and_parts (is_some (cpu_row conf.boot at)) (not (list_any exits (made_by conf at))) is in
    record { row = both.0; no_exit = not-true (list_any exits (made_by conf at)) both.1 }

-- one that has ended stays so
module _ {P : Type 0} (course later : Course P) (grows : Grows course later) (at : ℕ) where
  ended_by : (row exited : Bool) → is_some (cpu_row course.conf.boot at) ≡ row
      → list_any exits (made_by course.conf at) ≡ exited → (row && not exited) ≡ false
      → goes_on later.conf at ≡ false
  ended_by false exited row is none =
      ap (λ (b : Bool). b && not (list_any exits (made_by later.conf at)))
      (ap (λ (boot : State). is_some (cpu_row boot at)) grows.boot ∙ row)
  ended_by true true row is none =
      and_right (is_some (cpu_row later.conf.boot at)) (not (list_any exits (made_by later.conf at))) (ap not (grows.exited at is))
  ended_by true false row is none = absurd (let never : ⊥ = cc in never)

  ended_stays : goes_on course.conf at ≡ false → goes_on later.conf at ≡ false
  ended_stays none =
      ended_by (is_some (cpu_row course.conf.boot at)) (list_any exits (made_by course.conf at)) refl refl none

module _ {P : Type 0} (answer : P → Option Reply → program.Step) (after : P → Option Reply → P)
    (begin_conf : Config) (first : ℕ → P)
    (seats : (cpu : ℕ) → is_some (cpu_row begin_conf.boot cpu) ≡ true → cpu < CPUS) where
  abbrev pub Kept : Course P → Type 0
  Kept course = Stays answer after begin_conf first course

  boot_is : (course : Course P) → Kept course → course.conf.boot ≡ begin_conf.boot
  boot_is course stays = ap (λ (conf : Config). conf.boot) (steps_are answer after begin_conf first course stays) ∙ steps_boot begin_conf course.steps

  within : (course : Course P) (at : ℕ) → Kept course → Goes course.conf at → at < CPUS
  within course at stays going =
      seats at (subst (λ (boot : State). is_some (cpu_row boot at) ≡ true) (boot_is course stays) going.row)

  -- the CPU has ended, or made so many calls more
  abbrev HasMade : Course P → Course P → ℕ → ℕ → Type 0
  HasMade course later more at =
      (goes_on later.conf at ≡ false) ⊎ (more + length (made_by course.conf at) ≤ length (made_by later.conf at))

  record IsLater (course later : Course P) : Type 0 where
    stays : Kept later
    grows : Grows course later

  -- the schedule

  advanced_by : (course : Course P) (cpu : CpuNo) (on : Bool) → goes_on course.conf cpu.0 ≡ on → Kept course
      → Kept (if on then with_item (with_next_call answer after course cpu.0) cpu.0 else course)
  advanced_by course cpu true is stays =
      let going : Goes course.conf cpu.0 = goes course.conf cpu.0 is in
      one_advanced answer after begin_conf first course cpu.0 stays going (within course cpu.0 stays going)
  advanced_by course cpu false is stays = stays

  pub schedule_stays : (schedule : List CpuNo) (course : Course P) → Kept course
      → Kept (fold (advanced answer after) course schedule)
  schedule_stays [] course stays = stays
  schedule_stays (cpu ∷ schedule) course stays =
      schedule_stays schedule (advanced answer after course cpu) (advanced_by course cpu (goes_on course.conf cpu.0) refl stays)

  -- rounds

  record HasTurned (course later : Course P) (at : ℕ) : Type 0 where
    is : IsLater course later
    hit : HasMade course later 1 at

  turned_by : (course : Course P) (at : ℕ) (on : Bool) → goes_on course.conf at ≡ on → Kept course
      → HasTurned course (if on then ended_call (with_next_call answer after course at) at else course) at
  turned_by course at true is stays =
      let going : Goes course.conf at = goes course.conf at is in
      let done = one_called answer after begin_conf first course at stays going (within course at stays going) in
      record {
        is = record { stays = done.stays; grows = done.grows };
        hit = inr (omega (arith, done.one_more));
      }
  turned_by course at false is stays = record { is = record { stays = stays; grows = as_was course }; hit = inl is }

  turned : (course : Course P) (at : ℕ) → Kept course → HasTurned course (called answer after course at) at
  turned course at stays = turned_by course at (goes_on course.conf at) refl stays

  -- what a CPU made before others had their turn, and what behind them
  made_before : (course middle later : Course P) (more at : ℕ) → Grows middle later → HasMade course middle more at
      → HasMade course later more at
  made_before course middle later more at grows (inl ended) = inl (ended_stays middle later grows at ended)
  made_before course middle later more at grows (inr made) = inr (omega (arith, made, grows.longer at))

  made_behind : (course middle later : Course P) (more at : ℕ) → Grows course middle → HasMade middle later more at
      → HasMade course later more at
  made_behind course middle later more at grows (inl ended) = inl ended
  made_behind course middle later more at grows (inr made) = inr (omega (arith, made, grows.longer at))

  all_turned : (cpus : List ℕ) (course : Course P) → Kept course
      → IsLater course (fold (called answer after) course cpus)
  all_turned [] course stays = record { stays = stays; grows = as_was course }
  all_turned (cpu ∷ cpus) course stays =
      let one : HasTurned course (called answer after course cpu) cpu = turned course cpu stays in
      let rest = all_turned cpus (called answer after course cpu) one.is.stays in
      record {
        stays = rest.stays;
        grows = grows_on course (called answer after course cpu) (fold (called answer after) (called answer after course cpu) cpus) one.is.grows rest.grows;
      }

  each_turned : (cpus : List ℕ) (course : Course P) (at : ℕ) → Kept course
      → list_any (λ (cpu : ℕ). cpu == at) cpus ≡ true
      → HasMade course (fold (called answer after) course cpus) 1 at
  each_turned [] course at stays is = absurd (let never : ⊥ = cc in never)
  each_turned (cpu ∷ cpus) course at stays is =
      by_here (cpu == at) refl is (λ later. each_turned cpus (called answer after course cpu) at (turned course cpu stays).is.stays later)
    where
      middle : Course P
      middle = called answer after course cpu

      one : HasTurned course middle cpu
      one = turned course cpu stays

      by_here : (here : Bool) → (cpu == at) ≡ here
          → (here || list_any (λ (other : ℕ). other == at) cpus) ≡ true
          → (list_any (λ (other : ℕ). other == at) cpus ≡ true → HasMade middle (fold (called answer after) middle cpus) 1 at)
          → HasMade course (fold (called answer after) middle cpus) 1 at
      by_here true same either others =
          let its : HasMade course middle 1 at = subst (λ (n : ℕ). HasMade course middle 1 n) (eqb-true cpu at same) one.hit in
          made_before course middle (fold (called answer after) middle cpus) 1 at (all_turned cpus middle one.is.stays).grows its
      by_here false other either others =
          made_behind course middle (fold (called answer after) middle cpus) 1 at one.is.grows (others either)

  in_cpus : (from n at : ℕ) → from ≤ at → at < from + n → list_any (λ (cpu : ℕ). cpu == at) (range_with_len from n) ≡ true
  in_cpus from zero at low high = absurd (omega arith)
  in_cpus from (suc n) at low high = by_first (from == at) refl (λ above. in_cpus (from + 1) n at above (omega arith))
    where
      by_first : (here : Bool) → (from == at) ≡ here
          → (from + 1 ≤ at → list_any (λ (cpu : ℕ). cpu == at) (range_with_len (from + 1) n) ≡ true)
          → (here || list_any (λ (cpu : ℕ). cpu == at) (range_with_len (from + 1) n)) ≡ true
      by_first true is others = refl
      by_first false is others = let apart : (from == at) ≡ false = is in others (grind (arith, nat_tests))

  -- in a round each CPU that goes on makes a call
  round_is : (course : Course P) → Kept course → IsLater course (round answer after course)
  round_is course stays = all_turned (range_with_len 0 CPUS) course stays

  round_made : (course : Course P) (at : ℕ) → Kept course → HasMade course (round answer after course) 1 at
  round_made course at stays = by_seat (goes_on course.conf at) refl
    where
      by_seat : (on : Bool) → goes_on course.conf at ≡ on → HasMade course (round answer after course) 1 at
      by_seat true is =
          each_turned (range_with_len 0 CPUS) course at stays
          (in_cpus 0 CPUS at (omega arith) (omega (arith, within course at stays (goes course.conf at is))))
      by_seat false is = inl (ended_stays course (round answer after course) (round_is course stays).grows at is)

  record HasRun (course later : Course P) (n : ℕ) : Type 0 where
    is : IsLater course later
    each : (at : ℕ) → HasMade course later n at

  -- so many rounds
  rounds_run : (n : ℕ) (course : Course P) → Kept course → HasRun course (rounds answer after n course) n
  unfolding rounds
  rounds_run zero course stays =
      record { is = record { stays = stays; grows = as_was course }; each = λ at. inr (omega arith) }
  rounds_run (suc n) course stays =
      let one : Course P = round answer after course in
      let is : IsLater course one = round_is course stays in
      let rest : HasRun one (rounds answer after n one) n = rounds_run n one is.stays in
      record {
        is = record { stays = rest.is.stays; grows = grows_on course one (rounds answer after n one) is.grows rest.is.grows };
        each = λ at. both course one (rounds answer after n one) at rest.is.grows (round_made course at stays) (rest.each at);
      }
    where
      both : (first_one middle later : Course P) (at : ℕ) → Grows middle later → HasMade first_one middle 1 at
          → HasMade middle later n at
          → HasMade first_one later (suc n) at
      both first_one middle later at grows (inl ended) rest = inl (ended_stays middle later grows at ended)
      both first_one middle later at grows (inr made) (inl ended) = inl ended
      both first_one middle later at grows (inr made) (inr more) = inr (omega (arith, made, more))

  -- behind the rounds all have ended
  pub record HasEnded (course : Course P) : Type 0 where
    pub stays : Kept course
    pub all_ended : (at : ℕ) → goes_on course.conf at ≡ false

  no_more : (course later : Course P) (at : ℕ) → Kept later → HasMade course later last_number at → (on : Bool)
      → goes_on later.conf at ≡ on
      → on ≡ false
  no_more course later at stays made false is = refl
  no_more course later at stays (inl ended) true is = sym is ∙ ended
  no_more course later at stays (inr more) true is =
      let below : length (made_by later.conf at) < last_number = (stays.follow at).counted (goes later.conf at is).no_exit in
      absurd (omega (arith, below, more))

  pub rounds_end : (course : Course P) → Kept course → HasEnded (rounds answer after last_number course)
  rounds_end course stays =
      let run : HasRun course (rounds answer after last_number course) last_number =
      rounds_run last_number course stays in
      record {
        stays = run.is.stays;
        all_ended = λ at. no_more course (rounds answer after last_number course) at run.is.stays (run.each at) (goes_on (rounds answer after last_number course).conf at) refl;
      }
