-- A course: how far programs have come on the machine, in any interleaving of their calls and of
-- the machine's events. A program that waits for a ring is asked again at once: so this isn't yet
-- the course of a resource manager.
use Rattle.std.specs.List.{last_or, list_any, range_with_len}
use Rattle.std.specs.Prelude.{◌≡◌, ◌&&◌, ◌+◌, ⊤, not, ℕ, Bool, List, [], ◌∷◌, ◌++◌, length, drop, Option, Some, None, filter, flat_map, fold, map, is_some, option_map, if◌then◌else◌}
use Rattle.gh_base.specs.declared.frame.Frame.{Frame}
use Rattle.gh_base.specs.declared.frame.Reply.{Reply}
use Rattle.gh_base.specs.declared.limits.TheConstants.{CPUS}
use Rattle.gh_base.specs.declared.mark.Mark.{Mark}
use Rattle.gh_model.specs.Legal.{exits}
use Rattle.gh_model.specs.Marks.{Made, mark_of, reply_of}
use Rattle.gh_model.specs.Programs.{asked}
use Rattle.gh_model.specs.Rows.{cpu_row}
use Rattle.gh_model.specs.Run.{is_mark_of}
use Rattle.gh_model.specs.declared.program.Standing.{Standing}
use Rattle.gh_model.specs.declared.program.Step as program
use Rattle.gh_events.specs.Config.{Config, Cpu, Current, Given, put}
use Rattle.gh_events.specs.Events.{Possible}
use Rattle.gh_events.specs.Sound.{Does, Gives, Step, after_steps, made_by}
use Rattle.gh_events.specs.Start.{MayGive}
use Rattle.gh_schedules.specs.Items.{IsSteady}

-- calls

-- the call in progress, or else the next one
abbrev pub either_call : Option Current → Option Given → Option Given
either_call None next = next
either_call (Some call) next = Some call.given

-- the call that a CPU has, if it has one
abbrev pub call_of_cpu : Cpu → Option Given
call_of_cpu cpu = either_call cpu.current cpu.next

-- marks

-- the marks of a CPU's finished calls
abbrev pub marks_by : Config → ℕ → List Mark
marks_by conf cpu = map mark_of (made_by conf cpu)

-- the marks of the calls that a CPU finished between two configurations
abbrev pub marks_since : Config → Config → ℕ → List Mark
marks_since before behind cpu = drop (length (marks_by before cpu)) (marks_by behind cpu)

-- those of all CPUs, in rising order
abbrev pub marks_added : Config → Config → List Mark
marks_added before behind = flat_map (marks_since before behind) (range_with_len 0 CPUS)

-- programs

-- how far programs have come: the steps so far, the configuration behind them, what each CPU's
-- program has left, and the marks of the finished calls in the order in which they ended
pub record Course (P : Type 0) : Type 0 where
  pub steps : List Step
  pub conf : Config
  pub programs : ℕ → P
  pub marks : List Mark

-- before the first call
abbrev pub begin : {P : Type 0} → Config → (ℕ → P) → Course P
begin conf programs = record { steps = []; conf = conf; programs = programs; marks = [] }

-- more steps, by which one call ends at most
abbrev pub with_steps : {P : Type 0} → Course P → List Step → Course P
with_steps course steps = record course {
  steps = course.steps ++ steps;
  conf = after_steps course.conf steps;
  marks = course.marks ++ marks_added course.conf (after_steps course.conf steps);
}

-- the reply to the last of these calls
abbrev pub last_reply : List Made → Option Reply
last_reply made = option_map reply_of (last_or None made)

-- a CPU of the boot goes on until it has made its exit call
abbrev pub goes_on : Config → ℕ → Bool
goes_on conf at = is_some (cpu_row conf.boot at) && not (list_any exits (made_by conf at))

-- programs by their answers and the states after them
module _ {P : Type 0} (answer : P → Option Reply → program.Step)
    (after : P → Option Reply → P) where
  -- what the program of a CPU comes to when it is asked for its next call
  abbrev pub next_standing : Course P → ℕ → Standing P
  next_standing course at =
      asked answer after (length (made_by course.conf at) + 1) (course.programs at)
      (last_reply (made_by course.conf at))

  -- the step by which a CPU is given the call
  abbrev pub giving : Course P → ℕ → Standing P → Step
  giving course at standing = Gives at (length (made_by course.conf at) + 1) standing.frame

  -- the CPU is given the call, and its program has the rest left
  abbrev pub with_call : Course P → ℕ → Standing P → Course P
  with_call course at standing = record (with_steps course (giving course at standing ∷ [])) {
    programs = put course.programs at standing.program;
  }

  -- a CPU without a call is given its program's next one
  abbrev pub with_next_call : Course P → ℕ → Course P
  with_next_call course at =
      if is_some (call_of_cpu (course.conf.cpu at)) then course
      else with_call course at (next_standing course at)

  -- the call is the one that the CPU's program makes next
  pub record IsNextCall (course : Course P) (at number : ℕ) (frame : Frame) : Type 0 where
    pub may : MayGive course.conf at number
    pub its_frame : frame ≡ (next_standing course at).frame

  -- a step may come next: such a call, or any event that is possible
  abbrev pub MayCome : Course P → Step → Type 0
  MayCome course (Gives at number frame) = IsNextCall course at number frame
  MayCome course (Does event) = Possible course.conf event

  -- the course behind a step
  abbrev pub behind_step : Course P → Step → Course P
  behind_step course (Does event) = with_steps course (Does event ∷ [])
  behind_step course (Gives at number frame) =
      record (with_steps course (Gives at number frame ∷ [])) {
        programs = put course.programs at (next_standing course at).program;
      }

  -- the course behind these steps
  abbrev pub behind_steps : Course P → List Step → Course P
  behind_steps course steps = fold behind_step course steps

  -- each step may come where it comes
  abbrev pub IsInterleaving : Course P → List Step → Type 0
  IsInterleaving course [] = ⊤
  IsInterleaving course (step ∷ steps) =
      MayCome course step × IsInterleaving (behind_step course step) steps

-- the course is an interleaving of its programs from the start on, and what its steps lead to one
-- by one. Its configuration is steady, and of each CPU's calls it has the marks in order
pub record IsCourse {P : Type 0} (answer : P → Option Reply → program.Step)
    (after : P → Option Reply → P) (begin_conf : Config) (programs : ℕ → P) (course : Course P)
    : Type 0 where
  pub come : IsInterleaving answer after (begin begin_conf programs) course.steps
  pub behind : behind_steps answer after (begin begin_conf programs) course.steps ≡ course
  pub steady : IsSteady course.conf
  pub marks : (cpu : ℕ) → filter (is_mark_of cpu) course.marks ≡ marks_by course.conf cpu
