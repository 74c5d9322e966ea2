-- What a schedule makes of programs: their calls item by item, and then whole calls, until every
-- program has ended.
use Rattle.std.specs.List.{range_with_len}
use Rattle.std.specs.Prelude.{◌≡◌, ◌==◌, ◌+◌, ◌-◌, ◌*◌, ◌<◌, ◌⊎◌, ℕ, zero, suc, false, List, [], ◌∷◌, ◌++◌, length, Option, Some, None, fold, map, is_some, if◌then◌else◌}
use Rattle.gh_base.specs.declared.frame.Reply.{Reply}
use Rattle.gh_base.specs.declared.ids.CpuNo.{CpuNo}
use Rattle.gh_base.specs.declared.limits.TheConstants.{CPUS}
use Rattle.gh_model.specs.Boot.{boot_state}
use Rattle.gh_model.specs.Marks.{Made, frame_of}
use Rattle.gh_model.specs.Program.{last_number}
use Rattle.gh_model.specs.Registers.{needs_of}
use Rattle.gh_model.specs.declared.boot_line.BootLine.{BootLine}
use Rattle.gh_model.specs.declared.program.Step as program
use Rattle.gh_events.specs.Config.{AtAct, Config, Cpu, Current, DeadPin, Failed, Given, IsBetween, Looked, Reading, Stage, Undone}
use Rattle.gh_events.specs.Sound.{Does, Runs, after_steps}
use Rattle.gh_events.specs.Start.{start}
use Rattle.gh_events.specs.declared.event.Event.{Event}
use Rattle.gh_schedules.specs.Course.{Course, begin, call_of_cpu, goes_on, with_next_call, with_steps}
use Rattle.gh_schedules.specs.Indices.{boot_index}
use Rattle.gh_schedules.specs.Items.{IsSteady, item}

-- items

-- how many items a call has left at most, with so many looks to come: two for each, the end of its
-- section, and its act
abbrev pub items_at : Stage → ℕ → ℕ
items_at Reading looks = 2 * looks + 2
items_at Looked looks = 2 * looks + 3
items_at DeadPin looks = 2
items_at Undone looks = 1
items_at Failed looks = 1
items_at AtAct looks = 1

-- before a call begins its section all its looks are to come
abbrev pub items_of_next : Option Given → ℕ
items_of_next None = 0
items_of_next (Some given) = 2 * length (needs_of given.call) + 3

-- of a call in progress, those that it hasn't made yet
abbrev pub items_of_call : Option Current → Option Given → ℕ
items_of_call None next = items_of_next next
items_of_call (Some call) next =
    items_at call.stage (length (needs_of call.given.call) - length call.seen)

-- the most items that the call of a CPU has left
abbrev pub items_left : Cpu → ℕ
items_left cpu = items_of_call cpu.current cpu.next

-- the call goes on, with fewer items left
pub record CallGoesOn (before behind : Cpu) : Type 0 where
  pub same : call_of_cpu behind ≡ call_of_cpu before
  pub made : behind.made ≡ before.made
  pub fewer : items_left behind < items_left before

-- the call has ended: it is the last of the finished ones, and its pins are dropped
pub record CallEnds (given : Given) (before behind : Cpu) : Type 0 where
  pub call : Made
  pub made : behind.made ≡ before.made ++ call ∷ []
  pub frame : frame_of call ≡ given.frame
  pub none : behind.next ≡ None
  pub between : IsBetween behind

-- these events are one item of the call of a CPU: they are possible one after the other, leave the
-- other CPUs as they are and the configuration steady, and bring the call nearer to its end
pub record IsItem (conf : Config) (at : ℕ) (given : Given) (events : List Event) : Type 0 where
  pub runs : Runs conf (map Does events)
  pub steady : IsSteady (after_steps conf (map Does events))
  pub others : (cpu : ℕ) → (cpu == at) ≡ false
      → (after_steps conf (map Does events)).cpu cpu ≡ conf.cpu cpu
  pub own : CallGoesOn (conf.cpu at) ((after_steps conf (map Does events)).cpu at)
      ⊎ CallEnds given (conf.cpu at) ((after_steps conf (map Does events)).cpu at)

-- schedules

-- one item of the call of a CPU. One whose frame was refused has ended, without an event
abbrev pub with_item : {P : Type 0} → Course P → ℕ → Course P
with_item course at =
    if is_some (call_of_cpu (course.conf.cpu at))
    then with_steps course (map Does (item course.conf at)) else course

-- so many items; those behind the call's end do nothing
unfoldable pub with_items : {P : Type 0} → ℕ → Course P → ℕ → Course P
with_items zero course at = course
with_items (suc more) course at = with_items more (with_item course at) at

-- the CPU's call comes to its end
abbrev pub ended_call : {P : Type 0} → Course P → ℕ → Course P
ended_call course at = with_items (items_left (course.conf.cpu at)) course at

-- the configuration of a boot file before the first call: each object has its index of the boot
abbrev pub boot_start : List BootLine → Config
boot_start boot = start (boot_state boot) (boot_index (boot_state boot))

-- programs by their answers and the states after them
module _ {P : Type 0} (answer : P → Option Reply → program.Step)
    (after : P → Option Reply → P) where
  -- the CPU is advanced by one item; one that has ended does nothing
  abbrev pub advanced : Course P → CpuNo → Course P
  advanced course cpu =
      if goes_on course.conf cpu.0
      then with_item (with_next_call answer after course cpu.0) cpu.0 else course

  -- the CPU finishes the call in progress, or else makes one whole call
  abbrev pub called : Course P → ℕ → Course P
  called course at =
      if goes_on course.conf at
      then ended_call (with_next_call answer after course at) at else course

  -- the CPUs in rising order, each of them so
  abbrev pub round : Course P → Course P
  round course = fold called course (range_with_len 0 CPUS)

  -- so many rounds
  unfoldable pub rounds : ℕ → Course P → Course P
  rounds zero course = course
  rounds (suc more) course = rounds more (round course)

  -- the schedule's items, one after the other
  abbrev pub scheduled : List BootLine → (ℕ → P) → List CpuNo → Course P
  scheduled boot programs schedule =
      fold advanced (begin (boot_start boot) programs) schedule

  -- and then rounds until all have ended. A program ends with its call of the last number, so no
  -- more rounds are needed
  abbrev pub course_of : List BootLine → (ℕ → P) → List CpuNo → Course P
  course_of boot programs schedule = rounds last_number (scheduled boot programs schedule)
