-- The run of call files by a schedule: each CPU's program makes the lines of its VM's file. The
-- CPUs advance by one item each as the schedule says; then, in rising order, they make one whole
-- call each, round after round.
use Rattle.std.specs.Prelude.{ℕ, List, map}
use Rattle.gh_base.specs.declared.ids.CpuNo.{CpuNo}
use Rattle.gh_base.specs.declared.mark.Mark.{Mark}
use Rattle.gh_callfile.specs.VmProgress.{Progress, fresh, vm_after, vm_answer}
use Rattle.gh_events.specs.Config.{present}
use Rattle.gh_model.specs.declared.boot_line.BootLine.{BootLine}
use Rattle.gh_model.specs.declared.entry.Entry.{Entry}
use Rattle.gh_model.specs.declared.program.Line.{Line}
use Rattle.gh_model.specs.declared.state.State.{State}
use Rattle.gh_model.specs.History.{entry_of}
use Rattle.gh_model.specs.Run.{file_of}
use Rattle.gh_schedules.specs.Course.{Course}
use Rattle.gh_schedules.specs.Schedule.{course_of}

-- the program of a CPU's VM
abbrev pub file_program : List (List Line) → ℕ → Progress
file_program files cpu = fresh (file_of files cpu)

-- the course of these programs by the schedule
abbrev pub file_course : List BootLine → List CpuNo → List (List Line) → Course Progress
file_course boot schedule files =
    course_of vm_answer vm_after boot (file_program files) schedule

-- what a course came to: its history, the marks of its calls in the order in which they ended, and
-- its last state
pub record FinishedRun : Type 0 where
  pub entries : List Entry
  pub marks : List Mark
  pub state : State

-- what this course came to
abbrev pub finished_run : {P : Type 0} → Course P → FinishedRun
finished_run course = record {
  entries = map entry_of course.conf.history;
  marks = course.marks;
  state = present course.conf;
}

-- the run of these call files
abbrev pub file_run : List BootLine → List CpuNo → List (List Line) → FinishedRun
file_run boot schedule files = finished_run (file_course boot schedule files)
