-- What a run keeps of a course of programs: the progress that stands for its configuration, and the
-- programs.
use Rattle.std.specs.Prelude.{◌≡◌, ◌&&◌, ◌+◌, ◌<◌, ◌≤◌, ◌⊎◌, not, ℕ, Bool, true, false, List, Option, Some, None, find, is_some, length, map, slice_get, slice_index_or, if◌then◌else◌}
use Rattle.std.specs.List.{list_any, range_with_len}
use Rattle.std.specs.Option.{option_map_or}
use Rattle.gh_base.specs.declared.ids.CpuNo.{CpuNo}
use Rattle.gh_base.specs.declared.limits.TheConstants.{CALL_NUMBERS, CPUS}
use Rattle.gh_callfile.specs.VmProgress.{Progress as VmProgress}
use Rattle.gh_core.specs.declared.current.CurrentCall.{CurrentCall}
use Rattle.gh_driver.specs.FileRun.{file_program}
use Rattle.gh_driver.specs.declared.running.Running.{Running}
use Rattle.gh_events.specs.Config.{Given}
use Rattle.gh_events.specs.Sound.{made_by}
use Rattle.gh_events.specs.Start.{MayGive}
use Rattle.gh_items.specs.Stands.{Stands}
use Rattle.gh_items.specs.declared.progress.Progress.{Progress}
use Rattle.gh_items.specs.declared.progress.Seat.{Seat}
use Rattle.gh_model.specs.Legal.{exits}
use Rattle.gh_model.specs.Program.{is_exit}
use Rattle.gh_model.specs.declared.program.Line.{Line}
use Rattle.gh_model.specs.declared.program.Standing.{Standing}
use Rattle.gh_model.specs.declared.rows.CpuRow.{CpuRow}
use Rattle.gh_model.specs.Rows.{cpu_row, is_cpu}
use Rattle.gh_schedules.specs.Course.{Course, call_of_cpu, goes_on, last_reply}
use Rattle.gh_schedules.specs.Items.{IsSteady}

-- where the next call isn't the exit call, the program waits for the reply to it
abbrev pub IsReady : {P : Type 0} → (P → Bool) → Standing P → Type 0
IsReady wants standing = is_exit standing.frame ≡ false → wants standing.program ≡ true

-- the progress is that of the course: it stands for its configuration, between two items, and has
-- the marks of its calls
pub record Tracks {P : Type 0} (progress : Progress) (course : Course P) : Type 0 where
  pub stands : Stands progress course.conf
  pub steady : IsSteady course.conf
  pub marks : progress.marks ≡ course.marks

-- a CPU may be given its next call, and its program waits for the reply to the last one if it has
-- made one
pub record CallsNext {P : Type 0} (wants : P → Bool) (course : Course P) (at : ℕ) : Type 0 where
  pub may : MayGive course.conf at (length (made_by course.conf at) + 1)
  pub waits : wants (course.programs at) ≡ is_some (last_reply (made_by course.conf at))

-- the CPU has a call that isn't over. Unless it is the exit call, the program waits for its reply,
-- and another call may follow it
pub record IsInCall {P : Type 0} (wants : P → Bool) (course : Course P) (at : ℕ) : Type 0 where
  pub call : Given
  pub has : call_of_cpu (course.conf.cpu at) ≡ Some call
  pub is_cpu : is_some (cpu_row course.conf.boot at) ≡ true
  pub runs : list_any exits (made_by course.conf at) ≡ false
  pub ready : is_exit call.frame ≡ false → wants (course.programs at) ≡ true
  pub room : is_exit call.frame ≡ false → length (made_by course.conf at) + 2 ≤ CALL_NUMBERS

-- a CPU that goes on is between calls or in one
abbrev pub GoesOn : {P : Type 0} → (P → Bool) → Course P → ℕ → Type 0
GoesOn wants course at = CallsNext wants course at ⊎ IsInCall wants course at

-- the program of a CPU of the boot
abbrev pub program_at : {P : Type 0} → Course P → ℕ → Option P
program_at course at =
    if is_some (cpu_row course.conf.boot at) then Some (course.programs at) else None

-- the run is the course between two items
pub record Follows {P : Type 0} (wants : P → Bool) (run : Running P) (course : Course P) : Type 0 where
  pub tracks : Tracks run.progress course
  pub nine : length run.programs ≡ CPUS
  pub programs : (at : ℕ) (program : Option P) → slice_get run.programs at ≡ Some program
      → program ≡ program_at course at
  pub next : (at : ℕ) → goes_on course.conf at ≡ true → GoesOn wants course at

-- a schedule's CPUs are among the nine, and its item at a place
abbrev pub IsCpuNumber : CpuNo → Type 0
IsCpuNumber cpu = cpu.0 < CPUS

abbrev pub item_at : List CpuNo → ℕ → CpuNo
item_at schedule at = slice_index_or schedule at (record { 0 = 0 })

-- the CPU of a seat has made its exit call
abbrev pub ended_seat : Seat → Bool
ended_seat seat = seat.ended

-- a CPU has a program where it is one of the boot
abbrev pub has_program : {P : Type 0} → Option P → Bool
has_program program = is_some program

-- the CPU is one of the boot and has made no exit call
abbrev pub is_going : {P : Type 0} → Running P → ℕ → Bool
is_going run at =
    option_map_or has_program (slice_get run.programs at) false
    && not (option_map_or ended_seat (slice_get run.progress.seats at) true)

-- the CPU has a call in progress
abbrev pub has_call : Progress → ℕ → Bool
has_call progress at =
    option_map_or (λ (call : Option CurrentCall). is_some call) (slice_get progress.calls at) false

-- before the first call each CPU of the boot has the program of its VM
abbrev pub first_program : List (List Line) → List CpuRow → ℕ → Option VmProgress
first_program files rows at =
    if is_some (find (is_cpu at) rows) then Some (file_program files at) else None

-- the programs of all CPUs, by number
abbrev pub first_programs : List (List Line) → List CpuRow → List (Option VmProgress)
first_programs files rows = map (first_program files rows) (range_with_len 0 CPUS)
