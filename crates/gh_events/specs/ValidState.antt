-- That the present state is a valid one, and what the CPUs hold beside it: calls of their frames'
-- shape, grants that still name what they named, and no call of a CPU that has exited.
use Rattle.std.specs.Prelude.{◌≡◌, ◌==◌, ◌&&◌, ◌||◌, ◌<◌, ◌⊎◌, ℕ, Bool, true, false, Option, Some, None, Ok, IsTrue, is_some, slice_get}
use Rattle.std.specs.List.{list_any}
use Rattle.gh_invariant.specs.Events.{EventsFit}
use Rattle.gh_invariant.specs.Grants.{grant_fits, is_running}
use Rattle.gh_invariant.specs.Valid.{IsValid}
use Rattle.gh_model.specs.Legal.{exits}
use Rattle.gh_model.specs.Marks.{Grants, Seen}
use Rattle.gh_model.specs.Program.{is_exit}
use Rattle.gh_model.specs.Registers.{call_of}
use Rattle.gh_model.specs.Rows.{cpu_row}
use Rattle.gh_model.specs.declared.rows.CapabilityRow.{CapabilityRow}
use Rattle.gh_model.specs.declared.state.State.{State}
use Rattle.gh_model.specs.declared.word.Word.{Word}
use Rattle.gh_events.specs.Config.{AtAct, Config, Cpu, Current, Given, Holder, came_to, has_acted, present}

-- the call is that of its frame
abbrev pub IsOfFrame : Given → Type 0
IsOfFrame given = call_of given.frame ≡ Ok given.call

-- the object of a capability that was valid was made, and lives no more or is of its kind
pub record StillNames (s : State) (row : CapabilityRow) : Type 0 where
  pub made : row.serial.0 < s.next_serial
  pub kind : IsTrue (grant_fits s.objects row.serial (Some row.kind))

abbrev pub IsFound : State → Word → Type 0
IsFound s word =
    (row : CapabilityRow) → word.row ≡ Some row → row.valid ≡ true → StillNames s row

-- a call in progress: it is that of its frame, what its looks found still names what it named, and
-- at its act each need has its grant
pub record CallFits (s : State) (call : Current) : Type 0 where
  pub of_frame : IsOfFrame call.given
  pub found : (i : ℕ) (seen : Seen) → slice_get call.seen i ≡ Some seen → IsFound s seen.word
  pub granted : call.stage ≡ AtAct → came_to call ≡ Grants

-- the CPU has the turn, and its act's entry was committed
abbrev pub acts : Option Holder → ℕ → Bool
acts None at = false
acts (Some holder) at = (holder.cpu == at) && has_acted holder

-- the CPU's exit is committed, and its call is still the exit call
pub record IsExiting (acted : Bool) (cpu : Cpu) : Type 0 where
  pub acted_now : acted ≡ true
  pub call : Current
  pub is_current : cpu.current ≡ Some call
  pub exits_now : is_exit call.given.frame ≡ true

-- the CPU is one of the boot and has made no exit call
pub record MayRun (boot : State) (at : ℕ) (cpu : Cpu) : Type 0 where
  pub is_there : is_some (cpu_row boot at) ≡ true
  pub no_exit : list_any exits cpu.made ≡ false

-- a CPU and its calls: the next one, and the one in progress beside which there is no next one. A
-- CPU that has a call may run, and one that may run hasn't exited, but for the exit at hand
pub record CpuFits (boot s : State) (acted : Bool) (at : ℕ) (cpu : Cpu) : Type 0 where
  pub next : (given : Given) → cpu.next ≡ Some given → IsOfFrame given
  pub current : (call : Current) → cpu.current ≡ Some call → CallFits s call
  pub alone : is_some cpu.current ≡ true → cpu.next ≡ None
  pub called : (is_some cpu.next || is_some cpu.current) ≡ true → MayRun boot at cpu
  pub runs : MayRun boot at cpu
      → (is_running (cpu_row s at) ≡ true) ⊎ IsExiting acted cpu

-- the boot state is valid, each event of the history fits the state before it, so the present
-- state is valid too, and each CPU fits it
pub record HasValid (conf : Config) : Type 0 where
  pub boot_valid : IsValid conf.boot
  pub events_fit : EventsFit conf.boot conf.history
  pub valid : IsValid (present conf)
  pub cpus : (at : ℕ) → CpuFits conf.boot (present conf) (acts conf.turn at) at (conf.cpu at)
