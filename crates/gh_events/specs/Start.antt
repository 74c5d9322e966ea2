-- The configuration before any event, and how CPUs are given their calls.
use Rattle.std.specs.Prelude.{◌≡◌, ◌+◌, ◌<◌, ◌≤◌, not, ℕ, Bool, true, false, [], ◌∷◌, ◌++◌, length, Some, None, Result, Ok, Err, find, is_some}
use Rattle.std.specs.List.{list_any}
use Rattle.std.specs.Option.{option_map_or}
use Rattle.gh_base.specs.Reply.{refusal}
use Rattle.gh_base.specs.declared.call.Call.{Call}
use Rattle.gh_base.specs.declared.cap_word.CapWord.{CapWord}
use Rattle.gh_base.specs.declared.errno.Errno.{Errno}
use Rattle.gh_base.specs.declared.frame.Frame.{Frame}
use Rattle.gh_base.specs.declared.limits.TheConstants.{CALL_NUMBERS, OBJECT_INDICES}
use Rattle.gh_base.specs.declared.mark.End.TheVariants as ends
use Rattle.gh_invariant.specs.Lives.{lives}
use Rattle.gh_model.specs.Legal.{exits}
use Rattle.gh_model.specs.Marks.{Made}
use Rattle.gh_model.specs.Registers.{call_of}
use Rattle.gh_model.specs.Rows.{cpu_row, is_object}
use Rattle.gh_model.specs.Word.{word_at}
use Rattle.gh_model.specs.declared.rows.ObjectRow.{ObjectRow}
use Rattle.gh_model.specs.declared.state.State.{State}
use Rattle.gh_events.specs.Config.{Config, Cpu, IsBetween, object_at, put, references_at}
use Rattle.gh_events.specs.Entries.{shown}

-- the objects of the boot have indices, each its own
pub record AreIndices (boot : State) (index : ℕ → ℕ) : Type 0 where
  pub within : (serial : ℕ) → lives boot.objects serial ≡ true → index serial < OBJECT_INDICES
  pub unique : (serial other : ℕ) → lives boot.objects serial ≡ true
      → lives boot.objects other ≡ true → index serial ≡ index other → serial ≡ other

-- no object of the boot is retired
abbrev pub IsUnretired : State → Type 0
IsUnretired boot = (row : ObjectRow) → find (is_object row.serial.0) boot.objects ≡ Some row
    → is_some row.retired ≡ false

-- the object that lives at an index, 0 where none does
abbrev pub serial_at : State → (ℕ → ℕ) → ℕ → ℕ
serial_at s index at =
    option_map_or (λ (row : ObjectRow). row.serial.0) (object_at s index at) 0

-- the words of the boot: of a slot its capability, of an index the references of its object
abbrev pub boot_cap : State → (ℕ → ℕ) → ℕ → ℕ → CapWord
boot_cap boot index space slot =
    record { 0 = shown index (word_at boot (serial_at boot index space) slot) }

-- an index without an object is dead from the start
abbrev pub boot_dead : State → (ℕ → ℕ) → ℕ → Bool
boot_dead boot index at = not (is_some (object_at boot index at))

-- a CPU before its first call
abbrev pub new_cpu : Cpu
new_cpu = record { next = None; current = None; pins = []; made = [] }

-- the configuration of a boot state whose objects have these indices
abbrev pub start : State → (ℕ → ℕ) → Config
start boot index = record {
  boot = boot;
  history = [];
  index = index;
  cap = boot_cap boot index;
  count = references_at boot index;
  dead = boot_dead boot index;
  counter = λ _. 0;
  turn = None;
  cpu = λ _. new_cpu;
}

-- a CPU of the boot that is between calls, has no next call yet and has made no exit call may be
-- given a call with the next number
pub record MayGive (conf : Config) (at number : ℕ) : Type 0 where
  pub is_cpu : is_some (cpu_row conf.boot at) ≡ true
  pub between : IsBetween (conf.cpu at)
  pub none : (conf.cpu at).next ≡ None
  pub runs : list_any exits (conf.cpu at).made ≡ false
  pub counts : number ≡ length (conf.cpu at).made + 1
  pub bounded : number ≤ CALL_NUMBERS

-- a call whose frame is refused, finished as soon as it is given
abbrev pub refused_frame : ℕ → ℕ → Frame → Errno → Made
refused_frame at number frame errno = record {
  mark = record {
    cpu = record { 0 = at };
    number = number;
    section = 0;
    looks = [];
    end = ends.Frame;
    reply = refusal errno;
  };
  frame = frame;
  seen = [];
}

abbrev pub with_next : ℕ → ℕ → Frame → Cpu → Result Call Errno → Cpu
with_next at number frame cpu (Ok call) =
    record cpu { next = Some (record { number = number; frame = frame; call = call }) }
with_next at number frame cpu (Err errno) =
    record cpu { made = cpu.made ++ refused_frame at number frame errno ∷ [] }

-- the CPU's next call is this one
abbrev pub given : Config → ℕ → ℕ → Frame → Config
given conf at number frame = record conf {
  cpu = put conf.cpu at (with_next at number frame (conf.cpu at) (call_of frame));
}
