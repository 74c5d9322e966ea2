-- A configuration of the machine of all interleavings: the history, the words, the turn and what
-- each CPU keeps. Objects are named by serials, and words by indices, slots and CPUs.
use Rattle.std.specs.Prelude.{◌≡◌, ◌==◌, ℕ, Bool, true, false, List, [], length, Option, Some, None, find, map, is_some, if◌then◌else◌}
use Rattle.std.specs.List.{list_any}
use Rattle.std.specs.Option.{option_map_or}
use Rattle.gh_base.specs.CapWord.{object_of}
use Rattle.gh_base.specs.declared.call.Call.{Call}
use Rattle.gh_base.specs.declared.cap_word.CapWord.{CapWord}
use Rattle.gh_base.specs.declared.frame.Frame.{Frame}
use Rattle.gh_model.specs.Act.{Verdict, granted}
use Rattle.gh_model.specs.Decide.{judge}
use Rattle.gh_model.specs.History as history
use Rattle.gh_model.specs.Legal.{is_part}
use Rattle.gh_model.specs.Marks.{Made, Outcome, Seen, outcome, place_after, place_after_looks, word_of}
use Rattle.gh_model.specs.References.{references}
use Rattle.gh_model.specs.Registers.{needs_of}
use Rattle.gh_model.specs.declared.entry.Entry.{Entry}
use Rattle.gh_model.specs.declared.entry.Entry.TheVariants.{Acted, Part, Retired, Reclaimed}
use Rattle.gh_model.specs.declared.rows.ObjectRow.{ObjectRow}
use Rattle.gh_model.specs.declared.state.State.{State}

-- a function with one value put
abbrev pub put : {X : Type 0} → (ℕ → X) → ℕ → X → ℕ → X
put values at value n = if n == at then value else values n

-- calls

-- a call that a CPU is given: its number, its frame, and what the frame asks
pub record Given : Type 0 where
  pub number : ℕ
  pub frame : Frame
  pub call : Call

-- how far a call in progress has come. In its open section: its looks so far are grants, each with
-- a pin on a word that wasn't dead; its last look is a grant without a pin; it is one whose pin is
-- on a dead word; that pin is undone; its last look was refused. Or it waits for its act, its
-- section left or none opened
pub data Stage : Type 0 where
  Reading : Stage
  Looked : Stage
  DeadPin : Stage
  Undone : Stage
  Failed : Stage
  AtAct : Stage

-- a call in progress: its section, 0 where it opens none, and its looks with the words that they
-- found
pub record Current : Type 0 where
  pub given : Given
  pub section : ℕ
  pub seen : List Seen
  pub stage : Stage

-- a pin of a call on a reference word that wasn't dead: the object that its look granted, and its
-- index
pub record Pin : Type 0 where
  pub serial : ℕ
  pub index : ℕ

-- what a CPU keeps: the next call, where one is given; the call in progress; the pins of that call,
-- or of the last one that ended; and the finished calls
pub record Cpu : Type 0 where
  pub next : Option Given
  pub current : Option Current
  pub pins : List Pin
  pub made : List Made

-- what the CPU that has the turn keeps of it: the entries that it committed and the indices that it
-- revived in this turn, what it owes at each index, the count that the last failed kill of each
-- object saw, and the counters that it scanned
pub record Holder : Type 0 where
  pub cpu : ℕ
  pub entries : List Entry
  pub revived : List ℕ
  pub owed : ℕ → ℕ
  pub failed : ℕ → Option ℕ
  pub scans : ℕ → Option ℕ

-- a configuration: the boot state and the history; the index of each object that was made; the
-- capability words by index and slot; the reference words by index, each a count and whether it is
-- dead; the counters of the CPUs; the holder of the turn, none where it is free; and the CPUs
pub record Config : Type 0 where
  pub boot : State
  pub history : List history.Event
  pub index : ℕ → ℕ
  pub cap : ℕ → ℕ → CapWord
  pub count : ℕ → ℕ
  pub dead : ℕ → Bool
  pub counter : ℕ → ℕ
  pub turn : Option Holder
  pub cpu : ℕ → Cpu

-- what stands in a configuration

-- the state that the history makes
abbrev pub present : Config → State
present conf = history.replay conf.boot conf.history

abbrev pub entries : Config → ℕ
entries conf = length conf.history

-- an object that lives at an index
abbrev pub is_at : (ℕ → ℕ) → ℕ → ObjectRow → Bool
is_at index at row = index row.serial.0 == at

abbrev pub object_at : State → (ℕ → ℕ) → ℕ → Option ObjectRow
object_at s index at = find (is_at index at) s.objects

-- the references of the object that lives at an index, 0 where none does
abbrev pub references_at : State → (ℕ → ℕ) → ℕ → ℕ
references_at s index at =
    option_map_or (λ (row : ObjectRow). references s row.serial.0) (object_at s index at) 0

abbrev pub live_references : Config → ℕ → ℕ
live_references conf at = references_at (present conf) conf.index at

-- what a call's looks came to
abbrev pub came_to : Current → Outcome
came_to call = outcome (needs_of call.given.call) (map word_of call.seen)

-- a CPU's last place
abbrev pub last_place : Cpu → List Seen → ℕ
last_place cpu seen = place_after_looks (place_after cpu.made) seen

-- what the act of a call comes to in a state
abbrev pub judged : State → ℕ → Current → Verdict
judged s cpu call =
    judge s cpu call.given.call call.given.frame.bytes (map word_of call.seen)

-- the index that a look's word names, and the object that it grants
abbrev pub seen_index : Seen → ℕ
seen_index seen = object_of seen.look.word.0

abbrev pub pin_of : Seen → Pin
pin_of seen = record { serial = (granted seen.word).0; index = seen_index seen }

-- a pin at an index
abbrev pub is_pin_at : ℕ → Pin → Bool
is_pin_at at pin = pin.index == at

-- a CPU between calls: no call is in progress, and the pins of the last one are dropped
pub record IsBetween (cpu : Cpu) : Type 0 where
  pub none : cpu.current ≡ None
  pub dropped : cpu.pins ≡ []

-- the call in progress, and how far it has come
pub record IsIn (cpu : Cpu) (call : Current) (stage : Stage) : Type 0 where
  pub is_current : cpu.current ≡ Some call
  pub at_stage : call.stage ≡ stage

-- the CPU has the turn
pub record HasTurn (conf : Config) (cpu : ℕ) (holder : Holder) : Type 0 where
  pub turn : conf.turn ≡ Some holder
  pub its_cpu : holder.cpu ≡ cpu

-- the turn

abbrev pub is_acted : Entry → Bool
is_acted (Acted cpu number) = true
is_acted (Part cpu number space slot) = false
is_acted (Retired serial seen) = false
is_acted (Reclaimed serial seen) = false

-- the act's entry was committed in this turn, or a part of it was
abbrev pub has_acted : Holder → Bool
has_acted holder = list_any is_acted holder.entries

abbrev pub has_part : Holder → Bool
has_part holder = list_any is_part holder.entries

-- nothing is owed at any index
abbrev pub OwesNothing : Holder → Type 0
OwesNothing holder = (at : ℕ) → holder.owed at ≡ 0

-- the object is killed and not retired: its word is dead, and its row has no counters
abbrev pub is_killed : (ℕ → Bool) → (ℕ → ℕ) → ObjectRow → Bool
is_killed dead index row = if is_some row.retired then false else dead (index row.serial.0)

abbrev pub some_killed : Config → Bool
some_killed conf = list_any (is_killed conf.dead conf.index) (present conf).objects
