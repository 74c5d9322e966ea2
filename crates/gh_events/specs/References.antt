-- Sound references: what each reference word counts, where dead words are, and what is pinned.
use Rattle.std.specs.Prelude.{◌≡◌, ◌+◌, ◌<◌, ◌≤◌, ◌^◌, ◌⊎◌, ℕ, zero, suc, Bool, true, false, List, [], Option, Some, None, count_by, find, is_some, slice_get}
use Rattle.std.specs.List.{last_or, list_any}
use Rattle.std.specs.Option.{option_map_or}
use Rattle.gh_base.specs.declared.limits.TheConstants.{CPUS, OBJECT_INDICES}
use Rattle.gh_model.specs.Act.{granted}
use Rattle.gh_model.specs.Marks.{Seen}
use Rattle.gh_model.specs.References.{references}
use Rattle.gh_model.specs.Rows.{is_object}
use Rattle.gh_model.specs.declared.rows.ObjectRow.{ObjectRow}
use Rattle.gh_model.specs.declared.state.State.{State}
use Rattle.gh_events.specs.CallEvents.{pin_of_look}
use Rattle.gh_events.specs.Config.{AtAct, Config, Cpu, Current, DeadPin, Failed, Holder, IsIn, Looked, Pin, Reading, Stage, Undone, has_acted, is_pin_at, object_at, present, seen_index}
use Rattle.gh_events.specs.Entries.{is_that_index}

-- pins

-- the pin of a call on a dead word
abbrev pub pin_at_stage : Stage → List Seen → List Pin
pin_at_stage DeadPin seen = pin_of_look (last_or None seen)
pin_at_stage Reading seen = []
pin_at_stage Looked seen = []
pin_at_stage Undone seen = []
pin_at_stage Failed seen = []
pin_at_stage AtAct seen = []

abbrev pub dead_pin : Option Current → List Pin
dead_pin None = []
dead_pin (Some call) = pin_at_stage call.stage call.seen

-- the pins of a CPU at an index, those on a dead word among them
abbrev pub pins_of : Cpu → ℕ → ℕ
pins_of cpu at = count_by (is_pin_at at) cpu.pins + count_by (is_pin_at at) (dead_pin cpu.current)

-- the sum of a function over the first numbers
unfoldable pub total : ℕ → (ℕ → ℕ) → ℕ
total zero amount = 0
total (suc n) amount = total n amount + amount n

-- all pins at an index
abbrev pub pins_at : (ℕ → Cpu) → ℕ → ℕ
pins_at cpus at = total CPUS (λ cpu. pins_of (cpus cpu) at)

-- what is owed

-- what the holder owes at an index, nothing where the turn is free
abbrev pub owed_at : Option Holder → ℕ → ℕ
owed_at turn at = option_map_or (λ (holder : Holder). holder.owed at) turn 0

-- the holder revived the index in this turn
abbrev pub is_revived : Option Holder → ℕ → Bool
is_revived None at = false
is_revived (Some holder) at = list_any (is_that_index at) holder.revived

-- objects and indices

-- the object of this row lives
abbrev pub IsRow : State → ObjectRow → Type 0
IsRow s row = find (is_object row.serial.0) s.objects ≡ Some row

-- the holder revived the index, no object lives there yet, and its word is what is owed there,
-- which isn't 0
pub record IsFresh (conf : Config) (at : ℕ) : Type 0 where
  pub revived : is_revived conf.turn at ≡ true
  pub uninhabited : object_at (present conf) conf.index at ≡ None
  pub owed : conf.count at ≡ owed_at conf.turn at
  pub some : 0 < owed_at conf.turn at

-- the object of a pin lives at the pin's index, and its word isn't dead
pub record IsPinned (conf : Config) (pin : Pin) : Type 0 where
  pub row : ObjectRow
  pub lives_there : object_at (present conf) conf.index pin.index ≡ Some row
  pub is_that : row.serial.0 ≡ pin.serial
  pub alive : conf.dead pin.index ≡ false

-- an object lives at the index, or the holder revived it
abbrev pub HasHome : Config → ℕ → Type 0
HasHome conf at = (is_some (object_at (present conf) conf.index at) ≡ true) ⊎ IsFresh conf at

-- the object that a look granted lives at the index in its word
pub record IsGranted (conf : Config) (seen : Seen) : Type 0 where
  pub row : ObjectRow
  pub lives_there : object_at (present conf) conf.index (seen_index seen) ≡ Some row
  pub is_that : row.serial.0 ≡ (granted seen.word).0

-- a call at this stage is in its open section, and its last look is a grant beside its pins: one
-- without a pin, or one whose pin is on a dead word or undone
abbrev pub grants_at : Stage → Bool
grants_at Reading = false
grants_at Looked = true
grants_at DeadPin = true
grants_at Undone = true
grants_at Failed = false
grants_at AtAct = false

abbrev pub has_grant : Option Current → Bool
has_grant None = false
has_grant (Some call) = grants_at call.stage

-- the call in progress has such a grant
pub record HasGrant (cpu : Cpu) (call : Current) : Type 0 where
  pub is_current : cpu.current ≡ Some call
  pub grants : grants_at call.stage ≡ true

-- what one CPU holds: each pin is on the object that its look granted; a grant beside the pins is
-- of a live object; and a pin on a dead word is on one that is dead
pub record HoldsSoundly (conf : Config) (cpu : Cpu) : Type 0 where
  pub pinned : (i : ℕ) (pin : Pin) → slice_get cpu.pins i ≡ Some pin → IsPinned conf pin
  pub granted : (call : Current) (seen : Seen) → HasGrant cpu call
      → last_or None call.seen ≡ Some seen → IsGranted conf seen
  pub dying : (call : Current) (seen : Seen) → IsIn cpu call DeadPin
      → last_or None call.seen ≡ Some seen → conf.dead (seen_index seen) ≡ true

-- the words of objects and indices count what they should
pub record AreCounted (conf : Config) : Type 0 where
  -- the word of a live object that isn't dead is its references, all pins on it and what is owed
  pub counts : (row : ObjectRow) → IsRow (present conf) row
      → conf.dead (conf.index row.serial.0) ≡ false
      → conf.count (conf.index row.serial.0)
      ≡ references (present conf) row.serial.0
      + (pins_at conf.cpu (conf.index row.serial.0) + owed_at conf.turn (conf.index row.serial.0))
  -- an index whose word isn't dead has a live object, or the holder revived it
  pub homes : (at : ℕ) → at < OBJECT_INDICES → conf.dead at ≡ false → HasHome conf at
  -- the count in a dead word is that of its pins that aren't undone
  pub dead_counts : (at : ℕ) → at < OBJECT_INDICES → conf.dead at ≡ true
      → conf.count at ≡ pins_at conf.cpu at

-- where live objects are, and what their words and rows say of each other
pub record ArePlaced (conf : Config) : Type 0 where
  -- two live objects never have one index
  pub unique : (row other : ObjectRow) → IsRow (present conf) row → IsRow (present conf) other
      → conf.index row.serial.0 ≡ conf.index other.serial.0 → row.serial.0 ≡ other.serial.0
  -- a live object whose word is dead has no references, and nothing is owed at a dead word
  pub doomed : (row : ObjectRow) → IsRow (present conf) row
      → conf.dead (conf.index row.serial.0) ≡ true → references (present conf) row.serial.0 ≡ 0
  pub unowed : (at : ℕ) → conf.dead at ≡ true → owed_at conf.turn at ≡ 0
  -- each retired object's word is dead
  pub retired : (row : ObjectRow) → IsRow (present conf) row → is_some row.retired ≡ true
      → conf.dead (conf.index row.serial.0) ≡ true
  -- until the act's entry, an index that was revived in this turn has no live object
  pub fresh : (holder : Holder) (at : ℕ) → conf.turn ≡ Some holder → has_acted holder ≡ false
      → list_any (is_that_index at) holder.revived ≡ true
      → object_at (present conf) conf.index at ≡ None

-- the references of a configuration are sound
pub record HasReferences (conf : Config) : Type 0 where
  pub counted : AreCounted conf
  pub placed : ArePlaced conf
  pub holds : (cpu : ℕ) → HoldsSoundly conf (conf.cpu cpu)
  -- only the CPUs that there are have pins
  pub seats : (cpu at : ℕ) → CPUS ≤ cpu → pins_of (conf.cpu cpu) at ≡ 0

-- what is owed and the references of a live object are together at most 2^62
abbrev pub AreBounded : Config → Type 0
AreBounded conf = (row : ObjectRow) → IsRow (present conf) row
    → references (present conf) row.serial.0 + owed_at conf.turn (conf.index row.serial.0) ≤ 2 ^ 62
