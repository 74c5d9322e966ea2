-- Grace: each CPU's counter, its sections and the counters that were kept of it, so that no object
-- is reclaimed while a call that was granted it is in its section.
use Rattle.std.specs.Prelude.{◌≡◌, ◌+◌, ◌*◌, ◌%◌, ◌<◌, ◌≤◌, ◌⊎◌, ℕ, Bool, true, false, List, Option, Some, None, count_by, is_some, nat_lt, slice_get, slice_index, if◌then◌else◌}
use Rattle.std.specs.List.{last_or, list_any}
use Rattle.std.specs.Option.{option_map_or}
use Rattle.gh_base.specs.declared.limits.TheConstants.{CPUS}
use Rattle.gh_model.specs.Act.{granted}
use Rattle.gh_model.specs.Graced.{Fits, finds, granting, retirement, was_granted}
use Rattle.gh_model.specs.History.{Event, counters, reclaims, retires}
use Rattle.gh_model.specs.Marks.{InTurn, Made, Outcome, Seen, place, place_after}
use Rattle.gh_model.specs.Rows.{object_row}
use Rattle.gh_model.specs.declared.entry.Entry.{Entry}
use Rattle.gh_events.specs.CallEvents.{end_of_looks}
use Rattle.gh_events.specs.Config.{AtAct, Config, Cpu, Current, DeadPin, Failed, Holder, Looked, Reading, Stage, Undone, came_to, has_acted, is_killed, present}
use Rattle.gh_events.specs.Entries.{is_that_index}
use Rattle.gh_events.specs.References.{grants_at}

-- objects at their end

-- the counters of an object's retirement, none where it isn't retired or doesn't live; and whether
-- it is killed and not retired
pub record Objects : Type 0 where
  pub kept : ℕ → Option (List ℕ)
  pub killed : ℕ → Bool

abbrev pub objects_of : Config → Objects
objects_of conf = record {
  kept = λ serial. retirement (object_row (present conf) serial);
  killed = λ serial.
      option_map_or (is_killed conf.dead conf.index) (object_row (present conf) serial) false;
}

-- the counter of a CPU that the holder scanned in this turn. A kill clears the scans, and none is
-- possible while an object is killed and not retired: so the scan is one since that kill
abbrev pub scan_of : Option Holder → ℕ → Option ℕ
scan_of None cpu = None
scan_of (Some holder) cpu = holder.scans cpu

-- sections

-- a call that entered a section
abbrev pub has_section : Made → Bool
has_section made = nat_lt 0 made.mark.section

abbrev pub is_open_at : Stage → Bool
is_open_at Reading = true
is_open_at Looked = true
is_open_at DeadPin = true
is_open_at Undone = true
is_open_at Failed = true
is_open_at AtAct = false

-- how many of a CPU's calls in progress have entered a section, and how many are in it
abbrev pub entered_now : Option Current → ℕ
entered_now None = 0
entered_now (Some call) = if nat_lt 0 call.section then 1 else 0

abbrev pub open_now : Option Current → ℕ
open_now None = 0
open_now (Some call) = if is_open_at call.stage then 1 else 0

-- how many of a CPU's calls have entered a section
abbrev pub sections : Cpu → ℕ
sections cpu = count_by has_section cpu.made + entered_now cpu.current

-- no section, or one that was left: an odd number below the counter
abbrev pub IsLeft : ℕ → ℕ → Type 0
IsLeft counter section = (section ≡ 0) ⊎ ((section % 2 ≡ 1) × (section < counter))

-- grants

-- the looks that granted a call in progress its objects: of one that was refused all but the last
abbrev pub granting_at : Stage → Outcome → List Seen → List Seen
granting_at Reading came seen = granting (end_of_looks came) seen
granting_at Looked came seen = granting (end_of_looks came) seen
granting_at DeadPin came seen = granting (end_of_looks came) seen
granting_at Undone came seen = granting (end_of_looks came) seen
granting_at Failed came seen = granting (end_of_looks came) seen
granting_at AtAct came seen = seen

abbrev pub holds_grant : ℕ → Current → Bool
holds_grant serial call = list_any (finds serial) (granting_at call.stage (came_to call) call.seen)

-- a section in which an object was granted isn't above the CPU's counter of the object's
-- retirement, nor above its scan since the object's kill
pub record Reads (objects : Objects) (at : ℕ) (scan : Option ℕ) (section serial : ℕ) : Type 0 where
  pub retired : (seen : List ℕ) → objects.kept serial ≡ Some seen → section ≤ slice_index seen at
  pub killed : (counter : ℕ) → objects.killed serial ≡ true → scan ≡ Some counter
      → section ≤ counter

-- the CPU's counter on each entry that kept counters is at most this
abbrev pub AreAtMost : List Event → ℕ → ℕ → Type 0
AreAtMost history at bound =
    (n : ℕ) (event : Event) (seen : List ℕ) → slice_get history n ≡ Some event
    → counters event.entry ≡ Some seen → slice_index seen at ≤ bound

-- one CPU: its calls, its counter and its scan
pub record CpuGrace (objects : Objects) (history : List Event) (at : ℕ) (cpu : Cpu)
    (counter : ℕ) (scan : Option ℕ) : Type 0 where
  -- the counter is twice the number of the calls that entered a section, less one where one is
  -- open: so sections are odd and rise
  pub counted : counter + open_now cpu.current ≡ 2 * sections cpu
  -- an open section is the counter: so it holds up a reclaim
  pub opened : (call : Current) → cpu.current ≡ Some call → is_open_at call.stage ≡ true
      → call.section ≡ counter
  -- a section that was left is below the counter, be the call at its act or finished: so a scan is
  -- above it
  pub left : (call : Current) → cpu.current ≡ Some call → is_open_at call.stage ≡ false
      → IsLeft counter call.section
  pub ended : (i : ℕ) (made : Made) → slice_get cpu.made i ≡ Some made
      → IsLeft counter made.mark.section
  -- a scan isn't above the counter, and above each section whose call ended with its act
  pub scanned : (n : ℕ) → scan ≡ Some n → n ≤ counter
  pub acts : (n i : ℕ) (made : Made) → scan ≡ Some n → slice_get cpu.made i ≡ Some made
      → is_some (place made.mark.end) ≡ true → has_section made ≡ true → made.mark.section < n
  -- a counter on an entry is neither above the counter nor above a scan: so counters never fall
  pub kept_below : AreAtMost history at counter
  pub kept_scanned : (n : ℕ) → scan ≡ Some n → AreAtMost history at n
  -- each grant, of the call in progress and of finished ones
  pub reads : (call : Current) (serial : ℕ) → cpu.current ≡ Some call
      → holds_grant serial call ≡ true → Reads objects at scan call.section serial
  -- the grant that a call in its section has beside its pins is one of these: a reclaim spares it
  pub grants : (call : Current) (seen : Seen) → cpu.current ≡ Some call
      → grants_at call.stage ≡ true → last_or None call.seen ≡ Some seen
      → holds_grant (granted seen.word).0 call ≡ true
  pub made_reads : (i serial : ℕ) (made : Made) → slice_get cpu.made i ≡ Some made
      → was_granted serial made ≡ true → Reads objects at scan made.mark.section serial

-- the counters of an object's retirement are those of its entry in the history
pub record IsKept (history : List Event) (serial : ℕ) (seen : List ℕ) : Type 0 where
  pub at : ℕ
  pub event : Event
  pub is : slice_get history at ≡ Some event
  pub retires : retires event.entry ≡ Some serial
  pub keeps : counters event.entry ≡ Some seen

-- the word of an index that was revived in this turn isn't dead until the act's entry
abbrev pub AreRevived : Option Holder → (ℕ → Bool) → Type 0
AreRevived turn dead =
    (holder : Holder) (at : ℕ) → turn ≡ Some holder → has_acted holder ≡ false
    → list_any (is_that_index at) holder.revived ≡ true → dead at ≡ false

-- the grace of a configuration. That an object that is killed has no references is said of all dead
-- words, with the references
pub record HasGrace (conf : Config) : Type 0 where
  pub each : (cpu : ℕ) → cpu < CPUS
      → CpuGrace (objects_of conf) conf.history cpu (conf.cpu cpu) (conf.counter cpu)
      (scan_of conf.turn cpu)
  -- so no counter of a retirement is above the CPU's counter, nor above a scan
  pub kept : (serial : ℕ) (seen : List ℕ) → (objects_of conf).kept serial ≡ Some seen
      → IsKept conf.history serial seen
  -- at most one object is killed and not retired, and then the turn has a holder: so a scan is one
  -- since the kill
  pub one_killed : (serial other : ℕ) → (objects_of conf).killed serial ≡ true
      → (objects_of conf).killed other ≡ true → serial ≡ other
  pub held : (serial : ℕ) → (objects_of conf).killed serial ≡ true → is_some conf.turn ≡ true
  -- so what is made at a revived index isn't killed
  pub revived : AreRevived conf.turn conf.dead
  -- only the CPUs that there are have calls
  pub seats : (cpu : ℕ) → CPUS ≤ cpu → (conf.cpu cpu).current ≡ None

-- a counter that an entry keeps of a CPU, beside the entries and the finished calls before it
pub record CounterFits (conf : Config) (entry : Entry) (at counter : ℕ) : Type 0 where
  -- no entry before it has a greater one
  pub rising : AreAtMost conf.history at counter
  -- a call that ended with its act had an earlier section
  pub ended : (i : ℕ) (made : Made) → slice_get (conf.cpu at).made i ≡ Some made
      → is_some (place made.mark.end) ≡ true → has_section made ≡ true
      → made.mark.section < counter
  -- so had a call that was granted the object that the entry reclaims
  pub granted : (i serial : ℕ) (made : Made) → slice_get (conf.cpu at).made i ≡ Some made
      → reclaims entry ≡ Some serial → was_granted serial made ≡ true → has_section made ≡ true
      → made.mark.section < counter

-- the section of the call in progress, 0 where it has none or there is no call
abbrev pub section_now : Option Current → ℕ
section_now None = 0
section_now (Some call) = call.section

-- the counter that the entry of this number kept of a CPU stands between the sections of its calls
pub record StandsBetween (entry : Entry) (number counter : ℕ) (cpu : Cpu) : Type 0 where
  -- each finished call fits it
  pub finished : InTurn (Fits entry number counter) cpu.made
  -- and a call in progress behind one that saw this entry has a later section
  pub later : 0 < section_now cpu.current → number ≤ place_after cpu.made
      → counter < section_now cpu.current

-- so does each counter that an entry kept of this CPU. An entry at n has the number n + 1
abbrev pub KeptBetween : List Event → ℕ → Cpu → Type 0
KeptBetween history at cpu =
    (n : ℕ) (event : Event) (seen : List ℕ) → slice_get history n ≡ Some event
    → counters event.entry ≡ Some seen → at < CPUS
    → StandsBetween event.entry (n + 1) (slice_index seen at) cpu

-- and of every CPU
abbrev pub AreBetween : List Event → (ℕ → Cpu) → Type 0
AreBetween history cpus = (at : ℕ) → KeptBetween history at (cpus at)
