-- The events of the turn's holder, as it makes them on words.
use Rattle.std.specs.Prelude.{◌≡◌, ◌<◌, ℕ, Bool, true, false, List, [], ◌∷◌, Option, Some, None, Result, Ok, Err, map}
use Rattle.gh_base.specs.declared.cap_word.CapWord.{CapWord}
use Rattle.gh_base.specs.declared.ids.CpuNo.{CpuNo}
use Rattle.gh_base.specs.declared.ids.ObjIndex.{ObjIndex}
use Rattle.gh_events.specs.Config.{Config, Holder, object_at, present}
use Rattle.gh_events.specs.Entries.{AreScans}
use Rattle.gh_events.specs.Events.{Possible}
use Rattle.gh_events.specs.declared.event.Event.{Event}
use Rattle.gh_events.specs.declared.event.Event.TheVariants.{Commit, Kill, Pin, Revive, Scan, SetCap, Unpin}
use Rattle.gh_model.specs.declared.entry.Entry.{Entry}
use Rattle.gh_model.specs.declared.rows.ObjectRow.{ObjectRow}
use Rattle.gh_schedules.specs.Committing.{cpu_no}
use Rattle.gh_schedules.specs.Sweep.{all_cpus, counters, scans}
use Rattle.gh_words.specs.Moved.{MovedAll}

-- one more is owed at an index, or one less
abbrev pub owing : ObjIndex → Bool → CpuNo → Event
owing object true cpu = Pin cpu object true
owing object false cpu = Unpin cpu object true

abbrev pub killing : ObjIndex → CpuNo → Event
killing object cpu = Kill cpu object

abbrev pub reviving : ObjIndex → ℕ → CpuNo → Event
reviving object count cpu = Revive cpu object count

abbrev pub committing : Entry → CpuNo → Event
committing entry cpu = Commit cpu entry

abbrev pub setting : Entry → ObjIndex → ℕ → CapWord → CpuNo → Event
setting entry space slot word cpu = SetCap cpu entry space slot word

-- a kill answers by the count that it found: it makes a word of 0 dead, and else gives the count
pub record Saw (count seen : ℕ) : Type 0 where
  pub is_count : seen ≡ count
  pub some : 0 < seen

abbrev pub KillAnswers : ObjIndex → Result Unit ℕ → Config → Type 0
KillAnswers object (Ok done) conf = conf.count object.0 ≡ 0
KillAnswers object (Err seen) conf = Saw (conf.count object.0) seen

-- the counters of all CPUs are scanned, in order
abbrev pub scan_first : CpuNo → Event
scan_first cpu = Scan cpu (cpu_no 0)

abbrev pub scanning : CpuNo → List Event
scanning cpu = map (λ of. Scan cpu (cpu_no of)) all_cpus

-- the holder has these counters of its scans
pub record HasScans (conf : Config) (seen : List ℕ) : Type 0 where
  pub holder : Holder
  pub turn : conf.turn ≡ Some holder
  pub scans : AreScans holder seen

-- all scans were made, and give these counters
abbrev pub ScansAll : (List Event → Type 0) → (Config → Type 0) → (Config → Type 0) → List ℕ
    → Type 0
ScansAll between before behind seen = (conf : Config) (cpu : CpuNo) → before conf
    → Possible conf (scan_first cpu)
    → MovedAll between (λ later. behind later × HasScans later seen) conf (scanning cpu)

-- this is the number of rings of a history that is shown
pub record IsRung (shown : Config → Type 0) (rings : ℕ) : Type 0 where
  pub conf : Config
  pub is_shown : shown conf
  pub counted : rings ≡ (present conf).rings

-- one more is owed at each of these indices, or one less
abbrev pub owings : List ObjIndex → Bool → CpuNo → List Event
owings objects more cpu = map (λ object. owing object more cpu) objects

-- an entry that sets this slot to this word, or none
abbrev pub entering : Entry → Option (ObjIndex × ℕ × CapWord) → CpuNo → Event
entering entry None cpu = committing entry cpu
entering entry (Some set) cpu = setting entry set.0 set.1 set.2 cpu

abbrev pub entered : Entry → Option (ObjIndex × ℕ × CapWord) → CpuNo → List Event
entered entry set cpu = entering entry set cpu ∷ []

-- the index without an object gets its count
abbrev pub revival : ObjIndex → ℕ → CpuNo → List Event
revival object count cpu = reviving object count cpu ∷ []

-- the same scans as the plan of a CPU, and the counters that they gave are the holder's
abbrev pub ScansPlanned : (List Event → Type 0) → (Config → Type 0) → (Config → Type 0) → List ℕ
    → Type 0
ScansPlanned between before behind seen = (conf : Config) (cpu : CpuNo) → before conf
    → Possible conf (scan_first cpu)
    → MovedAll between
    (λ later. behind later × HasScans later seen × (counters later ≡ seen))
    conf (scans cpu.0 conf)

-- a kill that fails leaves the word alive, and the holder keeps the count that it saw
pub record HasFailed (conf : Config) (object seen : ℕ) : Type 0 where
  pub alive : conf.dead object ≡ false
  pub holder : Holder
  pub turn : conf.turn ≡ Some holder
  pub kept : (row : ObjectRow) → object_at (present conf) conf.index object ≡ Some row
      → holder.failed row.serial.0 ≡ Some seen

-- behind a kill: the word is dead, or else alive
abbrev pub KillTells : ObjIndex → Result Unit ℕ → Config → Type 0
KillTells object (Ok done) conf = conf.dead object.0 ≡ true
KillTells object (Err seen) conf = HasFailed conf object.0 seen

-- the kill was made, and its answer tells what is behind it
abbrev pub TriesKilling : (List Event → Type 0) → (Config → Type 0) → (Config → Type 0) → ObjIndex
    → Result Unit ℕ → Type 0
TriesKilling between before behind object answer = (conf : Config) (cpu : CpuNo) → before conf
    → Possible conf (killing object cpu)
    → MovedAll between (λ later. behind later × KillTells object answer later) conf
    (killing object cpu ∷ [])
