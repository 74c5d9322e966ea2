-- The steps of CPUs outside the turn, on plain words: what each needs of the words, and what it
-- answers.
use Rattle.std.specs.Prelude.{◌≡◌, ◌+◌, ◌<◌, ◌^◌, ℕ, Bool, true, false, max, Result, Ok, Err, if◌then◌else◌}
use Rattle.gh_base.specs.CapWord.{set_at_of}
use Rattle.gh_base.specs.Counters.{is_odd}
use Rattle.gh_base.specs.declared.cap_word.CapWord.{CapWord}
use Rattle.gh_base.specs.declared.cap_word.Look.{Look}
use Rattle.gh_base.specs.declared.limits.TheConstants.{CPUS, OBJECT_INDICES}
use Rattle.gh_events.specs.CallEvents.{loaded}
use Rattle.gh_events.specs.Config.{Config}
use Rattle.gh_events.specs.Events.{Possible, after}
use Rattle.gh_events.specs.Sound.{place_now}
use Rattle.gh_events.specs.declared.event.Event.{Event}
use Rattle.gh_model.specs.Marks.{cspace_of}
use Rattle.gh_model.specs.Word.{is_slot}
use Rattle.gh_words.specs.Shows.{Shows, held}
use Rattle.gh_words.specs.declared.calls.Dead.{Dead}
use Rattle.gh_words.specs.declared.plain_words.PlainWords.{PlainWords}

-- the words show a configuration of which this is a fact
pub record Can (words : PlainWords) (fact : Config → Type 0) : Type 0 where
  pub conf : Config
  pub is_shown : Shows words conf
  pub holds : fact conf

-- where the event is possible, it was made
abbrev pub Steps : PlainWords → PlainWords → (Config → Type 0) → Event → Type 0
Steps old new fact event = (conf : Config) → Shows old conf → fact conf → Possible conf event
    → Shows new (after conf event)

-- the room for entries and the bell's number are as before
pub record KeepsRest (old new : PlainWords) : Type 0 where
  pub room : new.log.room ≡ old.log.room
  pub bell : new.rings ≡ old.rings

-- what each needs

pub record IsCpu (cpu : ℕ) (conf : Config) : Type 0 where
  pub is_cpu : cpu < CPUS

-- the CPU is in no section, and can open one
pub record Enters (cpu : ℕ) (conf : Config) : Type 0 where
  pub is_cpu : cpu < CPUS
  pub even : is_odd (conf.counter cpu) ≡ false
  pub low : conf.counter cpu < 2 ^ 62

pub record Leaves (cpu : ℕ) (conf : Config) : Type 0 where
  pub is_cpu : cpu < CPUS
  pub odd : is_odd (conf.counter cpu) ≡ true

-- the word has room for one more pin
pub record Pins (cpu object : ℕ) (conf : Config) : Type 0 where
  pub is_cpu : cpu < CPUS
  pub is_index : object < OBJECT_INDICES
  pub few : conf.count object < held conf object + 2 ^ 61

-- the word has a pin, and is dead or isn't
pub record HasPin (cpu object : ℕ) (dead : Bool) (conf : Config) : Type 0 where
  pub is_cpu : cpu < CPUS
  pub is_index : object < OBJECT_INDICES
  pub mark : conf.dead object ≡ dead
  pub pinned : held conf object < conf.count object

-- what they answer

-- the counter behind the step
abbrev pub Counts : PlainWords → ℕ → ℕ → Type 0
Counts words cpu counter = (conf : Config) → Shows words conf → counter ≡ conf.counter cpu + 1

-- the present word, at the greater of its setting and the CPU's last place
abbrev pub look_at : Config → ℕ → ℕ → Look
look_at conf cpu slot = record {
  slot = slot;
  place = max (set_at_of (loaded conf cpu slot).0) (place_now (conf.cpu cpu));
  word = loaded conf cpu slot;
}

abbrev pub Looks : PlainWords → ℕ → ℕ → Look → Type 0
Looks words cpu slot look = (conf : Config) → Shows words conf → look ≡ look_at conf cpu slot

-- the word was dead, and is this in 64 bits
pub record IsDead (answer : Dead) (dead : Bool) (count : ℕ) : Type 0 where
  pub mark : dead ≡ true
  pub word : answer.word ≡ 2 ^ 63 + count

-- a word that isn't dead gives nothing, and a dead one itself
abbrev pub PinGives : Result Unit Dead → Bool → ℕ → Type 0
PinGives (Ok done) dead count = dead ≡ false
PinGives (Err answer) dead count = IsDead answer dead count

abbrev pub PinAnswers : PlainWords → ℕ → Result Unit Dead → Type 0
PinAnswers words object answer = (conf : Config) → Shows words conf
    → PinGives answer (conf.dead object) (conf.count object)

-- where the word of a slot lies: a number that names none has that of number 0
abbrev pub slot_place : ℕ → ℕ
slot_place slot = if is_slot slot then slot else 0

-- the index of the CPU's capability space
abbrev pub IsAtHome : PlainWords → ℕ → ℕ → Type 0
IsAtHome words cpu home = (conf : Config) → Shows words conf
    → conf.index (cspace_of conf.boot cpu) ≡ home

-- the word that a look at this number loads
abbrev pub Loads : PlainWords → ℕ → ℕ → CapWord → Type 0
Loads words cpu slot word = (conf : Config) → Shows words conf → word ≡ loaded conf cpu slot
