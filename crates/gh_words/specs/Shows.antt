-- The configurations that plain words show. A configuration has functions, and so the facts are
-- pointwise: what the tables have at each place is what the configuration has there.
use Rattle.std.specs.Prelude.{◌≡◌, ◌+◌, ◌*◌, ◌<◌, ◌≤◌, ◌^◌, ℕ, true, Option, Some, None, map, slice_get}
use Rattle.gh_base.specs.declared.cap_word.Grant.{Grant}
use Rattle.gh_base.specs.declared.limits.TheConstants.{CPUS, OBJECT_INDICES}
use Rattle.gh_events.specs.Config.{AtAct, Config, Current, Holder, IsIn, live_references, present, seen_index}
use Rattle.gh_events.specs.References.{owed_at}
use Rattle.gh_events.specs.Sound.{place_now}
use Rattle.gh_model.specs.History.{entry_of}
use Rattle.gh_model.specs.Marks.{Seen, cspace_of}
use Rattle.gh_words.specs.declared.plain_words.PlainWords.{PlainWords}
use Rattle.gh_words.specs.declared.plain_words.ReferenceWord.{ReferenceWord}
use Rattle.gh_words.specs.declared.plain_words.TheConstants.{SLOT_WORDS}
use Rattle.gh_words.specs.declared.plain_words.Turn.{Turn}

-- words

-- what an index holds without any pin: what is owed there, and the references of its live object
abbrev pub held : Config → ℕ → ℕ
held conf at = owed_at conf.turn at + live_references conf at

-- the count of a reference word holds that, and as many pins besides as a word has room for; a dead
-- word counts pins alone
pub record Fits (conf : Config) (at : ℕ) : Type 0 where
  pub bounded : held conf at ≤ 2 ^ 62
  pub least : held conf at ≤ conf.count at
  pub few : conf.count at ≤ held conf at + 2 ^ 61
  pub dead : conf.dead at ≡ true → held conf at ≡ 0

-- where the word of a slot lies
abbrev pub cap_place : ℕ → ℕ → ℕ
cap_place space slot = space * SLOT_WORDS + slot

abbrev pub reference_word : Config → ℕ → ReferenceWord
reference_word conf at = record { count = conf.count at; dead = conf.dead at }

-- CPUs

-- the capability space of a CPU was made, and has this index
pub record IsHome (conf : Config) (cpu home : ℕ) : Type 0 where
  pub is : conf.index (cspace_of conf.boot cpu) ≡ home
  pub made : cspace_of conf.boot cpu < (present conf).next_serial
  pub within : home < OBJECT_INDICES

-- the CPU has this index, this counter and this last place. A counter has room to go on
pub record ShowsCpu (words : PlainWords) (conf : Config) (cpu : ℕ) : Type 0 where
  pub home : ℕ
  pub has_home : slice_get words.homes cpu ≡ Some (record { 0 = home })
  pub is_home : IsHome conf cpu home
  pub counter : slice_get words.counters cpu ≡ Some (conf.counter cpu)
  pub low : conf.counter cpu ≤ 2 ^ 62
  pub place : slice_get words.places cpu ≡ Some (place_now (conf.cpu cpu))

-- the turn

abbrev pub grant_of : Seen → Grant
grant_of seen = record { object = record { 0 = seen_index seen }; word = seen.look.word }

-- the CPU has the turn, and this call of it is at its act
pub record HolderIs (turn : Turn) (conf : Config) : Type 0 where
  pub holder : Holder
  pub call : Current
  pub has_turn : conf.turn ≡ Some holder
  pub its_cpu : holder.cpu ≡ turn.cpu.0
  pub within : turn.cpu.0 < CPUS
  pub in_act : IsIn (conf.cpu turn.cpu.0) call AtAct
  pub number : call.given.number ≡ turn.number
  pub frame : call.given.frame ≡ turn.frame
  pub grants : map grant_of call.seen ≡ turn.grants

abbrev pub TurnIs : Option Turn → Config → Type 0
TurnIs None conf = conf.turn ≡ None
TurnIs (Some turn) conf = HolderIs turn conf

-- the words show the configuration
pub record Shows (words : PlainWords) (conf : Config) : Type 0 where
  pub caps : (space slot : ℕ) → space < OBJECT_INDICES → slot < SLOT_WORDS
      → slice_get words.caps (cap_place space slot) ≡ Some (conf.cap space slot)
  pub references : (at : ℕ) → at < OBJECT_INDICES
      → slice_get words.references at ≡ Some (reference_word conf at)
  pub fits : (at : ℕ) → at < OBJECT_INDICES → Fits conf at
  pub cpus : (cpu : ℕ) → cpu < CPUS → ShowsCpu words conf cpu
  pub entries : words.log.entries ≡ map entry_of conf.history
  pub turn : TurnIs words.turn conf
