-- What is owed behind an entry, over the tables.
use Rattle.std.specs.Prelude.{◌≡◌, ◌==◌, ◌&&◌, ◌||◌, ◌+◌, ◌-◌, ◌<◌, ◌≤◌, ◌++◌, not, ℕ, Bool, false, List, [], ◌∷◌, Option, Some, None, map, nat_le, option_map, if◌then◌else◌}
use Rattle.std.specs.List.{list_any}
use Rattle.gh_base.specs.CapWord.{object_of}
use Rattle.gh_base.specs.declared.cap_word.CapWord.{CapWord}
use Rattle.gh_invariant.specs.Events.{changes_of}
use Rattle.gh_model.specs.Word.{word_at}
use Rattle.gh_events.specs.TurnEvents.{put_word}
use Rattle.gh_base.specs.declared.limits.TheConstants.{OBJECT_INDICES}
use Rattle.gh_model.specs.declared.rows.ObjectRow.{ObjectRow}
use Rattle.gh_model.specs.declared.state.State.{State}
use Rattle.gh_model.specs.History as history
use Rattle.gh_model.specs.declared.entry.Entry.{Entry}
use Rattle.gh_events.specs.Config.{Config, Current, Holder, present, references_at}
use Rattle.gh_events.specs.Entries.{is_that_index, logged, makes_object, next_state, shown, slot_set}
use Rattle.gh_core.specs.Running.{event_of, index_in, no_number, stands_for}
use Rattle.gh_core.specs.Tables.{numbers}
use Rattle.gh_core.specs.declared.commit_events.Next.{Next}
use Rattle.gh_core.specs.declared.config.Running.{Running}
use Rattle.gh_core.specs.declared.holder.Turn.{Turn}
use Rattle.gh_core.specs.declared.table.Written.{Written}

-- what is owed at an index, and the references of its object
abbrev pub held_in : List Written → State → (ℕ → ℕ) → ℕ → ℕ
held_in owed old index at = numbers no_number owed at + references_at old index at

-- what is owed there once the references are those of another state
abbrev pub owed_in : List Written → State → State → (ℕ → ℕ) → (ℕ → ℕ) → ℕ → ℕ
owed_in owed old new index later at = held_in owed old index at - references_at new later at

abbrev pub owing : (ℕ → ℕ) → ℕ → Written
owing amount at = record { at = at; value = amount at }

-- what is owed at the index of an object
abbrev pub owing_row : (ℕ → ℕ) → (ℕ → ℕ) → ObjectRow → Written
owing_row amount index row = owing amount (index row.serial.0)

-- what was owed, and what is owed now at each index that an object has in either state
abbrev pub owed_behind : List Written → State → State → (ℕ → ℕ) → (ℕ → ℕ) → List Written
owed_behind owed old new index later =
    owed ++ (map (owing_row (owed_in owed old new index later) index) old.objects
    ++ map (owing_row (owed_in owed old new index later) later) new.objects)

-- no owed amount falls below 0 at an index
abbrev pub covers_there : List Written → State → State → (ℕ → ℕ) → (ℕ → ℕ) → ℕ → Bool
covers_there owed old new index later at =
    nat_le (references_at new later at) (held_in owed old index at)

-- nor at any
abbrev pub CoversAll : List Written → State → State → (ℕ → ℕ) → (ℕ → ℕ) → Type 0
CoversAll owed old new index later = (at : ℕ) → at < OBJECT_INDICES
    → references_at new later at ≤ held_in owed old index at

-- the entry and what is owed, of the holder
abbrev pub with_owing : Entry → (ℕ → ℕ) → Holder → Holder
with_owing entry owed holder = record holder {
  entries = holder.entries ++ entry ∷ [];
  owed = owed;
}

-- the history has one event more, and the holder owes this
abbrev pub with_event : Config → history.Event → (ℕ → ℕ) → Config
with_event conf event owed = record conf {
  history = conf.history ++ event ∷ [];
  turn = option_map (with_owing event.entry owed) conf.turn;
}

-- an event that was made ready is the entry with the call in progress, and the state is the one
-- behind it
abbrev pub next_is : Config → Entry → Option Current → Next → Type 0
next_is conf entry None next = ⊥
next_is conf entry (Some call) next =
    (event_of next.logged ≡ logged entry call) × (next.state ≡ next_state conf call entry)

-- no owed amount of the turn falls below 0
abbrev pub owing_covers : Option Turn → State → State → (ℕ → ℕ) → (ℕ → ℕ) → Type 0
owing_covers None old new index later = ⊥
owing_covers (Some turn) old new index later = CoversAll turn.owed old new index later

-- what the turn owes behind an entry
abbrev pub owing_of : Option Turn → State → State → (ℕ → ℕ) → (ℕ → ℕ) → List Written
owing_of None old new index later = []
owing_of (Some turn) old new index later = owed_behind turn.owed old new index later

-- setting a slot

-- the indices that entries gave, behind one that sets a slot to this word
abbrev pub later_indices : List Written → State → State → CapWord → List Written
later_indices given old new word =
    if makes_object old new
    then given ++ record { at = old.next_serial; value = object_of word.0 } ∷ [] else given

-- an object that the entry makes has an index that was revived in this turn
abbrev pub revived_for : Option Holder → State → State → CapWord → Bool
revived_for None old new word = false
revived_for (Some holder) old new word =
    not (makes_object old new) || list_any (is_that_index (object_of word.0)) holder.revived

-- the slot that the changes set is this one, and the word shows what it has behind them
abbrev pub slot_shows : Config → State → (ℕ → ℕ) → ℕ → ℕ → CapWord → Option (ℕ × ℕ) → Bool
slot_shows conf new later space slot word None = false
slot_shows conf new later space slot word (Some place) =
    (place.1 == slot)
    && ((conf.index place.0 == space) && (word.0 == shown later (word_at new place.0 slot)))

-- the event may set the slot to this word
abbrev pub setting_goes : Config → history.Event → State → (ℕ → ℕ) → ℕ → ℕ → CapWord → Bool
setting_goes conf event new later space slot word =
    slot_shows conf new later space slot word (slot_set (changes_of (present conf) event))
    && revived_for conf.turn (present conf) new word

-- these indices, and a slot with this word
abbrev pub with_slot : Config → (ℕ → ℕ) → ℕ → ℕ → CapWord → Config
with_slot conf later space slot word = record conf {
  index = later;
  cap = put_word conf.cap space slot word;
}

-- the indices behind an entry that sets a slot to this word
abbrev pub later_of : Running → Next → CapWord → ℕ → ℕ
later_of running next word =
    index_in running.first (later_indices running.given (present (stands_for running)) next.state word)
