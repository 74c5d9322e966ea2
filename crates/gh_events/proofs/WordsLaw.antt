-- Every event leaves the capability words those of the present state.
use Rattle.std.proofs.Common.{◌==◌, ◌<◌, ℕ, [], ◌∷◌, true, false, subst, Option}
use Rattle.std.proofs.lemmas.List.Sums.{fold-append}
use Rattle.gh_base.specs.CapWord.{settings}
use Rattle.gh_base.specs.declared.cap_word.CapWord.{CapWord}
use Rattle.gh_model.specs.History.{after_event}
use Rattle.gh_model.specs.declared.entry.Entry.{Entry}
use Rattle.gh_model.specs.declared.state.State.{State}
use Rattle.gh_events.specs.Config.{Config, Current}
use Rattle.gh_events.specs.Entries.{index_after, logged, next_state}
use Rattle.gh_events.specs.Events.{Possible, after}
use Rattle.gh_events.specs.References.{HasReferences}
use Rattle.gh_events.specs.Replayed.{HasState}
use Rattle.gh_events.specs.TurnEvents.{MaySetCap, committed_by, put_word, set_cap}
use Rattle.gh_events.specs.ValidState.{HasValid}
use Rattle.gh_events.specs.Words.{HasRoom, ShowsWords}
use Rattle.gh_events.specs.declared.event.Event.{Event}
use Rattle.gh_events.specs.declared.event.Event.TheVariants.{Enter, Leave, Take, Look, Pin, Unpin, Undo, Kill, Commit, SetCap, Free, Scan, Revive, Join, Split}
use Rattle.gh_events.proofs.SetCapWords.{set_cap_shows}
use Rattle.gh_events.proofs.WordsKeep.{commit_shows, killed_words, same_words}

-- the state behind an entry that sets a slot has room where the configuration has
room_behind : (conf : Config) (at : ℕ) (entry : Entry) (space slot : ℕ) (word : CapWord)
    → (may : MaySetCap conf at entry space slot word) → HasRoom (set_cap conf at entry space slot word)
    → (next_state conf may.call entry).entries < settings
room_behind conf at entry space slot word may room =
    subst (λ (s : State). s.entries < settings) (fold-append after_event conf.boot conf.history (logged entry may.call ∷ []))
    (subst (λ (current : Option Current). HasRoom (record (committed_by conf entry (λ new. index_after conf new word) current) { cap = put_word conf.cap space slot word })) may.allows.in_act.is_current room)

-- every event
pub event_shows : (conf : Config) (event : Event) → HasReferences conf → HasState conf → HasValid conf
    → ShowsWords conf → HasRoom (after conf event) → Possible conf event
    → ShowsWords (after conf event)
event_shows conf (Enter cpu) sound state fit words room may = same_words conf _ _ _ _ _ words
event_shows conf (Leave cpu) sound state fit words room may = same_words conf _ _ _ _ _ words
event_shows conf (Take cpu) sound state fit words room may = same_words conf _ _ _ _ _ words
event_shows conf (Look cpu slot) sound state fit words room may = same_words conf _ _ _ _ _ words
event_shows conf (Pin cpu object false) sound state fit words room may =
    same_words conf _ _ _ _ _ words
event_shows conf (Pin cpu object true) sound state fit words room may =
    same_words conf _ _ _ _ _ words
event_shows conf (Unpin cpu object false) sound state fit words room may =
    same_words conf _ _ _ _ _ words
event_shows conf (Unpin cpu object true) sound state fit words room may =
    same_words conf _ _ _ _ _ words
event_shows conf (Undo cpu object) sound state fit words room may =
    same_words conf _ _ _ _ _ words
event_shows conf (Kill cpu object) sound state fit words room may =
    killed_words conf object.0 (conf.count object.0 == 0) words
event_shows conf (Commit cpu entry) sound state fit words room may =
    commit_shows conf cpu.0 entry fit words may
event_shows conf (SetCap cpu entry space slot word) sound state fit words room may =
    set_cap_shows conf cpu.0 entry space.0 slot word sound state fit words may
    (room_behind conf cpu.0 entry space.0 slot word may room)
event_shows conf (Free cpu true) sound state fit words room may = same_words conf _ _ _ _ _ words
event_shows conf (Free cpu false) sound state fit words room may = same_words conf _ _ _ _ _ words
event_shows conf (Scan cpu of_cpu) sound state fit words room may = same_words conf _ _ _ _ _ words
event_shows conf (Revive cpu object count) sound state fit words room may =
    same_words conf _ _ _ _ _ words
event_shows conf (Join cpu) sound state fit words room may = words
event_shows conf (Split cpu) sound state fit words room may = words
