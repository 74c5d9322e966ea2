-- What the steps around an entry leave: the history has it, and what the words count is all else that
-- they change.
use Rattle.std.proofs.Common.{◌≡◌, ◌∙◌, ℕ, Bool, false, List, [], ◌∷◌, ◌++◌, refl, sym, ap, subst, filter, map, Option, Some, None, if◌then◌else◌}
use Rattle.gh_base.specs.CapWord.{object_of}
use Rattle.gh_base.specs.declared.cap_word.CapWord.{CapWord}
use Rattle.gh_base.specs.declared.ids.Serial.{Serial}
use Rattle.gh_schedules.specs.Committing.{commits_of, committing, entry_event, gains_owed, is_made, losses_settled, owe, revives, settle, slot_word, with_new}
use Rattle.gh_schedules.specs.Places.{added, places_of}
use Rattle.gh_events.specs.Config.{Config, Cpu, Current, present, put}
use Rattle.gh_events.specs.Entries.{index_after, logged, makes_object, next_state, slot_set}
use Rattle.gh_events.specs.Events.{after}
use Rattle.gh_events.specs.HolderEvents.{owed, settled}
use Rattle.gh_schedules.specs.Trace.{after_all}
use Rattle.gh_events.specs.TurnEvents.{committed, committed_by, put_word, set_cap}
use Rattle.gh_events.specs.declared.event.Event.{Event}
use Rattle.gh_schedules.proofs.TraceLaws.{after_append}
use Rattle.gh_invariant.specs.Effects.{gained, lost}
use Rattle.gh_invariant.specs.Events.{changes_of}
use Rattle.gh_items.specs.Acts.{in_state, with_entry}
use Rattle.gh_items.specs.Stands.{Stands}
use Rattle.gh_items.specs.declared.progress.Progress.{Progress}
use Rattle.gh_items.proofs.EntryLemmas.{stands_behind}
use Rattle.gh_items.proofs.LikeLemmas.{IsLike, like_self, like_then, stands_like}
use Rattle.gh_model.specs.History as history
use Rattle.gh_model.specs.declared.change.Change.{Change}
use Rattle.gh_model.specs.declared.entry.Entry.{Entry}
use Rattle.gh_model.specs.declared.rows.ObjectRow.{ObjectRow}
use Rattle.gh_model.specs.declared.state.State.{State}

-- what is like it is in the same state
like_state : (conf other : Config) → IsLike conf other → present conf ≡ present other
like_state conf other like =
    ap (λ (boot : State). history.replay boot conf.history) like.boot ∙ ap (λ (events : List history.Event). history.replay other.boot events) like.history

-- what is owed and settled

owes_like : (at : ℕ) (index : ℕ → ℕ) (serials : List Serial) (conf : Config) → IsLike conf (after_all conf (map (owe at index) serials))
owes_like at index [] conf = like_self conf
owes_like at index (serial ∷ serials) conf =
    like_then conf (owed conf (index serial.0)) (after_all conf (map (owe at index) (serial ∷ serials)))
    (record { boot = refl; history = refl; index = λ n. refl; cpu = λ n. refl })
    (owes_like at index serials (owed conf (index serial.0)))

settles_like : (at : ℕ) (index : ℕ → ℕ) (serials : List Serial) (conf : Config) → IsLike conf (after_all conf (map (settle at index) serials))
settles_like at index [] conf = like_self conf
settles_like at index (serial ∷ serials) conf =
    like_then conf (settled conf (index serial.0)) (after_all conf (map (settle at index) (serial ∷ serials)))
    (record { boot = refl; history = refl; index = λ n. refl; cpu = λ n. refl })
    (settles_like at index serials (settled conf (index serial.0)))

-- the history with one more entry of this call

abbrev pub with_logged : Config → Entry → Current → Config
with_logged conf entry call = record conf { history = conf.history ++ logged entry call ∷ [] }

logged_like : (conf other : Config) (entry : Entry) (call : Current) → IsLike conf other → IsLike (with_logged conf entry call) (with_logged other entry call)
logged_like conf other entry call like = record {
  boot = like.boot;
  history = ap (λ (events : List history.Event). events ++ logged entry call ∷ []) like.history;
  index = like.index;
  cpu = like.cpu;
}

module _ (conf : Config) (at : ℕ) (entry : Entry) (call : Current) (now : (conf.cpu at).current ≡ Some call)
    (unborn : makes_object (present conf) (next_state conf call entry) ≡ false) where
  commit_like : IsLike (with_logged conf entry call) (committed conf at entry)
  commit_like =
      subst (λ (current : Option Current). IsLike (with_logged conf entry call) (committed_by conf entry (λ new. conf.index) current)) (sym now)
      (record { boot = refl; history = refl; index = λ n. refl; cpu = λ n. refl })

  set_like : (space slot : ℕ) (word : CapWord) → IsLike (with_logged conf entry call) (set_cap conf at entry space slot word)
  set_like space slot word =
      subst (λ (current : Option Current). IsLike (with_logged conf entry call)
      (record (committed_by conf entry (λ new. index_after conf new word) current) { cap = put_word conf.cap space slot word })) (sym now)
      (record {
        boot = refl;
        history = refl;
        index = λ n. sym (ap (λ (born : Bool). (if born then put conf.index (present conf).next_serial (object_of word.0) else conf.index) n) unborn);
        cpu = λ n. refl;
      })

  event_like : (new : State) (index later : ℕ → ℕ) (place : Option (ℕ × ℕ))
      → IsLike (with_logged conf entry call) (after conf (entry_event at entry new index later place))
  event_like new index later None = commit_like
  event_like new index later (Some place) = set_like (index place.0) place.1 (slot_word new later place)

module _ (conf : Config) (at : ℕ) (entry : Entry) (call : Current) (now : (conf.cpu at).current ≡ Some call)
    (none : added (changes_of (present conf) (logged entry call)) ≡ None)
    (unborn : makes_object (present conf) (next_state conf call entry) ≡ false) where
  abbrev s : State
  s = present conf

  abbrev new : State
  new = next_state conf call entry

  abbrev changes : List Change
  changes = changes_of (present conf) (logged entry call)

  abbrev gains : List Event
  gains = gains_owed at s conf.index (gained s changes)

  abbrev rest : List Event
  rest = entry_event at entry new conf.index conf.index (slot_set changes) ∷ losses_settled at conf.index (lost s changes)

  abbrev first : Config
  first = after_all conf gains

  abbrev second : Config
  second = after first (entry_event at entry new conf.index conf.index (slot_set changes))

  owes : IsLike conf first
  owes = owes_like at conf.index (filter (is_made s.next_serial) (gained s changes)) conf

  still_unborn : makes_object (present first) (next_state first call entry) ≡ false
  still_unborn = subst (λ (there : State). makes_object there (history.after_event there (logged entry call)) ≡ false) (like_state conf first owes) unborn

  rest_like : IsLike (with_logged conf entry call) (after_all conf (gains ++ rest))
  rest_like =
      subst (IsLike (with_logged conf entry call)) (sym (after_append conf gains rest))
      (like_then (with_logged conf entry call) (with_logged first entry call) (after_all first rest) (logged_like conf first entry call owes)
      (like_then (with_logged first entry call) second (after_all first rest)
      (event_like first at entry call (sym (ap (λ (cpu : Cpu). cpu.current) (owes.cpu at)) ∙ now) still_unborn new conf.index conf.index (slot_set changes))
      (settles_like at conf.index (lost s changes) second)))

  by_made : (made : Option ObjectRow) → made ≡ None
      → IsLike (with_logged conf entry call)
      (after_all conf (gains ++ (revives at s (places_of conf) conf.index (gained s changes) made
      ++ (entry_event at entry new conf.index (with_new s (places_of conf) conf.index made) (slot_set changes) ∷ losses_settled at conf.index (lost s changes)))))
  by_made (Some row) none = absurd (let never : ⊥ = cc in never)
  by_made None none = rest_like

  pub committing_like : IsLike (with_logged conf entry call) (after_all conf (committing at entry conf))
  unfolding committing
  committing_like =
      subst (λ (current : Option Current). IsLike (with_logged conf entry call) (after_all conf (commits_of at entry conf current))) (sym now)
      (by_made (added changes) none)

  -- the progress stands for it
  pub committed_stands : (progress : Progress) → Stands progress conf
      → Stands (with_entry (in_state progress new) entry) (after_all conf (committing at entry conf))
  committed_stands progress stands =
      stands_like (with_entry (in_state progress new) entry) (with_logged conf entry call) (after_all conf (committing at entry conf)) committing_like
      (stands_behind progress conf stands entry call none conf.cap conf.count conf.dead conf.turn)
