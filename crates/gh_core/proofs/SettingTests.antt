-- What sets a slot is what the machine sets, where it may.
use Rattle.std.proofs.Common.{◌≡◌, ◌==◌, ◌&&◌, ◌||◌, ◌<◌, ◌∙◌, ◌++◌, ◌∷◌, [], ℕ, Bool, true, false, List, refl, ap, sym, subst, arith, not, Option, Some, None, option_map, if◌then◌else◌}
use Rattle.std.specs.List.{list_all, list_any}
use Rattle.gh_base.specs.CapWord.{object_of}
use Rattle.gh_base.specs.declared.cap_word.CapWord.{CapWord}
use Rattle.gh_base.specs.declared.limits.TheConstants.{CPUS, OBJECT_INDICES}
use Rattle.gh_invariant.specs.Events.{changes_of}
use Rattle.gh_model.specs.History as history
use Rattle.gh_model.specs.Word.{word_at}
use Rattle.gh_model.specs.declared.entry.Entry.{Entry}
use Rattle.gh_model.specs.declared.state.State.{State}
use Rattle.gh_events.specs.Config.{Config, Current, Holder, present, put}
use Rattle.gh_events.specs.Entries.{index_after, is_that_index, logged, makes_object, next_state, owed_after, shown, slot_set}
use Rattle.gh_core.specs.EntryTests.{entry_goes}
use Rattle.gh_core.specs.Owing.{CoversAll, later_indices, later_of, next_is, owed_in, owing_covers, owing_of, revived_for, setting_goes, slot_shows, with_event, with_owing, with_slot}
use Rattle.gh_core.specs.Running.{event_of, has_index, holder_of, index_in, no_number, stands_for}
use Rattle.gh_core.specs.Tables.{numbers, put_number}
use Rattle.gh_events.specs.TurnEvents.{MaySetCap, committed_by, put_word, set_cap, with_entry}
use Rattle.gh_core.specs.declared.commit_events.Next.{Next}
use Rattle.gh_core.specs.declared.config.Running.{Running}
use Rattle.gh_core.specs.declared.holder.Turn.{Turn}
use Rattle.gh_core.specs.declared.table.Written.{Written}
use Rattle.gh_core.proofs.CallTests.{both, equal, is_below, is_equal, joined}
use Rattle.gh_core.proofs.CommitTests.{Ready, tells_covers, tells_goes}
use Rattle.gh_core.proofs.OwedLemmas.{owed_is}
use Rattle.gh_core.proofs.TableLemmas.{put_last}

-- indices

all_last : (written : List Written) (w : Written) → list_all has_index written ≡ true → has_index w ≡ true → list_all has_index (written ++ w ∷ []) ≡ true
all_last [] w are is = joined (has_index w) true is refl
all_last (first ∷ written) w are is =
    let parts = both (has_index first) (list_all has_index written) are in
    joined (has_index first) (list_all has_index (written ++ w ∷ [])) parts.0 (all_last written w parts.1 is)

later_by : (makes : Bool) (given : List Written) (serial index : ℕ) → list_all has_index given ≡ true → index < OBJECT_INDICES
    → list_all has_index (if makes then given ++ record { at = serial; value = index } ∷ [] else given) ≡ true
later_by true given serial index are within = all_last given (record { at = serial; value = index }) are (is_below index OBJECT_INDICES within)
later_by false given serial index are within = are

object_within : (word : ℕ) → object_of word < OBJECT_INDICES
object_within word = omega arith

-- what an entry gives as an index is one
pub later_within : (given : List Written) (old new : State) (word : CapWord) → list_all has_index given ≡ true
    → list_all has_index (later_indices given old new word) ≡ true
later_within given old new word are = later_by (makes_object old new) given old.next_serial (object_of word.0) are (object_within word.0)

index_by : (makes : Bool) (first given : List Written) (serial index : ℕ)
    → index_in first (if makes then given ++ record { at = serial; value = index } ∷ [] else given)
    ≡ (if makes then put (index_in first given) serial index else index_in first given)
index_by true first given serial index = put_last put_number (numbers no_number first) given (record { at = serial; value = index })
index_by false first given serial index = refl

-- the indices behind an entry
pub later_is : (running : Running) (new : State) (word : CapWord)
    → index_in running.first (later_indices running.given (present (stands_for running)) new word) ≡ index_after (stands_for running) new word
later_is running new word = index_by (makes_object (present (stands_for running)) new) running.first running.given (present (stands_for running)).next_serial (object_of word.0)

-- the slot

pub record Shown (conf : Config) (new : State) (later : ℕ → ℕ) (space slot : ℕ) (word : CapWord) (found : Option (ℕ × ℕ)) : Type 0 where
  pub cspace : ℕ
  pub is : found ≡ Some (cspace, slot)
  pub at_space : conf.index cspace ≡ space
  pub shows : word.0 ≡ shown later (word_at new cspace slot)

shown_told : (conf : Config) (new : State) (later : ℕ → ℕ) (space slot : ℕ) (word : CapWord) (found : Option (ℕ × ℕ))
    → slot_shows conf new later space slot word found ≡ true → Shown conf new later space slot word found
shown_told conf new later space slot word None is = absurd (let never : ⊥ = cc in never)
shown_told conf new later space slot word (Some place) is =
    let parts = both (place.1 == slot) ((conf.index place.0 == space) && (word.0 == shown later (word_at new place.0 slot))) is in
    let rest = both (conf.index place.0 == space) (word.0 == shown later (word_at new place.0 slot)) parts.1 in
    record {
      cspace = place.0;
      is = ap (λ (n : ℕ). Some (place.0, n)) (equal place.1 slot parts.0);
      at_space = equal (conf.index place.0) space rest.0;
      shows = equal word.0 (shown later (word_at new place.0 slot)) rest.1;
    }

tells_shown : (conf : Config) (new : State) (later : ℕ → ℕ) (space slot cspace : ℕ) (word : CapWord) (found : Option (ℕ × ℕ))
    → found ≡ Some (cspace, slot) → conf.index cspace ≡ space → word.0 ≡ shown later (word_at new cspace slot)
    → slot_shows conf new later space slot word found ≡ true
tells_shown conf new later space slot cspace word found is there shows =
    subst (λ (o : Option (ℕ × ℕ)). slot_shows conf new later space slot word o ≡ true) (sym is)
    (joined (slot == slot) ((conf.index cspace == space) && (word.0 == shown later (word_at new cspace slot))) (is_equal slot slot refl)
    (joined (conf.index cspace == space) (word.0 == shown later (word_at new cspace slot)) (is_equal (conf.index cspace) space there) (is_equal word.0 (shown later (word_at new cspace slot)) shows)))

-- revived indices

either : (a b : Bool) → (not a || b) ≡ true → a ≡ true → b ≡ true
either true b is made = is
either false b is made = absurd (let never : ⊥ = cc in never)

tells_either : (a b : Bool) → (a ≡ true → b ≡ true) → (not a || b) ≡ true
tells_either true b is = is refl
tells_either false b is = refl

revived_told : (turn : Option Holder) (holder : Holder) (old new : State) (word : CapWord) → turn ≡ Some holder → revived_for turn old new word ≡ true
    → makes_object old new ≡ true → list_any (is_that_index (object_of word.0)) holder.revived ≡ true
revived_told turn holder old new word is revived =
    either (makes_object old new) (list_any (is_that_index (object_of word.0)) holder.revived) (subst (λ (o : Option Holder). revived_for o old new word ≡ true) is revived)

tells_revived : (turn : Option Holder) (holder : Holder) (old new : State) (word : CapWord) → turn ≡ Some holder
    → (makes_object old new ≡ true → list_any (is_that_index (object_of word.0)) holder.revived ≡ true) → revived_for turn old new word ≡ true
tells_revived turn holder old new word is revived =
    subst (λ (o : Option Holder). revived_for o old new word ≡ true) (sym is) (tells_either (makes_object old new) (list_any (is_that_index (object_of word.0)) holder.revived) revived)

-- settings

module _ (running : Running) (at : ℕ) (entry : Entry) (space slot : ℕ) (word : CapWord) (next : Next) (all : List Written)
    (is : Ready running at entry 1 (later_of running next word) next all)
    (goes : setting_goes (stands_for running) (event_of next.logged) next.state (later_of running next word) space slot word ≡ true) where
  slot_is : Shown (stands_for running) next.state (later_of running next word) space slot word (slot_set (changes_of (present (stands_for running)) (event_of next.logged)))
  slot_is = shown_told (stands_for running) next.state (later_of running next word) space slot word (slot_set (changes_of (present (stands_for running)) (event_of next.logged)))
      (both (slot_shows (stands_for running) next.state (later_of running next word) space slot word (slot_set (changes_of (present (stands_for running)) (event_of next.logged)))) _ goes).0

  turn_is : (stands_for running).turn ≡ Some (holder_of is.own)
  turn_is = ap (option_map holder_of) is.turn

  -- the state and the indices behind the entry
  behind : later_of running next word ≡ index_after (stands_for running) (next_state (stands_for running) is.call entry) word
  behind = later_is running next.state word ∙ ap (λ (s : State). index_after (stands_for running) s word) is.state

  pub set_may : at < CPUS → space < OBJECT_INDICES → MaySetCap (stands_for running) at entry space slot word
  set_may within there = record {
    is_cpu = within;
    is_index = there;
    holder = holder_of is.own;
    call = is.call;
    allows = is.allows;
    one_slot = is.sets;
    cspace = slot_is.cspace;
    sets = subst (λ (event : history.Event). slot_set (changes_of (present (stands_for running)) event) ≡ Some (slot_is.cspace, slot)) is.event slot_is.is;
    at_space = slot_is.at_space;
    shows = slot_is.shows ∙ (ap (λ (index : ℕ → ℕ). shown index (word_at next.state slot_is.cspace slot)) behind
        ∙ ap (λ (s : State). shown (index_after (stands_for running) (next_state (stands_for running) is.call entry) word) (word_at s slot_is.cspace slot)) is.state);
    revived = subst (λ (s : State). makes_object (present (stands_for running)) s ≡ true → list_any (is_that_index (object_of word.0)) (holder_of is.own).revived ≡ true) is.state
        (revived_told (stands_for running).turn (holder_of is.own) (present (stands_for running)) next.state word turn_is
        (both (slot_shows (stands_for running) next.state (later_of running next word) space slot word (slot_set (changes_of (present (stands_for running)) (event_of next.logged)))) _ goes).1);
    covers = subst (λ (index : ℕ → ℕ). CoversAll is.own.owed (present (stands_for running)) (next_state (stands_for running) is.call entry) (stands_for running).index index) behind
        (subst (λ (s : State). CoversAll is.own.owed (present (stands_for running)) s (stands_for running).index (later_of running next word)) is.state is.covers);
  }

-- the test fails where it may not

pub not_ready_to_set : (running : Running) (at : ℕ) (entry : Entry) (space slot : ℕ) (word : CapWord)
    → entry_goes (stands_for running) at entry 1 ≡ false → MaySetCap (stands_for running) at entry space slot word → ⊥
not_ready_to_set running at entry space slot word is may =
    let goes : entry_goes (stands_for running) at entry 1 ≡ true = tells_goes (stands_for running) at entry 1 may.holder may.call may.allows may.one_slot in cc

module _ (running : Running) (at : ℕ) (entry : Entry) (space slot : ℕ) (word : CapWord) (next : Next)
    (ready : next_is (stands_for running) entry ((stands_for running).cpu at).current next) (may : MaySetCap (stands_for running) at entry space slot word) where
  here : next_is (stands_for running) entry (Some may.call) next
  here = subst (λ (o : Option Current). next_is (stands_for running) entry o next) may.allows.in_act.is_current ready

  behind_may : later_of running next word ≡ index_after (stands_for running) (next_state (stands_for running) may.call entry) word
  behind_may = later_is running next.state word ∙ ap (λ (s : State). index_after (stands_for running) s word) here.1

  pub tells_setting : setting_goes (stands_for running) (event_of next.logged) next.state (later_of running next word) space slot word ≡ true
  tells_setting = joined (slot_shows (stands_for running) next.state (later_of running next word) space slot word (slot_set (changes_of (present (stands_for running)) (event_of next.logged)))) _
      (tells_shown (stands_for running) next.state (later_of running next word) space slot may.cspace word (slot_set (changes_of (present (stands_for running)) (event_of next.logged)))
      (ap (λ (event : history.Event). slot_set (changes_of (present (stands_for running)) event)) here.0 ∙ may.sets) may.at_space
      (may.shows ∙ sym (ap (λ (index : ℕ → ℕ). shown index (word_at next.state may.cspace slot)) behind_may
      ∙ ap (λ (s : State). shown (index_after (stands_for running) (next_state (stands_for running) may.call entry) word) (word_at s may.cspace slot)) here.1)))
      (tells_revived (stands_for running).turn may.holder (present (stands_for running)) next.state word may.allows.has_turn.turn
      (subst (λ (s : State). makes_object (present (stands_for running)) s ≡ true → list_any (is_that_index (object_of word.0)) may.holder.revived ≡ true) (sym here.1) may.revived))

  pub tells_owing : owing_covers running.turn (present (stands_for running)) next.state (stands_for running).index (later_of running next word)
  tells_owing = subst (λ (index : ℕ → ℕ). owing_covers running.turn (present (stands_for running)) next.state (stands_for running).index index) (sym behind_may)
      (tells_covers running at entry (index_after (stands_for running) (next_state (stands_for running) may.call entry) word) may.holder may.call next may.allows may.covers ready)

-- what is made of the configuration

module _ (conf : Config) (entry : Entry) (call : Current) (own : Holder) (space slot : ℕ) (word : CapWord) where
  abbrev next_one : State
  next_one = next_state conf call entry

  abbrev index_of : ℕ → ℕ
  index_of = index_after conf (next_state conf call entry) word

  abbrev owed_of : ℕ → ℕ
  owed_of = owed_after conf own (next_state conf call entry) (index_after conf (next_state conf call entry) word)

  abbrev on_turn : Option Holder → Config
  on_turn turn = record conf {
    history = conf.history ++ logged entry call ∷ [];
    index = index_after conf (next_state conf call entry) word;
    turn = turn;
    cap = put_word conf.cap space slot word;
  }

  turn_by : conf.turn ≡ Some own
      → option_map (with_owing entry (owed_after conf own (next_state conf call entry) (index_after conf (next_state conf call entry) word))) conf.turn
      ≡ option_map (with_entry conf entry (next_state conf call entry) (index_after conf (next_state conf call entry) word)) conf.turn
  turn_by is =
      ap (option_map (with_owing entry (owed_after conf own (next_state conf call entry) (index_after conf (next_state conf call entry) word)))) is
      ∙ sym (ap (option_map (with_entry conf entry (next_state conf call entry) (index_after conf (next_state conf call entry) word))) is)

  abbrev with_caps : Config → Config
  with_caps c = record c { cap = put_word conf.cap space slot word }

  -- what was put is what the machine sets
  pub setting_by : (current : Option Current) (event : history.Event) (later owed : ℕ → ℕ) → current ≡ Some call → conf.turn ≡ Some own
      → event ≡ logged entry call → later ≡ index_after conf (next_state conf call entry) word
      → owed ≡ owed_after conf own (next_state conf call entry) (index_after conf (next_state conf call entry) word)
      → with_slot (with_event conf event owed) later space slot word
      ≡ with_caps (committed_by conf entry (λ new. index_after conf new word) current)
  setting_by current event later owed is turn events laters oweds =
      ap (λ (e : history.Event). with_slot (with_event conf e owed) later space slot word) events
      ∙ (ap (λ (o : ℕ → ℕ). with_slot (with_event conf (logged entry call) o) later space slot word) oweds
      ∙ (ap (λ (l : ℕ → ℕ). with_slot (with_event conf (logged entry call) owed_of) l space slot word) laters
      ∙ (ap on_turn (turn_by turn)
      ∙ sym (ap (λ (c : Option Current). with_caps (committed_by conf entry (λ new. index_after conf new word) c)) is))))

module _ (running : Running) (at : ℕ) (entry : Entry) (space slot : ℕ) (word : CapWord) (next : Next) (all : List Written)
    (is : Ready running at entry 1 (later_of running next word) next all) where
  owed_same : numbers no_number all ≡ owed_after (stands_for running) (holder_of is.own) (next_state (stands_for running) is.call entry) (index_after (stands_for running) (next_state (stands_for running) is.call entry) word)
  owed_same =
      ap (numbers no_number) is.owed
      ∙ (owed_is is.own.owed (present (stands_for running)) next.state (stands_for running).index (later_of running next word)
      ∙ (ap (λ (s : State). owed_in is.own.owed (present (stands_for running)) s (stands_for running).index (later_of running next word)) is.state
      ∙ ap (λ (index : ℕ → ℕ). owed_in is.own.owed (present (stands_for running)) (next_state (stands_for running) is.call entry) (stands_for running).index index)
      (later_is running next.state word ∙ ap (λ (s : State). index_after (stands_for running) s word) is.state)))

  -- what was put is what the machine sets, over the tables
  pub set_is : with_slot (with_event (stands_for running) (event_of next.logged) (numbers no_number all)) (later_of running next word) space slot word ≡ set_cap (stands_for running) at entry space slot word
  set_is = setting_by (stands_for running) entry is.call (holder_of is.own) space slot word ((stands_for running).cpu at).current (event_of next.logged) (later_of running next word) (numbers no_number all)
      is.current (ap (option_map holder_of) is.turn) is.event
      (later_is running next.state word ∙ ap (λ (s : State). index_after (stands_for running) s word) is.state) owed_same

-- an event, and then the indices and the word of a slot
pub set_put : (old mid new : Config) (event : history.Event) (first mids later laters slice : List Written) (turn : Option Turn) (here now state : State)
    (owed : List Written) (space slot : ℕ) (word : CapWord)
    → new ≡ with_slot mid (index_in mids later) space slot word
    → mid ≡ with_event old event (numbers no_number owed)
    → mids ≡ first → later ≡ laters → owed ≡ owing_of turn here state old.index (index_in first slice) → slice ≡ later → here ≡ now
    → new ≡ with_slot (with_event old event (numbers no_number (owing_of turn now state old.index (index_in first laters)))) (index_in first laters) space slot word
set_put old mid new event first mids later laters slice turn here now state owed space slot word news mid_is firsts later_same owed_is slices heres =
    news
    ∙ (ap (λ (c : Config). with_slot c (index_in mids later) space slot word) mid_is
    ∙ (ap (λ (f : List Written). with_slot (with_event old event (numbers no_number owed)) (index_in f later) space slot word) firsts
    ∙ (ap (λ (l : List Written). with_slot (with_event old event (numbers no_number owed)) (index_in first l) space slot word) later_same
    ∙ ap (λ (o : List Written). with_slot (with_event old event (numbers no_number o)) (index_in first laters) space slot word)
    (owed_is ∙ (ap (λ (s : List Written). owing_of turn here state old.index (index_in first s)) (slices ∙ later_same)
    ∙ ap (λ (h : State). owing_of turn h state old.index (index_in first laters)) heres)))))
