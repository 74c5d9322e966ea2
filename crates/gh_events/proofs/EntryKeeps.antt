-- Commit and SetCap keep sound references, and where objects live and which serials they have.
use Rattle.std.proofs.Common.{◌≡◌, ◌==◌, ◌<◌, ◌∙◌, ◌⊎◌, inl, inr, ℕ, Bool, true, false, List, [], ◌∷◌, ◌++◌, refl, subst, sym, ap, arith, Option, Some, None, find, is_some, if◌then◌else◌}
use Rattle.std.specs.Prelude.{◌&&◌, ◌||◌, option_map}
use Rattle.std.specs.List.{last_or, list_any}
use Rattle.std.proofs.lemmas.Bool.Decides.{nat_tests}
use Rattle.std.proofs.lemmas.List.Folds.{list_any-append}
use Rattle.std.proofs.lemmas.List.Sums.{fold-append}
use Rattle.gh_base.specs.CapWord.{object_of}
use Rattle.gh_base.specs.declared.cap_word.CapWord.{CapWord}
use Rattle.gh_base.specs.declared.limits.TheConstants.{OBJECT_INDICES}
use Rattle.gh_invariant.specs.Effects.{slots_set}
use Rattle.gh_invariant.specs.Events.{changes_of, entry_changes}
use Rattle.gh_invariant.specs.Lives.{lives}
use Rattle.gh_invariant.proofs.HistoriesKept.{entry_rises}
use Rattle.gh_model.specs.Act.{granted}
use Rattle.gh_model.specs.History.{Event, after_event, is_retired, replay}
use Rattle.gh_model.specs.Marks.{Seen}
use Rattle.gh_model.specs.References.{is_doomed}
use Rattle.gh_model.specs.Rows.{is_object, object_row}
use Rattle.gh_model.specs.declared.change.Change.{Change}
use Rattle.gh_model.specs.declared.change.Change.TheVariants as change
use Rattle.gh_model.specs.declared.entry.Entry.{Entry}
use Rattle.gh_model.specs.declared.entry.Entry.TheVariants.{Acted, Part, Retired, Reclaimed}
use Rattle.gh_model.specs.declared.rows.ObjectRow.{ObjectRow}
use Rattle.gh_model.specs.declared.state.State.{State}
use Rattle.gh_events.specs.Config.{Config, Current, Holder, is_acted, present, put}
use Rattle.gh_events.specs.Entries.{Allows, Covers, KindAllows, index_after, is_that_index, logged, makes_object, next_state}
use Rattle.gh_events.specs.References.{HasGrant, HasReferences, IsRow}
use Rattle.gh_events.specs.Replayed.{HasState, SparesLooks}
use Rattle.gh_events.specs.TurnEvents.{MayCommit, MaySetCap, committed, committed_by, put_word, set_cap, with_entry}
use Rattle.gh_events.proofs.EntryMoves.{Follows, IsBorn, IsGone, IsOld, LivesOn, RowOf, entry_sound, row_lives, row_of, with_log}
use Rattle.gh_events.proofs.EventObjects.{Goes, IsMade, counters_of, event_goes, life}
use Rattle.gh_events.proofs.Finding.{put_here, put_other}

-- lives and their retirements

some_same : (new old : Option ObjectRow) → option_map counters_of new ≡ option_map counters_of old
    → is_some new ≡ is_some old
some_same None None same = refl
some_same None (Some old) same = absurd (let never : ⊥ = cc in never)
some_same (Some new) None same = absurd (let never : ⊥ = cc in never)
some_same (Some new) (Some old) same = refl

pub lives_same : (new old : List ObjectRow) (serial : ℕ) → life new serial ≡ life old serial
    → lives new serial ≡ lives old serial
lives_same new old serial same =
    some_same (find (is_object serial) new) (find (is_object serial) old) same

-- what has a life is found
pub some_of : (found : Option ObjectRow) (counters : Option (List ℕ))
    → option_map counters_of found ≡ Some counters → is_some found ≡ true
some_of None counters is = absurd (let never : ⊥ = cc in never)
some_of (Some row) counters is = refl

-- and what has none doesn't
pub none_of : (found : Option ObjectRow) → option_map counters_of found ≡ None → is_some found ≡ false
none_of None is = refl
none_of (Some row) is = absurd (let never : ⊥ = cc in never)

-- an object with this life is retired where this is
retired_as : (counters : Option (List ℕ)) (row : ObjectRow) → Some counters ≡ Some row.retired
    → is_some row.retired ≡ is_some counters
retired_as counters row same = let equal : counters ≡ row.retired = cc in sym (ap is_some equal)

-- what the indices behind an entry need: objects that lived keep theirs, and that of a new object
-- was revived in this turn
pub record IndicesFit (conf : Config) (holder : Holder) (new : State) (changes : List Change)
    (index : ℕ → ℕ) : Type 0 where
  pub kept : (serial : ℕ) → lives (present conf).objects serial ≡ true
      → index serial ≡ conf.index serial
  pub born : (serial : ℕ) → IsMade (present conf) new changes serial
      → list_any (is_that_index (index serial)) holder.revived ≡ true
  pub within : (serial : ℕ) → IsMade (present conf) new changes serial
      → index serial < OBJECT_INDICES

module _ (conf : Config) (holder : Holder) (call : Current) (whole : Entry) (index : ℕ → ℕ) where
  abbrev Fits : Entry → Type 0
  Fits kind =
      IndicesFit conf holder (next_state conf call whole) (entry_changes (present conf) (logged whole call) kind) index

  abbrev Went : Entry → ℕ → Type 0
  Went kind serial =
      Goes (present conf) (next_state conf call whole) (logged whole call) kind serial

  abbrev Alive : ℕ → Type 0
  Alive serial = lives (next_state conf call whole).objects serial ≡ true

  -- the object is new, made by an act
  abbrev IsNew : Entry → ℕ → Type 0
  IsNew kind serial =
      (is_acted kind ≡ true) × IsMade (present conf) (next_state conf call whole) (entry_changes (present conf) (logged whole call) kind) serial

  lived_by : (kind : Entry) (serial : ℕ) → Fits kind → Went kind serial → Alive serial
      → IsOld conf index serial ⊎ IsNew kind serial
  lived_by kind serial fits (inl same) alive =
      let lived : lives (present conf).objects serial ≡ true = sym (lives_same (next_state conf call whole).objects (present conf).objects serial same) ∙ alive in
      inl (record { lived = lived; same = fits.kept serial lived })
  lived_by (Acted cpu number) serial fits (inr made) alive = inr (refl, made)
  lived_by (Part cpu number space slot) serial fits (inr never) alive = absurd never
  lived_by (Retired retired seen) serial fits (inr that) alive =
      let lived : lives (present conf).objects serial ≡ true = sym that.lives_on ∙ alive in
      inl (record { lived = lived; same = fits.kept serial lived })
  lived_by (Reclaimed reclaimed seen) serial fits (inr that) alive =
      let not_alive : lives (next_state conf call whole).objects serial ≡ false = none_of (find (is_object serial) (next_state conf call whole).objects) that.gone in
      absurd (let never : ⊥ = cc in never)

  came_by : (kind : Entry) (serial : ℕ) → Fits kind
      → IsOld conf index serial ⊎ IsNew kind serial
      → IsOld conf index serial ⊎ IsBorn conf holder index serial
  came_by kind serial fits (inl old) = inl old
  came_by kind serial fits (inr made) =
      inr (record { next = made.1.next; revived = fits.born serial made.1 })

  within_by : (kind : Entry) (serial : ℕ) → Fits kind → HasState conf
      → IsOld conf index serial ⊎ IsNew kind serial
      → index serial < OBJECT_INDICES
  within_by kind serial fits state (inl old) =
      subst (λ (n : ℕ). n < OBJECT_INDICES) (sym old.same) (state.within serial old.lived)
  within_by kind serial fits state (inr made) = fits.within serial made.1

  given_by : (kind : Entry) (serial : ℕ) → Fits kind → HasState conf
      → IsOld conf index serial ⊎ IsNew kind serial
      → serial < (next_state conf call whole).next_serial
  given_by kind serial fits state (inl old) =
      omega (arith, state.given serial old.lived, entry_rises (present conf) (logged whole call) whole)
  given_by kind serial fits state (inr made) = omega (arith, made.1.next, made.1.rises)

  stays_by : (kind : Entry) (serial : ℕ) → Fits kind → HasReferences conf → Went kind serial
      → lives (present conf).objects serial ≡ true
      → LivesOn conf (next_state conf call whole) index serial ⊎ IsGone conf (next_state conf call whole) serial
  stays_by kind serial fits sound (inl same) was =
      inl (record { lives_still = lives_same (next_state conf call whole).objects (present conf).objects serial same ∙ was; same = fits.kept serial was })
  stays_by (Acted cpu number) serial fits sound (inr made) was =
      inl (record { lives_still = some_of (find (is_object serial) (next_state conf call whole).objects) None made.born; same = fits.kept serial was })
  stays_by (Part cpu number space slot) serial fits sound (inr never) was = absurd never
  stays_by (Retired retired seen) serial fits sound (inr that) was =
      inl (record { lives_still = that.lives_on ∙ was; same = fits.kept serial was })
  stays_by (Reclaimed reclaimed seen) serial fits sound (inr that) was =
      let one : RowOf (present conf) serial = row_of (present conf) serial was in
      let found : find (is_object reclaimed.0) (present conf).objects ≡ Some one.row = subst (λ (n : ℕ). find (is_object n) (present conf).objects ≡ Some one.row) (one.serial_is ∙ that.that) one.is_row in
      let retired : is_some one.row.retired ≡ true = sym (ap is_retired found) ∙ that.was in
      let dead : conf.dead (conf.index one.row.serial.0) ≡ true = sound.placed.retired one.row one.is_row retired in
      inr (record { lives_not = none_of (find (is_object serial) (next_state conf call whole).objects) that.gone; dead = subst (λ (n : ℕ). conf.dead (conf.index n) ≡ true) one.serial_is dead })

  retired_by : (kind : Entry) (row : ObjectRow) → Fits kind → HasReferences conf
      → KindAllows conf holder call whole kind → IsRow (next_state conf call whole) row
      → is_some row.retired ≡ true → Went kind row.serial.0
      → conf.dead (index row.serial.0) ≡ true
  retired_by kind row fits sound allowed is retired (inl same) =
      let was : lives (present conf).objects row.serial.0 ≡ true = sym (lives_same (next_state conf call whole).objects (present conf).objects row.serial.0 same) ∙ row_lives (next_state conf call whole) row is in
      let one : RowOf (present conf) row.serial.0 = row_of (present conf) row.serial.0 was in
      let found : find (is_object row.serial.0) (present conf).objects ≡ Some one.row = subst (λ (n : ℕ). find (is_object n) (present conf).objects ≡ Some one.row) one.serial_is one.is_row in
      let lives_as : Some row.retired ≡ Some one.row.retired = sym (ap (option_map counters_of) is) ∙ same ∙ ap (option_map counters_of) found in
      let also : is_some one.row.retired ≡ true = retired_as row.retired one.row lives_as ∙ retired in
      let dead : conf.dead (conf.index one.row.serial.0) ≡ true = sound.placed.retired one.row one.is_row also in
      subst (λ (n : ℕ). conf.dead n ≡ true) (ap conf.index one.serial_is ∙ sym (fits.kept row.serial.0 was)) dead
  retired_by (Acted cpu number) row fits sound allowed is retired (inr made) =
      let none : Some None ≡ Some row.retired = sym made.born ∙ ap (option_map counters_of) is in
      let never_retired : is_some row.retired ≡ false = retired_as None row none in
      absurd (let never : ⊥ = cc in never)
  retired_by (Part cpu number space slot) row fits sound allowed is retired (inr never) =
      absurd never
  retired_by (Retired serial seen) row fits sound allowed is retired (inr that) =
      let was : lives (present conf).objects row.serial.0 ≡ true = sym that.lives_on ∙ row_lives (next_state conf call whole) row is in
      subst (λ (n : ℕ). conf.dead n ≡ true) (ap conf.index (sym that.that) ∙ sym (fits.kept row.serial.0 was)) allowed.dead
  retired_by (Reclaimed serial seen) row fits sound allowed is retired (inr that) =
      let never_there : None ≡ Some row.retired = sym that.gone ∙ ap (option_map counters_of) is in
      absurd (let never : ⊥ = cc in never)

  looks_by : (kind : Entry) (serial : ℕ) → Went kind serial
      → lives (present conf).objects serial ≡ true
      → (conf_spares : SparesLooks conf kind) (cpu : ℕ) (one : Current) (seen : Seen)
      → HasGrant (conf.cpu cpu) one → last_or None one.seen ≡ Some seen
      → (granted seen.word).0 ≡ serial → Alive serial
  looks_by kind serial (inl same) was spares cpu one seen looked last names =
      lives_same (next_state conf call whole).objects (present conf).objects serial same ∙ was
  looks_by (Acted n number) serial (inr made) was spares cpu one seen looked last names =
      some_of (find (is_object serial) (next_state conf call whole).objects) None made.born
  looks_by (Part n number space slot) serial (inr never) was spares cpu one seen looked last names =
      absurd never
  looks_by (Retired retired counters) serial (inr that) was spares cpu one seen looked last names =
      that.lives_on ∙ was
  looks_by (Reclaimed reclaimed counters) serial (inr that) was spares cpu one seen looked last names =
      absurd (spares cpu one seen looked last (names ∙ that.that))

  or_acted : (before act : Bool) → act ≡ true → (before || (act || false)) ≡ false → ⊥
  or_acted true act is never = absurd (let none : ⊥ = cc in none)
  or_acted false true is never = absurd (let none : ⊥ = cc in none)
  or_acted false false is never = absurd (let none : ⊥ = cc in none)

  before_by : (kind : Entry) (serial : ℕ)
      → list_any is_acted (holder.entries ++ kind ∷ []) ≡ false
      → IsOld conf index serial ⊎ IsNew kind serial → IsOld conf index serial
  before_by kind serial acted (inl old) = old
  before_by kind serial acted (inr made) =
      absurd (or_acted (list_any is_acted holder.entries) (is_acted kind) made.0 (sym (list_any-append is_acted holder.entries (kind ∷ [])) ∙ acted))

module _ (conf : Config) (at : ℕ) (entry : Entry) (holder : Holder) (call : Current)
    (index : ℕ → ℕ) (allows : Allows conf at entry holder call)
    (fits : IndicesFit conf holder (next_state conf call entry) (changes_of (present conf) (logged entry call)) index)
    (state : HasState conf) where
  went : (serial : ℕ)
      → Goes (present conf) (next_state conf call entry) (logged entry call) entry serial
  went serial = event_goes (present conf) (logged entry call) serial

  lived : (serial : ℕ) → lives (next_state conf call entry).objects serial ≡ true
      → IsOld conf index serial ⊎ IsNew conf holder call entry index entry serial
  lived serial alive = lived_by conf holder call entry index entry serial fits (went serial) alive

  follows : HasReferences conf → SparesLooks conf entry
      → Covers conf holder (next_state conf call entry) index
      → Follows conf holder (with_entry conf entry (next_state conf call entry) index holder) (next_state conf call entry) index
  follows sound spares covers = record {
    turn = allows.has_turn.turn;
    not_acted = allows.not_acted;
    came = λ serial alive. came_by conf holder call entry index entry serial fits (lived serial alive);
    stays = λ serial was. stays_by conf holder call entry index entry serial fits sound (went serial) was;
    was_within = state.within;
    within = λ serial alive. within_by conf holder call entry index entry serial fits state (lived serial alive);
    retired = λ row is retired. retired_by conf holder call entry index entry row fits sound allows.allowed is retired (went row.serial.0);
    before_act = λ acted serial alive. before_by conf holder call entry index entry serial acted (lived serial alive);
    looks = λ cpu one seen looked last was. looks_by conf holder call entry index entry (granted seen.word).0 (went (granted seen.word).0) was spares cpu one seen looked last refl;
    revived = refl;
    owed = λ i. refl;
    covers = covers;
  }

  -- the state behind one more event
  grown : replay conf.boot (conf.history ++ logged entry call ∷ []) ≡ next_state conf call entry
  grown = fold-append after_event conf.boot conf.history (logged entry call ∷ [])

  turn_is : option_map (with_entry conf entry (next_state conf call entry) index) conf.turn
      ≡ Some (with_entry conf entry (next_state conf call entry) index holder)
  turn_is =
      ap (option_map (with_entry conf entry (next_state conf call entry) index)) allows.has_turn.turn

  -- the entry keeps sound references
  pub entry_keeps : (cap : ℕ → ℕ → CapWord) → HasReferences conf → SparesLooks conf entry
      → Covers conf holder (next_state conf call entry) index
      → HasReferences (with_log conf (conf.history ++ logged entry call ∷ []) index
      (option_map (with_entry conf entry (next_state conf call entry) index) conf.turn) cap)
  entry_keeps cap sound spares covers =
      let behind : Follows conf holder (with_entry conf entry (next_state conf call entry) index holder) (replay conf.boot (conf.history ++ logged entry call ∷ [])) index =
      subst (λ (s : State). Follows conf holder (with_entry conf entry (next_state conf call entry) index holder) s index) (sym grown) (follows sound spares covers) in
      subst (λ (turn : Option Holder). HasReferences (with_log conf (conf.history ++ logged entry call ∷ []) index turn cap)) (sym turn_is)
      (entry_sound conf (conf.history ++ logged entry call ∷ []) index holder (with_entry conf entry (next_state conf call entry) index holder) cap behind sound)

  -- and where objects live and which serials they have
  pub entry_has_state : (turn : Option Holder) (cap : ℕ → ℕ → CapWord)
      → HasState (with_log conf (conf.history ++ logged entry call ∷ []) index turn cap)
  entry_has_state turn cap = record {
    given = λ serial. subst (λ (s : State). lives s.objects serial ≡ true → serial < s.next_serial) (sym grown) (λ alive. given_by conf holder call entry index entry serial fits state (lived serial alive));
    within = λ serial. subst (λ (s : State). lives s.objects serial ≡ true → index serial < OBJECT_INDICES) (sym grown) (λ alive. within_by conf holder call entry index entry serial fits state (lived serial alive));
  }

-- Commit

pub commit_fits : (conf : Config) (at : ℕ) (entry : Entry) (may : MayCommit conf at entry)
    → IndicesFit conf may.holder (next_state conf may.call entry) (changes_of (present conf) (logged entry may.call)) conf.index
commit_fits conf at entry may = record {
  kept = λ serial was. refl;
  born = λ serial made. absurd (no_slot made.one_slot);
  within = λ serial made. absurd (no_slot made.one_slot);
}
  where
    no_slot : slots_set (changes_of (present conf) (logged entry may.call)) ≡ 1 → ⊥
    no_slot one = omega (arith, one, may.no_slot)

-- an entry that sets no slot keeps sound references
pub commit_keeps : (conf : Config) (at : ℕ) (entry : Entry) → HasReferences conf → HasState conf
    → SparesLooks conf entry → MayCommit conf at entry → HasReferences (committed conf at entry)
commit_keeps conf at entry sound state spares may =
    subst (λ (current : Option Current). HasReferences (committed_by conf entry (λ new. conf.index) current)) (sym may.allows.in_act.is_current)
    (entry_keeps conf at entry may.holder may.call conf.index may.allows (commit_fits conf at entry may) state conf.cap sound spares may.covers)

pub commit_keeps_state : (conf : Config) (at : ℕ) (entry : Entry) → HasState conf
    → MayCommit conf at entry → HasState (committed conf at entry)
commit_keeps_state conf at entry state may =
    subst (λ (current : Option Current). HasState (committed_by conf entry (λ new. conf.index) current)) (sym may.allows.in_act.is_current)
    (entry_has_state conf at entry may.holder may.call conf.index may.allows (commit_fits conf at entry may) state
    (option_map (with_entry conf entry (next_state conf may.call entry) conf.index) conf.turn) conf.cap)

-- SetCap

-- an entry that sets a slot reclaims nothing
none_set : (b : Bool) (one : Change) → slots_set (one ∷ []) ≡ 0
    → slots_set (if b then one ∷ [] else []) ≡ 0
none_set true one none = none
none_set false one none = refl

pub setting_spares : (conf : Config) (event : Event) (kind : Entry)
    → slots_set (entry_changes (present conf) event kind) ≡ 1 → SparesLooks conf kind
setting_spares conf event (Acted cpu number) one = tt
setting_spares conf event (Part cpu number space slot) one = tt
setting_spares conf event (Retired serial seen) one = tt
setting_spares conf event (Reclaimed serial seen) one =
    let none : slots_set (entry_changes (present conf) event (Reclaimed serial seen)) ≡ 0 =
    none_set (is_doomed (present conf) serial.0 && is_retired (object_row (present conf) serial.0)) (change.Reclaim serial) refl in
    λ cpu call seen looked last names. omega (arith, one, none)

abbrev index_by : (ℕ → ℕ) → ℕ → ℕ → Bool → ℕ → ℕ
index_by index next at makes = if makes then put index next at else index

pub kept_by : (index : ℕ → ℕ) (next at serial : ℕ) (makes : Bool) → serial < next
    → index_by index next at makes serial ≡ index serial
kept_by index next at serial true below =
    let other : (serial == next) ≡ false = grind (arith, nat_tests) in put_other index next at serial other
kept_by index next at serial false below = refl

born_by : (index : ℕ → ℕ) (next at serial : ℕ) (makes : Bool) → makes ≡ true → serial ≡ next
    → index_by index next at makes serial ≡ at
born_by index next at serial true makes same =
    subst (λ (n : ℕ). put index next at n ≡ at) (sym same) (put_here index next at)
born_by index next at serial false makes same = absurd (let never : ⊥ = cc in never)

pub index_bound : (bits : ℕ) → object_of bits < OBJECT_INDICES
index_bound bits = omega arith

pub set_fits : (conf : Config) (at : ℕ) (entry : Entry) (space slot : ℕ) (word : CapWord)
    → HasState conf → (may : MaySetCap conf at entry space slot word)
    → IndicesFit conf may.holder (next_state conf may.call entry) (changes_of (present conf) (logged entry may.call))
    (index_after conf (next_state conf may.call entry) word)
set_fits conf at entry space slot word state may = record {
  kept = λ serial was. kept_by conf.index (present conf).next_serial (object_of word.0) serial (makes_object (present conf) (next_state conf may.call entry)) (state.given serial was);
  born = λ serial made. subst (λ (n : ℕ). list_any (is_that_index n) may.holder.revived ≡ true) (sym (at_word serial made)) (may.revived (makes serial made));
  within = λ serial made. subst (λ (n : ℕ). n < OBJECT_INDICES) (sym (at_word serial made)) (index_bound word.0);
}
  where
    makes : (serial : ℕ) → IsMade (present conf) (next_state conf may.call entry) (changes_of (present conf) (logged entry may.call)) serial
        → makes_object (present conf) (next_state conf may.call entry) ≡ true
    makes serial made =
        subst (λ (n : ℕ). lives (next_state conf may.call entry).objects n ≡ true) made.next
        (some_of (find (is_object serial) (next_state conf may.call entry).objects) None made.born)

    at_word : (serial : ℕ) → IsMade (present conf) (next_state conf may.call entry) (changes_of (present conf) (logged entry may.call)) serial
        → index_after conf (next_state conf may.call entry) word serial ≡ object_of word.0
    at_word serial made =
        born_by conf.index (present conf).next_serial (object_of word.0) serial (makes_object (present conf) (next_state conf may.call entry)) (makes serial made) made.next

-- an entry that sets a slot keeps sound references
pub set_cap_keeps : (conf : Config) (at : ℕ) (entry : Entry) (space slot : ℕ) (word : CapWord)
    → HasReferences conf → HasState conf → MaySetCap conf at entry space slot word
    → HasReferences (set_cap conf at entry space slot word)
set_cap_keeps conf at entry space slot word sound state may =
    subst (λ (current : Option Current). HasReferences (record (committed_by conf entry (λ new. index_after conf new word) current) { cap = put_word conf.cap space slot word })) (sym may.allows.in_act.is_current)
    (entry_keeps conf at entry may.holder may.call (index_after conf (next_state conf may.call entry) word) may.allows (set_fits conf at entry space slot word state may) state (put_word conf.cap space slot word) sound
    (setting_spares conf (logged entry may.call) entry may.one_slot) may.covers)

pub set_cap_keeps_state : (conf : Config) (at : ℕ) (entry : Entry) (space slot : ℕ)
    (word : CapWord) → HasState conf → MaySetCap conf at entry space slot word
    → HasState (set_cap conf at entry space slot word)
set_cap_keeps_state conf at entry space slot word state may =
    subst (λ (current : Option Current). HasState (record (committed_by conf entry (λ new. index_after conf new word) current) { cap = put_word conf.cap space slot word })) (sym may.allows.in_act.is_current)
    (entry_has_state conf at entry may.holder may.call (index_after conf (next_state conf may.call entry) word) may.allows (set_fits conf at entry space slot word state may) state
    (option_map (with_entry conf entry (next_state conf may.call entry) (index_after conf (next_state conf may.call entry) word)) conf.turn) (put_word conf.cap space slot word))
