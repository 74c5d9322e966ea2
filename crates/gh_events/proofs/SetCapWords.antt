-- An entry that sets a slot leaves the capability words those of the present state.
use Rattle.std.proofs.Common.{◌≡◌, ◌<◌, ◌∙◌, ◌⊎◌, inl, inr, ℕ, Bool, true, false, [], ◌∷◌, ◌++◌, refl, subst, sym, ap, arith, Option, Some, None, find, if◌then◌else◌}
use Rattle.std.specs.Prelude.{◌&&◌, ◌==◌, option_map}
use Rattle.std.specs.List.{list_any}
use Rattle.std.proofs.lemmas.Bool.{and_parts, eqb-true}
use Rattle.std.proofs.lemmas.Bool.Decides.{nat_tests}
use Rattle.std.proofs.lemmas.List.Sums.{fold-append}
use Rattle.gh_base.specs.CapWord.{object_of, settings}
use Rattle.gh_base.specs.declared.cap_word.CapWord.{CapWord}
use Rattle.gh_base.specs.declared.limits.TheConstants.{OBJECT_INDICES}
use Rattle.gh_invariant.specs.Effects.{sets_slot, slots_set}
use Rattle.gh_invariant.specs.Events.{changes_of, entry_changes}
use Rattle.gh_invariant.specs.Lives.{lives}
use Rattle.gh_invariant.specs.NamesLiving.{NamesLiving}
use Rattle.gh_invariant.specs.Valid.{IsValid}
use Rattle.gh_invariant.proofs.CapabilityMade.{word_found}
use Rattle.gh_invariant.proofs.EventsKept.{event_valid}
use Rattle.gh_invariant.proofs.FactLemmas.{names_living}
use Rattle.gh_model.specs.History.{Event, after_event, is_retired, replay}
use Rattle.gh_model.specs.References.{is_doomed}
use Rattle.gh_model.specs.Rows.{fills, is_object, object_row}
use Rattle.gh_model.specs.Word.{is_slot, word_at}
use Rattle.gh_model.specs.declared.change.Change.{Change}
use Rattle.gh_model.specs.declared.change.Change.TheVariants as change
use Rattle.gh_model.specs.declared.entry.Entry.{Entry}
use Rattle.gh_model.specs.declared.entry.Entry.TheVariants.{Acted, Part, Retired, Reclaimed}
use Rattle.gh_model.specs.declared.rows.CapabilityRow.{CapabilityRow}
use Rattle.gh_model.specs.declared.state.State.{State}
use Rattle.gh_model.specs.declared.word.Word.{Word}
use Rattle.gh_events.specs.Config.{Config, Current, Holder, present, put}
use Rattle.gh_events.specs.Entries.{index_after, logged, makes_object, next_state, row_shown, shown}
use Rattle.gh_events.specs.References.{HasReferences}
use Rattle.gh_events.specs.Replayed.{HasState}
use Rattle.gh_events.specs.Start.{AreIndices}
use Rattle.gh_events.specs.TurnEvents.{MaySetCap, committed_by, next_index, put_word, set_cap, with_entry}
use Rattle.gh_events.specs.ValidState.{HasValid}
use Rattle.gh_events.specs.Words.{ShowsWords}
use Rattle.gh_events.proofs.CpusRun.{entry_runs}
use Rattle.gh_events.proofs.EntryKeeps.{entry_has_state, entry_keeps, kept_by, lives_same, set_fits, setting_spares, some_of}
use Rattle.gh_events.proofs.EntryMoves.{indices_of, with_log}
use Rattle.gh_events.proofs.EventObjects.{Goes, event_goes}
use Rattle.gh_events.proofs.Finding.{put_here, put_other}
use Rattle.gh_events.proofs.LookKeeps.{OfSlot, of_slot, set_within}
use Rattle.gh_events.proofs.SlotHomes.{set_cap_home}
use Rattle.gh_events.proofs.SlotsCame.{HasCap, entry_came}
use Rattle.gh_events.proofs.SlotsLeft.{other_set}
use Rattle.gh_events.proofs.ValidEntries.{event_fits}
use Rattle.gh_events.proofs.WordsFollow.{Fills, IsLeft, IsPut, WordsFollow, filled_lives, lives_any, object_made, words_follow}
use Rattle.gh_events.proofs.WordsKeep.{filled_stays, slot_kept}

-- the word that is put, and the others

word_here : (words : ℕ → ℕ → CapWord) (space slot : ℕ) (word : CapWord)
    → put_word words space slot word space slot ≡ word
word_here words space slot word =
    ap (λ (row : ℕ → CapWord). row slot) (put_here words space (put (words space) slot word)) ∙ put_here (words space) slot word

word_other : (words : ℕ → ℕ → CapWord) (space slot : ℕ) (word : CapWord) (at n : ℕ) (here : Bool)
    → (at == space) ≡ here → ((space == at) && (slot == n)) ≡ false
    → put_word words space slot word at n ≡ words at n
word_other words space slot word at n false apart other =
    ap (λ (row : ℕ → CapWord). row n) (put_other words space (put (words space) slot word) at apart)
word_other words space slot word at n true same other =
    let that : at ≡ space = eqb-true at space same in
    let differs : (n == slot) ≡ false = grind (arith, nat_tests) in
    subst (λ (m : ℕ). put_word words space slot word m n ≡ words m n) (sym that)
    (ap (λ (row : ℕ → CapWord). row n) (put_here words space (put (words space) slot word)) ∙ put_other (words space) slot word n differs)

-- an entry that sets a slot reclaims nothing

no_slot : (one : Change) (allowed : Bool) → slots_set (one ∷ []) ≡ 0
    → slots_set (if allowed then one ∷ [] else []) ≡ 1 → ⊥
no_slot one true none set = omega (arith, none, set)
no_slot one false none set = let never : ⊥ = cc in never

alive_on : (s new : State) (event : Event) (kind : Entry) (cspace : ℕ) → Goes s new event kind cspace
    → slots_set (entry_changes s event kind) ≡ 1 → lives s.objects cspace ≡ true
    → lives new.objects cspace ≡ true
alive_on s new event kind cspace (inl same) one was = lives_same new.objects s.objects cspace same ∙ was
alive_on s new event (Acted cpu number) cspace (inr made) one was =
    some_of (find (is_object cspace) new.objects) None made.born
alive_on s new event (Part cpu number space n) cspace (inr never) one was = absurd never
alive_on s new event (Retired retired seen) cspace (inr that) one was = that.lives_on ∙ was
alive_on s new event (Reclaimed reclaimed seen) cspace (inr that) one was =
    absurd (no_slot (change.Reclaim reclaimed) (is_doomed s reclaimed.0 && is_retired (object_row s reclaimed.0)) refl one)

-- a slot that has a capability of an object, as its word tells
word_row : (s : State) (cspace slot : ℕ) (row : CapabilityRow) → is_slot slot ≡ true
    → find (fills cspace slot) s.caps ≡ Some row → Fills s cspace slot row
word_row s cspace slot row names is = rw names is

module _ (conf : Config) (at : ℕ) (entry : Entry) (space slot : ℕ) (word : CapWord)
    (sound : HasReferences conf) (state : HasState conf) (fit : HasValid conf)
    (words : ShowsWords conf) (may : MaySetCap conf at entry space slot word)
    (room : (next_state conf may.call entry).entries < settings) where
  abbrev Now : State
  Now = next_state conf may.call entry

  abbrev Later : ℕ → ℕ
  Later = next_index conf may.call entry word

  abbrev Made : Event
  Made = logged entry may.call

  now_valid : IsValid Now
  now_valid =
      event_valid (present conf) Made fit.valid (event_fits conf at entry may.holder may.call Later may.allows fit)

  kept : (serial : ℕ) → serial < (present conf).next_serial → Later serial ≡ conf.index serial
  kept serial made =
      kept_by conf.index (present conf).next_serial (object_of word.0) serial (makes_object (present conf) Now) made

  grown : replay conf.boot (conf.history ++ Made ∷ []) ≡ Now
  grown = fold-append after_event conf.boot conf.history (Made ∷ [])

  abbrev Turn : Option Holder
  Turn = option_map (with_entry conf entry Now Later) conf.turn

  behind : HasState (with_log conf (conf.history ++ Made ∷ []) Later Turn (put_word conf.cap space slot word))
  behind =
      entry_has_state conf at entry may.holder may.call Later may.allows (set_fits conf at entry space slot word state may) state Turn (put_word conf.cap space slot word)

  within_now : (serial : ℕ) → lives Now.objects serial ≡ true → Later serial < OBJECT_INDICES
  within_now serial alive =
      behind.within serial (subst (λ (s : State). lives s.objects serial ≡ true) (sym grown) alive)

  now_indices : AreIndices Now Later
  now_indices =
      subst (λ (s : State). AreIndices s Later) grown
      (indices_of (with_log conf (conf.history ++ Made ∷ []) Later Turn (put_word conf.cap space slot word))
      (entry_keeps conf at entry may.holder may.call Later may.allows (set_fits conf at entry space slot word state may) state (put_word conf.cap space slot word) sound (setting_spares conf Made entry may.one_slot) may.covers)
      behind.within)

  home : lives (present conf).objects may.cspace ≡ true
  home = set_cap_home conf at entry space slot word fit may

  home_on : lives Now.objects may.cspace ≡ true
  home_on =
      alive_on (present conf) Now Made entry may.cspace (event_goes (present conf) Made may.cspace) may.one_slot home

  home_there : Later may.cspace ≡ space
  home_there = kept may.cspace (state.given may.cspace home) ∙ may.at_space

  small : (word_at Now may.cspace slot).row ≡ None
      → (put_word conf.cap space slot word space slot).0 < settings
  small none =
      let bits : (put_word conf.cap space slot word space slot).0 ≡ word.0 = ap (λ (one : CapWord). one.0) (word_here conf.cap space slot word) in
      let number : shown Later (word_at Now may.cspace slot) ≡ (word_at Now may.cspace slot).set_at = ap (row_shown Later (word_at Now may.cspace slot).set_at) none in
      omega (arith, bits, may.shows, number, set_within Now now_valid may.cspace slot, room)

  -- the place of the slot
  is_put : IsPut Now Later (put_word conf.cap space slot word) space slot
  is_put = record {
    cspace = may.cspace;
    here = home_there;
    only = λ other alive there. now_indices.unique other may.cspace alive home_on (there ∙ sym home_there);
    shows = ap (λ (one : CapWord). one.0) (word_here conf.cap space slot word) ∙ may.shows;
    small = small;
  }

  apart_by : (cspace i n : ℕ) (same : Bool) → (may.cspace == cspace) ≡ same → Later cspace ≡ i
      → ((space == i) && (slot == n)) ≡ false → (same && (slot == n)) ≡ false
  apart_by cspace i n false is there other = refl
  apart_by cspace i n true is there other =
      let that : space ≡ i = sym home_there ∙ ap Later (eqb-true may.cspace cspace is) ∙ there in
      grind (arith, nat_tests)

  keeps : (cspace n : ℕ) → ((may.cspace == cspace) && (slot == n)) ≡ false
      → lives Now.objects cspace ≡ true → word_at Now cspace n ≡ word_at (present conf) cspace n
  keeps cspace n other alive =
      slot_kept (present conf) Made cspace n (other_set cspace n may.cspace slot (changes_of (present conf) Made) other (omega (arith, may.one_slot)) may.sets) alive

  words_by : (i n : ℕ) (here : Bool) → ((space == i) && (slot == n)) ≡ here
      → IsLeft conf Now Later (put_word conf.cap space slot word) i n
      ⊎ IsPut Now Later (put_word conf.cap space slot word) i n
  words_by i n true is =
      let both = and_parts (space == i) (slot == n) is in
      inr (subst (λ (m : ℕ). IsPut Now Later (put_word conf.cap space slot word) i m) (eqb-true slot n both.1)
      (subst (λ (m : ℕ). IsPut Now Later (put_word conf.cap space slot word) m slot) (eqb-true space i both.0) is_put))
  words_by i n false other = inl (record {
    word = word_other conf.cap space slot word i n (i == space) refl other;
    same = λ cspace there alive. keeps cspace n (apart_by cspace i n (may.cspace == cspace) refl there other) alive;
  })

  -- a revoked capability's object has its index from before
  old_within : (cspace n : ℕ) (serial : ℕ) (old : CapabilityRow) → Fills (present conf) cspace n old
      → old.serial.0 ≡ serial → Later serial < OBJECT_INDICES
  old_within cspace n serial old is same =
      let made : old.serial.0 < (present conf).next_serial = object_made (present conf) fit.valid cspace n old is in
      subst (λ (m : ℕ). Later m < OBJECT_INDICES) same (subst (λ (m : ℕ). m < OBJECT_INDICES) (sym (kept old.serial.0 made)) (words.within cspace n old is))

  revoked_within : (cspace n : ℕ) (row : CapabilityRow) (set : Bool)
      → list_any (sets_slot cspace n) (changes_of (present conf) Made) ≡ set
      → Fills Now cspace n row → row.valid ≡ false → Later row.serial.0 < OBJECT_INDICES
  revoked_within cspace n row true set is revoked =
      let came : HasCap (present conf) cspace n row.serial.0 = entry_came (present conf) Made cspace n row fit.valid (event_fits conf at entry may.holder may.call Later may.allows fit) set revoked is in
      let slots : OfSlot Now cspace n row = of_slot Now cspace n row (is_slot n) refl is in
      old_within cspace n row.serial.0 came.old (word_row (present conf) cspace n came.old slots.names came.is) came.same
  revoked_within cspace n row false unset is revoked =
      let same : word_at Now cspace n ≡ word_at (present conf) cspace n = slot_kept (present conf) Made cspace n unset (filled_lives Now now_valid cspace n row is) in
      old_within cspace n row.serial.0 row (sym (ap (λ (one : Word). one.row) same) ∙ is) refl

  within_by : (cspace n : ℕ) (row : CapabilityRow) (good : Bool) → row.valid ≡ good
      → Fills Now cspace n row → Later row.serial.0 < OBJECT_INDICES
  within_by cspace n row true good is =
      let living : NamesLiving Now row = names_living Now now_valid cspace n row (word_found Now cspace n row is) good in
      within_now row.serial.0 (lives_any Now.objects row.serial.0 row.kind living.object)
  within_by cspace n row false revoked is =
      revoked_within cspace n row (list_any (sets_slot cspace n) (changes_of (present conf) Made)) refl is revoked

  set_follows : WordsFollow conf Now Later (put_word conf.cap space slot word)
  set_follows = record {
    was_valid = fit.valid;
    now_valid = now_valid;
    kept = kept;
    words = λ i n. words_by i n ((space == i) && (slot == n)) refl;
    stays = λ cspace n row is. filled_stays (present conf) fit.valid cspace n row is Made;
    runs = λ cpu row is running. entry_runs cpu row running (present conf) Made entry is;
    within = λ cspace n row is. within_by cspace n row row.valid refl is;
  }

  -- an entry that sets a slot leaves the words those of the present state
  pub set_cap_shows : ShowsWords (set_cap conf at entry space slot word)
  set_cap_shows =
      subst (λ (current : Option Current). ShowsWords (record (committed_by conf entry (λ new. index_after conf new word) current) { cap = put_word conf.cap space slot word })) (sym may.allows.in_act.is_current)
      (words_follow conf (conf.history ++ Made ∷ []) Later (put_word conf.cap space slot word)
      (subst (λ (s : State). WordsFollow conf s Later (put_word conf.cap space slot word)) (sym grown) set_follows) words Turn)
