-- The capability words stay those of the present state: at the boot, and behind each event that sets
-- no slot.
use Rattle.std.proofs.Common.{◌≡◌, ◌≤◌, ◌∙◌, inl, inr, ℕ, Bool, true, false, [], ◌∷◌, ◌++◌, refl, subst, sym, ap, arith, Option, Some, None, find, if◌then◌else◌}
use Rattle.std.specs.Prelude.{◌==◌, count_by, option_map}
use Rattle.std.specs.List.{list_any}
use Rattle.std.proofs.lemmas.Bool.Decides.{nat_tests}
use Rattle.std.proofs.lemmas.List.Sums.{fold-append}
use Rattle.gh_invariant.specs.Effects.{sets_slot}
use Rattle.gh_invariant.specs.Events.{changes_of}
use Rattle.gh_invariant.specs.Lives.{lives}
use Rattle.gh_invariant.specs.Valid.{IsValid}
use Rattle.gh_invariant.proofs.CapabilityMade.{word_found}
use Rattle.gh_invariant.proofs.EventsKept.{event_valid}
use Rattle.gh_invariant.proofs.FactLemmas.{event_leaves}
use Rattle.gh_invariant.proofs.Referred.{found_counted}
use Rattle.gh_model.specs.History.{Event, after_event, is_retired, replay}
use Rattle.gh_model.specs.References.{is_slot_of, references}
use Rattle.gh_model.specs.Rows.{fills, is_object, object_row}
use Rattle.gh_model.specs.Word.{word_at}
use Rattle.gh_model.specs.declared.entry.Entry.{Entry}
use Rattle.gh_model.specs.declared.entry.Entry.TheVariants.{Acted, Part, Retired, Reclaimed}
use Rattle.gh_model.specs.declared.rows.CapabilityRow.{CapabilityRow}
use Rattle.gh_model.specs.declared.rows.ObjectRow.{ObjectRow}
use Rattle.gh_model.specs.declared.state.State.{State}
use Rattle.gh_model.specs.declared.word.Word.{Word}
use Rattle.gh_events.specs.Config.{Config, Cpu, Current, Holder, object_at, present, put}
use Rattle.gh_events.specs.Entries.{logged, next_state}
use Rattle.gh_events.specs.HolderEvents.{kill_failed, with_turn, without_scans}
use Rattle.gh_events.specs.TurnEvents.{MayCommit, committed, committed_by, with_entry}
use Rattle.gh_events.specs.ValidState.{HasValid}
use Rattle.gh_events.specs.Words.{ShowsWords}
use Rattle.gh_events.proofs.CpusRun.{entry_runs}
use Rattle.gh_events.proofs.EntryKeeps.{lives_same, some_of}
use Rattle.gh_events.proofs.EventObjects.{Goes, event_goes}
use Rattle.gh_events.proofs.SlotsLeft.{entry_left, none_set}
use Rattle.gh_events.proofs.ValidEntries.{event_fits}
use Rattle.gh_events.proofs.WordsFollow.{Fills, WordsFollow, filled_in, filled_lives, words_follow}

-- a filled slot refers to its capability space, so that space isn't retired

module _ (s : State) (valid : IsValid s) (cspace slot : ℕ) (row : CapabilityRow)
    (is : Fills s cspace slot row) where
  same_number : row.cspace.0 ≡ cspace → (row.cspace.0 == cspace) ≡ true
  same_number same = grind (arith, nat_tests)

  unretired_by : (retired : Bool) → is_retired (object_row s cspace) ≡ retired → retired ≡ false
  unretired_by false is_it = refl
  unretired_by true is_it =
      let one : 1 ≤ count_by (is_slot_of cspace) s.caps =
      found_counted (fills cspace slot) (is_slot_of cspace) s.caps row (word_found s cspace slot row is) (same_number (filled_in s valid cspace slot row is)) in
      let none : references s cspace ≡ 0 = valid.retired cspace is_it in
      absurd (omega arith)

  -- and lives behind each event
  stays_by : (new : State) (event : Event) (kind : Entry) → Goes s new event kind cspace
      → lives s.objects cspace ≡ true → lives new.objects cspace ≡ true
  stays_by new event kind (inl same) was = lives_same new.objects s.objects cspace same ∙ was
  stays_by new event (Acted cpu number) (inr made) was =
      some_of (find (is_object cspace) new.objects) None made.born
  stays_by new event (Part cpu number space n) (inr never) was = absurd never
  stays_by new event (Retired retired seen) (inr that) was = that.lives_on ∙ was
  stays_by new event (Reclaimed reclaimed seen) (inr that) was =
      let retired : is_retired (object_row s cspace) ≡ true = subst (λ (n : ℕ). is_retired (object_row s n) ≡ true) (sym that.that) that.was in
      let never : true ≡ false = unretired_by true retired in
      absurd (let no : ⊥ = cc in no)

  pub filled_stays : (event : Event) → lives (after_event s event).objects cspace ≡ true
  filled_stays event =
      stays_by (after_event s event) event event.entry (event_goes s event cspace) (filled_lives s valid cspace slot row is)

-- a slot that an event doesn't set, of what lives behind it, keeps its word
pub slot_kept : (s : State) (event : Event) (cspace slot : ℕ)
    → list_any (sets_slot cspace slot) (changes_of s event) ≡ false
    → lives (after_event s event).objects cspace ≡ true
    → word_at (after_event s event) cspace slot ≡ word_at s cspace slot
slot_kept s event cspace slot unset alive =
    event_leaves s event cspace slot (entry_left s event event.entry cspace slot unset alive)

-- Commit

module _ (conf : Config) (at : ℕ) (entry : Entry) (fit : HasValid conf) (words : ShowsWords conf)
    (may : MayCommit conf at entry) where
  now_valid : IsValid (next_state conf may.call entry)
  now_valid =
      event_valid (present conf) (logged entry may.call) fit.valid (event_fits conf at entry may.holder may.call conf.index may.allows fit)

  keeps : (cspace slot : ℕ) → lives (next_state conf may.call entry).objects cspace ≡ true
      → word_at (next_state conf may.call entry) cspace slot ≡ word_at (present conf) cspace slot
  keeps cspace slot alive =
      slot_kept (present conf) (logged entry may.call) cspace slot (none_set cspace slot (changes_of (present conf) (logged entry may.call)) may.no_slot) alive

  commit_follows : WordsFollow conf (next_state conf may.call entry) conf.index conf.cap
  commit_follows = record {
    was_valid = fit.valid;
    now_valid = now_valid;
    kept = λ serial made. refl;
    words = λ index slot. inl (record { word = refl; same = λ cspace here alive. keeps cspace slot alive });
    stays = λ cspace slot row is. filled_stays (present conf) fit.valid cspace slot row is (logged entry may.call);
    runs = λ cpu row is running. entry_runs cpu row running (present conf) (logged entry may.call) entry is;
    within = λ cspace slot row is. words.within cspace slot row (sym (ap (λ (word : Word). word.row) (keeps cspace slot (filled_lives (next_state conf may.call entry) now_valid cspace slot row is))) ∙ is);
  }

  grown : replay conf.boot (conf.history ++ logged entry may.call ∷ [])
      ≡ next_state conf may.call entry
  grown = fold-append after_event conf.boot conf.history (logged entry may.call ∷ [])

  -- an entry that sets no slot leaves the words those of the present state
  pub commit_shows : ShowsWords (committed conf at entry)
  commit_shows =
      subst (λ (current : Option Current). ShowsWords (committed_by conf entry (λ new. conf.index) current)) (sym may.allows.in_act.is_current)
      (words_follow conf (conf.history ++ logged entry may.call ∷ []) conf.index conf.cap
      (subst (λ (s : State). WordsFollow conf s conf.index conf.cap) (sym grown) commit_follows) words
      (option_map (with_entry conf entry (next_state conf may.call entry) conf.index) conf.turn))

-- events that leave the history, the indices and the words

pub same_words : (conf : Config) (count : ℕ → ℕ) (dead : ℕ → Bool) (counter : ℕ → ℕ)
    (turn : Option Holder) (cpu : ℕ → Cpu) → ShowsWords conf
    → ShowsWords (record conf { count = count; dead = dead; counter = counter; turn = turn; cpu = cpu })
same_words conf count dead counter turn cpu words =
    record { filled = words.filled; attached = words.attached; empty = words.empty; within = words.within }

failed_words : (conf : Config) (object : ℕ) (found : Option ObjectRow) → ShowsWords conf
    → ShowsWords (kill_failed conf object found)
failed_words conf object None words = words
failed_words conf object (Some row) words =
    record { filled = words.filled; attached = words.attached; empty = words.empty; within = words.within }

pub killed_words : (conf : Config) (object : ℕ) (none : Bool) → ShowsWords conf
    → ShowsWords (if none then record (with_turn without_scans conf) { dead = put conf.dead object true }
    else kill_failed conf object (object_at (present conf) conf.index object))
killed_words conf object true words =
    record { filled = words.filled; attached = words.attached; empty = words.empty; within = words.within }
killed_words conf object false words =
    failed_words conf object (object_at (present conf) conf.index object) words
