-- An act's entry, and a part of it, keep grace: they leave every object retired or not, and an object
-- that an act makes is neither retired nor killed.
use Rattle.std.proofs.Common.{◌≡◌, ◌∙◌, ℕ, Bool, true, false, List, [], ◌∷◌, ◌++◌, ◌⊎◌, inl, inr, refl, subst, sym, ap, arith, Option, Some, None, find, is_some, if◌then◌else◌}
use Rattle.std.specs.Prelude.{◌&&◌, option_map}
use Rattle.std.specs.Option.{option_map_or}
use Rattle.std.proofs.lemmas.Bool.{eqb-true}
use Rattle.gh_base.specs.declared.cap_word.CapWord.{CapWord}
use Rattle.gh_base.specs.declared.ids.CpuNo.{CpuNo}
use Rattle.gh_base.specs.declared.ids.Serial.{Serial}
use Rattle.gh_invariant.specs.Effects.{slots_set}
use Rattle.gh_invariant.specs.Events.{changes_of}
use Rattle.gh_model.specs.Graced.{retirement}
use Rattle.gh_model.specs.History.{Event, after_event, counters, is_retired, is_unretired, replay}
use Rattle.gh_model.specs.References.{is_doomed}
use Rattle.gh_model.specs.Rows.{is_object, object_row}
use Rattle.gh_model.specs.declared.change.Change.{Change}
use Rattle.gh_model.specs.declared.change.Change.TheVariants as change
use Rattle.gh_model.specs.declared.entry.Entry.{Entry}
use Rattle.gh_model.specs.declared.entry.Entry.TheVariants.{Acted, Part, Retired, Reclaimed}
use Rattle.gh_model.specs.declared.rows.ObjectRow.{ObjectRow}
use Rattle.gh_model.specs.declared.state.State.{State}
use Rattle.gh_events.specs.Config.{Config, Current, Holder, has_acted, is_killed, present}
use Rattle.gh_events.specs.Entries.{index_after, logged, next_state}
use Rattle.gh_events.specs.Grace.{HasGrace, objects_of, scan_of}
use Rattle.gh_events.specs.Replayed.{HasState}
use Rattle.gh_events.specs.TurnEvents.{MayCommit, MaySetCap, committed, committed_by, put_word, set_cap, with_entry}
use Rattle.gh_events.proofs.EntryKeeps.{IndicesFit, commit_fits, set_fits}
use Rattle.gh_events.proofs.EventObjects.{Goes, IsMade, counters_of, event_goes, life}
use Rattle.gh_events.proofs.Finding.{found_passes}
use Rattle.gh_events.proofs.GraceCalls.{same_some}
use Rattle.gh_events.proofs.GraceEntries.{EntryFits, entry_graced, entry_stays, with_event}
use Rattle.gh_events.proofs.GraceReclaim.{reclaim_graced, replay_more, retire_graced}
use Rattle.gh_events.proofs.GraceTurn.{KeepsRevived, unretired_by}

-- what is retired, by the lives of objects
life_kept : (s : State) (serial : ℕ) (object : Option ObjectRow) (seen : List ℕ)
    → object_row s serial ≡ object → retirement object ≡ Some seen → life s.objects serial ≡ Some (Some seen)
life_kept s serial None seen is kept = absurd (let never : ⊥ = cc in never)
life_kept s serial (Some row) seen is kept = ap (option_map counters_of) is ∙ ap (λ (one : Option (List ℕ)). Some one) kept

kept_life : (s : State) (serial : ℕ) (object : Option ObjectRow) (seen : List ℕ)
    → object_row s serial ≡ object → life s.objects serial ≡ Some (Some seen) → retirement object ≡ Some seen
kept_life s serial None seen is lived =
    let none : life s.objects serial ≡ None = ap (option_map counters_of) is in
    absurd (let never : ⊥ = cc in never)
kept_life s serial (Some row) seen is lived =
    let some : Some row.retired ≡ Some (Some seen) = sym (ap (option_map counters_of) is) ∙ lived in
    same_some row.retired (Some seen) some

-- what is killed lives, isn't retired, and its word is dead
pub record KilledLife (s : State) (dead : ℕ → Bool) (index : ℕ → ℕ) (serial : ℕ) : Type 0 where
  pub life_is : life s.objects serial ≡ Some None
  pub is_dead : dead (index serial) ≡ true

killed_life : (s : State) (dead : ℕ → Bool) (index : ℕ → ℕ) (serial : ℕ) (object : Option ObjectRow)
    → object_row s serial ≡ object → option_map_or (is_killed dead index) object false ≡ true
    → KilledLife s dead index serial
killed_life s dead index serial None is killed = absurd (let never : ⊥ = cc in never)
killed_life s dead index serial (Some row) is killed =
    let same : row.serial.0 ≡ serial = eqb-true row.serial.0 serial (found_passes (is_object serial) s.objects row is) in
    let both : (row.retired ≡ None) × (dead (index row.serial.0) ≡ true) = unretired_by row.retired (dead (index row.serial.0)) killed in
    record {
      life_is = ap (option_map counters_of) is ∙ ap (λ (one : Option (List ℕ)). Some one) both.0;
      is_dead = sym (ap (λ (n : ℕ). dead (index n)) same) ∙ both.1;
    }

life_killed : (s : State) (dead : ℕ → Bool) (index : ℕ → ℕ) (serial : ℕ) (object : Option ObjectRow)
    → object_row s serial ≡ object → KilledLife s dead index serial
    → option_map_or (is_killed dead index) object false ≡ true
life_killed s dead index serial None is killed =
    let none : life s.objects serial ≡ None = ap (option_map counters_of) is in
    let some : life s.objects serial ≡ Some None = killed.life_is in
    absurd (let never : ⊥ = cc in never)
life_killed s dead index serial (Some row) is killed =
    let same : row.serial.0 ≡ serial = eqb-true row.serial.0 serial (found_passes (is_object serial) s.objects row is) in
    let lived : Some row.retired ≡ Some None = sym (ap (option_map counters_of) is) ∙ killed.life_is in
    let none : row.retired ≡ None = same_some row.retired None lived in
    ap (λ (one : Option (List ℕ)). if is_some one then false else dead (index row.serial.0)) none ∙ (ap (λ (n : ℕ). dead (index n)) same ∙ killed.is_dead)

-- what an act or a part of it does to an object: it lives as it did, with its index, or is made, with
-- an index whose word isn't dead
pub record ActsOn (conf : Config) (event : Event) (index : ℕ → ℕ) (serial : ℕ) : Type 0 where
  pub goes : ((life (after_event (present conf) event).objects serial ≡ life (present conf).objects serial)
      × ((life (present conf).objects serial ≡ Some None) → index serial ≡ conf.index serial))
      ⊎ ((life (after_event (present conf) event).objects serial ≡ Some None) × (conf.dead (index serial) ≡ false))

module _ (conf : Config) (event : Event) (index : ℕ → ℕ) (cap : ℕ → ℕ → CapWord)
    (change : Holder → Holder) (keeps : counters event.entry ≡ None)
    (acts : (serial : ℕ) → ActsOn conf event index serial) where
  new_life : (serial : ℕ) → life (replay conf.boot (conf.history ++ event ∷ [])).objects serial ≡ life (after_event (present conf) event).objects serial
  new_life serial = ap (λ (s : State). life s.objects serial) (replay_more conf.boot conf.history event)

  kept_by : (serial : ℕ) (seen : List ℕ) → life (after_event (present conf) event).objects serial ≡ Some (Some seen)
      → ((life (after_event (present conf) event).objects serial ≡ life (present conf).objects serial)
      × ((life (present conf).objects serial ≡ Some None) → index serial ≡ conf.index serial))
      ⊎ ((life (after_event (present conf) event).objects serial ≡ Some None) × (conf.dead (index serial) ≡ false))
      → (objects_of conf).kept serial ≡ Some seen
  kept_by serial seen is (inl stays) =
      kept_life (present conf) serial (object_row (present conf) serial) seen refl (sym stays.0 ∙ is)
  kept_by serial seen is (inr made) =
      let none : Some None ≡ Some (Some seen) = sym made.0 ∙ is in
      absurd (let never : ⊥ = cc in never)

  acts_kept : (serial : ℕ) (seen : List ℕ)
      → (objects_of (with_event conf event index cap change)).kept serial ≡ Some seen
      → (objects_of conf).kept serial ≡ Some seen
  acts_kept serial seen is =
      kept_by serial seen (sym (new_life serial) ∙ life_kept (replay conf.boot (conf.history ++ event ∷ [])) serial (object_row (replay conf.boot (conf.history ++ event ∷ [])) serial) seen refl is) (acts serial).goes

  killed_by : (serial : ℕ) → life (after_event (present conf) event).objects serial ≡ Some None
      → conf.dead (index serial) ≡ true
      → ((life (after_event (present conf) event).objects serial ≡ life (present conf).objects serial)
      × ((life (present conf).objects serial ≡ Some None) → index serial ≡ conf.index serial))
      ⊎ ((life (after_event (present conf) event).objects serial ≡ Some None) × (conf.dead (index serial) ≡ false))
      → (objects_of conf).killed serial ≡ true
  killed_by serial is dead (inl stays) =
      let before : life (present conf).objects serial ≡ Some None = sym stays.0 ∙ is in
      life_killed (present conf) conf.dead conf.index serial (object_row (present conf) serial) refl record { life_is = before; is_dead = sym (ap conf.dead (stays.1 before)) ∙ dead }
  killed_by serial is dead (inr made) =
      let alive : conf.dead (index serial) ≡ false = made.1 in
      absurd (let never : ⊥ = cc in never)

  acts_killed : (serial : ℕ) → (objects_of (with_event conf event index cap change)).killed serial ≡ true
      → (objects_of conf).killed serial ≡ true
  acts_killed serial is =
      let killed : KilledLife (replay conf.boot (conf.history ++ event ∷ [])) conf.dead index serial = killed_life (replay conf.boot (conf.history ++ event ∷ [])) conf.dead index serial (object_row (replay conf.boot (conf.history ++ event ∷ [])) serial) refl is in
      killed_by serial (sym (new_life serial) ∙ killed.life_is) killed.is_dead (acts serial).goes

  acts_fit : (cpu : ℕ) → EntryFits (objects_of conf) (objects_of (with_event conf event index cap change)) event cpu (conf.counter cpu) (scan_of conf.turn cpu)
  acts_fit cpu = record {
    below = λ seen is. let none : None ≡ Some seen = sym keeps ∙ is in absurd (let never : ⊥ = cc in never);
    scanned = λ seen n is. let none : None ≡ Some seen = sym keeps ∙ is in absurd (let never : ⊥ = cc in never);
    reads = λ section serial reads. record { retired = λ seen is. reads.retired seen (acts_kept serial seen is); killed = λ n is scan. reads.killed n (acts_killed serial is) scan };
  }

  -- an entry that keeps no counters leaves grace
  pub acts_graced : ((holder : Holder) → (change holder).scans ≡ holder.scans)
      → ((holder : Holder) → KeepsRevived holder (change holder)) → HasGrace conf
      → HasGrace (with_event conf event index cap change)
  acts_graced scans stays graced =
      entry_graced conf event index cap change (record { scans = scans; stays = stays; kept = λ serial seen is. inl (acts_kept serial seen is); killed = acts_killed; fits = λ cpu within. acts_fit cpu }) graced

-- an act and a part of it

some_life : (found : Option ObjectRow) → option_map counters_of found ≡ Some None → is_some found ≡ true
some_life None is = absurd (let never : ⊥ = cc in never)
some_life (Some row) is = refl

module _ (conf : Config) (holder : Holder) (call : Current) (entry : Entry) (index : ℕ → ℕ)
    (turn : conf.turn ≡ Some holder) (not_acted : has_acted holder ≡ false) (graced : HasGrace conf)
    (fits : IndicesFit conf holder (next_state conf call entry) (changes_of (present conf) (logged entry call)) index)
  where
    lives_on : (serial : ℕ) → life (next_state conf call entry).objects serial ≡ life (present conf).objects serial
        → ActsOn conf (logged entry call) index serial
    lives_on serial same = record {
      goes = inl (same, λ lived. fits.kept serial (some_life (find (is_object serial) (present conf).objects) lived));
    }

    is_born : (serial : ℕ) → IsMade (present conf) (next_state conf call entry) (changes_of (present conf) (logged entry call)) serial
        → ActsOn conf (logged entry call) index serial
    is_born serial made = record {
      goes = inr (made.born, graced.revived holder (index serial) turn not_acted (fits.born serial made));
    }

module _ (conf : Config) (holder : Holder) (call : Current) (index : ℕ → ℕ)
    (turn : conf.turn ≡ Some holder) (not_acted : has_acted holder ≡ false) (graced : HasGrace conf) where
  acted_by : (cpu : CpuNo) (number serial : ℕ)
      → IndicesFit conf holder (next_state conf call (Acted cpu number)) (changes_of (present conf) (logged (Acted cpu number) call)) index
      → Goes (present conf) (next_state conf call (Acted cpu number)) (logged (Acted cpu number) call) (Acted cpu number) serial
      → ActsOn conf (logged (Acted cpu number) call) index serial
  acted_by cpu number serial fits (inl same) = lives_on conf holder call (Acted cpu number) index turn not_acted graced fits serial same
  acted_by cpu number serial fits (inr made) = is_born conf holder call (Acted cpu number) index turn not_acted graced fits serial made

  parted_by : (cpu : CpuNo) (number slot serial : ℕ) (space : Serial)
      → IndicesFit conf holder (next_state conf call (Part cpu number space slot)) (changes_of (present conf) (logged (Part cpu number space slot) call)) index
      → Goes (present conf) (next_state conf call (Part cpu number space slot)) (logged (Part cpu number space slot) call) (Part cpu number space slot) serial
      → ActsOn conf (logged (Part cpu number space slot) call) index serial
  parted_by cpu number slot serial space fits (inl same) = lives_on conf holder call (Part cpu number space slot) index turn not_acted graced fits serial same
  parted_by cpu number slot serial space fits (inr never) = absurd never

-- Commit

module _ (conf : Config) (at : ℕ) (graced : HasGrace conf) where
  after_commit : (entry : Entry) (may : MayCommit conf at entry)
      → counters entry ≡ None → ((serial : ℕ) → ActsOn conf (logged entry may.call) conf.index serial)
      → HasGrace (committed conf at entry)
  after_commit entry may keeps acts =
      subst (λ (one : Option Current). HasGrace (committed_by conf entry (λ new. conf.index) one)) (sym may.allows.in_act.is_current) (acts_graced conf (logged entry may.call) conf.index conf.cap (with_entry conf entry (next_state conf may.call entry) conf.index) keeps acts (λ holder. refl) (entry_stays conf entry (next_state conf may.call entry) conf.index) graced)

  -- an entry that sets no slot keeps grace
  pub commit_graced : (entry : Entry) → MayCommit conf at entry → HasGrace (committed conf at entry)
  commit_graced (Acted cpu number) may =
      after_commit (Acted cpu number) may refl (λ serial. acted_by conf may.holder may.call conf.index may.allows.has_turn.turn may.allows.not_acted graced cpu number serial (commit_fits conf at (Acted cpu number) may) (event_goes (present conf) (logged (Acted cpu number) may.call) serial))
  commit_graced (Part cpu number space slot) may =
      after_commit (Part cpu number space slot) may refl (λ serial. parted_by conf may.holder may.call conf.index may.allows.has_turn.turn may.allows.not_acted graced cpu number slot serial space (commit_fits conf at (Part cpu number space slot) may) (event_goes (present conf) (logged (Part cpu number space slot) may.call) serial))
  commit_graced (Retired serial seen) may = retire_graced conf at serial seen graced may
  commit_graced (Reclaimed serial seen) may = reclaim_graced conf at serial seen graced may

-- SetCap

sets_none : (allowed : Bool) (one : Change) → slots_set (one ∷ []) ≡ 0
    → slots_set (if allowed then one ∷ [] else []) ≡ 1 → ⊥
sets_none true one none some = omega (arith, none, some)
sets_none false one none some = let empty : slots_set [] ≡ 0 = refl in omega (arith, empty, some)

module _ (conf : Config) (at space slot : ℕ) (word : CapWord) (graced : HasGrace conf) (state : HasState conf)
  where
    after_set : (entry : Entry) (may : MaySetCap conf at entry space slot word) → counters entry ≡ None
        → ((serial : ℕ) → ActsOn conf (logged entry may.call) (index_after conf (next_state conf may.call entry) word) serial)
        → HasGrace (set_cap conf at entry space slot word)
    after_set entry may keeps acts =
        subst (λ (one : Option Current). HasGrace (record (committed_by conf entry (λ new. index_after conf new word) one) { cap = put_word conf.cap space slot word })) (sym may.allows.in_act.is_current) (acts_graced conf (logged entry may.call) (index_after conf (next_state conf may.call entry) word) (put_word conf.cap space slot word) (with_entry conf entry (next_state conf may.call entry) (index_after conf (next_state conf may.call entry) word)) keeps acts (λ holder. refl) (entry_stays conf entry (next_state conf may.call entry) (index_after conf (next_state conf may.call entry) word)) graced)

    -- an entry that sets a slot keeps grace
    pub set_graced : (entry : Entry) → MaySetCap conf at entry space slot word
        → HasGrace (set_cap conf at entry space slot word)
    set_graced (Acted cpu number) may =
        after_set (Acted cpu number) may refl (λ serial. acted_by conf may.holder may.call (index_after conf (next_state conf may.call (Acted cpu number)) word) may.allows.has_turn.turn may.allows.not_acted graced cpu number serial (set_fits conf at (Acted cpu number) space slot word state may) (event_goes (present conf) (logged (Acted cpu number) may.call) serial))
    set_graced (Part cpu number cspace n) may =
        after_set (Part cpu number cspace n) may refl (λ serial. parted_by conf may.holder may.call (index_after conf (next_state conf may.call (Part cpu number cspace n)) word) may.allows.has_turn.turn may.allows.not_acted graced cpu number n serial cspace (set_fits conf at (Part cpu number cspace n) space slot word state may) (event_goes (present conf) (logged (Part cpu number cspace n) may.call) serial))
    set_graced (Retired serial seen) may =
        absurd (sets_none (is_doomed (present conf) serial.0 && is_unretired (object_row (present conf) serial.0)) (change.Retire serial seen) refl may.one_slot)
    set_graced (Reclaimed serial seen) may =
        absurd (sets_none (is_doomed (present conf) serial.0 && is_retired (object_row (present conf) serial.0)) (change.Reclaim serial) refl may.one_slot)

-- such an entry keeps no counters
pub set_keeps_none : (conf : Config) (at : ℕ) (entry : Entry) (space slot : ℕ) (word : CapWord)
    → MaySetCap conf at entry space slot word → counters entry ≡ None
set_keeps_none conf at (Acted cpu number) space slot word may = refl
set_keeps_none conf at (Part cpu number cspace n) space slot word may = refl
set_keeps_none conf at (Retired serial seen) space slot word may =
    absurd (sets_none (is_doomed (present conf) serial.0 && is_unretired (object_row (present conf) serial.0)) (change.Retire serial seen) refl may.one_slot)
set_keeps_none conf at (Reclaimed serial seen) space slot word may =
    absurd (sets_none (is_doomed (present conf) serial.0 && is_retired (object_row (present conf) serial.0)) (change.Reclaim serial) refl may.one_slot)
