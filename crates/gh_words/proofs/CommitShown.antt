-- Plain words behind an entry of the turn's holder.
use Rattle.std.proofs.Common.{◌≡◌, ◌==◌, ◌+◌, ◌-◌, ◌<◌, ◌≤◌, ◌∙◌, ℕ, Bool, true, false, List, [], ◌∷◌, ◌++◌, refl, sym, ap, subst, arith, Option, Some, None, option_map, slice_get, slice_set, if◌then◌else◌}
use Rattle.std.specs.Prelude.{⊤, nat_lt}
use Rattle.std.proofs.lemmas.Bool.Decides.{nat_tests}
use Rattle.std.proofs.lemmas.List.{map_push}
use Rattle.gh_base.specs.declared.cap_word.CapWord.{CapWord}
use Rattle.gh_base.specs.declared.ids.ObjIndex.{ObjIndex}
use Rattle.gh_base.specs.declared.limits.TheConstants.{OBJECT_INDICES}
use Rattle.gh_events.specs.Config.{Config, Current, HasTurn, Holder, live_references, present, put, references_at}
use Rattle.gh_events.specs.Entries.{Covers, index_after, logged, next_state}
use Rattle.gh_events.specs.References.{owed_at}
use Rattle.gh_events.specs.TurnEvents.{committed, committed_by, next_index, put_word, set_cap, with_entry}
use Rattle.gh_events.specs.declared.event.Event.TheVariants.{Commit}
use Rattle.gh_events.proofs.Finding.{put_here, put_other}
use Rattle.gh_events.proofs.GraceReclaim.{replay_more}
use Rattle.gh_events.proofs.IndicesStay.{event_index, event_made}
use Rattle.gh_model.specs.History.{entry_of}
use Rattle.gh_model.specs.Marks.{cspace_of}
use Rattle.gh_model.specs.declared.entry.Entry.{Entry}
use Rattle.gh_model.specs.declared.state.State.{State}
use Rattle.gh_words.specs.Holding.{committing, setting}
use Rattle.gh_words.specs.Kept.{Kept}
use Rattle.gh_words.specs.Moved.{IsAlone, Makes}
use Rattle.gh_words.specs.Shows.{Shows, ShowsCpu, TurnIs, cap_place, held}
use Rattle.gh_words.specs.Tables.{with_cap}
use Rattle.gh_words.specs.declared.plain_words.PlainWords.{PlainWords}
use Rattle.gh_words.specs.declared.plain_words.TheConstants.{SLOT_WORDS}
use Rattle.gh_words.specs.declared.plain_words.Turn.{Turn}
use Rattle.gh_words.proofs.Alone.{alone}
use Rattle.gh_words.proofs.HolderShown.{fits_still}
use Rattle.gh_words.proofs.Puts.{set_shows}

-- an entry of this call, behind which the objects have these indices

module _ (words : PlainWords) (conf : Config) (shown : Shows words conf) (at : ℕ) (entry : Entry) (holder : Holder) (call : Current)
    (has : HasTurn conf at holder) (index : ℕ → ℕ) (cap : ℕ → ℕ → CapWord)
    (covers : Covers conf holder (next_state conf call entry) index) where
  abbrev next : Config
  next = record conf {
    history = conf.history ++ logged entry call ∷ [];
    index = index;
    turn = option_map (with_entry conf entry (next_state conf call entry) index) conf.turn;
    cap = cap;
  }

  -- what is held stays: as much is owed less as the references rise
  held_stays : (n : ℕ) → n < OBJECT_INDICES → held next n ≡ held conf n
  held_stays n few =
      let owes : owed_at next.turn n ≡ holder.owed n + live_references conf n - references_at (next_state conf call entry) index n =
      ap (λ (turn : Option Holder). owed_at (option_map (with_entry conf entry (next_state conf call entry) index) turn) n) has.turn in
      let before : owed_at conf.turn n ≡ holder.owed n = ap (λ (turn : Option Holder). owed_at turn n) has.turn in
      let refers : live_references next n ≡ references_at (next_state conf call entry) index n =
      ap (λ (s : State). references_at s index n) (replay_more conf.boot conf.history (logged entry call)) in
      omega (arith, owes, before, refers, covers n few)

  entry_turn : (turn : Option Turn) → TurnIs turn conf → TurnIs turn next
  entry_turn None is = ap (option_map (with_entry conf entry (next_state conf call entry) index)) is
  entry_turn (Some turn) is = record {
    holder = with_entry conf entry (next_state conf call entry) index is.holder;
    call = is.call;
    has_turn = ap (option_map (with_entry conf entry (next_state conf call entry) index)) is.has_turn;
    its_cpu = is.its_cpu;
    within = is.within;
    in_act = record { is_current = is.in_act.is_current; at_stage = is.in_act.at_stage };
    number = is.number;
    frame = is.frame;
    grants = is.grants;
  }

  -- each CPU's capability space keeps its index
  StaysHome : Type 0
  StaysHome = (serial : ℕ) → serial < (present conf).next_serial → index serial ≡ conf.index serial

  pub entry_shown : (caps : List CapWord) (log : Kept)
      → ((space slot : ℕ) → space < OBJECT_INDICES → slot < SLOT_WORDS → slice_get caps (cap_place space slot) ≡ Some (cap space slot))
      → log.entries ≡ words.log.entries ++ entry ∷ []
      → ((serial : ℕ) → serial < (present conf).next_serial → index serial ≡ conf.index serial)
      → (present conf).next_serial ≤ (present next).next_serial
      → Shows (record words { caps = caps; log = log }) next
  entry_shown caps log slots added stays rises = record {
    caps = slots;
    references = shown.references;
    fits = λ n few. fits_still conf next n (held_stays n few) refl refl (shown.fits n few);
    cpus = λ cpu within. cpu_shown cpu (shown.cpus cpu within);
    entries = added ∙ ap (λ (entries : List Entry). entries ++ entry ∷ []) shown.entries ∙ sym (map_push entry_of conf.history (logged entry call));
    turn = entry_turn words.turn shown.turn;
  }
    where
      cpu_shown : (cpu : ℕ) → ShowsCpu words conf cpu → ShowsCpu (record words { caps = caps; log = log }) next cpu
      cpu_shown cpu is = record {
        home = is.home;
        has_home = is.has_home;
        is_home = record {
          is = stays (cspace_of conf.boot cpu) is.is_home.made ∙ is.is_home.is;
          made = omega (arith, is.is_home.made, rises);
          within = is.is_home.within;
        };
        counter = is.counter;
        low = is.low;
        place = is.place;
      }

-- an entry that sets no slot

pub commit_made : (words : PlainWords) (log : Kept) (entry : Entry) → log.entries ≡ words.log.entries ++ entry ∷ []
    → Makes IsAlone (Shows words) (Shows (record words { log = log })) (committing entry)
commit_made words log entry added conf cpu shown may =
    let is : committed conf cpu.0 entry ≡ committed_by conf entry (λ new. conf.index) (Some may.call) =
    ap (committed_by conf entry (λ new. conf.index)) may.allows.in_act.is_current in
    alone (λ _. ⊤) (Shows (record words { log = log })) conf (committing entry cpu) may tt
    (subst (λ (next : Config). Shows (record words { log = log }) next) (sym is)
    (entry_shown words conf shown cpu.0 entry may.holder may.call may.allows.has_turn conf.index conf.cap may.covers words.caps log
    shown.caps added (λ serial made. refl)
    (subst (λ (next : Config). (present conf).next_serial ≤ (present next).next_serial) is (event_made conf (Commit cpu entry)))))

-- an entry that sets a slot

-- the word of another slot is as before
other_slot : (words : ℕ → ℕ → CapWord) (space slot s t : ℕ) (word : CapWord) → (((s == space) ≡ true) → (t == slot) ≡ false)
    → put_word words space slot word s t ≡ words s t
other_slot words space slot s t word apart = by_space (s == space) refl
  where
    by_space : (same : Bool) → (s == space) ≡ same → put_word words space slot word s t ≡ words s t
    by_space false is = rw is refl
    by_space true is =
        let there : s ≡ space = grind (arith, nat_tests) in
        rw is (put_other (words space) slot word t (apart is) ∙ ap (λ (n : ℕ). words n t) (sym there))

this_slot : (words : ℕ → ℕ → CapWord) (space slot : ℕ) (word : CapWord) → put_word words space slot word space slot ≡ word
this_slot words space slot word =
    ap (λ (row : ℕ → CapWord). row slot) (put_here words space (put (words space) slot word)) ∙ put_here (words space) slot word

module _ (caps : List CapWord) (cap : ℕ → ℕ → CapWord)
    (are : (s t : ℕ) → s < OBJECT_INDICES → t < SLOT_WORDS → slice_get caps (cap_place s t) ≡ Some (cap s t))
    (space slot : ℕ) (is_index : space < OBJECT_INDICES) (word : CapWord) where
  -- the table behind the set of a slot that there is, and of one that there isn't
  pub slots_set : (b : Bool) → nat_lt slot SLOT_WORDS ≡ b → (s t : ℕ) → s < OBJECT_INDICES → t < SLOT_WORDS
      → slice_get (if b then slice_set caps (cap_place space slot) word else caps) (cap_place s t) ≡ Some (put_word cap space slot word s t)
  slots_set false far s t few less =
      let apart : (t == slot) ≡ false = grind (arith, nat_tests) in
      are s t few less ∙ ap (λ (w : CapWord). Some w) (sym (other_slot cap space slot s t word (λ same. apart)))
  slots_set true near s t few less =
      let within : slot < SLOT_WORDS = grind (arith, nat_tests) in
      set_shows caps (cap_place space slot) (cap_place s t) word (cap space slot) (cap s t) (put_word cap space slot word s t)
      (are space slot is_index within) (are s t few less)
      (λ same.
      let there : s ≡ space = omega (arith, same, less, within) in
      let here : t ≡ slot = omega (arith, same, less, within) in
      subst (λ (n : ℕ). put_word cap space slot word n t ≡ word) (sym there) (subst (λ (m : ℕ). put_word cap space slot word space m ≡ word) (sym here) (this_slot cap space slot word)))
      (λ differs. other_slot cap space slot s t word (λ same. let there : s ≡ space = grind (arith, nat_tests) in by_slot there (t == slot) refl differs))
    where
      by_slot : s ≡ space → (equal : Bool) → (t == slot) ≡ equal → (cap_place s t == cap_place space slot) ≡ false → (t == slot) ≡ false
      by_slot there false is differs = is
      by_slot there true is differs =
          let here : t ≡ slot = grind (arith, nat_tests) in
          absurd (let never : ⊥ = grind (arith, nat_tests) in never)

pub set_cap_made : (words cap_set : PlainWords) (log : Kept) (entry : Entry) (space : ObjIndex) (slot : ℕ) (word : CapWord)
    → cap_set ≡ with_cap words space.0 slot word → log.entries ≡ cap_set.log.entries ++ entry ∷ []
    → Makes IsAlone (Shows words) (Shows (record cap_set { log = log })) (setting entry space slot word)
set_cap_made words cap_set log entry space slot word is_set added conf cpu shown may =
    let is : set_cap conf cpu.0 entry space.0 slot word ≡ set_to (Some may.call) =
    ap set_to may.allows.in_act.is_current in
    let log_added : log.entries ≡ words.log.entries ++ entry ∷ [] =
    added ∙ ap (λ (w : PlainWords). w.log.entries ++ entry ∷ []) is_set in
    alone (λ _. ⊤) (Shows (record cap_set { log = log })) conf (setting entry space slot word cpu) may tt
    (subst (λ (w : PlainWords). Shows (record w { log = log }) (set_cap conf cpu.0 entry space.0 slot word)) (sym is_set)
    (subst (λ (next : Config). Shows (record (with_cap words space.0 slot word) { log = log }) next) (sym is)
    (entry_shown words conf shown cpu.0 entry may.holder may.call may.allows.has_turn (next_index conf may.call entry word) (put_word conf.cap space.0 slot word) may.covers
    (with_cap words space.0 slot word).caps log
    (slots_set words.caps conf.cap shown.caps space.0 slot may.is_index word (nat_lt slot SLOT_WORDS) refl)
    log_added
    (λ serial made. subst (λ (next : Config). next.index serial ≡ conf.index serial) is (event_index conf (setting entry space slot word cpu) serial made))
    (subst (λ (next : Config). (present conf).next_serial ≤ (present next).next_serial) is (event_made conf (setting entry space slot word cpu))))))
  where
    set_to : Option Current → Config
    set_to current = record (committed_by conf entry (λ new. index_after conf new word) current) { cap = put_word conf.cap space.0 slot word }
