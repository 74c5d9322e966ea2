-- A create is committed: its gains are owed, the index of its object is revived with the first
-- references, and the entry sets the slot of the master capability.
use Rattle.std.proofs.Common.{◌≡◌, ◌==◌, ◌+◌, ◌%◌, ◌<◌, ◌≤◌, ◌∙◌, ◌⊎◌, inl, inr, ℕ, Bool, true, false, not, List, [], ◌∷◌, ◌++◌, refl, subst, sym, ap, arith, IsTrue, length, filter, map, Option, Some, None, find, is_some, if◌then◌else◌}
use Rattle.std.specs.Prelude.{◌||◌, nat_lt}
use Rattle.std.specs.List.{list_all, list_any}
use Rattle.std.specs.Option.{option_map_or}
use Rattle.std.proofs.lemmas.Bool.{and_from, and_parts, eqb-true}
use Rattle.std.proofs.lemmas.Bool.Decides.{eqb_tells, nat_tests}
use Rattle.std.proofs.lemmas.List.Folds.{list_any-append}
use Rattle.std.proofs.lemmas.List.Sums.{count_by-le-length}
use Rattle.gh_base.specs.CapWord.{filled_state, object_of, rights_values, settings, state_number}
use Rattle.gh_base.specs.Kind.{kind_number}
use Rattle.gh_base.specs.declared.cap_word.CapWord.{CapWord}
use Rattle.gh_base.specs.declared.ids.Serial.{Serial}
use Rattle.gh_base.specs.declared.kind.Kind.{Kind}
use Rattle.gh_base.specs.declared.kind.Kind.TheVariants as kind
use Rattle.gh_base.specs.declared.limits.TheConstants.{OBJECT_INDICES, PARTITIONS}
use Rattle.gh_model.specs.Act.{grants_of}
use Rattle.gh_model.specs.Changes.{changed, changed_all}
use Rattle.gh_model.specs.Decisions.{grant_at}
use Rattle.gh_model.specs.History as history
use Rattle.gh_model.specs.Marks.{word_of}
use Rattle.gh_model.specs.ObjectCalls.{master_rights, new_master, new_object}
use Rattle.gh_model.specs.References.{references}
use Rattle.gh_model.specs.Registers.{needs_of}
use Rattle.gh_model.specs.Rows.{is_object, object_row}
use Rattle.gh_model.specs.Word.{is_slot, word_at}
use Rattle.gh_model.specs.Decide.{verdict}
use Rattle.gh_model.specs.declared.change.Decision.{Decision}
use Rattle.gh_model.specs.declared.change.Decision.TheVariants.{Refuse, Unfinished, Make}
use Rattle.gh_model.specs.declared.change.Change.{Change}
use Rattle.gh_model.specs.declared.change.Change.TheVariants.{AddObject, PutCapability}
use Rattle.gh_model.specs.declared.entry.Entry.{Entry}
use Rattle.gh_model.specs.declared.entry.Entry.TheVariants.{Acted}
use Rattle.gh_model.specs.declared.rows.CapabilityRow.{CapabilityRow}
use Rattle.gh_model.specs.declared.rows.ObjectRow.{ObjectRow}
use Rattle.gh_model.specs.declared.state.State.{State}
use Rattle.gh_model.specs.declared.word.Word.{Word}
use Rattle.gh_invariant.specs.Effects.{gained, home_of, is_that, lost, slots_set, times}
use Rattle.gh_invariant.specs.Events.{EventFits, changes_of, judged_by, made_by}
use Rattle.gh_invariant.specs.Lives.{lives}
use Rattle.gh_invariant.specs.Premises.{MayChangeAll}
use Rattle.gh_invariant.specs.Valid.{IsValid}
use Rattle.gh_invariant.proofs.Counting.{count_append, count_cons, find_push_new, find_push_other, one_true}
use Rattle.gh_invariant.proofs.EntriesKept.{begins}
use Rattle.gh_invariant.proofs.EventWords.{event_may}
use Rattle.gh_invariant.proofs.EventsKept.{event_valid}
use Rattle.gh_invariant.proofs.FactLemmas.{entry_word}
use Rattle.gh_invariant.proofs.NotLiving.{not_living}
use Rattle.gh_invariant.proofs.WordsLeft.{slot_set, word_set}
use Rattle.gh_schedules.specs.Committing.{commits_of, committing, cpu_no, entry_event, gains_owed, index_no, is_made, losses_settled, revives, slot_word, with_new}
use Rattle.gh_schedules.specs.Places.{added, is_partition_kind, new_place, places_of, places_with}
use Rattle.gh_events.specs.Config.{Config, Current, Holder, is_killed, object_at, present, put, references_at}
use Rattle.gh_events.specs.Entries.{Allows, Covers, index_after, is_that_index, logged, makes_object, owed_after, row_shown, shown}
use Rattle.gh_events.specs.Entries as entries
use Rattle.gh_events.specs.HolderEvents.{MayRevive, is_done}
use Rattle.gh_schedules.specs.Indices.{InBlocks, IsFreeIndex, new_index, place_of}
use Rattle.gh_events.specs.Sound.{IsSound}
use Rattle.gh_schedules.specs.Trace.{after_all}
use Rattle.gh_events.specs.TurnEvents.{MaySetCap, committed_by, put_word, set_cap}
use Rattle.gh_events.specs.ValidState.{CallFits}
use Rattle.gh_events.specs.declared.event.Event.{Event}
use Rattle.gh_events.specs.declared.event.Event.TheVariants.{Revive, SetCap}
use Rattle.gh_events.proofs.ActFits.{grants_made}
use Rattle.gh_schedules.proofs.Acting.{IsDone, IsJudged, acted_allows, has_acted_there}
use Rattle.gh_schedules.proofs.Blocks.{IsNewIndex, IsNewPlace, new_at, new_placed}
use Rattle.gh_schedules.proofs.BlocksStay.{places_next}
use Rattle.gh_schedules.proofs.ChangeLives.{AllLive, gains_live, lives_here}
use Rattle.gh_schedules.proofs.Commits.{IsActive, IsCommitted, entered_by, gains_lead, owed_serials}
use Rattle.gh_schedules.proofs.Commits as commits
use Rattle.gh_schedules.proofs.EntryBalance.{Births, IsNewAt, balanced, count_at, lives_or_new, made_live, none_at, owed_gains, owed_there}
use Rattle.gh_events.proofs.EntryKeeps.{lives_same}
use Rattle.gh_events.proofs.EntryMoves.{indices_of, lives_there, nothing}
use Rattle.gh_schedules.proofs.EntryReferences.{MakesOne, event_moved}
use Rattle.gh_events.proofs.EventObjects.{Goes, event_goes}
use Rattle.gh_schedules.proofs.FewGains.{event_gains_few}
use Rattle.gh_events.proofs.Finding.{found_passes, put_here, put_other, same_number}
use Rattle.gh_schedules.proofs.KilledNone.{NoneKilled, killed_in, life_killed, none_some}
use Rattle.gh_events.proofs.LengthBound.{history_is_short}
use Rattle.gh_events.proofs.LookCalls.{entries_all}
use Rattle.gh_events.proofs.LookKeeps.{index_shown}
use Rattle.gh_schedules.proofs.OwingSteps.{IsOwing, at_owed, with_amounts}
use Rattle.gh_schedules.proofs.Ranks.{HomeOf, home_of as lives_in_home}
use Rattle.gh_events.proofs.SoundEvents.{event_keeps_sound}
use Rattle.gh_schedules.proofs.TraceLaws.{Leads, leads_append, leads_so}
use Rattle.gh_schedules.proofs.TurnItems.{HasActed}
use Rattle.gh_events.proofs.WordsFollow.{lives_any}

weaken : (s : State) (next : ℕ) (serials : List Serial) → AllLive s.objects serials
    → IsTrue (list_all (lives_or_new s next) serials)
weaken s next [] all = refl
weaken s next (serial ∷ serials) all =
    let parts = and_parts (lives_here s.objects serial) (list_all (lives_here s.objects) serials) all in
    and_from _ _ (either (lives s.objects serial.0) (not (is_made next serial)) parts.0) (weaken s next serials parts.1)
  where
    either : (a b : Bool) → a ≡ true → (a || b) ≡ true
    either true b is = refl
    either false b is = absurd (let never : ⊥ = cc in never)

both_new : (s : State) (next : ℕ) (first second : List Serial) → IsTrue (list_all (lives_or_new s next) first)
    → IsTrue (list_all (lives_or_new s next) second) → IsTrue (list_all (lives_or_new s next) (first ++ second))
both_new s next [] second all also = also
both_new s next (serial ∷ first) second all also =
    let parts = and_parts (lives_or_new s next serial) (list_all (lives_or_new s next) first) all in
    and_from _ _ parts.0 (both_new s next first second parts.1 also)

few_rights : (k : Kind) → master_rights k < rights_values
few_rights kind.Partition = omega arith
few_rights kind.Cspace = omega arith
few_rights kind.Space = omega arith
few_rights kind.Extent = omega arith
few_rights kind.Bell = omega arith
few_rights kind.Queue = omega arith

module _ (conf : Config) (at : ℕ) (call : Current) (judges : IsJudged conf at call) (done : IsDone conf at call judges)
    (makes : MakesOne (present conf) (logged (Acted (cpu_no at) call.given.number) call))
    (free : IsFreeIndex conf (new_index (present conf) (places_of conf) conf.index (grant_at (grants_of call.given.call (map word_of call.seen)) 0).0))
  where
    abbrev s : State
    s = present conf

    abbrev entry : Entry
    entry = Acted (cpu_no at) call.given.number

    abbrev event : history.Event
    event = logged entry call

    abbrev new : State
    new = history.after_event s event

    abbrev changes : List Change
    changes = changes_of s event

    abbrev holder : Holder
    holder = judges.holder

    abbrev active : IsActive conf at holder call
    active = judges.active

    abbrev allows : Allows conf at entry holder call
    allows = acted_allows conf at call judges done

    abbrev grant : ℕ → Serial
    grant place = grant_at (grants_of call.given.call (map word_of call.seen)) place

    abbrev row : ObjectRow
    row = new_object s (grant 0) makes.new.kind

    abbrev cap : CapabilityRow
    cap = new_master s (grant 1) makes.new.slot makes.new.kind

    abbrev next : ℕ
    next = s.next_serial

    abbrev places : ℕ → ℕ
    places = places_of conf

    abbrev home : ℕ
    home = new_index s places conf.index (grant 0).0

    abbrev later : ℕ → ℕ
    later = put conf.index next home

    fits : EventFits s event
    fits = commits.fits conf at entry holder call active allows

    valid : IsValid s
    valid = active.sound.valid.valid

    now_valid : IsValid new
    now_valid = event_valid s event valid fits

    -- the changes

    made_is : changes ≡ AddObject row ∷ PutCapability cap ∷ []
    made_is = makes.new.is

    gained_is : gained s changes ≡ home_of row ++ ((grant 1 ∷ row.serial ∷ []) ++ [])
    gained_is = ap (gained s) made_is

    lost_is : lost s changes ≡ []
    lost_is = ap (lost s) made_is

    may_change : MayChangeAll s (AddObject row ∷ PutCapability cap ∷ [])
    may_change = subst (MayChangeAll s) made_is (event_may s event valid fits)

    some_serial : 0 < next
    some_serial = valid.objects.some

    home_made : (grant 1).0 < next
    home_made =
        let call_fits : CallFits s call = (active.sound.valid.cpus at).current call active.in_act.is_current in
        grants_made s (needs_of call.given.call) call.seen (call_fits.granted active.in_act.at_stage) call_fits.found some_serial 1

    home_lives : lives s.objects (grant 1).0 ≡ true
    home_lives =
        let there : lives (s.objects ++ row ∷ []) (grant 1).0 ≡ true = lives_any (s.objects ++ row ∷ []) (grant 1).0 kind.Cspace may_change.others.first.home in
        let other : is_object (grant 1).0 row ≡ false = grind (arith, nat_tests, home_made) in
        sym (ap is_some (find_push_other (is_object (grant 1).0) s.objects row other)) ∙ there

    gained_fit : IsTrue (list_all (lives_or_new s next) (gained s changes))
    gained_fit =
        subst (λ (list : List Serial). IsTrue (list_all (lives_or_new s next) list)) (sym gained_is)
        (both_new s next (home_of row) ((grant 1 ∷ row.serial ∷ []) ++ [])
        (weaken s next (home_of row) (gains_live (s.entries + 1) s (begins s valid) (AddObject row) refl may_change.first))
        (and_from _ _ (first (lives s.objects (grant 1).0) _ home_lives) (and_from _ _ (second (lives s.objects next) (nat_lt next next) (let no_less : nat_lt next next ≡ false = grind (arith, nat_tests) in no_less)) refl)))
      where
        first : (a b : Bool) → a ≡ true → (a || b) ≡ true
        first true b is = refl
        first false b is = absurd (let never : ⊥ = cc in never)

        second : (a b : Bool) → b ≡ false → (a || not b) ≡ true
        second true b is = refl
        second false true is = absurd (let never : ⊥ = cc in never)
        second false false is = refl

    some_gained : 1 ≤ times next (gained s changes)
    some_gained =
        subst (λ (list : List Serial). 1 ≤ times next list) (sym gained_is)
        (omega (
          arith,
          count_append (is_that next) (home_of row) ((grant 1 ∷ row.serial ∷ []) ++ []),
          count_cons (is_that next) (grant 1) (row.serial ∷ []),
          count_cons (is_that next) row.serial [],
          one_true (is_that next row.serial) (same_number next),
        ))

    few_gained : times next (gained s changes) ≤ 6
    few_gained = omega (arith, count_by-le-length (is_that next) (gained s changes), event_gains_few s event)

    -- the object lives behind the entry

    moved : (object : ℕ) → 0 < object
        → references new object + times object (lost s changes) ≡ references s object + times object (gained s changes)
    moved object some = event_moved s event object valid fits some

    unlost : times next (lost s changes) ≡ 0
    unlost = ap (times next) lost_is

    born_by : (alive : Bool) → lives new.objects next ≡ alive → lives new.objects next ≡ true
    born_by true is = is
    born_by false is =
        let none : references new next ≡ 0 = not_living new.entries new next some_serial now_valid is in
        absurd (omega (arith, none, moved next some_serial, unlost, some_gained))

    born : lives new.objects next ≡ true
    born = born_by (lives new.objects next) refl

    unmade_by : (alive : Bool) → lives s.objects next ≡ alive → lives s.objects next ≡ false
    unmade_by false is = is
    unmade_by true is =
        absurd (let below : next < next = active.sound.state.given next is in omega (arith, below))

    unmade : lives s.objects next ≡ false
    unmade = unmade_by (lives s.objects next) refl

    -- indices

    later_next : later next ≡ home
    later_next = put_here conf.index next home

    later_old : (object : ℕ) → object < next → later object ≡ conf.index object
    later_old object below =
        put_other conf.index next home object (let apart : (object == next) ≡ false = grind (arith, nat_tests) in apart)

    abbrev count : ℕ
    count = times next (gained s changes)

    abbrev extra : ℕ → ℕ
    extra = put (λ i. 0) home (times next (gained s changes))

    came_by : (object : ℕ) → Goes s new event entry object → lives new.objects object ≡ true
        → (lives s.objects object ≡ true) ⊎ IsNewAt s conf.index later extra (gained s changes) object
    came_by object (inl same) alive = inl (sym (lives_same new.objects s.objects object same) ∙ alive)
    came_by object (inr made) alive =
        inr (subst (IsNewAt s conf.index later extra (gained s changes)) (sym made.next) record {
          next = refl;
          within = subst (λ (n : ℕ). n < OBJECT_INDICES) (sym later_next) free.within;
          uninhabited = subst (λ (n : ℕ). object_at s conf.index n ≡ None) (sym later_next) free.uninhabited;
          owes = ap extra later_next ∙ put_here (λ i. 0) home count;
        })

    extra_apart : (i : ℕ) → (i == home) ≡ false → extra i ≡ 0
    extra_apart i apart = put_other (λ n. 0) home count i apart

    extra_old : (i : ℕ) → is_some (object_at s conf.index i) ≡ true → extra i ≡ 0
    extra_old i some =
        elim (eqb_tells i home) as (λ _. extra i ≡ 0) [
          | inl same ↦ absurd (nothing (object_at s conf.index i) (subst (λ (n : ℕ). object_at s conf.index n ≡ None) (sym same.1) free.uninhabited) some)
          | inr differs ↦ extra_apart i differs.0
        ]

    extra_none : (i : ℕ) → object_at s conf.index i ≡ None → object_at new later i ≡ None → extra i ≡ 0
    extra_none i none gone =
        elim (eqb_tells i home) as (λ _. extra i ≡ 0) [
          | inl same ↦ absurd (nothing (object_at new later i) gone (subst (λ (n : ℕ). is_some (object_at new later n) ≡ true) (later_next ∙ sym same.1) (lives_there new later next born)))
          | inr differs ↦ extra_apart i differs.0
        ]

    births : Births s new conf.index later extra (gained s changes) (lost s changes)
    births = record {
      indices = indices_of conf active.sound.references active.sound.state.within;
      given = active.sound.state.given;
      kept = λ object alive. later_old object (active.sound.state.given object alive);
      came = λ object alive. came_by object (event_goes s event object) alive;
      extra_old = extra_old;
      extra_none = extra_none;
      gained = gained_fit;
      lost = subst (AllLive s.objects) (sym lost_is) refl;
      moved = moved;
      valid = valid;
      valid_after = now_valid;
    }

    -- the word of the slot

    abbrev place : ℕ × ℕ
    place = ((grant 1).0, makes.new.slot)

    slot_is : entries.slot_set changes ≡ Some ((grant 1).0, makes.new.slot)
    slot_is = ap entries.slot_set made_is

    slot_named : is_slot makes.new.slot ≡ true
    slot_named = may_change.others.first.slot

    word_is : word_at new (grant 1).0 makes.new.slot ≡ record { row = Some cap; set_at = s.entries + 1 }
    word_is =
        entry_word s event entry (grant 1).0 makes.new.slot
        ∙ ap (λ (list : List Change). word_at (changed_all s list) (grant 1).0 makes.new.slot) made_is
        ∙ word_set (changed s (AddObject row)) (changed (changed s (AddObject row)) (PutCapability cap)) (grant 1).0 makes.new.slot (Some cap) slot_named
        (slot_set (changed s (AddObject row)) (PutCapability cap) (grant 1).0 makes.new.slot may_change.others.first (and_from _ _ (same_number (grant 1).0) (same_number makes.new.slot)))

    few_entries : s.entries + 1 < settings
    few_entries =
        omega (arith, entries_all conf.boot conf.history, active.sound.begins, short)
      where
        short : length conf.history < 12_500_000
        short = history_is_short conf active.sound.long active.sound.calls

    abbrev word : CapWord
    word = slot_word new later ((grant 1).0, makes.new.slot)

    word_index : object_of word.0 ≡ home
    word_index =
        ap (λ (one : Word). object_of (shown later one)) word_is
        ∙ index_shown (state_number (filled_state true)) (kind_number makes.new.kind) 1 (later next) (master_rights makes.new.kind) (s.entries + 1)
        (subst (λ (n : ℕ). n < OBJECT_INDICES) (sym later_next) free.within) (few_rights makes.new.kind) few_entries
        ∙ later_next

    -- the indices behind the entry are those of the word
    index_is : (there : Config) → there.boot ≡ conf.boot → there.history ≡ conf.history → there.index ≡ conf.index
        → index_after conf new word ≡ later
    index_is there boot log index =
        ap (λ (makes_it : Bool). if makes_it then put conf.index next (object_of word.0) else conf.index) born
        ∙ ap (put conf.index next) word_index

    -- no object is killed, also where the word of the new index is alive

    killed_by : (x : ℕ) (found : Option ObjectRow) → option_map_or (is_killed conf.dead conf.index) found false ≡ false
        → option_map_or (is_killed (put conf.dead home false) conf.index) found false ≡ false
    killed_by x None none = refl
    killed_by x (Some one) none = by_retired (is_some one.retired) none
      where
        by_retired : (retired : Bool) → (if retired then false else conf.dead (conf.index one.serial.0)) ≡ false
            → (if retired then false else put conf.dead home false (conf.index one.serial.0)) ≡ false
        by_retired true none = refl
        by_retired false none =
            elim (eqb_tells (conf.index one.serial.0) home) as (λ _. put conf.dead home false (conf.index one.serial.0) ≡ false) [
              | inl same ↦ subst (λ (n : ℕ). put conf.dead home false n ≡ false) (sym same.1) (put_here conf.dead home false)
              | inr differs ↦ put_other conf.dead home false (conf.index one.serial.0) differs.0 ∙ none
            ]

    none_revived : NoneKilled s conf.index (put conf.dead home false)
    none_revived x = killed_by x (object_row s x) (judges.none_killed x)

    born_found : (found : Option ObjectRow) → (is_new : (one : ObjectRow) → found ≡ Some one → one.serial.0 ≡ next)
        → option_map_or (is_killed (put conf.dead home false) later) found false ≡ false
    born_found None is_new = refl
    born_found (Some one) is_new =
        by_retired (is_some one.retired)
      where
        alive : put conf.dead home false (later one.serial.0) ≡ false
        alive =
            subst (λ (n : ℕ). put conf.dead home false n ≡ false) (sym (ap later (is_new one refl) ∙ later_next)) (put_here conf.dead home false)

        by_retired : (retired : Bool) → (if retired then false else put conf.dead home false (later one.serial.0)) ≡ false
        by_retired true = refl
        by_retired false = alive

    none_behind : NoneKilled new later (put conf.dead home false)
    none_behind x =
        elim (eqb_tells x next) as (λ _. killed_in new later (put conf.dead home false) x ≡ false) [
          | inl same ↦ born_found (object_row new x) (λ one is. eqb-true one.serial.0 x (found_passes (is_object x) new.objects one is) ∙ same.1)
          | inr differs ↦ by_goes (event_goes s event x) differs.0
        ]
      where
        by_goes : Goes s new event entry x → (x == next) ≡ false → killed_in new later (put conf.dead home false) x ≡ false
        by_goes (inl same) apart =
            life_killed s new conf.index later (put conf.dead home false) x (put_other conf.index next home x apart) same ∙ none_revived x
        by_goes (inr made) apart = absurd (let never : ⊥ = grind (arith, nat_tests, made.next) in never)

    -- objects lie in their blocks behind it

    acted_objects : (allowed : Bool) (decision : Decision) → allowed ≡ true
        → (if allowed then made_by decision else []) ≡ AddObject row ∷ PutCapability cap ∷ []
        → (if allowed then history.after_verdict s (verdict s decision) else history.numbered s).objects ≡ s.objects ++ row ∷ []
    acted_objects false decision may list = absurd (let never : ⊥ = cc in never)
    acted_objects true (Refuse errno) may list = absurd (let never : ⊥ = cc in never)
    acted_objects true Unfinished may list = absurd (let never : ⊥ = cc in never)
    acted_objects true (Make made reply) may list = ap (λ (changes_made : List Change). (changed_all s changes_made).objects) list

    objects_are : new.objects ≡ s.objects ++ row ∷ []
    objects_are =
        acted_objects (history.may_act s at call.given.call (map word_of call.seen)) (judged_by s at event) allows.allowed.may_act made_is

    new_row : object_row new next ≡ Some row
    new_row =
        ap (find (is_object next)) objects_are ∙ find_push_new (is_object next) s.objects row (none_by (object_row s next) refl unmade) (same_number next)
      where
        none_by : (found : Option ObjectRow) → object_row s next ≡ found → is_some (object_row s next) ≡ false → find (is_object next) s.objects ≡ None
        none_by None is none = is
        none_by (Some one) is none =
            let some : is_some (object_row s next) ≡ true = ap is_some is in absurd (let never : ⊥ = cc in never)

    old_row : (one : ObjectRow) → object_row new one.serial.0 ≡ Some one → (one.serial.0 == next) ≡ false → object_row s one.serial.0 ≡ Some one
    old_row one is apart =
        sym (find_push_other (is_object one.serial.0) s.objects row (let other : (next == one.serial.0) ≡ false = grind (arith, nat_tests) in other))
        ∙ sym (ap (find (is_object one.serial.0)) objects_are) ∙ is

    row_kept : (one : ObjectRow) → object_row s one.serial.0 ≡ Some one → later one.serial.0 ≡ conf.index one.serial.0
    row_kept one is = later_old one.serial.0 (active.sound.state.given one.serial.0 (ap is_some is))

    same_row : (one : ObjectRow) → object_row new one.serial.0 ≡ Some one → one.serial.0 ≡ next → row ≡ one
    same_row one is that =
        let both : Some row ≡ Some one = sym (ap (object_row new) that ∙ new_row) ∙ is in cc

    -- the new object is noted with a place
    abbrev noted : ℕ → ℕ
    noted = put places next (new_place s places)

    noted_here : (one : ObjectRow) → one.serial.0 ≡ next → noted one.serial.0 ≡ new_place s places
    noted_here one same = ap noted same ∙ put_here places next (new_place s places)

    noted_old : (object : ℕ) → object < next → noted object ≡ places object
    noted_old object below = put_other places next (new_place s places) object (let other : (object == next) ≡ false = grind (arith, nat_tests) in other)

    noted_row : (one : ObjectRow) → object_row s one.serial.0 ≡ Some one → noted one.serial.0 ≡ places one.serial.0
    noted_row one is = noted_old one.serial.0 (active.sound.state.given one.serial.0 (ap is_some is))

    noted_home : (one : ObjectRow) → object_row s one.serial.0 ≡ Some one → noted one.partition.0 ≡ places one.partition.0
    noted_home one is =
        let its : HomeOf s valid one = lives_in_home s valid one is in
        subst (λ (n : ℕ). noted n ≡ places n) its.that (noted_old its.home.serial.0 (active.sound.state.given its.home.serial.0 (ap is_some its.is_row)))

    partition_noted : noted (grant 0).0 ≡ places (grant 0).0
    partition_noted =
        noted_old (grant 0).0 (active.sound.state.given (grant 0).0 (lives_any s.objects (grant 0).0 kind.Partition may_change.first.partition))

    found_new : IsNewIndex s conf.index (places (grant 0).0) home
    found_new = new_at s places conf.index valid active.blocks row may_change.first

    -- a new partition has a place of its own
    found_place : (one : ObjectRow) → row ≡ one → is_partition_kind one.kind ≡ true → IsNewPlace s places (new_place s places)
    found_place one that part =
        new_placed s places conf.index valid active.blocks row may_change.first (ap (λ (its : ObjectRow). is_partition_kind its.kind) that ∙ part)

    abbrev Parted : ObjectRow → ObjectRow → Type 0
    Parted one other = noted one.serial.0 ≡ noted other.serial.0 → one.serial.0 ≡ other.serial.0

    parted_new : (one other : ObjectRow) → object_row new one.serial.0 ≡ Some one → one.serial.0 ≡ next → is_partition_kind one.kind ≡ true
        → object_row s other.serial.0 ≡ Some other → is_partition_kind other.kind ≡ true → noted one.serial.0 ≡ noted other.serial.0 → ⊥
    parted_new one other is that part was too same =
        (found_place one (same_row one is that) part).alone other was too (sym (noted_row other was) ∙ sym same ∙ noted_here one that)

    apart_fit : (one other : ObjectRow) → object_row new one.serial.0 ≡ Some one → object_row new other.serial.0 ≡ Some other
        → is_partition_kind one.kind ≡ true → is_partition_kind other.kind ≡ true → Parted one other
    apart_fit one other is also part too =
        elim (eqb_tells one.serial.0 next) as (λ _. Parted one other) [
          | inl first ↦ elim (eqb_tells other.serial.0 next) as (λ _. Parted one other) [
            | inl second ↦ λ same. first.1 ∙ sym second.1
            | inr differs ↦ λ same. absurd (parted_new one other is first.1 part (old_row other also differs.0) too same)
          ]
          | inr apart ↦ elim (eqb_tells other.serial.0 next) as (λ _. Parted one other) [
            | inl second ↦ λ same. absurd (parted_new other one also second.1 too (old_row one is apart.0) part (sym same))
            | inr differs ↦ λ same.
                let was : object_row s one.serial.0 ≡ Some one = old_row one is apart.0 in
                let were : object_row s other.serial.0 ≡ Some other = old_row other also differs.0 in
                active.blocks.apart one other was were part too (sym (noted_row one was) ∙ same ∙ noted_row other were)
          ]
        ]

    few_fit : (one : ObjectRow) → object_row new one.serial.0 ≡ Some one → is_partition_kind one.kind ≡ true → noted one.serial.0 < PARTITIONS
    few_fit one is part =
        elim (eqb_tells one.serial.0 next) as (λ _. noted one.serial.0 < PARTITIONS) [
          | inl same ↦ subst (λ (n : ℕ). n < PARTITIONS) (sym (noted_here one same.1)) (found_place one (same_row one is same.1) part).within
          | inr differs ↦ let was : object_row s one.serial.0 ≡ Some one = old_row one is differs.0 in subst (λ (n : ℕ). n < PARTITIONS) (sym (noted_row one was)) (active.blocks.few one was part)
        ]

    each_fit : (one : ObjectRow) → object_row new one.serial.0 ≡ Some one → place_of (later one.serial.0) ≡ noted one.partition.0
    each_fit one is =
        elim (eqb_tells one.serial.0 next) as (λ _. place_of (later one.serial.0) ≡ noted one.partition.0) [
          | inl same ↦ ap place_of (ap later same.1 ∙ later_next) ∙ found_new.there ∙ sym partition_noted ∙ ap (λ (its : ObjectRow). noted its.partition.0) (same_row one is same.1)
          | inr differs ↦ let was : object_row s one.serial.0 ≡ Some one = old_row one is differs.0 in ap place_of (row_kept one was) ∙ active.blocks.each one was ∙ sym (noted_home one was)
        ]

    new_blocks : InBlocks new (places_next conf event) later
    new_blocks =
        subst (λ (its : ℕ → ℕ). InBlocks new its later) (sym (ap (λ (made : List Change). places_with s places (added made)) made_is))
        record { apart = apart_fit; few = few_fit; each = each_fit }

    -- behind the gains and the revival

    abbrev holds : List ℕ → (ℕ → ℕ) → Holder
    holds list owed = record holder { owed = owed; revived = list }

    abbrev At : (ℕ → ℕ) → (ℕ → ℕ) → Config
    At counts owed = record conf {
      count = counts;
      dead = put conf.dead home false;
      turn = Some (holds (holder.revived ++ home ∷ []) owed);
    }

    abbrev Done : Config → Type 0
    Done there = IsCommitted conf holder entry call later (put conf.dead home false) (holder.revived ++ home ∷ []) there

    module _ (counts owed : ℕ → ℕ)
        (owes : (i : ℕ) → owed i ≡ count_at conf.index (filter (is_made next) (gained s changes)) i + extra i)
        (sound : IsSound (At counts owed)) where
      even : (i : ℕ) → references_at new later i ≡ owed i + references_at s conf.index i
      unfolding owed_there owed_gains
      even i =
          let sums : references_at new later i + count_at conf.index (lost s changes) i
          ≡ count_at conf.index (filter (is_made next) (gained s changes)) i + extra i + references_at s conf.index i =
          balanced s new conf.index later extra (gained s changes) (lost s changes) births i in
          let none : count_at conf.index (lost s changes) i ≡ 0 = ap (λ (list : List Serial). count_at conf.index list i) lost_is in
          omega (arith, sums, none, owes i)

      covers : Covers (At counts owed) (holds (holder.revived ++ home ∷ []) owed) new later
      covers = λ i within. omega (arith, even i)

      none_owed : (i : ℕ) → owed_after (At counts owed) (holds (holder.revived ++ home ∷ []) owed) new later i ≡ 0
      none_owed i = omega (arith, even i)

      now_allows : Allows (At counts owed) at entry (holds (holder.revived ++ home ∷ []) owed) call
      now_allows = record {
        has_turn = record { turn = refl; its_cpu = active.has_turn.its_cpu };
        in_act = active.in_act;
        not_acted = judges.not_acted;
        allowed = record {
          its_cpu = allows.allowed.its_cpu;
          its_number = refl;
          may_act = allows.allowed.may_act;
          new = allows.allowed.new;
          reply = allows.allowed.reply;
          is_done = allows.allowed.is_done;
          none_killed = none_some s conf.index (put conf.dead home false) valid none_revived;
        };
      }

      index_now : index_after (At counts owed) new word ≡ later
      index_now = index_is conf refl refl refl

      revived_home : list_any (is_that_index (object_of word.0)) (holder.revived ++ home ∷ []) ≡ true
      revived_home =
          list_any-append (is_that_index (object_of word.0)) holder.revived (home ∷ [])
          ∙ either (list_any (is_that_index (object_of word.0)) holder.revived) (home == object_of word.0)
          (subst (λ (n : ℕ). (home == n) ≡ true) (sym word_index) (same_number home))
        where
          either : (a b : Bool) → b ≡ true → (a || (b || false)) ≡ true
          either true b is = refl
          either false true is = refl
          either false false is = absurd (let never : ⊥ = cc in never)

      may_set : MaySetCap (At counts owed) at entry (conf.index (grant 1).0) makes.new.slot word
      may_set = record {
        is_cpu = active.is_cpu;
        is_index = active.sound.state.within (grant 1).0 home_lives;
        holder = holds (holder.revived ++ home ∷ []) owed;
        call = call;
        allows = now_allows;
        one_slot = ap slots_set made_is;
        cspace = (grant 1).0;
        sets = slot_is;
        at_space = refl;
        shows = ap (λ (index : ℕ → ℕ). shown index (word_at new (grant 1).0 makes.new.slot)) (sym index_now);
        revived = λ makes_it. revived_home;
        covers = subst (λ (index : ℕ → ℕ). Covers (At counts owed) (holds (holder.revived ++ home ∷ []) owed) new index) (sym index_now) covers;
      }

      abbrev set_words : ℕ → ℕ → CapWord
      set_words = put_word conf.cap (conf.index (grant 1).0) makes.new.slot word

      abbrev Behind : (ℕ → ℕ) → Config
      Behind index = record conf {
        history = conf.history ++ event ∷ [];
        index = index;
        cap = set_words;
        count = counts;
        dead = put conf.dead home false;
        turn = Some (entered_by holder entry (holder.revived ++ home ∷ []) (owed_after (At counts owed) (holds (holder.revived ++ home ∷ []) owed) new index));
      }

      goes : set_cap (At counts owed) at entry (conf.index (grant 1).0) makes.new.slot word ≡ Behind later
      goes =
          ap (λ (current : Option Current). record (committed_by (At counts owed) entry (λ state. index_after (At counts owed) state word) current) { cap = set_words }) active.in_act.is_current
          ∙ ap Behind index_now

      set_leads : Leads (At counts owed)
          (SetCap (cpu_no at) entry (index_no (conf.index (grant 1).0)) makes.new.slot word ∷ [])
          Done
      set_leads =
          let is_sound : IsSound (set_cap (At counts owed) at entry (conf.index (grant 1).0) makes.new.slot word) =
          event_keeps_sound (At counts owed) (SetCap (cpu_no at) entry (index_no (conf.index (grant 1).0)) makes.new.slot word) sound may_set in
          record {
            done = (may_set, tt);
            behind = record {
              count = counts;
              owed = owed_after (At counts owed) (holds (holder.revived ++ home ∷ []) owed) new later;
              cap = set_words;
              is = goes;
              sound = is_sound;
              owes = none_owed;
            };
          }

    -- Revive

    module _ (counts owed : ℕ → ℕ)
        (owes : (i : ℕ) → owed i ≡ count_at conf.index (filter (is_made next) (gained s changes)) i)
        (sound : IsSound (at_owed conf holder counts owed)) where
      may_revive : MayRevive (at_owed conf holder counts owed) at home count
      may_revive = record {
        is_cpu = active.is_cpu;
        is_index = free.within;
        holder = with_amounts holder owed;
        call = call;
        has_turn = record { turn = refl; its_cpu = active.has_turn.its_cpu };
        in_act = active.in_act;
        uninhabited = free.uninhabited;
        counted = omega (arith, some_gained);
        bounded = omega (arith, few_gained);
        creates = makes.creates;
        does = ap is_done done.is;
        not_acted = judges.not_acted;
        first = active.unrevived;
      }

      owes_now : (i : ℕ) → put owed home count i ≡ count_at conf.index (filter (is_made next) (gained s changes)) i + extra i
      owes_now i =
          elim (eqb_tells i home) as (λ _. put owed home count i ≡ count_at conf.index (filter (is_made next) (gained s changes)) i + extra i) [
            | inl same ↦ subst (λ (n : ℕ). put owed home count n ≡ count_at conf.index (filter (is_made next) (gained s changes)) n + extra n) (sym same.1) (omega (arith, put_here owed home count, put_here (λ n. 0) home count, none_at s conf.index home (filter (is_made next) (gained s changes)) free.uninhabited (made_live s next (gained s changes) gained_fit)))
            | inr differs ↦ omega (arith, put_other owed home count i differs.0, extra_apart i differs.0, owes i)
          ]

      abbrev set_event : Event
      set_event = SetCap (cpu_no at) entry (index_no (conf.index (grant 1).0)) makes.new.slot word

      revive_leads : Leads (at_owed conf holder counts owed)
          (Revive (cpu_no at) (index_no home) count ∷ set_event ∷ []) Done
      revive_leads =
          let on : Leads (At (put counts home count) (put owed home count)) (set_event ∷ []) Done =
          set_leads (put counts home count) (put owed home count) owes_now
          (event_keeps_sound (at_owed conf holder counts owed) (Revive (cpu_no at) (index_no home) count) sound may_revive) in
          record { done = (may_revive, on.done); behind = on.behind }

    -- all of it

    abbrev rest_events : List Event
    rest_events =
        Revive (cpu_no at) (index_no home) count ∷ SetCap (cpu_no at) entry (index_no (conf.index (grant 1).0)) makes.new.slot word ∷ []

    on_gains : (there : Config) → IsOwing conf holder (commits.amounts conf at entry holder call active allows) there
        → Leads there rest_events Done
    unfolding commits.amounts owed_serials
    on_gains there has =
        subst (λ (one : Config). Leads one rest_events Done) (sym has.is)
        (revive_leads has.count has.owed (λ i. has.owes i ∙ plus i) (subst IsSound has.is has.sound))
      where
        plus : (i : ℕ) → holder.owed i + count_at conf.index (filter (is_made next) (gained s changes)) i ≡ count_at conf.index (filter (is_made next) (gained s changes)) i
        plus i = omega (arith, active.owes_nothing i)

    gains_alive : AllLive s.objects (owed_serials conf at entry holder call active allows)
    unfolding owed_serials
    gains_alive = made_live s next (gained s changes) gained_fit

    create_events : Leads conf (gains_owed at s conf.index (gained s changes) ++ rest_events) Done
    create_events =
        leads_append conf (gains_owed at s conf.index (gained s changes)) rest_events
        (IsOwing conf holder (commits.amounts conf at entry holder call active allows)) Done
        (gains_lead conf at entry holder call active allows gains_alive)
        (λ has. on_gains (after_all conf (gains_owed at s conf.index (gained s changes))) has)

    -- the events of the entry are these
    events_are : gains_owed at s conf.index (gained s changes)
        ++ (revives at s places conf.index (gained s changes) (added changes)
        ++ (entry_event at entry new conf.index (with_new s places conf.index (added changes)) (entries.slot_set changes)
        ∷ losses_settled at conf.index (lost s changes)))
        ≡ gains_owed at s conf.index (gained s changes) ++ rest_events
    events_are =
        ap (λ (made : Option ObjectRow). gains_owed at s conf.index (gained s changes) ++ (revives at s places conf.index (gained s changes) made ++ (entry_event at entry new conf.index (with_new s places conf.index made) (entries.slot_set changes) ∷ losses_settled at conf.index (lost s changes)))) (ap added made_is)
        ∙ ap (λ (set : Option (ℕ × ℕ)). gains_owed at s conf.index (gained s changes) ++ (revives at s places conf.index (gained s changes) (Some row) ++ (entry_event at entry new conf.index later set ∷ losses_settled at conf.index (lost s changes)))) slot_is
        ∙ ap (λ (losses : List Serial). gains_owed at s conf.index (gained s changes) ++ (revives at s places conf.index (gained s changes) (Some row) ++ (SetCap (cpu_no at) entry (index_no (conf.index (grant 1).0)) makes.new.slot word ∷ losses_settled at conf.index losses))) lost_is

    -- the entry of a create is committed, and its object has the new index
    pub create_commits : Leads conf (committing at entry conf) Done
    unfolding committing
    create_commits =
        subst (λ (current : Option Current). Leads conf (commits_of at entry conf current) Done) (sym active.in_act.is_current)
        (subst (λ (list : List Event). Leads conf list Done) (sym events_are) create_events)

    -- a create is committed, and its act has ended
    pub create_acts : Leads conf (committing at entry conf) (λ there. HasActed there at)
    create_acts =
        leads_so conf (committing at entry conf) Done (λ there. HasActed there at) create_commits
        (λ there committed. has_acted_there conf at call judges later (put conf.dead home false) (holder.revived ++ home ∷ []) there done none_behind new_blocks committed)
