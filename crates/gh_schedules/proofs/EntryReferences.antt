-- What an event of the history does to references: they move by its gains and losses, and what gains
-- or loses one lives before the event, or is the object that it makes.
use Rattle.std.proofs.Common.{◌≡◌, ◌+◌, ◌<◌, ◌≤◌, ◌∙◌, ◌⊎◌, inl, inr, ℕ, Bool, true, false, List, [], ◌∷◌, refl, subst, sym, arith, IsTrue, Option, Some, None, find, if◌then◌else◌}
use Rattle.std.specs.Prelude.{◌&&◌}
use Rattle.std.specs.List.{list_all}
use Rattle.std.proofs.lemmas.Bool.{and_from, and_parts}
use Rattle.gh_base.specs.declared.ids.Serial.{Serial}
use Rattle.gh_model.specs.Act.{counted, grants_of}
use Rattle.gh_model.specs.Changes.{changed, changed_all}
use Rattle.gh_model.specs.Decide.{has_moved, verdict}
use Rattle.gh_model.specs.History.{Event, after_entry, after_event, after_verdict, is_retired, is_unretired, may_act, may_part, numbered, took}
use Rattle.gh_model.specs.Legal.{is_revoke}
use Rattle.gh_model.specs.References.{is_doomed, references}
use Rattle.gh_model.specs.Rows.{fills, is_object, object_row}
use Rattle.gh_model.specs.declared.change.Change.{Change}
use Rattle.gh_model.specs.declared.change.Change.TheVariants as change
use Rattle.gh_model.specs.declared.change.Decision.{Decision}
use Rattle.gh_model.specs.declared.change.Decision.TheVariants.{Refuse, Unfinished, Make}
use Rattle.gh_model.specs.declared.entry.Entry.{Entry}
use Rattle.gh_model.specs.declared.entry.Entry.TheVariants.{Acted, Part, Retired, Reclaimed}
use Rattle.gh_model.specs.declared.rows.ObjectRow.{ObjectRow}
use Rattle.gh_model.specs.declared.state.State.{State}
use Rattle.gh_invariant.specs.Effects.{gained, gains, lost, losses, sets, times}
use Rattle.gh_invariant.specs.Events.{EntryFits, EventFits, changes_of, entry_changes, judged_by, made_by}
use Rattle.gh_invariant.specs.Grants.{GivesToReferred, is_referred}
use Rattle.gh_invariant.specs.Lives.{lives}
use Rattle.gh_invariant.specs.Premises.{MayChangeAll}
use Rattle.gh_invariant.specs.Valid.{IsValid, IsValidTo}
use Rattle.gh_invariant.proofs.ChangesInOrder.{references_all}
use Rattle.gh_invariant.proofs.DecisionGives.{decision_gives}
use Rattle.gh_invariant.proofs.EntriesKept.{begins}
use Rattle.gh_invariant.proofs.EventWords.{entry_of_calls, event_may}
use Rattle.gh_invariant.proofs.SetsOne.{is_of_calls, keeps_objects}
use Rattle.gh_invariant.proofs.ValidKept.{valid_kept}
use Rattle.gh_model.proofs.RoomLemmas.{change_counts}
use Rattle.gh_schedules.specs.Places.{added, adds}
use Rattle.gh_events.specs.Config.{is_acted}
use Rattle.gh_events.specs.Entries.{or_else, slot_set}
use Rattle.gh_events.specs.HolderEvents.{is_create}
use Rattle.gh_schedules.proofs.CallMakes.{Makes, MakesNew, decision_makes, keeps_all}
use Rattle.gh_schedules.proofs.ChangeLives.{AllLive, both_live, gains_live, lives_here, losses_live, sets_lives}
use Rattle.gh_events.proofs.EntryKeeps.{lives_same, none_of}
use Rattle.gh_events.proofs.EventObjects.{Goes, IsReclaimed, IsRetired, change_life, changes_life, entry_goes, life}

-- references move by gains and losses

abbrev Moved : State → State → List Change → ℕ → Type 0
Moved s new changes object =
    references new object + times object (lost s changes)
    ≡ references s object + times object (gained s changes)

module _ (s : State) (valid : IsValid s) (object : ℕ) (some : 0 < object) where
  all_moved : (changes : List Change) → MayChangeAll s changes
      → Moved s (changed_all s changes) changes object
  all_moved changes may =
      references_all (s.entries + 1) s changes object some (omega arith) (begins s valid) may

  acted_moved : (allowed : Bool) (decision : Decision)
      → MayChangeAll s (if allowed then made_by decision else [])
      → Moved s (if allowed then after_verdict s (verdict s decision) else numbered s) (if allowed then made_by decision else []) object
  acted_moved false decision may = refl
  acted_moved true (Refuse errno) may = refl
  acted_moved true Unfinished may = refl
  acted_moved true (Make changes reply) may = all_moved changes may

  either_moved : (allowed : Bool) (new : State) (changes : List Change)
      → (MayChangeAll s changes → Moved s new changes object)
      → MayChangeAll s (if allowed then changes else [])
      → Moved s (if allowed then new else numbered s) (if allowed then changes else []) object
  either_moved true new changes moved may = moved may
  either_moved false new changes moved may = refl

  entry_moved : (event : Event) (entry : Entry) → MayChangeAll s (entry_changes s event entry)
      → Moved s (after_entry s event entry) (entry_changes s event entry) object
  entry_moved event (Acted cpu number) may =
      acted_moved (may_act s cpu.0 event.call event.words) (judged_by s cpu.0 event) may
  entry_moved event (Part cpu number space slot) may =
      either_moved (may_part (find (fills space.0 slot) s.caps)) (numbered (took (changed s (change.RevokeCapability space slot)) space slot)) (change.RevokeCapability space slot ∷ [])
      (all_moved (change.RevokeCapability space slot ∷ [])) may
  entry_moved event (Retired serial seen) may =
      either_moved (is_doomed s serial.0 && is_unretired (object_row s serial.0)) (counted (changed s (change.Retire serial seen))) (change.Retire serial seen ∷ [])
      (all_moved (change.Retire serial seen ∷ [])) may
  entry_moved event (Reclaimed serial seen) may =
      either_moved (is_doomed s serial.0 && is_retired (object_row s serial.0)) (counted (changed s (change.Reclaim serial))) (change.Reclaim serial ∷ [])
      (all_moved (change.Reclaim serial ∷ [])) may

-- the references of an object behind an event
pub event_moved : (s : State) (event : Event) (object : ℕ) → IsValid s → EventFits s event
    → 0 < object
    → references (after_event s event) object + times object (lost s (changes_of s event))
    ≡ references s object + times object (gained s (changes_of s event))
event_moved s event object valid fits some =
    entry_moved s valid object some event event.entry (event_may s event valid fits)

-- what gains or loses one

live_same : (old new : List ObjectRow) (serials : List Serial)
    → ((serial : ℕ) → lives new serial ≡ lives old serial) → AllLive new serials → AllLive old serials
live_same old new [] same all = refl
live_same old new (serial ∷ serials) same all =
    let parts = and_parts (lives_here new serial) (list_all (lives_here new) serials) all in
    and_from _ _ (sym (same serial.0) ∙ parts.0) (live_same old new serials same parts.1)

-- changes that keep the objects that live: what they give and take references lives before them
pub record KeepLives (s : State) (changes : List Change) : Type 0 where
  pub gained : AllLive s.objects (gained s changes)
  pub lost : AllLive s.objects (lost s changes)

stay_alive : (s : State) (one : Change) → keeps_objects one ≡ true → (serial : ℕ)
    → lives (changed s one).objects serial ≡ lives s.objects serial
stay_alive s one keeps serial =
    lives_same (changed s one).objects s.objects serial (change_life s one serial keeps)

room_stays : (last : ℕ) (s : State) (one : Change) → s.entries + 1 ≤ last
    → (changed s one).entries + 1 ≤ last
room_stays last s one room =
    subst (λ (n : ℕ). n + 1 ≤ last) (sym (change_counts s one).entries) room

keep_lives : (last : ℕ) (s : State) (changes : List Change) → s.entries + 1 ≤ last
    → IsValidTo last s → MayChangeAll s changes → IsTrue (list_all keeps_objects changes)
    → IsTrue (list_all is_of_calls changes) → KeepLives s changes
keep_lives last s [] room valid may keep calls = record { gained = refl; lost = refl }
keep_lives last s (one ∷ others) room valid may keep calls =
    let keeps = and_parts (keeps_objects one) (list_all keeps_objects others) keep in
    let called = and_parts (is_of_calls one) (list_all is_of_calls others) calls in
    let rest : KeepLives (changed s one) others =
    keep_lives last (changed s one) others (room_stays last s one room) (valid_kept last s one room valid may.first) may.others keeps.1 called.1 in
    record {
      gained = both_live s.objects (gains s one) (gained (changed s one) others) (gains_live last s valid one called.0 may.first)
          (live_same s.objects (changed s one).objects (gained (changed s one) others) (stay_alive s one keeps.0) rest.gained);
      lost = both_live s.objects (losses s one) (lost (changed s one) others) (losses_live last s valid one may.first)
          (live_same s.objects (changed s one).objects (lost (changed s one) others) (stay_alive s one keeps.0) rest.lost);
    }

-- they make no object
none_added : (one : Change) → keeps_objects one ≡ true → adds one ≡ None
none_added (change.AddObject row) keeps = absurd (let never : ⊥ = cc in never)
none_added (change.AddPartition quota) keeps = refl
none_added (change.Retire object seen) keeps = refl
none_added (change.Reclaim object) keeps = refl
none_added (change.SetStage object stage) keeps = refl
none_added (change.ConfigureQueue queue depth size cost) keeps = refl
none_added (change.PutCapability row) keeps = refl
none_added (change.DropCapability cspace slot) keeps = refl
none_added (change.RevokeCapability cspace slot) keeps = refl
none_added (change.GiveQuota partition quota) keeps = refl
none_added (change.AddExtent row) keeps = refl
none_added (change.MovePages first count holder) keeps = refl
none_added (change.PutMapping row) keeps = refl
none_added (change.DropMapping row) keeps = refl
none_added (change.SetBell row) keeps = refl
none_added (change.PutMessage queue message) keeps = refl
none_added (change.DropMessage queue) keeps = refl
none_added (change.EmptyQueue queue) keeps = refl
none_added (change.Exit cpu) keeps = refl
none_added change.Ring keeps = refl
none_added (change.SetPages count) keeps = refl
none_added (change.AddRoot row) keeps = refl
none_added (change.SetRoom queue depth size) keeps = refl
none_added (change.FillSlot row) keeps = refl
none_added (change.AddCpu row) keeps = refl
none_added (change.AddLink row) keeps = refl

none_added_all : (changes : List Change) → IsTrue (list_all keeps_objects changes)
    → added changes ≡ None
none_added_all [] keep = refl
none_added_all (one ∷ others) keep =
    let keeps = and_parts (keeps_objects one) (list_all keeps_objects others) keep in
    rw (none_added one keeps.0) (none_added_all others keeps.1)

-- the slot that they set is one of a capability space that lives
or_none : (first others : Option (ℕ × ℕ)) (place : ℕ × ℕ) → or_else first others ≡ Some place
    → (first ≡ Some place) ⊎ (others ≡ Some place)
or_none None others place is = inr is
or_none (Some first) others place is = inl is

slot_home : (last : ℕ) (s : State) (changes : List Change) → s.entries + 1 ≤ last
    → IsValidTo last s → MayChangeAll s changes → IsTrue (list_all keeps_objects changes)
    → (place : ℕ × ℕ) → slot_set changes ≡ Some place → lives s.objects place.0 ≡ true
slot_home last s [] room valid may keep place is = absurd (let never : ⊥ = cc in never)
slot_home last s (one ∷ others) room valid may keep place is =
    let keeps = and_parts (keeps_objects one) (list_all keeps_objects others) keep in
    elim (or_none (sets one) (slot_set others) place is) as (λ _. lives s.objects place.0 ≡ true) [
      | inl here ↦ sets_lives last s valid one may.first place here
      | inr later ↦ sym (stay_alive s one keeps.0 place.0) ∙ slot_home last (changed s one) others (room_stays last s one room) (valid_kept last s one room valid may.first) may.others keeps.1 place later
    ]

-- what an event makes of the objects

-- it makes none: what it gives a reference, and what it takes one from, lives, and what lives behind
-- it lived before
pub record MakesNone (s : State) (event : Event) : Type 0 where
  pub none : added (changes_of s event) ≡ None
  pub gained : AllLive s.objects (gained s (changes_of s event))
  pub lost : AllLive s.objects (lost s (changes_of s event))
  pub lived : (serial : ℕ) → lives (after_event s event).objects serial ≡ true
      → lives s.objects serial ≡ true
  -- the capability space of a slot that it sets lives
  pub home : (place : ℕ × ℕ) → slot_set (changes_of s event) ≡ Some place
      → lives s.objects place.0 ≡ true

-- or it is a create's act, and makes one
pub record MakesOne (s : State) (event : Event) : Type 0 where
  pub acts : is_acted event.entry ≡ true
  pub creates : is_create event.call ≡ true
  pub new : MakesNew s event.call (grants_of event.call event.words) (changes_of s event)

abbrev pub Objects : State → Event → Type 0
Objects s event = MakesNone s event ⊎ MakesOne s event

-- the same of an entry of a kind
abbrev LivedBefore : State → State → Type 0
LivedBefore s new = (serial : ℕ) → lives new.objects serial ≡ true → lives s.objects serial ≡ true

record ReclaimsOne (s new : State) (changes : List Change) : Type 0 where
  none : added changes ≡ None
  gained : AllLive s.objects (gained s changes)
  lost : AllLive s.objects (lost s changes)
  lived : LivedBefore s new
  home : (place : ℕ × ℕ) → slot_set changes ≡ Some place → lives s.objects place.0 ≡ true

behind_lived : (s : State) (allowed : Bool) (decision : Decision)
    → IsTrue (list_all keeps_objects (made_by decision))
    → LivedBefore s (if allowed then after_verdict s (verdict s decision) else numbered s)
behind_lived s false decision keep serial alive = alive
behind_lived s true (Refuse errno) keep serial alive = alive
behind_lived s true Unfinished keep serial alive = alive
behind_lived s true (Make changes reply) keep serial alive =
    sym (lives_same (changed_all s changes).objects s.objects serial (changes_life s changes serial keep)) ∙ alive

if_keeps : (allowed : Bool) (changes : List Change) → IsTrue (list_all keeps_objects changes)
    → IsTrue (list_all keeps_objects (if allowed then changes else []))
if_keeps true changes keep = keep
if_keeps false changes keep = refl

module _ (s : State) (event : Event) (valid : IsValid s) where
  by_keeps : (new : State) (changes : List Change) → MayChangeAll s changes
      → IsTrue (list_all is_of_calls changes) → IsTrue (list_all keeps_objects changes)
      → LivedBefore s new → ReclaimsOne s new changes
  by_keeps new changes may calls keep lived =
      let both : KeepLives s changes = keep_lives (s.entries + 1) s changes (omega arith) (begins s valid) may keep calls in
      record { none = none_added_all changes keep; gained = both.gained; lost = both.lost; lived = lived; home = λ place is. slot_home (s.entries + 1) s changes (omega arith) (begins s valid) may keep place is }

  -- a retirement or a reclaim: at most one change, which gives no reference
  by_one : (new : State) (one : Change) (allowed : Bool)
      → MayChangeAll s (if allowed then one ∷ [] else []) → adds one ≡ None → gains s one ≡ [] → sets one ≡ None
      → LivedBefore s (if allowed then new else numbered s)
      → ReclaimsOne s (if allowed then new else numbered s) (if allowed then one ∷ [] else [])
  by_one new one true may none gives unset lived = record {
    none = rw none refl;
    gained = rw gives refl;
    lost = both_live s.objects (losses s one) [] (losses_live (s.entries + 1) s (begins s valid) one may.first) refl;
    lived = lived;
    home = λ place is. let nothing : slot_set (one ∷ []) ≡ None = rw unset refl in absurd (let never : ⊥ = cc in never);
  }
  by_one new one false may none gives unset lived =
      record { none = refl; gained = refl; lost = refl; lived = lived; home = λ place is. absurd (let never : ⊥ = cc in never) }

  retired_lived : (kind : Entry) (retired serial : ℕ)
      → (life (after_entry s event kind).objects serial ≡ life s.objects serial) ⊎ IsRetired s (after_entry s event kind) retired serial
      → lives (after_entry s event kind).objects serial ≡ true → lives s.objects serial ≡ true
  retired_lived kind retired serial (inl same) alive =
      sym (lives_same (after_entry s event kind).objects s.objects serial same) ∙ alive
  retired_lived kind retired serial (inr that) alive = sym that.lives_on ∙ alive

  reclaimed_lived : (kind : Entry) (reclaimed serial : ℕ)
      → (life (after_entry s event kind).objects serial ≡ life s.objects serial) ⊎ IsReclaimed s (after_entry s event kind) reclaimed serial
      → lives (after_entry s event kind).objects serial ≡ true → lives s.objects serial ≡ true
  reclaimed_lived kind reclaimed serial (inl same) alive =
      sym (lives_same (after_entry s event kind).objects s.objects serial same) ∙ alive
  reclaimed_lived kind reclaimed serial (inr that) alive =
      let gone : lives (after_entry s event kind).objects serial ≡ false = none_of (find (is_object serial) (after_entry s event kind).objects) that.gone in
      absurd (let never : ⊥ = cc in never)

  abbrev KindMakes : Entry → Type 0
  KindMakes kind =
      ReclaimsOne s (after_entry s event kind) (entry_changes s event kind)
      ⊎ ((is_acted kind ≡ true) × ((is_create event.call ≡ true) × MakesNew s event.call (grants_of event.call event.words) (entry_changes s event kind)))

  acted_makes : (cpu number : ℕ) (allowed : Bool) (decision : Decision)
      → MayChangeAll s (if allowed then made_by decision else [])
      → IsTrue (list_all is_of_calls (if allowed then made_by decision else []))
      → Makes s event.call (grants_of event.call event.words) decision
      → ReclaimsOne s (if allowed then after_verdict s (verdict s decision) else numbered s) (if allowed then made_by decision else [])
      ⊎ ((is_create event.call ≡ true) × MakesNew s event.call (grants_of event.call event.words) (if allowed then made_by decision else []))
  acted_makes cpu number allowed decision may calls (inl keep) =
      let all : IsTrue (list_all keeps_objects (made_by decision)) = keeps_all (is_revoke event.call) decision keep in
      inl (by_keeps _ (if allowed then made_by decision else []) may calls (if_keeps allowed (made_by decision) all) (behind_lived s allowed decision all))
  acted_makes cpu number true decision may calls (inr makes) = inr makes
  acted_makes cpu number false decision may calls (inr makes) =
      inl (record { none = refl; gained = refl; lost = refl; lived = λ serial alive. alive; home = λ place is. absurd (let never : ⊥ = cc in never) })

  act_kind : {A B C : Type 0} → A ⊎ B → C → A ⊎ (C × B)
  act_kind (inl a) c = inl a
  act_kind (inr b) c = inr (c, b)

  kind_makes : (kind : Entry) → MayChangeAll s (entry_changes s event kind) → KindMakes kind
  kind_makes (Acted cpu number) may =
      act_kind (acted_makes cpu.0 number (may_act s cpu.0 event.call event.words) (judged_by s cpu.0 event) may (entry_of_calls s event (Acted cpu number))
      (decision_makes s (has_moved s cpu.0 event.call event.words) cpu.0 event.call event.bytes (grants_of event.call event.words))) refl
  kind_makes (Part cpu number space slot) may =
      inl (by_keeps _ _ may (entry_of_calls s event (Part cpu number space slot)) (if_keeps (may_part (find (fills space.0 slot) s.caps)) (change.RevokeCapability space slot ∷ []) refl)
      (λ serial alive. retired_lived (Part cpu number space slot) 0 serial (part_goes serial) alive))
    where
      part_goes : (serial : ℕ) → (life (after_entry s event (Part cpu number space slot)).objects serial ≡ life s.objects serial) ⊎ IsRetired s (after_entry s event (Part cpu number space slot)) 0 serial
      part_goes serial = by_goes (entry_goes s event (Part cpu number space slot) serial)
        where
          by_goes : Goes s (after_entry s event (Part cpu number space slot)) event (Part cpu number space slot) serial
              → (life (after_entry s event (Part cpu number space slot)).objects serial ≡ life s.objects serial) ⊎ IsRetired s (after_entry s event (Part cpu number space slot)) 0 serial
          by_goes (inl same) = inl same
          by_goes (inr never) = absurd never
  kind_makes (Retired retired seen) may =
      inl (by_one (counted (changed s (change.Retire retired seen))) (change.Retire retired seen) (is_doomed s retired.0 && is_unretired (object_row s retired.0)) may refl refl refl
      (λ serial alive. retired_lived (Retired retired seen) retired.0 serial (entry_goes s event (Retired retired seen) serial) alive))
  kind_makes (Reclaimed reclaimed seen) may =
      inl (by_one (counted (changed s (change.Reclaim reclaimed))) (change.Reclaim reclaimed) (is_doomed s reclaimed.0 && is_retired (object_row s reclaimed.0)) may refl refl refl
      (λ serial alive. reclaimed_lived (Reclaimed reclaimed seen) reclaimed.0 serial (entry_goes s event (Reclaimed reclaimed seen) serial) alive))

  objects_by : KindMakes event.entry → Objects s event
  objects_by (inl none) = inl (record { none = none.none; gained = none.gained; lost = none.lost; lived = none.lived; home = none.home })
  objects_by (inr one) = inr (record { acts = one.0; creates = one.1.0; new = one.1.1 })

  -- an event makes no object or one
  pub event_objects : EventFits s event → Objects s event
  event_objects fits = objects_by (kind_makes event.entry (event_may s event valid fits))

-- what an event gives a reference has one, or is new

none_given : (s : State) (allowed : Bool) (one : Change) → gains s one ≡ []
    → IsTrue (list_all (is_referred s) (gained s (if allowed then one ∷ [] else [])))
none_given s true one none = rw none refl
none_given s false one none = refl

act_given : (s : State) (allowed : Bool) (decision : Decision) → GivesToReferred s decision
    → IsTrue (list_all (is_referred s) (gained s (if allowed then made_by decision else [])))
act_given s false decision gives = refl
act_given s true (Refuse errno) gives = refl
act_given s true Unfinished gives = refl
act_given s true (Make changes reply) gives = gives

entry_given : (s : State) (event : Event) (entry : Entry) → EntryFits s event entry
    → IsTrue (list_all (is_referred s) (gained s (entry_changes s event entry)))
entry_given s event (Acted cpu number) fits =
    act_given s (may_act s cpu.0 event.call event.words) (judged_by s cpu.0 event)
    (decision_gives s (has_moved s cpu.0 event.call event.words) cpu.0 event.call event.bytes (grants_of event.call event.words) fits)
entry_given s event (Part cpu number space slot) fits =
    none_given s (may_part (find (fills space.0 slot) s.caps)) (change.RevokeCapability space slot) refl
entry_given s event (Retired serial seen) fits =
    none_given s (is_doomed s serial.0 && is_unretired (object_row s serial.0)) (change.Retire serial seen) refl
entry_given s event (Reclaimed serial seen) fits =
    none_given s (is_doomed s serial.0 && is_retired (object_row s serial.0)) (change.Reclaim serial) refl

pub event_given : (s : State) (event : Event) → EventFits s event
    → IsTrue (list_all (is_referred s) (gained s (changes_of s event)))
event_given s event fits = entry_given s event event.entry fits
