-- The slot that an entry sets is of a capability space that lives before it: the slot is filled, or
-- a capability is put into a space that isn't the object that the entry makes.
use Rattle.std.proofs.Common.{◌≡◌, ◌+◌, ◌≤◌, ◌<◌, ◌∙◌, ◌⊎◌, inl, inr, ℕ, Bool, true, false, List, [], ◌∷◌, ◌++◌, refl, subst, sym, ap, arith, IsTrue, Option, Some, None, find, is_some, if◌then◌else◌}
use Rattle.std.specs.Prelude.{◌&&◌, ◌==◌}
use Rattle.std.specs.List.{list_all}
use Rattle.std.proofs.lemmas.Bool.{and_parts, eqb-true}
use Rattle.std.proofs.lemmas.Bool.Decides.{nat_tests}
use Rattle.gh_base.specs.declared.cap_word.CapWord.{CapWord}
use Rattle.gh_base.specs.declared.kind.Kind.TheVariants as kind
use Rattle.gh_invariant.specs.Effects.{sets}
use Rattle.gh_invariant.specs.Events.{entry_changes, judged_by, made_by}
use Rattle.gh_invariant.specs.Lives.{lives, slot_fits}
use Rattle.gh_invariant.specs.Premises.{MayAdd, MayChange, MayChangeAll, MayPut}
use Rattle.gh_invariant.specs.Valid.{IsValid, IsValidTo}
use Rattle.gh_model.proofs.RoomLemmas.{change_counts}
use Rattle.gh_invariant.proofs.Counting.{find_push_other, found_all, found_passes}
use Rattle.gh_invariant.proofs.EntriesKept.{begins}
use Rattle.gh_invariant.proofs.EventWords.{event_may}
use Rattle.gh_invariant.proofs.Living.{lives_made}
use Rattle.gh_invariant.proofs.SetsOne.{MakesOne, decision_sets, keeps_objects}
use Rattle.gh_invariant.proofs.SlotsFit.{SlotParts, slot_parts}
use Rattle.gh_invariant.proofs.ValidKept.{valid_kept}
use Rattle.gh_model.specs.Act.{grants_of}
use Rattle.gh_model.specs.Changes.{changed}
use Rattle.gh_model.specs.Decide.{has_moved}
use Rattle.gh_model.specs.Decisions.{grant_at}
use Rattle.gh_model.specs.History.{Event, is_retired, is_unretired, may_act, may_part}
use Rattle.gh_model.specs.References.{is_doomed}
use Rattle.gh_model.specs.Registers.{needs_of}
use Rattle.gh_model.specs.Rows.{fills, is_object, object_row}
use Rattle.gh_model.specs.declared.change.Change.{Change}
use Rattle.gh_model.specs.declared.change.Change.TheVariants as change
use Rattle.gh_model.specs.declared.entry.Entry.{Entry}
use Rattle.gh_model.specs.declared.entry.Entry.TheVariants.{Acted, Part, Retired, Reclaimed}
use Rattle.gh_model.specs.declared.rows.CapabilityRow.{CapabilityRow}
use Rattle.gh_model.specs.declared.rows.ObjectRow.{ObjectRow}
use Rattle.gh_model.specs.declared.state.State.{State}
use Rattle.gh_events.specs.Config.{Config, present}
use Rattle.gh_events.specs.Entries.{logged, or_else, slot_set}
use Rattle.gh_events.specs.TurnEvents.{MaySetCap}
use Rattle.gh_events.specs.ValidState.{CallFits, HasValid}
use Rattle.gh_events.proofs.ActFits.{grants_made}
use Rattle.gh_events.proofs.EntryKeeps.{lives_same}
use Rattle.gh_events.proofs.EventObjects.{change_life}
use Rattle.gh_events.proofs.ValidEntries.{event_fits}
use Rattle.gh_events.proofs.WordsFollow.{lives_any}

module _ (cspace slot : ℕ) where
  -- a filled slot's space lives, also in the midst of an entry
  filled_home : (last : ℕ) (s : State) (found : Option CapabilityRow) → IsValidTo last s
      → find (fills cspace slot) s.caps ≡ found → is_some found ≡ true
      → lives s.objects cspace ≡ true
  filled_home last s None valid is some = absurd (let never : ⊥ = cc in never)
  filled_home last s (Some row) valid is some =
      let parts : SlotParts s.next_serial s.objects row = slot_parts s.next_serial s.objects row (found_all (fills cspace slot) (slot_fits s.next_serial s.objects) s.caps row valid.slots.filled is) in
      let both = and_parts (row.cspace.0 == cspace) (row.slot == slot) (found_passes (fills cspace slot) s.caps row is) in
      subst (λ (n : ℕ). lives s.objects n ≡ true) (eqb-true row.cspace.0 cspace both.0) (lives_any s.objects row.cspace.0 kind.Cspace parts.home)

-- so does that of a slot that a change sets which may be made
set_home : (last : ℕ) (s : State) (one : Change) (place : ℕ × ℕ) → IsValidTo last s
    → MayChange s one → sets one ≡ Some place → lives s.objects place.0 ≡ true
set_home last s (change.PutCapability row) place valid may is =
    let same : (row.cspace.0, row.slot) ≡ place = cc in
    subst (λ (p : ℕ × ℕ). lives s.objects p.0 ≡ true) same (lives_any s.objects row.cspace.0 kind.Cspace may.home)
set_home last s (change.DropCapability home n) place valid may is =
    let same : (home.0, n) ≡ place = cc in
    subst (λ (p : ℕ × ℕ). lives s.objects p.0 ≡ true) same (filled_home home.0 n last s (find (fills home.0 n) s.caps) valid refl may)
set_home last s (change.RevokeCapability home n) place valid may is =
    let same : (home.0, n) ≡ place = cc in
    subst (λ (p : ℕ × ℕ). lives s.objects p.0 ≡ true) same (filled_home home.0 n last s (find (fills home.0 n) s.caps) valid refl may)
set_home last s _ place valid may is = absurd (let never : ⊥ = cc in never)

first_home : (last : ℕ) (s : State) (one : Change) (place : ℕ × ℕ) (first others : Option (ℕ × ℕ))
    → IsValidTo last s → MayChange s one → sets one ≡ first → or_else first others ≡ Some place
    → (others ≡ Some place → lives s.objects place.0 ≡ true) → lives s.objects place.0 ≡ true
first_home last s one place None others valid may here is later = later is
first_home last s one place (Some first) others valid may here is later =
    set_home last s one place valid may (here ∙ is)

-- and that of the slot that changes set, where they make no object
kept_home : (last : ℕ) (s : State) (changes : List Change) (place : ℕ × ℕ) → s.entries + 1 ≤ last
    → IsValidTo last s → MayChangeAll s changes → IsTrue (list_all keeps_objects changes)
    → slot_set changes ≡ Some place → lives s.objects place.0 ≡ true
kept_home last s [] place room valid may keep is = absurd (let never : ⊥ = cc in never)
kept_home last s (one ∷ others) place room valid may keep is =
    let parts = and_parts (keeps_objects one) (list_all keeps_objects others) keep in
    first_home last s one place (sets one) (slot_set others) valid may.first refl is (λ later.
    sym (lives_same (changed s one).objects s.objects place.0 (change_life s one place.0 parts.0))
    ∙ kept_home last (changed s one) others place (subst (λ (n : ℕ). n + 1 ≤ last) (sym (change_counts s one).entries) room) (valid_kept last s one room valid may.first) may.others parts.1 later)

module _ (s : State) (valid : IsValid s) where
  -- a space that was made isn't the object that is added
  added_home : (row : ObjectRow) (cap : CapabilityRow) → row.serial.0 ≡ s.next_serial
      → cap.cspace.0 < s.next_serial → MayPut (changed s (change.AddObject row)) cap
      → lives s.objects cap.cspace.0 ≡ true
  added_home row cap next made may =
      let other : (row.serial.0 == cap.cspace.0) ≡ false = grind (arith, nat_tests) in
      let same : find (is_object cap.cspace.0) (s.objects ++ row ∷ []) ≡ find (is_object cap.cspace.0) s.objects = find_push_other (is_object cap.cspace.0) s.objects row other in
      sym (ap (λ (found : Option ObjectRow). is_some found) same) ∙ lives_any (changed s (change.AddObject row)).objects cap.cspace.0 kind.Cspace may.home

  -- something was made where an object may be added
  some_made : (row : ObjectRow) → MayAdd s row → 0 < s.next_serial
  some_made row may =
      let home : row.partition.0 < s.next_serial = lives_made s.objects s.next_serial valid.objects row.partition.0 kind.Partition may.partition in
      omega (arith, home)

  made_home : (row : ObjectRow) (cap : CapabilityRow) (home : ℕ) (place : ℕ × ℕ)
      → row.serial.0 ≡ s.next_serial → cap.cspace.0 ≡ home
      → (0 < s.next_serial → home < s.next_serial)
      → MayChangeAll s (change.AddObject row ∷ change.PutCapability cap ∷ [])
      → slot_set (change.AddObject row ∷ change.PutCapability cap ∷ []) ≡ Some place
      → lives s.objects place.0 ≡ true
  made_home row cap home place next there made may is =
      let same : (cap.cspace.0, cap.slot) ≡ place = cc in
      let before : cap.cspace.0 < s.next_serial = omega (arith, there, made (some_made row may.first)) in
      subst (λ (p : ℕ × ℕ). lives s.objects p.0 ≡ true) same (added_home row cap next before may.others.first)

  acted_home : (home : ℕ) (changes : List Change) (place : ℕ × ℕ)
      → (0 < s.next_serial → home < s.next_serial)
      → IsTrue (list_all keeps_objects changes) ⊎ MakesOne s home changes
      → MayChangeAll s changes → slot_set changes ≡ Some place → lives s.objects place.0 ≡ true
  acted_home home changes place made (inl keep) may is =
      kept_home (s.entries + 1) s changes place (omega arith) (begins s valid) may keep is
  acted_home home changes place made (inr one) may is =
      made_home one.row one.cap home place one.serial one.there made
      (subst (λ (all : List Change). MayChangeAll s all) one.is may)
      (subst (λ (all : List Change). slot_set all ≡ Some place) one.is is)

  if_home : (allowed : Bool) (changes : List Change) (place : ℕ × ℕ)
      → (MayChangeAll s changes → slot_set changes ≡ Some place → lives s.objects place.0 ≡ true)
      → MayChangeAll s (if allowed then changes else [])
      → slot_set (if allowed then changes else []) ≡ Some place → lives s.objects place.0 ≡ true
  if_home true changes place behind may is = behind may is
  if_home false changes place behind may is = absurd (let never : ⊥ = cc in never)

  never_set : (one : Change) (place : ℕ × ℕ) → sets one ≡ None
      → slot_set (one ∷ []) ≡ Some place → lives s.objects place.0 ≡ true
  never_set one place none is =
      let empty : None ≡ Some place = sym (ap (λ (first : Option (ℕ × ℕ)). or_else first None) none) ∙ is in
      absurd (let never : ⊥ = cc in never)

  entry_home : (event : Event) (entry : Entry) (place : ℕ × ℕ)
      → (0 < s.next_serial → (grant_at (grants_of event.call event.words) 1).0 < s.next_serial)
      → MayChangeAll s (entry_changes s event entry)
      → slot_set (entry_changes s event entry) ≡ Some place → lives s.objects place.0 ≡ true
  entry_home event (Acted cpu number) place made may is =
      if_home (may_act s cpu.0 event.call event.words) (made_by (judged_by s cpu.0 event)) place
      (acted_home (grant_at (grants_of event.call event.words) 1).0 (made_by (judged_by s cpu.0 event)) place made
      (decision_sets s (has_moved s cpu.0 event.call event.words) cpu.0 event.call event.bytes (grants_of event.call event.words)).makes) may is
  entry_home event (Part cpu number space n) place made may is =
      if_home (may_part (find (fills space.0 n) s.caps)) (change.RevokeCapability space n ∷ []) place
      (λ allowed set. kept_home (s.entries + 1) s (change.RevokeCapability space n ∷ []) place (omega arith) (begins s valid) allowed refl set) may is
  entry_home event (Retired serial seen) place made may is =
      if_home (is_doomed s serial.0 && is_unretired (object_row s serial.0)) (change.Retire serial seen ∷ []) place
      (λ allowed set. never_set (change.Retire serial seen) place refl set) may is
  entry_home event (Reclaimed serial seen) place made may is =
      if_home (is_doomed s serial.0 && is_retired (object_row s serial.0)) (change.Reclaim serial ∷ []) place
      (λ allowed set. never_set (change.Reclaim serial) place refl set) may is

-- the space of the slot that SetCap sets lives
pub set_cap_home : (conf : Config) (at : ℕ) (entry : Entry) (space slot : ℕ) (word : CapWord)
    → HasValid conf → (may : MaySetCap conf at entry space slot word)
    → lives (present conf).objects may.cspace ≡ true
set_cap_home conf at entry space slot word fit may =
    let call : CallFits (present conf) may.call = (fit.cpus at).current may.call may.allows.in_act.is_current in
    entry_home (present conf) fit.valid (logged entry may.call) entry (may.cspace, slot)
    (λ some. grants_made (present conf) (needs_of may.call.given.call) may.call.seen (call.granted may.allows.in_act.at_stage) call.found some 1)
    (event_may (present conf) (logged entry may.call) fit.valid (event_fits conf at entry may.holder may.call conf.index may.allows fit)) may.sets
