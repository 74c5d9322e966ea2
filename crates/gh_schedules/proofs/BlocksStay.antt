-- Objects stay in the blocks of their partitions: no entry changes an object's kind or partition.
use Rattle.std.proofs.Common.{◌≡◌, ◌%◌, ◌∙◌, inl, inr, ℕ, Bool, true, false, List, [], ◌∷◌, refl, subst, sym, ap, IsTrue, Option, Some, None, find, is_some, if◌then◌else◌, ◌++◌, ◌<◌}
use Rattle.std.specs.Prelude.{◌&&◌, option_map}
use Rattle.std.specs.List.{list_all}
use Rattle.std.proofs.lemmas.Bool.{and_parts, eqb-true}
use Rattle.std.proofs.lemmas.List.Sums.{fold-append}
use Rattle.gh_base.specs.declared.ids.Serial.{Serial}
use Rattle.gh_base.specs.declared.kind.Kind.{Kind}
use Rattle.gh_model.specs.Act.{counted, grants_of}
use Rattle.gh_model.specs.Changes.{changed, changed_all, reclaim_object, retire_object, with_cost, with_counters, with_stage}
use Rattle.gh_model.specs.Decide.{has_moved, verdict}
use Rattle.gh_model.specs.History.{Event, after_entry, after_event, after_verdict, is_retired, is_unretired, may_act, may_part, numbered, replay}
use Rattle.gh_model.specs.Legal.{is_revoke}
use Rattle.gh_model.specs.References.{is_doomed}
use Rattle.gh_model.specs.Rows.{change_row, fills, is_object, object_row}
use Rattle.gh_model.specs.declared.change.Change.{Change}
use Rattle.gh_model.specs.declared.change.Change.TheVariants as change
use Rattle.gh_model.specs.declared.change.Decision.{Decision}
use Rattle.gh_model.specs.declared.change.Decision.TheVariants.{Refuse, Unfinished, Make}
use Rattle.gh_model.specs.declared.entry.Entry.{Entry}
use Rattle.gh_model.specs.declared.entry.Entry.TheVariants.{Acted, Part, Retired, Reclaimed}
use Rattle.gh_model.specs.declared.rows.ObjectRow.{ObjectRow}
use Rattle.gh_model.specs.declared.state.State.{State}
use Rattle.gh_invariant.specs.Events.{entry_changes, judged_by, made_by, changes_of}
use Rattle.gh_invariant.proofs.ChangedRow.{find_change_seen}
use Rattle.gh_invariant.proofs.SetsOne.{keeps_objects}
use Rattle.gh_schedules.specs.Places.{added, is_partition_kind, boot_place, places_behind, places_of, places_with}
use Rattle.gh_schedules.specs.Indices.{InBlocks, place_of}
use Rattle.gh_events.specs.References.{IsRow}
use Rattle.gh_schedules.proofs.CallMakes.{Makes, decision_makes, keeps_all}
use Rattle.gh_schedules.proofs.EntryReferences.{MakesNone}
use Rattle.gh_events.proofs.Finding.{found_passes}
use Rattle.gh_events.proofs.GraceReclaim.{Changed, Kept, RowBehind, reclaim_row}
use Rattle.gh_base.specs.declared.limits.TheConstants.{PARTITIONS}
use Rattle.gh_events.specs.Config.{Config, present}

-- what stays of an object: its kind and its partition
record Lot : Type 0 where
  kind : Kind
  partition : Serial

abbrev lot_of : ObjectRow → Lot
lot_of row = record { kind = row.kind; partition = row.partition }

abbrev lot : List ObjectRow → ℕ → Option Lot
lot objects serial = option_map lot_of (find (is_object serial) objects)

recast : (test : ObjectRow → Bool) (one : ObjectRow → ObjectRow) (objects : List ObjectRow) (serial : ℕ)
    → ((row : ObjectRow) → is_object serial (one row) ≡ is_object serial row)
    → ((row : ObjectRow) → lot_of (one row) ≡ lot_of row)
    → lot (change_row test one objects) serial ≡ lot objects serial
recast test one objects serial serials lots =
    find_change_seen (option_map lot_of) (is_object serial) test one objects serials (λ row. ap Some (lots row))

change_lot : (s : State) (one : Change) (serial : ℕ) → keeps_objects one ≡ true
    → lot (changed s one).objects serial ≡ lot s.objects serial
change_lot s (change.AddObject row) serial keeps = absurd (let never : ⊥ = cc in never)
change_lot s (change.Retire object seen) serial keeps = absurd (let never : ⊥ = cc in never)
change_lot s (change.Reclaim object) serial keeps = absurd (let never : ⊥ = cc in never)
change_lot s (change.SetStage object stage) serial keeps =
    recast (is_object object.0) (with_stage stage) s.objects serial (λ row. refl) (λ row. refl)
change_lot s (change.ConfigureQueue queue depth size cost) serial keeps =
    recast (is_object queue.0) (with_cost cost) s.objects serial (λ row. refl) (λ row. refl)
change_lot s (change.PutCapability row) serial keeps = refl
change_lot s (change.DropCapability cspace slot) serial keeps = refl
change_lot s (change.RevokeCapability cspace slot) serial keeps = refl
change_lot s (change.GiveQuota partition quota) serial keeps = refl
change_lot s (change.AddExtent row) serial keeps = refl
change_lot s (change.MovePages first count holder) serial keeps = refl
change_lot s (change.PutMapping row) serial keeps = refl
change_lot s (change.DropMapping row) serial keeps = refl
change_lot s (change.SetBell row) serial keeps = refl
change_lot s (change.PutMessage queue message) serial keeps = refl
change_lot s (change.DropMessage queue) serial keeps = refl
change_lot s (change.EmptyQueue queue) serial keeps = refl
change_lot s (change.Exit cpu) serial keeps = refl
change_lot s change.Ring serial keeps = refl
change_lot s (change.SetPages count) serial keeps = refl
change_lot s (change.AddPartition quota) serial keeps = absurd (let never : ⊥ = cc in never)
change_lot s (change.AddRoot row) serial keeps = refl
change_lot s (change.SetRoom queue depth size) serial keeps = refl
change_lot s (change.FillSlot row) serial keeps = refl
change_lot s (change.AddCpu row) serial keeps = refl
change_lot s (change.AddLink row) serial keeps = refl

changes_lot : (s : State) (changes : List Change) (serial : ℕ) → IsTrue (list_all keeps_objects changes)
    → lot (changed_all s changes).objects serial ≡ lot s.objects serial
changes_lot s [] serial keep = refl
changes_lot s (one ∷ others) serial keep =
    let parts = and_parts (keeps_objects one) (list_all keeps_objects others) keep in
    changes_lot (changed s one) others serial parts.1 ∙ change_lot s one serial parts.0

-- an entry that makes no object

behind_lot : (s : State) (decision : Decision) (serial : ℕ) → IsTrue (list_all keeps_objects (made_by decision))
    → lot (after_verdict s (verdict s decision)).objects serial ≡ lot s.objects serial
behind_lot s (Refuse errno) serial keep = refl
behind_lot s Unfinished serial keep = refl
behind_lot s (Make changes reply) serial keep = changes_lot s changes serial keep

acted_lot : (s : State) (event : Event) (allowed : Bool) (decision : Decision) (serial : ℕ)
    → added (if allowed then made_by decision else []) ≡ None
    → Makes s event.call (grants_of event.call event.words) decision
    → lot (if allowed then after_verdict s (verdict s decision) else numbered s).objects serial ≡ lot s.objects serial
acted_lot s event false decision serial none makes = refl
acted_lot s event true decision serial none (inl keep) =
    behind_lot s decision serial (keeps_all (is_revoke event.call) decision keep)
acted_lot s event true decision serial none (inr makes) =
    let some : added (made_by decision) ≡ Some _ = ap added makes.1.is in absurd (let never : ⊥ = cc in never)

either_lot : (s new : State) (allowed : Bool) (serial : ℕ) → lot new.objects serial ≡ lot s.objects serial
    → lot (let behind : State = if allowed then new else numbered s in behind).objects serial ≡ lot s.objects serial
either_lot s new true serial same = same
either_lot s new false serial same = refl

reclaimed_lot : (s : State) (serial : Serial) (allowed : Bool) (x : ℕ) → RowBehind s (counted (reclaim_object serial s)) serial.0 (λ object. None) x
    → is_some (object_row (if allowed then counted (reclaim_object serial s) else numbered s) x) ≡ true
    → lot (if allowed then counted (reclaim_object serial s) else numbered s).objects x ≡ lot s.objects x
reclaimed_lot s serial false x behind alive = refl
reclaimed_lot s serial true x (Kept same) alive = ap (option_map lot_of) same
reclaimed_lot s serial true x (Changed here now) alive =
    let none : is_some (object_row (counted (reclaim_object serial s)) x) ≡ false = ap is_some now in absurd (let never : ⊥ = cc in never)

entry_lot : (s : State) (event : Event) (entry : Entry) (serial : ℕ) → added (entry_changes s event entry) ≡ None
    → is_some (object_row (after_entry s event entry) serial) ≡ true
    → lot (after_entry s event entry).objects serial ≡ lot s.objects serial
entry_lot s event (Acted cpu number) serial none alive =
    acted_lot s event (may_act s cpu.0 event.call event.words) (judged_by s cpu.0 event) serial none
    (decision_makes s (has_moved s cpu.0 event.call event.words) cpu.0 event.call event.bytes (grants_of event.call event.words))
entry_lot s event (Part cpu number space slot) serial none alive =
    either_lot s _ (may_part (find (fills space.0 slot) s.caps)) serial refl
entry_lot s event (Retired retired seen) serial none alive =
    either_lot s (counted (retire_object retired seen s)) (is_doomed s retired.0 && is_unretired (object_row s retired.0)) serial
    (recast (is_object retired.0) (with_counters seen) s.objects serial (λ row. refl) (λ row. refl))
entry_lot s event (Reclaimed reclaimed seen) serial none alive =
    reclaimed_lot s reclaimed (is_doomed s reclaimed.0 && is_retired (object_row s reclaimed.0)) serial (reclaim_row s reclaimed serial) alive

-- the old row of an object
record OldRow (s : State) (row : ObjectRow) : Type 0 where
  old : ObjectRow
  is_old : IsRow s old
  same : old.serial.0 ≡ row.serial.0
  lot_is : lot_of old ≡ lot_of row

old_by : (s : State) (row : ObjectRow) (found : Option ObjectRow) → object_row s row.serial.0 ≡ found
    → Some (lot_of row) ≡ option_map lot_of found → OldRow s row
old_by s row None is same = absurd (let never : ⊥ = cc in never)
old_by s row (Some old) is same =
    let that : old.serial.0 ≡ row.serial.0 = eqb-true old.serial.0 row.serial.0 (found_passes (is_object row.serial.0) s.objects old is) in
    record {
      old = old;
      is_old = subst (λ (n : ℕ). find (is_object n) s.objects ≡ Some old) (sym that) is;
      same = that;
      lot_is = let lots : lot_of row ≡ lot_of old = cc in sym lots;
    }

-- the places behind one more event
pub places_push : (s : State) (places : ℕ → ℕ) (events : List Event) (event : Event)
    → places_behind s places (events ++ event ∷ [])
    ≡ places_with (replay s events) (places_behind s places events) (added (changes_of (replay s events) event))
unfolding places_behind
places_push s places [] event = refl
places_push s places (first ∷ events) event =
    places_push (after_event s first) (places_with s places (added (changes_of s first))) events event

-- the places behind an event of the present state
abbrev pub places_next : Config → Event → ℕ → ℕ
places_next conf event = places_with (present conf) (places_of conf) (added (changes_of (present conf) event))

-- an event that makes no object leaves the places
pub places_stay : (conf : Config) (event : Event) → added (changes_of (present conf) event) ≡ None
    → places_behind conf.boot (boot_place conf.boot) (conf.history ++ event ∷ []) ≡ places_of conf
places_stay conf event none =
    places_push conf.boot (boot_place conf.boot) conf.history event ∙ ap (places_with (present conf) (places_of conf)) none

-- objects lie in their blocks behind an entry, where they lie so in the state that it makes
pub entered_blocks : (conf : Config) (event : Event) (index : ℕ → ℕ)
    → InBlocks (after_event (present conf) event) (places_next conf event) index
    → InBlocks (replay conf.boot (conf.history ++ event ∷ [])) (places_behind conf.boot (boot_place conf.boot) (conf.history ++ event ∷ [])) index
entered_blocks conf event index blocks =
    subst (λ (places : ℕ → ℕ). InBlocks (replay conf.boot (conf.history ++ event ∷ [])) places index)
    (sym (places_push conf.boot (boot_place conf.boot) conf.history event))
    (subst (λ (s : State). InBlocks s (places_next conf event) index) (sym (fold-append after_event conf.boot conf.history (event ∷ []))) blocks)

-- objects stay in their blocks
stay_blocks : (s : State) (event : Event) (places index : ℕ → ℕ) → MakesNone s event → InBlocks s places index
    → InBlocks (after_event s event) places index
stay_blocks s event places index makes blocks = record {
  apart = λ row other is also part too same.
      let one : OldRow s row = old_row row is in
      let two : OldRow s other = old_row other also in
      sym one.same ∙ blocks.apart one.old two.old one.is_old two.is_old (of_kind row one part) (of_kind other two too) (ap places one.same ∙ same ∙ sym (ap places two.same)) ∙ two.same;
  few = λ row is part.
      let one : OldRow s row = old_row row is in
      subst (λ (n : ℕ). places n < PARTITIONS) one.same (blocks.few one.old one.is_old (of_kind row one part));
  each = λ row is.
      let one : OldRow s row = old_row row is in
      ap (λ (n : ℕ). place_of (index n)) (sym one.same) ∙ blocks.each one.old one.is_old ∙ ap (λ (its : Lot). places its.partition.0) one.lot_is;
}
  where
    old_row : (row : ObjectRow) → IsRow (after_event s event) row → OldRow s row
    old_row row is =
        old_by s row (object_row s row.serial.0) refl
        (sym (ap (option_map lot_of) is) ∙ entry_lot s event event.entry row.serial.0 makes.none (ap is_some is))

    of_kind : (row : ObjectRow) (one : OldRow s row) → is_partition_kind row.kind ≡ true → is_partition_kind one.old.kind ≡ true
    of_kind row one part = ap (λ (its : Lot). is_partition_kind its.kind) one.lot_is ∙ part

pub plain_blocks : (conf : Config) (event : Event) (index : ℕ → ℕ) → MakesNone (present conf) event
    → InBlocks (present conf) (places_of conf) index → InBlocks (after_event (present conf) event) (places_next conf event) index
plain_blocks conf event index makes blocks =
    subst (λ (places : ℕ → ℕ). InBlocks (after_event (present conf) event) places index)
    (sym (ap (places_with (present conf) (places_of conf)) makes.none))
    (stay_blocks (present conf) event (places_of conf) index makes blocks)
