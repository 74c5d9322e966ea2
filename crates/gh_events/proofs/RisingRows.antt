-- Objects stand by rising serial in every state of a history: a new one has the greatest serial, and
-- the others keep theirs and their order.
use Rattle.std.proofs.Common.{◌≡◌, ◌<◌, ◌+◌, ◌∙◌, ◌&&◌, ◌⊎◌, inl, inr, ℕ, zero, suc, Bool, true, false, not, List, [], ◌∷◌, ◌++◌, take, refl, sym, ap, subst, arith, IsTrue, find, map, filter, if◌then◌else◌}
use Rattle.std.specs.Prelude.{nat_lt}
use Rattle.std.specs.List.{list_all}
use Rattle.std.proofs.lemmas.Bool.{and_from, and_parts, cases_Bool, lt-ltb, ltb-true}
use Rattle.std.proofs.lemmas.List.{map_push}
use Rattle.std.proofs.lemmas.List.Folds.{list_all-append}
use Rattle.gh_base.specs.declared.ids.Serial.{Serial}
use Rattle.gh_base.specs.declared.mark.Held.{Held}
use Rattle.gh_model.specs.Boot.{boot_fits, boot_state, empty_state}
use Rattle.gh_model.specs.Changes.{changed, changed_all, with_cost, with_counters, with_stage}
use Rattle.gh_model.specs.Decide.{has_moved, verdict}
use Rattle.gh_model.specs.Act.{grants_of}
use Rattle.gh_model.specs.Held.{AreHeld, is_held, serial_of, serial_of_row}
use Rattle.gh_model.specs.History.{Event, after_entry, after_event, after_verdict, is_retired, is_unretired, may_act, may_part, replay, state_at}
use Rattle.gh_model.specs.References.{is_doomed}
use Rattle.gh_model.specs.Rows.{change_row, fills, is_object, object_row}
use Rattle.gh_model.specs.declared.boot_line.BootLine.{BootLine}
use Rattle.gh_model.specs.declared.change.Change.{Change}
use Rattle.gh_model.specs.declared.change.Change.TheVariants.{PutCapability, DropCapability, RevokeCapability, AddObject, SetStage, Retire, Reclaim, GiveQuota, AddExtent, MovePages, PutMapping, DropMapping, SetBell, ConfigureQueue, PutMessage, DropMessage, EmptyQueue, Exit, Ring, SetPages, AddPartition, AddRoot, SetRoom, FillSlot, AddCpu, AddLink}
use Rattle.gh_model.specs.declared.change.Decision.{Decision}
use Rattle.gh_model.specs.declared.change.Decision.TheVariants.{Refuse, Unfinished, Make}
use Rattle.gh_model.specs.declared.entry.Entry.{Entry}
use Rattle.gh_model.specs.declared.entry.Entry.TheVariants.{Acted, Part, Retired, Reclaimed}
use Rattle.gh_model.specs.declared.rows.ObjectRow.{ObjectRow}
use Rattle.gh_model.specs.declared.state.State.{State}
use Rattle.gh_model.proofs.ChangedRows.{change_here, change_later}
use Rattle.gh_invariant.specs.BootChanges.{boot_changes}
use Rattle.gh_invariant.specs.Events.{EntryFits, EventsFit, judged_by}
use Rattle.gh_invariant.specs.Grants.{MayMake}
use Rattle.gh_invariant.specs.Premises.{MayChange, MayChangeAll}
use Rattle.gh_invariant.specs.Valid.{IsValid}
use Rattle.gh_invariant.proofs.BootValid.{boot_makes, boot_may, boot_valid}
use Rattle.gh_invariant.proofs.DecisionMade.{decision_made}
use Rattle.gh_invariant.proofs.EventsKept.{event_valid}
use Rattle.gh_events.specs.Rising.{rises, serials_held, serials_of}

-- lists of numbers

-- the number is less than the next one that is to be given
abbrev is_below : ℕ → ℕ → Bool
is_below next n = nat_lt n next

-- a number above all others may stand behind them
push_rises : (n : ℕ) (numbers : List ℕ) → IsTrue (rises numbers) → IsTrue (list_all (is_below n) numbers) → IsTrue (rises (numbers ++ n ∷ []))
push_rises n [] rising below = refl
push_rises n (first ∷ others) rising below =
    let both = and_parts (list_all (nat_lt first) others) (rises others) rising in
    let less = and_parts (is_below n first) (list_all (is_below n) others) below in
    and_from (list_all (nat_lt first) (others ++ n ∷ [])) (rises (others ++ n ∷ []))
    (list_all-append (nat_lt first) others (n ∷ [])
    ∙ and_from (list_all (nat_lt first) others) (nat_lt first n && true) both.0 (and_from (nat_lt first n) true less.0 refl))
    (push_rises n others both.1 less.1)

below_more : (next : ℕ) (numbers : List ℕ) → IsTrue (list_all (is_below next) numbers) → IsTrue (list_all (is_below (next + 1)) numbers)
below_more next [] below = refl
below_more next (first ∷ others) below =
    let both = and_parts (is_below next first) (list_all (is_below next) others) below in
    let less : first < next = ltb-true first next both.0 in
    and_from (is_below (next + 1) first) (list_all (is_below (next + 1)) others) (lt-ltb first (next + 1) (omega arith))
    (below_more next others both.1)

-- rows

module _ (p : ObjectRow → Bool) where
  -- what holds of all serials holds of those of some rows
  all_filtered : (q : ℕ → Bool) (rows : List ObjectRow) → IsTrue (list_all q (serials_of rows)) → IsTrue (list_all q (serials_of (filter p rows)))
  all_filtered q [] all = refl
  all_filtered q (row ∷ rows) all =
      let both = and_parts (q row.serial.0) (list_all q (serials_of rows)) all in
      let others = all_filtered q rows both.1 in
      by_test (p row) others (and_from (q row.serial.0) (list_all q (serials_of (filter p rows))) both.0 others)
    where
      by_test : (here : Bool) → IsTrue (list_all q (serials_of (filter p rows))) → IsTrue (list_all q (serials_of (row ∷ filter p rows)))
          → IsTrue (list_all q (serials_of (if here then row ∷ filter p rows else filter p rows)))
      by_test true without_it with_it = with_it
      by_test false without_it with_it = without_it

  -- some rows stand in the order of all
  filter_rises : (rows : List ObjectRow) → IsTrue (rises (serials_of rows)) → IsTrue (rises (serials_of (filter p rows)))
  filter_rises [] rising = refl
  filter_rises (row ∷ rows) rising =
      let both = and_parts (list_all (nat_lt row.serial.0) (serials_of rows)) (rises (serials_of rows)) rising in
      let others = filter_rises rows both.1 in
      by_test (p row) others
      (and_from (list_all (nat_lt row.serial.0) (serials_of (filter p rows))) (rises (serials_of (filter p rows)))
      (all_filtered (nat_lt row.serial.0) rows both.0) others)
    where
      by_test : (here : Bool) → IsTrue (rises (serials_of (filter p rows))) → IsTrue (rises (serials_of (row ∷ filter p rows)))
          → IsTrue (rises (serials_of (if here then row ∷ filter p rows else filter p rows)))
      by_test true without_it with_it = with_it
      by_test false without_it with_it = without_it

-- a row that keeps its serial leaves the serials
module _ (test : ObjectRow → Bool) (change : ObjectRow → ObjectRow) (same : (row : ObjectRow) → (change row).serial.0 ≡ row.serial.0) where
  change_serials : (rows : List ObjectRow) → serials_of (change_row test change rows) ≡ serials_of rows
  change_serials [] = refl
  change_serials (row ∷ rows) = by_test (change_serials rows) (cases_Bool (test row))
    where
      by_test : serials_of (change_row test change rows) ≡ serials_of rows → (test row ≡ true) ⊎ (test row ≡ false)
          → serials_of (change_row test change (row ∷ rows)) ≡ serials_of (row ∷ rows)
      by_test others (inl here) =
          ap serials_of (change_here test change row rows here) ∙ ap (λ (n : ℕ). n ∷ serials_of rows) (same row)
      by_test others (inr later) =
          ap serials_of (change_later test change row rows later)
          ∙ ap (λ (numbers : List ℕ). row.serial.0 ∷ numbers) others

-- states

-- the objects stand by rising serial, each below the next one that is to be given
record StandRising (next : ℕ) (objects : List ObjectRow) : Type 0 where
  rising : IsTrue (rises (serials_of objects))
  below : IsTrue (list_all (is_below next) (serials_of objects))

abbrev StandIn : State → Type 0
StandIn s = StandRising s.next_serial s.objects

-- an object of the next serial is added
added : (next : ℕ) (objects : List ObjectRow) (row : ObjectRow) → row.serial.0 ≡ next → StandRising next objects → StandRising (next + 1) (objects ++ row ∷ [])
added next objects row is stand =
    let list : serials_of (objects ++ row ∷ []) ≡ serials_of objects ++ next ∷ [] =
    map_push (λ (one : ObjectRow). one.serial.0) objects row ∙ ap (λ (n : ℕ). serials_of objects ++ n ∷ []) is in
    record {
      rising = subst (λ (numbers : List ℕ). IsTrue (rises numbers)) (sym list) (push_rises next (serials_of objects) stand.rising stand.below);
      below =
          subst (λ (numbers : List ℕ). IsTrue (list_all (is_below (next + 1)) numbers)) (sym list)
          (list_all-append (is_below (next + 1)) (serials_of objects) (next ∷ [])
          ∙ and_from (list_all (is_below (next + 1)) (serials_of objects)) (is_below (next + 1) next && true)
          (below_more next (serials_of objects) stand.below)
          (and_from (is_below (next + 1) next) true (lt-ltb next (next + 1) (omega arith)) refl));
    }

-- the serials are as before
stands_by : (next : ℕ) (new old : List ObjectRow) → serials_of new ≡ serials_of old → StandRising next old → StandRising next new
stands_by next new old same stand = record {
  rising = subst (λ (numbers : List ℕ). IsTrue (rises numbers)) (sym same) stand.rising;
  below = subst (λ (numbers : List ℕ). IsTrue (list_all (is_below next) numbers)) (sym same) stand.below;
}

change_stands : (s : State) (change : Change) → StandIn s → MayChange s change → StandIn (changed s change)
change_stands s (PutCapability row) stand may = stand
change_stands s (DropCapability cspace slot) stand may = stand
change_stands s (RevokeCapability cspace slot) stand may = stand
change_stands s (AddObject row) stand may = added s.next_serial s.objects row may.serial stand
change_stands s (SetStage object stage) stand may =
    stands_by s.next_serial _ s.objects (change_serials (is_object object.0) (with_stage stage) (λ row. refl) s.objects) stand
change_stands s (Retire object seen) stand may =
    stands_by s.next_serial _ s.objects (change_serials (is_object object.0) (with_counters seen) (λ row. refl) s.objects) stand
change_stands s (Reclaim object) stand may = record {
  rising = filter_rises (λ row. not (is_object object.0 row)) s.objects stand.rising;
  below = all_filtered (λ row. not (is_object object.0 row)) (is_below s.next_serial) s.objects stand.below;
}
change_stands s (GiveQuota partition quota) stand may = stand
change_stands s (AddExtent row) stand may = stand
change_stands s (MovePages first count holder) stand may = stand
change_stands s (PutMapping row) stand may = stand
change_stands s (DropMapping row) stand may = stand
change_stands s (SetBell row) stand may = stand
change_stands s (ConfigureQueue queue depth size cost) stand may =
    stands_by s.next_serial _ s.objects (change_serials (is_object queue.0) (with_cost cost) (λ row. refl) s.objects) stand
change_stands s (PutMessage queue message) stand may = stand
change_stands s (DropMessage queue) stand may = stand
change_stands s (EmptyQueue queue) stand may = stand
change_stands s (Exit cpu) stand may = stand
change_stands s Ring stand may = stand
change_stands s (SetPages count) stand may = stand
change_stands s (AddPartition quota) stand may = added s.next_serial s.objects _ refl stand
change_stands s (AddRoot row) stand may = stand
change_stands s (SetRoom queue depth size) stand may = stand
change_stands s (FillSlot row) stand may = stand
change_stands s (AddCpu row) stand may = stand
change_stands s (AddLink row) stand may = stand

changes_stand : (s : State) (changes : List Change) → StandIn s → MayChangeAll s changes → StandIn (changed_all s changes)
changes_stand s [] stand may = stand
changes_stand s (change ∷ changes) stand may = changes_stand (changed s change) changes (change_stands s change stand may.first) may.others

-- entries

decided_stands : (s : State) (decision : Decision) → StandIn s → MayMake s decision → StandIn (after_verdict s (verdict s decision))
decided_stands s (Refuse errno) stand may = stand
decided_stands s Unfinished stand may = stand
decided_stands s (Make changes reply) stand may = changes_stand s changes stand may

either_stands : (allowed : Bool) (new old : State) → (allowed ≡ true → StandIn new) → StandIn old → StandIn (if allowed then new else old)
either_stands true new old then_new stand = then_new refl
either_stands false new old then_new stand = stand

entry_stands : (s : State) (event : Event) (entry : Entry) → IsValid s → EntryFits s event entry → StandIn s → StandIn (after_entry s event entry)
entry_stands s event (Acted cpu number) valid fits stand =
    either_stands (may_act s cpu.0 event.call event.words) (after_verdict s (verdict s (judged_by s cpu.0 event))) _
    (λ allowed. decided_stands s (judged_by s cpu.0 event) stand
    (decision_made s valid (has_moved s cpu.0 event.call event.words) cpu.0 event.call event.bytes (grants_of event.call event.words) fits))
    stand
entry_stands s event (Part cpu number space slot) valid fits stand =
    either_stands (may_part (find (fills space.0 slot) s.caps)) _ _ (λ allowed. stand) stand
entry_stands s event (Retired serial seen) valid fits stand =
    either_stands (is_doomed s serial.0 && is_unretired (object_row s serial.0)) _ _
    (λ allowed. stands_by s.next_serial _ s.objects (change_serials (is_object serial.0) (with_counters seen) (λ row. refl) s.objects) stand)
    stand
entry_stands s event (Reclaimed serial seen) valid fits stand =
    either_stands (is_doomed s serial.0 && is_retired (object_row s serial.0)) _ _
    (λ allowed. record {
      rising = filter_rises (λ row. not (is_object serial.0 row)) s.objects stand.rising;
      below = all_filtered (λ row. not (is_object serial.0 row)) (is_below s.next_serial) s.objects stand.below;
    })
    stand

-- histories

front_stands : (n : ℕ) (s : State) (events : List Event) → IsValid s → EventsFit s events → StandIn s → StandIn (replay s (take n events))
front_stands zero s events valid fits stand = stand
front_stands (suc n) s [] valid fits stand = stand
front_stands (suc n) s (event ∷ events) valid fits stand =
    front_stands n (after_event s event) events (event_valid s event valid fits.first) fits.others
    (entry_stands s event event.entry valid fits.first stand)

boot_stands : (lines : List BootLine) → IsTrue (boot_fits lines) → StandIn (boot_state lines)
boot_stands lines fits =
    subst StandIn (boot_makes lines) (changes_stand empty_state (boot_changes lines) (record { rising = refl; below = refl }) (boot_may lines fits))

pub objects_rising : (lines : List BootLine) (history : List Event) (n : ℕ) → IsTrue (boot_fits lines) → EventsFit (boot_state lines) history
    → IsTrue (rises (serials_of (state_at (boot_state lines) history n).objects))
objects_rising lines history n fits events =
    (front_stands n (boot_state lines) history (boot_valid lines fits) events (boot_stands lines fits)).rising

-- the names of a held list are serials of rows, in their order
pub held_rising : (s : State) (held : List Held) → IsTrue (rises (serials_of s.objects)) → AreHeld s held → IsTrue (rises (serials_held held))
held_rising s held rising are =
    let named : serials_held held ≡ serials_of (filter (is_held s) s.objects) =
    sym (numbers_of held) ∙ ap (map (λ (serial : Serial). serial.0)) are.names ∙ numbers_of_rows (filter (is_held s) s.objects) in
    subst (λ (numbers : List ℕ). IsTrue (rises numbers)) (sym named) (filter_rises (is_held s) s.objects rising)
  where
    numbers_of : (causes : List Held) → map (λ (serial : Serial). serial.0) (map serial_of causes) ≡ serials_held causes
    numbers_of [] = refl
    numbers_of (cause ∷ causes) = ap (λ (others : List ℕ). (serial_of cause).0 ∷ others) (numbers_of causes)

    numbers_of_rows : (rows : List ObjectRow) → map (λ (serial : Serial). serial.0) (map serial_of_row rows) ≡ serials_of rows
    numbers_of_rows [] = refl
    numbers_of_rows (row ∷ rows) = ap (λ (others : List ℕ). row.serial.0 ∷ others) (numbers_of_rows rows)
