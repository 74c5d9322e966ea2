-- An object's kind never changes while it lives, and a serial that was given is never given again.
use Rattle.std.proofs.Common.{◌≡◌, ◌<◌, ◌≤◌, ◌∙◌, ◌⊎◌, inl, inr, ℕ, Bool, true, false, List, [], ◌∷◌, ◌++◌, refl, subst, sym, ap, arith, Some, None, find, option_map, if◌then◌else◌}
use Rattle.std.specs.Prelude.{◌&&◌, ◌==◌}
use Rattle.std.proofs.lemmas.Bool.{eqb-true}
use Rattle.std.proofs.lemmas.Bool.Decides.{nat_tests}
use Rattle.gh_model.specs.Act.{counted}
use Rattle.gh_base.specs.declared.kind.Kind.TheVariants as kind
use Rattle.gh_model.specs.Changes.{boot_object, changed, changed_all, with_cost, with_counters, with_stage, without}
use Rattle.gh_model.specs.Decide.{verdict}
use Rattle.gh_model.specs.History.{Event, after_entry, after_event, after_verdict, is_retired, is_unretired, may_act, may_part, numbered, took}
use Rattle.gh_model.specs.References.{is_doomed}
use Rattle.gh_model.specs.Rows.{change_row, fills, is_object, object_row}
use Rattle.gh_model.specs.declared.change.Change.{Change}
use Rattle.gh_model.specs.declared.change.Change.TheVariants as change
use Rattle.gh_model.specs.declared.change.Decision.{Decision}
use Rattle.gh_model.specs.declared.change.Decision.TheVariants.{Refuse, Unfinished, Make}
use Rattle.gh_model.specs.declared.entry.Entry.{Entry}
use Rattle.gh_model.specs.declared.entry.Entry.TheVariants.{Acted, Part, Retired, Reclaimed}
use Rattle.gh_model.specs.declared.rows.ObjectRow.{ObjectRow}
use Rattle.gh_model.specs.declared.state.State.{State}
use Rattle.gh_invariant.specs.Events.{EventFits, changes_of, entry_changes, judged_by, made_by}
use Rattle.gh_invariant.specs.NamesLiving.{living_kind, row_kind}
use Rattle.gh_invariant.specs.Premises.{MayChange, MayChangeAll}
use Rattle.gh_invariant.specs.Valid.{IsValid}
use Rattle.gh_invariant.proofs.ChangedRow.{find_change_seen}
use Rattle.gh_invariant.proofs.Counting.{find_push_other}
use Rattle.gh_invariant.proofs.EventWords.{event_may}
use Rattle.gh_invariant.proofs.HistoriesKept.{serial_rises}
use Rattle.gh_invariant.proofs.RowsLeft.{find_gone, find_left}

-- the object lives no more, or is of the kind that it was
abbrev pub KindStays : List ObjectRow → List ObjectRow → ℕ → Type 0
KindStays old new object = (living_kind new object ≡ None) ⊎ (living_kind new object ≡ living_kind old object)

-- a row of the objects is changed, but for its serial and its kind
recast_kind : (test : ObjectRow → Bool) (change : ObjectRow → ObjectRow) (objects : List ObjectRow) (object : ℕ)
    → ((row : ObjectRow) → is_object object (change row) ≡ is_object object row) → ((row : ObjectRow) → row_kind (change row) ≡ row_kind row)
    → KindStays objects (change_row test change objects) object
recast_kind test change objects object serial kinds =
    inr (find_change_seen (option_map row_kind) (is_object object) test change objects serial (λ row. ap Some (kinds row)))

gone_kind : (objects : List ObjectRow) (gone object : ℕ) (here : Bool) → (object == gone) ≡ here → KindStays objects (without (is_object gone) objects) object
gone_kind objects gone object true is =
    let same : object ≡ gone = eqb-true object gone is in
    inl (ap (option_map row_kind) (find_gone (is_object object) (is_object gone) objects (λ row other. subst (λ (n : ℕ). (row.serial.0 == n) ≡ false) (sym same) other)))
gone_kind objects gone object false other =
    inr (ap (option_map row_kind) (find_left (is_object object) (is_object gone) objects (λ row is. apart row.serial.0 object gone is other)))
  where
    apart : (a b c : ℕ) → (a == c) ≡ true → (b == c) ≡ false → (a == b) ≡ false
    apart a b c first second = grind (arith, nat_tests)

-- one more with the next serial leaves the others' kinds
added_kind : (s : State) (row : ObjectRow) (object : ℕ) → object < s.next_serial → row.serial.0 ≡ s.next_serial
    → KindStays s.objects (s.objects ++ row ∷ []) object
added_kind s row object made serial =
    let other : (row.serial.0 == object) ≡ false = below row.serial.0 object s.next_serial serial made in
    inr (ap (option_map row_kind) (find_push_other (is_object object) s.objects row other))
  where
    below : (a b n : ℕ) → a ≡ n → b < n → (a == b) ≡ false
    below a b n same less = grind (arith, nat_tests)

change_kind : (s : State) (one : Change) (object : ℕ) → object < s.next_serial → MayChange s one → KindStays s.objects (changed s one).objects object
change_kind s (change.AddObject row) object made may = added_kind s row object made may.serial
change_kind s (change.AddPartition quota) object made may =
    added_kind s (boot_object s kind.Partition s.next_serial 1) object made refl
change_kind s (change.SetStage other stage) object made may = recast_kind (is_object other.0) (with_stage stage) s.objects object (λ row. refl) (λ row. refl)
change_kind s (change.Retire other seen) object made may = recast_kind (is_object other.0) (with_counters seen) s.objects object (λ row. refl) (λ row. refl)
change_kind s (change.Reclaim other) object made may = gone_kind s.objects other.0 object (object == other.0) refl
change_kind s (change.ConfigureQueue queue depth size cost) object made may =
    recast_kind (is_object queue.0) (with_cost cost) s.objects object (λ row. refl) (λ row. refl)
change_kind s (change.PutCapability row) object made may = inr refl
change_kind s (change.DropCapability cspace slot) object made may = inr refl
change_kind s (change.RevokeCapability cspace slot) object made may = inr refl
change_kind s (change.GiveQuota partition quota) object made may = inr refl
change_kind s (change.AddExtent row) object made may = inr refl
change_kind s (change.MovePages first count holder) object made may = inr refl
change_kind s (change.PutMapping row) object made may = inr refl
change_kind s (change.DropMapping row) object made may = inr refl
change_kind s (change.SetBell row) object made may = inr refl
change_kind s (change.PutMessage queue message) object made may = inr refl
change_kind s (change.DropMessage queue) object made may = inr refl
change_kind s (change.EmptyQueue queue) object made may = inr refl
change_kind s (change.Exit cpu) object made may = inr refl
change_kind s change.Ring object made may = inr refl
change_kind s (change.SetPages count) object made may = inr refl
change_kind s (change.AddRoot row) object made may = inr refl
change_kind s (change.SetRoom queue depth size) object made may = inr refl
change_kind s (change.FillSlot row) object made may = inr refl
change_kind s (change.AddCpu row) object made may = inr refl
change_kind s (change.AddLink row) object made may = inr refl

-- one after another
pub then_kind : (old middle new : List ObjectRow) (object : ℕ) → KindStays old middle object → KindStays middle new object → KindStays old new object
then_kind old middle new object first (inl gone) = inl gone
then_kind old middle new object (inl gone) (inr same) = inl (same ∙ gone)
then_kind old middle new object (inr was) (inr same) = inr (same ∙ was)

pub changes_kind : (s : State) (changes : List Change) (object : ℕ) → object < s.next_serial → MayChangeAll s changes
    → KindStays s.objects (changed_all s changes).objects object
changes_kind s [] object made may = inr refl
changes_kind s (one ∷ others) object made may =
    let rises : s.next_serial ≤ (changed s one).next_serial = serial_rises s one in
    then_kind s.objects (changed s one).objects (changed_all (changed s one) others).objects object
    (change_kind s one object made may.first) (changes_kind (changed s one) others object (omega arith) may.others)

-- an entry leaves the objects of its changes

decided_objects : (s : State) (decision : Decision) → (after_verdict s (verdict s decision)).objects ≡ (changed_all s (made_by decision)).objects
decided_objects s (Refuse errno) = refl
decided_objects s Unfinished = refl
decided_objects s (Make changes reply) = refl

acted_objects : (s : State) (allowed : Bool) (decision : Decision)
    → (let after : State = if allowed then after_verdict s (verdict s decision) else numbered s in after).objects
    ≡ (changed_all s (if allowed then made_by decision else [])).objects
acted_objects s true decision = decided_objects s decision
acted_objects s false decision = refl

one_objects : (s new : State) (allowed : Bool) (one : Change) → new.objects ≡ (changed s one).objects
    → (let after : State = if allowed then new else numbered s in after).objects ≡ (changed_all s (if allowed then one ∷ [] else [])).objects
one_objects s new true one same = same
one_objects s new false one same = refl

pub entry_objects : (s : State) (event : Event) (entry : Entry) → (after_entry s event entry).objects ≡ (changed_all s (entry_changes s event entry)).objects
entry_objects s event (Acted cpu number) = acted_objects s (may_act s cpu.0 event.call event.words) (judged_by s cpu.0 event)
entry_objects s event (Part cpu number space n) =
    one_objects s (numbered (took (changed s (change.RevokeCapability space n)) space n)) (may_part (find (fills space.0 n) s.caps)) (change.RevokeCapability space n) refl
entry_objects s event (Retired serial seen) =
    one_objects s (counted (changed s (change.Retire serial seen))) (is_doomed s serial.0 && is_unretired (object_row s serial.0)) (change.Retire serial seen) refl
entry_objects s event (Reclaimed serial seen) =
    one_objects s (counted (changed s (change.Reclaim serial))) (is_doomed s serial.0 && is_retired (object_row s serial.0)) (change.Reclaim serial) refl

-- an object that was made lives no more behind an event, or is of the kind that it was
pub event_kind : (s : State) (event : Event) (object : ℕ) → IsValid s → EventFits s event → object < s.next_serial
    → KindStays s.objects (after_event s event).objects object
event_kind s event object valid fits made =
    subst (λ (objects : List ObjectRow). KindStays s.objects objects object) (sym (entry_objects s event event.entry))
    (changes_kind s (changes_of s event) object made (event_may s event valid fits))
