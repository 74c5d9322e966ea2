-- An entry that makes no object gives no serial.
use Rattle.std.proofs.Common.{◌≡◌, ◌∙◌, Bool, true, false, List, [], ◌∷◌, refl, IsTrue, Option, Some, None, if◌then◌else◌}
use Rattle.std.specs.List.{list_all}
use Rattle.std.proofs.lemmas.Bool.{and_parts}
use Rattle.gh_schedules.specs.Places.{added, adds, first_row}
use Rattle.gh_invariant.specs.Events.{changes_of, entry_changes, judged_by, made_by}
use Rattle.gh_invariant.proofs.EventWords.{entry_of_calls}
use Rattle.gh_invariant.proofs.SetsOne.{is_of_calls}
use Rattle.gh_model.specs.Changes.{changed, changed_all}
use Rattle.gh_model.specs.Act.{counted}
use Rattle.gh_model.specs.Decide.{verdict}
use Rattle.gh_model.specs.History.{Event, after_entry, after_event, after_verdict, is_retired, is_unretired, may_act, may_part, numbered, took}
use Rattle.gh_model.specs.References.{is_doomed}
use Rattle.gh_model.specs.Rows.{fills, object_row}
use Rattle.gh_model.specs.declared.change.Change.{Change}
use Rattle.gh_model.specs.declared.change.Change.TheVariants as change
use Rattle.gh_model.specs.declared.change.Decision.{Decision}
use Rattle.gh_model.specs.declared.change.Decision.TheVariants.{Refuse, Unfinished, Make}
use Rattle.gh_model.specs.declared.entry.Entry.{Entry}
use Rattle.gh_model.specs.declared.entry.Entry.TheVariants.{Acted, Part, Retired, Reclaimed}
use Rattle.gh_model.specs.declared.rows.ObjectRow.{ObjectRow}
use Rattle.gh_model.specs.declared.state.State.{State}
use Rattle.std.specs.Prelude.{find, ◌&&◌}

change_serial : (s : State) (one : Change) → adds one ≡ None → is_of_calls one ≡ true
    → (changed s one).next_serial ≡ s.next_serial
change_serial s (change.AddObject row) none calls = absurd (let never : ⊥ = cc in never)
change_serial s (change.Retire object seen) none calls = refl
change_serial s (change.Reclaim object) none calls = refl
change_serial s (change.SetStage object stage) none calls = refl
change_serial s (change.ConfigureQueue queue depth size cost) none calls = refl
change_serial s (change.PutCapability row) none calls = refl
change_serial s (change.DropCapability cspace slot) none calls = refl
change_serial s (change.RevokeCapability cspace slot) none calls = refl
change_serial s (change.GiveQuota partition quota) none calls = refl
change_serial s (change.AddExtent row) none calls = refl
change_serial s (change.MovePages first count holder) none calls = refl
change_serial s (change.PutMapping row) none calls = refl
change_serial s (change.DropMapping row) none calls = refl
change_serial s (change.SetBell row) none calls = refl
change_serial s (change.PutMessage queue message) none calls = refl
change_serial s (change.DropMessage queue) none calls = refl
change_serial s (change.EmptyQueue queue) none calls = refl
change_serial s (change.Exit cpu) none calls = refl
change_serial s change.Ring none calls = refl
change_serial s (change.SetPages count) none calls = refl
change_serial s (change.AddPartition quota) none calls = absurd (let never : ⊥ = cc in never)
change_serial s (change.AddRoot row) none calls = refl
change_serial s (change.SetRoom queue depth size) none calls = refl
change_serial s (change.FillSlot row) none calls = refl
change_serial s (change.AddCpu row) none calls = refl
change_serial s (change.AddLink row) none calls = refl

both_none : (first others : Option ObjectRow) → first_row first others ≡ None → (first ≡ None) × (others ≡ None)
both_none None others none = (refl, none)
both_none (Some row) others none = absurd (let never : ⊥ = cc in never)

changes_serial : (s : State) (changes : List Change) → added changes ≡ None → IsTrue (list_all is_of_calls changes)
    → (changed_all s changes).next_serial ≡ s.next_serial
changes_serial s [] none calls = refl
changes_serial s (one ∷ others) none calls =
    let parts = and_parts (is_of_calls one) (list_all is_of_calls others) calls in
    let nones = both_none (adds one) (added others) none in
    changes_serial (changed s one) others nones.1 parts.1 ∙ change_serial s one nones.0 parts.0

-- an entry by what its state allows

if_allowed : (s new : State) (allowed : Bool) → new.next_serial ≡ s.next_serial
    → (if allowed then new else numbered s).next_serial ≡ s.next_serial
if_allowed s new true same = same
if_allowed s new false same = refl

act_serial : (s : State) (allowed : Bool) (decision : Decision)
    → added (if allowed then made_by decision else []) ≡ None
    → IsTrue (list_all is_of_calls (if allowed then made_by decision else []))
    → (if allowed then after_verdict s (verdict s decision) else numbered s).next_serial ≡ s.next_serial
act_serial s false decision none calls = refl
act_serial s true (Refuse errno) none calls = refl
act_serial s true Unfinished none calls = refl
act_serial s true (Make changes reply) none calls = changes_serial s changes none calls

entry_serial : (s : State) (event : Event) (kind : Entry) → added (entry_changes s event kind) ≡ None
    → (after_entry s event kind).next_serial ≡ s.next_serial
entry_serial s event (Acted cpu number) none =
    act_serial s (may_act s cpu.0 event.call event.words) (judged_by s cpu.0 event) none (entry_of_calls s event (Acted cpu number))
entry_serial s event (Part cpu number space slot) none =
    if_allowed s (numbered (took (changed s (change.RevokeCapability space slot)) space slot)) (may_part (find (fills space.0 slot) s.caps)) refl
entry_serial s event (Retired serial seen) none =
    if_allowed s (counted (changed s (change.Retire serial seen))) (is_doomed s serial.0 && is_unretired (object_row s serial.0)) refl
entry_serial s event (Reclaimed serial seen) none =
    if_allowed s (counted (changed s (change.Reclaim serial))) (is_doomed s serial.0 && is_retired (object_row s serial.0)) refl

-- an event that makes no object
pub event_serial : (s : State) (event : Event) → added (changes_of s event) ≡ None
    → (after_event s event).next_serial ≡ s.next_serial
event_serial s event none = entry_serial s event event.entry none
