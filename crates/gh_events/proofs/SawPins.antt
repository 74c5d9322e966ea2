-- Each count that a failed kill of a turn keeps stays one that isn't 0.
use Rattle.std.proofs.Common.{◌≡◌, ◌≢◌, ◌==◌, ◌∙◌, ℕ, Bool, true, false, refl, subst, sym, ap, Option, Some, None, option_map, if◌then◌else◌}
use Rattle.gh_model.specs.declared.entry.Entry.{Entry}
use Rattle.gh_model.specs.declared.rows.ObjectRow.{ObjectRow}
use Rattle.gh_model.specs.declared.state.State.{State}
use Rattle.gh_events.specs.Calls.{SawPins}
use Rattle.gh_events.specs.Config.{Config, Current, Holder, object_at, present, put}
use Rattle.gh_events.specs.Entries.{index_after, next_state}
use Rattle.gh_events.specs.Events.{after}
use Rattle.gh_events.specs.HolderEvents.{kill_failed, one_less, one_more, with_failed, with_revived, with_scan, with_turn, without_scans}
use Rattle.gh_events.specs.TurnEvents.{committed_by, new_holder, with_entry}
use Rattle.gh_events.specs.declared.event.Event.{Event}
use Rattle.gh_events.specs.declared.event.Event.TheVariants.{Enter, Leave, Take, Look, Pin, Unpin, Undo, Kill, Commit, SetCap, Free, Scan, Revive, Join, Split}
use Rattle.gh_events.proofs.FreeCalls.{zero_differs}

-- a free turn keeps none
pub free_saw : SawPins None
free_saw holder serial count is = absurd (let never : ⊥ = cc in never)

-- nor does a turn at its begin
new_saw : (at : ℕ) → SawPins (Some (new_holder at))
new_saw at holder serial count is failed =
    let same : new_holder at ≡ holder = cc in
    let none : None ≡ Some count = ap (λ (one : Holder). one.failed serial) same ∙ failed in
    absurd (let never : ⊥ = cc in never)

-- a change that keeps no other count
changed_saw : (turn : Option Holder) (change : Holder → Holder)
    → ((holder : Holder) (serial count : ℕ) → turn ≡ Some holder → (change holder).failed serial ≡ Some count → count ≢ 0)
    → SawPins (option_map change turn)
changed_saw None change keeps holder serial count is failed = absurd (let never : ⊥ = cc in never)
changed_saw (Some before) change keeps holder serial count is failed =
    let same : change before ≡ holder = cc in
    keeps before serial count refl (ap (λ (one : Holder). one.failed serial) same ∙ failed)

same_saw : (turn : Option Holder) (change : Holder → Holder)
    → ((holder : Holder) → (change holder).failed ≡ holder.failed) → SawPins turn
    → SawPins (option_map change turn)
same_saw turn change same saw =
    changed_saw turn change (λ holder serial count is failed. saw holder serial count is (sym (ap (λ (kept : ℕ → Option ℕ). kept serial) (same holder)) ∙ failed))

-- Kill

put_saw : (failed : ℕ → Option ℕ) (at seen serial count : ℕ) (here : Bool) → seen ≢ 0
    → ((k : ℕ) → failed serial ≡ Some k → k ≢ 0)
    → (if here then Some seen else failed serial) ≡ Some count → count ≢ 0
put_saw failed at seen serial count true some before is = let same : seen ≡ count = cc in subst (λ (n : ℕ). n ≢ 0) same some
put_saw failed at seen serial count false some before is = before count is

failed_saw : (conf : Config) (object : ℕ) (found : Option ObjectRow) → conf.count object ≢ 0
    → SawPins conf.turn → SawPins (kill_failed conf object found).turn
failed_saw conf object None some saw = saw
failed_saw conf object (Some row) some saw =
    changed_saw conf.turn (with_failed row.serial.0 (conf.count object))
    (λ holder serial count is failed. put_saw holder.failed row.serial.0 (conf.count object) serial count (serial == row.serial.0) some (λ k before. saw holder serial k is before) failed)

killed_saw : (conf : Config) (object : ℕ) (none : Bool) → (conf.count object == 0) ≡ none
    → SawPins conf.turn
    → SawPins (if none then record (with_turn without_scans conf) { dead = put conf.dead object true }
    else kill_failed conf object (object_at (present conf) conf.index object)).turn
killed_saw conf object true is saw = same_saw conf.turn without_scans (λ holder. refl) saw
killed_saw conf object false is saw =
    failed_saw conf object (object_at (present conf) conf.index object) (λ zero. zero_differs (conf.count object) is zero) saw

-- Commit and SetCap

committed_saw : (conf : Config) (entry : Entry) (index : State → ℕ → ℕ) (current : Option Current)
    → SawPins conf.turn → SawPins (committed_by conf entry index current).turn
committed_saw conf entry index None saw = saw
committed_saw conf entry index (Some call) saw =
    same_saw conf.turn (with_entry conf entry (next_state conf call entry) (index (next_state conf call entry))) (λ holder. refl) saw

-- every event
pub event_saw : (conf : Config) (event : Event) → SawPins conf.turn → SawPins (after conf event).turn
event_saw conf (Enter cpu) saw = saw
event_saw conf (Leave cpu) saw = saw
event_saw conf (Take cpu) saw = new_saw cpu.0
event_saw conf (Look cpu slot) saw = saw
event_saw conf (Pin cpu object false) saw = saw
event_saw conf (Pin cpu object true) saw = same_saw conf.turn (one_more object.0) (λ holder. refl) saw
event_saw conf (Unpin cpu object false) saw = saw
event_saw conf (Unpin cpu object true) saw = same_saw conf.turn (one_less object.0) (λ holder. refl) saw
event_saw conf (Undo cpu object) saw = saw
event_saw conf (Kill cpu object) saw = killed_saw conf object.0 (conf.count object.0 == 0) refl saw
event_saw conf (Commit cpu entry) saw = committed_saw conf entry (λ new. conf.index) (conf.cpu cpu.0).current saw
event_saw conf (SetCap cpu entry space slot word) saw =
    committed_saw conf entry (λ new. index_after conf new word) (conf.cpu cpu.0).current saw
event_saw conf (Free cpu true) saw = free_saw
event_saw conf (Free cpu false) saw = free_saw
event_saw conf (Scan cpu of_cpu) saw = same_saw conf.turn (with_scan of_cpu.0 (conf.counter of_cpu.0)) (λ holder. refl) saw
event_saw conf (Revive cpu object count) saw = same_saw conf.turn (with_revived object.0 count) (λ holder. refl) saw
event_saw conf (Join cpu) saw = saw
event_saw conf (Split cpu) saw = saw
