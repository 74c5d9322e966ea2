-- A call has at most two looks, and a CPU at most as many pins, so every count of a reference word
-- stays below 2^63.
use Rattle.std.proofs.Common.{◌≡◌, ◌==◌, ◌-◌, ◌<◌, ◌≤◌, ℕ, zero, suc, Bool, true, false, List, [], ◌∷◌, length, refl, subst, sym, ap, arith, Option, Some, None, map, slice_get, take, if◌then◌else◌}
use Rattle.std.specs.Prelude.{Result, Ok, Err, is_some}
use Rattle.std.proofs.lemmas.List.{length-map, length-take-le}
use Rattle.std.proofs.lemmas.Option.{slice_get_within}
use Rattle.gh_base.specs.declared.call.Call.{Call}
use Rattle.gh_base.specs.declared.call.Call.TheVariants as calls
use Rattle.gh_base.specs.declared.cap_word.Need.{Need}
use Rattle.gh_base.specs.declared.errno.Errno.{Errno}
use Rattle.gh_base.specs.declared.ids.Serial.{Serial}
use Rattle.gh_model.specs.Marks.{InTurn, Outcome, Seen, Wants, cspace_of, on_grant, outcome, place_after, word_of}
use Rattle.gh_model.specs.Registers.{call_of, needs_of}
use Rattle.gh_model.specs.Word.{look_reply}
use Rattle.gh_model.specs.declared.word.Word.{Word}
use Rattle.gh_base.specs.declared.frame.Frame.{Frame}
use Rattle.gh_model.specs.History as history
use Rattle.gh_model.specs.Legal.{LookIs}
use Rattle.gh_model.specs.declared.entry.Entry.{Entry}
use Rattle.gh_model.specs.declared.rows.ObjectRow.{ObjectRow}
use Rattle.gh_model.specs.declared.state.State.{State}
use Rattle.gh_events.specs.CallEvents.{after_leave, pinned, with_left, with_pin, without_pin}
use Rattle.gh_events.specs.Calls.{CurrentIs, HasCalls, but_last, pinned_looks}
use Rattle.gh_events.specs.Config.{AtAct, Config, Cpu, Current, DeadPin, Failed, Holder, Looked, Reading, Stage, Undone, is_pin_at, object_at, pin_of, present, put}
use Rattle.gh_events.specs.Config as config
use Rattle.gh_events.specs.Entries.{index_after}
use Rattle.gh_events.specs.Events.{Possible, after}
use Rattle.gh_events.specs.HolderEvents.{kill_failed, with_turn, without_scans}
use Rattle.gh_events.specs.Start.{given, with_next}
use Rattle.gh_events.specs.TurnEvents.{Ending, committed_by, end_call, ending, with_ending}
use Rattle.gh_events.specs.declared.event.Event.{Event}
use Rattle.gh_events.specs.declared.event.Event.TheVariants.{Enter, Leave, Take, Look, Pin, Unpin, Undo, Kill, Commit, SetCap, Free, Scan, Revive, Join, Split}
use Rattle.gh_events.proofs.Finding.{put_here}
use Rattle.gh_events.proofs.LengthCalls.{put_each}

-- needs

either_most : (none : Bool) (need : ℕ × Need) (others : List (ℕ × Need)) → length others ≤ 1
    → length (let needs : List (ℕ × Need) = if none then others else need ∷ others in needs) ≤ 2
either_most true need others few = omega (arith, few)
either_most false need others few = omega (arith, few)

-- a call looks up two capabilities at most
pub few_needs : (call : Call) → length (needs_of call) ≤ 2
few_needs (calls.Map space extent base attributes flags offset size) = either_most (space == 0) _ _ (omega arith)
few_needs (calls.Unmap space extent base flags offset size) = either_most (space == 0) _ _ (omega arith)
few_needs (calls.AsLookup space address) = either_most (space == 0) _ _ (omega arith)
few_needs _ = omega arith

granted_wants : (reply : Result Serial Errno) (others : Outcome) (slot : ℕ) (need : Need)
    → on_grant reply others ≡ Wants slot need → others ≡ Wants slot need
granted_wants (Err errno) others slot need is = absurd (let never : ⊥ = cc in never)
granted_wants (Ok serial) others slot need is = is

-- where one more is wanted, the looks so far are fewer than the needs
fewer_looks : (needs : List (ℕ × Need)) (words : List Word) (slot : ℕ) (need : Need)
    → outcome needs words ≡ Wants slot need → length words < length needs
fewer_looks [] words slot need is = absurd (let never : ⊥ = cc in never)
fewer_looks (first ∷ needs) [] slot need is = omega arith
fewer_looks (first ∷ needs) (word ∷ words) slot need is =
    omega (arith, fewer_looks needs words slot need (granted_wants (look_reply word first.1) (outcome needs words) slot need is))

-- a list with places below k has at most k
below_all : {X : Type 0} (xs : List X) (k : ℕ) → ((i : ℕ) (x : X) → slice_get xs i ≡ Some x → i < k) → length xs ≤ k
below_all [] k below = omega arith
below_all (x ∷ xs) k below =
    let some : 0 < k = below zero x refl in
    omega (arith, some, below_all xs (k - 1) (λ i other is. let next : suc i < k = below (suc i) other is in omega (arith, next)))

-- pins of a call in progress

few_looks : (boot : State) (events : List history.Event) (cspace last : ℕ) (call : Call) (seen : List Seen)
    → InTurn (LookIs boot events cspace last (needs_of call)) seen → length seen ≤ 2
few_looks boot events cspace last call seen looks =
    omega (arith, few_needs call, below_all seen (length (needs_of call)) below)
  where
    below : (i : ℕ) (one : Seen) → slice_get seen i ≡ Some one → i < length (needs_of call)
    below i one is =
        let within : i < length seen = slice_get_within seen i one is in
        let look : LookIs boot events cspace last (needs_of call) (take i seen) one = looks i one is in
        omega (
          arith,
          fewer_looks (needs_of call) (map word_of (take i seen)) one.look.slot look.need look.asked,
          length-map (take i seen) word_of,
          length-take-le i seen (omega (arith, within)),
        )

fewer_last : (seen : List Seen) → length (but_last seen) ≤ length seen
fewer_last seen = omega (arith, length-take-le (length seen - 1) seen (omega arith))

pinned_most : (stage : Stage) (seen : List Seen) → length (pinned_looks stage seen) ≤ length seen
pinned_most Reading seen = omega arith
pinned_most Looked seen = fewer_last seen
pinned_most DeadPin seen = fewer_last seen
pinned_most Undone seen = fewer_last seen
pinned_most Failed seen = fewer_last seen
pinned_most AtAct seen = omega arith

few_in_call : (conf : Config) (at : ℕ) (call : Current)
    → CurrentIs conf.boot conf.history conf.index conf.dead at (conf.cpu at) call → length (conf.cpu at).pins ≤ 2
few_in_call conf at call is =
    omega (
      arith,
      ap (λ (pins : List config.Pin). length pins) is.pinned,
      length-map (pinned_looks call.stage call.seen) pin_of,
      pinned_most call.stage call.seen,
      few_looks conf.boot conf.history (cspace_of conf.boot at) (place_after (conf.cpu at).made) call.given.call call.seen is.looks,
    )

few_if_called : (conf : Config) (at : ℕ) (current : Option Current) → HasCalls conf → (conf.cpu at).current ≡ current
    → is_some current ≡ true → length (conf.cpu at).pins ≤ 2
few_if_called conf at None sound is some = absurd (let never : ⊥ = cc in never)
few_if_called conf at (Some call) sound is some = few_in_call conf at call ((sound.calls at).current call is)

-- events

abbrev FewPins : (ℕ → Cpu) → Type 0
FewPins cpus = (cpu : ℕ) → length (cpus cpu).pins ≤ 2

few_put : (cpus : ℕ → Cpu) (at : ℕ) (one : Cpu) → FewPins cpus → length one.pins ≤ 2 → FewPins (put cpus at one)
few_put cpus at one few here = put_each (λ n cpu. length cpu.pins ≤ 2) cpus at one here (λ n differs. few n)

left_pins : (at : ℕ) (cpu : Cpu) (current : Option Current) → length (after_leave at cpu current).pins ≡ length cpu.pins
left_pins at cpu None = refl
left_pins at cpu (Some call) = by_stage call.stage
  where
    by_stage : (stage : Stage) → length (with_left at cpu call stage).pins ≡ length cpu.pins
    by_stage Reading = refl
    by_stage _ = refl

fewer_pins : (at : ℕ) (pins : List config.Pin) → length (without_pin at pins) ≤ length pins
fewer_pins at [] = omega arith
fewer_pins at (pin ∷ pins) = by_here (is_pin_at at pin) (fewer_pins at pins)
  where
    by_here : (here : Bool) → length (without_pin at pins) ≤ length pins
        → length (let left : List config.Pin = if here then pins else pin ∷ without_pin at pins in left) ≤ length (pin ∷ pins)
    by_here true others = omega arith
    by_here false others = omega (arith, others)

ended_pins : (at : ℕ) (cpu : Cpu) (call : Current) (end : Option Ending)
    → length (with_ending at cpu call end).pins ≡ length cpu.pins
ended_pins at cpu call None = refl
ended_pins at cpu call (Some end) = refl

free_pins : (conf : Config) (at : ℕ) (turn : Option Holder) (current : Option Current)
    → length (end_call conf at turn current).pins ≡ length (conf.cpu at).pins
free_pins conf at None current = refl
free_pins conf at (Some holder) None = refl
free_pins conf at (Some holder) (Some call) = ended_pins at (conf.cpu at) call (ending conf at holder call)

pinned_call : (dead : Bool) (cpu : Cpu) (call : Current) → cpu.current ≡ Some call → is_some (with_pin dead cpu).current ≡ true
pinned_call true cpu call is = rw is refl
pinned_call false cpu call is = rw is refl

failed_cpus : (conf : Config) (object : ℕ) (found : Option ObjectRow) → (kill_failed conf object found).cpu ≡ conf.cpu
failed_cpus conf object None = refl
failed_cpus conf object (Some row) = refl

pub killed_cpus : (conf : Config) (object : ℕ) (none : Bool)
    → (if none then record (with_turn without_scans conf) { dead = put conf.dead object true }
    else kill_failed conf object (object_at (present conf) conf.index object)).cpu ≡ conf.cpu
killed_cpus conf object true = refl
killed_cpus conf object false = failed_cpus conf object (object_at (present conf) conf.index object)

pub committed_cpus : (conf : Config) (entry : Entry) (index : State → ℕ → ℕ) (current : Option Current)
    → (committed_by conf entry index current).cpu ≡ conf.cpu
committed_cpus conf entry index None = refl
committed_cpus conf entry index (Some call) = refl

-- every event leaves each CPU two pins at most
pub event_pins : (conf : Config) (event : Event) → FewPins conf.cpu → HasCalls (after conf event) → Possible conf event
    → FewPins (after conf event).cpu
event_pins conf (Enter cpu) few sound may = few_put conf.cpu cpu.0 _ few (few cpu.0)
event_pins conf (Leave cpu) few sound may =
    few_put conf.cpu cpu.0 _ few (omega (arith, left_pins cpu.0 (conf.cpu cpu.0) (conf.cpu cpu.0).current, few cpu.0))
event_pins conf (Take cpu) few sound may = few_put conf.cpu cpu.0 _ few (few cpu.0)
event_pins conf (Look cpu slot) few sound may = few_put conf.cpu cpu.0 _ few (few cpu.0)
event_pins conf (Pin cpu object false) few sound may =
    few_put conf.cpu cpu.0 (with_pin (conf.dead object.0) (conf.cpu cpu.0)) few
    (subst (λ (one : Cpu). length one.pins ≤ 2) here
    (few_if_called (pinned conf cpu.0 object.0) cpu.0 ((pinned conf cpu.0 object.0).cpu cpu.0).current sound refl
    (subst (λ (one : Cpu). is_some one.current ≡ true) (sym here) (pinned_call (conf.dead object.0) (conf.cpu cpu.0) may.call may.is_looked.is_current))))
  where
    here : (pinned conf cpu.0 object.0).cpu cpu.0 ≡ with_pin (conf.dead object.0) (conf.cpu cpu.0)
    here = put_here conf.cpu cpu.0 (with_pin (conf.dead object.0) (conf.cpu cpu.0))
event_pins conf (Pin cpu object true) few sound may = few
event_pins conf (Unpin cpu object false) few sound may =
    few_put conf.cpu cpu.0 _ few (omega (arith, fewer_pins object.0 (conf.cpu cpu.0).pins, few cpu.0))
event_pins conf (Unpin cpu object true) few sound may = few
event_pins conf (Undo cpu object) few sound may = few_put conf.cpu cpu.0 _ few (few cpu.0)
event_pins conf (Kill cpu object) few sound may =
    subst FewPins (sym (killed_cpus conf object.0 (conf.count object.0 == 0))) few
event_pins conf (Commit cpu entry) few sound may =
    subst FewPins (sym (committed_cpus conf entry (λ new. conf.index) (conf.cpu cpu.0).current)) few
event_pins conf (SetCap cpu entry space slot word) few sound may =
    subst FewPins (sym (committed_cpus conf entry (λ new. index_after conf new word) (conf.cpu cpu.0).current)) few
event_pins conf (Free cpu true) few sound may =
    few_put conf.cpu cpu.0 _ few (omega (arith, free_pins conf cpu.0 conf.turn (conf.cpu cpu.0).current, few cpu.0))
event_pins conf (Free cpu false) few sound may = few
event_pins conf (Scan cpu of_cpu) few sound may = few
event_pins conf (Revive cpu object count) few sound may = few
event_pins conf (Join cpu) few sound may = few
event_pins conf (Split cpu) few sound may = few

next_pins : (at number : ℕ) (frame : Frame) (cpu : Cpu) (call : Result Call Errno)
    → length (with_next at number frame cpu call).pins ≡ length cpu.pins
next_pins at number frame cpu (Ok call) = refl
next_pins at number frame cpu (Err errno) = refl

pub given_pins : (conf : Config) (at number : ℕ) (frame : Frame) → FewPins conf.cpu → FewPins (given conf at number frame).cpu
given_pins conf at number frame few =
    few_put conf.cpu at _ few (omega (arith, next_pins at number frame (conf.cpu at) (call_of frame), few at))
