-- Where objects live and which serials they have: so it is at the boot, and every event keeps it so.
use Rattle.std.proofs.Common.{◌≡◌, ◌==◌, ◌<◌, ◌≤◌, ℕ, Bool, true, false, List, ap, arith, Option, Some, None, find, IsTrue, is_some, nat_le, refl, if◌then◌else◌, sym, ◌∙◌}
use Rattle.std.proofs.lemmas.Bool.Decides.{nat_tests}
use Rattle.gh_invariant.specs.Lives.{lives}
use Rattle.gh_invariant.specs.Valid.{IsValid}
use Rattle.gh_invariant.proofs.BootValid.{boot_unretired, boot_valid}
use Rattle.gh_invariant.proofs.Counting.{unfound}
use Rattle.gh_invariant.proofs.MayMake.{below_by}
use Rattle.gh_model.specs.Boot.{boot_fits, boot_state}
use Rattle.gh_model.specs.History.{is_retired}
use Rattle.gh_model.specs.Rows.{is_object}
use Rattle.gh_model.specs.declared.boot_line.BootLine.{BootLine}
use Rattle.gh_model.specs.declared.rows.ObjectRow.{ObjectRow}
use Rattle.gh_model.specs.declared.state.State.{State}
use Rattle.gh_events.specs.Config.{Config, Cpu, Holder, object_at, present, put}
use Rattle.gh_events.specs.Events.{Possible, after}
use Rattle.gh_events.specs.HolderEvents.{kill_failed, with_turn, without_scans}
use Rattle.gh_events.specs.References.{HasReferences}
use Rattle.gh_events.specs.Replayed.{HasState}
use Rattle.gh_events.specs.Start.{AreIndices, start}
use Rattle.gh_events.specs.declared.event.Event.{Event}
use Rattle.gh_events.specs.declared.event.Event.TheVariants.{Enter, Leave, Take, Look, Pin, Unpin, Undo, Kill, Commit, SetCap, Free, Scan, Revive, Join, Split}
use Rattle.gh_events.proofs.EntryKeeps.{commit_keeps_state, set_cap_keeps_state}
use Rattle.gh_events.proofs.StartSound.{start_sound}

-- the boot

given_by : (s : State) (serial : ℕ) (later : Bool) → nat_le s.next_serial serial ≡ later → IsValid s
    → lives s.objects serial ≡ true → serial < s.next_serial
given_by s serial false below valid alive = below_by s.next_serial serial below
given_by s serial true above valid alive =
    let beyond : s.next_serial ≤ serial = grind (arith, nat_tests) in
    let none : find (is_object serial) s.objects ≡ None = unfound (is_object serial) s.objects (valid.objects.later serial beyond) in
    let dead : lives s.objects serial ≡ false = ap (λ (found : Option ObjectRow). is_some found) none in
    absurd (let never : ⊥ = cc in never)

pub start_keeps_state : (lines : List BootLine) (index : ℕ → ℕ) → IsTrue (boot_fits lines)
    → AreIndices (boot_state lines) index → HasState (start (boot_state lines) index)
start_keeps_state lines index fits indices = record {
  given = λ serial. given_by (boot_state lines) serial (nat_le (boot_state lines).next_serial serial) refl (boot_valid lines fits);
  within = indices.within;
}

-- and the references of each boot file are sound
pub file_sound : (lines : List BootLine) (index : ℕ → ℕ) → IsTrue (boot_fits lines)
    → AreIndices (boot_state lines) index → HasReferences (start (boot_state lines) index)
file_sound lines index fits indices =
    start_sound (boot_state lines) index indices (λ row is. sym (ap is_retired is) ∙ boot_unretired lines row.serial.0 fits)

-- events that leave the history and the indices

same_state : (conf : Config) (count : ℕ → ℕ) (dead : ℕ → Bool) (counter : ℕ → ℕ)
    (turn : Option Holder) (cpu : ℕ → Cpu) → HasState conf
    → HasState (record conf { count = count; dead = dead; counter = counter; turn = turn; cpu = cpu })
same_state conf count dead counter turn cpu state = record { given = state.given; within = state.within }

failed_state : (conf : Config) (object : ℕ) (found : Option ObjectRow) → HasState conf
    → HasState (kill_failed conf object found)
failed_state conf object None state = state
failed_state conf object (Some row) state = record { given = state.given; within = state.within }

killed_state : (conf : Config) (object : ℕ) (none : Bool) → HasState conf
    → HasState (if none then record (with_turn without_scans conf) { dead = put conf.dead object true }
    else kill_failed conf object (object_at (present conf) conf.index object))
killed_state conf object true state = record { given = state.given; within = state.within }
killed_state conf object false state =
    failed_state conf object (object_at (present conf) conf.index object) state

-- every event
pub event_keeps_state : (conf : Config) (event : Event) → HasState conf → Possible conf event
    → HasState (after conf event)
event_keeps_state conf (Enter cpu) state may = same_state conf _ _ _ _ _ state
event_keeps_state conf (Leave cpu) state may = same_state conf _ _ _ _ _ state
event_keeps_state conf (Take cpu) state may = same_state conf _ _ _ _ _ state
event_keeps_state conf (Look cpu slot) state may = same_state conf _ _ _ _ _ state
event_keeps_state conf (Pin cpu object false) state may = same_state conf _ _ _ _ _ state
event_keeps_state conf (Pin cpu object true) state may = same_state conf _ _ _ _ _ state
event_keeps_state conf (Unpin cpu object false) state may = same_state conf _ _ _ _ _ state
event_keeps_state conf (Unpin cpu object true) state may = same_state conf _ _ _ _ _ state
event_keeps_state conf (Undo cpu object) state may = same_state conf _ _ _ _ _ state
event_keeps_state conf (Kill cpu object) state may =
    killed_state conf object.0 (conf.count object.0 == 0) state
event_keeps_state conf (Commit cpu entry) state may =
    commit_keeps_state conf cpu.0 entry state may
event_keeps_state conf (SetCap cpu entry space slot word) state may =
    set_cap_keeps_state conf cpu.0 entry space.0 slot word state may
event_keeps_state conf (Free cpu true) state may = same_state conf _ _ _ _ _ state
event_keeps_state conf (Free cpu false) state may = same_state conf _ _ _ _ _ state
event_keeps_state conf (Scan cpu of_cpu) state may = same_state conf _ _ _ _ _ state
event_keeps_state conf (Revive cpu object count) state may = same_state conf _ _ _ _ _ state
event_keeps_state conf (Join cpu) state may = state
event_keeps_state conf (Split cpu) state may = state
