-- Sound configurations: the start of each boot file, every event, every call that is given, and so
-- every run.
use Rattle.std.proofs.Common.{◌≡◌, ◌==◌, ◌*◌, ◌<◌, ◌≤◌, ◌∙◌, ℕ, Bool, true, false, Option, Some, None, if◌then◌else◌, List, [], ◌∷◌, length, refl, subst, sym, ap, fold, IsTrue}
use Rattle.gh_base.specs.declared.frame.Frame.{Frame}
use Rattle.gh_base.specs.declared.limits.TheConstants.{CPUS, CSPACES, CSPACE_SLOTS}
use Rattle.gh_invariant.proofs.BootValid.{boot_unretired}
use Rattle.gh_model.specs.Boot.{after_line, boot_fits, boot_state, empty_state}
use Rattle.gh_model.specs.History.{is_retired}
use Rattle.gh_model.specs.declared.boot_line.BootLine.{BootLine}
use Rattle.gh_model.specs.declared.boot_line.BootLine.TheVariants.{Pages, Partition, Cspace, Addrspace, Doorbell, RootExtent, Extent, Msgqueue, Map, Cap, Vm, Rm, Link}
use Rattle.gh_model.specs.declared.entry.Entry.{Entry}
use Rattle.gh_model.specs.declared.rows.ObjectRow.{ObjectRow}
use Rattle.gh_model.specs.declared.state.State.{State}
use Rattle.gh_events.specs.Bounded.{HasBound, IsBounded}
use Rattle.gh_events.specs.Calls.{BeginsAtBoot, HasCalls}
use Rattle.gh_events.specs.Config.{Config, Current, object_at, present, put}
use Rattle.gh_events.specs.Entries.{index_after}
use Rattle.gh_events.specs.Events.{Possible, after}
use Rattle.gh_events.specs.HolderEvents.{kill_failed, with_turn, without_scans}
use Rattle.gh_events.specs.Length.{HasLength, too_long}
use Rattle.gh_events.specs.Sound.{Does, Gives, IsSound, MayStep, Runs, Step, after_step, after_steps}
use Rattle.gh_events.specs.Start.{AreIndices, MayGive, given, new_cpu, start}
use Rattle.gh_events.specs.TurnEvents.{committed_by}
use Rattle.gh_events.specs.Words.{HasRoom}
use Rattle.gh_events.specs.declared.event.Event.{Event}
use Rattle.gh_events.specs.declared.event.Event.TheVariants.{Enter, Leave, Take, Look, Pin, Unpin, Undo, Kill, Commit, SetCap, Free, Scan, Revive, Join, Split}
use Rattle.gh_events.proofs.BoundKeeps.{event_bounded}
use Rattle.gh_events.proofs.CallsEnd.{leave_keeps_calls}
use Rattle.gh_events.proofs.CallsGoOn.{enter_keeps_calls, undo_keeps_calls, unpin_keeps_calls}
use Rattle.gh_events.proofs.EventsKeep.{event_graced, event_sound}
use Rattle.gh_events.proofs.FewPins.{event_pins, given_pins}
use Rattle.gh_events.proofs.FewReferences.{boot_bound}
use Rattle.gh_events.proofs.FreeCalls.{free_keeps_calls}
use Rattle.gh_events.proofs.GivenCalls.{given_keeps_calls}
use Rattle.gh_events.proofs.GivenKeeps.{given_keeps}
use Rattle.gh_events.proofs.GraceGiven.{given_graced}
use Rattle.gh_events.proofs.GraceTurn.{start_graced}
use Rattle.gh_events.proofs.HolderCalls.{kill_keeps_calls, owe_keeps_calls, quit_keeps_calls, revive_keeps_calls, scan_keeps_calls, settle_keeps_calls}
use Rattle.gh_events.proofs.LengthBound.{has_room, history_is_short, start_length}
use Rattle.gh_events.proofs.LengthKeeps.{event_length, given_length}
use Rattle.gh_events.proofs.LookCalls.{look_keeps_calls}
use Rattle.gh_events.proofs.PartCalls.{commit_keeps_calls, set_cap_keeps_calls}
use Rattle.gh_events.proofs.PinCalls.{pin_keeps_calls}
use Rattle.gh_events.proofs.SawPins.{event_saw, free_saw}
use Rattle.gh_events.proofs.SoundBetween.{event_between, given_between, start_between}
use Rattle.gh_events.proofs.SoundOrder.{event_in_order, start_in_order}
use Rattle.gh_events.proofs.StartCalls.{file_calls}
use Rattle.gh_events.proofs.StartWords.{start_shows}
use Rattle.gh_events.proofs.StateKeeps.{event_keeps_state, file_sound, start_keeps_state}
use Rattle.gh_events.proofs.TakeCalls.{take_keeps_calls}
use Rattle.gh_events.proofs.ValidEvents.{given_valid, start_valid}
use Rattle.gh_events.proofs.ValidLaw.{event_keeps_valid}
use Rattle.gh_events.proofs.WordsLaw.{event_shows}

-- the boot

-- no line of a boot file counts an entry
line_counts : (s : State) (line : BootLine) → (after_line s line).entries ≡ s.entries
line_counts s (Pages count) = refl
line_counts s (Partition quota) = refl
line_counts s (Cspace partition) = refl
line_counts s (Addrspace partition) = refl
line_counts s (Doorbell partition) = refl
line_counts s (RootExtent partition) = refl
line_counts s (Extent partition parent offset count access first pages) = refl
line_counts s (Msgqueue partition depth size) = refl
line_counts s (Map space extent base offset count access) = refl
line_counts s (Cap cspace slot object rights master) = refl
line_counts s (Vm cspace space) = refl
line_counts s (Rm cspace space partition) = refl
line_counts s (Link vm extent request reply) = refl

lines_count : (s : State) (lines : List BootLine) → (fold after_line s lines).entries ≡ s.entries
lines_count s [] = refl
lines_count s (line ∷ lines) = lines_count (after_line s line) lines ∙ line_counts s line

-- so no entry was counted before it
pub begins_there : (lines : List BootLine) → (boot_state lines).entries ≡ 0
begins_there lines = lines_count empty_state lines

-- the start of each boot file is sound
pub start_is_sound : (lines : List BootLine) (index : ℕ → ℕ) → IsTrue (boot_fits lines)
    → AreIndices (boot_state lines) index → IsSound (start (boot_state lines) index)
start_is_sound lines index fits indices =
    let none : (boot_state lines).entries ≡ 0 = begins_there lines in
    record {
      references = file_sound lines index fits indices;
      grace = start_graced (boot_state lines) index indices (λ row is. sym (ap is_retired is) ∙ boot_unretired lines row.serial.0 fits);
      state = start_keeps_state lines index fits indices;
      valid = start_valid lines index fits;
      calls = file_calls lines index;
      order = start_in_order (boot_state lines);
      between = start_between (λ _. new_cpu);
      saw = free_saw;
      words = start_shows lines index fits indices;
      begins = none;
      long = start_length lines index fits;
      bound = boot_bound lines index fits;
    }

-- events

-- the number of each entry fits into a word
room_of : (conf : Config) → IsSound conf → HasRoom conf
room_of conf sound = has_room conf sound.long sound.calls sound.begins

-- every event keeps sound calls
event_calls : (conf : Config) (event : Event) → IsSound conf → Possible conf event
    → HasCalls (after conf event)
event_calls conf (Enter cpu) sound may = enter_keeps_calls conf cpu.0 sound.calls may
event_calls conf (Leave cpu) sound may = leave_keeps_calls conf cpu.0 sound.calls may
event_calls conf (Take cpu) sound may = take_keeps_calls conf cpu.0 sound.calls may
event_calls conf (Look cpu slot) sound may =
    look_keeps_calls conf cpu.0 slot sound.calls sound.valid sound.words (room_of conf sound) may sound.begins
event_calls conf (Pin cpu object false) sound may =
    pin_keeps_calls conf cpu.0 object.0 sound.calls sound.references sound.valid may
event_calls conf (Pin cpu object true) sound may = owe_keeps_calls conf object.0 sound.calls
event_calls conf (Unpin cpu object false) sound may = unpin_keeps_calls conf cpu.0 object.0 sound.calls may
event_calls conf (Unpin cpu object true) sound may = settle_keeps_calls conf object.0 sound.calls
event_calls conf (Undo cpu object) sound may = undo_keeps_calls conf cpu.0 object.0 sound.calls may
event_calls conf (Kill cpu object) sound may = kill_keeps_calls conf object.0 sound.calls
event_calls conf (Commit cpu entry) sound may =
    commit_keeps_calls conf cpu.0 entry record { sound = sound.calls; refs = sound.references; graced = sound.grace; state = sound.state; fit = sound.valid } may
event_calls conf (SetCap cpu entry space slot word) sound may =
    set_cap_keeps_calls conf cpu.0 entry space.0 slot word record { sound = sound.calls; refs = sound.references; graced = sound.grace; state = sound.state; fit = sound.valid } may
event_calls conf (Free cpu true) sound may =
    free_keeps_calls conf cpu.0 sound.calls sound.references sound.valid sound.saw may
event_calls conf (Free cpu false) sound may = quit_keeps_calls conf cpu.0 sound.calls may
event_calls conf (Scan cpu of_cpu) sound may = scan_keeps_calls conf of_cpu.0 sound.calls
event_calls conf (Revive cpu object count) sound may =
    revive_keeps_calls conf cpu.0 object.0 count sound.calls may
event_calls conf (Join cpu) sound may = sound.calls
event_calls conf (Split cpu) sound may = sound.calls

failed_boot : (conf : Config) (object : ℕ) (found : Option ObjectRow)
    → (kill_failed conf object found).boot ≡ conf.boot
failed_boot conf object None = refl
failed_boot conf object (Some row) = refl

killed_boot : (conf : Config) (object : ℕ) (none : Bool)
    → (if none then record (with_turn without_scans conf) { dead = put conf.dead object true }
    else kill_failed conf object (object_at (present conf) conf.index object)).boot ≡ conf.boot
killed_boot conf object true = refl
killed_boot conf object false = failed_boot conf object (object_at (present conf) conf.index object)

committed_boot : (conf : Config) (entry : Entry) (index : State → ℕ → ℕ) (current : Option Current)
    → (committed_by conf entry index current).boot ≡ conf.boot
committed_boot conf entry index None = refl
committed_boot conf entry index (Some call) = refl

-- no event changes the boot state
pub boot_stays : (conf : Config) (event : Event) → (after conf event).boot ≡ conf.boot
boot_stays conf (Enter cpu) = refl
boot_stays conf (Leave cpu) = refl
boot_stays conf (Take cpu) = refl
boot_stays conf (Look cpu slot) = refl
boot_stays conf (Pin cpu object false) = refl
boot_stays conf (Pin cpu object true) = refl
boot_stays conf (Unpin cpu object false) = refl
boot_stays conf (Unpin cpu object true) = refl
boot_stays conf (Undo cpu object) = refl
boot_stays conf (Kill cpu object) = killed_boot conf object.0 (conf.count object.0 == 0)
boot_stays conf (Commit cpu entry) = committed_boot conf entry (λ new. conf.index) (conf.cpu cpu.0).current
boot_stays conf (SetCap cpu entry space slot word) =
    committed_boot conf entry (λ new. index_after conf new word) (conf.cpu cpu.0).current
boot_stays conf (Free cpu true) = refl
boot_stays conf (Free cpu false) = refl
boot_stays conf (Scan cpu of_cpu) = refl
boot_stays conf (Revive cpu object count) = refl
boot_stays conf (Join cpu) = refl
boot_stays conf (Split cpu) = refl

-- every event keeps the bounds
event_bound : (conf : Config) (event : Event) → HasBound conf → HasCalls (after conf event) → Possible conf event
    → HasBound (after conf event)
event_bound conf event bound calls may = record {
  bounded = event_bounded conf event bound.bounded may;
  few_pins = event_pins conf event bound.few_pins calls may;
  few_cpus = subst (λ (boot : State). length boot.cpus ≤ CPUS) (sym (boot_stays conf event)) bound.few_cpus;
  few_links = subst (λ (boot : State). 2 * length boot.links ≤ CSPACES * CSPACE_SLOTS) (sym (boot_stays conf event)) bound.few_links;
}

-- every event keeps a sound configuration
pub event_keeps_sound : (conf : Config) (event : Event) → IsSound conf → Possible conf event
    → IsSound (after conf event)
event_keeps_sound conf event sound may =
    let calls : HasCalls (after conf event) = event_calls conf event sound may in
    let long : HasLength (after conf event) = event_length conf event sound.valid sound.long may in
    let begins : BeginsAtBoot (after conf event) = ap (λ (boot : State). boot.entries) (boot_stays conf event) ∙ sound.begins in
    record {
      references = event_sound conf event sound.references sound.grace sound.state sound.valid.valid sound.words (room_of conf sound) may;
      grace = event_graced conf event sound.references sound.grace sound.state sound.valid.valid may;
      state = event_keeps_state conf event sound.state may;
      valid = event_keeps_valid conf event sound.valid may;
      calls = calls;
      order = event_in_order conf event sound.order sound.grace may;
      between = event_between conf event sound may;
      saw = event_saw conf event sound.saw;
      words = event_shows conf event sound.references sound.state sound.valid sound.words (has_room (after conf event) long calls begins) may;
      begins = begins;
      long = long;
      bound = event_bound conf event sound.bound calls may;
    }

-- runs

-- a call that a CPU is given keeps it too
pub given_keeps_sound : (conf : Config) (at number : ℕ) (frame : Frame) → IsSound conf
    → MayGive conf at number → IsSound (given conf at number frame)
given_keeps_sound conf at number frame sound may = record {
  references = given_keeps conf at number frame sound.references;
  grace = given_graced conf at number frame sound.grace;
  state = record { given = sound.state.given; within = sound.state.within };
  valid = given_valid conf sound.valid at number frame may;
  calls = given_keeps_calls conf at number frame sound.calls may;
  order = sound.order;
  between = given_between conf at number frame may sound.between;
  saw = sound.saw;
  words = record { filled = sound.words.filled; attached = sound.words.attached; empty = sound.words.empty; within = sound.words.within };
  begins = sound.begins;
  long = given_length conf at number frame sound.long may;
  bound = record { bounded = sound.bound.bounded; few_pins = given_pins conf at number frame sound.bound.few_pins; few_cpus = sound.bound.few_cpus; few_links = sound.bound.few_links };
}

pub step_keeps_sound : (conf : Config) (step : Step) → IsSound conf → MayStep conf step
    → IsSound (after_step conf step)
step_keeps_sound conf (Gives at number frame) sound may = given_keeps_sound conf at number frame sound may
step_keeps_sound conf (Does event) sound may = event_keeps_sound conf event sound may

pub steps_keep_sound : (conf : Config) (steps : List Step) → IsSound conf → Runs conf steps
    → IsSound (after_steps conf steps)
steps_keep_sound conf [] sound runs = sound
steps_keep_sound conf (step ∷ steps) sound runs =
    steps_keep_sound (after_step conf step) steps (step_keeps_sound conf step sound runs.0) runs.1

-- so every run from a boot file leaves the configuration sound
pub run_is_sound : (lines : List BootLine) (index : ℕ → ℕ) (steps : List Step) → IsTrue (boot_fits lines)
    → AreIndices (boot_state lines) index → Runs (start (boot_state lines) index) steps
    → IsSound (after_steps (start (boot_state lines) index) steps)
run_is_sound lines index steps fits indices runs =
    steps_keep_sound (start (boot_state lines) index) steps (start_is_sound lines index fits indices) runs

-- and its history short
pub run_is_short : (lines : List BootLine) (index : ℕ → ℕ) (steps : List Step) → IsTrue (boot_fits lines)
    → AreIndices (boot_state lines) index → Runs (start (boot_state lines) index) steps
    → length (after_steps (start (boot_state lines) index) steps).history < too_long
run_is_short lines index steps fits indices runs =
    let sound : IsSound (after_steps (start (boot_state lines) index) steps) = run_is_sound lines index steps fits indices runs in
    history_is_short (after_steps (start (boot_state lines) index) steps) sound.long sound.calls

-- and what is owed within its bound
pub run_is_bounded : (lines : List BootLine) (index : ℕ → ℕ) (steps : List Step) → IsTrue (boot_fits lines)
    → AreIndices (boot_state lines) index → Runs (start (boot_state lines) index) steps
    → IsBounded (after_steps (start (boot_state lines) index) steps)
run_is_bounded lines index steps fits indices runs =
    (run_is_sound lines index steps fits indices runs).bound.bounded
