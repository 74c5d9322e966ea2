-- Every event keeps sound references and grace.
use Rattle.std.proofs.Common.{true, false}
use Rattle.gh_invariant.specs.Valid.{IsValid}
use Rattle.gh_events.specs.Config.{Config, present}
use Rattle.gh_events.specs.Events.{Possible, after}
use Rattle.gh_events.specs.Grace.{HasGrace}
use Rattle.gh_events.specs.References.{HasReferences}
use Rattle.gh_events.specs.Replayed.{HasState}
use Rattle.gh_events.specs.Words.{HasRoom, ShowsWords}
use Rattle.gh_events.specs.declared.event.Event.{Event}
use Rattle.gh_events.specs.declared.event.Event.TheVariants.{Enter, Leave, Take, Look, Pin, Unpin, Undo, Kill, Commit, SetCap, Free, Scan, Revive, Join, Split}
use Rattle.gh_events.proofs.CallsKeep.{enter_keeps}
use Rattle.gh_events.proofs.EntryKeeps.{commit_keeps, set_cap_keeps}
use Rattle.gh_events.proofs.GraceActs.{commit_graced, set_graced}
use Rattle.gh_events.proofs.GraceEnds.{end_graced, take_graced}
use Rattle.gh_events.proofs.GraceEvents.{enter_graced, leave_graced, pin_graced, undo_graced, unpin_graced}
use Rattle.gh_events.proofs.GraceLook.{look_graced}
use Rattle.gh_events.proofs.GraceScans.{kill_graced, quit_graced, scan_graced}
use Rattle.gh_events.proofs.GraceSpares.{entry_spares}
use Rattle.gh_events.proofs.GraceTurn.{owe_graced, revive_graced, settle_graced}
use Rattle.gh_events.proofs.KillKeeps.{kill_keeps}
use Rattle.gh_events.proofs.LeaveKeeps.{leave_keeps}
use Rattle.gh_events.proofs.LookKeeps.{look_keeps}
use Rattle.gh_events.proofs.OweKeeps.{owe_keeps, settle_keeps}
use Rattle.gh_events.proofs.PinKeeps.{pin_keeps}
use Rattle.gh_events.proofs.ReviveKeeps.{revive_keeps}
use Rattle.gh_events.proofs.TakeKeeps.{end_keeps, take_keeps}
use Rattle.gh_events.proofs.TurnKeeps.{quit_keeps, scan_keeps}
use Rattle.gh_events.proofs.UndoKeeps.{undo_keeps}
use Rattle.gh_events.proofs.UnpinKeeps.{unpin_keeps}

-- every event keeps grace, where the references are sound and the present state is valid
pub event_graced : (conf : Config) (event : Event) → HasReferences conf → HasGrace conf → HasState conf
    → IsValid (present conf) → Possible conf event → HasGrace (after conf event)
event_graced conf (Enter cpu) sound graced state valid may = enter_graced conf cpu.0 graced may
event_graced conf (Leave cpu) sound graced state valid may = leave_graced conf cpu.0 graced may
event_graced conf (Take cpu) sound graced state valid may = take_graced conf cpu.0 graced may
event_graced conf (Look cpu slot) sound graced state valid may = look_graced conf cpu.0 slot sound graced valid may
event_graced conf (Pin cpu object false) sound graced state valid may = pin_graced conf cpu.0 object.0 graced may
event_graced conf (Pin cpu object true) sound graced state valid may = owe_graced conf object.0 graced
event_graced conf (Unpin cpu object false) sound graced state valid may = unpin_graced conf cpu.0 object.0 graced may
event_graced conf (Unpin cpu object true) sound graced state valid may = settle_graced conf object.0 graced
event_graced conf (Undo cpu object) sound graced state valid may = undo_graced conf cpu.0 object.0 graced may
event_graced conf (Kill cpu object) sound graced state valid may = kill_graced conf cpu.0 object.0 sound graced may
event_graced conf (Commit cpu entry) sound graced state valid may = commit_graced conf cpu.0 graced entry may
event_graced conf (SetCap cpu entry space slot word) sound graced state valid may =
    set_graced conf cpu.0 space.0 slot word graced state entry may
event_graced conf (Free cpu true) sound graced state valid may = end_graced conf cpu.0 graced may
event_graced conf (Free cpu false) sound graced state valid may = quit_graced conf cpu.0 graced may
event_graced conf (Scan cpu of_cpu) sound graced state valid may = scan_graced conf of_cpu.0 graced
event_graced conf (Revive cpu object count) sound graced state valid may =
    revive_graced conf cpu.0 object.0 count may graced
event_graced conf (Join cpu) sound graced state valid may = graced
event_graced conf (Split cpu) sound graced state valid may = graced

-- and sound references, where there is grace, and the words are those of the present state
pub event_sound : (conf : Config) (event : Event) → HasReferences conf → HasGrace conf → HasState conf
    → IsValid (present conf) → ShowsWords conf → HasRoom conf → Possible conf event → HasReferences (after conf event)
event_sound conf (Enter cpu) sound graced state valid words room may = enter_keeps conf cpu.0 sound may
event_sound conf (Leave cpu) sound graced state valid words room may = leave_keeps conf cpu.0 sound may
event_sound conf (Take cpu) sound graced state valid words room may = take_keeps conf cpu.0 sound may
event_sound conf (Look cpu slot) sound graced state valid words room may = look_keeps conf cpu.0 slot sound valid words room may
event_sound conf (Pin cpu object false) sound graced state valid words room may = pin_keeps conf cpu.0 object.0 sound may
event_sound conf (Pin cpu object true) sound graced state valid words room may = owe_keeps conf cpu.0 object.0 sound may
event_sound conf (Unpin cpu object false) sound graced state valid words room may = unpin_keeps conf cpu.0 object.0 sound may
event_sound conf (Unpin cpu object true) sound graced state valid words room may = settle_keeps conf cpu.0 object.0 sound may
event_sound conf (Undo cpu object) sound graced state valid words room may = undo_keeps conf cpu.0 object.0 sound may
event_sound conf (Kill cpu object) sound graced state valid words room may = kill_keeps conf cpu.0 object.0 sound may
event_sound conf (Commit cpu entry) sound graced state valid words room may =
    commit_keeps conf cpu.0 entry sound state (entry_spares conf cpu.0 entry graced may) may
event_sound conf (SetCap cpu entry space slot word) sound graced state valid words room may =
    set_cap_keeps conf cpu.0 entry space.0 slot word sound state may
event_sound conf (Free cpu true) sound graced state valid words room may = end_keeps conf cpu.0 sound may
event_sound conf (Free cpu false) sound graced state valid words room may = quit_keeps conf cpu.0 sound may
event_sound conf (Scan cpu of_cpu) sound graced state valid words room may = scan_keeps conf of_cpu.0 sound
event_sound conf (Revive cpu object count) sound graced state valid words room may =
    revive_keeps conf cpu.0 object.0 count sound may
event_sound conf (Join cpu) sound graced state valid words room may = sound
event_sound conf (Split cpu) sound graced state valid words room may = sound
