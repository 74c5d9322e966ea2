-- The present state is valid and what the CPUs hold fits it: every event keeps it so.
use Rattle.std.proofs.Common.{◌==◌, true, false, refl}
use Rattle.gh_events.specs.Config.{Config}
use Rattle.gh_events.specs.Events.{Possible, after}
use Rattle.gh_events.specs.HolderEvents.{one_less, one_more, with_revived, with_scan}
use Rattle.gh_events.specs.ValidState.{HasValid}
use Rattle.gh_events.specs.declared.event.Event.{Event}
use Rattle.gh_events.specs.declared.event.Event.TheVariants.{Enter, Leave, Take, Look, Pin, Unpin, Undo, Kill, Commit, SetCap, Free, Scan, Revive, Join, Split}
use Rattle.gh_events.proofs.ValidEntries.{commit_valid, set_cap_valid}
use Rattle.gh_events.proofs.ValidEvents.{end_valid, enter_valid, holder_valid, kill_valid, leave_valid, look_valid, pin_valid, quit_valid, take_valid, undo_valid, unpin_valid}

-- every event
pub event_keeps_valid : (conf : Config) (event : Event) → HasValid conf → Possible conf event
    → HasValid (after conf event)
event_keeps_valid conf (Enter cpu) fit may = enter_valid conf fit cpu.0 may
event_keeps_valid conf (Leave cpu) fit may = leave_valid conf fit cpu.0 may
event_keeps_valid conf (Take cpu) fit may = take_valid conf fit cpu.0 may
event_keeps_valid conf (Look cpu slot) fit may = look_valid conf fit cpu.0 slot may
event_keeps_valid conf (Pin cpu object false) fit may = pin_valid conf fit cpu.0 object.0 may
event_keeps_valid conf (Pin cpu object true) fit may =
    holder_valid conf fit (one_more object.0) _ conf.dead (λ holder n. refl)
event_keeps_valid conf (Unpin cpu object false) fit may = unpin_valid conf fit cpu.0 object.0
event_keeps_valid conf (Unpin cpu object true) fit may =
    holder_valid conf fit (one_less object.0) _ conf.dead (λ holder n. refl)
event_keeps_valid conf (Undo cpu object) fit may = undo_valid conf fit cpu.0 object.0 may
event_keeps_valid conf (Kill cpu object) fit may =
    kill_valid conf fit object.0 (conf.count object.0 == 0)
event_keeps_valid conf (Commit cpu entry) fit may = commit_valid conf cpu.0 entry fit may
event_keeps_valid conf (SetCap cpu entry space slot word) fit may =
    set_cap_valid conf cpu.0 entry space.0 slot word fit may
event_keeps_valid conf (Free cpu true) fit may = end_valid conf fit cpu.0 may
event_keeps_valid conf (Free cpu false) fit may = quit_valid conf fit cpu.0 may
event_keeps_valid conf (Scan cpu of_cpu) fit may =
    holder_valid conf fit (with_scan of_cpu.0 (conf.counter of_cpu.0)) conf.count conf.dead (λ holder n. refl)
event_keeps_valid conf (Revive cpu object count) fit may =
    holder_valid conf fit (with_revived object.0 count) _ _ (λ holder n. refl)
event_keeps_valid conf (Join cpu) fit may = fit
event_keeps_valid conf (Split cpu) fit may = fit
