-- The machine: which events are possible in a configuration, and the configuration behind each.
use Rattle.std.specs.Prelude.{true, false}
use Rattle.gh_events.specs.CallEvents.{MayEnter, MayLeave, MayLook, MayMove, MayPin, MayUndo, MayUnpin, entered, left, looked, pinned, undone, unpinned}
use Rattle.gh_events.specs.Config.{Config}
use Rattle.gh_events.specs.HolderEvents.{MayKill, MayOwe, MayRevive, MayScan, MaySettle, killed, owed, revived, scanned, settled}
use Rattle.gh_events.specs.TurnEvents.{MayCommit, MayEnd, MayQuit, MaySetCap, MayTake, committed, ended, quit, set_cap, taken}
use Rattle.gh_events.specs.declared.event.Event.{Event}
use Rattle.gh_events.specs.declared.event.Event.TheVariants.{Enter, Leave, Take, Look, Pin, Unpin, Undo, Kill, Commit, SetCap, Free, Scan, Revive, Join, Split}

-- the event may come next
abbrev pub Possible : Config → Event → Type 0
Possible conf (Enter cpu) = MayEnter conf cpu.0
Possible conf (Leave cpu) = MayLeave conf cpu.0
Possible conf (Take cpu) = MayTake conf cpu.0
Possible conf (Look cpu slot) = MayLook conf cpu.0 slot
Possible conf (Pin cpu object false) = MayPin conf cpu.0 object.0
Possible conf (Pin cpu object true) = MayOwe conf cpu.0 object.0
Possible conf (Unpin cpu object false) = MayUnpin conf cpu.0 object.0
Possible conf (Unpin cpu object true) = MaySettle conf cpu.0 object.0
Possible conf (Undo cpu object) = MayUndo conf cpu.0 object.0
Possible conf (Kill cpu object) = MayKill conf cpu.0 object.0
Possible conf (Commit cpu entry) = MayCommit conf cpu.0 entry
Possible conf (SetCap cpu entry space slot word) = MaySetCap conf cpu.0 entry space.0 slot word
Possible conf (Free cpu true) = MayEnd conf cpu.0
Possible conf (Free cpu false) = MayQuit conf cpu.0
Possible conf (Scan cpu of) = MayScan conf cpu.0 of.0
Possible conf (Revive cpu object count) = MayRevive conf cpu.0 object.0 count
Possible conf (Join cpu) = MayMove conf cpu.0
Possible conf (Split cpu) = MayMove conf cpu.0

-- the configuration behind an event; of one that isn't possible it says nothing
abbrev pub after : Config → Event → Config
after conf (Enter cpu) = entered conf cpu.0
after conf (Leave cpu) = left conf cpu.0
after conf (Take cpu) = taken conf cpu.0
after conf (Look cpu slot) = looked conf cpu.0 slot
after conf (Pin cpu object false) = pinned conf cpu.0 object.0
after conf (Pin cpu object true) = owed conf object.0
after conf (Unpin cpu object false) = unpinned conf cpu.0 object.0
after conf (Unpin cpu object true) = settled conf object.0
after conf (Undo cpu object) = undone conf cpu.0 object.0
after conf (Kill cpu object) = killed conf object.0
after conf (Commit cpu entry) = committed conf cpu.0 entry
after conf (SetCap cpu entry space slot word) = set_cap conf cpu.0 entry space.0 slot word
after conf (Free cpu true) = ended conf cpu.0
after conf (Free cpu false) = quit conf
after conf (Scan cpu of) = scanned conf of.0
after conf (Revive cpu object count) = revived conf object.0 count
after conf (Join cpu) = conf
after conf (Split cpu) = conf
