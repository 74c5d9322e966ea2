-- The state as callers see it: a boot file, the history since, and how many entries more the log
-- has room for. Its rows are those that the history makes of the boot file's.
use Rattle.std.specs.Prelude.{◌-◌, ◌*◌, ◌≤◌, ◌++◌, ◌∷◌, ℕ, List, [], length, map, IsTrue}
use Rattle.gh_base.specs.declared.limits.TheConstants.{CPUS, CSPACES, CSPACE_SLOTS}
use Rattle.gh_invariant.specs.Events.{EventsFit}
use Rattle.gh_invariant.specs.Valid.{IsValid}
use Rattle.gh_model.specs.Boot.{boot_fits, boot_state}
use Rattle.gh_model.specs.History.{Event, replay}
use Rattle.gh_model.specs.Small.{IsKept}
use Rattle.gh_model.specs.declared.boot_line.BootLine.{BootLine}
use Rattle.gh_model.specs.declared.state.State.{State}
use Rattle.gh_parts.specs.Entries.{Entries}
use Rattle.gh_parts.specs.Stands.{Stands}
use Rattle.gh_parts.specs.declared.log.Logged.{Logged}
use Rattle.gh_parts.specs.declared.parts.Parts.{Parts}

pub record Past : Type 0 where
  pub boot : List BootLine
  pub history : List Event
  pub room : ℕ

-- no event has come yet
abbrev pub begun : List BootLine → Past
begun boot = record { boot = boot; history = []; room = 0 }

-- the rows by now
abbrev pub rows_of : Past → State
rows_of past = replay (boot_state past.boot) past.history

-- what the log has of an event
abbrev pub event_of : Logged → Event
event_of logged = record {
  entry = logged.entry;
  call = logged.call;
  bytes = logged.bytes;
  words = logged.words;
}

abbrev pub past_of : List BootLine → Entries → Past
past_of boot log =
    record { boot = boot; history = map event_of log.logged; room = log.room }

-- an entry more
abbrev pub with_event : Event → Past → Past
with_event event past = record past { history = past.history ++ event ∷ []; room = past.room - 1 }

-- the CPUs and the links are those of the boot file, which are few
pub record HasFewSeats (s : State) : Type 0 where
  pub cpus : length s.cpus ≤ CPUS
  pub links : 2 * length s.links ≤ CSPACES * CSPACE_SLOTS

-- the parts are those of the rows by now, which are valid, and each event fitted the rows before it
pub record IsPresent (past : Past) (parts : Parts) : Type 0 where
  pub boot : IsTrue (boot_fits past.boot)
  pub fit : EventsFit (boot_state past.boot) past.history
  pub stands : Stands parts (rows_of past)
  pub valid : IsValid (rows_of past)
  pub kept : IsKept (rows_of past)
  pub seats : HasFewSeats (rows_of past)
