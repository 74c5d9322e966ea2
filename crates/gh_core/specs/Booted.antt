-- The configuration of a boot file before any event.
use Rattle.std.specs.Prelude.{List}
use Rattle.gh_core.specs.declared.table.Written.{Written}
use Rattle.gh_events.specs.Config.{Config}
use Rattle.gh_events.specs.Start.{start}
use Rattle.gh_model.specs.Boot.{boot_state}
use Rattle.gh_model.specs.declared.boot_line.BootLine.{BootLine}
use Rattle.gh_model.specs.declared.rows.ObjectRow.{ObjectRow}
use Rattle.gh_model.specs.declared.state.State.{State}
use Rattle.gh_schedules.specs.Indices.{boot_index}

-- an object of the boot with its index
abbrev pub placed : State → ObjectRow → Written
placed boot row = record { at = row.serial.0; value = boot_index boot row.serial.0 }

-- each partition's objects have the indices of a block
abbrev pub booted : List BootLine → Config
booted lines = start (boot_state lines) (boot_index (boot_state lines))
