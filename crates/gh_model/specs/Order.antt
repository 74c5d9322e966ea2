-- The CPUs of a state in rising order, that of the resource manager first.
use Rattle.std.specs.Prelude.{◌==◌, Bool, List, ◌++◌, filter}
use Rattle.gh_model.specs.declared.rows.CpuRow.{CpuRow}
use Rattle.gh_model.specs.declared.state.State.{State}
use Rattle.gh_model.specs.Boot.{is_vm}

-- the row is that of the resource manager's CPU
abbrev pub is_manager : CpuRow → Bool
is_manager row = row.cpu.0 == 0

-- the rows of CPUs in order: the resource manager, then the VMs
abbrev pub rows_in_order : List CpuRow → List CpuRow
rows_in_order rows = filter is_manager rows ++ filter is_vm rows

-- the CPUs of a state in order
abbrev pub cpus_in_order : State → List CpuRow
cpus_in_order s = rows_in_order s.cpus
