-- What a schedule reads as: a CPU for each item, or the first bad item.
use Rattle.std.specs.Prelude.{◌≡◌, ◌==◌, ◌&&◌, ◌-◌, not, ℕ, Bool, true, false}
use Rattle.std.specs.Prelude.{List, map, count_by, nat_le, Option, Some, if◌then◌else◌}
use Rattle.std.specs.Bool.{⊤}
use Rattle.std.specs.List.{filter, list_any, position_from}
use Rattle.gh_base.specs.declared.ids.CpuNo.{CpuNo}
use Rattle.gh_model.specs.declared.boot_line.BootLine.{BootLine}
use Rattle.gh_model.specs.declared.boot_line.BootLine.TheVariants.{Pages, Partition, Cspace}
use Rattle.gh_model.specs.declared.boot_line.BootLine.TheVariants.{Addrspace, Doorbell}
use Rattle.gh_model.specs.declared.boot_line.BootLine.TheVariants.{RootExtent, Extent, Msgqueue}
use Rattle.gh_model.specs.declared.boot_line.BootLine.TheVariants.{Map, Cap, Vm, Rm, Link}
use Rattle.gh_model.specs.declared.file_err.FileErr.{FileErr}
use Rattle.gh_model.specs.declared.file_err.FileErr.TheVariants.{Bad, NoMemory}
use Rattle.std.specs.Option.{option_map}
use Rattle.gh_model.specs.Told.{told_number}
use Rattle.gh_callfile.specs.CallFile.{is_line_feed}

-- a line that makes a VM
abbrev pub makes_vm : BootLine → Bool
makes_vm (Pages count) = false
makes_vm (Partition quota) = false
makes_vm (Cspace partition) = false
makes_vm (Addrspace partition) = false
makes_vm (Doorbell partition) = false
makes_vm (RootExtent partition) = false
makes_vm (Extent partition parent offset count access held_offset held_count) = false
makes_vm (Msgqueue partition depth size) = false
makes_vm (Map space extent base offset count access) = false
makes_vm (Cap cspace slot object rights master) = false
makes_vm (Vm cspace space) = true
makes_vm (Rm cspace space partition) = false
makes_vm (Link vm extent request reply) = false

-- a line that makes the resource manager
abbrev pub makes_manager : BootLine → Bool
makes_manager (Pages count) = false
makes_manager (Partition quota) = false
makes_manager (Cspace partition) = false
makes_manager (Addrspace partition) = false
makes_manager (Doorbell partition) = false
makes_manager (RootExtent partition) = false
makes_manager (Extent partition parent offset count access held_offset held_count) = false
makes_manager (Msgqueue partition depth size) = false
makes_manager (Map space extent base offset count access) = false
makes_manager (Cap cspace slot object rights master) = false
makes_manager (Vm cspace space) = false
makes_manager (Rm cspace space partition) = true
makes_manager (Link vm extent request reply) = false

-- CPU 0 is the resource manager's, and CPU v that of VM v
abbrev pub is_cpu_among : Bool → ℕ → ℕ → Bool
is_cpu_among manager vms cpu = if cpu == 0 then manager else nat_le cpu vms

-- a CPU of a boot file
abbrev pub is_cpu_of : List BootLine → ℕ → Bool
is_cpu_of lines cpu = is_cpu_among (list_any makes_manager lines) (count_by makes_vm lines) cpu

-- the items of a schedule: all bytes but line feeds
abbrev pub items_of : List ℕ → List ℕ
items_of text = filter (λ byte. not (is_line_feed byte)) text

-- an item's CPU is the digit that it writes
abbrev pub cpu_of : ℕ → CpuNo
cpu_of byte = record { 0 = byte - 48 }

-- a good item is a digit from 0 to 8 that is a CPU
abbrev pub is_item_among : Bool → ℕ → ℕ → Bool
is_item_among manager vms byte =
    nat_le 48 byte && nat_le byte 56 && is_cpu_among manager vms (byte - 48)

abbrev pub is_item : List BootLine → ℕ → Bool
is_item lines byte = is_item_among (list_any makes_manager lines) (count_by makes_vm lines) byte

-- the first bad item of a schedule, counted from 1 and told as a number of 32 bits
abbrev pub bad_item : List BootLine → List ℕ → Option ℕ
bad_item lines text =
    option_map told_number (position_from (λ byte. not (is_item lines byte)) 1 (items_of text))

-- the CPUs of a schedule, in order
abbrev pub cpus_of : List ℕ → List CpuNo
cpus_of text = map cpu_of (items_of text)

-- the error carries the first bad item; want of memory says nothing of the text
abbrev pub IsBadItem : Option ℕ → FileErr → Type 0
IsBadItem bad (Bad number) = bad ≡ Some number
IsBadItem bad NoMemory = ⊤
