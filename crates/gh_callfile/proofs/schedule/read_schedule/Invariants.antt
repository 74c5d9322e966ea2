use Rattle.std.proofs.Common.{◌≡◌, ◌+◌, ◌≤◌, ◌++◌, drop, not, true}
use Rattle.std.specs.Prelude.{All}
use Rattle.gh_base.specs.declared.ids.CpuNo.{CpuNo}
use Rattle.std.specs.List.{position_from}
use Rattle.std.specs.Option.{option_map}
use Rattle.gh_model.specs.Told.{told_number}
use Rattle.gh_callfile.specs.Schedule.{bad_item, cpus_of, is_cpu_among, is_item_among, items_of}
use Rattle.gh_callfile.proofs.schedule.read_schedule.Given as goal

abbrev pub invariant-loop-byte : goal.invariant-loop-byte
invariant-loop-byte l = record {
  read : l.items ++ cpus_of (drop l.byte-index l.text) ≡ cpus_of l.text;
  exist : All (λ (cpu : CpuNo). is_cpu_among l.cpus.manager l.cpus.vms cpu.0 ≡ true) l.items;
  few : l.number ≤ 1 + l.byte-index;
  good : option_map told_number (position_from (λ byte. not (is_item_among l.cpus.manager l.cpus.vms byte)) l.number (items_of (drop l.byte-index l.text))) ≡ bad_item l.boot l.text;
}
