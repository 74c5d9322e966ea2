-- The parts with other CPUs or links, and with an object retired.
use Rattle.std.specs.Prelude.{ℕ, List, Some, slice_set}
use Rattle.gh_model.specs.declared.rows.CpuRow.{CpuRow}
use Rattle.gh_model.specs.declared.rows.LinkRow.{LinkRow}
use Rattle.gh_objects.specs.Counts.{as_retired, count_changed}
use Rattle.gh_parts.specs.declared.parts.Parts.{Parts}

abbrev pub with_cpus : List CpuRow → Parts → Parts
with_cpus cpus parts = record parts { journal = record (parts.journal) { cpus = cpus } }

abbrev pub with_links : List LinkRow → Parts → Parts
with_links links parts = record parts { journal = record (parts.journal) { links = links } }

-- the object at an index is retired, with the counters of the CPUs
abbrev pub with_retired : List ℕ → ℕ → Parts → Parts
with_retired seen index parts = record parts {
  journal = record (parts.journal) {
    counts = count_changed as_retired parts.journal.counts index;
    retirements = slice_set parts.journal.retirements index (Some seen);
  };
}
