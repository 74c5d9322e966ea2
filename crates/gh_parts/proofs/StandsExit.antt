-- The parts stand for the rows once a CPU has exited.
use Rattle.std.proofs.Common.{◌≡◌, ◌∙◌, ◌∷◌, ◌+◌, Bool, true, false, List, [], Option, Some, refl, sym, ap, subst, find}
use Rattle.std.proofs.Common.{if◌then◌else◌}
use Rattle.gh_base.specs.declared.ids.CpuNo.{CpuNo}
use Rattle.gh_base.specs.declared.ids.Serial.{Serial}
use Rattle.gh_invariant.specs.Effects.{attachments, losses}
use Rattle.gh_invariant.specs.Valid.{IsValidWithin}
use Rattle.gh_model.specs.Changes.{as_exited, exit_cpu}
use Rattle.gh_model.specs.Rows.{change_row, is_cpu}
use Rattle.gh_model.specs.declared.change.Change.TheVariants.{Exit}
use Rattle.gh_model.specs.declared.rows.CpuRow.{CpuRow}
use Rattle.gh_model.specs.declared.state.State.{State}
use Rattle.gh_parts.specs.NumberChanges.{with_cpus}
use Rattle.gh_parts.specs.Stands.{Stands, StandsOwing}
use Rattle.gh_parts.specs.declared.parts.Parts.{Parts}
use Rattle.gh_parts.proofs.StandsMoved.{references_moved}

module _ (parts : Parts) (s : State) (stand : Stands parts s) (valid : IsValidWithin s) (cpu : CpuNo) where
  exit_stands : StandsOwing (losses s (Exit cpu))
      (with_cpus (change_row (is_cpu cpu.0) as_exited parts.journal.cpus) parts) (exit_cpu cpu.0 s)
  exit_stands = record {
    objects = stand.objects;
    kinds = stand.kinds;
    references = references_moved (s.entries + 1) s (Exit cpu) valid tt parts.table.headers parts.journal.counts refl stand.references;
    bells = stand.bells;
    queues = stand.queues;
    spans = stand.spans;
    spaces = stand.spaces;
    slots = stand.slots;
    units = stand.units;
    memory = stand.memory;
    blocks = stand.blocks;
    numbers = record {
      cpus = ap (change_row (is_cpu cpu.0) as_exited) stand.numbers.cpus;
      links = stand.numbers.links;
      taken = stand.numbers.taken;
      entries = stand.numbers.entries;
      serials = stand.numbers.serials;
      handles = stand.numbers.handles;
      rings = stand.numbers.rings;
    };
  }

  -- what the CPU was attached to is owed
  pub exit_owes : (now : Parts) (row : Option CpuRow)
      → now ≡ with_cpus (change_row (is_cpu cpu.0) as_exited parts.journal.cpus) parts
      → row ≡ find (is_cpu cpu.0) parts.journal.cpus
      → StandsOwing (attachments row) now (exit_cpu cpu.0 s)
  exit_owes now row is found =
      subst (λ (one : Parts). StandsOwing (attachments row) one (exit_cpu cpu.0 s)) (sym is)
      (subst (λ (owed : List Serial). StandsOwing owed (with_cpus (change_row (is_cpu cpu.0) as_exited parts.journal.cpus) parts) (exit_cpu cpu.0 s))
      (ap (λ (cpus : List CpuRow). attachments (find (is_cpu cpu.0) cpus)) (sym stand.numbers.cpus) ∙ ap attachments (sym found))
      exit_stands)

-- a CPU that has exited is attached to nothing
pub runs_not : (parts : Parts) (s : State) (row : CpuRow) (exited : Bool) → row.exited ≡ exited → exited ≡ true
    → StandsOwing (attachments (Some row)) parts s → Stands parts s
runs_not parts s row exited is gone stand =
    subst (λ (b : Bool). StandsOwing (if b then [] else row.cspace ∷ row.space ∷ []) parts s) (is ∙ gone) stand

-- and one that runs to its two spaces
pub runs : (parts : Parts) (s : State) (row : CpuRow) → row.exited ≡ false
    → StandsOwing (attachments (Some row)) parts s → StandsOwing (row.cspace ∷ row.space ∷ []) parts s
runs parts s row is stand =
    subst (λ (b : Bool). StandsOwing (if b then [] else row.cspace ∷ row.space ∷ []) parts s) is stand
