-- Each change that may be made leaves CPUs and links fit.
use Rattle.std.proofs.Common.{◌∙◌, ◌++◌, ◌∷◌, [], ℕ}
use Rattle.gh_base.specs.declared.kind.Kind.TheVariants as kind
use Rattle.gh_model.specs.Changes.{boot_object, changed, with_stage, with_counters, with_cost}
use Rattle.gh_model.specs.Rows.{change_row, is_object}
use Rattle.gh_model.specs.declared.change.Change.{Change}
use Rattle.gh_model.specs.declared.change.Change.TheVariants.{PutCapability, DropCapability, RevokeCapability, AddObject, SetStage, Retire, Reclaim, GiveQuota, AddExtent, MovePages, PutMapping, DropMapping, SetBell, ConfigureQueue, PutMessage, DropMessage, EmptyQueue, Exit, Ring, SetPages, AddPartition, AddRoot, SetRoom, FillSlot, AddCpu, AddLink}
use Rattle.gh_model.specs.declared.rows.ObjectRow.{ObjectRow}
use Rattle.gh_model.specs.declared.state.State.{State}
use Rattle.gh_invariant.specs.Premises.{MayChange}
use Rattle.gh_invariant.specs.Valid.{IsValidTo, CpusFit}
use Rattle.gh_invariant.proofs.CpusAdded.{attach_keeps_cpus, link_keeps_cpus}
use Rattle.gh_invariant.proofs.CpusFit.{cpus_live_on, exit_keeps_cpus, reclaim_keeps_cpus}
use Rattle.gh_invariant.proofs.ObjectsFit.{KeepsPlace, lives_beside, lives_kept}
use Rattle.gh_invariant.proofs.PartsKept.{stage_keeps, counters_keep, cost_keeps}
use Rattle.gh_invariant.proofs.ReferencesLaw.{unreferenced}

module _ (last : ℕ) (s : State) (valid : IsValidTo last s) where
  -- objects whose rows change in place live on
  cpus_in_place : (object : ℕ) (change : ObjectRow → ObjectRow) → KeepsPlace change
      → CpusFit (change_row (is_object object) change s.objects) s.cpus s.links
  cpus_in_place object change keeps =
      cpus_live_on s.objects (change_row (is_object object) change s.objects) s.cpus s.links
      (λ serial k lives. lives_kept (is_object object) change keeps s.objects serial k ∙ lives) valid.cpus

  -- CPUs and links
  pub cpus_kept : (change : Change) → MayChange s change
      → CpusFit (changed s change).objects (changed s change).cpus (changed s change).links
  cpus_kept (PutCapability row) may = valid.cpus
  cpus_kept (DropCapability cspace slot) may = valid.cpus
  cpus_kept (RevokeCapability cspace slot) may = valid.cpus
  cpus_kept (AddObject row) may =
      cpus_live_on s.objects (s.objects ++ row ∷ []) s.cpus s.links (λ serial k lives. lives_beside s.objects row serial k lives) valid.cpus
  cpus_kept (SetStage object stage) may =
      cpus_in_place object.0 (with_stage stage) (stage_keeps stage)
  cpus_kept (Retire object seen) may =
      cpus_in_place object.0 (with_counters seen) (counters_keep seen)
  cpus_kept (Reclaim object) may =
      reclaim_keeps_cpus s.objects object.0 s.cpus s.links (unreferenced s object.0 may.doomed).cpus (unreferenced s object.0 may.doomed).links valid.cpus
  cpus_kept (GiveQuota partition quota) may = valid.cpus
  cpus_kept (AddExtent row) may = valid.cpus
  cpus_kept (MovePages first count holder) may = valid.cpus
  cpus_kept (PutMapping row) may = valid.cpus
  cpus_kept (DropMapping row) may = valid.cpus
  cpus_kept (SetBell row) may = valid.cpus
  cpus_kept (ConfigureQueue queue depth size cost) may =
      cpus_in_place queue.0 (with_cost cost) (cost_keeps cost)
  cpus_kept (PutMessage queue message) may = valid.cpus
  cpus_kept (DropMessage queue) may = valid.cpus
  cpus_kept (EmptyQueue queue) may = valid.cpus
  cpus_kept (Exit cpu) may = exit_keeps_cpus s.objects s.cpus s.links cpu.0 valid.cpus
  cpus_kept Ring may = valid.cpus
  cpus_kept (SetPages count) may = valid.cpus
  cpus_kept (AddPartition quota) may =
      cpus_live_on s.objects (changed s (AddPartition quota)).objects s.cpus s.links
      (lives_beside s.objects (boot_object s kind.Partition s.next_serial 1)) valid.cpus
  cpus_kept (AddRoot row) may = valid.cpus
  cpus_kept (SetRoom queue depth size) may = valid.cpus
  cpus_kept (FillSlot row) may = valid.cpus
  cpus_kept (AddCpu row) may = attach_keeps_cpus s valid.cpus row may
  cpus_kept (AddLink row) may = link_keeps_cpus s valid.cpus row may
