-- The parts stand for the rows once a CPU or a link is added.
use Rattle.std.proofs.Common.{◌≡◌, ◌+◌, ◌<◌, ◌-◌, ◌∙◌, ◌∷◌, ◌++◌, ℕ, Bool, List, [], refl, sym, ap, subst, arith, if◌then◌else◌}
use Rattle.std.specs.Prelude.{◌^◌}
use Rattle.gh_invariant.specs.Premises.{MayAttach}
use Rattle.gh_invariant.specs.Valid.{IsValidWithin}
use Rattle.gh_model.specs.Changes.{add_cpu}
use Rattle.gh_model.specs.declared.change.Change.TheVariants.{AddCpu}
use Rattle.gh_model.specs.declared.rows.CpuRow.{CpuRow}
use Rattle.gh_model.specs.declared.state.State.{State}
use Rattle.gh_objects.specs.Counts.{with_reference}
use Rattle.gh_parts.specs.Making.{HasRoom}
use Rattle.gh_parts.specs.NumberChanges.{with_cpus}
use Rattle.gh_parts.specs.Owing.{HasCount, recounted}
use Rattle.gh_parts.specs.Stands.{ReferencesStand, Stands, StandsOwing}
use Rattle.gh_parts.specs.declared.parts.Parts.{Parts}
use Rattle.gh_parts.proofs.StandsMoved.{references_moved}
use Rattle.gh_parts.proofs.StandsOwed.{may_owe, owed_next}

module _ (s : State) (valid : IsValidWithin s) (row : CpuRow) (may : MayAttach s row) where
  attach_stands : (parts : Parts) → StandsOwing (row.cspace ∷ row.space ∷ []) parts s
      → Stands (with_cpus (parts.journal.cpus ++ row ∷ []) parts) (add_cpu row s)
  attach_stands parts stand = record {
    objects = stand.objects;
    kinds = stand.kinds;
    references =
        references_moved (s.entries + 1) s (AddCpu row) valid may parts.table.headers parts.journal.counts refl
        (subst (λ (b : Bool). ReferencesStand parts.table.headers parts.journal.counts (if b then [] else row.cspace ∷ row.space ∷ []) s)
        (sym may.runs) stand.references);
    bells = stand.bells;
    queues = stand.queues;
    spans = stand.spans;
    spaces = stand.spaces;
    slots = stand.slots;
    units = stand.units;
    memory = stand.memory;
    blocks = stand.blocks;
    numbers = record {
      cpus = ap (λ (cpus : List CpuRow). cpus ++ row ∷ []) stand.numbers.cpus;
      links = stand.numbers.links;
      taken = stand.numbers.taken;
      entries = stand.numbers.entries;
      serials = stand.numbers.serials;
      handles = stand.numbers.handles;
      rings = stand.numbers.rings;
    };
  }

  pub cpu_owes : (parts pushed first now : Parts) → Stands parts s
      → pushed ≡ with_cpus (parts.journal.cpus ++ row ∷ []) parts
      → first ≡ recounted with_reference pushed row.space.0
      → now ≡ recounted with_reference first row.cspace.0 → Stands now (add_cpu row s)
  cpu_owes parts pushed first now stand was one two =
      let counted : Parts = recounted with_reference (recounted with_reference parts row.space.0) row.cspace.0 in
      let owed : StandsOwing (row.cspace ∷ row.space ∷ []) counted s =
      owed_next (recounted with_reference parts row.space.0) counted s (row.space ∷ []) row.cspace
      (owed_next parts (recounted with_reference parts row.space.0) s [] row.space stand refl) refl in
      subst (λ (next : Parts). Stands next (add_cpu row s))
      (ap (λ (p : Parts). recounted with_reference (recounted with_reference p row.space.0) row.cspace.0) (sym was)
      ∙ ap (λ (p : Parts). recounted with_reference p row.cspace.0) (sym one) ∙ sym two)
      (attach_stands counted owed)

  pub cpu_first : (parts pushed : Parts) → Stands parts s → HasRoom s
      → pushed ≡ with_cpus (parts.journal.cpus ++ row ∷ []) parts
      → HasCount pushed row.space.0 (λ (n : ℕ). n < 2 ^ 64 - 1)
  cpu_first parts pushed stand room was =
      let here : HasCount parts row.space.0 (λ (n : ℕ). n < 2 ^ 64 - 1) =
      may_owe parts s [] row.space.0 stand room (omega arith) in
      subst (λ (p : Parts). HasCount p row.space.0 (λ (n : ℕ). n < 2 ^ 64 - 1)) (sym was)
      (record { indexed = here.indexed; bare = here.bare; count = here.count })

  pub cpu_second : (parts pushed first : Parts) → Stands parts s → HasRoom s
      → pushed ≡ with_cpus (parts.journal.cpus ++ row ∷ []) parts
      → first ≡ recounted with_reference pushed row.space.0
      → HasCount first row.cspace.0 (λ (n : ℕ). n < 2 ^ 64 - 1)
  cpu_second parts pushed first stand room was one =
      let here : HasCount (recounted with_reference parts row.space.0) row.cspace.0 (λ (n : ℕ). n < 2 ^ 64 - 1) =
      may_owe (recounted with_reference parts row.space.0) s (row.space ∷ []) row.cspace.0
      (owed_next parts (recounted with_reference parts row.space.0) s [] row.space stand refl) room (omega arith) in
      subst (λ (p : Parts). HasCount p row.cspace.0 (λ (n : ℕ). n < 2 ^ 64 - 1))
      (ap (λ (p : Parts). recounted with_reference p row.space.0) (sym was) ∙ sym one)
      (record { indexed = here.indexed; bare = here.bare; count = here.count })
