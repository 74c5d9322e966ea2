-- Serial 0 is no object's, and only extents without a parent refer to it.
use Rattle.std.proofs.Common.{◌≡◌, ◌&&◌, ◌||◌, ◌==◌, not, ℕ, Bool, true, false, List, [], ◌∷◌, Option, Some, None}
use Rattle.std.proofs.Common.{refl, sym, ap, subst, arith, inl, inr, find, IsTrue}
use Rattle.std.specs.Prelude.{count_by}
use Rattle.std.specs.List.{list_all}
use Rattle.std.proofs.lemmas.Bool.{and_parts, both_ways, cases_Bool, eqb-true, or_cases}
use Rattle.gh_base.specs.declared.kind.Kind.{Kind}
use Rattle.gh_base.specs.declared.kind.Kind.TheVariants as kind
use Rattle.gh_invariant.proofs.Counting.{count_cons, count_most, one_false, unfound}
use Rattle.gh_invariant.proofs.CpusFit.{LinkParts, link_parts}
use Rattle.gh_invariant.proofs.SlotsFit.{slot_parts}
use Rattle.gh_invariant.specs.Lives.{cpu_fits, is_housed, link_stands, lives_as, mapping_stands, slot_fits, space_lives}
use Rattle.gh_invariant.specs.Valid.{IsValidTo}
use Rattle.gh_model.specs.Boot.{is_of_kind}
use Rattle.gh_model.specs.QueueCalls.{one_if}
use Rattle.gh_model.specs.References.{is_attached_to, is_boot_partition, is_capability_of, is_child_of, is_inhabitant_of, is_mapping_of}
use Rattle.gh_model.specs.References.{is_root_extent, is_share_of, is_slot_of, is_space_of, references, uses_link}
use Rattle.gh_model.specs.Rows.{is_cpu, is_extent, is_object, is_partition}
use Rattle.gh_model.specs.declared.rows.CapabilityRow.{CapabilityRow}
use Rattle.gh_model.specs.declared.rows.CpuRow.{CpuRow}
use Rattle.gh_model.specs.declared.rows.LinkRow.{LinkRow}
use Rattle.gh_model.specs.declared.rows.MappingRow.{MappingRow}
use Rattle.gh_model.specs.declared.state.State.{State}

none_by : {R : Type 0} (p : R → Bool) (row : R) → (p row ≡ true → ⊥) → one_if (p row) ≡ 0
none_by p row fails =
    elim (cases_Bool (p row)) [ inl passes ↦ absurd (fails passes) | inr past ↦ one_false (p row) past ]

-- where all pass a test that no row passes beside another, none passes the other
none_pass : {R : Type 0} (p q : R → Bool) (rows : List R)
    → ((row : R) → q row ≡ true → p row ≡ true → ⊥) → IsTrue (list_all q rows) → count_by p rows ≡ 0
none_pass p q [] apart all = refl
none_pass p q (row ∷ rows) apart all =
    let parts : (q row ≡ true) × (list_all q rows ≡ true) = and_parts _ _ all in
    omega (arith, count_cons p row rows, none_by p row (apart row parts.0), none_pass p q rows apart parts.1)

module _ (last : ℕ) (s : State) (valid : IsValidTo last s) where
  -- what lives has another serial
  never : (serial : ℕ) (k : Kind) → IsTrue (lives_as s.objects serial k) → (serial == 0) ≡ true → ⊥
  never serial k is same =
      let none : find (is_object serial) s.objects ≡ None =
      subst (λ (n : ℕ). find (is_object n) s.objects ≡ None) (sym (eqb-true serial 0 same))
      (unfound (is_object 0) s.objects valid.objects.none) in
      both_ways (lives_as s.objects serial k) (ap (is_of_kind k) none) is

  lives_none : (k : Kind) → one_if (lives_as s.objects 0 k) ≡ 0
  lives_none k =
      one_false (lives_as s.objects 0 k) (ap (is_of_kind k) (unfound (is_object 0) s.objects valid.objects.none))

  cap_never : (row : CapabilityRow) (valid : Bool)
      → (not valid || lives_as s.objects row.serial.0 row.kind) ≡ true
      → (valid && (row.serial.0 == 0)) ≡ true → ⊥
  cap_never row true lives here = never row.serial.0 row.kind lives here
  cap_never row false lives here = both_ways false refl here

  cpu_never : (row : CpuRow) (exited : Bool)
      → (exited || (lives_as s.objects row.cspace.0 kind.Cspace && lives_as s.objects row.space.0 kind.Space)) ≡ true
      → (((row.cspace.0 == 0) || (row.space.0 == 0)) && not exited) ≡ true → ⊥
  cpu_never row true fits here =
      both_ways false refl (and_parts ((row.cspace.0 == 0) || (row.space.0 == 0)) false here).1
  cpu_never row false fits here =
      let live : (lives_as s.objects row.cspace.0 kind.Cspace ≡ true) × (lives_as s.objects row.space.0 kind.Space ≡ true) =
      and_parts _ _ fits in
      elim (or_cases (row.cspace.0 == 0) (row.space.0 == 0) (and_parts _ _ here).0) as (λ _. ⊥) [
        | inl cspace ↦ never row.cspace.0 kind.Cspace live.0 cspace
        | inr space ↦ never row.space.0 kind.Space live.1 space
      ]

  space_never : (found : Option CpuRow) → IsTrue (space_lives s.objects found) → is_space_of 0 found ≡ true → ⊥
  space_never None is here = both_ways false refl here
  space_never (Some row) is here = never row.space.0 kind.Space is here

  link_never : (row : LinkRow) → IsTrue (link_stands s.objects s.cpus row) → uses_link s.cpus 0 row ≡ true → ⊥
  link_never row stands here =
      let parts : LinkParts s.objects s.cpus row = link_parts s.objects s.cpus row stands in
      let space : Bool = is_space_of 0 (find (is_cpu row.vm.0) s.cpus) in
      let extent : Bool = row.extent.0 == 0 in
      let request : Bool = row.request.0 == 0 in
      elim (or_cases (space || extent || request) (row.reply.0 == 0) here) as (λ _. ⊥) [
        | inl first ↦ elim (or_cases (space || extent) request first) as (λ _. ⊥) [
          | inl front ↦ elim (or_cases space extent front) as (λ _. ⊥) [
            | inl its ↦ space_never (find (is_cpu row.vm.0) s.cpus) parts.space its
            | inr its ↦ never row.extent.0 kind.Extent parts.extent its
          ]
          | inr its ↦ never row.request.0 kind.Queue parts.request its
        ]
        | inr its ↦ never row.reply.0 kind.Queue parts.reply its
      ]

  map_never : (row : MappingRow) → IsTrue (mapping_stands s.objects s.extents row) → is_mapping_of 0 row ≡ true → ⊥
  map_never row stands here =
      let live : (lives_as s.objects row.space.0 kind.Space ≡ true) × (lives_as s.objects row.extent.0 kind.Extent ≡ true) =
      and_parts _ _ (and_parts _ _ (and_parts _ _ (and_parts _ _ stands).0).0).0 in
      elim (or_cases (row.space.0 == 0) (row.extent.0 == 0) here) as (λ _. ⊥) [
        | inl its ↦ never row.space.0 kind.Space live.0 its
        | inr its ↦ never row.extent.0 kind.Extent live.1 its
      ]

  capabilities : count_by (is_capability_of 0) s.caps ≡ 0
  capabilities =
      none_pass (is_capability_of 0) (slot_fits s.next_serial s.objects) s.caps
      (λ row fits here. cap_never row row.valid (slot_parts s.next_serial s.objects row fits).object here)
      valid.slots.filled

  slots : count_by (is_slot_of 0) s.caps ≡ 0
  slots =
      none_pass (is_slot_of 0) (slot_fits s.next_serial s.objects) s.caps
      (λ row fits here. never row.cspace.0 kind.Cspace (slot_parts s.next_serial s.objects row fits).home here)
      valid.slots.filled

  mappings : count_by (is_mapping_of 0) s.mappings ≡ 0
  mappings = none_pass (is_mapping_of 0) (mapping_stands s.objects s.extents) s.mappings map_never valid.mappings.stand

  inhabitants : count_by (is_inhabitant_of 0) s.objects ≡ 0
  inhabitants =
      none_pass (is_inhabitant_of 0) (is_housed s.objects) s.objects
      (λ row housed here. never row.partition.0 kind.Partition housed (and_parts _ _ here).0) valid.objects.housed

  cpus : count_by (is_attached_to 0) s.cpus ≡ 0
  cpus =
      none_pass (is_attached_to 0) (cpu_fits s.objects) s.cpus (λ row fits here. cpu_never row row.exited fits here)
      valid.cpus.attached

  links : count_by (uses_link s.cpus 0) s.links ≡ 0
  links = none_pass (uses_link s.cpus 0) (link_stands s.objects s.cpus) s.links link_never valid.cpus.linked

  boot : count_by (is_boot_partition 0) s.partitions ≡ 0
  boot =
      omega (
        arith,
        count_most (is_boot_partition 0) (is_partition 0) s.partitions (λ row is. (and_parts _ _ is).0),
        valid.rows.partitions 0,
        lives_none kind.Partition,
      )

  root : count_by (is_root_extent 0) s.extents ≡ 0
  root =
      omega (
        arith,
        count_most (is_root_extent 0) (is_extent 0) s.extents (λ row is. (and_parts _ _ is).0),
        valid.rows.extents 0,
        lives_none kind.Extent,
      )

  -- only the root's parent is 0
  pub zero_references : references s 0 ≡ count_by (is_child_of 0) s.extents
  zero_references =
      omega (
        arith,
        capabilities,
        slots,
        mappings,
        inhabitants,
        cpus,
        links,
        ap (count_by (is_share_of 0)) valid.parcels,
        boot,
        root,
      )
