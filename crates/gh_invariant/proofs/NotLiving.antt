-- What doesn't live has no references.
use Rattle.std.proofs.Common.{◌≡◌, ◌≤◌, ◌<◌, ◌∙◌, ◌&&◌, ◌||◌, ◌==◌, not, length, ℕ, Bool, true, false, List, [], ◌∷◌, ◌⊎◌, inl, inr, refl, subst, sym, ap, arith, Option, Some, None, IsTrue, find, is_some}
use Rattle.std.specs.Prelude.{count_by}
use Rattle.std.specs.List.{list_all}
use Rattle.std.proofs.lemmas.Bool.{and_parts, cases_Bool, or_cases, both_ways, eqb-true}
use Rattle.std.proofs.lemmas.Bool.Decides.{nat_tests}
use Rattle.gh_base.specs.declared.kind.Kind.{Kind}
use Rattle.gh_base.specs.declared.kind.Kind.TheVariants as kind
use Rattle.gh_model.specs.Boot.{is_of_kind}
use Rattle.gh_model.specs.QueueCalls.{one_if}
use Rattle.gh_model.specs.References.{references, is_capability_of, is_slot_of, is_inhabitant_of, is_child_of, is_root_extent, is_boot_partition, is_mapping_of, is_attached_to, uses_link, is_space_of, is_share_of}
use Rattle.gh_model.specs.Rows.{is_object, is_partition, is_extent, is_cpu}
use Rattle.gh_model.specs.declared.rows.ObjectRow.{ObjectRow}
use Rattle.gh_model.specs.declared.rows.ExtentRow.{ExtentRow}
use Rattle.gh_model.specs.declared.rows.CapabilityRow.{CapabilityRow}
use Rattle.gh_model.specs.declared.rows.MappingRow.{MappingRow}
use Rattle.gh_model.specs.declared.rows.CpuRow.{CpuRow}
use Rattle.gh_model.specs.declared.rows.LinkRow.{LinkRow}
use Rattle.gh_model.specs.declared.state.State.{State}
use Rattle.gh_invariant.specs.Lives.{is_root, is_part_of, lives, lives_as, is_housed, slot_fits, span_fits, mapping_stands, cpu_fits, link_stands, space_lives}
use Rattle.gh_invariant.specs.Valid.{IsValidTo}
use Rattle.gh_invariant.proofs.Counting.{unfound, count_cons, count_most, one_false}
use Rattle.gh_invariant.proofs.CpusFit.{LinkParts, link_parts}
use Rattle.gh_invariant.proofs.SlotsFit.{slot_parts}

none_by : {R : Type 0} (p q : R → Bool) (row : R) → (q row ≡ true → p row ≡ true → ⊥) → q row ≡ true
    → (p row ≡ true) ⊎ (p row ≡ false) → one_if (p row) ≡ 0
none_by p q row apart fits (inl here) = absurd (apart fits here)
none_by p q row apart fits (inr past) = one_false (p row) past

-- where all pass a test that no row passes beside another, none passes the other
none_pass : {R : Type 0} (p q : R → Bool) (rows : List R)
    → ((row : R) → q row ≡ true → p row ≡ true → ⊥) → IsTrue (list_all q rows) → count_by p rows ≡ 0
none_pass p q [] apart all = refl
none_pass p q (row ∷ rows) apart all =
    let parts : (q row ≡ true) × (list_all q rows ≡ true) = and_parts _ _ all in
    count_cons p row rows ∙ omega (arith, none_by p q row (apart row) parts.0 (cases_Bool (p row)), none_pass p q rows apart parts.1)

found_lives : (k : Kind) (found : Option ObjectRow) → IsTrue (is_of_kind k found)
    → is_some found ≡ true
found_lives k None is = absurd (let never : ⊥ = cc in never)
found_lives k (Some row) is = refl

module _ (objects : List ObjectRow) (object : ℕ) (gone : lives objects object ≡ false) where
  -- what lives is another
  another : (serial : ℕ) (k : Kind) → IsTrue (lives_as objects serial k) → (serial == object) ≡ true
      → ⊥
  another serial k is same =
      let here : lives objects serial ≡ true = found_lives k (find (is_object serial) objects) is in
      let there : lives objects object ≡ true =
      subst (λ (n : ℕ). lives objects n ≡ true) (eqb-true serial object same) here in
      let never : ⊥ = cc in
      never

  cap_other : (row : CapabilityRow) (valid : Bool) → row.valid ≡ valid
      → (not valid || lives_as objects row.serial.0 row.kind) ≡ true
      → (valid && (row.serial.0 == object)) ≡ true → ⊥
  cap_other row true is lives here = another row.serial.0 row.kind lives here
  cap_other row false is lives here = let never : ⊥ = cc in never

  cpu_other : (row : CpuRow) (exited : Bool)
      → (exited || (lives_as objects row.cspace.0 kind.Cspace && lives_as objects row.space.0 kind.Space))
      ≡ true
      → (((row.cspace.0 == object) || (row.space.0 == object)) && not exited) ≡ true → ⊥
  cpu_other row true fits here =
      both_ways false refl (and_parts ((row.cspace.0 == object) || (row.space.0 == object)) false here).1
  cpu_other row false fits here =
      let live : (lives_as objects row.cspace.0 kind.Cspace ≡ true) × (lives_as objects row.space.0 kind.Space ≡ true) =
      and_parts _ _ fits in
      elim (or_cases (row.cspace.0 == object) (row.space.0 == object) (and_parts _ _ here).0) as (λ _. ⊥) [
        | inl cspace ↦ another row.cspace.0 kind.Cspace live.0 cspace
        | inr space ↦ another row.space.0 kind.Space live.1 space
      ]

  space_other : (found : Option CpuRow) → IsTrue (space_lives objects found)
      → is_space_of object found ≡ true → ⊥
  space_other None is here = let never : ⊥ = cc in never
  space_other (Some row) is here = another row.space.0 kind.Space is here

  link_other : (cpus : List CpuRow) (row : LinkRow) → IsTrue (link_stands objects cpus row)
      → uses_link cpus object row ≡ true → ⊥
  link_other cpus row stands here =
      let parts : LinkParts objects cpus row = link_parts objects cpus row stands in
      let space : Bool = is_space_of object (find (is_cpu row.vm.0) cpus) in
      let extent : Bool = row.extent.0 == object in
      let request : Bool = row.request.0 == object in
      elim (or_cases (space || extent || request) (row.reply.0 == object) here) as (λ _. ⊥) [
        | inl first ↦ elim (or_cases (space || extent) request first) as (λ _. ⊥) [
          | inl front ↦ elim (or_cases space extent front) as (λ _. ⊥) [
            | inl its ↦ space_other (find (is_cpu row.vm.0) cpus) parts.space its
            | inr its ↦ another row.extent.0 kind.Extent parts.extent its
          ]
          | inr its ↦ another row.request.0 kind.Queue parts.request its
        ]
        | inr its ↦ another row.reply.0 kind.Queue parts.reply its
      ]

  map_other : (extents : List ExtentRow) (row : MappingRow)
      → IsTrue (mapping_stands objects extents row) → is_mapping_of object row ≡ true → ⊥
  map_other extents row stands here =
      let live : (lives_as objects row.space.0 kind.Space ≡ true) × (lives_as objects row.extent.0 kind.Extent ≡ true) =
      and_parts _ _ (and_parts _ _ (and_parts _ _ (and_parts _ _ stands).0).0).0 in
      elim (or_cases (row.space.0 == object) (row.extent.0 == object) here) as (λ _. ⊥) [
        | inl its ↦ another row.space.0 kind.Space live.0 its
        | inr its ↦ another row.extent.0 kind.Extent live.1 its
      ]

  gone_by : (k : Kind) (lives_so : Bool) → lives_as objects object k ≡ lives_so
      → one_if lives_so ≡ 0
  gone_by k true is = absurd (another object k is (grind (arith, nat_tests)))
  gone_by k false is = refl

  -- it has no row of its kind
  no_row : (k : Kind) → one_if (lives_as objects object k) ≡ 0
  no_row k = gone_by k (lives_as objects object k) refl

  module _ (some : 0 < object) (extents : List ExtentRow) (rows : (serial : ℕ) → count_by (is_extent serial) extents ≤ one_if (lives_as objects serial kind.Extent)) where
    no_extent : count_by (is_extent object) extents ≡ 0
    no_extent = omega (arith, rows object, no_row kind.Extent)

    part_other : (pages : ℕ) (row : ExtentRow)
        → (is_root pages row || is_part_of row (find (is_extent row.parent.0) extents)) ≡ true
        → (row.parent.0 == object) ≡ true → ⊥
    part_other pages row fits here =
        let same : row.parent.0 ≡ object = eqb-true row.parent.0 object here in
        let none : find (is_extent row.parent.0) extents ≡ None =
        subst (λ (n : ℕ). find (is_extent n) extents ≡ None) (sym same) (unfound (is_extent object) extents no_extent) in
        elim (or_cases (is_root pages row) (is_part_of row (find (is_extent row.parent.0) extents)) fits) as (λ _. ⊥) [
          | inl root ↦ let none_too : row.parent.0 ≡ 0 = eqb-true row.parent.0 0 (and_parts _ _ (and_parts _ _ (and_parts _ _ root).0).0).0 in omega (arith, some, same, none_too)
          | inr part ↦ both_ways (is_part_of row (find (is_extent row.parent.0) extents)) (ap (is_part_of row) none) part
        ]

    child_other : (pages : ℕ) (row : ExtentRow) → IsTrue (span_fits pages extents row)
        → is_child_of object row ≡ true → ⊥
    child_other pages row fits here = part_other pages row (and_parts _ _ fits).1 here

-- what doesn't live has no references
pub not_living : (last : ℕ) (s : State) (object : ℕ) → 0 < object → IsValidTo last s
    → lives s.objects object ≡ false → references s object ≡ 0
not_living last s object some valid gone =
    omega (arith, capabilities, slots, mappings, children, inhabitants, cpus, links, shares, boot, root)
  where
    capabilities : count_by (is_capability_of object) s.caps ≡ 0
    capabilities =
        none_pass (is_capability_of object) (slot_fits s.next_serial s.objects) s.caps
        (λ row fits here. cap_other s.objects object gone row row.valid refl (slot_parts s.next_serial s.objects row fits).object here)
        valid.slots.filled

    slots : count_by (is_slot_of object) s.caps ≡ 0
    slots =
        none_pass (is_slot_of object) (slot_fits s.next_serial s.objects) s.caps
        (λ row fits here. another s.objects object gone row.cspace.0 kind.Cspace (slot_parts s.next_serial s.objects row fits).home here)
        valid.slots.filled

    mappings : count_by (is_mapping_of object) s.mappings ≡ 0
    mappings =
        none_pass (is_mapping_of object) (mapping_stands s.objects s.extents) s.mappings (map_other s.objects object gone s.extents) valid.mappings.stand

    children : count_by (is_child_of object) s.extents ≡ 0
    children =
        none_pass (is_child_of object) (span_fits (length s.holders) s.extents) s.extents (child_other s.objects object gone some s.extents valid.rows.extents (length s.holders)) valid.pages.spans

    inhabitants : count_by (is_inhabitant_of object) s.objects ≡ 0
    inhabitants =
        none_pass (is_inhabitant_of object) (is_housed s.objects) s.objects
        (λ row housed here. another s.objects object gone row.partition.0 kind.Partition housed (and_parts _ _ here).0) valid.objects.housed

    cpus : count_by (is_attached_to object) s.cpus ≡ 0
    cpus =
        none_pass (is_attached_to object) (cpu_fits s.objects) s.cpus (λ row fits here. cpu_other s.objects object gone row row.exited fits here) valid.cpus.attached

    links : count_by (uses_link s.cpus object) s.links ≡ 0
    links =
        none_pass (uses_link s.cpus object) (link_stands s.objects s.cpus) s.links (link_other s.objects object gone s.cpus) valid.cpus.linked

    shares : count_by (is_share_of object) s.parcels ≡ 0
    shares = ap (count_by (is_share_of object)) valid.parcels

    boot : count_by (is_boot_partition object) s.partitions ≡ 0
    boot =
        omega (
          arith,
          count_most (is_boot_partition object) (is_partition object) s.partitions (λ row is. (and_parts _ _ is).0),
          valid.rows.partitions object,
          no_row s.objects object gone kind.Partition,
        )

    root : count_by (is_root_extent object) s.extents ≡ 0
    root =
        omega (
          arith,
          count_most (is_root_extent object) (is_extent object) s.extents (λ row is. (and_parts _ _ is).0),
          valid.rows.extents object,
          no_row s.objects object gone kind.Extent,
        )
