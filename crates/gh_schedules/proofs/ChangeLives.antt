-- What a change gives a reference, and what it takes one from, lives in the state before it.
use Rattle.std.proofs.Common.{◌≡◌, ◌==◌, ◌≤◌, inl, inr, ℕ, Bool, true, false, not, List, [], ◌∷◌, ◌++◌, refl, subst, sym, ap, arith, length, IsTrue, Option, Some, None, find, is_some, if◌then◌else◌}
use Rattle.std.specs.Prelude.{◌&&◌, ◌||◌, count_by}
use Rattle.std.specs.List.{list_all}
use Rattle.std.proofs.lemmas.Bool.{and_from, and_parts, eqb-true, or_cases}
use Rattle.std.proofs.lemmas.Bool.Decides.{nat_tests}
use Rattle.gh_base.specs.declared.ids.Serial.{Serial}
use Rattle.gh_base.specs.declared.kind.Kind.TheVariants as kind
use Rattle.gh_model.specs.Changes.{is_mapping}
use Rattle.gh_model.specs.QueueCalls.{one_if}
use Rattle.gh_model.specs.Rows.{cpu_row, fills, is_cpu, is_extent, is_object, object_row}
use Rattle.gh_model.specs.declared.change.Change.{Change}
use Rattle.gh_model.specs.declared.change.Change.TheVariants as change
use Rattle.gh_model.specs.declared.rows.CapabilityRow.{CapabilityRow}
use Rattle.gh_model.specs.declared.rows.CpuRow.{CpuRow}
use Rattle.gh_model.specs.declared.rows.ExtentRow.{ExtentRow}
use Rattle.gh_model.specs.declared.rows.MappingRow.{MappingRow}
use Rattle.gh_model.specs.declared.rows.ObjectRow.{ObjectRow}
use Rattle.gh_model.specs.declared.state.State.{State}
use Rattle.gh_invariant.specs.Effects.{attachments, gains, home_named, losses, object_named, object_of, parent_named, sets, slot_names}
use Rattle.gh_invariant.specs.Lives.{cpu_fits, is_housed, is_part_of, is_root, lives, lives_as, mapping_stands, slot_fits, span_fits}
use Rattle.gh_invariant.specs.Premises.{MayChange}
use Rattle.gh_invariant.specs.Valid.{IsValidTo}
use Rattle.gh_invariant.proofs.Counting.{found_all, found_one}
use Rattle.gh_invariant.proofs.SetsOne.{is_of_calls}
use Rattle.gh_invariant.proofs.SlotsFit.{SlotParts, slot_parts}
use Rattle.gh_events.proofs.Finding.{found_passes}
use Rattle.gh_events.proofs.WordsFollow.{lives_any}

-- the object lives
abbrev pub lives_here : List ObjectRow → Serial → Bool
lives_here objects serial = lives objects serial.0

abbrev pub AllLive : List ObjectRow → List Serial → Type 0
AllLive objects serials = IsTrue (list_all (lives_here objects) serials)

module _ (objects : List ObjectRow) where
  one_lives : (serial : Serial) → lives objects serial.0 ≡ true → AllLive objects (serial ∷ [])
  one_lives serial alive = and_from _ _ alive refl

  two_live : (first second : Serial) → lives objects first.0 ≡ true → lives objects second.0 ≡ true
      → AllLive objects (first ∷ second ∷ [])
  two_live first second alive also = and_from _ _ alive (and_from _ _ also refl)

  pub both_live : (first second : List Serial) → AllLive objects first → AllLive objects second
      → AllLive objects (first ++ second)
  both_live [] second alive also = also
  both_live (serial ∷ first) second alive also =
      let parts = and_parts (lives_here objects serial) (list_all (lives_here objects) first) alive in
      and_from _ _ parts.0 (both_live first second parts.1 also)

-- slots

or_other : (a b : Bool) → a ≡ true → (not a || b) ≡ true → b ≡ true
or_other true b is either = either
or_other false b is either = absurd (let never : ⊥ = cc in never)

module _ (last : ℕ) (s : State) (valid : IsValidTo last s) where
  object_lives_by : (row : CapabilityRow) (good : Bool) → row.valid ≡ good
      → SlotParts s.next_serial s.objects row
      → AllLive s.objects (if good then row.serial ∷ [] else [])
  object_lives_by row true is parts =
      one_lives s.objects row.serial (lives_any s.objects row.serial.0 row.kind (or_other row.valid _ is parts.object))
  object_lives_by row false is parts = refl

  object_lives : (row : CapabilityRow) → SlotParts s.next_serial s.objects row
      → AllLive s.objects (object_of row)
  object_lives row parts = object_lives_by row row.valid refl parts

  parts_of : (cspace slot : ℕ) (row : CapabilityRow) → find (fills cspace slot) s.caps ≡ Some row
      → SlotParts s.next_serial s.objects row
  parts_of cspace slot row is =
      slot_parts s.next_serial s.objects row (found_all (fills cspace slot) (slot_fits s.next_serial s.objects) s.caps row valid.slots.filled is)

  slot_lives : (cspace slot : ℕ) (found : Option CapabilityRow)
      → find (fills cspace slot) s.caps ≡ found → AllLive s.objects (slot_names found)
  slot_lives cspace slot None is = refl
  slot_lives cspace slot (Some row) is =
      let parts : SlotParts s.next_serial s.objects row = parts_of cspace slot row is in
      and_from _ _ (lives_any s.objects row.cspace.0 kind.Cspace parts.home) (object_lives row parts)

  named_lives : (cspace slot : ℕ) (found : Option CapabilityRow)
      → find (fills cspace slot) s.caps ≡ found → AllLive s.objects (object_named found)
  named_lives cspace slot None is = refl
  named_lives cspace slot (Some row) is = object_lives row (parts_of cspace slot row is)

  -- homes and parents

  home_by : (row : ObjectRow) (own : Bool) → lives s.objects row.partition.0 ≡ true
      → AllLive s.objects (if own then [] else row.partition ∷ [])
  home_by row true alive = refl
  home_by row false alive = one_lives s.objects row.partition alive

  home_lives : (object : ℕ) (found : Option ObjectRow) → object_row s object ≡ found
      → AllLive s.objects (home_named found)
  home_lives object None is = refl
  home_lives object (Some row) is =
      home_by row (row.partition.0 == row.serial.0)
      (lives_any s.objects row.partition.0 kind.Partition (found_all (is_object object) (is_housed s.objects) s.objects row valid.objects.housed is))

  extent_by : (serial : ℕ) (alive : Bool) → lives_as s.objects serial kind.Extent ≡ alive
      → (row : ExtentRow) → find (is_extent serial) s.extents ≡ Some row
      → lives s.objects serial ≡ true
  extent_by serial true alive row is = lives_any s.objects serial kind.Extent alive
  extent_by serial false alive row is =
      let one : 1 ≤ count_by (is_extent serial) s.extents = found_one (is_extent serial) s.extents row is in
      let none : count_by (is_extent serial) s.extents ≤ one_if false = subst (λ (b : Bool). count_by (is_extent serial) s.extents ≤ one_if b) alive (valid.rows.extents serial) in
      absurd (omega (arith, one, none))

  -- an extent with a span lives
  extent_lives : (serial : ℕ) (row : ExtentRow) → find (is_extent serial) s.extents ≡ Some row
      → lives s.objects serial ≡ true
  extent_lives serial row is = extent_by serial (lives_as s.objects serial kind.Extent) refl row is

  part_found : (row : ExtentRow) (found : Option ExtentRow) → find (is_extent row.parent.0) s.extents ≡ found
      → is_part_of row found ≡ true → lives s.objects row.parent.0 ≡ true
  part_found row None is part = absurd (let never : ⊥ = cc in never)
  part_found row (Some outer) is part = extent_lives row.parent.0 outer is

  parent_found : (row : ExtentRow) → span_fits (length s.holders) s.extents row ≡ true
      → (row.parent.0 == 0) ≡ false → lives s.objects row.parent.0 ≡ true
  parent_found row fits some =
      elim (or_cases (is_root (length s.holders) row) (is_part_of row (find (is_extent row.parent.0) s.extents)) (and_parts _ _ fits).1) as (λ _. lives s.objects row.parent.0 ≡ true) [
        | inl root ↦ absurd (let none : (row.parent.0 == 0) ≡ true = (and_parts _ _ (and_parts _ _ (and_parts _ _ root).0).0).0 in let never : ⊥ = cc in never)
        | inr part ↦ part_found row (find (is_extent row.parent.0) s.extents) refl part
      ]

  parent_by : (row : ExtentRow) (root : Bool) → (row.parent.0 == 0) ≡ root
      → span_fits (length s.holders) s.extents row ≡ true → lives s.objects row.serial.0 ≡ true
      → AllLive s.objects (if root then row.serial ∷ [] else row.parent ∷ [])
  parent_by row true is fits alive = one_lives s.objects row.serial alive
  parent_by row false is fits alive = one_lives s.objects row.parent (parent_found row fits is)

  parent_lives : (object : ℕ) (found : Option ExtentRow) → find (is_extent object) s.extents ≡ found
      → AllLive s.objects (parent_named found)
  parent_lives object None is = refl
  parent_lives object (Some row) is =
      let same : row.serial.0 ≡ object = eqb-true row.serial.0 object (found_passes (is_extent object) s.extents row is) in
      parent_by row (row.parent.0 == 0) refl
      (found_all (is_extent object) (span_fits (length s.holders) s.extents) s.extents row valid.pages.spans is)
      (subst (λ (n : ℕ). lives s.objects n ≡ true) (sym same) (extent_lives object row is))

  -- mapping rows and CPUs

  mapped_live : (row : MappingRow) → mapping_stands s.objects s.extents row ≡ true
      → AllLive s.objects (row.space ∷ row.extent ∷ [])
  mapped_live row stands =
      let live = and_parts _ _ (and_parts _ _ (and_parts _ _ (and_parts _ _ stands).0).0).0 in
      two_live s.objects row.space row.extent (lives_any s.objects row.space.0 kind.Space live.0) (lives_any s.objects row.extent.0 kind.Extent live.1)

  attached_by : (row : CpuRow) (exited : Bool) → (exited || (lives_as s.objects row.cspace.0 kind.Cspace && lives_as s.objects row.space.0 kind.Space)) ≡ true
      → AllLive s.objects (if exited then [] else row.cspace ∷ row.space ∷ [])
  attached_by row true fits = refl
  attached_by row false fits =
      let live = and_parts (lives_as s.objects row.cspace.0 kind.Cspace) (lives_as s.objects row.space.0 kind.Space) fits in
      two_live s.objects row.cspace row.space (lives_any s.objects row.cspace.0 kind.Cspace live.0) (lives_any s.objects row.space.0 kind.Space live.1)

  attached_live : (cpu : ℕ) (found : Option CpuRow) → cpu_row s cpu ≡ found
      → AllLive s.objects (attachments found)
  attached_live cpu None is = refl
  attached_live cpu (Some row) is =
      attached_by row row.exited (found_all (is_cpu cpu) (cpu_fits s.objects) s.cpus row valid.cpus.attached is)

  -- what a change takes a reference from lives
  pub losses_live : (one : Change) → MayChange s one → AllLive s.objects (losses s one)
  losses_live (change.DropCapability cspace slot) may = slot_lives cspace.0 slot (find (fills cspace.0 slot) s.caps) refl
  losses_live (change.RevokeCapability cspace slot) may = named_lives cspace.0 slot (find (fills cspace.0 slot) s.caps) refl
  losses_live (change.Reclaim object) may =
      both_live s.objects (home_named (object_row s object.0)) (parent_named (find (is_extent object.0) s.extents))
      (home_lives object.0 (object_row s object.0) refl) (parent_lives object.0 (find (is_extent object.0) s.extents) refl)
  losses_live (change.DropMapping row) may =
      mapped_live row (found_all (is_mapping row.space.0 row.extent.0 row.base row.offset row.count) (mapping_stands s.objects s.extents) s.mappings row valid.mappings.stand may)
  losses_live (change.Exit cpu) may = attached_live cpu.0 (cpu_row s cpu.0) refl
  losses_live (change.PutCapability row) may = refl
  losses_live (change.AddObject row) may = refl
  losses_live (change.SetStage object stage) may = refl
  losses_live (change.Retire object seen) may = refl
  losses_live (change.GiveQuota partition quota) may = refl
  losses_live (change.AddExtent row) may = refl
  losses_live (change.MovePages first count holder) may = refl
  losses_live (change.PutMapping row) may = refl
  losses_live (change.SetBell row) may = refl
  losses_live (change.ConfigureQueue queue depth size cost) may = refl
  losses_live (change.PutMessage queue message) may = refl
  losses_live (change.DropMessage queue) may = refl
  losses_live (change.EmptyQueue queue) may = refl
  losses_live change.Ring may = refl
  losses_live (change.SetPages count) may = refl
  losses_live (change.AddPartition quota) may = refl
  losses_live (change.AddRoot row) may = refl
  losses_live (change.SetRoom queue depth size) may = refl
  losses_live (change.FillSlot row) may = refl
  losses_live (change.AddCpu row) may = refl
  losses_live (change.AddLink row) may = refl

  -- gains

  put_by : (row : CapabilityRow) (good : Bool) → lives s.objects row.serial.0 ≡ true
      → AllLive s.objects (if good then row.serial ∷ [] else [])
  put_by row true alive = one_lives s.objects row.serial alive
  put_by row false alive = refl

  -- and so does what a change of a call gives one
  pub gains_live : (one : Change) → is_of_calls one ≡ true → MayChange s one
      → AllLive s.objects (gains s one)
  gains_live (change.PutCapability row) calls may =
      and_from _ _ (lives_any s.objects row.cspace.0 kind.Cspace may.home)
      (put_by row row.valid (lives_any s.objects row.serial.0 row.kind may.object))
  gains_live (change.AddObject row) calls may =
      home_by row (row.partition.0 == row.serial.0) (lives_any s.objects row.partition.0 kind.Partition may.partition)
  gains_live (change.AddExtent row) calls may =
      let some : (row.parent.0 == 0) ≡ false = grind (arith, nat_tests, may.parent) in
      parent_by row (row.parent.0 == 0) refl may.fits (ap is_some may.lives)
  gains_live (change.PutMapping row) calls may = mapped_live row may.stands
  gains_live (change.DropCapability cspace slot) calls may = refl
  gains_live (change.RevokeCapability cspace slot) calls may = refl
  gains_live (change.Reclaim object) calls may = refl
  gains_live (change.DropMapping row) calls may = refl
  gains_live (change.Exit cpu) calls may = refl
  gains_live (change.SetStage object stage) calls may = refl
  gains_live (change.Retire object seen) calls may = refl
  gains_live (change.GiveQuota partition quota) calls may = refl
  gains_live (change.MovePages first count holder) calls may = refl
  gains_live (change.SetBell row) calls may = refl
  gains_live (change.ConfigureQueue queue depth size cost) calls may = refl
  gains_live (change.PutMessage queue message) calls may = refl
  gains_live (change.DropMessage queue) calls may = refl
  gains_live (change.EmptyQueue queue) calls may = refl
  gains_live change.Ring calls may = refl
  gains_live (change.SetPages count) calls may = refl
  gains_live (change.AddPartition quota) calls may = absurd (let never : ⊥ = cc in never)
  gains_live (change.AddRoot row) calls may = absurd (let never : ⊥ = cc in never)
  gains_live (change.SetRoom queue depth size) calls may = refl
  gains_live (change.FillSlot row) calls may = absurd (let never : ⊥ = cc in never)
  gains_live (change.AddCpu row) calls may = absurd (let never : ⊥ = cc in never)
  gains_live (change.AddLink row) calls may = absurd (let never : ⊥ = cc in never)

  -- the capability space of the slot that a change sets lives
  filled_home : (cspace slot : ℕ) (found : Option CapabilityRow)
      → find (fills cspace slot) s.caps ≡ found → is_some found ≡ true → lives s.objects cspace ≡ true
  filled_home cspace slot None is some = absurd (let never : ⊥ = cc in never)
  filled_home cspace slot (Some row) is some =
      let both = and_parts (row.cspace.0 == cspace) (row.slot == slot) (found_passes (fills cspace slot) s.caps row is) in
      subst (λ (n : ℕ). lives s.objects n ≡ true) (eqb-true row.cspace.0 cspace both.0)
      (lives_any s.objects row.cspace.0 kind.Cspace (parts_of cspace slot row is).home)

  home_at : (cspace slot : ℕ) (place : ℕ × ℕ) → Some (cspace, slot) ≡ Some place
      → lives s.objects cspace ≡ true → lives s.objects place.0 ≡ true
  home_at cspace slot place is alive =
      let same : (cspace, slot) ≡ place = cc in
      subst (λ (one : ℕ × ℕ). lives s.objects one.0 ≡ true) same alive

  pub sets_lives : (one : Change) → MayChange s one → (place : ℕ × ℕ) → sets one ≡ Some place
      → lives s.objects place.0 ≡ true
  sets_lives (change.PutCapability row) may place is =
      home_at row.cspace.0 row.slot place is (lives_any s.objects row.cspace.0 kind.Cspace may.home)
  sets_lives (change.DropCapability cspace slot) may place is =
      home_at cspace.0 slot place is (filled_home cspace.0 slot (find (fills cspace.0 slot) s.caps) refl may)
  sets_lives (change.RevokeCapability cspace slot) may place is =
      home_at cspace.0 slot place is (filled_home cspace.0 slot (find (fills cspace.0 slot) s.caps) refl may)
  sets_lives (change.AddObject row) may place is = absurd (let never : ⊥ = cc in never)
  sets_lives (change.SetStage object stage) may place is = absurd (let never : ⊥ = cc in never)
  sets_lives (change.Retire object seen) may place is = absurd (let never : ⊥ = cc in never)
  sets_lives (change.Reclaim object) may place is = absurd (let never : ⊥ = cc in never)
  sets_lives (change.GiveQuota partition quota) may place is = absurd (let never : ⊥ = cc in never)
  sets_lives (change.AddExtent row) may place is = absurd (let never : ⊥ = cc in never)
  sets_lives (change.MovePages first count holder) may place is = absurd (let never : ⊥ = cc in never)
  sets_lives (change.PutMapping row) may place is = absurd (let never : ⊥ = cc in never)
  sets_lives (change.DropMapping row) may place is = absurd (let never : ⊥ = cc in never)
  sets_lives (change.SetBell row) may place is = absurd (let never : ⊥ = cc in never)
  sets_lives (change.ConfigureQueue queue depth size cost) may place is = absurd (let never : ⊥ = cc in never)
  sets_lives (change.PutMessage queue message) may place is = absurd (let never : ⊥ = cc in never)
  sets_lives (change.DropMessage queue) may place is = absurd (let never : ⊥ = cc in never)
  sets_lives (change.EmptyQueue queue) may place is = absurd (let never : ⊥ = cc in never)
  sets_lives (change.Exit cpu) may place is = absurd (let never : ⊥ = cc in never)
  sets_lives change.Ring may place is = absurd (let never : ⊥ = cc in never)
  sets_lives (change.SetPages count) may place is = absurd (let never : ⊥ = cc in never)
  sets_lives (change.AddPartition quota) may place is = absurd (let never : ⊥ = cc in never)
  sets_lives (change.AddRoot row) may place is = absurd (let never : ⊥ = cc in never)
  sets_lives (change.SetRoom queue depth size) may place is = absurd (let never : ⊥ = cc in never)
  sets_lives (change.FillSlot row) may place is = absurd (let never : ⊥ = cc in never)
  sets_lives (change.AddCpu row) may place is = absurd (let never : ⊥ = cc in never)
  sets_lives (change.AddLink row) may place is = absurd (let never : ⊥ = cc in never)
