-- The changes of a boot line that makes an object may be made.
use Rattle.std.proofs.Common.{◌≡◌, ◌+◌, ◌≤◌, ◌<◌, ◌∙◌, ◌&&◌, ◌==◌, ◌++◌, ℕ, zero, suc, Bool, true, false, List, [], ◌∷◌, length, refl, subst, sym, ap, arith, IsTrue, Option, Some, None, find, nat_le, nat_lt}
use Rattle.std.specs.Prelude.{count_by, is_some}
use Rattle.std.specs.Option.{option_map_or, option_or}
use Rattle.std.proofs.lemmas.Bool.{and_from, and_parts, eq-eqb, eqb-true, le-leb, leb-true, lt-leb, lt-ltb, ltb-true, or_right}
use Rattle.gh_base.specs.declared.access.Access.{Access}
use Rattle.gh_base.specs.declared.ids.Serial.{Serial}
use Rattle.gh_base.specs.declared.kind.Kind.{Kind}
use Rattle.gh_base.specs.declared.kind.Kind.TheVariants as kind
use Rattle.gh_base.specs.declared.limits.TheConstants.{CSPACES, MESSAGE_BYTES, PARTITIONS, PARTITION_UNITS, QUEUE_DEPTH}
use Rattle.gh_model.specs.Boot.{access_fits, all_held, boot_object, changes_of_line, child_span, extent_fits, first_page, has_units, is_access, is_of_kind, kind_count, line_fits, queue_cost, root_span, serial_of}
use Rattle.gh_model.specs.Changes.{changed}
use Rattle.gh_model.specs.History.{is_retired}
use Rattle.gh_model.specs.ObjectCalls.{is_full}
use Rattle.gh_model.specs.QueueCalls.{one_if}
use Rattle.gh_model.specs.Rows.{is_extent, is_object, object_row}
use Rattle.gh_model.specs.Units.{free_units}
use Rattle.gh_model.specs.declared.boot_line.BootLine.TheVariants.{Partition, Cspace, Addrspace, Doorbell, RootExtent, Extent, Msgqueue}
use Rattle.gh_model.specs.declared.change.Change.TheVariants.{AddExtent, AddObject}
use Rattle.gh_model.specs.declared.rows.ExtentRow.{ExtentRow}
use Rattle.gh_model.specs.declared.rows.ObjectRow.{ObjectRow}
use Rattle.gh_model.specs.declared.state.State.{State}
use Rattle.gh_invariant.specs.Lives.{is_part_of, lives_as, span_fits}
use Rattle.gh_invariant.specs.Premises.{MayAdd, MayAddRoot, MayChangeAll, MayMove, MaySpan}
use Rattle.gh_invariant.specs.Valid.{IsValidTo}
use Rattle.gh_invariant.proofs.Counting.{find_push, find_push_new, found_all, found_one, unfound}
use Rattle.gh_invariant.proofs.RoomFor.{no_row_by}

-- no object is retired before the first entry

abbrev pub NoneRetired : State → Type 0
NoneRetired s = (object : ℕ) → is_retired (object_row s object) ≡ false

unretired_by : (row : ObjectRow) (object : ℕ) → row.retired ≡ None → (here : Bool)
    → (row.serial.0 == object) ≡ here → is_retired (find (is_object object) (row ∷ [])) ≡ false
unretired_by row object unretired true is = rw is (ap is_some unretired)
unretired_by row object unretired false is = rw is refl

unretired_or : (old new : Option ObjectRow) → is_retired old ≡ false → is_retired new ≡ false
    → is_retired (option_or old new) ≡ false
unretired_or None new old_is new_is = new_is
unretired_or (Some row) new old_is new_is = old_is

-- nor beside one that comes
pub unretired_beside : (objects : List ObjectRow) (row : ObjectRow) → row.retired ≡ None
    → (object : ℕ) → is_retired (find (is_object object) objects) ≡ false
    → is_retired (find (is_object object) (objects ++ row ∷ [])) ≡ false
unretired_beside objects row unretired object none =
    ap is_retired (find_push (is_object object) objects row)
    ∙ unretired_or (find (is_object object) objects) (find (is_object object) (row ∷ [])) none
    (unretired_by row object unretired (row.serial.0 == object) refl)

-- a list without items
empty_list : {X : Type 0} (xs : List X) → (length xs == 0) ≡ true → xs ≡ []
empty_list [] none = refl
empty_list (x ∷ xs) none =
    absurd (let long : length (x ∷ xs) ≡ 0 = eqb-true (length (x ∷ xs)) 0 none in omega arith)

-- what an extent line must meet, by name
record ExtentParts (outer : ExtentRow) (offset count access : ℕ) : Type 0 where
  pub some : 1 ≤ count
  pub within : offset + count ≤ outer.count
  pub narrow : access_fits access outer.access.0 ≡ true

extent_parts : (s : State) (parent offset count access held_offset held_count : ℕ)
    (outer : ExtentRow)
    → IsTrue (extent_fits s parent offset count access held_offset held_count (Some outer))
    → ExtentParts outer offset count access
extent_parts s parent offset count access held_offset held_count outer fits =
    let last = and_parts _ (all_held s parent (outer.first.0 + offset + held_offset) held_count)
    fits in
    let narrow = and_parts _ (access_fits access outer.access.0) last.0 in
    let known = and_parts _ (is_access access) narrow.0 in
    let first = and_parts (nat_le 1 count) (nat_le (offset + count) outer.count) known.0 in
    record {
      some = leb-true 1 count first.0;
      within = leb-true (offset + count) outer.count first.1;
      narrow = narrow.1;
    }

-- the first page of a span
first_found : (s : State) (parent : ℕ) (outer : ExtentRow)
    → find (is_extent parent) s.extents ≡ Some outer → first_page s parent ≡ outer.first.0
first_found s parent outer found =
    ap (λ (o : Option ExtentRow). option_map_or (λ (row : ExtentRow). row.first.0) o 0) found

module _ (last : ℕ) (s : State) (valid : IsValidTo last s) (fresh : NoneRetired s) where
  -- a boot object may be added
  boot_may : (k : Kind) (partition cost : ℕ) → is_full s k ≡ false → 0 < cost
      → IsTrue (has_units s partition cost) → MayAdd s (boot_object s k partition cost)
  boot_may k partition cost room some units = record {
    serial = refl;
    partition = (and_parts _ _ units).0;
    room = room;
    some = some;
    units = leb-true cost (free_units s partition) (and_parts _ _ units).1;
    new = λ init. absurd (let never : ⊥ = cc in never);
    unretired = refl;
    from_object = fresh partition;
  }

  -- and is there then
  made : (k : Kind) (partition cost : ℕ)
      → find (is_object s.next_serial) (s.objects ++ boot_object s k partition cost ∷ [])
      ≡ Some (boot_object s k partition cost)
  made k partition cost =
      find_push_new (is_object s.next_serial) s.objects (boot_object s k partition cost)
      (unfound (is_object s.next_serial) s.objects
      (valid.objects.later s.next_serial (omega arith)))
      (eq-eqb s.next_serial s.next_serial refl)

  no_span : find (is_extent s.next_serial) s.extents ≡ None
  no_span =
      no_row_by (is_extent s.next_serial) s.extents (find (is_object s.next_serial) s.objects)
      kind.Extent (unfound (is_object s.next_serial) s.objects
      (valid.objects.later s.next_serial (omega arith))) (valid.rows.extents s.next_serial)

  pub partition_may : (quota : ℕ) → IsTrue (line_fits s (Partition quota))
      → MayChangeAll s (changes_of_line s (Partition quota))
  partition_may quota fits =
      let last : _ × (nat_lt (kind_count s kind.Partition) PARTITIONS ≡ true) =
      and_parts _ _ fits in
      let first : (nat_le 1 quota ≡ true) × (nat_le quota PARTITION_UNITS ≡ true) =
      and_parts _ _ last.0 in
      record {
        first = record {
          room = lt-leb PARTITIONS (kind_count s kind.Partition)
              (ltb-true (kind_count s kind.Partition) PARTITIONS last.1);
          some = leb-true 1 quota first.0;
          small = leb-true quota PARTITION_UNITS first.1;
        };
        others = tt;
      }

  pub cspace_may : (partition : Serial) → IsTrue (line_fits s (Cspace partition))
      → MayChangeAll s (changes_of_line s (Cspace partition))
  cspace_may partition fits =
      let parts : (has_units s partition.0 4 ≡ true)
      × (nat_lt (kind_count s kind.Cspace) CSPACES ≡ true) = and_parts _ _ fits in
      let fewer : kind_count s kind.Cspace < CSPACES =
      ltb-true (kind_count s kind.Cspace) CSPACES parts.1 in
      record {
        first = boot_may kind.Cspace partition.0 4
            (lt-leb CSPACES (kind_count s kind.Cspace) fewer) (omega arith) parts.0;
        others = tt;
      }

  pub space_may : (partition : Serial) → IsTrue (line_fits s (Addrspace partition))
      → MayChangeAll s (changes_of_line s (Addrspace partition))
  space_may partition fits =
      record { first = boot_may kind.Space partition.0 4 refl (omega arith) fits; others = tt }

  pub bell_may : (partition : Serial) → IsTrue (line_fits s (Doorbell partition))
      → MayChangeAll s (changes_of_line s (Doorbell partition))
  bell_may partition fits =
      record { first = boot_may kind.Bell partition.0 1 refl (omega arith) fits; others = tt }

  pub queue_may : (partition : Serial) (depth size : ℕ)
      → IsTrue (line_fits s (Msgqueue partition depth size))
      → MayChangeAll s (changes_of_line s (Msgqueue partition depth size))
  queue_may partition depth size fits =
      let last : _ × (has_units s partition.0 (queue_cost depth size) ≡ true) =
      and_parts _ _ fits in
      let wide : _ × (nat_le size MESSAGE_BYTES ≡ true) = and_parts _ _ last.0 in
      let some : _ × (nat_le 1 size ≡ true) = and_parts _ _ wide.0 in
      let deep : (nat_le 1 depth ≡ true) × (nat_le depth QUEUE_DEPTH ≡ true) =
      and_parts _ _ some.0 in
      record {
        first = boot_may kind.Queue partition.0 (queue_cost depth size) refl (costs depth size)
            last.1;
        others = record {
          first = record {
            deep = leb-true depth QUEUE_DEPTH deep.1;
            wide = leb-true size MESSAGE_BYTES wide.1;
          };
          others = tt;
        };
      }
    where
      costs : (deep wide : ℕ) → 0 < queue_cost deep wide
      costs deep wide = omega arith

  pub root_may : (partition : Serial) → 0 < length s.holders
      → IsTrue (line_fits s (RootExtent partition))
      → MayChangeAll s (changes_of_line s (RootExtent partition))
  root_may partition some fits =
      let parts : (has_units s partition.0 1 ≡ true) × ((length s.extents == 0) ≡ true) =
      and_parts _ _ fits in
      record {
        first = boot_may kind.Extent partition.0 1 refl (omega arith) parts.0;
        others = record { first = root_alone partition some parts.1; others = tt };
      }
    where
      root_alone : (home : Serial) → 0 < length s.holders → (length s.extents == 0) ≡ true
          → MayAddRoot (changed s (AddObject (boot_object s kind.Extent home.0 1))) (root_span s)
      root_alone home pages none = record {
        object = boot_object s kind.Extent home.0 1;
        lives = made kind.Extent home.0 1;
        kind = ap (is_of_kind kind.Extent) (made kind.Extent home.0 1);
        stage = refl;
        pages = pages;
        first = empty_list s.extents none;
        whole = and_from _ _
            (and_from _ _ refl (eq-eqb (length s.holders) (length s.holders) refl)) refl;
        from_itself = ap is_retired (made kind.Extent home.0 1);
      }

  module _ (partition : Serial) (parent offset count access : ℕ) (outer : ExtentRow)
      (found : find (is_extent parent) s.extents ≡ Some outer)
      (parts : ExtentParts outer offset count access) where
    outer_ends : outer.first.0 + outer.count ≤ length s.holders
    outer_ends =
        let fits : IsTrue (span_fits (length s.holders) s.extents outer) =
        found_all (is_extent parent) (span_fits (length s.holders) s.extents) s.extents outer
        valid.pages.spans found in
        leb-true (outer.first.0 + outer.count) (length s.holders)
        (and_parts (nat_lt 0 outer.count)
        (nat_le (outer.first.0 + outer.count) (length s.holders)) (and_parts _ _ fits).0).1

    -- the parent lives
    parent_above : 0 < parent
    parent_above = above_by parent refl
      where
        above_by : (n : ℕ) → n ≡ parent → 0 < parent
        above_by zero is =
            let one : 1 ≤ count_by (is_extent parent) s.extents =
            found_one (is_extent parent) s.extents outer found in
            let most : count_by (is_extent 0) s.extents
            ≤ one_if (lives_as s.objects 0 kind.Extent) = valid.rows.extents 0 in
            let none : one_if (lives_as s.objects 0 kind.Extent) ≡ 0 =
            ap (λ (o : Option ObjectRow). one_if (is_of_kind kind.Extent o))
            (unfound (is_object 0) s.objects valid.objects.none) in
            let same : count_by (is_extent 0) s.extents ≡ count_by (is_extent parent) s.extents =
            ap (λ (n : ℕ). count_by (is_extent n) s.extents) is in
            absurd (omega arith)
        above_by (suc n) is = omega arith

    child_fits : IsTrue
        (span_fits (length s.holders) s.extents (child_span s parent offset count access))
    child_fits =
        let some : 1 ≤ count = parts.some in
        let within : offset + count ≤ outer.count = parts.within in
        let first : first_page s parent ≡ outer.first.0 = first_found s parent outer found in
        and_from _ _
        (and_from _ _ (lt-ltb 0 count (omega arith))
        (le-leb (first_page s parent + offset + count) (length s.holders)
        (omega (arith, outer_ends, first))))
        (or_right _ _ (ap (is_part_of (child_span s parent offset count access)) found
        ∙ and_from _ _
        (and_from _ _
        (le-leb outer.first.0 (first_page s parent + offset) (omega (arith, first)))
        (le-leb (first_page s parent + offset + count) (outer.first.0 + outer.count)
        (omega (arith, first)))) parts.narrow))

    child_may : MaySpan (changed s (AddObject (boot_object s kind.Extent partition.0 1)))
        (child_span s parent offset count access)
    child_may = record {
      object = boot_object s kind.Extent partition.0 1;
      lives = made kind.Extent partition.0 1;
      kind = ap (is_of_kind kind.Extent) (made kind.Extent partition.0 1);
      stage = refl;
      none = no_span;
      parent = parent_above;
      fits = child_fits;
      from_child = unretired_beside s.objects (boot_object s kind.Extent partition.0 1) refl parent
          (fresh parent);
    }

    -- it gets pages of its span
    handed_may : (held_offset held_count : ℕ) → held_offset + held_count ≤ count
        → MayMove
        (changed (changed s (AddObject (boot_object s kind.Extent partition.0 1)))
        (AddExtent (child_span s parent offset count access)))
        (first_page s parent + offset + held_offset) held_count (serial_of s.next_serial)
    handed_may held_offset held_count held = record {
      row = child_span s parent offset count access;
      found = find_push_new (is_extent s.next_serial) s.extents
          (child_span s parent offset count access) no_span
          (eq-eqb s.next_serial s.next_serial refl);
      within = and_from _ _
          (le-leb (first_page s parent + offset) (first_page s parent + offset + held_offset)
          (omega arith))
          (le-leb (first_page s parent + offset + held_offset + held_count)
          (first_page s parent + offset + count) (omega arith));
    }

  extent_found : (partition parent : Serial) (offset count : ℕ) (access : Access)
      (held_offset held_count : ℕ) → IsTrue (has_units s partition.0 1)
      → held_offset + held_count ≤ count
      → (found : Option ExtentRow) → find (is_extent parent.0) s.extents ≡ found
      → IsTrue (extent_fits s parent.0 offset count access.0 held_offset held_count found)
      → MayChangeAll s
      (changes_of_line s (Extent partition parent offset count access held_offset held_count))
  extent_found partition parent offset count access held_offset held_count units held None is fits =
      absurd (let never : ⊥ = cc in never)
  extent_found partition parent offset count access held_offset held_count units held (Some outer)
      is fits =
      let parts : ExtentParts outer offset count access.0 =
      extent_parts s parent.0 offset count access.0 held_offset held_count outer fits in
      record {
        first = boot_may kind.Extent partition.0 1 refl (omega arith) units;
        others = record {
          first = child_may partition parent.0 offset count access.0 outer is parts;
          others = record {
            first = handed_may partition parent.0 offset count access.0 outer is parts held_offset
                held_count held;
            others = tt;
          };
        };
      }

  pub extent_may : (partition parent : Serial) (offset count : ℕ) (access : Access)
      (held_offset held_count : ℕ)
      → IsTrue (line_fits s (Extent partition parent offset count access held_offset held_count))
      → MayChangeAll s
      (changes_of_line s (Extent partition parent offset count access held_offset held_count))
  extent_may partition parent offset count access held_offset held_count fits =
      let last : _
      × (extent_fits s parent.0 offset count access.0 held_offset held_count
      (find (is_extent parent.0) s.extents) ≡ true) = and_parts _ _ fits in
      let first : (has_units s partition.0 1 ≡ true)
      × (nat_le (held_offset + held_count) count ≡ true) = and_parts _ _ last.0 in
      extent_found partition parent offset count access held_offset held_count first.0
      (leb-true (held_offset + held_count) count first.1) (find (is_extent parent.0) s.extents) refl
      last.1
