-- The changes of derive may be made: the child is ready, gets its span, and then holds the pages.
use Rattle.std.proofs.Common.{◌≡◌, ◌+◌, ◌<◌, ◌≤◌, ℕ, zero, suc, Bool, true, false, not, length, refl, subst, sym, ap, arith, Option, Some, None, IsTrue, find}
use Rattle.std.specs.Prelude.{◌&&◌, ◌||◌, ◌==◌, nat_lt, nat_le, count_by}
use Rattle.std.proofs.lemmas.Bool.{and_parts, and_from, leb-true}
use Rattle.std.proofs.lemmas.Bool.Decides.{nat_tests}
use Rattle.gh_base.specs.Kind.{kind_number}
use Rattle.gh_base.specs.declared.errno.Errno.TheVariants.{ArgSize, Denied}
use Rattle.gh_base.specs.declared.ids.Serial.{Serial}
use Rattle.gh_base.specs.declared.kind.Kind.TheVariants as kind
use Rattle.gh_base.specs.declared.kind.Stage.TheVariants.{Ready}
use Rattle.gh_model.specs.Boot.{access_fits}
use Rattle.gh_model.specs.Changes.{add_extent, with_stage}
use Rattle.gh_model.specs.Decide.{is_init}
use Rattle.gh_model.specs.MemoryCalls.{derived, derived_at, derived_row, holds_run, page_of}
use Rattle.gh_model.specs.QueueCalls.{one_if}
use Rattle.gh_model.specs.Rows.{is_extent, object_row}
use Rattle.gh_model.specs.declared.rows.ExtentRow.{ExtentRow}
use Rattle.gh_model.specs.declared.rows.ObjectRow.{ObjectRow}
use Rattle.gh_model.specs.declared.state.State.{State}
use Rattle.gh_invariant.specs.Grants.{MayMake, is_referred}
use Rattle.gh_invariant.specs.Lives.{is_part_of, is_root, lives_as, span_fits}
use Rattle.gh_invariant.specs.Premises.{MayMove, MaySpan}
use Rattle.gh_invariant.specs.Valid.{IsValid}
use Rattle.gh_invariant.proofs.ConfigureMade.{extent_new, init_found, new_object_is, nobody, none_there, own_serial, ready, ready_kind, ready_row, row_of_kind}
use Rattle.gh_invariant.proofs.Counting.{find_push_new, found_all, found_one}
use Rattle.gh_invariant.proofs.MayMake.{at_most_by, itself, not_false, unless}
use Rattle.gh_invariant.proofs.ObjectsMade.{or_none}
use Rattle.gh_invariant.proofs.Referred.{may_refer, refer_staged}

-- numbers are at most themselves
at_most_itself : (n : ℕ) → IsTrue (nat_le n n)
at_most_itself n = grind (arith, nat_tests)

-- pages from an offset on lie in the span, where offset and count don't pass it
within_by : (first offset count pages : ℕ) → offset + count ≤ pages
    → IsTrue (nat_le first (first + offset) && nat_le (first + offset + count) (first + pages))
within_by first offset count pages few = grind (arith, nat_tests)

ends_by : (first offset count pages machine : ℕ) → offset + count ≤ pages → first + pages ≤ machine
    → IsTrue (nat_le (first + offset + count) machine)
ends_by first offset count pages machine few ends = grind (arith, nat_tests)

either_true : (a b : Bool) → b ≡ true → (a || b) ≡ true
either_true true b is = refl
either_true false b is = is

module _ (s : State) (valid : IsValid s) where
  -- an extent that is found has a serial
  parent_some : (parent : ℕ) (row : ExtentRow) → find (is_extent parent) s.extents ≡ Some row → 0 < parent
  parent_some zero row found =
      let one : 1 ≤ count_by (is_extent 0) s.extents = found_one (is_extent 0) s.extents row found in
      let none : one_if (lives_as s.objects 0 kind.Extent) ≡ 0 = ap one_if (nobody s valid kind.Extent) in
      let few : count_by (is_extent 0) s.extents ≤ one_if (lives_as s.objects 0 kind.Extent) = valid.rows.extents 0 in
      absurd (omega arith)
  parent_some (suc parent) row found = omega arith

  derived_at_made : (child parent : Serial) (row : ExtentRow) (offset count access : ℕ)
      → find (is_extent parent.0) s.extents ≡ Some row → IsTrue (nat_lt 0 count)
      → IsTrue (is_init s child) → IsTrue (lives_as s.objects child.0 kind.Extent) → IsTrue (is_referred s parent)
      → MayMake s (derived_at s child parent row offset count access)
  derived_at_made child parent row offset count access found some init is from_parent =
      unless s (nat_lt row.count (offset + count)) ArgSize _ (λ spans.
      unless s (not (holds_run s.holders parent (row.first.0 + offset) count) || not (access_fits access row.access.0)) Denied _ (λ allowed.
      let there : (o : ObjectRow) × (object_row s child.0 ≡ Some o) = init_found (object_row s child.0) init in
      let object : ObjectRow = there.0 in
      let new : ExtentRow = derived_row child parent row offset count access in
      let kinds : (kind_number object.kind == kind_number kind.Extent) ≡ true =
      row_of_kind kind.Extent (object_row s child.0) object there.1 is in
      let bare : find (is_extent object.serial.0) s.extents ≡ None =
      none_there _ (extent_new object.kind object.cost _ _ kinds (new_object_is s valid child.0 object there.1 init)) in
      let none : find (is_extent child.0) s.extents ≡ None =
      subst (λ (n : ℕ). find (is_extent n) s.extents ≡ None) (own_serial s valid child object there.1) bare in
      let few : offset + count ≤ row.count = leb-true _ _ (at_most_by row.count (offset + count) spans) in
      let outer : IsTrue (span_fits (length s.holders) s.extents row) =
      found_all (is_extent parent.0) (span_fits (length s.holders) s.extents) s.extents row valid.pages.spans found in
      let front = and_parts (nat_lt 0 row.count && nat_le (row.first.0 + row.count) (length s.holders)) _ outer in
      let ends : row.first.0 + row.count ≤ length s.holders =
      leb-true _ _ (and_parts (nat_lt 0 row.count) (nat_le (row.first.0 + row.count) (length s.holders)) front.0).1 in
      let access : IsTrue (access_fits access row.access.0) = not_false _ (or_none (not (holds_run s.holders parent (row.first.0 + offset) count)) (not (access_fits access row.access.0)) allowed).1 in
      let part : IsTrue (is_part_of new (find (is_extent parent.0) s.extents)) =
      subst (λ (o : Option ExtentRow). IsTrue (is_part_of new o)) (sym found)
      (and_from _ _ (within_by row.first.0 offset count row.count few) access) in
      let span : MaySpan (ready s child) new = record {
        object = with_stage Ready object;
        lives = ready_row s child object there.1;
        kind = ready_kind s valid kind.Extent child object there.1 is;
        stage = refl;
        none = none;
        parent = parent_some parent.0 row found;
        fits = and_from _ _ (and_from _ _ some (ends_by row.first.0 offset count row.count (length s.holders) few ends))
            (either_true (is_root (length s.holders) new) _ part);
        from_child = refer_staged s child Ready parent.0 (may_refer s valid parent from_parent);
      } in
      let move : MayMove (add_extent new (ready s child)) (row.first.0 + offset) count child = record {
        row = new;
        found = find_push_new (is_extent child.0) s.extents new none (itself child.0);
        within = and_from _ _ (at_most_itself (row.first.0 + offset)) (at_most_itself (row.first.0 + offset + count));
      } in
      record { first = refl; others = record { first = span; others = record { first = move; others = tt } } }))

  pub derived_made : (child parent : Serial) (offset size access : ℕ) (row : Option ExtentRow)
      → find (is_extent parent.0) s.extents ≡ row → IsTrue (nat_lt 0 (page_of size))
      → IsTrue (is_init s child) → IsTrue (lives_as s.objects child.0 kind.Extent) → IsTrue (is_referred s parent)
      → MayMake s (derived s child parent offset size access row)
  derived_made child parent offset size access None found some init is from_parent = tt
  derived_made child parent offset size access (Some row) found some init is from_parent =
      derived_at_made child parent row (page_of offset) (page_of size) access found some init is from_parent
