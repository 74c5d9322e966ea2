-- The root extent, which spans and holds all pages of the machine, leaves pages fit. So do pages that
-- no extent holds yet.
use Rattle.std.proofs.Common.{◌≡◌, ◌+◌, ◌≤◌, ◌<◌, ◌∙◌, ◌&&◌, ◌==◌, ◌++◌, ℕ, zero, suc, true, List, [], ◌∷◌, length, refl, subst, sym, ap, arith, IsTrue, Some, find, nat_le, nat_lt, slice_get}
use Rattle.std.specs.Prelude.{count_by, replicate}
use Rattle.std.proofs.lemmas.Bool.{and_from, and_parts, eq-eqb, eqb-true, le-leb, lt-ltb, or_left}
use Rattle.std.proofs.lemmas.List.{length-replicate}
use Rattle.gh_base.specs.declared.ids.Serial.{Serial}
use Rattle.gh_base.specs.declared.limits.TheConstants.{MACHINE_PAGES}
use Rattle.gh_model.specs.QueueCalls.{one_if}
use Rattle.gh_model.specs.Rows.{is_extent}
use Rattle.gh_model.specs.declared.rows.ExtentRow.{ExtentRow}
use Rattle.gh_invariant.specs.Lives.{is_parentless, is_root, span_fits, spans_page}
use Rattle.gh_invariant.specs.Valid.{PagesFit}
use Rattle.gh_invariant.proofs.Counting.{count_one, find_here, one_true}

-- an item of a run of one item is that item, at a place within the run
run_item : {X : Type 0} (count : ℕ) (x : X) (page : ℕ) (y : X)
    → slice_get (replicate count x) page ≡ Some y → (page < count) × (x ≡ y)
run_item zero x page y is = absurd (let never : ⊥ = cc in never)
run_item (suc count) x zero y is = (omega arith, cc)
run_item (suc count) x (suc page) y is =
    let others : (page < count) × (x ≡ y) = run_item count x page y is in
    let within : page < count = others.0 in
    (omega arith, others.1)

-- what makes an extent the root, as facts
record RootParts (pages : ℕ) (row : ExtentRow) : Type 0 where
  parent : (row.parent.0 == 0) ≡ true
  first : row.first.0 ≡ 0
  count : row.count ≡ pages

root_parts : (pages : ℕ) (row : ExtentRow) → IsTrue (is_root pages row) → RootParts pages row
root_parts pages row whole =
    let last : _ × _ = and_parts _ (row.access.0 == 7) whole in
    let third : _ × _ = and_parts _ (row.count == pages) last.0 in
    let two : _ × _ = and_parts (row.parent.0 == 0) (row.first.0 == 0) third.0 in
    record {
      parent = two.0;
      first = eqb-true row.first.0 0 two.1;
      count = eqb-true row.count pages third.1;
    }

module _ (pages : ℕ) (row : ExtentRow) (whole : IsTrue (is_root pages row)) (some : 0 < pages)
    (few : pages ≤ MACHINE_PAGES) where
  parts : RootParts pages row
  parts = root_parts pages row whole

  root_spans : IsTrue (span_fits pages (row ∷ []) row)
  root_spans =
      let first : row.first.0 ≡ 0 = parts.first in
      let count : row.count ≡ pages = parts.count in
      and_from _ _
      (and_from _ _ (lt-ltb 0 row.count (omega arith))
      (le-leb (row.first.0 + row.count) pages (omega arith))) (or_left _ _ whole)

  page_within : (page : ℕ) → page < pages
      → IsTrue (nat_le row.first.0 page && nat_le (page + 1) (row.first.0 + row.count))
  page_within page within =
      let first : row.first.0 ≡ 0 = parts.first in
      let count : row.count ≡ pages = parts.count in
      and_from _ _ (le-leb row.first.0 page (omega arith))
      (le-leb (page + 1) (row.first.0 + row.count) (omega arith))

  root_held : (page : ℕ) (holder : Serial)
      → slice_get (replicate pages row.serial) page ≡ Some holder
      → IsTrue (spans_page page (find (is_extent holder.0) (row ∷ [])))
  root_held page holder is =
      let run : (page < pages) × (row.serial ≡ holder) = run_item pages row.serial page holder is in
      subst (λ (h : Serial). IsTrue (spans_page page (find (is_extent h.0) (row ∷ [])))) run.1
      (ap (spans_page page)
      (find_here (is_extent row.serial.0) row [] (eq-eqb row.serial.0 row.serial.0 refl))
      ∙ page_within page run.0)

  alone_pages : PagesFit (replicate pages row.serial) (row ∷ [])
  alone_pages =
      let same : length (replicate pages row.serial) ≡ pages = length-replicate pages row.serial in
      record {
        few = omega arith;
        spans = rw same (and_from _ _ root_spans refl);
        root = omega (arith, count_one is_parentless row, one_true (is_parentless row) parts.parent);
        held = λ rooted page holder is. root_held page holder is;
      }

-- where no other extent has a span
pub root_keeps_pages : (holders : List Serial) (extents : List ExtentRow) (row : ExtentRow)
    → extents ≡ [] → IsTrue (is_root (length holders) row) → 0 < length holders
    → PagesFit holders extents
    → PagesFit (replicate (length holders) row.serial) (extents ++ row ∷ [])
root_keeps_pages holders extents row none whole some fit =
    subst (λ (others : List ExtentRow).
    PagesFit (replicate (length holders) row.serial) (others ++ row ∷ [])) (sym none)
    (alone_pages (length holders) row whole some fit.few)

bare_pages : (holders : List Serial) → length holders ≤ MACHINE_PAGES → PagesFit holders []
bare_pages holders few = record {
  few = few;
  spans = refl;
  root = (let none : count_by is_parentless [] ≡ 0 = refl in omega arith);
  held = λ some page holder is. absurd (omega arith);
}

-- the machine gets its pages before any extent
pub pages_come : (count : ℕ) (holder : Serial) (extents : List ExtentRow) → extents ≡ []
    → count ≤ MACHINE_PAGES → PagesFit (replicate count holder) extents
pages_come count holder extents none few =
    subst (λ (others : List ExtentRow). PagesFit (replicate count holder) others) (sym none)
    (bare_pages (replicate count holder) (omega (arith, length-replicate count holder, few)))
