-- Each change leaves every page with a holder in whose span it lies, and every span in its
-- parent's.
use Rattle.std.proofs.Common.{◌≡◌, ◌+◌, ◌<◌, ◌≤◌, ◌∙◌, ◌&&◌, ◌||◌, ◌==◌, ◌++◌, ◌⊎◌, inl, inr, ℕ, zero, suc, Bool, true, false, not, List, [], ◌∷◌, length, take, drop, map, find, refl, subst, sym, arith, IsTrue, Option, Some, None, slice_get, if◌then◌else◌, nat_le, nat_lt, option_map}
use Rattle.std.specs.Prelude.{count_by, replicate}
use Rattle.std.specs.List.{list_all}
use Rattle.std.specs.Option.{option_map_or, option_or}
use Rattle.std.proofs.lemmas.Bool.{and_parts, and_from, eqb-true, ne_eqb}
use Rattle.std.proofs.lemmas.Bool.Decides.{nat_tests}
use Rattle.std.proofs.lemmas.Option.{slice_get-map}
use Rattle.std.proofs.lemmas.List.Sums.{length-filter, count_by-le-length}
use Rattle.std.proofs.lemmas.List.{length-append, length-map, length-take, length-drop, length-replicate}
use Rattle.std.proofs.lemmas.List.Folds.{find-append, list_all-append}
use Rattle.gh_base.specs.declared.ids.Serial.{Serial}
use Rattle.gh_model.specs.declared.rows.ExtentRow.{ExtentRow}
use Rattle.gh_model.specs.Boot.{move_pages}
use Rattle.gh_model.specs.Changes.{extent_parent, given_back, moved_run, without}
use Rattle.gh_model.specs.MemoryCalls.{is_within_span}
use Rattle.gh_model.specs.QueueCalls.{one_if}
use Rattle.gh_model.specs.Rows.{is_extent}
use Rattle.gh_model.specs.References.{is_child_of, is_root_extent}
use Rattle.gh_invariant.specs.Lives.{is_parentless, is_part_of, is_root, span_fits, spans_page}
use Rattle.gh_invariant.specs.Valid.{PagesFit}
use Rattle.gh_invariant.proofs.Counting.{all_by, all_by_two, count_push, found_all, found_passes, none_fail, one_false}
use Rattle.gh_invariant.proofs.RowsLeft.{all_left, count_fewer, find_left}

-- the page is one of a run, and has the run's item
pub record IsMoved {X : Type 0} (first end page : ℕ) (item x : X) : Type 0 where
  pub from : first ≤ page
  pub to : page < end
  pub is : item ≡ x

moved_next : {X : Type 0} (first end page later : ℕ) (item x : X) → later ≤ suc first
    → IsMoved first end page item x → IsMoved later (suc end) (suc page) item x
moved_next first end page later item x below moved =
    let from : first ≤ page = moved.from in
    let to : page < end = moved.to in
    record { from = omega arith; to = omega arith; is = moved.is }

-- behind the move of a run, an item is that of the run, or was there
moved_item : {X : Type 0} (item : X) (xs : List X) (first count end page : ℕ) (x : X)
    → end ≡ first + count → end ≤ length xs
    → slice_get (take first xs ++ replicate count item ++ drop end xs) page ≡ Some x
    → IsMoved first end page item x ⊎ (slice_get xs page ≡ Some x)
moved_item item xs zero zero zero page x sum within is = inr is
moved_item item xs zero zero (suc end) page x sum within is = absurd (omega arith)
moved_item item [] zero (suc count) end page x sum within is = absurd (omega arith)
moved_item item (y ∷ ys) zero (suc count) zero page x sum within is = absurd (omega arith)
moved_item item (y ∷ ys) zero (suc count) (suc end) zero x sum within is =
    inl (record { from = omega arith; to = omega arith; is = cc })
moved_item item (y ∷ ys) zero (suc count) (suc end) (suc page) x sum within is =
    elim (moved_item item ys zero count end page x (omega arith) (omega arith) is) as
    (λ _. IsMoved 0 (suc end) (suc page) item x ⊎ (slice_get (y ∷ ys) (suc page) ≡ Some x))
    [ inl moved ↦ inl (moved_next 0 end page 0 item x (omega arith) moved) | inr was ↦ inr was ]
moved_item item [] (suc first) count end page x sum within is = absurd (omega arith)
moved_item item (y ∷ ys) (suc first) count zero page x sum within is = absurd (omega arith)
moved_item item (y ∷ ys) (suc first) count (suc end) zero x sum within is = inr is
moved_item item (y ∷ ys) (suc first) count (suc end) (suc page) x sum within is =
    elim (moved_item item ys first count end page x (omega arith) (omega arith) is) as
    (λ _. IsMoved (suc first) (suc end) (suc page) item x ⊎
    (slice_get (y ∷ ys) (suc page) ≡ Some x)) [
      | inl moved ↦ inl (moved_next first end page (suc first) item x (omega arith) moved)
      | inr was ↦
          inr was
    ]

-- a page of a run within a span lies in the span
page_within : (row : ExtentRow) (first count page : ℕ) → IsTrue (is_within_span row first count)
    → first ≤ page → page < first + count → IsTrue (is_within_span row page 1)
page_within row first count page within from to = grind (arith, nat_tests)

module _ (first count : ℕ) (holder : Serial) (holders : List Serial) (extents : List ExtentRow)
    (row : ExtentRow) where
  -- there are as many pages as before
  pub moved_length : first + count ≤ length holders
      → length (move_pages first count holder holders) ≡ length holders
  moved_length within =
      let all : length (move_pages first count holder holders)
      ≡ length (take first holders ++ replicate count holder)
      + length (drop (first + count) holders) =
      length-append (take first holders ++ replicate count holder)
      (drop (first + count) holders) in
      let more : length (take first holders ++ replicate count holder)
      ≡ length (take first holders) + length (replicate count holder) =
      length-append (take first holders) (replicate count holder) in
      omega (
        arith,
        all,
        more,
        length-take first holders,
        length-replicate count holder,
        length-drop
            (first + count) holders,
      )

  module _ (found : find (is_extent holder.0) extents ≡ Some row)
      (within : IsTrue (is_within_span row first count)) (fit : PagesFit holders extents) where
    -- a page that moved lies in the span of its new holder
    moved_held : first + count ≤ length holders → 0 < length extents → (page : ℕ) (x : Serial)
        → slice_get (move_pages first count holder holders) page ≡ Some x
        → IsTrue (spans_page page (find (is_extent x.0) extents))
    moved_held some rooted page x is =
        elim (moved_item holder holders first count (first + count) page x refl some is) as
        (λ _. IsTrue (spans_page page (find (is_extent x.0) extents))) [
          | inl moved ↦ subst
              (λ (h : Serial). IsTrue (spans_page page (find (is_extent h.0) extents))) moved.is
              (rw found (page_within row first count page within moved.from moved.to))
          | inr was ↦ fit.held rooted page x was
        ]

    pub moved_fit : first + count ≤ length holders
        → PagesFit (move_pages first count holder holders) extents
    moved_fit some =
        let same : length (move_pages first count holder holders) ≡ length holders =
        moved_length some in
        record {
          few = rw same fit.few;
          spans = rw same fit.spans;
          root = fit.root;
          held = moved_held some;
        }

    either_fit : (here : Bool) → nat_le (first + count) (length holders) ≡ here
        → PagesFit (if here then move_pages first count holder holders else holders) extents
    either_fit true is = moved_fit (grind (arith, nat_tests))
    either_fit false is = fit

    -- a move of pages into their new holder's span
    pub move_keeps_pages : PagesFit (moved_run first count holder holders) extents
    move_keeps_pages = either_fit (nat_le (first + count) (length holders)) refl

-- an extent gets its span

-- a part of one span is a part of what is found in more extents
part_more : (row : ExtentRow) (old new : Option ExtentRow) → IsTrue (is_part_of row old)
    → IsTrue (is_part_of row (option_or old new))
part_more row None new part = absurd (let never : ⊥ = cc in never)
part_more row (Some outer) new part = part

page_more : (page : ℕ) (old new : Option ExtentRow) → IsTrue (spans_page page old)
    → IsTrue (spans_page page (option_or old new))
page_more page None new held = absurd (let never : ⊥ = cc in never)
page_more page (Some outer) new held = held

either_more : (some root old new : Bool) → (old ≡ true → new ≡ true)
    → IsTrue (some && (root || old)) → IsTrue (some && (root || new))
either_more true true old new more fits = refl
either_more true false old new more fits = more fits
either_more false root old new more fits = absurd (let never : ⊥ = cc in never)

module _ (pages : ℕ) (extents : List ExtentRow) (row : ExtentRow) where
  span_more : (one : ExtentRow) → IsTrue (span_fits pages extents one)
      → IsTrue (span_fits pages (extents ++ row ∷ []) one)
  span_more one fits =
      either_more (nat_lt 0 one.count && nat_le (one.first.0 + one.count) pages) (is_root pages one)
      (is_part_of one (find (is_extent one.parent.0) extents))
      (is_part_of one (find (is_extent one.parent.0) (extents ++ row ∷ [])))
      (λ part. rw find-append
      (part_more one (find (is_extent one.parent.0) extents)
      (find (is_extent one.parent.0) (row ∷ [])) part)) fits

  module _ (fits : IsTrue (span_fits pages extents row)) where
    spans_push : IsTrue (list_all (span_fits pages extents) extents)
        → IsTrue (list_all (span_fits pages (extents ++ row ∷ [])) (extents ++ row ∷ []))
    spans_push all =
        rw list_all-append
        (and_from (list_all (span_fits pages (extents ++ row ∷ [])) extents)
        (span_fits pages (extents ++ row ∷ []) row && true)
        (all_by (span_fits pages extents) (span_fits pages (extents ++ row ∷ [])) extents span_more
        all)
        (and_from (span_fits pages (extents ++ row ∷ []) row) true (span_more row fits) refl))

-- a span with a parent has an extent to be a part of
has_outer : (pages : ℕ) (extents : List ExtentRow) (row : ExtentRow) → 0 < row.parent.0
    → IsTrue (span_fits pages extents row) → 0 < length extents
has_outer pages [] row parent fits = absurd (grind (arith, nat_tests))
has_outer pages (outer ∷ extents) row parent fits = omega arith

-- an extent more with a span in its parent's
pub add_keeps_pages : (holders : List Serial) (extents : List ExtentRow) (row : ExtentRow)
    → 0 < row.parent.0 → IsTrue (span_fits (length holders) extents row) → PagesFit holders extents
    → PagesFit holders (extents ++ row ∷ [])
add_keeps_pages holders extents row parent fits fit = record {
  few = fit.few;
  spans = spans_push (length holders) extents row fits fit.spans;
  root = (let sum : count_by is_parentless (extents ++ row ∷ [])
      ≡ count_by is_parentless extents + one_if (is_parentless row) =
      count_push is_parentless extents row in
      let none : one_if (is_parentless row) ≡ 0 =
      one_false (is_parentless row) (ne_eqb row.parent.0 0 (λ is. omega arith)) in
      omega (arith, fit.root));
  held = λ some page holder is.
      rw find-append
      (page_more page (find (is_extent holder.0) extents) (find (is_extent holder.0) (row ∷ []))
      (fit.held (has_outer (length holders) extents row parent fits) page holder is));
}

-- an extent is reclaimed: it has no child, and it isn't the root

other_parent : (extent : ℕ) (row : ExtentRow) → IsTrue (not (is_child_of extent row))
    → (one : ExtentRow) → is_extent extent one ≡ true → is_extent row.parent.0 one ≡ false
other_parent extent row childless one is = grind (arith, nat_tests)

other_extent : (serial extent : ℕ) → (serial == extent) ≡ false → (one : ExtentRow)
    → is_extent extent one ≡ true → is_extent serial one ≡ false
other_extent serial extent other one is = grind (arith, nat_tests)

-- the part that a span is of its parent's stays
part_left : (pages extent : ℕ) (extents : List ExtentRow) (row : ExtentRow)
    → IsTrue (not (is_child_of extent row)) → IsTrue (span_fits pages extents row)
    → IsTrue (span_fits pages (without (is_extent extent) extents) row)
part_left pages extent extents row childless fits =
    rw (find_left (is_extent row.parent.0) (is_extent extent) extents
    (other_parent extent row childless)) fits

-- a page of a span that is a part of another lies in that one
page_outer : (page : ℕ) (row outer : ExtentRow) → IsTrue (is_part_of row (Some outer))
    → IsTrue (is_within_span row page 1) → IsTrue (is_within_span outer page 1)
page_outer page row outer part held = grind (arith, nat_tests)

page_in_parent : (page : ℕ) (row : ExtentRow) (outer : Option ExtentRow)
    → IsTrue (is_part_of row outer) → IsTrue (is_within_span row page 1)
    → IsTrue (spans_page page outer)
page_in_parent page row None part held = absurd (let never : ⊥ = cc in never)
page_in_parent page row (Some outer) part held = page_outer page row outer part held

-- a span that isn't the root's is a part of its parent's
is_part : (pages : ℕ) (extents : List ExtentRow) (row : ExtentRow) (extent : ℕ)
    → is_extent extent row ≡ true → IsTrue (not (is_root_extent extent row))
    → IsTrue (span_fits pages extents row)
    → IsTrue (is_part_of row (find (is_extent row.parent.0) extents))
is_part pages extents row extent is unrooted fits =
    part_by (row.serial.0 == extent) (nat_lt 0 row.count && nat_le (row.first.0 + row.count) pages)
    (row.parent.0 == 0) ((row.first.0 == 0)) (row.count == pages) (row.access.0 == 7)
    (is_part_of row (find (is_extent row.parent.0) extents)) is unrooted fits
  where
    part_by : (here some root first all access part : Bool) → here ≡ true
        → IsTrue (not (here && root)) → IsTrue (some && ((root && first && all && access) || part))
        → IsTrue part
    part_by here some root first all access true is unrooted fits = refl
    part_by false some root first all access false is unrooted fits =
        absurd (let never : ⊥ = cc in never)
    part_by true some true first all access false is unrooted fits =
        absurd (let never : ⊥ = cc in never)
    part_by true true false first all access false is unrooted fits =
        absurd (let never : ⊥ = cc in never)
    part_by true false false first all access false is unrooted fits =
        absurd (let never : ⊥ = cc in never)

module _ (extent : ℕ) (holders : List Serial) (extents : List ExtentRow)
    (childless : count_by (is_child_of extent) extents ≡ 0)
    (unrooted : count_by (is_root_extent extent) extents ≡ 0) (fit : PagesFit holders extents) where
  -- the extent's row, where it has one
  module _ (row : ExtentRow) (found : find (is_extent extent) extents ≡ Some row) where
    outer_left : find (is_extent row.parent.0) (without (is_extent extent) extents)
        ≡ find (is_extent row.parent.0) extents
    outer_left =
        find_left (is_extent row.parent.0) (is_extent extent) extents
        (other_parent extent row
        (found_all (is_extent extent) (λ (one : ExtentRow). not (is_child_of extent one)) extents
        row (none_fail (is_child_of extent) extents childless) found))

    -- its pages lie in its parent's span
    given_held : (page : ℕ) → IsTrue (is_within_span row page 1)
        → IsTrue (spans_page page
        (find (is_extent row.parent.0) (without (is_extent extent) extents)))
    given_held page held =
        rw outer_left (page_in_parent page row (find (is_extent row.parent.0) extents)
        (is_part (length holders) extents row extent
        (found_passes (is_extent extent) extents row found)
        (found_all (is_extent extent) (λ (one : ExtentRow). not (is_root_extent extent one)) extents
        row (none_fail (is_root_extent extent) extents unrooted) found)
        (found_all (is_extent extent) (span_fits (length holders) extents) extents row fit.spans
        found)) held)

  given_by_found : (page : ℕ) (found : Option ExtentRow) → find (is_extent extent) extents ≡ found
      → IsTrue (spans_page page found)
      → IsTrue (spans_page page
      (find (is_extent (option_map_or (λ (row : ExtentRow). row.parent) found (record { 0 = 0 })).0)
      (without (is_extent extent) extents)))
  given_by_found page None is held = absurd (let never : ⊥ = cc in never)
  given_by_found page (Some row) is held = given_held row is page held

  -- a page that it held goes to its parent, and others stay
  back_held : (page : ℕ) (holder : Serial) (here : Bool) → (holder.0 == extent) ≡ here
      → IsTrue (spans_page page (find (is_extent holder.0) extents))
      → IsTrue (spans_page page
      (find (is_extent (if here then extent_parent extents extent else holder).0)
      (without (is_extent extent) extents)))
  back_held page holder true is held =
      given_by_found page (find (is_extent extent) extents) refl
      (subst (λ (n : ℕ). IsTrue (spans_page page (find (is_extent n) extents)))
      (eqb-true holder.0 extent is) held)
  back_held page holder false other held =
      rw (find_left (is_extent holder.0) (is_extent extent) extents
      (other_extent holder.0 extent other)) held

  back_given : (page : ℕ) (holder : Serial) (old : Option Serial)
      → option_map (given_back extent (extent_parent extents extent)) old ≡ Some holder
      → ((one : Serial) → old ≡ Some one
      → IsTrue (spans_page page (find (is_extent one.0) extents)))
      → IsTrue (spans_page page (find (is_extent holder.0) (without (is_extent extent) extents)))
  back_given page holder None is held = absurd (let never : ⊥ = cc in never)
  back_given page holder (Some one) is held =
      let same : given_back extent (extent_parent extents extent) one ≡ holder = cc in
      subst (λ (h : Serial).
      IsTrue (spans_page page (find (is_extent h.0) (without (is_extent extent) extents)))) same
      (back_held page one (one.0 == extent) refl (held one refl))

  -- a reclaim gives the pages of an extent to its parent
  pub reclaim_keeps_pages : PagesFit
      (map (given_back extent (extent_parent extents extent)) holders)
      (without (is_extent extent) extents)
  reclaim_keeps_pages =
      let same : length (map (given_back extent (extent_parent extents extent)) holders)
      ≡ length holders =
      length-map holders (given_back extent (extent_parent extents extent)) in
      record {
        few = rw same fit.few;
        spans = rw same
            (all_left (λ (row : ExtentRow). not (is_child_of extent row)
            && span_fits (length holders) extents row)
            (span_fits (length holders) (without (is_extent extent) extents)) (is_extent extent)
            extents
            (λ row fails passes.
            (let parts =
            and_parts (not (is_child_of extent row)) (span_fits (length holders) extents row)
            passes in part_left (length holders) extent extents row parts.0 parts.1))
            (all_by_two (λ (row : ExtentRow). not (is_child_of extent row))
            (span_fits (length holders) extents)
            (λ (row : ExtentRow). not (is_child_of extent row)
            && span_fits (length holders) extents row) extents
            (λ row one also. and_from _ _ one also)
            (none_fail (is_child_of extent) extents childless) fit.spans));
        root = omega (arith, count_fewer is_parentless (is_extent extent) extents, fit.root);
        held = λ some page holder is.
            back_given page holder (slice_get holders page)
            (sym (slice_get-map (given_back extent (extent_parent extents extent)) holders page)
            ∙ is) (fit.held (omega (arith, some_more some)) page);
      }
    where
      some_more : 0 < length (without (is_extent extent) extents) → 0 < length extents
      some_more some =
          omega (
            arith,
            length-filter (λ (row : ExtentRow). not (is_extent extent row)) extents,
            count_by-le-length (λ (row : ExtentRow). not (is_extent extent row)) extents,
          )
