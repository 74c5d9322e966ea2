-- Each change leaves the mapping rows of an address space few and apart, and what they name there.
use Rattle.std.proofs.Common.{◌≡◌, ◌+◌, ◌<◌, ◌≤◌, ◌∙◌, ◌&&◌, ◌++◌, ◌⊎◌, inl, inr, ℕ, Bool, true, false, not, List, [], ◌∷◌, refl, subst, ap, arith, IsTrue, Option, Some, None, find, nat_le, nat_lt, ◌==◌}
use Rattle.std.specs.Prelude.{count_by}
use Rattle.std.specs.List.{list_any}
use Rattle.std.specs.Option.{option_or}
use Rattle.std.proofs.lemmas.Bool.{and_parts, and_from, cases_Bool, eqb-true, not-true, or_from, or_parts}
use Rattle.std.proofs.lemmas.Bool.Decides.{nat_tests}
use Rattle.std.proofs.lemmas.List.Folds.{list_any-append}
use Rattle.gh_model.specs.declared.rows.ExtentRow.{ExtentRow}
use Rattle.gh_model.specs.declared.rows.MappingRow.{MappingRow}
use Rattle.gh_model.specs.declared.rows.ObjectRow.{ObjectRow}
use Rattle.gh_base.specs.declared.kind.Kind.{Kind}
use Rattle.gh_base.specs.declared.kind.Kind.TheVariants as kind
use Rattle.gh_model.specs.Boot.{is_row_of, overlaps}
use Rattle.gh_model.specs.Changes.{without}
use Rattle.gh_model.specs.QueueCalls.{one_if}
use Rattle.gh_model.specs.References.{is_mapping_of}
use Rattle.gh_model.specs.Rows.{is_extent, is_object}
use Rattle.gh_invariant.specs.Lives.{are_apart, lives_as, mapping_stands, meets, spans_row}
use Rattle.gh_invariant.specs.Valid.{MappingsFit}
use Rattle.gh_invariant.proofs.Counting.{all_by, all_push, count_push, find_push, without_here, without_later}
use Rattle.gh_invariant.proofs.RowsLeft.{all_left, all_without, count_fewer, find_left}
use Rattle.gh_invariant.proofs.ObjectsFit.{lives_left}
use Rattle.gh_invariant.proofs.RowsTested.{other_number}

-- rows that have no page in common, in either order
apart_turned : (row other : MappingRow) → overlaps row.space.0 row.base row.count other ≡ false
    → overlaps other.space.0 other.base other.count row ≡ false
apart_turned row other apart = grind (arith, nat_tests)

-- rows that are apart, and one that is apart from each of them, are apart
apart_push : (rows : List MappingRow) (row : MappingRow) → IsTrue (are_apart rows)
    → meets row rows ≡ false → IsTrue (are_apart (rows ++ row ∷ []))
apart_push [] row apart free = refl
apart_push (first ∷ rows) row apart free =
    let parts : (not (meets first rows) ≡ true) × (are_apart rows ≡ true) = and_parts _ _ apart in
    let others : (overlaps row.space.0 row.base row.count first ≡ false) ×
    (meets row rows ≡ false) = or_parts _ _ free in
    let turned : overlaps first.space.0 first.base first.count row ≡ false =
    apart_turned row first others.0 in
    let behind : meets first (rows ++ row ∷ []) ≡ false =
    list_any-append _ rows (row ∷ [])
    ∙ or_from _ _ (not-true (meets first rows) parts.0) (or_from _ _ turned refl) in
    and_from _ _ (ap not behind) (apart_push rows row parts.1 others.1)

any_fewer_by : {R : Type 0} (p q : R → Bool) (row : R) (rows : List R)
    → (q row ≡ true) ⊎ (q row ≡ false) → p row ≡ false → list_any p (without q rows) ≡ false
    → list_any p (without q (row ∷ rows)) ≡ false
any_fewer_by p q row rows (inl here) fails others =
    ap (list_any p) (without_here q row rows here) ∙ others
any_fewer_by p q row rows (inr later) fails others =
    ap (list_any p) (without_later q row rows later) ∙ or_from _ _ fails others

-- where none passes, none of fewer rows passes
any_fewer : {R : Type 0} (p q : R → Bool) (rows : List R) → list_any p rows ≡ false
    → list_any p (without q rows) ≡ false
any_fewer p q [] none = refl
any_fewer p q (row ∷ rows) none =
    let parts : (p row ≡ false) × (list_any p rows ≡ false) = or_parts _ _ none in
    any_fewer_by p q row rows (cases_Bool (q row)) parts.0 (any_fewer p q rows parts.1)

-- fewer rows are apart as well
apart_fewer_by : (q : MappingRow → Bool) (row : MappingRow) (rows : List MappingRow)
    → (q row ≡ true) ⊎ (q row ≡ false) → meets row rows ≡ false
    → IsTrue (are_apart (without q rows)) → IsTrue (are_apart (without q (row ∷ rows)))
apart_fewer_by q row rows (inl here) apart others =
    ap are_apart (without_here q row rows here) ∙ others
apart_fewer_by q row rows (inr later) apart others =
    ap are_apart (without_later q row rows later)
    ∙ and_from _ _ (ap not (any_fewer _ q rows apart)) others

apart_fewer : (q : MappingRow → Bool) (rows : List MappingRow) → IsTrue (are_apart rows)
    → IsTrue (are_apart (without q rows))
apart_fewer q [] apart = refl
apart_fewer q (row ∷ rows) apart =
    let parts : (not (meets row rows) ≡ true) × (are_apart rows ≡ true) = and_parts _ _ apart in
    apart_fewer_by q row rows (cases_Bool (q row)) (not-true (meets row rows) parts.0)
    (apart_fewer q rows parts.1)

one_more : (old most : ℕ) (here : Bool) → old ≤ most → (here ≡ true → old < most)
    → old + one_if here ≤ most
one_more old most true within fewer =
    (let one : one_if true ≡ 1 = refl in let less : old < most = fewer refl in omega arith)
one_more old most false within fewer = (let none : one_if false ≡ 0 = refl in omega arith)

module _ (objects : List ObjectRow) (extents : List ExtentRow) (mappings : List MappingRow)
    (fit : MappingsFit objects extents mappings) where
  -- a row more whose pages are free, where there is room
  pub put_keeps_mappings : (row : MappingRow) → IsTrue (mapping_stands objects extents row)
      → meets row mappings ≡ false → count_by (is_row_of row.space.0) mappings < 64
      → MappingsFit objects extents (mappings ++ row ∷ [])
  put_keeps_mappings row stands free few = record {
    stand = all_push (mapping_stands objects extents) mappings row fit.stand stands;
    few = λ space. rw (count_push (is_row_of space) mappings row)
        (one_more (count_by (is_row_of space) mappings) 64 (is_row_of space row) (fit.few space)
        (λ here. subst (λ (n : ℕ). count_by (is_row_of n) mappings < 64)
        (eqb-true row.space.0 space here) few));
    apart = apart_push mappings row fit.apart free;
  }

  -- rows fewer
  pub drop_keeps_mappings : (q : MappingRow → Bool)
      → MappingsFit objects extents (without q mappings)
  drop_keeps_mappings q = record {
    stand = all_without (mapping_stands objects extents) q mappings fit.stand;
    few = λ space.
        (let fewer : count_by (is_row_of space) (without q mappings)
        ≤ count_by (is_row_of space) mappings =
        count_fewer (is_row_of space) q mappings in omega (arith, fit.few space));
    apart = apart_fewer q mappings fit.apart;
  }

-- what a row names stays, where all objects and spans do
pub names_stay : (old new : List ObjectRow) (before after : List ExtentRow)
    (mappings : List MappingRow)
    → ((row : MappingRow) → IsTrue (mapping_stands old before row)
    → IsTrue (mapping_stands new after row)) → MappingsFit old before mappings
    → MappingsFit new after mappings
names_stay old new before after mappings stays fit = record {
  stand = all_by (mapping_stands old before) (mapping_stands new after) mappings stays fit.stand;
  few = fit.few;
  apart = fit.apart;
}

-- an extent more, or an object more, changes nothing of what a row names

spans_or : (row : MappingRow) (old new : Option ExtentRow) → IsTrue (spans_row row old)
    → IsTrue (spans_row row (option_or old new))
spans_or row None new spans = absurd (let never : ⊥ = cc in never)
spans_or row (Some extent) new spans = spans

same_named : (space space_now extent extent_now some within spans spans_now : Bool)
    → (space ≡ true → space_now ≡ true) → (extent ≡ true → extent_now ≡ true)
    → (spans ≡ true → spans_now ≡ true) → IsTrue (space && extent && some && within && spans)
    → IsTrue (space_now && extent_now && some && within && spans_now)
same_named false space_now extent extent_now some within spans spans_now a b c stands =
    absurd (let never : ⊥ = cc in never)
same_named true space_now false extent_now some within spans spans_now a b c stands =
    absurd (let never : ⊥ = cc in never)
same_named true space_now true extent_now false within spans spans_now a b c stands =
    absurd (let never : ⊥ = cc in never)
same_named true space_now true extent_now true false spans spans_now a b c stands =
    absurd (let never : ⊥ = cc in never)
same_named true space_now true extent_now true true false spans_now a b c stands =
    absurd (let never : ⊥ = cc in never)
same_named true space_now true extent_now true true true spans_now a b c stands =
    rw (a refl, b refl, c refl) refl

module _ (old new : List ObjectRow) (before after : List ExtentRow)
    (lives : (serial : ℕ) (k : Kind) → IsTrue (lives_as old serial k)
    → IsTrue (lives_as new serial k))
    (spans : (row : MappingRow) → IsTrue (spans_row row (find (is_extent row.extent.0) before))
    → IsTrue (spans_row row (find (is_extent row.extent.0) after))) where
  stands_on : (row : MappingRow) → IsTrue (mapping_stands old before row)
      → IsTrue (mapping_stands new after row)
  stands_on row stands =
      same_named (lives_as old row.space.0 kind.Space) (lives_as new row.space.0 kind.Space)
      (lives_as old row.extent.0 kind.Extent) (lives_as new row.extent.0 kind.Extent)
      (nat_lt 0 row.count) (nat_le (row.base + row.count) 4096)
      (spans_row row (find (is_extent row.extent.0) before))
      (spans_row row (find (is_extent row.extent.0) after))
      (lives row.space.0 kind.Space) (lives row.extent.0 kind.Extent) (spans row) stands

-- where what lives lives on
pub lives_keep_mappings : (old new : List ObjectRow) (extents : List ExtentRow)
    (mappings : List MappingRow)
    → ((serial : ℕ) (k : Kind) → IsTrue (lives_as old serial k) → IsTrue (lives_as new serial k))
    → MappingsFit old extents mappings → MappingsFit new extents mappings
lives_keep_mappings old new extents mappings lives fit =
    names_stay old new extents extents mappings
    (stands_on old new extents extents lives (λ row spans. spans)) fit

-- an extent more
pub span_keeps_mappings : (objects : List ObjectRow) (extents : List ExtentRow)
    (mappings : List MappingRow) (row : ExtentRow) → MappingsFit objects extents mappings
    → MappingsFit objects (extents ++ row ∷ []) mappings
span_keeps_mappings objects extents mappings row fit =
    names_stay objects objects extents (extents ++ row ∷ []) mappings
    (stands_on objects objects extents (extents ++ row ∷ []) (λ serial k lives. lives)
    (λ one spans. ap (spans_row one) (find_push (is_extent one.extent.0) extents row)
    ∙ spans_or one (find (is_extent one.extent.0) extents)
    (find (is_extent one.extent.0) (row ∷ [])) spans)) fit

-- an object is reclaimed, and the rows that name it go

module _ (objects : List ObjectRow) (extents : List ExtentRow) (mappings : List MappingRow)
    (object : ℕ) where
  named_left : (row : MappingRow) → is_mapping_of object row ≡ false
      → mapping_stands (without (is_object object) objects) (without (is_extent object) extents) row
      ≡ mapping_stands objects extents row
  named_left row apart =
      let parts : ((row.space.0 == object) ≡ false) × ((row.extent.0 == object) ≡ false) =
      or_parts _ _ apart in
      rw (lives_left objects object row.space.0 kind.Space parts.0)
      (rw (lives_left objects object row.extent.0 kind.Extent parts.1)
      (rw (find_left (is_extent row.extent.0) (is_extent object) extents
      (λ one is. other_number one.serial.0 row.extent.0 object parts.1 is)) refl))

  pub reclaim_keeps_mappings : MappingsFit objects extents mappings
      → MappingsFit (without (is_object object) objects) (without (is_extent object) extents)
      (without (is_mapping_of object) mappings)
  reclaim_keeps_mappings fit =
      let fewer : MappingsFit objects extents (without (is_mapping_of object) mappings) =
      drop_keeps_mappings objects extents mappings fit (is_mapping_of object) in
      record {
        stand = all_left (mapping_stands objects extents)
            (mapping_stands (without (is_object object) objects)
            (without (is_extent object) extents)) (is_mapping_of object) mappings
            (λ row apart stands. named_left row apart ∙ stands) fit.stand;
        few = fewer.few;
        apart = fewer.apart;
      }
