-- Each parent, and the holder of each page, has a row after each change.
use Rattle.std.proofs.Common.{◌≡◌, ◌≢◌, ℕ, ◌+◌, ◌<◌, ◌≤◌}
use Rattle.std.proofs.Common.{inl, inr, Bool, true, false, not, List, [], ◌∷◌}
use Rattle.std.proofs.Common.{◌++◌, length, take, drop, replicate, get_or, Some}
use Rattle.std.proofs.Common.{None, if◌then◌else◌, refl, sym, ◌∙◌, arith}
use Rattle.std.specs.List.{filter, find, list_any, position_or_len}
use Rattle.std.specs.Option.{IsSome, IsSomeAnd}
use Rattle.std.proofs.lemmas.Bool.{cases_eq, cases_lt, eq-eqb, lt-ltb, ne_eqb, true≢false}
use Rattle.std.proofs.lemmas.List.Elements.{All-append, All-drop, All-filter, All-push}
use Rattle.std.proofs.lemmas.List.Elements.{All-replicate, All-take, All-weaker}
use Rattle.std.proofs.lemmas.List.Folds.{list_any_at}
use Rattle.std.proofs.lemmas.List.Sums.{prefix_len_passes}
use Rattle.gh_base.specs.declared.ids.Serial.{Serial}
use Rattle.gh_extent.specs.Extents.{Extents, HasParent, HasRow, IsTree, first_run, is_child_of}
use Rattle.gh_extent.specs.Extents.{is_other, moved, row_of, with_row, without_row}
use Rattle.gh_extent.proofs.ExtentLemmas.{found, within-moved, within-row, within-without}
use Rattle.gh_model.specs.Memory.{is_serial}
use Rattle.gh_model.specs.Rows.{is_extent}
use Rattle.gh_model.specs.declared.rows.ExtentRow.{ExtentRow}

-- what is found is found among one row more
find-more :
    (test : ExtentRow → Bool) (rows : List ExtentRow) (row : ExtentRow) → IsSome (find test rows)
    → IsSome (find test (rows ++ row ∷ []))
find-more test [] row some = absurd (true≢false (sym some))
find-more test (r ∷ rows) row some =
    elim (test r) as (λ b. IsSome (if b then Some r else find test rows) → IsSome (if b then Some r else find test (rows ++ row ∷ []))) [
      | true ↦ λ there. there
      | false ↦ λ there. find-more test rows row there
    ] some

-- a row that passes is found behind any others
pub find-last :
    (test : ExtentRow → Bool) (rows : List ExtentRow) (row : ExtentRow) → test row ≡ true
    → IsSome (find test (rows ++ row ∷ []))
find-last test [] row is = rw is refl
find-last test (r ∷ rows) row is =
    elim (test r) as (λ b. IsSome (if b then Some r else find test (rows ++ row ∷ []))) [
      | true ↦ refl
      | false ↦ find-last test rows row is
    ]

-- another extent's row is found though one extent's are gone
find-others :
    (other extent : ℕ) (rows : List ExtentRow) → (other ≡ extent → ⊥) → IsSome (find (is_extent other) rows)
    → IsSome (find (is_extent other) (filter (is_other extent) rows))
find-others other extent [] apart some = absurd (true≢false (sym some))
find-others other extent (r ∷ rows) apart some =
    elim (cases_eq r.serial.0 extent) [
      | inl same ↦
          let gone = eq-eqb r.serial.0 extent same in
          let not_it = ne_eqb r.serial.0 other (λ is. apart (sym is ∙ same)) in
          rw gone (find-others other extent rows apart (rw not_it at some))
      | inr differs ↦
          let stays = ne_eqb r.serial.0 extent differs in
          rw stays
          (elim (is_extent other r) as (λ b. IsSome (if b then Some r else find (is_extent other) rows)
          → IsSome (if b then Some r else find (is_extent other) (filter (is_other extent) rows))) [
            | true ↦ λ there. there
            | false ↦ λ there. find-others other extent rows apart there
          ] some)
    ]

pub tree-row :
    (s : Extents) (row : ExtentRow) → IsTree s → row.first.0 + row.count ≤ length s.holders → HasRow s row.parent.0
    → IsTree (with_row s row)
tree-row s row tree fits above = record {
  within = within-row s row tree.within fits;
  parents =
      let kept = All-weaker (HasParent s) (HasParent (with_row s row)) (λ r has not_root. find-more (is_extent r.parent.0) s.rows row (has not_root)) s.rows tree.parents in
      All-push (HasParent (with_row s row)) s.rows row kept (λ not_root. find-more (is_extent row.parent.0) s.rows row above);
  holders = All-weaker (λ h. HasRow s h.0) (λ h. HasRow (with_row s row) h.0) (λ h has. find-more (is_extent h.0) s.rows row has) s.holders tree.holders;
}

pub tree-moved :
    (s : Extents) (first count : ℕ) (to : Serial) → first + count ≤ length s.holders → HasRow s to.0 → IsTree s
    → IsTree (moved s first count to)
tree-moved s first count to fits there tree =
    let P : Serial → Type 0 = λ h. HasRow s h.0 in
    let front = All-take P first s.holders tree.holders in
    let behind = All-drop P (first + count) s.holders tree.holders in
    let run = All-replicate P count to there in
    record {
      within = within-moved s first count to fits tree.within;
      parents = tree.parents;
      holders = All-append P (take first s.holders ++ replicate count to) (drop (first + count) s.holders)
          (All-append P (take first s.holders) (replicate count to) front run) behind;
    }

-- no page is held by an extent that has no first run
unheld :
    (extent : ℕ) (hs : List Serial) → first_run extent hs ≡ None → (k : ℕ) (d : Serial) → k < length hs
    → (get_or hs k d).0 ≡ extent → ⊥
unheld extent hs none k d within same =
    let first = position_or_len (is_serial extent) hs in
    elim (cases_lt first (length hs)) [
      | inl some ↦
          let here = rw (lt-ltb first (length hs) some) at none in
          absurd (cc)
      | inr past ↦
          let passes = prefix_len_passes (λ h. not (is_serial extent h)) hs k d (omega arith) in
          let its = eq-eqb (get_or hs k d).0 extent same in
          true≢false (sym (rw its at passes))
    ]

pub tree-without :
    (s : Extents) (extent : ℕ) → list_any (is_child_of extent) s.rows ≡ false → first_run extent s.holders ≡ None
    → IsTree s → IsTree (without_row s extent)
tree-without s extent leaf none tree = record {
  within = within-without s extent tree.within;
  parents =
      let no_child : (k : ℕ) (d : ExtentRow) → k < length s.rows → (get_or s.rows k d).parent.0 ≡ extent → ⊥ =
      λ k d within same. true≢false (sym (list_any_at (is_child_of extent) s.rows k d within (eq-eqb _ _ same)) ∙ leaf) in
      All-filter (is_other extent) (HasParent (without_row s extent)) s.rows
      (λ k d within not_root. find-others _ extent s.rows (no_child k d within) (tree.parents k d within not_root));
  holders = λ k d within. find-others _ extent s.rows (unheld extent s.holders none k d within) (tree.holders k d within);
}

-- the parent of an extent that isn't the root has a row
pub parent-row :
    (s : Extents) (extent : ℕ) (row : ExtentRow) → IsTree s → row_of s extent ≡ Some row
    → IsSomeAnd (row_of s extent) (λ r. r.parent.0 ≢ 0) → HasRow s row.parent.0
parent-row s extent row tree is has_parent =
    let above = rw is at (found (HasParent s) (is_extent extent) s.rows tree.parents) in
    above (rw is at has_parent)
