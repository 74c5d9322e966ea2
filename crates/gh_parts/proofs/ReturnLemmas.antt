-- The extents and the address spaces while an extent gives its runs of pages back.
use Rattle.std.proofs.Common.{◌≡◌, ◌≢◌, ◌<◌, ◌∙◌, not, ℕ, zero, suc, Bool, true, false, List, [], ◌∷◌, Option, Some, None, refl, sym, ap, subst, arith, map, find, replicate, IsTrue}
use Rattle.std.specs.Prelude.{All, IsSomeAnd, count_by}
use Rattle.std.specs.List.{list_all, list_any}
use Rattle.std.specs.Option.{option_map}
use Rattle.std.proofs.lemmas.Bool.{and_from, both_ways, eq-eqb, eqb-true, ne_eqb, or_parts}
use Rattle.std.proofs.lemmas.List.Elements.{All-head, All-tail}
use Rattle.gh_base.specs.declared.ids.PageNo.{PageNo}
use Rattle.gh_base.specs.declared.ids.Serial.{Serial}
use Rattle.gh_extent.specs.Extents.{CanGiveBack, Extents, HasRow, after_give_back, first_run, is_child_of, row_of, row_returned}
use Rattle.gh_invariant.proofs.Counting.{count_unfound, found_all}
use Rattle.gh_invariant.proofs.RowsLeft.{without_none}
use Rattle.gh_model.specs.Boot.{move_pages}
use Rattle.gh_model.specs.Changes.{given_back}
use Rattle.gh_model.specs.Memory.{HoldsRun, is_serial}
use Rattle.gh_model.specs.Rows.{is_extent}
use Rattle.gh_model.specs.declared.rows.ExtentRow.{ExtentRow}
use Rattle.gh_parts.specs.Follows.{GivesBack, HoldsTree, SharesFollow, parent_in}
use Rattle.gh_parts.specs.Reclaims.{row_parent}
use Rattle.gh_parts.specs.Shares.{AreShares}
use Rattle.gh_parts.specs.Slots.{no_serial}
use Rattle.gh_parts.specs.Stands.{extent_rows, page_holders}
use Rattle.gh_parts.specs.declared.journal.Memory.{Memory}
use Rattle.gh_parts.specs.declared.journal.Memory.TheVariants.{Bare, Held}
use Rattle.gh_parts.specs.declared.parts.Parts.{Parts}
use Rattle.gh_parts.specs.declared.shares.Place.{Place}
use Rattle.gh_parts.proofs.FollowLemmas.{follow_still, follow_then}
use Rattle.gh_parts.proofs.FoundRows.{not_true}
use Rattle.gh_parts.proofs.Options.{map_none, some_same}
use Rattle.gh_parts.proofs.ReturnedRuns.{IsRun, fewer_held, given_last, given_moved, given_none, run_is}

-- the rows stay, pages go to the parent alone, and the address spaces follow
pub record Returning (extent : ℕ) (parent : Serial) (before now : Extents) (old new : List (List Place))
    : Type 0 where
  pub rows : now.rows ≡ before.rows
  pub pages : map (given_back extent parent) now.holders ≡ map (given_back extent parent) before.holders
  pub follow : SharesFollow before.holders now.holders old new

pub returning_none : (extent : ℕ) (parent : Serial) (before : Extents) (old : List (List Place))
    → AreShares old → Returning extent parent before before old old
returning_none extent parent before old whole =
    record { rows = refl; pages = refl; follow = follow_still before.holders old whole }

-- no child of one that isn't another
list_none : {R : Type 0} (p : R → Bool) (rows : List R) (row : R) (q : R → Bool) → list_any p rows ≡ false
    → find q rows ≡ Some row → p row ≡ false
list_none p rows row q none is = not_true (p row) (found_all q (λ (one : _). not (p one)) rows row (all_not p rows none) is)
  where
    all_not : {R : Type 0} (p : R → Bool) (rows : List R) → list_any p rows ≡ false
        → IsTrue (list_all (λ (one : R). not (p one)) rows)
    all_not p [] none = refl
    all_not p (row ∷ rows) none =
        let parts : (p row ≡ false) × (list_any p rows ≡ false) = or_parts _ _ none in
        and_from _ _ (ap not parts.0) (all_not p rows parts.1)

module _ (extent : ℕ) (parent : Serial) (before now : Extents) (old new : List (List Place))
    (can : CanGiveBack before extent) (above : option_map row_parent (row_of before extent) ≡ Some parent)
    (returning : Returning extent parent before now old new) where
  -- it can give back on
  pub returning_can : CanGiveBack now extent
  returning_can = record {
    parent = subst (λ (rows : List ExtentRow). IsSomeAnd (find (is_extent extent) rows) (λ (row : ExtentRow). row.parent.0 ≢ 0))
        (sym returning.rows) can.parent;
    leaf = ap (list_any (is_child_of extent)) returning.rows ∙ can.leaf;
  }

  above_now : option_map row_parent (row_of now extent) ≡ Some parent
  above_now = ap (λ (rows : List ExtentRow). option_map row_parent (find (is_extent extent) rows)) returning.rows ∙ above

  -- the parent is another extent
  apart_by : (found : Option ExtentRow) → row_of now extent ≡ found → option_map row_parent found ≡ Some parent
      → parent.0 ≢ extent
  apart_by None found is same = let never : ⊥ = cc in never
  apart_by (Some row) found is same =
      both_ways (is_child_of extent row)
      (list_none (is_child_of extent) now.rows row (is_extent extent) returning_can.leaf found)
      (eq-eqb row.parent.0 extent (ap (λ (s : Serial). s.0) (some_same row.parent parent is) ∙ same))

  parent_apart : parent.0 ≢ extent
  parent_apart = apart_by (row_of now extent) refl above_now

  moved_by : (run : PageNo × ℕ) (found : Option ExtentRow) → option_map row_parent found ≡ Some parent
      → row_returned now run found ≡ record now { holders = move_pages run.0.0 run.1 parent now.holders }
  moved_by run None is = absurd (let never : ⊥ = cc in never)
  moved_by run (Some row) is =
      ap (λ (s : Serial). record now { holders = move_pages run.0.0 run.1 s now.holders })
      (some_same row.parent parent is)

  module _ (run : PageNo × ℕ) (next : Extents) (after : List (List Place))
      (first : Some run ≡ first_run extent now.holders) (state : next ≡ after_give_back now extent (Some run))
      (follow : (holders : List Serial) → HoldsRun holders extent run.0.0 run.1
      → SharesFollow holders (move_pages run.0.0 run.1 parent holders) new after) where
    its_run : IsRun extent now.holders run
    its_run = run_is extent now.holders run (sym first)

    next_is : next ≡ record now { holders = move_pages run.0.0 run.1 parent now.holders }
    next_is = state ∙ moved_by run (row_of now extent) above_now

    -- a run more is given back
    pub returning_next : Returning extent parent before next old after
    returning_next =
        subst (λ (e : Extents). Returning extent parent before e old after) (sym next_is)
        (record {
          rows = returning.rows;
          pages = given_moved extent parent now.holders run.0.0 run.1 its_run.holds ∙ returning.pages;
          follow = follow_then before.holders now.holders (move_pages run.0.0 run.1 parent now.holders) old new after
              returning.follow (follow now.holders its_run.holds);
        })

    -- and fewer pages are left
    pub returning_fewer : count_by (is_serial extent) next.holders < count_by (is_serial extent) now.holders
    returning_fewer =
        subst (λ (e : Extents). count_by (is_serial extent) e.holders < count_by (is_serial extent) now.holders) (sym next_is)
        (fewer_held extent parent now.holders run.0.0 run.1 its_run.holds its_run.some parent_apart)

  -- all are given back once there is no run
  pub returning_pages : (next : Extents) → None ≡ first_run extent now.holders
      → next ≡ after_give_back now extent None
      → next.holders ≡ map (given_back extent parent) before.holders
  returning_pages next last state =
      ap (λ (e : Extents). e.holders) state
      ∙ sym (given_last extent parent now.holders (sym last))
      ∙ returning.pages

-- an extent without a row has no page to give back

unheld_bare : (extent : ℕ) → 0 < extent → (pages : ℕ)
    → IsTrue (list_all (λ (holder : Serial). not (is_serial extent holder)) (replicate pages no_serial))
unheld_bare extent some zero = refl
unheld_bare extent some (suc pages) =
    and_from _ _ (ap not (ne_eqb 0 extent (λ same. omega (arith, same, some)))) (unheld_bare extent some pages)

unheld_by : (s : Extents) (extent : ℕ) (holder : Serial) (here : Bool) → row_of s extent ≡ None
    → is_serial extent holder ≡ here → HasRow s holder.0 → not here ≡ true
unheld_by s extent holder false none is has = refl
unheld_by s extent holder true none is has =
    absurd (let gone : row_of s holder.0 ≡ None =
    subst (λ (n : ℕ). row_of s n ≡ None) (sym (eqb-true holder.0 extent is)) none in
    let never : ⊥ = cc in never)

unheld : (s : Extents) (extent : ℕ) → row_of s extent ≡ None → (holders : List Serial)
    → All (λ (holder : Serial). HasRow s holder.0) holders
    → IsTrue (list_all (λ (holder : Serial). not (is_serial extent holder)) holders)
unheld s extent none [] have = refl
unheld s extent none (holder ∷ holders) have =
    and_from _ _
    (unheld_by s extent holder (is_serial extent holder) none refl (All-head (λ (one : Serial). HasRow s one.0) holder holders have))
    (unheld s extent none holders (All-tail (λ (one : Serial). HasRow s one.0) holder holders have))

unheld_in : (memory : Memory) (extent : ℕ) → 0 < extent → HoldsTree memory
    → find (is_extent extent) (extent_rows memory) ≡ None
    → IsTrue (list_all (λ (holder : Serial). not (is_serial extent holder)) (page_holders memory))
unheld_in (Bare pages) extent some tree none = unheld_bare extent some pages
unheld_in (Held s) extent some tree none = unheld s extent none s.holders tree.holders

pub none_returned : (parts : Parts) (extent : ℕ) → 0 < extent → HoldsTree parts.journal.memory
    → None ≡ parent_in parts.journal.memory extent → AreShares parts.shares
    → GivesBack extent no_serial parts parts
none_returned parts extent some tree none whole =
    let unknown : find (is_extent extent) (extent_rows parts.journal.memory) ≡ None =
    map_none row_parent (find (is_extent extent) (extent_rows parts.journal.memory)) (sym none) in
    record {
      memory = parts.journal.memory;
      shares = parts.shares;
      rows = sym (without_none (is_extent extent) (extent_rows parts.journal.memory)
          (count_unfound (is_extent extent) (extent_rows parts.journal.memory) unknown));
      pages = sym (given_none extent no_serial (page_holders parts.journal.memory)
          (unheld_in parts.journal.memory extent some tree unknown));
      follow = follow_still (page_holders parts.journal.memory) parts.shares whole;
      parts = refl;
    }
