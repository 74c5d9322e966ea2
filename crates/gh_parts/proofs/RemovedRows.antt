-- Rows of which those that pass a test are taken away, one after another.
use Rattle.std.proofs.Common.{◌≡◌, ◌<◌, ◌∙◌, ◌++◌, not, ℕ, suc, Bool, true, List, Some, None, sym, ap, arith, length, position, take, drop, get_or}
use Rattle.std.specs.Prelude.{remove}
use Rattle.std.proofs.lemmas.List.{take-append-drop}
use Rattle.std.proofs.lemmas.List.Edits.{length-remove}
use Rattle.std.proofs.lemmas.List.Elements.{filter-append}
use Rattle.std.proofs.lemmas.List.Quantifiers.{position-Some}
use Rattle.std.proofs.Math.Seq.{drop-cons}
use Rattle.gh_invariant.proofs.Counting.{count_unfound, without_here}
use Rattle.gh_invariant.proofs.RowsLeft.{without_none}
use Rattle.gh_model.specs.Changes.{without}
use Rattle.gh_parts.proofs.FoundRows.{unplaced_none}

module _ {R : Type 0} (test : R → Bool) (rows : List R) where
  -- where none is found all that stay are there
  pub unplaced_stays : position test rows ≡ None → without test rows ≡ rows
  unplaced_stays none =
      without_none test rows (count_unfound test rows (unplaced_none test rows none))

  module _ (at : ℕ) (d : R) (placed : position test rows ≡ Some at) where
    below : at < length rows
    below = (position-Some test rows at d placed).0

    passes : test (get_or rows at d) ≡ true
    passes = (position-Some test rows at d placed).1

    -- one that is taken away was none of those that stay
    pub without_removed : without test (remove rows at) ≡ without test rows
    without_removed =
        filter-append (λ (row : R). not (test row)) (take at rows) (drop (suc at) rows)
        ∙ ap (λ (rest : List R). without test (take at rows) ++ rest)
        (sym (ap (without test) (drop-cons rows at d below)
        ∙ without_here test (get_or rows at d) (drop (suc at) rows) passes))
        ∙ sym (filter-append (λ (row : R). not (test row)) (take at rows) (drop at rows))
        ∙ ap (without test) (take-append-drop at rows)

    pub removed_fewer : length (remove rows at) < length rows
    removed_fewer = omega (arith, length-remove rows at below)
