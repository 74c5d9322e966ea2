-- Maps that are empty, and maps after a run is set.
use Rattle.std.proofs.Common.{◌≡◌, ℕ, zero, suc, ◌+◌, ◌≤◌}
use Rattle.std.proofs.Common.{List, length, None, refl, ◌∙◌}
use Rattle.gh_pagetable.specs.Entry.{overwritten, run}
use Rattle.gh_pagetable.specs.Map.{Target, IsEmpty, SetsRun, at}
use Rattle.gh_pagetable.proofs.Overwriting.{at-overwritten_inside}
use Rattle.gh_pagetable.proofs.Overwriting.{at-overwritten_outside, length-overwritten}
use Rattle.gh_pagetable.proofs.Runs.{at-run, length-run}

at-run_none : (n v : ℕ) → at (run None n) v ≡ None
unfolding run
at-run_none zero v = refl
at-run_none (suc n) zero = refl
at-run_none (suc n) (suc v) = at-run_none n v

-- pages that lead nowhere are an empty map
pub run_is_empty : (n : ℕ) → n ≡ 4096 → IsEmpty (run None n)
run_is_empty n all = record { size = length-run None n ∙ all; empty = at-run_none n }

-- writing the targets of a run over a map sets the run
pub overwritten_sets :
    (map : List Target) (first count : ℕ) (t : Target)
    → first + count ≤ length map → SetsRun map (overwritten map first (run t count)) first count t
overwritten_sets map first count t within =
    let us = run t count in
    let inside : first + length us ≤ length map = rw length-run within in
    record {
      changed = λ i there.
          at-overwritten_inside map us first i inside (rw length-run there) ∙ at-run t count i there;
      others = λ v outside.
          at-overwritten_outside map us first v inside (rw length-run outside);
      size = length-overwritten map us first inside;
    }
