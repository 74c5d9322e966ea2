-- Targets further on, and runs of them.
use Rattle.std.proofs.Common.{◌≡◌, ℕ, zero, suc, ◌+◌, ◌<◌, ◌≤◌}
use Rattle.std.proofs.Common.{List, ◌∷◌, ◌++◌, length, None, Some, refl}
use Rattle.std.proofs.Common.{sym, ap, ◌∙◌, arith, zero-add, suc-add, one-add}
use Rattle.std.proofs.lemmas.Grind.{common_steps}
use Rattle.gh_pagetable.specs.Entry.{AreNumbered, overwritten, run}
use Rattle.gh_pagetable.specs.Map.{Target, at, further}
use Rattle.gh_pagetable.proofs.Overwriting.{overwritten-nil}

pub further-further : (t : Target) (a b : ℕ) → further (further t a) b ≡ further t (a + b)
further-further None a b = refl
further-further (Some t) a b = grind (arith, common_steps)

pub further-zero : (t : Target) → further t 0 ≡ t
further-zero None = refl
further-zero (Some t) = grind (arith, common_steps)

pub length-run : (t : Target) (n : ℕ) → length (run t n) ≡ n
unfolding run
length-run t zero = refl
length-run t (suc n) = ap suc (length-run (further t 1) n)

pub run-append : (t : Target) (a b : ℕ) → run t (a + b) ≡ run t a ++ run (further t a) b
unfolding run
run-append t zero b = rw (zero-add, further-zero)
run-append t (suc a) b =
    let rest = run-append (further t 1) a b ∙ rw (further-further, one-add) in
    rw suc-add (ap (λ (us : List Target). t ∷ us) rest)

pub at-run : (t : Target) (n k : ℕ) → k < n → at (run t n) k ≡ further t k
unfolding run
at-run t zero k within = absurd (omega arith)
at-run t (suc n) zero within = sym (further-zero t)
at-run t (suc n) (suc k) within =
    at-run (further t 1) n k (omega arith) ∙ rw (further-further, one-add)

-- nothing is left to write
pub overwritten-run_none :
    (ts : List Target) (first count : ℕ) (t : Target)
    → first ≤ length ts → count ≡ 0 → overwritten ts first (run t count) ≡ ts
unfolding run
overwritten-run_none ts first count t within none = rw none (overwritten-nil ts first within)

-- fewer machine pages, those further on, and those from further back
pub AreNumbered-fewer : (t : Target) (m n : ℕ) → m ≤ n → AreNumbered t n → AreNumbered t m
AreNumbered-fewer None m n fewer all = tt
AreNumbered-fewer (Some t) m n fewer all = omega arith

pub AreNumbered-further :
    (t : Target) (a b n : ℕ) → a + b ≤ n → AreNumbered t n → AreNumbered (further t a) b
AreNumbered-further None a b n within all = tt
AreNumbered-further (Some t) a b n within all = omega arith

pub AreNumbered-from : (t : Target) (a b : ℕ) → AreNumbered (further t a) b → AreNumbered t (a + b)
AreNumbered-from None a b later = tt
AreNumbered-from (Some t) a b later = omega arith
