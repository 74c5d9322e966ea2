-- Lists of which each item is changed in turn.
use Rattle.std.proofs.Common.{◌≡◌, ◌<◌, ◌≤◌, ◌+◌, ◌∙◌, ℕ, List, refl, sym, subst, arith, inl, inr, length, get_or, set}
use Rattle.std.proofs.lemmas.Bool.{cases_eq, cases_lt}
use Rattle.std.proofs.lemmas.List.{get_or_past, get_or-set_other, get_or-set_same, length-set}

-- so many items are changed, and the others are left
pub record ChangedTo {X : Type 0} (R : X → X → Type 0) (d : X) (old now : List X) (at : ℕ) : Type 0 where
  pub same : length now ≡ length old
  pub done : (k : ℕ) → k < at → R (get_or old k d) (get_or now k d)
  pub left : (k : ℕ) → at ≤ k → get_or now k d ≡ get_or old k d

module _ {X : Type 0} (R : X → X → Type 0) (d : X) where
  pub changed_none : (xs : List X) → ChangedTo R d xs xs 0
  changed_none xs = record {
    same = refl;
    done = λ k below. absurd (omega (arith, below));
    left = λ k past. refl;
  }

  -- the next item is changed too
  pub changed_more : (old now : List X) (at : ℕ) (x : X) → at < length now → ChangedTo R d old now at
      → R (get_or now at d) x → ChangedTo R d old (set now at x) (at + 1)
  changed_more old now at x within changed new = record {
    same = length-set now at x ∙ changed.same;
    done = λ k below.
        elim (cases_eq k at) [
          | inl here ↦
              subst (λ (n : ℕ). R (get_or old n d) (get_or (set now at x) n d)) (sym here)
              (subst (λ (y : X). R (get_or old at d) y) (sym (get_or-set_same now at x d within))
              (subst (λ (y : X). R y x) (changed.left at (omega arith)) new))
          | inr apart ↦
              subst (λ (y : X). R (get_or old k d) y) (sym (get_or-set_other now at k x d apart))
              (changed.done k (omega (arith, below, apart)))
        ];
    left = λ k past.
        get_or-set_other now at k x d (λ same. omega (arith, same, past)) ∙ changed.left k (omega (arith, past));
  }

  -- all are changed, and past the end there is what was there
  pub changed_all : (old now : List X) (at : ℕ) → length now ≤ at → ChangedTo R d old now at → R d d → (k : ℕ)
      → R (get_or old k d) (get_or now k d)
  changed_all old now at end changed both k =
      elim (cases_lt k at) [
        | inl below ↦ changed.done k below
        | inr past ↦
            subst (λ (y : X). R y (get_or now k d)) (sym (get_or_past old k d (omega (arith, past, end, changed.same))))
            (subst (λ (y : X). R d y) (sym (get_or_past now k d (omega (arith, past, end)))) both)
      ]
