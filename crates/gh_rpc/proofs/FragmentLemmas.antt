-- Making the fragments of a message one after another.
use Rattle.std.proofs.Common.{◌≡◌, ℕ, suc, ◌-◌, ◌+◌, ◌<◌, ◌≤◌}
use Rattle.std.proofs.Common.{◌∷◌, ◌++◌, List, [], drop, refl, arith, subst}
use Rattle.std.proofs.Common.{sym, ◌∙◌, ap, append_assoc, append-nil}
use Rattle.gh_base.specs.declared.fragment.Message.{Message}
use Rattle.gh_base.specs.declared.fragment.FragmentKind.TheVariants.{Continuation, Request}
use Rattle.gh_base.specs.RpcMessage.{continuations, filled, fragments_of, further_fragments}

-- so many continuations are made, and the payload behind the last fragment made is left
pub record IsMaking (m : Message) (count done : ℕ) (left : List ℕ) (made : List (List ℕ)) : Type 0 where
  pub so_far : made ++ continuations m (count - done) (drop 232 left) ≡ fragments_of m

-- the first of some continuations holds what is left, and the others what is behind it
continuations_of : (m : Message) (more n : ℕ) (left : List ℕ) → n ≡ suc more
    → continuations m n left ≡ filled m Continuation left ∷ continuations m more (drop 232 left)
unfolding continuations
continuations_of m more n left same =
    subst (λ (x : ℕ). continuations m x left ≡ filled m Continuation left ∷ continuations m more (drop 232 left))
    (sym same) refl

-- no continuations are none
continuations_none : (m : Message) (n : ℕ) (left : List ℕ) → n ≡ 0 → continuations m n left ≡ []
unfolding continuations
continuations_none m n left none =
    subst (λ (x : ℕ). continuations m x left ≡ []) (sym none) refl

-- the request is made
pub making_begins : (m : Message) (count : ℕ) → count ≡ further_fragments m.payload
    → IsMaking m count 0 m.payload (filled m Request m.payload ∷ [])
unfolding fragments_of
making_begins m count same = record {
  so_far = subst (λ (x : ℕ). filled m Request m.payload ∷ continuations m x (drop 232 m.payload) ≡ fragments_of m)
      {x = further_fragments m.payload} {y = count - 0} (omega (arith, same)) refl;
}

-- one continuation more is made
pub making_on : (m : Message) (count done : ℕ) (left : List ℕ) (made : List (List ℕ))
    → IsMaking m count done left made → done < count
    → IsMaking m count (done + 1) (drop 232 left) (made ++ filled m Continuation (drop 232 left) ∷ [])
making_on m count done left made so below = record {
  so_far = append_assoc made (filled m Continuation (drop 232 left) ∷ [])
      (continuations m (count - (done + 1)) (drop 232 (drop 232 left)))
      ∙ sym (ap (λ others. made ++ others)
      (continuations_of m (count - (done + 1)) (count - done) (drop 232 left) (omega arith)))
      ∙ so.so_far;
}

-- all continuations are made
pub making_ends : (m : Message) (count done : ℕ) (left : List ℕ) (made : List (List ℕ))
    → IsMaking m count done left made → count ≤ done → made ≡ fragments_of m
making_ends m count done left made so over =
    sym (append-nil made)
    ∙ sym (ap (λ others. made ++ others) (continuations_none m (count - done) (drop 232 left) (omega arith)))
    ∙ so.so_far
