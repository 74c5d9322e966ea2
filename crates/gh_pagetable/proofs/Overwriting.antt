-- What writing over a part of a list leaves.
use Rattle.std.proofs.Common.{◌≡◌, ℕ, ◌+◌, ◌<◌, ◌≤◌, List}
use Rattle.std.proofs.Common.{[], ◌++◌, length, take, drop, sym, arith, rules}
use Rattle.std.proofs.lemmas.List.{places, same_lists, append_assoc, take-append-le, drop-append-le}
use Rattle.gh_pagetable.specs.Entry.{overwritten}
use Rattle.gh_pagetable.specs.Map.{Target, IsOutside, at}

pub length-overwritten :
    (ts us : List Target) (first : ℕ)
    → first + length us ≤ length ts → length (overwritten ts first us) ≡ length ts
unfolding overwritten
length-overwritten ts us first within = search (rules, places)

pub overwritten-nil : (ts : List Target) (first : ℕ) → first ≤ length ts → overwritten ts first [] ≡ ts
unfolding overwritten
overwritten-nil ts first within =
    same_lists _ _ (search (rules, places)) (λ k d l. grind (arith, places))

pub overwritten-whole :
    (ts us : List Target) (first : ℕ)
    → length us ≡ length ts → first + length us ≤ length ts → overwritten ts first us ≡ us
unfolding overwritten
overwritten-whole ts us first whole within =
    same_lists _ _ (search (rules, places)) (λ k d l. grind (arith, places))

-- what is written right after what was written
pub overwritten-overwritten :
    (ts us vs : List Target) (first second : ℕ)
    → second ≡ first + length us → second + length vs ≤ length ts
    → overwritten (overwritten ts first us) second vs ≡ overwritten ts first (us ++ vs)
unfolding overwritten
overwritten-overwritten ts us vs first second place within =
    same_lists _ _ (search (rules, places)) (λ k d l. grind (arith, places))

pub overwritten-append_left :
    (ts us vs : List Target) (first : ℕ)
    → first + length us ≤ length ts → overwritten (ts ++ vs) first us ≡ overwritten ts first us ++ vs
unfolding overwritten
overwritten-append_left ts us vs first within =
    let before : first ≤ length ts = omega arith in
    let joined = append_assoc (take first ts ++ us) (drop (first + length us) ts) vs in
    rw (take-append-le, drop-append-le) (sym joined)

pub overwritten-append_right :
    (ts us vs : List Target) (k first : ℕ)
    → first ≡ length ts + k → overwritten (ts ++ vs) first us ≡ ts ++ overwritten vs k us
unfolding overwritten
overwritten-append_right ts us vs k first place =
    same_lists _ _ (search (rules, places)) (λ k d l. grind (arith, places))

pub at-overwritten_inside :
    (ts us : List Target) (first i : ℕ)
    → first + length us ≤ length ts → i < length us → at (overwritten ts first us) (first + i) ≡ at us i
unfolding overwritten
at-overwritten_inside ts us first i within there = grind (arith, places)

pub at-overwritten_outside :
    (ts us : List Target) (first v : ℕ)
    → first + length us ≤ length ts → IsOutside first (length us) v
    → at (overwritten ts first us) v ≡ at ts v
unfolding overwritten
at-overwritten_outside ts us first v within outside = grind (arith, places)
