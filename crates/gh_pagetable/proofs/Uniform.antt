-- Which lists of targets are uniform, and what their entry says.
use Rattle.std.proofs.Common.{◌≡◌, ℕ, zero, suc, ◌<◌, Bool, true, false, ◌&&◌}
use Rattle.std.proofs.Common.{List, [], ◌∷◌, ◌++◌, length, None, Some, is_none}
use Rattle.std.proofs.Common.{if◌then◌else◌, refl, sym, ap, ◌∙◌, arith, one-add}
use Rattle.std.proofs.Math.Bool.{and_assoc, or-false}
use Rattle.std.proofs.lemmas.Bool.{and_parts}
use Rattle.std.proofs.lemmas.Grind.{common_steps}
use Rattle.std.specs.List.{list_all}
use Rattle.gh_base.specs.declared.ids.PageNo.{PageNo}
use Rattle.gh_pagetable.specs.Entry.{descriptor_of, leads_on, run, same_target}
use Rattle.gh_pagetable.specs.Map.{Target, at, continues, further, is_uniform}
use Rattle.gh_pagetable.specs.declared.descriptor.Descriptor.TheVariants.{Uniform, Table}
use Rattle.gh_pagetable.proofs.Runs.{at-run, further-further, further-zero}

same_target-refl : (t : Target) → same_target t t ≡ true
same_target-refl None = refl
same_target-refl (Some t) = grind (arith, common_steps)

same_target-is : (t u : Target) → same_target t u ≡ true → t ≡ u
same_target-is None None same = refl
same_target-is None (Some u) same = cc
same_target-is (Some t) None same = cc
same_target-is (Some t) (Some u) same = grind (arith, common_steps)

leads_on-run : (t : Target) (n : ℕ) → leads_on t (run t n) ≡ true
unfolding run
leads_on-run t zero = refl
leads_on-run t (suc n) = rw same_target-refl (leads_on-run (further t 1) n)

leads_on-is : (t : Target) (us : List Target) → leads_on t us ≡ true → us ≡ run t (length us)
unfolding run
leads_on-is t [] led = refl
leads_on-is t (u ∷ us) led =
    let both = and_parts (same_target t u) (leads_on (further t 1) us) led in
    let same = same_target-is t u both.0 in
    let rest = leads_on-is (further t 1) us both.1 in
    cc

leads_on-append :
    (t : Target) (us vs : List Target)
    → leads_on t (us ++ vs) ≡ (leads_on t us && leads_on (further t (length us)) vs)
leads_on-append t [] vs = rw further-zero
leads_on-append t (u ∷ us) vs =
    let rest = leads_on-append (further t 1) us vs in
    let place = further-further t 1 (length us) in
    rw (rest, place, one-add, and_assoc)

nowhere-leads_on : (us : List Target) → list_all is_none us ≡ leads_on None us
nowhere-leads_on [] = refl
nowhere-leads_on (None ∷ us) = nowhere-leads_on us
nowhere-leads_on (Some u ∷ us) = refl

and_same : (b x y : Bool) → (b ≡ true → x ≡ y) → (b && x) ≡ (b && y)
and_same true x y same = same refl
and_same false x y same = refl

continues-leads_on :
    (t : PageNo × ℕ) (us : List Target) → continues t us ≡ leads_on (further (Some t) 1) us
continues-leads_on t [] = refl
continues-leads_on t (None ∷ us) = refl
continues-leads_on t (Some u ∷ us) =
    let next = further (Some t) 1 in
    let same_rest = λ (same : same_target next (Some u) ≡ true).
    continues-leads_on u us
    ∙ ap (λ (x : Target). leads_on (further x 1) us) (sym (same_target-is next (Some u) same)) in
    and_same (same_target next (Some u)) _ _ same_rest

-- a range is uniform where its pages lead on from its first page's target
is_uniform-leads_on : (ts : List Target) → is_uniform ts ≡ leads_on (at ts 0) ts
unfolding is_uniform
is_uniform-leads_on [] = refl
is_uniform-leads_on (None ∷ us) = rw or-false (nowhere-leads_on us)
is_uniform-leads_on (Some t ∷ us) = rw same_target-refl (continues-leads_on t us)

pub is_uniform-run : (t : Target) (n : ℕ) → is_uniform (run t n) ≡ true
unfolding run
is_uniform-run t zero = is_uniform-leads_on []
is_uniform-run t (suc n) = is_uniform-leads_on (run t (suc n)) ∙ leads_on-run t (suc n)

pub is_uniform-is : (ts : List Target) → is_uniform ts ≡ true → ts ≡ run (at ts 0) (length ts)
is_uniform-is ts uniform = leads_on-is (at ts 0) ts (sym (is_uniform-leads_on ts) ∙ uniform)

pub descriptor_of-run : (t : Target) (n : ℕ) → 0 < n → descriptor_of (run t n) ≡ Uniform t
descriptor_of-run t n some =
    let first = at-run t n 0 some ∙ further-zero t in
    rw (is_uniform-run t n, first)

uniform_choice :
    (b : Bool) (t u : Target) → (if b then Uniform t else Table) ≡ Uniform u → (b ≡ true) × (t ≡ u)
uniform_choice true t u says = (refl, cc)
uniform_choice false t u says = cc

table_choice : (b : Bool) (t : Target) → (if b then Uniform t else Table) ≡ Table → b ≡ false
table_choice true t says = cc
table_choice false t says = refl

-- the targets of a range whose entry says where the first leads
run_of_descriptor :
    (t : Target) (us : List Target) → descriptor_of us ≡ Uniform t → us ≡ run t (length us)
run_of_descriptor t us says =
    let both = uniform_choice (is_uniform us) (at us 0) t says in
    is_uniform-is us both.0 ∙ ap (λ (u : Target). run u (length us)) both.1

-- where the entry of the first part says that it leads on, all leads on as what follows does
pub leads_on_past :
    (t : Target) (us vs : List Target) → descriptor_of us ≡ Uniform t
    → leads_on t (us ++ vs) ≡ leads_on (further t (length us)) vs
leads_on_past t us vs says =
    let all = run_of_descriptor t us says in
    let led : leads_on t us ≡ true = ap (leads_on t) all ∙ leads_on-run t (length us) in
    rw (leads_on-append, led)

not_both : (b c : Bool) → (b ≡ true → ⊥) → (b && c) ≡ false
not_both true c false_only = absurd (false_only refl)
not_both false c false_only = refl

-- where it says anything else, nothing leads on
pub leads_on_not :
    (t : Target) (us vs : List Target) → 0 < length us → (descriptor_of us ≡ Uniform t → ⊥) → leads_on t (us ++ vs) ≡ false
leads_on_not t us vs some other =
    let says = λ (led : leads_on t us ≡ true).
    ap descriptor_of (leads_on-is t us led) ∙ descriptor_of-run t (length us) some in
    rw leads_on-append (not_both _ _ (λ led. other (says led)))

is_uniform-append :
    (us vs : List Target) → 0 < length us → is_uniform us ≡ false → is_uniform (us ++ vs) ≡ false
is_uniform-append [] vs some split = absurd (omega arith)
is_uniform-append (u ∷ us) vs some split =
    let part = sym (is_uniform-leads_on (u ∷ us)) ∙ split in
    is_uniform-leads_on (u ∷ us ++ vs) ∙ leads_on-append u (u ∷ us) vs ∙ rw part

-- where the first part has a table, so has the whole
pub descriptor_of-append :
    (us vs : List Target) → 0 < length us → descriptor_of us ≡ Table → descriptor_of (us ++ vs) ≡ Table
descriptor_of-append us vs some says =
    let split = is_uniform-append us vs some (table_choice (is_uniform us) (at us 0) says) in
    rw split

-- where the first part leads on from a target, the whole is uniform if it does too
pub descriptor_of-first :
    (t : Target) (us vs : List Target) → 0 < length us → descriptor_of us ≡ Uniform t
    → descriptor_of (us ++ vs) ≡ (if leads_on t (us ++ vs) then Uniform t else Table)
descriptor_of-first t [] vs some says = absurd (omega arith)
descriptor_of-first t (u ∷ us) vs some says =
    let first : u ≡ t = (uniform_choice (is_uniform (u ∷ us)) u t says).1 in
    rw (is_uniform-leads_on (u ∷ us ++ vs), first)

-- a page by itself is uniform
pub descriptor_of-one : (t : Target) → descriptor_of (t ∷ []) ≡ Uniform t
unfolding run
descriptor_of-one t = descriptor_of-run t 1 (omega arith)
