-- The CPUs of a boot file: no two have one number.
use Rattle.std.proofs.Common.{◌≡◌, ◌≢◌, ◌==◌, ◌&&◌, ◌+◌}
use Rattle.std.proofs.Common.{◌≤◌, ◌∙◌, ℕ, zero, suc, Bool, true, false}
use Rattle.std.proofs.Common.{not, List, [], ◌∷◌, ◌++◌, inl, inr}
use Rattle.std.proofs.Common.{refl, subst, sym, ap, arith, Option, Some, None, slice_get}
use Rattle.std.proofs.Common.{filter, find, IsSome, if◌then◌else◌}
use Rattle.std.specs.Prelude.{count_by, nat_lt, is_some}
use Rattle.std.proofs.lemmas.List.Sums.{sum_by-cons}
use Rattle.std.proofs.lemmas.Bool.Decides.{eqb_tells, nat_tests}
use Rattle.gh_model.specs.declared.boot_line.BootLine.{BootLine}
use Rattle.gh_model.specs.declared.boot_line.BootLine.TheVariants.{Pages, Partition, Cspace}
use Rattle.gh_model.specs.declared.boot_line.BootLine.TheVariants.{Addrspace, Doorbell}
use Rattle.gh_model.specs.declared.boot_line.BootLine.TheVariants.{RootExtent, Extent, Msgqueue}
use Rattle.gh_model.specs.declared.boot_line.BootLine.TheVariants.{Map, Cap, Vm, Rm, Link}
use Rattle.gh_model.specs.declared.rows.CpuRow.{CpuRow}
use Rattle.gh_model.specs.declared.state.State.{State}
use Rattle.gh_model.specs.Rows.{is_cpu}
use Rattle.gh_model.specs.Boot.{line_fits}
use Rattle.gh_model.specs.Boot.{after_line, empty_state, is_vm, vm_count}
use Rattle.gh_model.specs.Fitting.{IsNumbered}
use Rattle.gh_model.proofs.RunLists.{count_snoc}

pub no_item : {X : Type 0} (i : ℕ) (x : X) → slice_get {X = X} [] i ≡ Some x → ⊥
no_item i x is = cc

abbrev pub tally : Bool → ℕ
tally b = if b then 1 else 0

pub one_if : (b : Bool) → b ≡ true → tally b ≡ 1
one_if b is = rw is refl

pub none_if : (b : Bool) → b ≡ false → tally b ≡ 0
none_if b is = rw is refl

pub counts_cons : {X : Type 0} (p : X → Bool) (x : X) (xs : List X) → count_by p (x ∷ xs) ≡ tally (p x) + count_by p xs
counts_cons p x xs = sum_by-cons (λ y. tally (p y)) x xs

pub unfound_by : {X : Type 0} (p : X → Bool) (z : X) (xs : List X) (here : Bool) → p z ≡ here → (if here then Some z else find p xs) ≡ None → (find p xs ≡ None → count_by p xs ≡ 0) → tally here + count_by p xs ≡ 0
unfound_by p z xs true passes none others = absurd (let never : ⊥ = cc in never)
unfound_by p z xs false fails none others = let rest : count_by p xs ≡ 0 = others none in omega arith

-- what isn't found isn't counted
pub unfound_none : {X : Type 0} (p : X → Bool) (xs : List X) → find p xs ≡ None → count_by p xs ≡ 0
unfound_none p [] none = refl
unfound_none p (z ∷ xs) none =
    counts_cons p z xs ∙ unfound_by p z xs (p z) refl none (λ rest. unfound_none p xs rest)

pub some_by : {X : Type 0} (p : X → Bool) (z : X) (xs : List X) (here : Bool) → p z ≡ here → IsSome (if◌then◌else◌ {A = Option X} here (Some z) (find p xs)) → (IsSome (find p xs) → 1 ≤ count_by p xs) → 1 ≤ tally here + count_by p xs
some_by p z xs true passes some others = omega arith
some_by p z xs false fails some others = let more : 1 ≤ count_by p xs = others some in omega arith

-- what is found is counted
pub found_counts : {X : Type 0} (p : X → Bool) (xs : List X) → IsSome (find p xs) → 1 ≤ count_by p xs
found_counts p [] some = absurd (let never : ⊥ = cc in never)
found_counts p (z ∷ xs) some =
    subst (λ (n : ℕ). 1 ≤ n) (sym (counts_cons p z xs)) (some_by p z xs (p z) refl some (λ rest. found_counts p xs rest))

-- an item of a list stands in it
pub record Stands {X : Type 0} (xs : List X) (x : X) : Type 0 where
  pub at : ℕ
  pub is : slice_get xs at ≡ Some x

pub stands_later : {X : Type 0} (z : X) (xs : List X) (x : X) → Stands xs x → Stands (z ∷ xs) x
stands_later z xs x stands = record { at = suc stands.at; is = stands.is }

pub filtered_by : {X : Type 0} (p : X → Bool) (z : X) (xs : List X) (here : Bool) (i : ℕ) (x : X) → slice_get (if here then z ∷ filter p xs else filter p xs) i ≡ Some x → ((j : ℕ) → slice_get (filter p xs) j ≡ Some x → Stands xs x) → Stands (z ∷ xs) x
filtered_by p z xs true zero x is others = record { at = 0; is = is }
filtered_by p z xs true (suc i) x is others = stands_later z xs x (others i is)
filtered_by p z xs false i x is others = stands_later z xs x (others i is)

-- an item of a filtered list stands in the list
pub from_filter : {X : Type 0} (p : X → Bool) (xs : List X) (i : ℕ) (x : X) → slice_get (filter p xs) i ≡ Some x → Stands xs x
from_filter p [] i x is = absurd (no_item i x is)
from_filter p (z ∷ xs) i x is = filtered_by p z xs (p z) i x is (λ j also. from_filter p xs j x also)

pub once_more_cpu : (n : ℕ) (row : CpuRow) (rows : List CpuRow) → count_by (is_cpu n) rows ≤ 1 → count_by (is_cpu row.cpu.0) rows ≡ 0 → count_by (is_cpu n) (rows ++ row ∷ []) ≤ 1
once_more_cpu n row rows once none =
    let all : count_by (is_cpu n) (rows ++ row ∷ []) ≡ count_by (is_cpu n) rows + tally (row.cpu.0 == n) = count_snoc (is_cpu n) rows row in
    elim (eqb_tells row.cpu.0 n) as (λ _. count_by (is_cpu n) (rows ++ row ∷ []) ≤ 1) [
      | inl same ↦ let here : tally (row.cpu.0 == n) ≡ 1 = one_if (row.cpu.0 == n) same.0 in let empty : count_by (is_cpu n) rows ≡ 0 = subst (λ (m : ℕ). count_by (is_cpu m) rows ≡ 0) same.1 none in omega arith
      | inr differs ↦ let other : tally (row.cpu.0 == n) ≡ 0 = none_if (row.cpu.0 == n) differs.0 in omega arith
    ]

pub none_more_cpu : (n : ℕ) (row : CpuRow) (rows : List CpuRow) → count_by (is_cpu n) rows ≡ 0 → row.cpu.0 ≢ n → count_by (is_cpu n) (rows ++ row ∷ []) ≡ 0
none_more_cpu n row rows none differs =
    let all : count_by (is_cpu n) (rows ++ row ∷ []) ≡ count_by (is_cpu n) rows + tally (row.cpu.0 == n) = count_snoc (is_cpu n) rows row in
    let other : tally (row.cpu.0 == n) ≡ 0 = none_if (row.cpu.0 == n) (grind (arith, nat_tests)) in
    omega arith

pub unfound_cpu : (o : Option CpuRow) → not (is_some o) ≡ true → o ≡ None
unfound_cpu None is = refl
unfound_cpu (Some row) is = absurd (let never : ⊥ = cc in never)

pub first_of_four : (a b c d : Bool) → (a && b && c && d) ≡ true → a ≡ true
first_of_four true b c d all = refl
first_of_four false b c d all = absurd (let never : ⊥ = cc in never)

pub line_numbered : (s : State) (line : BootLine) → line_fits s line ≡ true → IsNumbered s → IsNumbered (after_line s line)
line_numbered s (Pages count) fits h = record { once = h.once; beyond = h.beyond }
line_numbered s (Partition quota) fits h = record { once = h.once; beyond = h.beyond }
line_numbered s (Cspace partition) fits h = record { once = h.once; beyond = h.beyond }
line_numbered s (Addrspace partition) fits h = record { once = h.once; beyond = h.beyond }
line_numbered s (Doorbell partition) fits h = record { once = h.once; beyond = h.beyond }
line_numbered s (RootExtent partition) fits h = record { once = h.once; beyond = h.beyond }
line_numbered s (Extent partition parent offset count access held_offset held_count) fits h = record { once = h.once; beyond = h.beyond }
line_numbered s (Msgqueue partition depth size) fits h = record { once = h.once; beyond = h.beyond }
line_numbered s (Map space extent base offset count access) fits h = record { once = h.once; beyond = h.beyond }
line_numbered s (Cap cspace slot object rights master) fits h = record { once = h.once; beyond = h.beyond }
line_numbered s (Vm cspace space) fits h =
    let row : CpuRow = record { cpu = record { 0 = vm_count s + 1 }; cspace = record { 0 = cspace.0 }; space = record { 0 = space.0 }; exited = false } in
    let more : vm_count (after_line s (Vm cspace space)) ≡ vm_count s + 1 = count_snoc is_vm s.cpus row ∙ ap (λ (n : ℕ). vm_count s + n) (one_if (nat_lt 0 (vm_count s + 1)) (grind (arith, nat_tests))) in
    record {
      once = λ n. once_more_cpu n row s.cpus (h.once n) (h.beyond (vm_count s + 1) (omega arith));
      beyond = λ n behind. none_more_cpu n row s.cpus (h.beyond n (omega arith)) (λ same. omega arith);
    }
line_numbered s (Rm cspace space partition) fits h =
    let row : CpuRow = record { cpu = record { 0 = 0 }; cspace = record { 0 = cspace.0 }; space = record { 0 = space.0 }; exited = false } in
    let none : find (is_cpu 0) s.cpus ≡ None = unfound_cpu (find (is_cpu 0) s.cpus) (first_of_four _ _ _ _ fits) in
    let more : vm_count (after_line s (Rm cspace space partition)) ≡ vm_count s = count_snoc is_vm s.cpus row ∙ (let sum : vm_count s + 0 ≡ vm_count s = omega arith in sum) in
    record {
      once = λ n. once_more_cpu n row s.cpus (h.once n) (unfound_none (is_cpu 0) s.cpus none);
      beyond = λ n behind. none_more_cpu n row s.cpus (h.beyond n (omega arith)) (λ same. omega arith);
    }
line_numbered s (Link vm extent request reply) fits h = record { once = h.once; beyond = h.beyond }

pub empty_numbered : IsNumbered empty_state
empty_numbered = record { once = λ n. let none : count_by (is_cpu n) [] ≡ 0 = refl in omega arith; beyond = λ n behind. refl }
