-- How a page table lies: an entry says that its range of pages is uniform, or that its table has
-- 16 entries which say more.
use Rattle.std.specs.Prelude.{◌≡◌, ℕ, ◌+◌, ◌*◌, ◌≤◌, ◌==◌, ◌&&◌}
use Rattle.std.specs.Prelude.{⊤, Bool, true, false, zero, suc, List, [], ◌∷◌, ◌++◌}
use Rattle.std.specs.Prelude.{length, take, drop, Some, None, All, sum_by, if◌then◌else◌}
use Rattle.std.specs.List.{flat_map}
use Rattle.gh_pagetable.specs.Map.{Target, at, further, is_uniform, ranges}
use Rattle.gh_pagetable.specs.declared.descriptor.TheConstants.{NUMBERED_PAGES}
use Rattle.gh_pagetable.specs.declared.table.TheConstants.{ENTRIES}
use Rattle.gh_pagetable.specs.declared.descriptor.Descriptor.{Descriptor}
use Rattle.gh_pagetable.specs.declared.descriptor.Descriptor.TheVariants.{Uniform, Table}

-- the targets of n pages in a row, from t on
unfoldable pub run : Target → ℕ → List Target
run t zero = []
run t (suc n) = t ∷ run (further t 1) n

-- the targets once others are written over them, from the first page on
unfoldable pub overwritten : List Target → ℕ → List Target → List Target
overwritten ts first us = take first ts ++ us ++ drop (first + length us) ts

-- the n machine pages from that of t on have numbers
abbrev pub AreNumbered : Target → ℕ → Type 0
AreNumbered None n = ⊤
AreNumbered (Some t) n = t.0.0 + n ≤ NUMBERED_PAGES

-- whether two pages lead to the same place
abbrev pub same_target : Target → Target → Bool
same_target None None = true
same_target None (Some u) = false
same_target (Some t) None = false
same_target (Some t) (Some u) = (t.0.0 == u.0.0) && (t.1 == u.1)

-- whether pages in a row lead to the targets from t on
abbrev pub leads_on : Target → List Target → Bool
leads_on t [] = true
leads_on t (u ∷ us) = same_target t u && leads_on (further t 1) us

-- what the entry of a range says
abbrev pub descriptor_of : List Target → Descriptor
descriptor_of ts = if is_uniform ts then Uniform (at ts 0) else Table

-- the n machine pages of a block have numbers
abbrev pub BlockIsNumbered : Descriptor → ℕ → Type 0
BlockIsNumbered (Uniform t) n = AreNumbered t n
BlockIsNumbered Table n = ⊤

-- a block's machine pages have numbers, and a table is in use only where the range isn't uniform
abbrev pub IsCanonical : ℕ → Descriptor → List Target → Type 0
IsCanonical n (Uniform t) below = AreNumbered t n
IsCanonical n Table below = is_uniform below ≡ false

-- where the n pages of a range lead: where its entry says, or else its table
abbrev pub shown : ℕ → Descriptor → List Target → List Target
shown n (Uniform t) below = run t n
shown n Table below = below

-- the tables of a range whose table has entries of n pages: its own and theirs, or none
abbrev pub tables_below : (List Target → ℕ) → ℕ → List Target → ℕ
tables_below tables_in n ts =
    if is_uniform ts then 0 else 1 + sum_by tables_in (ranges n ENTRIES ts)

-- of tables whose entries cover n pages each
module _ {E : Type 0} (targets : E → List Target) (n : ℕ) where
  -- each of the entries covers n pages
  abbrev pub AllCover : List E → Type 0
  AllCover es = All (λ e. length (targets e) ≡ n) es

  -- a table has 16 entries, and each covers n pages
  pub record IsTable (es : List E) : Type 0 where
    pub count : length es ≡ ENTRIES
    pub cover : AllCover es

  -- an entry has room for its table, which is in use exactly where the range isn't uniform
  pub record IsExact (descriptor : Descriptor) (es : List E) : Type 0 where
    pub table : IsTable es
    pub canonical : IsCanonical (ENTRIES * n) descriptor (flat_map targets es)

  -- where the pages of the entry of a table lead
  abbrev pub targets_of : Descriptor → List E → List Target
  targets_of descriptor es = shown (ENTRIES * n) descriptor (flat_map targets es)
