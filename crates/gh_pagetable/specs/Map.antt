-- What callers see of a page table: where each page of the address space leads, and how many tables
-- that takes.
use Rattle.std.specs.Prelude.{◌≡◌, ℕ, ◌+◌, ◌/◌, ◌<◌, ◌≤◌}
use Rattle.std.specs.Prelude.{◌==◌, ◌&&◌, ◌||◌, ◌⊎◌, not, Bool, true}
use Rattle.std.specs.Prelude.{false, zero, suc, List, [], ◌∷◌, length, take, drop}
use Rattle.std.specs.Prelude.{Option, Some, None, is_none, slice_index_or, count_by}
use Rattle.std.specs.List.{list_all}
use Rattle.gh_base.specs.declared.ids.PageNo.{PageNo}
use Rattle.gh_base.specs.declared.limits.TheConstants.{SPACE_PAGES}

-- where a page leads: nowhere, or to a machine page with a mode
abbrev pub Target : Type 0
Target = Option (PageNo × ℕ)

-- where page v leads; the pages of a map are numbered from 0
abbrev pub at : List Target → ℕ → Target
at map v = slice_index_or map v None

-- none of the pages of the address space leads anywhere
pub record IsEmpty (map : List Target) : Type 0 where
  pub size : length map ≡ SPACE_PAGES
  pub empty : (v : ℕ) → at map v ≡ None

-- the target k pages further on: the machine page is k further on, and the mode is the same
abbrev pub further : Target → ℕ → Target
further None k = None
further (Some t) k = Some (record { 0 = t.0.0 + k }, t.1)

-- v isn't one of the pages of the run
abbrev pub IsOutside : ℕ → ℕ → ℕ → Type 0
IsOutside first count v = (v < first) ⊎ (first + count ≤ v)

-- each page of the run leads as far from the target as it stands from the first, and all else stays
pub record SetsRun (old new : List Target) (first count : ℕ) (target : Target) : Type 0 where
  pub changed : (i : ℕ) → i < count → at new (first + i) ≡ further target i
  pub others : (v : ℕ) → IsOutside first count v → at new v ≡ at old v
  pub size : length new ≡ length old

-- each page of the run is mapped to its machine page with the mode, and all else stays
abbrev pub MapsRun : List Target → List Target → ℕ → ℕ → PageNo → ℕ → Type 0
MapsRun old new first count page mode = SetsRun old new first count (Some (page, mode))

-- no page of the run is mapped, and all else stays
abbrev pub ClearsRun : List Target → List Target → ℕ → ℕ → Type 0
ClearsRun old new first count = SetsRun old new first count None

-- whether pages lead to the machine pages after that of t, one after another, with its mode
abbrev pub continues : (PageNo × ℕ) → List Target → Bool
continues t [] = true
continues t (None ∷ us) = false
continues t (Some u ∷ us) = (t.0.0 + 1 == u.0.0) && (t.1 == u.1) && continues u us

-- whether all pages are mapped, to consecutive machine pages with one mode
abbrev pub is_block : List Target → Bool
is_block [] = false
is_block (None ∷ us) = false
is_block (Some t ∷ us) = continues t us

-- whether none of the pages is mapped, or all are, to consecutive machine pages with one mode
unfoldable pub is_uniform : List Target → Bool
is_uniform ts = list_all is_none ts || is_block ts

-- the first count ranges of so many pages each
unfoldable pub ranges : ℕ → ℕ → List Target → List (List Target)
ranges pages zero map = []
ranges pages (suc count) map = take pages map ∷ ranges pages count (drop pages map)

-- how many of the aligned ranges of so many pages aren't uniform
abbrev pub split_ranges : ℕ → List Target → ℕ
split_ranges pages map =
    count_by (λ range. not (is_uniform range)) (ranges pages (length map / pages) map)

-- the pages that an entry of the top table covers
abbrev pub top_pages : ℕ
top_pages = 256

-- the pages that an entry of a second table covers
abbrev pub second_pages : ℕ
second_pages = 16

-- a table for each range of a top entry that isn't uniform, and for each of a second entry
abbrev pub tables_of : List Target → ℕ
tables_of map = split_ranges top_pages map + split_ranges second_pages map
