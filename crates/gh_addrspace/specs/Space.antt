-- An address space as callers see it: its mapping rows, in the order in which they were made, and
-- where each of its pages leads.
use Rattle.std.specs.Prelude.{◌≡◌, ◌==◌, ◌&&◌, ◌+◌}
use Rattle.std.specs.Prelude.{not, ℕ, Bool, true, false, List, []}
use Rattle.std.specs.Prelude.{◌∷◌, ◌++◌, length, map, find, Option, Some}
use Rattle.std.specs.Prelude.{None, IsSomeAnd, nat_le, nat_lt, All, if◌then◌else◌}
use Rattle.std.specs.List.{list_any}
use Rattle.std.specs.Option.{option_map}
use Rattle.gh_base.specs.declared.access.Access.{Access}
use Rattle.gh_base.specs.declared.errno.Errno.{Errno}
use Rattle.gh_base.specs.declared.errno.Errno.TheVariants.{AddrInval, AddrOvfl, ArgSize}
use Rattle.gh_base.specs.declared.errno.Errno.TheVariants.{Busy, Denied, Nomem}
use Rattle.gh_base.specs.declared.ids.PageNo.{PageNo}
use Rattle.gh_base.specs.declared.ids.Serial.{Serial}
use Rattle.gh_base.specs.declared.limits.TheConstants.{SPACE_PAGES, SPACE_ROWS}
use Rattle.gh_addrspace.specs.Rows.{IsBounded, covering, covers, in_run, is_chosen, is_covered}
use Rattle.gh_addrspace.specs.Rows.{mapping_of, others, overlaps, page_at, target_at}
use Rattle.gh_addrspace.specs.declared.mapping.Chosen.{Chosen}
use Rattle.gh_addrspace.specs.declared.mapping.Mapping.{Mapping}
use Rattle.gh_model.specs.Boot.{access_fits}
use Rattle.gh_model.specs.Memory.{access_of, held_access}
use Rattle.gh_model.specs.declared.memory.MapRow.{MapRow}
use Rattle.gh_model.specs.declared.memory.Span.{Span}
use Rattle.gh_pagetable.specs.Map.{Target, at}

-- an address space: its mapping rows, and where each of its pages leads
pub record Space : Type 0 where
  pub mappings : List Mapping
  pub pages : List Target

-- the mapping rows
abbrev pub rows_of : Space → List MapRow
rows_of s = map (λ m. m.row) s.mappings

-- the row that covers a page
abbrev pub row_at : Space → ℕ → Option MapRow
row_at s v = option_map (λ m. m.row) (covering s.mappings v)

-- the first row that is chosen
abbrev pub chosen_row : Chosen → Space → Option MapRow
chosen_row chosen s = option_map (λ m. m.row) (find (is_chosen chosen) s.mappings)

-- the access with this number
abbrev pub with_access : PageNo × ℕ → PageNo × Access
with_access t = (t.0, record { 0 = t.1 })

-- the machine page and the access at a page
abbrev pub lookup_at : Space → ℕ → Option (PageNo × Access)
lookup_at s v = option_map with_access (at s.pages v)

-- at most one row passes the test
abbrev pub at_most_one : (Mapping → Bool) → List Mapping → Bool
at_most_one test [] = true
at_most_one test (m ∷ ms) = if test m then not (list_any test ms) else at_most_one test ms

-- how the rows and the pages go together: each row lies in the space, each page is covered by one
-- row at most, and no page leads anywhere that no row covers
pub record IsSpace (s : Space) : Type 0 where
  pub bounded : All IsBounded s.mappings
  pub apart : (v : ℕ) → at_most_one (covers v) s.mappings ≡ true
  pub bare : (v : ℕ) → is_covered s.mappings v ≡ false → at s.pages v ≡ None
  pub size : length s.pages ≡ SPACE_PAGES

-- no row, and no page that leads anywhere
pub record IsEmptySpace (s : Space) : Type 0 where
  pub rows : s.mappings ≡ []
  pub pages : (v : ℕ) → at s.pages v ≡ None

-- a row begins at the machine page that its extent's span and its offset name
abbrev pub IsNamed : (ℕ → Option Span) → Mapping → Type 0
IsNamed spans m =
    IsSomeAnd (spans m.row.extent.0) (λ span. m.page.0 ≡ span.first.0 + m.row.offset)

-- each page leads where the row that covers it says, by the extents' spans and the pages' holders
pub record Shows (spans : ℕ → Option Span) (holders : List Serial) (s : Space) : Type 0 where
  pub named : All (IsNamed spans) s.mappings
  pub access : (v : ℕ) → at s.pages v ≡ access_of spans holders (rows_of s) v

-- map

-- why a row can't be mapped: it passes the space's end, or the extent's span, or its access is more
-- than the extent's, or it overlaps a row, or there are as many rows as there can be
abbrev pub span_map_refusal : Space → MapRow → Option Span → Option Errno
span_map_refusal s row None = None
span_map_refusal s row (Some span) =
    if nat_lt SPACE_PAGES (row.base + row.count) then Some AddrOvfl
    else if nat_lt span.count (row.offset + row.count) then Some ArgSize
    else if not (access_fits row.access.0 span.access.0) then Some Denied
    else if list_any (overlaps row) s.mappings then Some Busy
    else if nat_le SPACE_ROWS (length s.mappings) then Some Nomem else None

-- the rows with a new one last; each page of it leads to its machine page where the extent holds
-- that, and every other page where it did
pub record Maps (old new : Space) (holders : List Serial) (m : Mapping) : Type 0 where
  pub rows : new.mappings ≡ old.mappings ++ m ∷ []
  pub pages : (v : ℕ) → at new.pages v
      ≡ (if covers v m then held_access holders m.row (page_at m v) else at old.pages v)

-- the row of the map is the new one, by its extent's span
abbrev pub MapsIn : Space → Space → List Serial → MapRow → Option Span → Type 0
MapsIn old new holders row span =
    IsSomeAnd span (λ span. Maps old new holders (mapping_of row span))

-- unmap and clear

-- why there is nothing to unmap: no row of the map call is of these pages
abbrev pub unmap_refusal : Space → Chosen → Option Errno
unmap_refusal s chosen = if list_any (is_chosen chosen) s.mappings then None else Some AddrInval

-- these rows are left; a page that one of them covers leads where it did, and any other nowhere
pub record Leaves (old new : Space) (left : List Mapping) : Type 0 where
  pub rows : new.mappings ≡ left
  pub pages : (v : ℕ) → at new.pages v ≡ (if is_covered left v then at old.pages v else None)

-- the rows that aren't chosen are left
abbrev pub LeavesOthers : Space → Space → Chosen → Type 0
LeavesOthers old new chosen = Leaves old new (others chosen old.mappings)

-- moved

-- where a page leads once the machine page that its row names has moved: there if it moved to the
-- row's extent, nowhere if it left that extent, and else where it did
abbrev pub followed_in : ℕ → ℕ → ℕ → Mapping → Target → Target
followed_in from to v m t =
    if m.row.extent.0 == to then target_at m v
    else if m.row.extent.0 == from then None else t

-- where a page leads once a run of machine pages has moved from one extent to another: elsewhere
-- only where the row covers it and names a page of the run
abbrev pub followed : ℕ → ℕ → ℕ → ℕ → ℕ → Mapping → Target → Target
followed from to first count v m t =
    if covers v m && in_run first count (page_at m v) then followed_in from to v m t else t

-- the same, for one row after another
abbrev pub follows : ℕ → ℕ → ℕ → ℕ → ℕ → Target → Mapping → Target
follows from to first count v t m = followed from to first count v m t

-- where a page leads once machine pages have moved, by the row that covers it
abbrev pub followed_by :
    ℕ → ℕ → ℕ → ℕ → ℕ → Option Mapping → Target → Target
followed_by from to first count v None t = t
followed_by from to first count v (Some m) t = followed from to first count v m t

-- the rows stay, and each page follows the machine page that its row names
pub record Follows (old new : Space) (from to first count : ℕ) : Type 0 where
  pub rows : new.mappings ≡ old.mappings
  pub pages : (v : ℕ) → at new.pages v
      ≡ followed_by from to first count v (covering old.mappings v) (at old.pages v)
