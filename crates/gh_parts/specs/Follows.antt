-- Address spaces that follow pages which moved from one extent to another.
use Rattle.std.specs.Prelude.{◌≡◌, ◌≢◌, ◌<◌, ⊤, ℕ, false, List, Option, Some, find, map}
use Rattle.std.specs.List.{list_any}
use Rattle.std.specs.Option.{option_map}
use Rattle.gh_addrspace.specs.Space.{Shows, Space as Mapped}
use Rattle.gh_base.specs.declared.ids.Serial.{Serial}
use Rattle.gh_extent.specs.Extents.{IsTree, is_child_of}
use Rattle.gh_model.specs.Changes.{given_back, without}
use Rattle.gh_model.specs.Rows.{is_extent}
use Rattle.gh_model.specs.declared.memory.Span.{Span}
use Rattle.gh_model.specs.declared.rows.ExtentRow.{ExtentRow}
use Rattle.gh_parts.specs.MappingChanges.{Remaps}
use Rattle.gh_parts.specs.Reclaims.{row_parent}
use Rattle.gh_parts.specs.Shares.{AreShares, body_at, place_at}
use Rattle.gh_parts.specs.Stands.{extent_rows, page_holders}
use Rattle.gh_parts.specs.declared.journal.Memory.{Memory}
use Rattle.gh_parts.specs.declared.journal.Memory.TheVariants.{Bare, Held}
use Rattle.gh_parts.specs.declared.parts.Parts.{Parts}
use Rattle.gh_parts.specs.declared.shares.Place.{Place}

-- an address space keeps its rows, and shows who holds the pages now, if it did before
pub record ShowsOn (before after : List Serial) (old new : Mapped) : Type 0 where
  pub rows : new.mappings ≡ old.mappings
  pub shows : (spans : ℕ → Option Span) → Shows spans before old → Shows spans after new

-- each address space does so, and all else is as it was
pub record SharesFollow (before after : List Serial) (old new : List (List Place)) : Type 0 where
  pub whole : AreShares new
  pub bodies : (index : ℕ) → Remaps (ShowsOn before after) (body_at old index) (body_at new index)
  pub costs : (index : ℕ) → (place_at new index).cost ≡ (place_at old index).cost

-- the extents of the pages go together, once there are extents
abbrev pub HoldsTree : Memory → Type 0
HoldsTree (Bare pages) = ⊤
HoldsTree (Held extents) = IsTree extents

-- the parent of an extent, if it has a row
abbrev pub parent_in : Memory → ℕ → Option Serial
parent_in memory extent = option_map row_parent (find (is_extent extent) (extent_rows memory))

-- an extent that no other is derived of, and that isn't the root
pub record MayReturn (memory : Memory) (extent : ℕ) : Type 0 where
  pub some : 0 < extent
  pub leaf : list_any (is_child_of extent) (extent_rows memory) ≡ false
  pub child : (row : ExtentRow) → find (is_extent extent) (extent_rows memory) ≡ Some row
      → row.parent.0 ≢ 0

-- an extent has no row and no page any more: its pages are its parent's, and the address spaces
-- follow
pub record GivesBack (extent : ℕ) (parent : Serial) (old new : Parts) : Type 0 where
  pub memory : Memory
  pub shares : List (List Place)
  pub rows : extent_rows memory ≡ without (is_extent extent) (extent_rows old.journal.memory)
  pub pages : page_holders memory ≡ map (given_back extent parent) (page_holders old.journal.memory)
  pub follow : SharesFollow (page_holders old.journal.memory) (page_holders memory) old.shares
      shares
  pub parts : new ≡ record old {
    shares = shares;
    journal = record (old.journal) { memory = memory };
  }
