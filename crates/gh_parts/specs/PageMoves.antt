-- How the parts change where a run of pages moves from one extent to another: every address space
-- follows.
use Rattle.std.specs.Prelude.{◌≡◌, ◌+◌, ◌≤◌, ℕ, List, [], Option, IsSome, length, find, slice_index_or}
use Rattle.gh_base.specs.declared.ids.Serial.{Serial}
use Rattle.gh_base.specs.declared.limits.TheConstants.{MACHINE_PAGES}
use Rattle.gh_addrspace.specs.Space.{Shows, Space as Mapped}
use Rattle.gh_extent.specs.Extents.{Extents, HasRow, moved}
use Rattle.gh_model.specs.Changes.{move_pages}
use Rattle.gh_model.specs.Memory.{HoldsRun}
use Rattle.gh_model.specs.Rows.{is_extent}
use Rattle.gh_model.specs.declared.memory.Span.{Span}
use Rattle.gh_model.specs.declared.state.State.{State}
use Rattle.gh_parts.specs.MappingChanges.{Remaps}
use Rattle.gh_parts.specs.MemoryChanges.{with_memory}
use Rattle.gh_parts.specs.Shares.{place_in}
use Rattle.gh_parts.specs.declared.journal.Memory.{Memory}
use Rattle.gh_parts.specs.declared.journal.Memory.TheVariants.{Bare, Held}
use Rattle.gh_parts.specs.declared.parts.Parts.{Parts}
use Rattle.gh_parts.specs.declared.shares.Place.{Place}

-- an address space's rows stay, and it shows who holds the pages, once the run has moved
pub record Follows (from : ℕ) (to : Serial) (first count : ℕ) (old new : Mapped) : Type 0 where
  pub rows : new.mappings ≡ old.mappings
  pub shows : (spans : ℕ → Option Span) (holders : List Serial) → Shows spans holders old
      → HoldsRun holders from first count
      → Shows spans (move_pages first count to holders) new

-- the cost at a place stays, and an address space there has changed so
pub record PlaceChanges (change : Mapped → Mapped → Type 0) (old new : Place) : Type 0 where
  pub cost : new.cost ≡ old.cost
  pub body : Remaps change old.body new.body

-- and so at each place of a share
pub record ShareChanges (change : Mapped → Mapped → Type 0) (old new : List Place) : Type 0 where
  pub places : length new ≡ length old
  pub each : (at : ℕ) → PlaceChanges change (place_in old at) (place_in new at)

-- and of all shares
pub record SharesChange (change : Mapped → Mapped → Type 0) (old new : List (List Place))
    : Type 0 where
  pub shares : length new ≡ length old
  pub each : (at : ℕ)
      → ShareChanges change (slice_index_or old at []) (slice_index_or new at [])

-- the extent holds the run, and the other has a row
pub record GivesIn (extents : Extents) (from to first count : ℕ) : Type 0 where
  pub run : HoldsRun extents.holders from first count
  pub row : HasRow extents to

abbrev pub Gives : Memory → ℕ → ℕ → ℕ → ℕ → Type 0
Gives (Bare pages) from to first count = ⊥
Gives (Held extents) from to first count = GivesIn extents from to first count

-- the pages with another holder of the run
abbrev pub with_run : ℕ → ℕ → Serial → Memory → Memory
with_run first count to (Bare pages) = Bare pages
with_run first count to (Held extents) = Held (moved extents first count to)

-- the run has another holder, and every address space has followed
pub record MovesRun (from : ℕ) (to : Serial) (first count : ℕ) (old new : Parts) : Type 0 where
  pub shares : SharesChange (Follows from to first count) old.shares new.shares
  pub parts : new
      ≡ record (with_memory (with_run first count to old.journal.memory) old) {
        shares = new.shares;
      }

-- the run is one of the machine's, which has few pages, and the new holder has a row
pub record CanMove (s : State) (first count : ℕ) (holder : Serial) : Type 0 where
  pub within : first + count ≤ length s.holders
  pub few : length s.holders ≤ MACHINE_PAGES
  pub to : IsSome (find (is_extent holder.0) s.extents)
