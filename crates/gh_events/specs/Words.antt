-- The capability words of a configuration: each slot shows what the present state has in it.
use Rattle.std.specs.Prelude.{◌≡◌, ◌<◌, ℕ, false, Some, None}
use Rattle.gh_base.specs.CapWord.{settings}
use Rattle.gh_base.specs.declared.limits.TheConstants.{OBJECT_INDICES}
use Rattle.gh_model.specs.Rows.{cpu_row}
use Rattle.gh_model.specs.Word.{word_at}
use Rattle.gh_model.specs.declared.rows.CapabilityRow.{CapabilityRow}
use Rattle.gh_model.specs.declared.rows.CpuRow.{CpuRow}
use Rattle.gh_events.specs.Config.{Config, present}
use Rattle.gh_events.specs.Entries.{shown}

-- a slot's word is the one of the present state, with its object's index
abbrev pub ShowsSlot : Config → ℕ → ℕ → Type 0
ShowsSlot conf cspace slot =
    (conf.cap (conf.index cspace) slot).0 ≡ shown conf.index (word_at (present conf) cspace slot)

-- each slot shows what the present state has in it
pub record ShowsWords (conf : Config) : Type 0 where
  -- a filled slot, and any slot in the space of a CPU that hasn't exited, shows its word
  pub filled : (cspace slot : ℕ) (row : CapabilityRow)
      → (word_at (present conf) cspace slot).row ≡ Some row → ShowsSlot conf cspace slot
  pub attached : (cpu slot : ℕ) (row : CpuRow) → cpu_row (present conf) cpu ≡ Some row
      → row.exited ≡ false → ShowsSlot conf row.cspace.0 slot
  -- a word at an index where no capability space has the slot filled is some setting
  pub empty : (at slot : ℕ)
      → ((cspace : ℕ) → conf.index cspace ≡ at → (word_at (present conf) cspace slot).row ≡ None)
      → (conf.cap at slot).0 < settings
  -- the object of a filled slot, revoked or not, has an index that there is
  pub within : (cspace slot : ℕ) (row : CapabilityRow)
      → (word_at (present conf) cspace slot).row ≡ Some row
      → conf.index row.serial.0 < OBJECT_INDICES

-- the number of each entry fits into a word as a setting
abbrev pub HasRoom : Config → Type 0
HasRoom conf = (present conf).entries < settings
