-- The room that changes need in the counts of the state, and the changes that may want memory.
use Rattle.std.specs.Prelude.{◌+◌, ◌-◌, ◌<◌, ◌≤◌, ◌^◌, ℕ, Bool, true, false, List, min, sum_by}
use Rattle.gh_model.specs.declared.change.Change.{Change}
use Rattle.gh_model.specs.declared.change.Change.TheVariants.{PutCapability, DropCapability, RevokeCapability, AddObject, AddExtent, PutMapping, PutMessage, Ring, SetPages, AddPartition, AddRoot, FillSlot, AddCpu, AddLink}
use Rattle.gh_model.specs.declared.state.State.{State}

-- the serials that a change gives
abbrev pub new_serials : Change → ℕ
new_serials (AddObject row) = 1
new_serials (AddPartition quota) = 1
new_serials _ = 0

-- how often a change rings
abbrev pub new_rings : Change → ℕ
new_rings Ring = 1
new_rings _ = 0

-- the settings that a change numbers by the next entry
abbrev pub new_settings : Change → ℕ
new_settings (PutCapability row) = 1
new_settings (DropCapability cspace slot) = 1
new_settings (RevokeCapability cspace slot) = 1
new_settings _ = 0

-- the next entry, where a change sets a slot, and the serials and rings of the changes can be
-- counted in 32 bits. Changes that set no slot, or don't ring, ask nothing of that count
pub record HasRoom (s : State) (changes : List Change) : Type 0 where
  pub entries : min 1 (sum_by new_settings changes) ≤ 2 ^ 32 - 1 - s.entries
  pub serials : s.next_serial + sum_by new_serials changes < 2 ^ 32
  pub rings : sum_by new_rings changes ≤ 2 ^ 32 - 1 - s.rings

-- a change that puts a row or a message, and may want memory for it
abbrev pub takes_memory : Change → Bool
takes_memory (PutCapability row) = true
takes_memory (DropCapability cspace slot) = true
takes_memory (RevokeCapability cspace slot) = true
takes_memory (AddObject row) = true
takes_memory (AddExtent row) = true
takes_memory (PutMapping row) = true
takes_memory (PutMessage queue message) = true
takes_memory (SetPages count) = true
takes_memory (AddPartition quota) = true
takes_memory (AddRoot row) = true
takes_memory (FillSlot row) = true
takes_memory (AddCpu row) = true
takes_memory (AddLink row) = true
takes_memory _ = false
