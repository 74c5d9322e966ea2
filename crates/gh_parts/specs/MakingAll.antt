-- When changes can be made of the parts in their order, which of them want memory, and what is made
-- where memory is wanting.
use Rattle.std.specs.Prelude.{◌≡◌, ◌+◌, ◌<◌, ◌-◌, ◌^◌, ◌∷◌, not, ⊤, ℕ, Bool, true, false, List, []}
use Rattle.std.specs.Prelude.{sum_by, take, slice_get, Option, Some, None, All, IsSomeAnd}
use Rattle.std.specs.List.{list_any}
use Rattle.std.specs.Option.{option_map}
use Rattle.gh_base.specs.declared.kind.Stage.{Stage}
use Rattle.gh_invariant.specs.Effects.{gained, times}
use Rattle.gh_invariant.specs.Premises.{MayChangeAll}
use Rattle.gh_invariant.specs.Valid.{IsValidWithin}
use Rattle.gh_model.specs.Changes.{changed_all, set_stage}
use Rattle.gh_model.specs.References.{references}
use Rattle.gh_model.specs.Rows.{object_row}
use Rattle.gh_model.specs.Room.{new_rings, new_serials}
use Rattle.gh_model.specs.declared.change.Change.{Change}
use Rattle.gh_model.specs.declared.change.Change.TheVariants.{AddCpu, AddExtent, AddLink, AddObject}
use Rattle.gh_model.specs.declared.change.Change.TheVariants.{AddPartition, AddRoot, ConfigureQueue}
use Rattle.gh_model.specs.declared.change.Change.TheVariants.{PutMapping, SetRoom, SetStage}
use Rattle.gh_model.specs.declared.rows.ObjectRow.{ObjectRow}
use Rattle.gh_model.specs.declared.state.State.{State}
use Rattle.gh_msgqueue.specs.Queue.{IsConfigurable}
use Rattle.gh_parts.specs.Making.{CanMake}
use Rattle.gh_parts.specs.Stands.{Stands}
use Rattle.gh_parts.specs.declared.parts.Parts.{Parts}

-- a change that may want memory: it makes an object, a queue's room or a row of a list
abbrev pub wants_memory : Change → Bool
wants_memory (AddObject row) = true
wants_memory (AddPartition quota) = true
wants_memory (AddRoot row) = true
wants_memory (AddExtent row) = true
wants_memory (PutMapping row) = true
wants_memory (SetRoom queue depth size) = true
wants_memory (ConfigureQueue queue depth size cost) = true
wants_memory (AddCpu row) = true
wants_memory (AddLink row) = true
wants_memory _ = false

-- what the parts can have: the extent of no parcel, and a queue that can hold a message
abbrev pub FitsParts : Change → Type 0
FitsParts (AddRoot row) = row.parcel ≡ false
FitsParts (AddExtent row) = row.parcel ≡ false
FitsParts (SetRoom queue depth size) = IsConfigurable depth size
FitsParts (ConfigureQueue queue depth size cost) = IsConfigurable depth size
FitsParts _ = ⊤

-- the change can be made of the parts, and they can have what it makes
pub record IsMakeable (parts : Parts) (s : State) (change : Change) : Type 0 where
  pub can : CanMake parts s change
  pub fits : FitsParts change

-- the counts have room for what changes in order give
pub record HasRoomFor (s : State) (changes : List Change) : Type 0 where
  pub entries : s.entries < 2 ^ 32 - 1
  pub serials : s.next_serial + sum_by new_serials changes < 2 ^ 32 - 1
  pub rings : s.rings + sum_by new_rings changes < 2 ^ 32 - 1
  pub references : (object : ℕ) → 0 < object
      → references s object + times object (gained s changes) < 2 ^ 63

-- changes that can be made in their order
pub record CanMakeAll (parts : Parts) (s : State) (changes : List Change) : Type 0 where
  pub stands : Stands parts s
  pub valid : IsValidWithin s
  pub may : MayChangeAll s changes
  pub room : HasRoomFor s changes
  pub fit : All FitsParts changes

-- the state behind one step more, if there is one
abbrev pub stepped : {X : Type 0} → (State → X → State) → State → Option X → State
stepped step s None = s
stepped step s (Some one) = step s one

-- the changes before one that wants memory are made, and no other
pub record MadeBefore (parts : Parts) (s : State) (changes : List Change) : Type 0 where
  pub made : ℕ
  pub next : IsSomeAnd (slice_get changes made) (λ change. wants_memory change ≡ true)
  pub stands : Stands parts (changed_all s (take made changes))

-- the rows behind a change of stage that comes first, if one does
abbrev pub staged : State → List Change → State
staged s (SetStage object stage ∷ changes) = set_stage object stage s
staged s changes = s

-- the stage that its object has before it
abbrev pub stage_before : State → List Change → Option Stage
stage_before s (SetStage object stage ∷ changes) =
    option_map (λ (row : ObjectRow). row.stage) (object_row s object.0)
stage_before s changes = None

-- its object comes back to a stage
abbrev pub restored : State → List Change → Option Stage → State
restored s (SetStage object stage ∷ changes) (Some before) = set_stage object before s
restored s changes before = s

-- no change but the first wants memory, or but the one behind a change of stage that comes first
abbrev pub wants_first : List Change → Bool
wants_first [] = true
wants_first (change ∷ changes) = not (list_any wants_memory changes)

abbrev pub wants_once : List Change → Bool
wants_once (SetStage object stage ∷ changes) = wants_first changes
wants_once changes = wants_first changes
