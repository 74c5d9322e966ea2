-- When an entry can be made of the parts.
use Rattle.gh_invariant.specs.Valid.{IsValid}
use Rattle.gh_model.specs.declared.state.State.{State}
use Rattle.gh_parts.specs.Making.{HasRoom}
use Rattle.gh_parts.specs.Stands.{Stands}
use Rattle.gh_parts.specs.declared.parts.Parts.{Parts}

-- the parts stand for a valid state, which has room for an entry
pub record AwaitsEntry (parts : Parts) (s : State) : Type 0 where
  pub stands : Stands parts s
  pub valid : IsValid s
  pub room : HasRoom s
