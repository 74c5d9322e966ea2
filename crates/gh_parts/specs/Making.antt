-- When a change can be made of the parts: they stand for rows of a valid state in the midst of an
-- entry, which the change may be made of.
use Rattle.std.specs.Prelude.{◌≡◌, ◌<◌, ◌-◌, ◌^◌, ℕ, true}
use Rattle.gh_invariant.specs.Lives.{lives}
use Rattle.gh_invariant.specs.Premises.{MayChange}
use Rattle.gh_invariant.specs.Valid.{IsValidWithin}
use Rattle.gh_model.specs.References.{references}
use Rattle.gh_model.specs.declared.change.Change.{Change}
use Rattle.gh_model.specs.declared.state.State.{State}
use Rattle.gh_parts.specs.Stands.{Stands}
use Rattle.gh_parts.specs.declared.parts.Parts.{Parts}

-- entries, serials and rings are numbers of 32 bits, with one more, and the references of what
-- lives are numbers of 63
pub record HasRoom (s : State) : Type 0 where
  pub entries : s.entries < 2 ^ 32 - 1
  pub serials : s.next_serial < 2 ^ 32 - 1
  pub rings : s.rings < 2 ^ 32 - 1
  pub references : (object : ℕ) → lives s.objects object ≡ true → references s object < 2 ^ 63

pub record CanMake (parts : Parts) (s : State) (change : Change) : Type 0 where
  pub stands : Stands parts s
  pub valid : IsValidWithin s
  pub may : MayChange s change
  pub room : HasRoom s
