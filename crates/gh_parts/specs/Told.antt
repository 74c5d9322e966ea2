-- What changes in order give and take, told before the first of them is made.
use Rattle.std.specs.Prelude.{◌≡◌, ◌≤◌, List, length}
use Rattle.std.specs.List.{flat_map}
use Rattle.gh_invariant.specs.Effects.{gained, gains, losses, lost}
use Rattle.gh_model.specs.declared.change.Change.{Change}
use Rattle.gh_model.specs.declared.state.State.{State}
use Rattle.gh_parts.specs.declared.referred.TheConstants.{REFERRED}

-- each change gives and takes in the state that those before it made what it gives and takes in the
-- first, and all of them give and take few references
pub record AreTold (s : State) (changes : List Change) : Type 0 where
  pub gives : flat_map (gains s) changes ≡ gained s changes
  pub takes : flat_map (losses s) changes ≡ lost s changes
  pub gives_few : length (gained s changes) ≤ REFERRED
  pub takes_few : length (lost s changes) ≤ REFERRED
