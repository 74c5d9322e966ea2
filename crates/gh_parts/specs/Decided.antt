-- That the parts can make what an act comes to.
use Rattle.std.specs.Prelude.{◌≡◌, ◌≤◌, true, List, All, length}
use Rattle.gh_model.specs.declared.change.Change.{Change}
use Rattle.gh_parts.specs.MakingAll.{FitsParts, wants_once}

-- at most three changes, of which only one wants memory, and which the parts can have
pub record SuitsParts (changes : List Change) : Type 0 where
  pub once : wants_once changes ≡ true
  pub fit : All FitsParts changes
  pub few : length changes ≤ 3
