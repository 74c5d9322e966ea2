-- What a step of the running machine answers.
use Rattle.std.specs.Prelude.{◌≡◌, Bool, true, false, Option, Some, None}
use Rattle.gh_core.specs.Running.{stands_for}
use Rattle.gh_core.specs.declared.config.Running.{Running}
use Rattle.gh_events.specs.Config.{Config}
use Rattle.gh_events.specs.Events.{Possible, after}
use Rattle.gh_events.specs.declared.event.Event.{Event}

-- the event isn't possible
pub record IsImpossible (conf : Config) (event : Event) : Type 0 where
  pub never : Possible conf event → ⊥

-- the event is possible, and the next configuration is the one behind it
pub record IsStep (conf : Config) (event : Event) (next : Config) : Type 0 where
  pub possible : Possible conf event
  pub behind : next ≡ after conf event

-- whether the event was made: not exactly where it isn't possible
abbrev pub Did : Config → Event → Bool → Config → Type 0
Did conf event false next = IsImpossible conf event
Did conf event true next = IsStep conf event next

-- the tables behind a step, none exactly where the event isn't possible
abbrev pub Steps : Config → Event → Option Running → Type 0
Steps conf event None = IsImpossible conf event
Steps conf event (Some next) = IsStep conf event (stands_for next)
