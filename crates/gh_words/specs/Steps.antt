-- What a holder and the other CPUs did, as one list of events: the holder's, each behind events of
-- others.
use Rattle.std.specs.Prelude.{◌≡◌, true, ℕ, All, List, [], ◌∷◌, ◌++◌, flat_map}
use Rattle.std.specs.List.{list_all}
use Rattle.gh_events.specs.Config.{Config}
use Rattle.gh_events.specs.declared.event.Event.{Event}
use Rattle.gh_schedules.specs.Committing.{cpu_no}
use Rattle.gh_schedules.specs.Trace.{AreDone, after_all}
use Rattle.gh_words.specs.Moved.{is_other, made_on}

-- an event of the holder, and those of others that came first
pub record Step : Type 0 where
  pub others : List Event
  pub own : Event

abbrev pub events_of : Step → List Event
events_of step = step.others ++ step.own ∷ []

-- the event is this CPU's own, and those before it are of others and such as may come between
pub record IsStepOf (between : List Event → Type 0) (at : ℕ) (step : Step) : Type 0 where
  pub allowed : between step.others
  pub foreign : list_all (is_other (cpu_no at)) step.others ≡ true
  pub is_own : made_on step.own ≡ cpu_no at

-- from the configuration on, such steps were made, each event possible where it came, and this
-- holds of the configuration behind them
pub record LeadsBySteps (between : List Event → Type 0) (at : ℕ) (behind : Config → Type 0)
    (conf : Config) : Type 0 where
  pub steps : List Step
  pub each : All (IsStepOf between at) steps
  pub done : AreDone conf (flat_map events_of steps)
  pub leaves : behind (after_all conf (flat_map events_of steps))
