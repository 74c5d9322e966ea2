-- Events one after the other: each possible where it comes, and the configuration behind them.
use Rattle.std.specs.Prelude.{⊤, List, [], ◌∷◌, ◌++◌, fold}
use Rattle.gh_events.specs.Config.{Config}
use Rattle.gh_events.specs.Events.{Possible, after}
use Rattle.gh_events.specs.declared.event.Event.{Event}

-- the configuration behind these events
abbrev pub after_all : Config → List Event → Config
after_all conf events = fold after conf events

-- each event is possible where it comes
abbrev pub AreDone : Config → List Event → Type 0
AreDone conf [] = ⊤
AreDone conf (event ∷ events) = Possible conf event × AreDone (after conf event) events

-- a plan says which events come next in a configuration. One plan, and then another in the
-- configuration that the first one leaves
unfoldable pub and_then : (Config → List Event) → (Config → List Event) → Config → List Event
and_then first second conf = first conf ++ second (after_all conf (first conf))

-- a plan for each of these, one after the other
unfoldable pub for_each : {X : Type 0} → (X → Config → List Event) → List X → Config → List Event
for_each plan [] conf = []
for_each plan (x ∷ xs) conf = and_then (plan x) (for_each plan xs) conf
