-- A step before which no other CPU makes one: it is the event, and nothing else.
use Rattle.std.proofs.Common.{List, ◌∷◌, ◌++◌, ◌≡◌, [], refl}
use Rattle.gh_events.specs.Config.{Config}
use Rattle.gh_events.specs.Events.{Possible, after}
use Rattle.gh_events.specs.declared.event.Event.{Event}
use Rattle.gh_schedules.specs.Trace.{AreDone, after_all}
use Rattle.gh_words.specs.Moved.{IsAlone, Moved}

pub alone_between : (between : List Event → Type 0) (found behind : Config → Type 0) (conf : Config) (event : Event) → between []
    → Possible conf event → found conf → behind (after conf event) → Moved between found behind conf event
alone_between between found behind conf event none may finds leaves = record {
  others = [];
  allowed = none;
  foreign = refl;
  done = (may, tt);
  finds = finds;
  leaves = leaves;
}

pub alone : (found behind : Config → Type 0) (conf : Config) (event : Event) → Possible conf event → found conf
    → behind (after conf event) → Moved IsAlone found behind conf event
alone found behind conf event may finds leaves = alone_between IsAlone found behind conf event refl may finds leaves

-- and the other way round
module _ (between : List Event → Type 0) (found behind : Config → Type 0) (conf : Config) (event : Event) where
  by_others : (others : List Event) → AreDone conf (others ++ event ∷ []) → behind (after_all conf (others ++ event ∷ []))
      → others ≡ [] → Possible conf event × behind (after conf event)
  by_others [] done leaves none = (done.0, leaves)
  by_others (other ∷ others) done leaves none = absurd (let never : ⊥ = cc in never)

  pub lone : (moved : Moved between found behind conf event) → moved.others ≡ [] → Possible conf event × behind (after conf event)
  lone moved none = by_others moved.others moved.done moved.leaves none
