-- Events one after the other: what is done behind what.
use Rattle.std.proofs.Common.{◌≡◌, List, [], ◌∷◌, ◌++◌, subst, sym}
use Rattle.std.proofs.lemmas.List.Sums.{fold-append}
use Rattle.gh_events.specs.Config.{Config}
use Rattle.gh_events.specs.Events.{after}
use Rattle.gh_schedules.specs.Trace.{AreDone, after_all, and_then, for_each}
use Rattle.gh_events.specs.declared.event.Event.{Event}

-- the events are done, and lead to a configuration of which this holds
pub record Leads (conf : Config) (events : List Event) (Behind : Config → Type 0) : Type 0 where
  pub done : AreDone conf events
  pub behind : Behind (after_all conf events)

pub after_append : (conf : Config) (first second : List Event)
    → after_all conf (first ++ second) ≡ after_all (after_all conf first) second
after_append conf first second = fold-append after conf first second

pub done_append : (conf : Config) (first second : List Event) → AreDone conf first
    → AreDone (after_all conf first) second → AreDone conf (first ++ second)
done_append conf [] second done more = more
done_append conf (event ∷ first) second done more =
    (done.0, done_append (after conf event) first second done.1 more)

-- no events lead nowhere else
pub leads_none : (conf : Config) (Behind : Config → Type 0) → Behind conf → Leads conf [] Behind
leads_none conf Behind here = record { done = tt; behind = here }

-- events lead on from where others led
pub leads_append : (conf : Config) (first second : List Event) (Between Behind : Config → Type 0)
    → Leads conf first Between
    → (Between (after_all conf first) → Leads (after_all conf first) second Behind)
    → Leads conf (first ++ second) Behind
leads_append conf first second Between Behind led on =
    let more : Leads (after_all conf first) second Behind = on led.behind in
    record {
      done = done_append conf first second led.done more.done;
      behind = subst Behind (sym (after_append conf first second)) more.behind;
    }

-- one event, and others behind it
pub leads_cons : (conf : Config) (event : Event) (events : List Event) (Behind : Config → Type 0)
    → Leads conf (event ∷ []) (λ new. Leads new events Behind) → Leads conf (event ∷ events) Behind
leads_cons conf event events Behind led =
    record { done = (led.done.0, led.behind.done); behind = led.behind.behind }

-- one plan, and then another
pub leads_then : (first second : Config → List Event) (conf : Config)
    (Between Behind : Config → Type 0) → Leads conf (first conf) Between
    → ((new : Config) → Between new → Leads new (second new) Behind)
    → Leads conf (and_then first second conf) Behind
unfolding and_then
leads_then first second conf Between Behind led on =
    leads_append conf (first conf) (second (after_all conf (first conf))) Between Behind led
    (λ here. on (after_all conf (first conf)) here)

-- a plan for each, where each keeps what holds
pub leads_each : {X : Type 0} (plan : X → Config → List Event) (Kept : Config → Type 0)
    → ((x : X) (new : Config) → Kept new → Leads new (plan x new) Kept)
    → (xs : List X) (conf : Config) → Kept conf → Leads conf (for_each plan xs conf) Kept
unfolding for_each
leads_each plan Kept each [] conf kept = leads_none conf Kept kept
leads_each plan Kept each (x ∷ xs) conf kept =
    leads_then (plan x) (for_each plan xs) conf Kept Kept (each x conf kept) (leads_each plan Kept each xs)

-- what follows from where events lead
pub leads_so : (conf : Config) (events : List Event) (Behind So : Config → Type 0)
    → Leads conf events Behind → ((new : Config) → Behind new → So new) → Leads conf events So
leads_so conf events Behind So led so =
    record { done = led.done; behind = so (after_all conf events) led.behind }
