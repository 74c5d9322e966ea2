-- Steady events that are possible with no others lead, among others, to a configuration that is the
-- same for the holder.
use Rattle.std.proofs.Common.{◌≡◌, ◌++◌, ℕ, true, List, [], ◌∷◌, ap, refl, subst, sym}
use Rattle.std.specs.List.{All, list_all}
use Rattle.std.proofs.lemmas.List.Elements.{All-from_recursion, All-head, All-tail}
use Rattle.gh_base.specs.declared.ids.CpuNo.{CpuNo}
use Rattle.gh_events.specs.Config.{Config}
use Rattle.gh_events.specs.Events.{after}
use Rattle.gh_events.specs.declared.event.Event.{Event}
use Rattle.gh_schedules.specs.Committing.{cpu_no}
use Rattle.gh_schedules.specs.Indices.{HasBlocks}
use Rattle.gh_schedules.specs.Trace.{AreDone, after_all}
use Rattle.gh_words.specs.Interleaved.{Planned}
use Rattle.gh_words.specs.Moved.{MovedAll, is_other}
use Rattle.gh_words.specs.Steady.{IsSameFor, IsSteadyOf, with_others}
use Rattle.gh_schedules.proofs.TraceLaws.{after_append}
use Rattle.gh_words.proofs.CanMakes.{Holds, can_holds, front_done, others_leave}
use Rattle.gh_words.proofs.PlansSteady.{AreSteady}
use Rattle.gh_words.proofs.SteadyEvents.{same_on, steady_same}

-- the other way round
pub same_back : (at : ℕ) (first conf : Config) → IsSameFor at first conf → IsSameFor at conf first
same_back at first conf same = record {
  is = sym (ap (λ (c : Config). with_others c first.count first.counter first.cpu) same.is);
  own = sym same.own;
}

module _ (between : List Event → Type 0) (at : ℕ) (behind : Config → Type 0) where
  pub all_same : (events : List Event) → All (IsSteadyOf at) events → (first conf : Config) → IsSameFor at first conf → AreDone first events
      → MovedAll between behind conf events → MovedAll between (λ later. behind later × IsSameFor at (after_all first events) later) conf events
  all_same [] steady first conf same done moved = (moved, same)
  all_same (event ∷ events) steady first conf same done moved =
      let one : IsSteadyOf at event = All-head (IsSteadyOf at) event events steady in
      let holds : Holds conf at = can_holds at conf event events (record { steady = steady; first = first; same = same; done = done }) in
      let foreign : list_all (is_other (cpu_no at)) moved.others ≡ true = subst (λ (cpu : CpuNo). list_all (is_other cpu) moved.others ≡ true) one.own moved.foreign in
      let found : IsSameFor at first (after_all conf moved.others) =
      same_on at first conf (after_all conf moved.others) same
      (others_leave at conf holds.holder holds.has moved.others foreign (front_done conf moved.others (event ∷ []) moved.done)) in
      record {
        others = moved.others;
        allowed = moved.allowed;
        foreign = moved.foreign;
        done = moved.done;
        finds = tt;
        leaves = all_same events (All-tail (IsSteadyOf at) event events steady) (after first event) (after_all conf (moved.others ++ event ∷ []))
            (subst (λ (c : Config). IsSameFor at (after first event) c) (sym (after_append conf moved.others (event ∷ [])))
            (steady_same at first (after_all conf moved.others) event found one done.0).1) done.1 moved.leaves;
      }

  -- so does a plan
  pub planned_same : (plan : Config → List Event) (conf : Config) → AreSteady at (plan conf) → AreDone conf (plan conf)
      → Planned between plan behind conf
      → Planned between plan (λ later. behind later × IsSameFor at (after_all conf (plan conf)) later) conf
  planned_same plan conf steady done moved =
      all_same (plan conf) (All-from_recursion (IsSteadyOf at) (plan conf) steady) conf conf (record { is = refl; own = refl }) done moved

-- the objects lie in their blocks just where they do in a configuration that is the same
pub blocks_same : (at : ℕ) (first conf : Config) → IsSameFor at first conf → HasBlocks first → HasBlocks conf
blocks_same at first conf same blocks =
    subst HasBlocks (sym same.is) (record { apart = blocks.apart; few = blocks.few; each = blocks.each })
