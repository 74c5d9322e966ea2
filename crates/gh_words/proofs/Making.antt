-- Events that the holder can make are made one after the other.
use Rattle.std.proofs.Common.{subst, ◌≡◌, ◌+◌, ◌<◌, ◌++◌, ◌∙◌, ℕ, suc, List, [], ◌∷◌, ap, arith, drop, length, slice_index_or}
use Rattle.std.proofs.Math.Seq.{drop-cons}
use Rattle.std.specs.List.{All}
use Rattle.std.proofs.lemmas.List.Elements.{All-head, All-tail, All-cons, All-nil}
use Rattle.gh_base.specs.declared.ids.CpuNo.{CpuNo}
use Rattle.gh_events.specs.Config.{Config}
use Rattle.gh_events.specs.declared.event.Event.{Event}
use Rattle.gh_schedules.specs.Trace.{after_all}
use Rattle.gh_words.specs.Holding.{HasScans, ScansAll, ScansPlanned}
use Rattle.gh_schedules.specs.Sweep.{counters, scans}
use Rattle.gh_words.specs.Moved.{Makes, May, Moved, MovedAll}
use Rattle.gh_words.specs.Steady.{CanMake, IsSteadyOf, MakesAll, MayMake}
use Rattle.std.proofs.lemmas.List.{append_assoc}
use Rattle.gh_words.proofs.InterleavedOn.{all_on, keeps_everything, moved_on}
use Rattle.gh_words.proofs.SeenCounters.{seen_counters}
use Rattle.gh_words.proofs.CanMakes.{can_go_on, can_possible, front_done}

-- the list from a place on, by its first
pub drop_next : {X : Type 0} (xs : List X) (i : ℕ) (d : X) → i < length xs → drop i xs ≡ slice_index_or xs i d ∷ drop (i + 1) xs
drop_next xs i d within =
    drop-cons xs i d within ∙ ap (λ (n : ℕ). slice_index_or xs i d ∷ drop n xs) (let next : suc i ≡ i + 1 = omega arith in next)

-- the first of several events
pub can_front : (at : ℕ) (conf : Config) (first second : List Event) → CanMake at conf (first ++ second) → CanMake at conf first
can_front at conf first second can =
    record { steady = front_steady first can.steady; first = can.first; same = can.same; done = front_done can.first first second can.done }
  where
    front_steady : (first : List Event) → All (IsSteadyOf at) (first ++ second) → All (IsSteadyOf at) first
    front_steady [] all = All-nil (IsSteadyOf at)
    front_steady (event ∷ first) all =
        All-cons (IsSteadyOf at) event first (All-head (IsSteadyOf at) event (first ++ second) all)
        (front_steady first (All-tail (IsSteadyOf at) event (first ++ second) all))

-- the first event may be made
pub may_first : (shown : Config → Type 0) (event : CpuNo → Event) (events : CpuNo → List Event)
    → MayMake shown (λ cpu. event cpu ∷ events cpu) → May shown event
may_first shown event events may = record {
  conf = may.conf;
  cpu = may.cpu;
  is_shown = may.is_shown;
  possible = can_possible may.cpu.0 may.conf (event may.cpu) (events may.cpu) may.can;
}

module _ (between : List Event → Type 0) where
  -- no events
  pub makes_none : (shown : Config → Type 0) → MakesAll between shown shown (λ cpu. [])
  makes_none shown conf cpu rest here can = (here, can)

  module _ (before middle : Config → Type 0) (event : CpuNo → Event) (made : Makes between before middle event) where
    made_here : (conf : Config) (cpu : CpuNo) (events : List Event) → before conf → CanMake cpu.0 conf (event cpu ∷ events)
        → Moved between (λ _. Unit {0}) middle conf (event cpu)
    made_here conf cpu events here can = made conf cpu here (can_possible cpu.0 conf (event cpu) events can)

    -- one event, and then others
    pub makes_first : (behind : Config → Type 0) (events : CpuNo → List Event) → MakesAll between middle behind events
        → MakesAll between before behind (λ cpu. event cpu ∷ events cpu)
    makes_first behind events more conf cpu rest here can =
        let moved : Moved between (λ _. Unit {0}) middle conf (event cpu) = made_here conf cpu (events cpu ++ rest) here can in
        record {
          others = moved.others;
          allowed = moved.allowed;
          foreign = moved.foreign;
          done = moved.done;
          finds = tt;
          leaves = more (after_all conf (moved.others ++ event cpu ∷ [])) cpu rest moved.leaves
              (can_go_on between (λ _. Unit {0}) middle cpu.0 conf (event cpu) (events cpu ++ rest) can moved);
        }

    -- behind it the others can be made
    pub may_more : (events : CpuNo → List Event) → MayMake before (λ cpu. event cpu ∷ events cpu) → MayMake middle events
    may_more events may =
        let moved : Moved between (λ _. Unit {0}) middle may.conf (event may.cpu) = made_here may.conf may.cpu (events may.cpu) may.is_shown may.can in
        record {
          conf = after_all may.conf (moved.others ++ event may.cpu ∷ []);
          cpu = may.cpu;
          is_shown = moved.leaves;
          can = can_go_on between (λ _. Unit {0}) middle may.cpu.0 may.conf (event may.cpu) (events may.cpu) may.can moved;
        }

    pub makes_one : MakesAll between before middle (λ cpu. event cpu ∷ [])
    makes_one = makes_first middle (λ cpu. []) (makes_none middle)

-- the scans are those of the plan
pub scans_planned : (between : List Event → Type 0) (before behind : Config → Type 0) (seen : List ℕ)
    → ScansAll between before behind seen → ScansPlanned between before behind seen
unfolding scans
scans_planned between before behind seen made conf cpu here may =
    all_on between (λ _. Unit {0}) keeps_everything (λ (later : Config). behind later × HasScans later seen)
    (λ (later : Config). behind later × HasScans later seen × (counters later ≡ seen))
    (λ later kept there. (there.0, there.1, seen_counters later seen there.1)) (scans cpu.0 conf) conf tt (made conf cpu here may)

-- some events, and then others

-- a configuration of which this holds
pub record IsFound (fact : Config → Type 0) : Type 0 where
  pub conf : Config
  pub holds : fact conf

module _ (between : List Event → Type 0) where
  pub all_append : (behind : Config → Type 0) (first second : List Event) (conf : Config)
      → MovedAll between (λ later. MovedAll between behind later second) conf first → MovedAll between behind conf (first ++ second)
  all_append behind [] second conf moved = moved
  all_append behind (event ∷ first) second conf moved =
      moved_on between (λ _. Unit {0}) keeps_everything (λ _. Unit {0})
      (λ (later : Config). MovedAll between (λ later. MovedAll between behind later second) later first)
      (λ (later : Config). MovedAll between behind later (first ++ second))
      (λ later kept more. all_append behind first second later more) conf event tt moved

  pub some_later : (behind : Config → Type 0) (events : List Event) (conf : Config) → MovedAll between behind conf events → IsFound behind
  some_later behind [] conf moved = record { conf = conf; holds = moved }
  some_later behind (event ∷ events) conf moved = some_later behind events (after_all conf (moved.others ++ event ∷ [])) moved.leaves

  module _ (before middle : Config → Type 0) (first : CpuNo → List Event) (made : MakesAll between before middle first) where
    pub makes_then : (behind : Config → Type 0) (second : CpuNo → List Event) → MakesAll between middle behind second
        → MakesAll between before behind (λ cpu. first cpu ++ second cpu)
    makes_then behind second more conf cpu rest here can =
        all_append (λ (later : Config). behind later × CanMake cpu.0 later rest) (first cpu) (second cpu) conf
        (all_on between (λ _. Unit {0}) keeps_everything (λ (later : Config). middle later × CanMake cpu.0 later (second cpu ++ rest))
        (λ (later : Config). MovedAll between (λ last. behind last × CanMake cpu.0 last rest) later (second cpu))
        (λ later kept there. more later cpu rest there.0 there.1) (first cpu) conf tt
        (made conf cpu (second cpu ++ rest) here
        (subst (λ (events : List Event). CanMake cpu.0 conf events) (append_assoc (first cpu) (second cpu) rest) can)))

    -- behind them the others can be made
    pub may_then : (second : CpuNo → List Event) → MayMake before (λ cpu. first cpu ++ second cpu) → MayMake middle second
    may_then second may =
        let moved : MovedAll between (λ later. middle later × CanMake may.cpu.0 later (second may.cpu)) may.conf (first may.cpu) =
        made may.conf may.cpu (second may.cpu) may.is_shown may.can in
        let there : IsFound (λ later. middle later × CanMake may.cpu.0 later (second may.cpu)) =
        some_later (λ later. middle later × CanMake may.cpu.0 later (second may.cpu)) (first may.cpu) may.conf moved in
        record { conf = there.conf; cpu = may.cpu; is_shown = there.holds.0; can = there.holds.1 }

-- the first of them can be made
pub may_front : (shown : Config → Type 0) (first second : CpuNo → List Event) → MayMake shown (λ cpu. first cpu ++ second cpu)
    → MayMake shown first
may_front shown first second may = record {
  conf = may.conf;
  cpu = may.cpu;
  is_shown = may.is_shown;
  can = can_front may.cpu.0 may.conf (first may.cpu) (second may.cpu) may.can;
}
