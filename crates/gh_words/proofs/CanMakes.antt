-- What the holder can make, and what it can make behind it while others move.
use Rattle.std.proofs.Common.{◌≡◌, ◌==◌, ◌++◌, ◌∙◌, ℕ, true, false, List, [], ◌∷◌, arith, not, refl, subst, sym, ap, Some, None}
use Rattle.std.specs.List.{All, list_all}
use Rattle.std.proofs.lemmas.Bool.{and_parts}
use Rattle.std.proofs.lemmas.Bool.Decides.{nat_tests}
use Rattle.std.proofs.lemmas.List.Elements.{All-head, All-tail}
use Rattle.gh_base.specs.declared.ids.CpuNo.{CpuNo}
use Rattle.gh_events.specs.Config.{Config, HasTurn, Holder}
use Rattle.gh_events.specs.Events.{Possible, after}
use Rattle.gh_events.specs.declared.event.Event.{Event}
use Rattle.gh_events.specs.declared.event.Event.TheVariants.{Enter, Leave, Take, Look, Pin, Unpin, Undo, Kill, Commit, SetCap, Free, Scan, Revive, Join, Split}
use Rattle.gh_schedules.specs.Committing.{cpu_no}
use Rattle.gh_schedules.specs.Trace.{AreDone, after_all}
use Rattle.gh_words.specs.Moved.{Moved, is_other, made_on}
use Rattle.gh_words.specs.Steady.{CanMake, IsSameFor, IsSteadyOf, is_steady}
use Rattle.gh_events.proofs.Finding.{put_other}
use Rattle.gh_schedules.proofs.TraceLaws.{after_append}
use Rattle.gh_words.proofs.SteadyEvents.{same_itself, same_on, steady_same}

-- an event of another CPU while this one has the turn

module _ (conf : Config) (at : ℕ) (holder : Holder) (has : HasTurn conf at holder) where
  -- no other has it, and it isn't free
  not_held : (cpu : ℕ) (other : Holder) → not (cpu == at) ≡ true → HasTurn conf cpu other → ⊥
  not_held cpu other away also =
      let same : Some holder ≡ Some other = sym has.turn ∙ also.turn in
      let one : holder ≡ other = cc in
      let its : cpu ≡ at = sym also.its_cpu ∙ sym (ap (λ (h : Holder). h.cpu) one) ∙ has.its_cpu in
      let never : ⊥ = grind (arith, nat_tests) in never

  not_free : conf.turn ≡ None → ⊥
  not_free free = let both : Some holder ≡ None = sym has.turn ∙ free in let never : ⊥ = cc in never

  away : (cpu : ℕ) → not (cpu == at) ≡ true → (at == cpu) ≡ false
  away cpu differs = grind (arith, nat_tests)

  pub others_same : (event : Event) → is_other (cpu_no at) event ≡ true → Possible conf event → IsSameFor at conf (after conf event)
  others_same (Enter cpu) other may = record { is = refl; own = put_other conf.cpu cpu.0 _ at (away cpu.0 other) }
  others_same (Leave cpu) other may = record { is = refl; own = put_other conf.cpu cpu.0 _ at (away cpu.0 other) }
  others_same (Take cpu) other may = absurd (not_free may.free)
  others_same (Look cpu slot) other may = record { is = refl; own = put_other conf.cpu cpu.0 _ at (away cpu.0 other) }
  others_same (Pin cpu object false) other may = record { is = refl; own = put_other conf.cpu cpu.0 _ at (away cpu.0 other) }
  others_same (Pin cpu object true) other may = absurd (not_held cpu.0 may.holder other may.has_turn)
  others_same (Unpin cpu object false) other may = record { is = refl; own = put_other conf.cpu cpu.0 _ at (away cpu.0 other) }
  others_same (Unpin cpu object true) other may = absurd (not_held cpu.0 may.holder other may.has_turn)
  others_same (Undo cpu object) other may = record { is = refl; own = put_other conf.cpu cpu.0 _ at (away cpu.0 other) }
  others_same (Kill cpu object) other may = absurd (not_held cpu.0 may.holder other may.has_turn)
  others_same (Commit cpu entry) other may = absurd (not_held cpu.0 may.holder other may.allows.has_turn)
  others_same (SetCap cpu entry space slot word) other may = absurd (not_held cpu.0 may.holder other may.allows.has_turn)
  others_same (Free cpu true) other may = absurd (not_held cpu.0 may.holder other may.has_turn)
  others_same (Free cpu false) other may = absurd (not_held cpu.0 may.holder other may.has_turn)
  others_same (Scan cpu of_cpu) other may = absurd (not_held cpu.0 may.holder other may.has_turn)
  others_same (Revive cpu object count) other may = absurd (not_held cpu.0 may.holder other may.has_turn)
  others_same (Join cpu) other may = same_itself at conf
  others_same (Split cpu) other may = same_itself at conf

-- and several

turn_stays : (at : ℕ) (first conf : Config) (holder : Holder) → IsSameFor at first conf → HasTurn first at holder → HasTurn conf at holder
turn_stays at first conf holder same has =
    record { turn = ap (λ (c : Config). c.turn) same.is ∙ has.turn; its_cpu = has.its_cpu }

pub others_leave : (at : ℕ) (conf : Config) (holder : Holder) → HasTurn conf at holder → (others : List Event)
    → list_all (is_other (cpu_no at)) others ≡ true → AreDone conf others → IsSameFor at conf (after_all conf others)
others_leave at conf holder has [] foreign done = same_itself at conf
others_leave at conf holder has (event ∷ others) foreign done =
    let parts = and_parts (is_other (cpu_no at) event) (list_all (is_other (cpu_no at)) others) foreign in
    let same : IsSameFor at conf (after conf event) = others_same conf at holder has event parts.0 done.0 in
    same_on at conf (after conf event) (after_all (after conf event) others) same
    (others_leave at (after conf event) holder (turn_stays at conf (after conf event) holder same has) others parts.1 done.1)

-- the holder of a steady event has the turn

pub record Holds (conf : Config) (at : ℕ) : Type 0 where
  pub holder : Holder
  pub has : HasTurn conf at holder

steady_held : (at : ℕ) (conf : Config) (event : Event) → is_steady event ≡ true → made_on event ≡ cpu_no at → Possible conf event → Holds conf at
steady_held at conf (Enter cpu) steady its may = absurd (let never : ⊥ = cc in never)
steady_held at conf (Leave cpu) steady its may = absurd (let never : ⊥ = cc in never)
steady_held at conf (Take cpu) steady its may = absurd (let never : ⊥ = cc in never)
steady_held at conf (Look cpu slot) steady its may = absurd (let never : ⊥ = cc in never)
steady_held at conf (Pin cpu object false) steady its may = absurd (let never : ⊥ = cc in never)
steady_held at conf (Pin cpu object true) steady its may = subst (λ (c : CpuNo). Holds conf c.0) its (record { holder = may.holder; has = may.has_turn })
steady_held at conf (Unpin cpu object false) steady its may = absurd (let never : ⊥ = cc in never)
steady_held at conf (Unpin cpu object true) steady its may = subst (λ (c : CpuNo). Holds conf c.0) its (record { holder = may.holder; has = may.has_turn })
steady_held at conf (Undo cpu object) steady its may = absurd (let never : ⊥ = cc in never)
steady_held at conf (Kill cpu object) steady its may = absurd (let never : ⊥ = cc in never)
steady_held at conf (Commit cpu entry) steady its may = subst (λ (c : CpuNo). Holds conf c.0) its (record { holder = may.holder; has = may.allows.has_turn })
steady_held at conf (SetCap cpu entry space slot word) steady its may = subst (λ (c : CpuNo). Holds conf c.0) its (record { holder = may.holder; has = may.allows.has_turn })
steady_held at conf (Free cpu act) steady its may = absurd (let never : ⊥ = cc in never)
steady_held at conf (Scan cpu of_cpu) steady its may = absurd (let never : ⊥ = cc in never)
steady_held at conf (Revive cpu object count) steady its may = subst (λ (c : CpuNo). Holds conf c.0) its (record { holder = may.holder; has = may.has_turn })
steady_held at conf (Join cpu) steady its may = absurd (let never : ⊥ = cc in never)
steady_held at conf (Split cpu) steady its may = absurd (let never : ⊥ = cc in never)

-- what can be made

pub can_begin : (at : ℕ) (conf : Config) (events : List Event) → All (IsSteadyOf at) events → AreDone conf events → CanMake at conf events
can_begin at conf events steady done = record { steady = steady; first = conf; same = same_itself at conf; done = done }

module _ (at : ℕ) (conf : Config) (event : Event) (events : List Event) (can : CanMake at conf (event ∷ events)) where
  is_one : IsSteadyOf at event
  is_one = All-head (IsSteadyOf at) event events can.steady

  pub can_possible : Possible conf event
  can_possible = (steady_same at can.first conf event can.same is_one can.done.0).0

  -- where this CPU has the turn
  pub can_holds : Holds conf at
  can_holds = steady_held at conf event is_one.steady is_one.own can_possible

  -- what others made leaves it
  pub can_still : (others : List Event) → list_all (is_other (cpu_no at)) others ≡ true → AreDone conf others
      → CanMake at (after_all conf others) (event ∷ events)
  can_still others foreign done = record {
    steady = can.steady;
    first = can.first;
    same = same_on at can.first conf (after_all conf others) can.same (others_leave at conf can_holds.holder can_holds.has others foreign done);
    done = can.done;
  }

  pub can_next : CanMake at (after conf event) events
  can_next = record {
    steady = All-tail (IsSteadyOf at) event events can.steady;
    first = after can.first event;
    same = (steady_same at can.first conf event can.same is_one can.done.0).1;
    done = can.done.1;
  }

-- the first of events are possible, and the last behind those before it
pub front_done : (conf : Config) (first second : List Event) → AreDone conf (first ++ second) → AreDone conf first
front_done conf [] second done = tt
front_done conf (event ∷ first) second done = (done.0, front_done (after conf event) first second done.1)

pub last_done : (conf : Config) (others : List Event) (event : Event) → AreDone conf (others ++ event ∷ []) → Possible (after_all conf others) event
last_done conf [] event done = done.0
last_done conf (other ∷ others) event done = last_done (after conf other) others event done.1

-- behind the first event, with others before it, the rest can be made
pub can_go_on : (between : List Event → Type 0) (found behind : Config → Type 0) (at : ℕ) (conf : Config) (event : Event) (events : List Event)
    → CanMake at conf (event ∷ events) → (moved : Moved between found behind conf event)
    → CanMake at (after_all conf (moved.others ++ event ∷ [])) events
can_go_on between found behind at conf event events can moved =
    let own : made_on event ≡ cpu_no at = (All-head (IsSteadyOf at) event events can.steady).own in
    let foreign : list_all (is_other (cpu_no at)) moved.others ≡ true = subst (λ (cpu : CpuNo). list_all (is_other cpu) moved.others ≡ true) own moved.foreign in
    let here : CanMake at (after_all conf moved.others) (event ∷ events) =
    can_still at conf event events can moved.others foreign (front_done conf moved.others (event ∷ []) moved.done) in
    subst (λ (c : Config). CanMake at c events) (sym (after_append conf moved.others (event ∷ [])))
    (can_next at (after_all conf moved.others) event events here)
