-- What the holder of the turn may still make after others moved: events that ask for no count of a
-- word and no counter depend only on what the others leave as it is.
use Rattle.std.specs.Prelude.{◌≡◌, ℕ, Bool, true, false, All, List, ◌++◌}
use Rattle.gh_base.specs.declared.ids.CpuNo.{CpuNo}
use Rattle.gh_events.specs.Config.{Config, Cpu}
use Rattle.gh_events.specs.declared.event.Event.{Event}
use Rattle.gh_events.specs.declared.event.Event.TheVariants.{Commit, Pin, Revive, SetCap, Unpin}
use Rattle.gh_schedules.specs.Committing.{cpu_no}
use Rattle.gh_schedules.specs.Trace.{AreDone}
use Rattle.gh_words.specs.Moved.{MovedAll, made_on}

-- one more is owed or one less, an index is revived, or an entry is committed
abbrev pub is_steady : Event → Bool
is_steady (Pin cpu object turn) = turn
is_steady (Unpin cpu object turn) = turn
is_steady (Revive cpu object count) = true
is_steady (Commit cpu entry) = true
is_steady (SetCap cpu entry space slot word) = true
is_steady _ = false

-- such an event of this CPU
pub record IsSteadyOf (at : ℕ) (event : Event) : Type 0 where
  pub steady : is_steady event ≡ true
  pub own : made_on event ≡ cpu_no at

-- a configuration with other counts of its reference words, other counters and other CPUs
abbrev pub with_others : Config → (ℕ → ℕ) → (ℕ → ℕ) → (ℕ → Cpu) → Config
with_others conf counts counters cpus =
    record conf { count = counts; counter = counters; cpu = cpus }

-- all that the holder can rely on is as in the first configuration: only counts, counters and other
-- CPUs differ
pub record IsSameFor (at : ℕ) (first conf : Config) : Type 0 where
  pub is : conf ≡ with_others first conf.count conf.counter conf.cpu
  pub own : conf.cpu at ≡ first.cpu at

-- the holder can make these events, one after the other, whatever the others do between: they were
-- possible in a configuration that is the same for it
pub record CanMake (at : ℕ) (conf : Config) (events : List Event) : Type 0 where
  pub steady : All (IsSteadyOf at) events
  pub first : Config
  pub same : IsSameFor at first conf
  pub done : AreDone first events

-- a configuration that is shown, and in which the CPU that has the turn can make these events
pub record MayMake (shown : Config → Type 0) (events : CpuNo → List Event) : Type 0 where
  pub conf : Config
  pub cpu : CpuNo
  pub is_shown : shown conf
  pub can : CanMake cpu.0 conf (events cpu)

-- in each configuration that was shown, and in which these events and then more can be made, these
-- were made, and the rest still can be
abbrev pub MakesAll : (List Event → Type 0) → (Config → Type 0) → (Config → Type 0)
    → (CpuNo → List Event) → Type 0
MakesAll between before behind events = (conf : Config) (cpu : CpuNo) (rest : List Event)
    → before conf → CanMake cpu.0 conf (events cpu ++ rest)
    → MovedAll between (λ later. behind later × CanMake cpu.0 later rest) conf (events cpu)
