-- What a step of the turn's holder says: its event was possible and was made, behind events of
-- other CPUs that came first.
use Rattle.std.specs.Prelude.{◌≡◌, ◌==◌, ⊤, not, Bool, true, List, [], ◌∷◌, ◌++◌}
use Rattle.std.specs.List.{list_all}
use Rattle.gh_base.specs.declared.ids.CpuNo.{CpuNo}
use Rattle.gh_events.specs.Config.{Config}
use Rattle.gh_events.specs.Events.{Possible}
use Rattle.gh_events.specs.declared.event.Event.{Event}
use Rattle.gh_events.specs.declared.event.Event.TheVariants.{Enter, Leave, Take, Look, Pin, Unpin, Undo, Kill, Commit, SetCap, Free, Scan, Revive, Join, Split}
use Rattle.gh_schedules.specs.Trace.{AreDone, after_all}

-- the CPU that makes an event
abbrev pub made_on : Event → CpuNo
made_on (Enter cpu) = cpu
made_on (Leave cpu) = cpu
made_on (Take cpu) = cpu
made_on (Look cpu slot) = cpu
made_on (Pin cpu object turn) = cpu
made_on (Unpin cpu object turn) = cpu
made_on (Undo cpu object) = cpu
made_on (Kill cpu object) = cpu
made_on (Commit cpu entry) = cpu
made_on (SetCap cpu entry space slot word) = cpu
made_on (Free cpu ended) = cpu
made_on (Scan cpu of) = cpu
made_on (Revive cpu object count) = cpu
made_on (Join cpu) = cpu
made_on (Split cpu) = cpu

-- the event is one of another CPU
abbrev pub is_other : CpuNo → Event → Bool
is_other cpu event = not ((made_on event).0 == cpu.0)

-- from this configuration on, other CPUs made their events, such as may come between, and then this
-- event was made: each was possible where it came. The first fact is one of the configuration that
-- the event found, the second one of the configuration behind it
pub record Moved (between : List Event → Type 0) (found behind : Config → Type 0) (conf : Config)
    (event : Event) : Type 0 where
  pub others : List Event
  pub allowed : between others
  pub foreign : list_all (is_other (made_on event)) others ≡ true
  pub done : AreDone conf (others ++ event ∷ [])
  pub finds : found (after_all conf others)
  pub leaves : behind (after_all conf (others ++ event ∷ []))

-- these events were made one after the other, each behind events of other CPUs
abbrev pub MovedAll : (List Event → Type 0) → (Config → Type 0) → Config → List Event → Type 0
MovedAll between behind conf [] = behind conf
MovedAll between behind conf (event ∷ events) =
    Moved between (λ _. ⊤) (λ later. MovedAll between behind later events) conf event

-- a configuration that is shown, and in which the CPU that has the turn may make the event
pub record May (shown : Config → Type 0) (event : CpuNo → Event) : Type 0 where
  pub conf : Config
  pub cpu : CpuNo
  pub is_shown : shown conf
  pub possible : Possible conf (event cpu)

-- in each configuration that was shown, and in which the event is possible, it was made. What was
-- found in it
abbrev pub MakesFinding : (List Event → Type 0) → (Config → Type 0) → (Config → Type 0)
    → (CpuNo → Event) → (Config → Type 0) → Type 0
MakesFinding between before behind event found = (conf : Config) (cpu : CpuNo) → before conf
    → Possible conf (event cpu) → Moved between found behind conf (event cpu)

abbrev pub Makes : (List Event → Type 0) → (Config → Type 0) → (Config → Type 0)
    → (CpuNo → Event) → Type 0
Makes between before behind event = MakesFinding between before behind event (λ _. ⊤)

-- no other CPU makes an event between
abbrev pub IsAlone : List Event → Type 0
IsAlone others = others ≡ []

-- and no other may come between
abbrev pub OnlyAlone : (List Event → Type 0) → Type 0
OnlyAlone between = (others : List Event) → between others → IsAlone others
