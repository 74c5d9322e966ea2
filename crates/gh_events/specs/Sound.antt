-- Sound configurations: all that every event keeps, as one record, and the runs over which it
-- stands.
use Rattle.std.specs.Prelude.{◌≡◌, ◌<◌, ◌≤◌, ⊤, ℕ, List, [], ◌∷◌, Option, Some, None, fold, slice_get, slice_index}
use Rattle.gh_base.specs.declared.frame.Frame.{Frame}
use Rattle.gh_base.specs.declared.limits.TheConstants.{CPUS}
use Rattle.gh_model.specs.Graced.{GoesUnread}
use Rattle.gh_model.specs.History as history
use Rattle.gh_model.specs.Marks.{Made, Seen}
use Rattle.gh_model.specs.declared.state.State.{State}
use Rattle.gh_events.specs.Bounded.{HasBound}
use Rattle.gh_events.specs.Calls.{BeginsAtBoot, HasCalls, SawPins}
use Rattle.gh_events.specs.Config.{Config, Cpu, Current, IsBetween, last_place}
use Rattle.gh_events.specs.Events.{Possible, after}
use Rattle.gh_events.specs.Grace.{AreBetween, HasGrace}
use Rattle.gh_events.specs.Length.{HasLength}
use Rattle.gh_events.specs.References.{HasReferences}
use Rattle.gh_events.specs.Replayed.{HasState}
use Rattle.gh_events.specs.Start.{MayGive, given}
use Rattle.gh_events.specs.ValidState.{HasValid}
use Rattle.gh_events.specs.Words.{ShowsWords}
use Rattle.gh_events.specs.declared.event.Event.{Event}

-- the counters that entries keep are in order
pub record AreInOrder (boot : State) (events : List history.Event) : Type 0 where
  -- no counter falls from an entry to a later one
  pub rising : (n m cpu : ℕ) (first second : history.Event) (before now : List ℕ)
      → slice_get events n ≡ Some first → slice_get events m ≡ Some second → n < m
      → history.counters first.entry ≡ Some before → history.counters second.entry ≡ Some now
      → cpu < CPUS → slice_index before cpu ≤ slice_index now cpu
  -- every CPU that was reading at an object's retirement has left when it is reclaimed
  pub unread : (n : ℕ) (event : history.Event) → slice_get events n ≡ Some event
      → GoesUnread (history.state_at boot events n) event.entry

-- a configuration is sound
pub record IsSound (conf : Config) : Type 0 where
  -- words of objects and indices count what they should, and each pin is on what its look granted
  pub references : HasReferences conf
  -- each CPU's counter, sections and kept counters are in order: no object goes while it is read
  pub grace : HasGrace conf
  -- each object that lives has a serial that was given, and an index that there is
  pub state : HasState conf
  -- the present state is valid, and each CPU fits it
  pub valid : HasValid conf
  -- the finished calls, the looks of those in progress and the entries are legal so far
  pub calls : HasCalls conf
  -- the counters that entries keep never fall, and no object went while a CPU was reading
  pub order : AreInOrder conf.boot conf.history
  -- and each of them stands between the sections of its CPU's calls
  pub between : AreBetween conf.history conf.cpu
  -- what the holder keeps of failed kills names pins
  pub saw : SawPins conf.turn
  -- each slot's word is the one of the present state
  pub words : ShowsWords conf
  -- no entry was counted before the boot
  pub begins : BeginsAtBoot conf
  -- and the history is no longer than its boot and its calls let it be
  pub long : HasLength conf
  -- references and what is owed are within what a reference word can count
  pub bound : HasBound conf

-- a step of a run: a CPU is given its call of this number, or an event
pub data Step : Type 0 where
  Gives : ℕ → ℕ → Frame → Step
  Does : Event → Step

-- the step may come next
abbrev pub MayStep : Config → Step → Type 0
MayStep conf (Gives at number frame) = MayGive conf at number
MayStep conf (Does event) = Possible conf event

-- the configuration behind a step
abbrev pub after_step : Config → Step → Config
after_step conf (Gives at number frame) = given conf at number frame
after_step conf (Does event) = after conf event

-- the configuration behind these steps
abbrev pub after_steps : Config → List Step → Config
after_steps conf steps = fold after_step conf steps

-- each step may come where it comes
abbrev pub Runs : Config → List Step → Type 0
Runs conf [] = ⊤
Runs conf (step ∷ steps) = MayStep conf step × Runs (after_step conf step) steps

-- places

-- the looks of the call in progress, none between calls
abbrev pub looks_now : Option Current → List Seen
looks_now None = []
looks_now (Some call) = call.seen

-- a CPU's last place, behind its finished calls and the looks of the one in progress
abbrev pub place_now : Cpu → ℕ
place_now cpu = last_place cpu (looks_now cpu.current)

-- the object is reclaimed by an entry behind this place
pub record IsReclaimedBehind (events : List history.Event) (place serial : ℕ) : Type 0 where
  pub at : ℕ
  pub event : history.Event
  pub is : slice_get events at ≡ Some event
  pub reclaims : history.reclaims event.entry ≡ Some serial
  pub behind : place ≤ at

-- rest

-- the finished calls of a CPU
abbrev pub made_by : Config → ℕ → List Made
made_by conf cpu = (conf.cpu cpu).made

-- the turn is free, and every CPU is between calls
pub record IsAtRest (conf : Config) : Type 0 where
  pub free : conf.turn ≡ None
  pub between : (cpu : ℕ) → IsBetween (conf.cpu cpu)
