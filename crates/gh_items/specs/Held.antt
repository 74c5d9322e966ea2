-- A call in progress while an item of its section is made: the progress and the configuration in
-- which the item begins, and the call, which alone changes.
use Rattle.std.specs.Prelude.{◌≡◌, ◌<◌, ℕ, Bool, true, false, List, Option, Some, None, slice_get}
use Rattle.std.specs.Option.{unwrap_or}
use Rattle.gh_base.specs.declared.ids.ObjIndex.{ObjIndex}
use Rattle.gh_base.specs.declared.limits.TheConstants.{CPUS}
use Rattle.gh_events.specs.Config.{Config}
use Rattle.gh_events.specs.Sound.{IsSound}
use Rattle.gh_core.specs.declared.current.CallStage.{CallStage}
use Rattle.gh_core.specs.declared.current.CallStage.TheVariants as stages
use Rattle.gh_core.specs.declared.current.CurrentCall.{CurrentCall}
use Rattle.gh_items.specs.Stands.{Stands, with_call}
use Rattle.gh_items.specs.declared.progress.Progress.{Progress}
use Rattle.gh_items.specs.declared.progress.Seat.{Seat}
use Rattle.gh_model.specs.declared.state.State.{State}

-- the configuration and the progress in which an item of this CPU begins
pub record Held : Type 0 where
  pub conf : Config
  pub progress : Progress
  pub at : ℕ

-- with this call the progress stands for the configuration
abbrev pub HeldIn : Held → CurrentCall → Config → Type 0
HeldIn from call conf = Stands (with_call from.progress from.at (Some call)) conf

-- the call is the CPU's where the item begins, and no CPU has the turn
pub record IsHeld (from : Held) (call : CurrentCall) : Type 0 where
  pub stands : HeldIn from call from.conf
  pub sound : IsSound from.conf
  pub within : from.at < CPUS
  pub free : from.conf.turn ≡ None

-- what an item reads beside its call is the progress's
pub record Sees (from : Held) (plain : State) (places : List ObjIndex) (seat : Seat) : Type 0 where
  pub state : plain ≡ from.progress.plain
  pub indices : places ≡ from.progress.places
  pub seated : slice_get from.progress.seats from.at ≡ Some seat

-- a call at this stage is in its section, and is in progress behind its next item too
abbrev pub goes_on : CallStage → Bool
goes_on stages.Reading = true
goes_on stages.Looked = true
goes_on stages.DeadPin = true
goes_on stages.Undone = false
goes_on stages.Failed = false
goes_on stages.AtAct = false

abbrev pub call_goes_on : Option CurrentCall → Bool
call_goes_on None = false
call_goes_on (Some call) = goes_on call.stage

-- the CPU has a call in progress that goes on so
abbrev pub cpu_goes_on : Progress → ℕ → Bool
cpu_goes_on progress at = call_goes_on (unwrap_or (slice_get progress.calls at) None)
