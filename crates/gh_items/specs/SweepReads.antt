-- What the counters and the reference words of a configuration are, by the calls of a progress that
-- stands for it. The call of the CPU that has the turn is at hand beside the progress.
use Rattle.std.specs.Prelude.{◌≡◌, ◌==◌, ◌+◌, ◌*◌, ◌-◌, ℕ, Bool, true, length, Option, Some, None, count_by, slice_get, take, if◌then◌else◌}
use Rattle.std.specs.Option.{option_map_or, unwrap_or}
use Rattle.gh_base.specs.CapWord.{object_of}
use Rattle.gh_core.specs.Running.{given_of, stage_of}
use Rattle.gh_core.specs.declared.current.CallStage.{CallStage}
use Rattle.gh_core.specs.declared.current.CallStage.TheVariants as stages
use Rattle.gh_core.specs.declared.current.CurrentCall.{CurrentCall}
use Rattle.gh_core.specs.declared.current.SeenLook.{SeenLook}
use Rattle.gh_events.specs.Calls.{steps_at}
use Rattle.gh_events.specs.Config.{Config, present}
use Rattle.gh_events.specs.Sound.{IsSound}
use Rattle.gh_invariant.specs.Lives.{lives}
use Rattle.gh_items.specs.Stands.{Stands, with_call}
use Rattle.gh_items.specs.declared.progress.Progress.{Progress}
use Rattle.gh_items.specs.declared.progress.Seat.{Seat}

-- the progress and the holder's call stand for a sound configuration
pub record StandsWith (progress : Progress) (cpu : ℕ) (call : CurrentCall) (conf : Config)
    : Type 0 where
  pub stands : Stands (with_call progress cpu (Some call)) conf
  pub sound : IsSound conf

-- the call in progress of a CPU: the holder's is the one at hand
abbrev pub call_at : Progress → ℕ → CurrentCall → ℕ → Option CurrentCall
call_at progress cpu call at =
    if at == cpu then Some call else unwrap_or (slice_get progress.calls at) None

-- the finished calls of a CPU that opened a section
abbrev pub seat_sections : Seat → ℕ
seat_sections seat = seat.sections

abbrev pub sections_at : Progress → ℕ → ℕ
sections_at progress at = option_map_or seat_sections (slice_get progress.seats at) 0

-- how far a call in progress has brought its CPU's counter
abbrev pub call_steps : Option CurrentCall → ℕ
call_steps None = 0
call_steps (Some call) = steps_at (stage_of call.stage) (given_of call.given)

-- a CPU's counter
abbrev pub counter_at : Progress → ℕ → CurrentCall → ℕ → ℕ
counter_at progress cpu call at =
    2 * sections_at progress at + call_steps (call_at progress cpu call at)

-- as many of the first looks of a call have their pins
abbrev pub pinned_count : CallStage → ℕ → ℕ
pinned_count stages.Reading count = count
pinned_count stages.Looked count = count - 1
pinned_count stages.DeadPin count = count
pinned_count stages.Undone count = count - 1
pinned_count stages.Failed count = count - 1
pinned_count stages.AtAct count = count

-- the pins of a call at an index
abbrev pub is_look_at : ℕ → SeenLook → Bool
is_look_at index seen = object_of seen.look.word.0 == index

abbrev pub call_pins : ℕ → Option CurrentCall → ℕ
call_pins index None = 0
call_pins index (Some call) =
    count_by (is_look_at index) (take (pinned_count call.stage (length call.seen)) call.seen)

-- the object of this serial lives
abbrev pub IsMade : Config → ℕ → Type 0
IsMade conf serial = lives (present conf).objects serial ≡ true
