-- What a program of any kind makes: its answers, and the frames of its calls.
use Rattle.std.specs.Prelude.{◌==◌, ◌+◌, ℕ, Bool, true, false, List, []}
use Rattle.std.specs.Prelude.{◌∷◌, Option, Some, None, if◌then◌else◌}
use Rattle.std.specs.Borrow.{Bor}
use Rattle.std.specs.Option.{option_map}
use Rattle.gh_base.specs.declared.frame.Frame.{Frame}
use Rattle.gh_base.specs.declared.frame.Reply.{Reply}
use Rattle.gh_model.specs.declared.program.Standing.{Standing}
use Rattle.gh_model.specs.declared.program.Step.{Step}
use Rattle.gh_model.specs.declared.program.Step.TheVariants.{Make, Idle, End}
use Rattle.gh_model.specs.Program.{exit_frame, is_exit, last_number}

-- the reply that is handed over, if any
abbrev pub told : Option (Bor Reply) → Option Reply
told last = option_map (λ (reply : Bor Reply). reply.now) last

-- the step is a call
abbrev pub is_call : Step → Bool
is_call (Make frame) = true
is_call Idle = false
is_call End = false

-- the step is to wait for a ring
abbrev pub is_idle : Step → Bool
is_idle (Make frame) = false
is_idle Idle = true
is_idle End = false

-- the frame of a step: a program that has ended, or that waits again, makes the exit call
abbrev pub step_frame : Step → Frame
step_frame (Make frame) = frame
step_frame Idle = exit_frame
step_frame End = exit_frame

-- no call follows an exit call
abbrev pub unless_exit : Frame → List Frame → List Frame
unless_exit frame others = if is_exit frame then [] else others

-- a program as its answers and the states after them
module _ {P : Type 0} (answer : P → Option Reply → Step)
    (after : P → Option Reply → P) where
  -- what a program does next where it was given this answer: an idle one is asked again, without a
  -- reply
  abbrev pub step_after : Step → P → Step
  step_after (Make frame) next = Make frame
  step_after Idle next = answer next None
  step_after End next = End

  abbrev pub state_after : Step → P → P
  state_after (Make frame) next = next
  state_after Idle next = after next None
  state_after End next = next

  -- what it does next once a ring has come if it waits for one
  abbrev pub next_step : P → Option Reply → Step
  next_step program last = step_after (answer program last) (after program last)

  abbrev pub next_state : P → Option Reply → P
  next_state program last = state_after (answer program last) (after program last)

  -- a program that is asked for its call of this number, by the reply to the one before. The call
  -- of the last number is the exit call whatever the program, which isn't asked for it
  abbrev pub asked : ℕ → P → Option Reply → Standing P
  asked number program last =
      if number == last_number then record { program = program; frame = exit_frame }
      else record { program = next_state program last; frame = step_frame (next_step program last) }

  -- the frames of a program's calls from this number on, of which the first is made, for the
  -- replies that they get. An exit call is the last
  abbrev pub frames_on : ℕ → Standing P → List Reply → List Frame
  frames_on number standing [] = []
  frames_on number standing (reply ∷ replies) =
      standing.frame
      ∷ unless_exit standing.frame
      (frames_on (number + 1) (asked (number + 1) standing.program (Some reply)) replies)

  -- the frames of all its calls
  abbrev pub frames_made : P → List Reply → List Frame
  frames_made program replies = frames_on 1 (asked 1 program None) replies
