-- The program of a call file, answer by answer.
use Rattle.std.specs.Prelude.{ℕ, ◌≡◌, ◌+◌, ◌<◌, ◌≤◌, Bool, true, List}
use Rattle.std.specs.Prelude.{length, drop, Option, Some, None, nat_lt, if◌then◌else◌}
use Rattle.gh_base.specs.declared.frame.Reply.{Reply}
use Rattle.gh_model.specs.declared.program.Line.{Line}
use Rattle.gh_model.specs.declared.program.Step.{Step}
use Rattle.gh_model.specs.declared.program.Step.TheVariants.{Make, End}
use Rattle.gh_model.specs.Program.{Position, start, next_frame, after_reply, last_number}
use Rattle.gh_callfile.specs.declared.vm_program.Place.{Place}

-- how far a program has come: the number of its last call, 0 before the first, and where it stood
-- when it made that call
pub record Progress : Type 0 where
  pub made : ℕ
  pub position : Position

-- a program that has made no call
abbrev pub fresh : List Line → Progress
fresh lines = record { made = 0; position = start lines }

-- where it stands once the reply to its last call has come
abbrev pub position_now : Progress → Option Reply → Position
position_now progress None = progress.position
position_now progress (Some reply) =
    after_reply progress.position (next_frame progress.made progress.position.left) reply

-- the step of a program that has made so many calls and stands there
abbrev pub step_from : ℕ → Position → Step
step_from made position = if position.ended then End else Make (next_frame (made + 1) position.left)

-- how many calls it has made then
abbrev pub made_from : ℕ → Position → ℕ
made_from made position = if position.ended then made else made + 1

-- what the program does next
abbrev pub vm_answer : Progress → Option Reply → Step
vm_answer progress last = step_from progress.made (position_now progress last)

-- how far it has come then
abbrev pub vm_after : Progress → Option Reply → Progress
vm_after progress last =
    record {
      made = made_from progress.made (position_now progress last);
      position = position_now progress last;
    }

-- it has made a call, so it goes on by a reply
abbrev pub has_made_one : Progress → Bool
has_made_one progress = nat_lt 0 progress.made

-- the position that a place in the lines stands for
abbrev pub position_at : List Line → Place → Position
position_at lines place = record {
  left = drop place.at lines;
  tries = place.tries;
  ended = place.ended;
}

-- how far a program has come that has made so many calls and stands at this place
abbrev pub progress_at : ℕ → List Line → Place → Progress
progress_at made lines place = record { made = made; position = position_at lines place }

-- what holds between two answers: the lines' end isn't passed, the calls are numbered, and only a
-- call ends a program
pub record IsUnderWay (lines : List Line) (place : Place) (made : ℕ) : Type 0 where
  pub within : place.at ≤ length lines
  pub numbered : made ≤ last_number
  pub ended_by_call : place.ended ≡ true → 0 < made
