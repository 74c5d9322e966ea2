-- The program of a call file makes the frames of its lines, reply by reply.
use Rattle.std.proofs.Common.{◌≡◌, ◌==◌, ◌+◌, ◌∙◌, ℕ, Bool, true, false, List}
use Rattle.std.proofs.Common.{[], ◌∷◌, Option, Some, None, refl, sym, ap, if◌then◌else◌}
use Rattle.std.specs.Prelude.{nat_lt, ◌&&◌}
use Rattle.gh_base.specs.declared.frame.Frame.{Frame}
use Rattle.gh_base.specs.declared.frame.Reply.{Reply}
use Rattle.gh_model.specs.declared.program.Line.{Line}
use Rattle.gh_model.specs.declared.program.Standing.{Standing}
use Rattle.gh_model.specs.Program.{Position, after_line_reply, after_reply, asks_again}
use Rattle.gh_model.specs.Program.{exit_frame, frames_from, is_exit, last_number}
use Rattle.gh_model.specs.Program.{line_frame, next_frame, program_frames}
use Rattle.gh_model.specs.Programs.{asked, frames_made, frames_on}
use Rattle.gh_callfile.specs.VmProgress.{Progress, fresh, position_now, vm_after, vm_answer}

-- no frame follows the end of a program
ended_frames : (number : ℕ) (position : Position) (replies : List Reply) → position.ended ≡ true → frames_from number position replies ≡ []
ended_frames number position [] over = refl
ended_frames number position (reply ∷ replies) over = rw over refl

-- a program that is asked makes the frame of its place
module _ (progress : Progress) (last : Option Reply) (going : (position_now progress last).ended ≡ false) where
  abbrev place : Position
  place = position_now progress last

  abbrev its_frame : Frame
  its_frame = next_frame (progress.made + 1) place.left

  abbrev standing : Standing Progress
  standing = asked vm_answer vm_after (progress.made + 1) progress last

  frame_by : (is_last : Bool) → (progress.made + 1 == last_number) ≡ is_last → standing.frame ≡ its_frame
  frame_by true is = rw is refl
  frame_by false is = rw (is, going) refl

  frame_is : standing.frame ≡ its_frame
  frame_is = frame_by (progress.made + 1 == last_number) refl

  -- its next place, with one call more
  abbrev onward : Progress
  onward = record { made = progress.made + 1; position = place }

  program_by : (is_last : Bool) → (progress.made + 1 == last_number) ≡ is_last → is_exit its_frame ≡ false → standing.program ≡ onward
  program_by true is goes = absurd (let frame : its_frame ≡ exit_frame = rw is refl in let ends : is_exit its_frame ≡ true = ap is_exit frame in let never : ⊥ = cc in never)
  program_by false is goes = rw (is, going) refl

  program_is : is_exit its_frame ≡ false → standing.program ≡ onward
  program_is goes = program_by (progress.made + 1 == last_number) refl goes

-- the program goes on behind a line that is no exit call
stays_on : (again : Bool) (line : Line) (lines : List Line) (tries : ℕ)
    → (if◌then◌else◌ {A = Position} again
    (record { left = line ∷ lines; tries = tries + 1; ended = false })
    (record { left = lines; tries = 0; ended = false })).ended ≡ false
stays_on true line lines tries = refl
stays_on false line lines tries = refl

line_goes : (left : List Line) (tries : ℕ) (reply : Reply) → is_exit (line_frame left) ≡ false → (after_line_reply left tries reply).ended ≡ false
line_goes [] tries reply goes = absurd (let never : ⊥ = cc in never)
line_goes (line ∷ lines) tries reply goes = stays_on (asks_again reply && nat_lt (tries + 1) line.times) line lines tries

frame_by_number : (is_last : Bool) (left : List Line) → is_exit (if is_last then exit_frame else line_frame left) ≡ false → is_exit (line_frame left) ≡ false
frame_by_number true left goes = absurd (let never : ⊥ = cc in never)
frame_by_number false left goes = goes

reply_goes : (number : ℕ) (position : Position) (reply : Reply) → is_exit (next_frame number position.left) ≡ false → (after_reply position (next_frame number position.left) reply).ended ≡ false
reply_goes number position reply goes =
    rw goes (line_goes position.left position.tries reply (frame_by_number (number == last_number) position.left goes))

-- the frame that is next
abbrev frame_now : Progress → Option Reply → Frame
frame_now progress last = next_frame (progress.made + 1) (position_now progress last).left

-- what the program is asked next
abbrev asked_now : Progress → Option Reply → Standing Progress
asked_now progress last = asked vm_answer vm_after (progress.made + 1) progress last

-- the frames that the program makes from here on, and those behind the next
abbrev made_on : Progress → Option Reply → List Reply → List Frame
made_on progress last replies =
    frames_on vm_answer vm_after (progress.made + 1) (asked_now progress last) replies

abbrev made_behind : Progress → Option Reply → Reply → List Reply → List Frame
made_behind progress last reply replies =
    frames_on vm_answer vm_after (progress.made + 1 + 1)
    (asked vm_answer vm_after (progress.made + 1 + 1) (asked_now progress last).program (Some reply))
    replies

-- the frames of its place from here on, and those behind the next
abbrev placed_on : Progress → Option Reply → List Reply → List Frame
placed_on progress last replies =
    frames_from (progress.made + 1) (position_now progress last) replies

abbrev place_behind : Progress → Option Reply → Reply → Position
place_behind progress last reply =
    after_reply (position_now progress last) (frame_now progress last) reply

abbrev placed_behind : Progress → Option Reply → Reply → List Reply → List Frame
placed_behind progress last reply replies =
    frames_from (progress.made + 1 + 1) (place_behind progress last reply) replies

-- from any place on, the program makes the frames of the place, for the number of calls so far
behind : (progress : Progress) (last : Option Reply) (reply : Reply) (replies : List Reply)
    (going : (position_now progress last).ended ≡ false)
    → ((onward : Progress) → (position_now onward (Some reply)).ended ≡ false
    → made_on onward (Some reply) replies ≡ placed_on onward (Some reply) replies)
    → (exit : Bool)
    → is_exit (frame_now progress last) ≡ exit
    → (if exit then [] else made_behind progress last reply replies)
    ≡ placed_behind progress last reply replies
behind progress last reply replies going others true is =
    sym (ended_frames (progress.made + 1 + 1) (place_behind progress last reply) replies (rw is refl))
behind progress last reply replies going others false is =
    ap
    (λ (program : Progress). frames_on vm_answer vm_after (progress.made + 1 + 1)
    (asked vm_answer vm_after (progress.made + 1 + 1) program (Some reply)) replies)
    (program_is progress last going is)
    ∙ others (onward progress last going)
    (reply_goes (progress.made + 1) (position_now progress last) reply is)

pub frames_from_progress : (progress : Progress) (last : Option Reply) (replies : List Reply)
    → (position_now progress last).ended ≡ false
    → made_on progress last replies ≡ placed_on progress last replies
frames_from_progress progress last [] going = refl
frames_from_progress progress last (reply ∷ replies) going =
    ap
    (λ (frame : Frame). frame
    ∷ (if is_exit frame then [] else made_behind progress last reply replies))
    (frame_is progress last going)
    ∙ ap (λ (frames : List Frame). frame_now progress last ∷ frames)
    (behind progress last reply replies going
    (λ onward goes. frames_from_progress onward (Some reply) replies goes)
    (is_exit (frame_now progress last)) refl)
    ∙ sym
    (ap
    (λ (ended : Bool). if ended then []
    else frame_now progress last ∷ placed_behind progress last reply replies)
    going)

-- the frames that the program of a call file makes are those of its lines
pub makes_its_lines : (lines : List Line) (replies : List Reply) → frames_made vm_answer vm_after (fresh lines) replies ≡ program_frames lines replies
makes_its_lines lines replies = frames_from_progress (fresh lines) None replies refl
