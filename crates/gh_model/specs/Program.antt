-- What a VM's program makes: the lines of its call file, and then the exit call.
use Rattle.std.specs.Prelude.{◌==◌, ◌&&◌, ◌||◌, ◌+◌, ◌%◌}
use Rattle.std.specs.Prelude.{◌^◌, ℕ, Bool, true, false, List, []}
use Rattle.std.specs.Prelude.{◌∷◌, slice_index, nat_lt, if◌then◌else◌}
use Rattle.gh_base.specs.declared.frame.Frame.{Frame}
use Rattle.gh_base.specs.declared.frame.Reply.{Reply}
use Rattle.gh_model.specs.declared.program.Line.{Line}

-- the exit call
abbrev pub exit_frame : Frame
exit_frame = record {
  x = 0xc600_8240 ∷ 0 ∷ 0 ∷ 0 ∷ 0 ∷ 0 ∷ 0 ∷ 0 ∷ 0 ∷ [];
  bytes = [];
}

-- the frame is the exit call
abbrev pub is_exit : Frame → Bool
is_exit frame = slice_index frame.x 0 % 2 ^ 32 == 0xc600_8240

-- how far a program has come: the lines that are left, how often the first of them was made, and
-- whether it has exited
pub record Position : Type 0 where
  pub left : List Line
  pub tries : ℕ
  pub ended : Bool

-- the call whose number is the last possible one is the exit call, whatever the program
abbrev pub last_number : ℕ
last_number = 458752

-- the frame of the first line, or the exit call where there is none
abbrev pub line_frame : List Line → Frame
line_frame [] = exit_frame
line_frame (line ∷ lines) = line.frame

-- the frame of the program's next call, which has this number
abbrev pub next_frame : ℕ → List Line → Frame
next_frame number left = if number == last_number then exit_frame else line_frame left

-- a queue was empty or full
abbrev pub asks_again : Reply → Bool
asks_again reply = (slice_index reply.x 0 == 60) || (slice_index reply.x 0 == 61)

-- a line is made again while its reply says so, at most so often in all
abbrev pub after_line_reply : List Line → ℕ → Reply → Position
after_line_reply [] tries reply = record { left = []; tries = 0; ended = true }
after_line_reply (line ∷ lines) tries reply =
    if asks_again reply && nat_lt (tries + 1) line.times
    then record { left = line ∷ lines; tries = tries + 1; ended = false }
    else record { left = lines; tries = 0; ended = false }

-- the program after its call's reply; an exit call ends it
abbrev pub after_reply : Position → Frame → Reply → Position
after_reply position frame reply =
    if is_exit frame then record position { ended = true }
    else after_line_reply position.left position.tries reply

-- the frames of a program from a call number on, for the replies that it gets
abbrev pub frames_from : ℕ → Position → List Reply → List Frame
frames_from number position [] = []
frames_from number position (reply ∷ replies) =
    if position.ended then []
    else next_frame number position.left
    ∷ frames_from (number + 1) (after_reply position (next_frame number position.left) reply)
    replies

-- a program that has made no call
abbrev pub start : List Line → Position
start lines = record { left = lines; tries = 0; ended = false }

-- the frames of a call file's program
abbrev pub program_frames : List Line → List Reply → List Frame
program_frames lines replies = frames_from 1 (start lines) replies
