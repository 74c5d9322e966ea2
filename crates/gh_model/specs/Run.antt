-- A run: a legal history in which each CPU's calls are those of its program.
use Rattle.std.specs.Prelude.{◌≡◌, ◌==◌, ℕ, Bool, List, [], ◌∷◌}
use Rattle.std.specs.Prelude.{map, filter, Option, Some, None, slice_get}
use Rattle.gh_base.specs.declared.frame.Frame.{Frame}
use Rattle.gh_base.specs.declared.frame.Reply.{Reply}
use Rattle.gh_base.specs.declared.mark.Mark.{Mark}
use Rattle.gh_model.specs.declared.boot_line.BootLine.{BootLine}
use Rattle.gh_model.specs.declared.entry.Entry.{Entry}
use Rattle.gh_model.specs.declared.program.Line.{Line}
use Rattle.gh_model.specs.declared.state.State.{State}
use Rattle.gh_model.specs.Boot.{boot_state}
use Rattle.gh_model.specs.History.{Event, entry_of, replay}
use Rattle.gh_model.specs.Marks.{Made, mark_of, frame_of, reply_of}
use Rattle.gh_model.specs.Legal.{IsLegal}
use Rattle.gh_model.specs.Graced.{IsGraced}
use Rattle.gh_model.specs.Program.{program_frames}

-- each CPU's calls are, in order, those that its program makes for the replies in them
abbrev pub FollowPrograms : (ℕ → List Reply → List Frame) → (ℕ → List Made) → Type 0
FollowPrograms frames calls =
    (cpu : ℕ) → map frame_of (calls cpu) ≡ frames cpu (map reply_of (calls cpu))

-- the mark is of a call of this CPU
abbrev pub is_mark_of : ℕ → Mark → Bool
is_mark_of cpu mark = mark.cpu.0 == cpu

-- the entries and the finished calls are those of a legal and graced history of these programs,
-- which ends in this state. Beside the entries a history has the calls, bytes and words of its
-- acts, and beside the marks each CPU's calls have their frames and the words that their looks
-- found
pub record IsRun (boot : List BootLine) (frames : ℕ → List Reply → List Frame)
    (entries : List Entry) (marks : List Mark) (last : State) : Type 0 where
  pub history : List Event
  pub calls : ℕ → List Made
  pub its_entries : map entry_of history ≡ entries
  pub its_marks : (cpu : ℕ) → map mark_of (calls cpu) ≡ filter (is_mark_of cpu) marks
  pub its_state : replay (boot_state boot) history ≡ last
  pub legal : IsLegal (boot_state boot) history calls
  pub graced : IsGraced (boot_state boot) history calls
  pub programs : FollowPrograms frames calls

-- the lines of a VM's call file; a VM without one has none
abbrev pub lines_or_none : Option (List Line) → List Line
lines_or_none None = []
lines_or_none (Some lines) = lines

-- the lines of the call file of the VM on a CPU: file v is that of VM v, and the resource manager
-- has none
abbrev pub file_of : List (List Line) → ℕ → List Line
file_of files cpu = lines_or_none (slice_get ([] ∷ files) cpu)

-- what the programs of the call files make
abbrev pub file_frames : List (List Line) → ℕ → List Reply → List Frame
file_frames files cpu replies = program_frames (file_of files cpu) replies
