-- What a step makes of its files: the run of the boot file's VMs by the schedule, and its text.
use Rattle.std.specs.Prelude.{ℕ, List, [], IfOk, Result, Ok, Err}
use Rattle.gh_driver.specs.FileRun.{FinishedRun, file_run}
use Rattle.gh_model.specs.Run.{IsRun, file_frames}
use Rattle.gh_model.specs.Text.{history_text}
use Rattle.gunyah.specs.Input.{step_input}
use Rattle.gunyah.specs.declared.input.StepInput.{StepInput}
use Rattle.gunyah.specs.declared.read_err.BadFile.{BadFile}

-- the text of a run
abbrev pub text_of_run : FinishedRun → List ℕ
text_of_run run = history_text run.entries run.marks run.state

-- the run of what was read
abbrev pub input_run : StepInput → FinishedRun
input_run input = file_run input.boot input.schedule input.calls

-- the text of the run of what was read
abbrev pub text_of_input : StepInput → List ℕ
text_of_input input = text_of_run (input_run input)

-- the output of what was read
abbrev pub output_of : Result StepInput BadFile → Result (List ℕ) BadFile
output_of (Ok input) = Ok (text_of_input input)
output_of (Err fault) = Err fault

-- the output of a step over files with these texts
abbrev pub step_output : List (List ℕ) → Result (List ℕ) BadFile
step_output texts = output_of (step_input texts)

-- no output where a file is faulty
abbrev pub text_or_nothing : Result (List ℕ) BadFile → List ℕ
text_or_nothing (Ok text) = text
text_or_nothing (Err fault) = []

-- the output of a step
abbrev pub step_text : List (List ℕ) → List ℕ
step_text texts = text_or_nothing (step_output texts)

-- the run of what was read is a run: a legal history, graced, and its calls are those of the VMs'
-- programs
abbrev pub InputRuns : StepInput → Type 0
InputRuns input =
    IsRun input.boot (file_frames input.calls) (input_run input).entries (input_run input).marks
    (input_run input).state

-- where the texts are an input, its run is a run
abbrev pub StepRuns : List (List ℕ) → Type 0
StepRuns texts = IfOk (step_input texts) InputRuns
