-- What a command does to its files and its sink.
use Rattle.std.specs.Prelude.{◌≡◌, ◌<◌, ◌+◌, ◌-◌, ◌++◌}
use Rattle.std.specs.Prelude.{◌⊎◌, ⊤, ℕ, Bool, true, List, [], ◌∷◌}
use Rattle.std.specs.Prelude.{length, take, map, Option, IfSome, IsOk, Result, Ok, Err}
use Rattle.std.specs.List.{All}
use Rattle.std.specs.Option.{option_map, option_map_or}
use Rattle.std.specs.Io.KnownBytes.{append_known}
use Rattle.gh_base.specs.declared.limits.TheConstants.{BOOT_FILE_BYTES}
use Rattle.gh_io.specs.Outside.{Rose, request}
use Rattle.gh_io.specs.declared.files.Request.{Request}
use Rattle.gunyah.specs.Input.{step_input, is_small}
use Rattle.gunyah.specs.Status.{status_of_fault, status_of_stop}
use Rattle.gunyah.specs.Step.{step_text}
use Rattle.gunyah.specs.declared.input.StepInput.{StepInput}
use Rattle.gunyah.specs.declared.read_err.BadFile.{BadFile}
use Rattle.gunyah.specs.declared.read_err.BadFile.TheVariants as bad
use Rattle.gunyah.specs.declared.read_err.ReadErr.{ReadErr}
use Rattle.gunyah.specs.declared.read_err.ReadErr.TheVariants as stop
use Rattle.gunyah.specs.declared.status.Status.{Status}
use Rattle.gunyah.specs.declared.status.Status.TheVariants.{Done, Usage, ReadFault, WriteFault}
use Rattle.gunyah.specs.declared.status.Status.TheVariants.{BadBoot, BadCalls, BadSchedule}
use Rattle.gunyah.specs.declared.status.Status.TheVariants.{NoMemory, BadHistory, TooLarge}

-- how many bytes a sink tells
abbrev pub count_told : Option (List ℕ) → ℕ
count_told known = option_map_or (λ bytes. length bytes) known 0

-- a byte more than a file may have: so much is asked for, so that a file that is too large shows
abbrev pub most_asked : ℕ
most_asked = BOOT_FILE_BYTES + 1

-- what is asked for of these files
abbrev pub requests : List (List ℕ) → List Request
requests names = map (λ name. request name most_asked) names

-- how many requests were made between
abbrev pub made : List Request → List Request → ℕ
made before now = length now - length before

-- the bytes that were taken between are the first of these, where the sink tells them
abbrev pub TookFirst : Option (List ℕ) → Option (List ℕ) → List ℕ → Type 0
TookFirst before now bytes =
    now ≡ append_known before (take (count_told now - count_told before) bytes)

-- the texts of the files of these names, where the files tell what they hold
abbrev pub texts_under :
    Option (List ℕ → List ℕ) → List (List ℕ) → Option (List (List ℕ))
texts_under contents names = option_map (λ file. map file names) contents

-- the files hold a run, where they tell what they hold
abbrev pub HoldRun : Option (List (List ℕ)) → Type 0
HoldRun texts = IfSome texts (λ told. IsOk (step_input told))

-- the first fault of the files is this, where they tell what they hold
abbrev pub FirstFault : BadFile → Option (List (List ℕ)) → Type 0
FirstFault fault texts = IfSome texts (λ told. step_input told ≡ Err fault)

-- the cause of a status in the files: they hold a run, or this is their first fault. For Usage see
-- the words, and for faults of the outside the counts. Want of memory has none. A bad history
-- can't come yet
abbrev pub HasCause : Status → Option (List (List ℕ)) → Type 0
HasCause Done texts = HoldRun texts
HasCause Usage texts = ⊤
HasCause ReadFault texts = ⊤
HasCause WriteFault texts = HoldRun texts
HasCause (BadBoot line) texts = FirstFault (bad.Boot line) texts
HasCause (BadCalls file line) texts = FirstFault (bad.Calls file line) texts
HasCause (BadSchedule item) texts = FirstFault (bad.Schedule item) texts
HasCause NoMemory texts = ⊤
HasCause (BadHistory line) texts = ⊥
HasCause (TooLarge file) texts = FirstFault (bad.TooLarge file) texts

-- the count of the files' faults: it rose at a read fault, and is as before at every other status
abbrev pub FilesFaults : Status → ℕ → ℕ → Type 0
FilesFaults Done before now = now ≡ before
FilesFaults Usage before now = now ≡ before
FilesFaults ReadFault before now = Rose before now
FilesFaults WriteFault before now = now ≡ before
FilesFaults (BadBoot line) before now = now ≡ before
FilesFaults (BadCalls file line) before now = now ≡ before
FilesFaults (BadSchedule item) before now = now ≡ before
FilesFaults NoMemory before now = now ≡ before
FilesFaults (BadHistory line) before now = now ≡ before
FilesFaults (TooLarge file) before now = now ≡ before

-- the count of the sink's faults: it rose at a write fault, and is as before at every other status
abbrev pub SinkFaults : Status → ℕ → ℕ → Type 0
SinkFaults Done before now = now ≡ before
SinkFaults Usage before now = now ≡ before
SinkFaults ReadFault before now = now ≡ before
SinkFaults WriteFault before now = Rose before now
SinkFaults (BadBoot line) before now = now ≡ before
SinkFaults (BadCalls file line) before now = now ≡ before
SinkFaults (BadSchedule item) before now = now ≡ before
SinkFaults NoMemory before now = now ≡ before
SinkFaults (BadHistory line) before now = now ≡ before
SinkFaults (TooLarge file) before now = now ≡ before

-- of how many of all files was asked, by the status: of none at Usage, up to the one that is too
-- large, up to the one of a read fault, of some for want of memory, and of all at every other
-- status
abbrev pub AskedOf : Status → ℕ → ℕ → Type 0
AskedOf Done count all = count ≡ all
AskedOf Usage count all = count ≡ 0
AskedOf ReadFault count all = 0 < count
AskedOf WriteFault count all = count ≡ all
AskedOf (BadBoot line) count all = count ≡ all
AskedOf (BadCalls file line) count all = count ≡ all
AskedOf (BadSchedule item) count all = count ≡ all
AskedOf NoMemory count all = ⊤
AskedOf (BadHistory line) count all = ⊥
AskedOf (TooLarge file) count all = count ≡ file

-- the files before the last of so many aren't too large, where they tell what they hold
abbrev pub SmallBefore : ℕ → Option (List (List ℕ)) → Type 0
SmallBefore count texts =
    IfSome texts (λ told. All (λ text. is_small text ≡ true) (take (count - 1) told))

-- what was asked of the files of these names
pub record Asked (Count : ℕ → ℕ → Type 0) (before now : List Request)
    (names : List (List ℕ)) (texts : Option (List (List ℕ))) : Type 0 where
  -- the first of them, in order, each with its limit and one byte more
  pub first : now ≡ before ++ take (made before now) (requests names)
  -- so many
  pub count : Count (made before now) (length names)
  -- one behind another only where that one isn't too large
  pub small : SmallBefore (made before now) texts

-- what the sink took, by the status: the whole output of the files, a front part of it, or nothing
abbrev pub Wrote :
    Status → Option (List ℕ) → Option (List ℕ) → Option (List (List ℕ)) → Type 0
Wrote Done before now texts = IfSome texts (λ told. now ≡ append_known before (step_text told))
Wrote Usage before now texts = now ≡ before
Wrote ReadFault before now texts = now ≡ before
Wrote WriteFault before now texts = IfSome texts (λ told. TookFirst before now (step_text told))
Wrote (BadBoot line) before now texts = now ≡ before
Wrote (BadCalls file line) before now texts = now ≡ before
Wrote (BadSchedule item) before now texts = now ≡ before
Wrote NoMemory before now texts = IfSome texts (λ told. TookFirst before now (step_text told))
Wrote (BadHistory line) before now texts = now ≡ before
Wrote (TooLarge file) before now texts = now ≡ before

-- the status is Done or NoMemory
abbrev pub Succeeds : Status → Type 0
Succeeds Done = ⊤
Succeeds Usage = ⊥
Succeeds ReadFault = ⊥
Succeeds WriteFault = ⊥
Succeeds (BadBoot line) = ⊥
Succeeds (BadCalls file line) = ⊥
Succeeds (BadSchedule item) = ⊥
Succeeds NoMemory = ⊤
Succeeds (BadHistory line) = ⊥
Succeeds (TooLarge file) = ⊥

-- the status tells this fault, or that memory ran out
abbrev pub Tells : Status → BadFile → Type 0
Tells NoMemory fault = ⊤
Tells status fault = status ≡ status_of_fault fault

-- the status answers what was read: a run, or the fault that was found
abbrev pub AnswersInput : Status → Result StepInput BadFile → Type 0
AnswersInput status (Ok input) = Succeeds status
AnswersInput status (Err fault) = Tells status fault

-- over files and a sink that never fail, files that hold a run give all the output, and others
-- their first fault, unless memory runs out
abbrev pub Completes : Status → Bool → Bool → Option (List (List ℕ)) → Type 0
Completes status files sink texts =
    files ≡ true → sink ≡ true
    → IfSome texts (λ told. AnswersInput status (step_input told))

-- a reader of files

-- the count of faults, by whether all was read
abbrev pub ReadFaults : {X : Type 0} → Result X ReadErr → ℕ → ℕ → Type 0
ReadFaults (Ok value) before now = now ≡ before
ReadFaults (Err stopped) before now = FilesFaults (status_of_stop stopped) before now

-- of how many files was asked, by whether all was read
abbrev pub ReadOf : {X : Type 0} → Result X ReadErr → ℕ → ℕ → Type 0
ReadOf (Ok value) count all = count ≡ all
ReadOf (Err stopped) count all = AskedOf (status_of_stop stopped) count all

-- a load made its request; where memory ran out it may not have
abbrev pub AsksFor :
    {X : Type 0} → Result X ReadErr → List Request → List Request → List ℕ → Type 0
AsksFor (Ok value) before now name = now ≡ before ++ request name most_asked ∷ []
AsksFor (Err stop.Failed) before now name = now ≡ before ++ request name most_asked ∷ []
AsksFor (Err (stop.Bad fault)) before now name = now ≡ before ++ request name most_asked ∷ []
AsksFor (Err stop.NoMemory) before now name =
    (now ≡ before) ⊎ (now ≡ before ++ request name most_asked ∷ [])

-- the one fault that a load finds in a file
abbrev pub FindsLarge : {X : Type 0} → Result X ReadErr → ℕ → Type 0
FindsLarge (Ok value) number = ⊤
FindsLarge (Err stop.Failed) number = ⊤
FindsLarge (Err (stop.Bad fault)) number = fault ≡ bad.TooLarge number
FindsLarge (Err stop.NoMemory) number = ⊤

-- a fault of a file's form, and not of its size
abbrev pub OfForm : BadFile → Type 0
OfForm (bad.TooLarge file) = ⊥
OfForm (bad.Boot line) = ⊤
OfForm (bad.Schedule item) = ⊤
OfForm (bad.Calls file line) = ⊤

-- a reader of texts, which loads nothing and looks at no size
abbrev pub ReadsTexts : {X : Type 0} → Result X ReadErr → Type 0
ReadsTexts (Ok value) = ⊤
ReadsTexts (Err stop.Failed) = ⊥
ReadsTexts (Err (stop.Bad fault)) = OfForm fault
ReadsTexts (Err stop.NoMemory) = ⊤
