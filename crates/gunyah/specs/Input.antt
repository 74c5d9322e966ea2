-- What the files of a step read as: a boot file and the calls of its VMs, or the first fault.
use Rattle.std.specs.Prelude.{◌≡◌, ◌+◌, ◌-◌, ⊤, ℕ, Bool, List, []}
use Rattle.std.specs.Prelude.{◌∷◌, ◌++◌, true, length, count_by, nat_le, nat_lt}
use Rattle.std.specs.Prelude.{Option, Some, None, Result, Ok, Err, if◌then◌else◌}
use Rattle.std.specs.List.{All, position}
use Rattle.gh_base.specs.declared.ids.CpuNo.{CpuNo}
use Rattle.gh_base.specs.declared.limits.TheConstants.{BOOT_FILE_BYTES}
use Rattle.gh_bootfile.specs.BootFile.{and_then, boot_of, told}
use Rattle.gh_model.specs.Told.{told_number}
use Rattle.gh_callfile.specs.CallFile.{Reading, Good, BadAt, reading, calls_of_lines}
use Rattle.gh_callfile.specs.Schedule.{bad_item, cpus_of, is_cpu_of, makes_vm, makes_manager}
use Rattle.gh_model.specs.declared.boot_line.BootLine.{BootLine}
use Rattle.gh_model.specs.declared.program.Line.{Line}
use Rattle.gunyah.specs.declared.input.StepInput.{StepInput}
use Rattle.gunyah.specs.declared.read_err.BadFile.{BadFile}
use Rattle.gunyah.specs.declared.read_err.BadFile.TheVariants as bad
use Rattle.gunyah.specs.declared.read_err.ReadErr.{ReadErr}
use Rattle.gunyah.specs.declared.read_err.ReadErr.TheVariants as stop

-- sizes

-- the file has at most 8,388,608 bytes
abbrev pub is_small : List ℕ → Bool
is_small text = nat_le (length text) BOOT_FILE_BYTES

-- a file that isn't too large; files count from 1
abbrev pub sized : ℕ → List ℕ → Result (List ℕ) BadFile
sized number text = if is_small text then Ok text else Err (bad.TooLarge number)

-- files behind those so far, if none is too large
abbrev pub sizes_on : List (List ℕ) → List (List ℕ) → Result (List (List ℕ)) BadFile
sizes_on files [] = Ok files
sizes_on files (text ∷ texts) =
    and_then (sized (length files + 1) text) (λ file. sizes_on (files ++ file ∷ []) texts)

-- the boot file

-- the resource manager's program isn't built, so a boot file that has one is refused at its line
abbrev pub refused_at : Option ℕ → List BootLine → Result (List BootLine) BadFile
refused_at None lines = Ok lines
refused_at (Some at) lines = Err (bad.Boot (told_number (at + 2)))

-- a boot file without a resource manager; the line that makes one is bad
abbrev pub without_manager : List BootLine → Result (List BootLine) BadFile
without_manager lines = refused_at (position makes_manager lines) lines

-- what was read of a boot file: its lines, if none makes a resource manager, or its first bad line
abbrev pub boot_result : Result (List BootLine) ℕ → Result (List BootLine) BadFile
boot_result (Ok lines) = without_manager lines
boot_result (Err line) = Err (bad.Boot line)

-- the boot file of a text
abbrev pub boot_input : List ℕ → Result (List BootLine) BadFile
boot_input text = boot_result (told (boot_of text))

-- the schedule

-- the schedule, or its first item that is no CPU of the boot file
abbrev pub schedule_result : Option ℕ → List CpuNo → Result (List CpuNo) BadFile
schedule_result None cpus = Ok cpus
schedule_result (Some item) cpus = Err (bad.Schedule item)

-- the schedule of a text, for a boot file of these lines
abbrev pub schedule_input : List BootLine → List ℕ → Result (List CpuNo) BadFile
schedule_input lines text = schedule_result (bad_item lines text) (cpus_of text)

-- call files

-- how many VMs the boot file makes
abbrev pub vm_lines : List BootLine → ℕ
vm_lines lines = count_by makes_vm lines

-- what was read of a call file with this number: its lines, or its first bad one
abbrev pub calls_result : ℕ → Reading → Result (List Line) BadFile
calls_result number (Good lines) = Ok lines
calls_result number (BadAt line) = Err (bad.Calls number line)

-- a call file by its number among all files, with room for so many calls; a VM for which there is
-- none has line 0
abbrev pub call_file : Bool → ℕ → ℕ → List ℕ → Result (List Line) BadFile
call_file has_vm number room text =
    if has_vm then calls_result number (reading text room) else Err (bad.Calls number 0)

-- call files behind those so far, of VMs in order; the boot file and the schedule are files 1 and 2
abbrev pub calls_on :
    ℕ → ℕ → List (List Line) → List (List ℕ) → Result (List (List Line)) BadFile
calls_on vms room files [] = Ok files
calls_on vms room files (text ∷ texts) =
    and_then (call_file (nat_lt (length files) vms) (length files + 3) room text)
    (λ lines. calls_on vms (room - calls_of_lines lines) (files ++ lines ∷ []) texts)

-- all files

-- the input of these boot lines, this schedule and these call files
abbrev pub input_with :
    List BootLine → List CpuNo → List (List Line) → Result StepInput BadFile
input_with lines cpus calls = Ok (record { boot = lines; schedule = cpus; calls = calls })

-- a boot file, a schedule and call files. Fewer than two files are never asked for
abbrev pub input_of : List (List ℕ) → Result StepInput BadFile
input_of [] = Err (bad.Boot 0)
input_of (boot ∷ []) = Err (bad.Schedule 0)
input_of (boot ∷ schedule ∷ calls) =
    and_then (boot_input boot) (λ lines. and_then (schedule_input lines schedule)
    (λ cpus. and_then (calls_on (vm_lines lines) 65536 [] calls) (input_with lines cpus)))

-- the CPUs of the schedule are those of the boot file
abbrev pub HasItsCpus : StepInput → Type 0
HasItsCpus input = All (λ (cpu : CpuNo). is_cpu_of input.boot cpu.0 ≡ true) input.schedule

-- what the files of a step read as: first their sizes are looked at, and then each is read in turn
abbrev pub step_input : List (List ℕ) → Result StepInput BadFile
step_input texts = and_then (sizes_on [] texts) input_of

-- what a reader may answer: what the files read as, or their first fault. It may also stop for
-- want of memory, and where a load failed
abbrev pub Reads :
    {X Y : Type 0} → (Y → X) → Type 0 → Result X BadFile → Result Y ReadErr → Type 0
Reads shown Failing expected (Ok value) = expected ≡ Ok (shown value)
Reads shown Failing expected (Err (stop.Bad fault)) = expected ≡ Err fault
Reads shown Failing expected (Err stop.Failed) = Failing
Reads shown Failing expected (Err stop.NoMemory) = ⊤

-- the same for a reader that loads nothing, so that no load can fail
abbrev pub ReadsAs : {X : Type 0} → Result X BadFile → Result X ReadErr → Type 0
ReadsAs expected result = Reads (λ x. x) ⊥ expected result

-- the same for one that loads files
abbrev pub LoadsAs : {X : Type 0} → Result X BadFile → Result X ReadErr → Type 0
LoadsAs expected result = Reads (λ x. x) ⊤ expected result
