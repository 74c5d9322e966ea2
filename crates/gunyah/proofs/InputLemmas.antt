-- What reading texts may find: no file that is too large, since sizes are looked at before.
use Rattle.std.proofs.Common.{◌+◌, ◌-◌, ℕ, Bool, true, false, List, [], ◌∷◌}
use Rattle.std.proofs.Common.{◌++◌, length, nat_lt, Option, None, Some, Result, Ok, Err, subst}
use Rattle.gh_base.specs.declared.ids.CpuNo.{CpuNo}
use Rattle.gh_callfile.specs.CallFile.{Reading, Good, BadAt, reading, calls_of_lines}
use Rattle.gh_callfile.specs.Schedule.{bad_item, cpus_of, makes_manager}
use Rattle.gh_bootfile.specs.BootFile.{boot_of, told}
use Rattle.gh_model.specs.declared.boot_line.BootLine.{BootLine}
use Rattle.gh_model.specs.declared.program.Line.{Line}
use Rattle.std.specs.List.{position}
use Rattle.std.specs.Prelude.{⊤}
use Rattle.gh_bootfile.specs.BootFile.{and_then}
use Rattle.gunyah.specs.Input.{refused_at, boot_result, boot_input}
use Rattle.gunyah.specs.Input.{schedule_result, schedule_input, vm_lines, calls_result}
use Rattle.gunyah.specs.Input.{call_file, calls_on, input_with, input_of, ReadsAs}
use Rattle.gunyah.specs.Outcome.{OfForm, ReadsTexts}
use Rattle.gunyah.specs.declared.input.StepInput.{StepInput}
use Rattle.gunyah.specs.declared.read_err.BadFile.{BadFile}
use Rattle.gunyah.specs.declared.read_err.ReadErr.{ReadErr}
use Rattle.gunyah.specs.declared.read_err.ReadErr.TheVariants as stop

-- what is read has no fault of its size
abbrev OfForms : {X : Type 0} → Result X BadFile → Type 0
OfForms (Ok value) = ⊤
OfForms (Err fault) = OfForm fault

then_of_forms : {A B : Type 0} (read : Result A BadFile) (next : A → Result B BadFile) → OfForms read → ((value : A) → OfForms (next value)) → OfForms (and_then read next)
then_of_forms (Ok value) next first rest = rest value
then_of_forms (Err fault) next first rest = first

refused_of_forms : (at : Option ℕ) (lines : List BootLine) → OfForms (refused_at at lines)
refused_of_forms None lines = tt
refused_of_forms (Some at) lines = tt

boot_of_forms : (read : Result (List BootLine) ℕ) → OfForms (boot_result read)
boot_of_forms (Ok lines) = refused_of_forms (position makes_manager lines) lines
boot_of_forms (Err line) = tt

schedule_of_forms : (item : Option ℕ) (cpus : List CpuNo) → OfForms (schedule_result item cpus)
schedule_of_forms None cpus = tt
schedule_of_forms (Some item) cpus = tt

reading_of_forms : (number : ℕ) (read : Reading) → OfForms (calls_result number read)
reading_of_forms number (Good lines) = tt
reading_of_forms number (BadAt line) = tt

call_file_of_forms : (has_vm : Bool) (number room : ℕ) (text : List ℕ) → OfForms (call_file has_vm number room text)
call_file_of_forms true number room text = reading_of_forms number (reading text room)
call_file_of_forms false number room text = tt

calls_of_forms : (vms room : ℕ) (files : List (List Line)) (texts : List (List ℕ)) → OfForms (calls_on vms room files texts)
calls_of_forms vms room files [] = tt
calls_of_forms vms room files (text ∷ texts) =
    then_of_forms (call_file (nat_lt (length files) vms) (length files + 3) room text) (λ lines. calls_on vms (room - calls_of_lines lines) (files ++ lines ∷ []) texts)
    (call_file_of_forms (nat_lt (length files) vms) (length files + 3) room text)
    (λ lines. calls_of_forms vms (room - calls_of_lines lines) (files ++ lines ∷ []) texts)

input_of_forms : (texts : List (List ℕ)) → OfForms (input_of texts)
input_of_forms [] = tt
input_of_forms (boot ∷ []) = tt
input_of_forms (boot ∷ schedule ∷ calls) =
    then_of_forms (boot_input boot) (λ lines. and_then (schedule_input lines schedule) (λ (cpus : List CpuNo). and_then (calls_on (vm_lines lines) 65536 [] calls) (input_with lines cpus)))
    (boot_of_forms (told (boot_of boot)))
    (λ lines. then_of_forms (schedule_input lines schedule) (λ (cpus : List CpuNo). and_then (calls_on (vm_lines lines) 65536 [] calls) (input_with lines cpus))
    (schedule_of_forms (bad_item lines schedule) (cpus_of schedule))
    (λ cpus. then_of_forms (calls_on (vm_lines lines) 65536 [] calls) (input_with lines cpus) (calls_of_forms (vm_lines lines) 65536 [] calls) (λ files. tt)))

-- a reader of texts loads nothing and finds no file too large
pub reads_texts : (texts : List (List ℕ)) (result : Result StepInput ReadErr) → ReadsAs (input_of texts) result → ReadsTexts result
reads_texts texts (Ok value) reads = tt
reads_texts texts (Err stop.Failed) reads = absurd reads
reads_texts texts (Err (stop.Bad fault)) reads = subst (λ (r : Result StepInput BadFile). OfForms r) reads (input_of_forms texts)
reads_texts texts (Err stop.NoMemory) reads = tt
