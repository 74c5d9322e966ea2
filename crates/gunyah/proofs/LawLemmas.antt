-- The run of the files under any names is legal.
use Rattle.std.proofs.Common.{◌≡◌, ℕ, true, List, [], ◌∷◌, Option, None}
use Rattle.std.proofs.Common.{Some, Result, Ok, Err, IfOk, IfSome, map, subst, refl}
use Rattle.std.specs.Prelude.{◌||◌, ◌+◌, ◌≤◌, suc, Bool, false}
use Rattle.std.specs.Prelude.{not, length, nat_lt, if◌then◌else◌}
use Rattle.std.specs.List.{position, position_or_len, prefix_len}
use Rattle.std.proofs.Common.{arith}
use Rattle.std.proofs.lemmas.Bool.{leb-true}
use Rattle.std.proofs.lemmas.Bool.Decides.{nat_tests}
use Rattle.gh_base.specs.declared.ids.CpuNo.{CpuNo}
use Rattle.gh_bootfile.specs.BootFile.{boot_of, told}
use Rattle.gh_bootfile.proofs.FitsLaw.{boot_of_fits}
use Rattle.gh_callfile.specs.Schedule.{makes_manager}
use Rattle.gh_driver.proofs.FileRunLaw.{file_run_is_run}
use Rattle.gh_model.specs.declared.boot_line.BootLine.{BootLine}
use Rattle.gh_model.specs.declared.boot_line.BootLine.TheVariants.{Pages, Partition, Cspace}
use Rattle.gh_model.specs.declared.boot_line.BootLine.TheVariants.{Addrspace, Doorbell}
use Rattle.gh_model.specs.declared.boot_line.BootLine.TheVariants.{RootExtent, Extent, Msgqueue}
use Rattle.gh_model.specs.declared.boot_line.BootLine.TheVariants.{Map, Cap, Vm, Rm, Link}
use Rattle.gh_model.specs.declared.program.Line.{Line}
use Rattle.gh_model.specs.Boot.{boot_fits, has_manager, is_manager_line}
use Rattle.gh_bootfile.specs.BootFile.{and_then}
use Rattle.gunyah.specs.Input.{sizes_on, refused_at, boot_result, boot_input}
use Rattle.gunyah.specs.Input.{schedule_input, vm_lines, calls_on, input_with, input_of}
use Rattle.gunyah.specs.Outcome.{texts_under}
use Rattle.gunyah.specs.Step.{InputRuns, StepRuns}
use Rattle.gunyah.specs.declared.read_err.BadFile.{BadFile}

-- what holds of whatever a second reading gives holds of both
then_ok : {A B : Type 0} (P : B → Type 0) (read : Result A BadFile) (next : A → Result B BadFile) → ((value : A) → read ≡ Ok value → IfOk (next value) P) → IfOk (and_then read next) P
then_ok P (Ok value) next holds = holds value refl
then_ok P (Err fault) next holds = tt

-- the lines are those of a boot file without a resource manager
record IsTaken (lines : List BootLine) : Type 0 where
  fits : boot_fits lines ≡ true
  no_manager : has_manager lines ≡ false

runs : (lines : List BootLine) (cpus : List CpuNo) (calls : List (List Line)) → IsTaken lines
    → InputRuns (record { boot = lines; schedule = cpus; calls = calls })
runs lines cpus calls taken = file_run_is_run lines cpus calls taken.fits taken.no_manager

-- the two words for a manager's line are one
same_line : (line : BootLine) → is_manager_line line ≡ makes_manager line
same_line (Pages count) = refl
same_line (Partition quota) = refl
same_line (Cspace partition) = refl
same_line (Addrspace partition) = refl
same_line (Doorbell partition) = refl
same_line (RootExtent partition) = refl
same_line (Extent partition parent offset count access held_offset held_count) = refl
same_line (Msgqueue partition depth size) = refl
same_line (Map space extent base offset count access) = refl
same_line (Cap cspace slot object rights master) = refl
same_line (Vm cspace space) = refl
same_line (Rm cspace space partition) = refl
same_line (Link vm extent request reply) = refl

none_by : (here there others : Bool) (count before : ℕ) → here ≡ there → suc count ≤ (if not there then 1 + before else 0) → (count ≤ before → others ≡ false) → (here || others) ≡ false
none_by here true others count before same all rest = absurd (omega arith)
none_by here false others count before same all rest = rw same (rest (omega arith))

none_before : (lines : List BootLine) → length lines ≤ prefix_len (λ (line : BootLine). not (makes_manager line)) lines → has_manager lines ≡ false
none_before [] all = refl
none_before (line ∷ lines) all =
    none_by (is_manager_line line) (makes_manager line) (has_manager lines) (length lines) (prefix_len (λ (other : BootLine). not (makes_manager other)) lines) (same_line line) all (λ rest. none_before lines rest)

not_less : (a b : ℕ) (less : Bool) → nat_lt a b ≡ less → (if less then Some a else None) ≡ None → b ≤ a
not_less a b true is none = absurd (let never : ⊥ = cc in never)
not_less a b false is none = leb-true b a (grind (arith, nat_tests))

-- a boot file in which no line is found has no manager
no_manager_from : (lines : List BootLine) → position makes_manager lines ≡ None → has_manager lines ≡ false
no_manager_from lines none =
    none_before lines (not_less (position_or_len makes_manager lines) (length lines) (nat_lt (position_or_len makes_manager lines) (length lines)) refl none)

refused_fits : (found : Option ℕ) (lines value : List BootLine) → position makes_manager lines ≡ found → boot_fits lines ≡ true → refused_at found lines ≡ Ok value → IsTaken value
refused_fits None lines value is fits e =
    subst (λ (ls : List BootLine). IsTaken ls) (let same : lines ≡ value = cc in same) (record { fits = fits; no_manager = no_manager_from lines is })
refused_fits (Some at) lines value is fits e = absurd (let never : ⊥ = cc in never)

told_fits : (read : Result (List BootLine) ℕ) (value : List BootLine) → ((lines : List BootLine) → read ≡ Ok lines → boot_fits lines ≡ true) → boot_result (told read) ≡ Ok value → IsTaken value
told_fits (Ok lines) value fits e = refused_fits (position makes_manager lines) lines value refl (fits lines refl) e
told_fits (Err line) value fits e = absurd (let never : ⊥ = cc in never)

-- the boot file that a step reads is one
input_fits : (text : List ℕ) (lines : List BootLine) → boot_input text ≡ Ok lines → IsTaken lines
input_fits text lines e = told_fits (boot_of text) lines (boot_of_fits text) e

files_run : (texts : List (List ℕ)) → IfOk (input_of texts) InputRuns
files_run [] = tt
files_run (boot ∷ []) = tt
files_run (boot ∷ schedule ∷ calls) =
    then_ok InputRuns (boot_input boot) (λ lines. and_then (schedule_input lines schedule) (λ (cpus : List CpuNo). and_then (calls_on (vm_lines lines) 65536 [] calls) (input_with lines cpus)))
    (λ lines reads. then_ok InputRuns (schedule_input lines schedule) (λ (cpus : List CpuNo). and_then (calls_on (vm_lines lines) 65536 [] calls) (input_with lines cpus))
    (λ cpus also. then_ok InputRuns (calls_on (vm_lines lines) 65536 [] calls) (input_with lines cpus) (λ files too. runs lines cpus files (input_fits boot lines reads))))

step_runs : (texts : List (List ℕ)) → StepRuns texts
step_runs texts = then_ok InputRuns (sizes_on [] texts) input_of (λ files sized. files_run files)

pub legal_under : (contents : Option (List ℕ → List ℕ)) (names : List (List ℕ)) → IfSome (texts_under contents names) StepRuns
legal_under None names = tt
legal_under (Some file) names = step_runs (map file names)
