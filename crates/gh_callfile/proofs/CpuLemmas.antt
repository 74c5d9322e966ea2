-- The CPUs of a boot file's lines are the CPU rows of the state that they make.
use Rattle.std.proofs.Common.{◌≡◌, ℕ, ◌+◌, ◌==◌, ◌||◌, Bool, true}
use Rattle.std.proofs.Common.{false, List, [], ◌∷◌, ◌++◌, is_some, count_by}
use Rattle.std.proofs.Common.{fold, ap, sym, ◌∙◌, arith, refl, if◌then◌else◌}
use Rattle.std.specs.List.{find, list_any}
use Rattle.std.proofs.lemmas.List.Sums.{sum_by-cons, sum_by_push}
use Rattle.std.proofs.lemmas.Bool.Decides.{nat_tests}
use Rattle.gh_model.specs.declared.boot_line.BootLine.{BootLine}
use Rattle.gh_model.specs.declared.boot_line.BootLine.TheVariants.{Pages, Partition, Cspace}
use Rattle.gh_model.specs.declared.boot_line.BootLine.TheVariants.{Addrspace, Doorbell}
use Rattle.gh_model.specs.declared.boot_line.BootLine.TheVariants.{RootExtent, Extent, Msgqueue}
use Rattle.gh_model.specs.declared.boot_line.BootLine.TheVariants.{Map, Cap, Vm, Rm, Link}
use Rattle.gh_model.specs.declared.rows.CpuRow.{CpuRow}
use Rattle.gh_model.specs.declared.state.State.{State}
use Rattle.gh_model.specs.Boot.{after_line, boot_state, cpu_vms, empty_state, is_vm}
use Rattle.gh_model.specs.Rows.{cpu_row, is_cpu}
use Rattle.gh_callfile.specs.Schedule.{is_cpu_among, is_cpu_of, makes_manager, makes_vm}

-- a row of this CPU is there
abbrev has_cpu : List CpuRow → ℕ → Bool
has_cpu cpus cpu = is_some (find (is_cpu cpu) cpus)

has_step : (cpu : ℕ) (first : CpuRow) (cpus : List CpuRow) (row : CpuRow) (b : Bool) → is_cpu cpu first ≡ b
    → has_cpu (cpus ++ row ∷ []) cpu ≡ (has_cpu cpus cpu || is_cpu cpu row)
    → has_cpu ((first ∷ cpus) ++ row ∷ []) cpu ≡ (has_cpu (first ∷ cpus) cpu || is_cpu cpu row)
has_step cpu first cpus row true is_it has = rw is_it refl
has_step cpu first cpus row false is_it has = rw is_it has

has_one : (cpu : ℕ) (row : CpuRow) (b : Bool) → is_cpu cpu row ≡ b → has_cpu (row ∷ []) cpu ≡ is_cpu cpu row
has_one cpu row true is_it = rw is_it refl
has_one cpu row false is_it = rw is_it refl

has_push : (cpu : ℕ) (cpus : List CpuRow) (row : CpuRow) → has_cpu (cpus ++ row ∷ []) cpu ≡ (has_cpu cpus cpu || is_cpu cpu row)
has_push cpu [] row = has_one cpu row _ refl
has_push cpu (first ∷ cpus) row = has_step cpu first cpus row _ refl (has_push cpu cpus row)

-- the rows are those of so many VMs, and of the resource manager or not
record AreOf (cpus : List CpuRow) (manager : Bool) (vms : ℕ) : Type 0 where
  count : cpu_vms cpus ≡ vms
  rows : (cpu : ℕ) → has_cpu cpus cpu ≡ is_cpu_among manager vms cpu

or_false : (b : Bool) → (b || false) ≡ b
or_false true = refl
or_false false = refl

or_true : (b : Bool) → (b || true) ≡ true
or_true true = refl
or_true false = refl

or_more : (a b c : Bool) → ((a || b) || c) ≡ (a || (b || c))
or_more true b c = refl
or_more false b c = refl

-- one VM more
vm_more : (manager : Bool) (vms cpu : ℕ) → (is_cpu_among manager vms cpu || (vms + 1 == cpu)) ≡ is_cpu_among manager (vms + 1) cpu
vm_more manager vms cpu = grind (arith, nat_tests)

manager_more : (manager : Bool) (vms cpu : ℕ) → (is_cpu_among manager vms cpu || (0 == cpu)) ≡ is_cpu_among true vms cpu
manager_more manager vms cpu = grind (arith, nat_tests)

unchanged : (cpus : List CpuRow) (manager : Bool) (vms : ℕ) → AreOf cpus manager vms → AreOf cpus (manager || false) (vms + 0)
unchanged cpus manager vms are = let none : vms + 0 ≡ vms = omega arith in rw (or_false manager, none) are

vm_step : (cpus : List CpuRow) (manager : Bool) (vms : ℕ) (row : CpuRow) → row.cpu.0 ≡ vms + 1 → AreOf cpus manager vms → AreOf (cpus ++ row ∷ []) (manager || false) (vms + 1)
vm_step cpus manager vms row number are =
    let is_one : is_vm row ≡ true = rw number (grind (arith, nat_tests)) in
    let count : cpu_vms (cpus ++ row ∷ []) ≡ vms + 1 = sum_by_push (λ (one : CpuRow). if is_vm one then 1 else 0) cpus row ∙ rw (is_one, are.count) refl in
    record {
      count = count;
      rows = λ cpu. has_push cpu cpus row ∙ rw (are.rows cpu, number, or_false manager) (vm_more manager vms cpu);
    }

manager_step : (cpus : List CpuRow) (manager : Bool) (vms : ℕ) (row : CpuRow) → row.cpu.0 ≡ 0 → AreOf cpus manager vms → AreOf (cpus ++ row ∷ []) (manager || true) (vms + 0)
manager_step cpus manager vms row number are =
    let is_none : is_vm row ≡ false = rw number refl in
    let count : cpu_vms (cpus ++ row ∷ []) ≡ vms + 0 = sum_by_push (λ (one : CpuRow). if is_vm one then 1 else 0) cpus row ∙ rw (is_none, are.count) refl in
    let no_more : vms + 0 ≡ vms = omega arith in
    let is_manager : (manager || true) ≡ true = or_true manager in
    record {
      count = count;
      rows = λ cpu. has_push cpu cpus row ∙ rw (are.rows cpu, number, is_manager, no_more) (manager_more manager vms cpu);
    }

line_step : (s : State) (line : BootLine) (manager : Bool) (vms : ℕ) → AreOf s.cpus manager vms
    → AreOf (after_line s line).cpus (manager || makes_manager line) (vms + (if makes_vm line then 1 else 0))
line_step s (Pages count) manager vms are = unchanged s.cpus manager vms are
line_step s (Partition quota) manager vms are = unchanged s.cpus manager vms are
line_step s (Cspace partition) manager vms are = unchanged s.cpus manager vms are
line_step s (Addrspace partition) manager vms are = unchanged s.cpus manager vms are
line_step s (Doorbell partition) manager vms are = unchanged s.cpus manager vms are
line_step s (RootExtent partition) manager vms are = unchanged s.cpus manager vms are
line_step s (Extent partition parent offset count access held_offset held_count) manager vms are = unchanged s.cpus manager vms are
line_step s (Msgqueue partition depth size) manager vms are = unchanged s.cpus manager vms are
line_step s (Map space extent base offset count access) manager vms are = unchanged s.cpus manager vms are
line_step s (Cap cspace slot object rights master) manager vms are = unchanged s.cpus manager vms are
line_step s (Vm cspace space) manager vms are = vm_step s.cpus manager vms _ (ap (λ (n : ℕ). n + 1) are.count) are
line_step s (Rm cspace space partition) manager vms are = manager_step s.cpus manager vms _ refl are
line_step s (Link vm extent request reply) manager vms are = unchanged s.cpus manager vms are

-- the CPU rows after lines are those before and one for each line that makes a CPU
along : (lines : List BootLine) (s : State) (manager : Bool) (vms : ℕ) → AreOf s.cpus manager vms
    → AreOf (fold after_line s lines).cpus (manager || list_any makes_manager lines) (vms + count_by makes_vm lines)
along [] s manager vms are = unchanged s.cpus manager vms are
along (line ∷ lines) s manager vms are =
    let rest = along lines (after_line s line) (manager || makes_manager line) (vms + (if makes_vm line then 1 else 0)) (line_step s line manager vms are) in
    let count : count_by makes_vm (line ∷ lines) ≡ (if makes_vm line then 1 else 0) + count_by makes_vm lines = sum_by-cons (λ (one : BootLine). if makes_vm one then 1 else 0) line lines in
    let sum : vms + count_by makes_vm (line ∷ lines) ≡ (vms + (if makes_vm line then 1 else 0)) + count_by makes_vm lines = omega arith in
    rw (sum, ← or_more manager (makes_manager line) (list_any makes_manager lines)) rest

no_cpus : AreOf [] false 0
no_cpus = record { count = refl; rows = λ cpu. grind (arith, nat_tests) }

-- a CPU of the lines is one that the boot state has a row for
pub cpus_have_rows : (lines : List BootLine) (cpu : ℕ) → is_cpu_of lines cpu ≡ is_some (cpu_row (boot_state lines) cpu)
cpus_have_rows lines cpu =
    let none : 0 + count_by makes_vm lines ≡ count_by makes_vm lines = omega arith in
    sym (rw none at ((along lines empty_state false 0 no_cpus).rows cpu))
