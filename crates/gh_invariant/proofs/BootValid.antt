-- The changes of a boot file may be made, and make its state of nothing, which is valid.
use Rattle.std.proofs.Common.{◌≡◌, ◌+◌, ◌≤◌, ◌<◌, ◌&&◌, ◌++◌, ◌∙◌, ℕ, true, false, Option, Some, None, find, is_some, List, [], ◌∷◌, length, refl, subst, arith, IsTrue, fold, nat_le}
use Rattle.std.specs.Prelude.{count_by}
use Rattle.std.proofs.lemmas.Bool.{and_parts, leb-true}
use Rattle.std.proofs.lemmas.List.{length-replicate}
use Rattle.std.proofs.lemmas.List.Sums.{fold-append}
use Rattle.gh_base.specs.declared.limits.TheConstants.{MACHINE_PAGES}
use Rattle.gh_model.specs.Boot.{after_line, boot_fits, boot_state, changes_of_line, empty_state, first_page, is_complete, is_master_of, is_row_of, line_fits, lines_fit, serial_of}
use Rattle.gh_model.specs.Changes.{changed, changed_all}
use Rattle.gh_model.specs.Fitting.{IsNumbered}
use Rattle.gh_model.specs.History.{is_retired}
use Rattle.gh_model.specs.Rows.{cpu_row, fills, is_cpu, is_extent, is_object, object_row, tells_setting}
use Rattle.gh_model.specs.Units.{given_by, used_by}
use Rattle.gh_model.specs.declared.boot_line.BootLine.{BootLine}
use Rattle.gh_model.specs.declared.boot_line.BootLine.TheVariants.{Pages, Partition, Cspace, Addrspace, Doorbell, RootExtent, Extent, Msgqueue, Map, Cap, Vm, Rm, Link}
use Rattle.gh_model.specs.declared.change.Change.{Change}
use Rattle.gh_model.specs.declared.rows.CpuRow.{CpuRow}
use Rattle.gh_model.specs.declared.state.State.{State}
use Rattle.gh_model.proofs.CpuRows.{empty_numbered, line_numbered}
use Rattle.gh_model.proofs.FittingLemmas.{moved_pages}
use Rattle.gh_model.proofs.BootFresh.{IsFresh, boot_fresh, line_fresh}
use Rattle.gh_invariant.specs.BootChanges.{boot_changes, changes_of_lines}
use Rattle.gh_invariant.specs.Grants as grants
use Rattle.gh_invariant.specs.Lives.{is_parentless}
use Rattle.gh_invariant.specs.Premises.{MayChangeAll}
use Rattle.gh_invariant.specs.Valid.{IsValid, IsValidTo}
use Rattle.gh_invariant.proofs.BootObjects.{NoneRetired, bell_may, cspace_may, extent_may, partition_may, queue_may, root_may, space_may, unretired_beside}
use Rattle.gh_invariant.proofs.BootRows.{AllRunning, cap_may, is_running, link_may, map_may, rm_may, vm_may}
use Rattle.gh_invariant.proofs.ChangesInOrder.{valid_all}
use Rattle.gh_invariant.proofs.Counting.{all_push, found_all}
use Rattle.gh_invariant.proofs.EntriesKept.{valid_unset}

-- behind lines that fit: a valid state, whose CPUs are numbered and run, with no object retired
record IsBooted (s : State) : Type 0 where
  pub valid : IsValidTo 1 s
  pub start : IsFresh s
  pub numbered : IsNumbered s
  pub fresh : NoneRetired s
  pub running : AllRunning s
  pub pages : 0 < length s.holders

-- each line but the pages
line_may : (s : State) (line : BootLine) → IsTrue (line_fits s line) → IsBooted s
    → MayChangeAll s (changes_of_line s line)
line_may s (Pages count) fits booted = absurd (let never : ⊥ = cc in never)
line_may s (Partition quota) fits booted = partition_may 1 s booted.valid booted.fresh quota fits
line_may s (Cspace partition) fits booted = cspace_may 1 s booted.valid booted.fresh partition fits
line_may s (Addrspace partition) fits booted =
    space_may 1 s booted.valid booted.fresh partition fits
line_may s (Doorbell partition) fits booted = bell_may 1 s booted.valid booted.fresh partition fits
line_may s (RootExtent partition) fits booted =
    root_may 1 s booted.valid booted.fresh partition booted.pages fits
line_may s (Extent partition parent offset count access held_offset held_count) fits booted =
    extent_may 1 s booted.valid booted.fresh partition parent offset count access held_offset
    held_count fits
line_may s (Msgqueue partition depth size) fits booted =
    queue_may 1 s booted.valid booted.fresh partition depth size fits
line_may s (Map space extent base offset count access) fits booted =
    map_may 1 s booted.valid booted.fresh space extent base offset count access fits
line_may s (Cap cspace slot object rights master) fits booted =
    cap_may 1 s booted.valid booted.fresh cspace slot object rights master fits
line_may s (Vm cspace space) fits booted =
    vm_may 1 s booted.valid booted.fresh cspace space booted.numbered fits
line_may s (Rm cspace space partition) fits booted =
    rm_may 1 s booted.valid booted.fresh cspace space partition fits
line_may s (Link vm extent request reply) fits booted =
    link_may 1 s booted.valid booted.fresh booted.running vm extent request reply fits

line_runs : (s : State) (line : BootLine) → AllRunning s → AllRunning (after_line s line)
line_runs s (Pages count) running = running
line_runs s (Partition quota) running = running
line_runs s (Cspace partition) running = running
line_runs s (Addrspace partition) running = running
line_runs s (Doorbell partition) running = running
line_runs s (RootExtent partition) running = running
line_runs s (Extent partition parent offset count access held_offset held_count) running = running
line_runs s (Msgqueue partition depth size) running = running
line_runs s (Map space extent base offset count access) running = running
line_runs s (Cap cspace slot object rights master) running = running
line_runs s (Vm cspace space) running = all_push is_running s.cpus _ running refl
line_runs s (Rm cspace space partition) running = all_push is_running s.cpus _ running refl
line_runs s (Link vm extent request reply) running = running

line_unretired : (s : State) (line : BootLine) → NoneRetired s → NoneRetired (after_line s line)
line_unretired s (Pages count) fresh = fresh
line_unretired s (Partition quota) fresh =
    λ object. unretired_beside s.objects _ refl object (fresh object)
line_unretired s (Cspace partition) fresh =
    λ object. unretired_beside s.objects _ refl object (fresh object)
line_unretired s (Addrspace partition) fresh =
    λ object. unretired_beside s.objects _ refl object (fresh object)
line_unretired s (Doorbell partition) fresh =
    λ object. unretired_beside s.objects _ refl object (fresh object)
line_unretired s (RootExtent partition) fresh =
    λ object. unretired_beside s.objects _ refl object (fresh object)
line_unretired s (Extent partition parent offset count access held_offset held_count) fresh =
    λ object. unretired_beside s.objects _ refl object (fresh object)
line_unretired s (Msgqueue partition depth size) fresh =
    λ object. unretired_beside s.objects _ refl object (fresh object)
line_unretired s (Map space extent base offset count access) fresh = fresh
line_unretired s (Cap cspace slot object rights master) fresh = fresh
line_unretired s (Vm cspace space) fresh = fresh
line_unretired s (Rm cspace space partition) fresh = fresh
line_unretired s (Link vm extent request reply) fresh = fresh

line_pages : (s : State) (line : BootLine) → IsTrue (line_fits s line) → 0 < length s.holders
    → 0 < length (after_line s line).holders
line_pages s (Pages count) fits some = absurd (let never : ⊥ = cc in never)
line_pages s (Partition quota) fits some = some
line_pages s (Cspace partition) fits some = some
line_pages s (Addrspace partition) fits some = some
line_pages s (Doorbell partition) fits some = some
line_pages s (RootExtent partition) fits some =
    omega (arith, length-replicate (length s.holders) (serial_of s.next_serial))
line_pages s (Extent partition parent offset count access held_offset held_count) fits some =
    omega (
      arith,
      moved_pages
          (nat_le (first_page s parent.0 + offset + held_offset + held_count) (length s.holders))
          (first_page s parent.0 + offset + held_offset) held_count (serial_of s.next_serial)
          s.holders refl,
    )
line_pages s (Msgqueue partition depth size) fits some = some
line_pages s (Map space extent base offset count access) fits some = some
line_pages s (Cap cspace slot object rights master) fits some = some
line_pages s (Vm cspace space) fits some = some
line_pages s (Rm cspace space partition) fits some = some
line_pages s (Link vm extent request reply) fits some = some

-- one line more, which fits
line_booted : (s : State) (line : BootLine) → IsTrue (line_fits s line) → IsBooted s
    → IsBooted (after_line s line)
line_booted s line fits booted = record {
  valid = valid_all 1 s (changes_of_line s line) (omega (arith, booted.start.none)) booted.valid
      (line_may s line fits booted);
  start = line_fresh s line booted.start;
  numbered = line_numbered s line fits booted.numbered;
  fresh = line_unretired s line booted.fresh;
  running = line_runs s line booted.running;
  pages = line_pages s line fits booted.pages;
}

-- changes behind changes
may_append : (s : State) (changes others : List Change) → MayChangeAll s changes
    → MayChangeAll (changed_all s changes) others → MayChangeAll s (changes ++ others)
may_append s [] others may later = later
may_append s (change ∷ changes) others may later =
    record { first = may.first; others = may_append (changed s change) changes others may.others later }

lines_may : (s : State) (lines : List BootLine) → IsTrue (lines_fit s lines) → IsBooted s
    → MayChangeAll s (changes_of_lines s lines)
lines_may s [] fit booted = tt
lines_may s (line ∷ lines) fit booted =
    let parts : (line_fits s line ≡ true) × (lines_fit (after_line s line) lines ≡ true) =
    and_parts (line_fits s line) (lines_fit (after_line s line) lines) fit in
    may_append s (changes_of_line s line) (changes_of_lines (after_line s line) lines)
    (line_may s line parts.0 booted)
    (lines_may (after_line s line) lines parts.1 (line_booted s line parts.0 booted))

-- nothing at all
pub empty_valid : IsValidTo 1 empty_state
empty_valid = record {
  objects = record {
    some = omega arith;
    once = λ n. (let none : count_by (is_object n) [] ≡ 0 = refl in omega arith);
    none = refl;
    later = λ n new. refl;
    housed = refl;
    partitions = omega arith;
    cspaces = omega arith;
  };
  slots = record {
    once = λ c n. (let none : count_by (fills c n) [] ≡ 0 = refl in omega arith);
    masters = λ n. (let none : count_by (is_master_of n) [] ≡ 0 = refl in omega arith);
    filled = refl;
    set_once = λ c n. (let none : count_by (tells_setting c n) [] ≡ 0 = refl in omega arith);
    set = refl;
  };
  rows = record {
    partitions = λ n. refl;
    bells = λ n. refl;
    queues = λ n. refl;
    extents = λ n. (let none : count_by (is_extent n) [] ≡ 0 = refl in omega arith);
  };
  units = record {
    within = λ n above.
        (let used : used_by [] n ≡ 0 = refl in let given : given_by [] n ≡ 0 =
        refl in omega arith);
    quotas = refl;
    costs = refl;
  };
  pages = record {
    few = omega arith;
    spans = refl;
    root = (let none : count_by is_parentless [] ≡ 0 = refl in omega arith);
    held = λ some page holder is. absurd (omega arith);
  };
  mappings = record {
    stand = refl;
    few = λ n. (let none : count_by (is_row_of n) [] ≡ 0 = refl in omega arith);
    apart = refl;
  };
  cpus = record {
    once = λ n. (let none : count_by (is_cpu n) [] ≡ 0 = refl in omega arith);
    attached = refl;
    linked = refl;
  };
  queues = refl;
  retired = λ object is. absurd (let never : ⊥ = cc in never);
  parcels = refl;
}

pages_may : (count : ℕ) → count ≤ MACHINE_PAGES
    → MayChangeAll empty_state (changes_of_line empty_state (Pages count))
pages_may count few = record { first = record { none = refl; few = few }; others = tt }

-- a machine of pages alone
pages_booted : (count : ℕ) → 1 ≤ count → count ≤ MACHINE_PAGES
    → IsBooted (after_line empty_state (Pages count))
pages_booted count some few = record {
  valid = valid_all 1 empty_state (changes_of_line empty_state (Pages count)) (omega arith)
      empty_valid (pages_may count few);
  start = record { unset = refl; none = refl; empty = refl };
  numbered = record { once = empty_numbered.once; beyond = empty_numbered.beyond };
  fresh = λ object. refl;
  running = refl;
  pages = omega (arith, length-replicate count (serial_of 0));
}

-- a boot file that fits: some pages, not too many, and lines that fit behind them
record HasParts (count : ℕ) (lines : List BootLine) : Type 0 where
  pub some : 1 ≤ count
  pub few : count ≤ MACHINE_PAGES
  pub fit : IsTrue (lines_fit (after_line empty_state (Pages count)) lines)

boot_parts : (count : ℕ) (lines : List BootLine) → IsTrue (boot_fits (Pages count ∷ lines))
    → HasParts count lines
boot_parts count lines fit =
    let last = and_parts _
    (is_complete (fold after_line (after_line empty_state (Pages count)) lines)) fit in
    let first =
    and_parts (nat_le 1 count && nat_le count MACHINE_PAGES)
    (lines_fit (after_line empty_state (Pages count)) lines) last.0 in
    let bounds : (nat_le 1 count ≡ true) × (nat_le count MACHINE_PAGES ≡ true) =
    and_parts _ _ first.0 in
    record {
      some = leb-true 1 count bounds.0;
      few = leb-true count MACHINE_PAGES bounds.1;
      fit = first.1;
    }

-- the changes of a boot file may be made
pub boot_may : (lines : List BootLine) → IsTrue (boot_fits lines)
    → MayChangeAll empty_state (boot_changes lines)
boot_may [] fit = absurd (let never : ⊥ = cc in never)
boot_may (Pages count ∷ lines) fit =
    let parts : HasParts count lines = boot_parts count lines fit in
    may_append empty_state (changes_of_line empty_state (Pages count))
    (changes_of_lines (after_line empty_state (Pages count)) lines) (pages_may count parts.few)
    (lines_may (after_line empty_state (Pages count)) lines parts.fit
    (pages_booted count parts.some parts.few))
boot_may (_ ∷ lines) fit = absurd (let never : ⊥ = cc in never)

-- they make its state
lines_make : (s : State) (lines : List BootLine)
    → changed_all s (changes_of_lines s lines) ≡ fold after_line s lines
lines_make s [] = refl
lines_make s (line ∷ lines) =
    fold-append changed s (changes_of_line s line) (changes_of_lines (after_line s line) lines)
    ∙ lines_make (after_line s line) lines

pub boot_makes : (lines : List BootLine)
    → changed_all empty_state (boot_changes lines) ≡ boot_state lines
boot_makes lines = lines_make empty_state lines

-- which is valid
pub boot_valid : (lines : List BootLine) → IsTrue (boot_fits lines) → IsValid (boot_state lines)
boot_valid lines fit =
    let made : IsValidTo 1 (boot_state lines) =
    subst (λ (s : State). IsValidTo 1 s) (boot_makes lines)
    (valid_all 1 empty_state (boot_changes lines) (omega arith) empty_valid (boot_may lines fit)) in
    valid_unset 1 (boot_state lines).entries (boot_state lines) (boot_fresh lines).unset made

-- what lines that fit keep
lines_booted : (s : State) (lines : List BootLine) → IsTrue (lines_fit s lines) → IsBooted s
    → IsBooted (fold after_line s lines)
lines_booted s [] fit booted = booted
lines_booted s (line ∷ lines) fit booted =
    let parts : (line_fits s line ≡ true) × (lines_fit (after_line s line) lines ≡ true) =
    and_parts (line_fits s line) (lines_fit (after_line s line) lines) fit in
    lines_booted (after_line s line) lines parts.1 (line_booted s line parts.0 booted)

boot_booted : (lines : List BootLine) → IsTrue (boot_fits lines) → IsBooted (boot_state lines)
boot_booted [] fit = absurd (let never : ⊥ = cc in never)
boot_booted (Pages count ∷ lines) fit =
    let parts : HasParts count lines = boot_parts count lines fit in
    lines_booted (after_line empty_state (Pages count)) lines parts.fit
    (pages_booted count parts.some parts.few)
boot_booted (_ ∷ lines) fit = absurd (let never : ⊥ = cc in never)

running_by : (cpu : ℕ) (s : State) (found : Option CpuRow) → find (is_cpu cpu) s.cpus ≡ found
    → AllRunning s → is_some found ≡ true → grants.is_running found ≡ true
running_by cpu s None is all there = absurd (let never : ⊥ = cc in never)
running_by cpu s (Some row) is all there = found_all (is_cpu cpu) is_running s.cpus row all is

-- in it no object is retired, and no CPU has exited
pub boot_unretired : (lines : List BootLine) (object : ℕ) → IsTrue (boot_fits lines)
    → is_retired (object_row (boot_state lines) object) ≡ false
boot_unretired lines object fit = (boot_booted lines fit).fresh object

pub boot_running : (lines : List BootLine) (cpu : ℕ) → IsTrue (boot_fits lines)
    → is_some (cpu_row (boot_state lines) cpu) ≡ true
    → grants.is_running (cpu_row (boot_state lines) cpu) ≡ true
boot_running lines cpu fit there =
    running_by cpu (boot_state lines) (cpu_row (boot_state lines) cpu) refl
    (boot_booted lines fit).running there
