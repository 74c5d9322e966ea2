-- In a sound configuration each object has few references: its objects have indices, and the CPUs and
-- links are those of the boot.
use Rattle.std.proofs.Common.{◌≡◌, ◌==◌, ◌+◌, ◌*◌, ◌^◌, ◌<◌, ◌≤◌, ◌∙◌, ℕ, zero, suc, Bool, true, false, List, [], ◌∷◌, ◌++◌, length, refl, sym, ap, arith, IsTrue, Option, Some, None, find, fold, if◌then◌else◌}
use Rattle.std.specs.Prelude.{◌&&◌, count_by, is_some, nat_lt}
use Rattle.std.specs.List.{list_all}
use Rattle.std.proofs.lemmas.Bool.{and_parts, eq-eqb, eqb-true, lt-ltb}
use Rattle.std.proofs.lemmas.Bool.Decides.{nat_tests}
use Rattle.std.proofs.lemmas.List.{length_push}
use Rattle.gh_base.specs.declared.limits.TheConstants.{CPUS, CSPACES, CSPACE_SLOTS, OBJECT_INDICES}
use Rattle.gh_model.proofs.FittingLemmas as fitting
use Rattle.gh_model.proofs.FittingLemmas.{boot_fitting}
use Rattle.gh_model.specs.Act.{counted}
use Rattle.gh_model.specs.Boot.{after_line, boot_fits, boot_state, empty_state, is_vm}
use Rattle.gh_model.specs.Changes.{as_exited, changed, changed_all}
use Rattle.gh_model.specs.Decide.{verdict}
use Rattle.gh_model.specs.Fitting.{IsFitting}
use Rattle.gh_model.specs.History.{Event, after_entry, after_event, after_verdict, is_retired, is_unretired, may_act, may_part, numbered, replay}
use Rattle.gh_model.specs.QueueCalls.{one_if}
use Rattle.gh_model.specs.References.{is_doomed, references}
use Rattle.gh_model.specs.Rows.{fills, is_cpu, is_object, object_row}
use Rattle.gh_model.specs.declared.boot_line.BootLine.{BootLine}
use Rattle.gh_model.specs.declared.boot_line.BootLine.TheVariants.{Pages, Partition, Cspace, Addrspace, Doorbell, RootExtent, Extent, Msgqueue, Map, Cap, Vm, Rm, Link}
use Rattle.gh_model.specs.declared.change.Change.{Change}
use Rattle.gh_model.specs.declared.change.Change.TheVariants as change
use Rattle.gh_model.specs.declared.change.Decision.{Decision}
use Rattle.gh_model.specs.declared.change.Decision.TheVariants.{Refuse, Unfinished, Make}
use Rattle.gh_model.specs.declared.entry.Entry.{Entry}
use Rattle.gh_model.specs.declared.entry.Entry.TheVariants.{Acted, Part, Retired, Reclaimed}
use Rattle.gh_model.specs.declared.rows.CpuRow.{CpuRow}
use Rattle.gh_model.specs.declared.rows.LinkRow.{LinkRow}
use Rattle.gh_model.specs.declared.rows.ObjectRow.{ObjectRow}
use Rattle.gh_model.specs.declared.state.State.{State}
use Rattle.gh_invariant.specs.Events.{judged_by, made_by}
use Rattle.gh_invariant.specs.Lives.{lives}
use Rattle.gh_invariant.specs.Valid.{IsValid}
use Rattle.std.specs.Option.{option_map_or}
use Rattle.gh_invariant.proofs.BootValid.{boot_valid}
use Rattle.gh_invariant.proofs.ChangedRow.{count_change_kept}
use Rattle.gh_invariant.proofs.Counting.{count_cons, count_unfound}
use Rattle.gh_invariant.proofs.EventWords.{judged_sets}
use Rattle.gh_invariant.proofs.SetsOne.{is_of_calls}
use Rattle.gh_events.specs.Bounded.{HasBound, many_references}
use Rattle.gh_events.specs.Config.{Config, is_at, object_at, present}
use Rattle.gh_events.specs.References.{ArePlaced}
use Rattle.gh_events.specs.Replayed.{HasState}
use Rattle.gh_events.proofs.BoundKeeps.{start_bounded}
use Rattle.gh_events.specs.Start.{start}
use Rattle.gh_events.proofs.Boxes.{Each, all_of, few_numbered, more_pass, one_of, ones}
use Rattle.gh_events.proofs.EntryMoves.{RowOf, row_of, there_lives}
use Rattle.gh_events.proofs.LengthBoot.{few_capabilities}
use Rattle.gh_events.proofs.FewRows.{few_references}
use Rattle.gh_events.proofs.Finding.{found_passes, same_number}

-- the CPUs and links of the boot stay

record KeepsSeats (s new : State) : Type 0 where
  links : new.links ≡ s.links
  cpus : length new.cpus ≡ length s.cpus

same_seats : (s : State) → KeepsSeats s s
same_seats s = record { links = refl; cpus = refl }

call_seats : (s : State) (one : Change) → is_of_calls one ≡ true → KeepsSeats s (changed s one)
call_seats s (change.SetPages count) calls = absurd (let never : ⊥ = cc in never)
call_seats s (change.AddPartition quota) calls = absurd (let never : ⊥ = cc in never)
call_seats s (change.AddRoot row) calls = absurd (let never : ⊥ = cc in never)
call_seats s (change.SetRoom queue depth size) calls = absurd (let never : ⊥ = cc in never)
call_seats s (change.FillSlot row) calls = absurd (let never : ⊥ = cc in never)
call_seats s (change.AddCpu row) calls = absurd (let never : ⊥ = cc in never)
call_seats s (change.AddLink row) calls = absurd (let never : ⊥ = cc in never)
call_seats s (change.Exit cpu) calls =
    let same : count_by (λ (row : CpuRow). true) (changed s (change.Exit cpu)).cpus ≡ count_by (λ (row : CpuRow). true) s.cpus =
    count_change_kept (λ (row : CpuRow). true) (is_cpu cpu.0) as_exited s.cpus (λ row. refl) in
    record { links = refl; cpus = omega (arith, same, ones (changed s (change.Exit cpu)).cpus, ones s.cpus) }
call_seats s _ calls = record { links = refl; cpus = refl }

calls_seats : (s : State) (changes : List Change) → IsTrue (list_all is_of_calls changes)
    → KeepsSeats s (changed_all s changes)
calls_seats s [] calls = same_seats s
calls_seats s (one ∷ others) calls =
    let both = and_parts (is_of_calls one) (list_all is_of_calls others) calls in
    let first : KeepsSeats s (changed s one) = call_seats s one both.0 in
    let rest : KeepsSeats (changed s one) (changed_all (changed s one) others) = calls_seats (changed s one) others both.1 in
    record { links = rest.links ∙ first.links; cpus = rest.cpus ∙ first.cpus }

decided_seats : (s : State) (decision : Decision) → IsTrue (list_all is_of_calls (made_by decision))
    → KeepsSeats s (after_verdict s (verdict s decision))
decided_seats s (Refuse errno) calls = record { links = refl; cpus = refl }
decided_seats s Unfinished calls = record { links = refl; cpus = refl }
decided_seats s (Make changes reply) calls =
    let keeps : KeepsSeats s (changed_all s changes) = calls_seats s changes calls in
    record { links = keeps.links; cpus = keeps.cpus }

if_seats : (s new : State) (allowed : Bool) → KeepsSeats s new → KeepsSeats s (if allowed then new else numbered s)
if_seats s new true keeps = keeps
if_seats s new false keeps = record { links = refl; cpus = refl }

entry_seats : (s : State) (event : Event) (entry : Entry) → KeepsSeats s (after_entry s event entry)
entry_seats s event (Acted cpu number) =
    if_seats s (after_verdict s (verdict s (judged_by s cpu.0 event))) (may_act s cpu.0 event.call event.words)
    (decided_seats s (judged_by s cpu.0 event) (judged_sets s cpu.0 event).calls)
entry_seats s event (Part cpu number space slot) =
    if_seats s _ (may_part (find (fills space.0 slot) s.caps)) (record { links = refl; cpus = refl })
entry_seats s event (Retired serial seen) =
    if_seats s (counted (changed s (change.Retire serial seen))) (is_doomed s serial.0 && is_unretired (object_row s serial.0))
    (record { links = refl; cpus = refl })
entry_seats s event (Reclaimed serial seen) =
    if_seats s (counted (changed s (change.Reclaim serial))) (is_doomed s serial.0 && is_retired (object_row s serial.0))
    (record { links = refl; cpus = refl })

history_seats : (s : State) (events : List Event) → KeepsSeats s (replay s events)
history_seats s [] = same_seats s
history_seats s (event ∷ events) =
    let first : KeepsSeats s (after_event s event) = entry_seats s event event.entry in
    let rest : KeepsSeats (after_event s event) (replay (after_event s event) events) =
    history_seats (after_event s event) events in
    record { links = rest.links ∙ first.links; cpus = rest.cpus ∙ first.cpus }

-- and are few

more : {X : Type 0} (rows : List X) (row : X) {n : ℕ} → n ≤ length rows → n ≤ length (rows ++ row ∷ [])
more rows row few = omega (arith, few, length_push rows row)

two_more : {X Y : Type 0} (rows : List X) (one other : X) (links : List Y) (link : Y)
    → 2 * length links ≤ length rows
    → 2 * length (links ++ link ∷ []) ≤ length ((rows ++ one ∷ []) ++ other ∷ [])
two_more rows one other links link few =
    omega (arith, few, length_push (rows ++ one ∷ []) other, length_push rows one, length_push links link)

-- a link takes two slots
line_links : (s : State) (line : BootLine) → 2 * length s.links ≤ length s.caps
    → 2 * length (after_line s line).links ≤ length (after_line s line).caps
line_links s (Pages count) few = few
line_links s (Partition quota) few = few
line_links s (Cspace partition) few = few
line_links s (Addrspace partition) few = few
line_links s (Doorbell partition) few = few
line_links s (RootExtent partition) few = few
line_links s (Extent partition parent offset count access first pages) few = few
line_links s (Msgqueue partition depth size) few = few
line_links s (Map space extent base offset count access) few = few
line_links s (Cap cspace slot object rights master) few = more s.caps _ few
line_links s (Vm cspace space) few = few
line_links s (Rm cspace space partition) few = more s.caps _ few
line_links s (Link vm extent request reply) few = two_more s.caps _ _ s.links _ few

lines_links : (s : State) (lines : List BootLine) → 2 * length s.links ≤ length s.caps
    → 2 * length (fold after_line s lines).links ≤ length (fold after_line s lines).caps
lines_links s [] few = few
lines_links s (line ∷ lines) few = lines_links (after_line s line) lines (line_links s line few)

pub boot_links : (lines : List BootLine) → 2 * length (boot_state lines).links ≤ length (boot_state lines).caps
boot_links lines = lines_links empty_state lines (omega arith)

-- a VM, or the manager
one_each : (rows : List CpuRow) → length rows ≡ count_by is_vm rows + count_by (is_cpu 0) rows
one_each [] = refl
one_each (row ∷ rows) =
    omega (arith, count_cons is_vm row rows, count_cons (is_cpu 0) row rows, either row.cpu.0, one_each rows)
  where
    either : (n : ℕ) → one_if (nat_lt 0 n) + one_if (n == 0) ≡ 1
    either zero = refl
    either (suc n) =
        let some : nat_lt 0 (suc n) ≡ true = grind (arith, nat_tests) in
        let other : (suc n == 0) ≡ false = grind (arith, nat_tests) in
        rw (some, other) refl

pub boot_cpus : (lines : List BootLine) → IsTrue (boot_fits lines) → length (boot_state lines).cpus ≤ CPUS
boot_cpus lines fits =
    let fitting : IsFitting (boot_state lines) = boot_fitting lines fits in
    omega (arith, one_each (boot_state lines).cpus, fitting.vms, fitting.numbered.once 0)

-- objects, each at its index

module _ (conf : Config) (valid : IsValid (present conf)) (state : HasState conf) (placed : ArePlaced conf) where
  abbrev objects : List ObjectRow
  objects = (present conf).objects

  member_lives : Each (λ (row : ObjectRow). lives objects row.serial.0 ≡ true) objects
  member_lives i row is = some_found (find (is_object row.serial.0) objects) refl
    where
      some_found : (found : Option ObjectRow) → find (is_object row.serial.0) objects ≡ found → is_some found ≡ true
      some_found (Some one) same = refl
      some_found None same =
          absurd (omega (arith, one_of (is_object row.serial.0) objects i row is (same_number row.serial.0), count_unfound (is_object row.serial.0) objects same))

  at_index : ℕ → ObjectRow → Bool
  at_index at row = is_at conf.index at row

  member_same : (at : ℕ) (found : ObjectRow) → find (at_index at) objects ≡ Some found
      → Each (λ (row : ObjectRow). at_index at row ≡ true → is_object found.serial.0 row ≡ true) objects
  unfolding at_index
  member_same at found is i row there here =
      let own : RowOf (present conf) row.serial.0 = row_of (present conf) row.serial.0 (member_lives i row there) in
      let other : RowOf (present conf) found.serial.0 =
      row_of (present conf) found.serial.0 (there_lives (present conf) conf.index at found is) in
      let same_index : conf.index own.row.serial.0 ≡ conf.index other.row.serial.0 =
      ap conf.index own.serial_is ∙ eqb-true (conf.index row.serial.0) at here
      ∙ sym (ap conf.index other.serial_is ∙ eqb-true (conf.index found.serial.0) at (found_passes (is_at conf.index at) objects found is)) in
      let same : row.serial.0 ≡ found.serial.0 =
      sym own.serial_is ∙ placed.unique own.row other.row own.is_row other.is_row same_index ∙ other.serial_is in
      eq-eqb row.serial.0 found.serial.0 same

  one_at : (at : ℕ) (found : Option ObjectRow) → find (at_index at) objects ≡ found → count_by (at_index at) objects ≤ 1
  one_at at None is = omega (arith, count_unfound (at_index at) objects is)
  one_at at (Some found) is =
      omega (arith, more_pass (at_index at) (is_object found.serial.0) objects (member_same at found is), valid.objects.once found.serial.0)

  pub few_objects : length objects ≤ OBJECT_INDICES
  unfolding at_index
  few_objects =
      few_numbered index_of OBJECT_INDICES objects (all_of (λ (row : ObjectRow). nat_lt (index_of row) OBJECT_INDICES) objects each_within)
      (λ at. one_at at (find (at_index at) objects) refl)
    where
      index_of : ObjectRow → ℕ
      index_of row = conf.index row.serial.0

      each_within : Each (λ (row : ObjectRow). nat_lt (conf.index row.serial.0) OBJECT_INDICES ≡ true) objects
      each_within i row is =
          lt-ltb (conf.index row.serial.0) OBJECT_INDICES (state.within row.serial.0 (member_lives i row is))

  -- so each has few references
  module _ (few_cpus : length conf.boot.cpus ≤ CPUS) (few_links : 2 * length conf.boot.links ≤ CSPACES * CSPACE_SLOTS) where
    pub present_references : (serial : ℕ) → references (present conf) serial < many_references
    present_references serial =
        let seats : KeepsSeats conf.boot (present conf) = history_seats conf.boot conf.history in
        omega (
          arith,
          few_references (present conf) valid serial,
          few_objects,
          few_capabilities (present conf) valid,
          seats.cpus,
          ap (λ (links : List LinkRow). length links) seats.links,
          few_cpus,
          few_links,
        )

-- of a boot file too
references_found : (boot : State) (most : ℕ) → ((serial : ℕ) → references boot serial ≤ most) → (found : Option ObjectRow)
    → option_map_or (λ (row : ObjectRow). references boot row.serial.0) found 0 ≤ most
references_found boot most few None = omega arith
references_found boot most few (Some row) = few row.serial.0

pub boot_bound : (lines : List BootLine) (index : ℕ → ℕ) → IsTrue (boot_fits lines)
    → HasBound (start (boot_state lines) index)
boot_bound lines index fits =
    let valid : IsValid (boot_state lines) = boot_valid lines fits in
    let slots : length (boot_state lines).caps ≤ CSPACES * CSPACE_SLOTS = few_capabilities (boot_state lines) valid in
    record {
      bounded = start_bounded (boot_state lines) index (λ at within. references_found (boot_state lines) (2 ^ 62) few (object_at (boot_state lines) index at));
      few_pins = λ cpu. omega arith;
      few_cpus = boot_cpus lines fits;
      few_links = omega (arith, boot_links lines, slots);
    }
  where
    few : (serial : ℕ) → references (boot_state lines) serial ≤ 2 ^ 62
    few serial =
        let valid : IsValid (boot_state lines) = boot_valid lines fits in
        omega (
          arith,
          few_references (boot_state lines) valid serial,
          fitting.few_objects (boot_state lines) (boot_fitting lines fits),
          few_capabilities (boot_state lines) valid,
          boot_cpus lines fits,
          boot_links lines,
        )
