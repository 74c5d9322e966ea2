-- A CPU that hasn't exited behind an event has the row that it had before.
use Rattle.std.proofs.Common.{◌≡◌, ◌∙◌, ℕ, Bool, true, false, List, [], ◌∷◌, refl, subst, sym, ap, arith, IsTrue, find, Option, Some, None, if◌then◌else◌}
use Rattle.std.specs.Prelude.{◌&&◌, ◌==◌, option_map}
use Rattle.std.specs.List.{list_all}
use Rattle.std.proofs.lemmas.Bool.{and_parts, eqb-true}
use Rattle.std.proofs.lemmas.Bool.Decides.{nat_tests}
use Rattle.gh_model.specs.Act.{counted}
use Rattle.gh_model.specs.Changes.{as_exited, changed, changed_all}
use Rattle.gh_model.specs.Decide.{verdict}
use Rattle.gh_model.specs.History.{Event, after_entry, after_verdict, is_retired, is_unretired, may_act, may_part, numbered}
use Rattle.gh_model.specs.References.{is_doomed}
use Rattle.gh_model.specs.Rows.{change_row, cpu_row, fills, is_cpu, object_row}
use Rattle.gh_model.specs.declared.change.Change.{Change}
use Rattle.gh_model.specs.declared.change.Change.TheVariants as change
use Rattle.gh_model.specs.declared.change.Decision.{Decision}
use Rattle.gh_model.specs.declared.change.Decision.TheVariants.{Refuse, Unfinished, Make}
use Rattle.gh_model.specs.declared.entry.Entry.{Entry}
use Rattle.gh_model.specs.declared.entry.Entry.TheVariants.{Acted, Part, Retired, Reclaimed}
use Rattle.gh_model.specs.declared.rows.CpuRow.{CpuRow}
use Rattle.gh_model.specs.declared.state.State.{State}
use Rattle.gh_invariant.specs.Events.{judged_by, made_by}
use Rattle.gh_model.proofs.ChangedRows.{find_changed}
use Rattle.gh_invariant.proofs.ChangedRow.{find_past_change}
use Rattle.gh_invariant.proofs.EventWords.{judged_sets}
use Rattle.gh_invariant.proofs.SetsOne.{is_of_calls}

module _ (cpu : ℕ) (row : CpuRow) (runs : row.exited ≡ false) where
  exited_by : (found : Option CpuRow) → option_map as_exited found ≡ Some row → ⊥
  exited_by None is = let never : ⊥ = cc in never
  exited_by (Some old) is =
      let same : as_exited old ≡ row = cc in
      let exited : row.exited ≡ true = ap (λ (one : CpuRow). one.exited) (sym same) in
      let never : ⊥ = cc in never

  differs : (other number : ℕ) → (other == cpu) ≡ false → (number == other) ≡ true
      → (number == cpu) ≡ false
  differs other number apart is = grind (arith, nat_tests)

  exit_by : (s : State) (other : ℕ) (here : Bool) → (other == cpu) ≡ here
      → find (is_cpu cpu) (change_row (is_cpu other) as_exited s.cpus) ≡ Some row
      → find (is_cpu cpu) s.cpus ≡ Some row
  exit_by s other false apart is =
      sym (find_past_change (is_cpu cpu) (is_cpu other) as_exited s.cpus (λ one that. differs other one.cpu.0 apart that) (λ one that. differs other one.cpu.0 apart that)) ∙ is
  exit_by s other true same is =
      let that : other ≡ cpu = eqb-true other cpu same in
      let here : find (is_cpu cpu) (change_row (is_cpu cpu) as_exited s.cpus) ≡ Some row = subst (λ (n : ℕ). find (is_cpu cpu) (change_row (is_cpu n) as_exited s.cpus) ≡ Some row) that is in
      absurd (exited_by (find (is_cpu cpu) s.cpus) (sym (find_changed (is_cpu cpu) as_exited s.cpus (λ one. refl)) ∙ here))

  change_runs : (s : State) (one : Change) → is_of_calls one ≡ true
      → cpu_row (changed s one) cpu ≡ Some row → cpu_row s cpu ≡ Some row
  change_runs s (change.Exit other) calls is = exit_by s other.0 (other.0 == cpu) refl is
  change_runs s (change.AddObject object) calls is = is
  change_runs s (change.Retire object seen) calls is = is
  change_runs s (change.Reclaim object) calls is = is
  change_runs s (change.SetStage object stage) calls is = is
  change_runs s (change.ConfigureQueue queue depth size cost) calls is = is
  change_runs s (change.PutCapability cap) calls is = is
  change_runs s (change.DropCapability cspace slot) calls is = is
  change_runs s (change.RevokeCapability cspace slot) calls is = is
  change_runs s (change.GiveQuota partition quota) calls is = is
  change_runs s (change.AddExtent extent) calls is = is
  change_runs s (change.MovePages first count holder) calls is = is
  change_runs s (change.PutMapping mapping) calls is = is
  change_runs s (change.DropMapping mapping) calls is = is
  change_runs s (change.SetBell bell) calls is = is
  change_runs s (change.PutMessage queue message) calls is = is
  change_runs s (change.DropMessage queue) calls is = is
  change_runs s (change.EmptyQueue queue) calls is = is
  change_runs s change.Ring calls is = is
  change_runs s _ calls is = absurd (let never : ⊥ = cc in never)

  changes_run : (s : State) (changes : List Change) → IsTrue (list_all is_of_calls changes)
      → cpu_row (changed_all s changes) cpu ≡ Some row → cpu_row s cpu ≡ Some row
  changes_run s [] calls is = is
  changes_run s (one ∷ others) calls is =
      let parts = and_parts (is_of_calls one) (list_all is_of_calls others) calls in
      change_runs s one parts.0 (changes_run (changed s one) others parts.1 is)

  acted_runs : (s : State) (allowed : Bool) (decision : Decision)
      → IsTrue (list_all is_of_calls (made_by decision))
      → cpu_row (if allowed then after_verdict s (verdict s decision) else numbered s) cpu ≡ Some row
      → cpu_row s cpu ≡ Some row
  acted_runs s false decision calls is = is
  acted_runs s true (Refuse errno) calls is = is
  acted_runs s true Unfinished calls is = is
  acted_runs s true (Make changes reply) calls is = changes_run s changes calls is

  either_runs : (s new : State) (allowed : Bool) → cpu_row new cpu ≡ cpu_row s cpu
      → cpu_row (if allowed then new else numbered s) cpu ≡ Some row → cpu_row s cpu ≡ Some row
  either_runs s new true same is = sym same ∙ is
  either_runs s new false same is = is

  -- so it is of an entry
  pub entry_runs : (s : State) (event : Event) (entry : Entry)
      → cpu_row (after_entry s event entry) cpu ≡ Some row → cpu_row s cpu ≡ Some row
  entry_runs s event (Acted acting number) is =
      acted_runs s (may_act s acting.0 event.call event.words) (judged_by s acting.0 event)
      (judged_sets s acting.0 event).calls is
  entry_runs s event (Part acting number space slot) is =
      either_runs s _ (may_part (find (fills space.0 slot) s.caps)) refl is
  entry_runs s event (Retired serial seen) is =
      either_runs s (counted (changed s (change.Retire serial seen))) (is_doomed s serial.0 && is_unretired (object_row s serial.0)) refl is
  entry_runs s event (Reclaimed serial seen) is =
      either_runs s (counted (changed s (change.Reclaim serial))) (is_doomed s serial.0 && is_retired (object_row s serial.0)) refl is
