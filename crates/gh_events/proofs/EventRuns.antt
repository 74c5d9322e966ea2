-- Which CPUs run behind an event: all that ran, but for one whose exit it is.
use Rattle.std.proofs.Common.{◌≡◌, ◌==◌, ◌∙◌, ℕ, Bool, true, false, List, [], ◌∷◌, refl, subst, arith, find, IsTrue, if◌then◌else◌}
use Rattle.std.specs.Prelude.{◌&&◌}
use Rattle.std.specs.List.{list_all}
use Rattle.std.proofs.lemmas.Bool.{and_parts}
use Rattle.std.proofs.lemmas.Bool.Decides.{nat_tests}
use Rattle.gh_model.specs.Act.{counted}
use Rattle.gh_model.specs.Changes.{as_exited, changed, changed_all}
use Rattle.gh_model.specs.Decide.{verdict}
use Rattle.gh_model.specs.History.{Event, after_entry, after_verdict, is_retired, is_unretired, may_act, may_part, numbered}
use Rattle.gh_model.specs.References.{is_doomed}
use Rattle.gh_model.specs.Rows.{cpu_row, fills, is_cpu, object_row}
use Rattle.gh_model.specs.declared.change.Change.{Change}
use Rattle.gh_model.specs.declared.change.Change.TheVariants as change
use Rattle.gh_model.specs.declared.change.Decision.{Decision}
use Rattle.gh_model.specs.declared.change.Decision.TheVariants.{Refuse, Unfinished, Make}
use Rattle.gh_model.specs.declared.entry.Entry.{Entry}
use Rattle.gh_model.specs.declared.entry.Entry.TheVariants.{Acted, Part, Retired, Reclaimed}
use Rattle.gh_model.specs.declared.rows.CpuRow.{CpuRow}
use Rattle.gh_model.specs.declared.state.State.{State}
use Rattle.gh_invariant.specs.Events.{judged_by, made_by}
use Rattle.gh_invariant.proofs.ChangedRow.{find_past_change}
use Rattle.gh_invariant.proofs.EventWords.{judged_sets}
use Rattle.gh_invariant.proofs.SetsOne.{exit_fits, may_exit}

-- the CPU's row is as it was
abbrev RowStays : State → State → ℕ → Type 0
RowStays s new n = cpu_row new n ≡ cpu_row s n

module _ (cpu n : ℕ) (may : Bool) (other_cpu : (may && (cpu == n)) ≡ false) where
  exit_by : (here : Bool) (other : ℕ) → may ≡ here → (here && (other == cpu)) ≡ true
      → (other == n) ≡ false
  exit_by false other is fits = absurd (let never : ⊥ = cc in never)
  exit_by true other is fits =
      let apart : (true && (cpu == n)) ≡ false = subst (λ (b : Bool). (b && (cpu == n)) ≡ false) is other_cpu in
      grind (arith, nat_tests)

  exited : (s : State) (other : ℕ) → (may && (other == cpu)) ≡ true
      → (row : CpuRow) → is_cpu other row ≡ true → is_cpu n row ≡ false
  exited s other fits row that =
      let apart : (other == n) ≡ false = exit_by may other refl fits in grind (arith, nat_tests)

  change_stays : (s : State) (one : Change) → exit_fits cpu may one ≡ true
      → RowStays s (changed s one) n
  change_stays s (change.Exit other) fits =
      find_past_change (is_cpu n) (is_cpu other.0) as_exited s.cpus (exited s other.0 fits) (exited s other.0 fits)
  change_stays s (change.AddObject row) fits = refl
  change_stays s (change.Retire object seen) fits = refl
  change_stays s (change.Reclaim object) fits = refl
  change_stays s (change.SetStage object stage) fits = refl
  change_stays s (change.ConfigureQueue queue depth size cost) fits = refl
  change_stays s (change.PutCapability row) fits = refl
  change_stays s (change.DropCapability cspace slot) fits = refl
  change_stays s (change.RevokeCapability cspace slot) fits = refl
  change_stays s (change.GiveQuota partition quota) fits = refl
  change_stays s (change.AddExtent row) fits = refl
  change_stays s (change.MovePages first count holder) fits = refl
  change_stays s (change.PutMapping row) fits = refl
  change_stays s (change.DropMapping row) fits = refl
  change_stays s (change.SetBell row) fits = refl
  change_stays s (change.PutMessage queue message) fits = refl
  change_stays s (change.DropMessage queue) fits = refl
  change_stays s (change.EmptyQueue queue) fits = refl
  change_stays s change.Ring fits = refl
  change_stays s (change.SetPages count) fits = refl
  change_stays s (change.AddPartition quota) fits = refl
  change_stays s (change.AddRoot row) fits = refl
  change_stays s (change.SetRoom queue depth size) fits = refl
  change_stays s (change.FillSlot row) fits = refl
  change_stays s (change.AddCpu row) fits = absurd (let never : ⊥ = cc in never)
  change_stays s (change.AddLink row) fits = refl

  changes_stay : (s : State) (changes : List Change)
      → IsTrue (list_all (exit_fits cpu may) changes) → RowStays s (changed_all s changes) n
  changes_stay s [] fit = refl
  changes_stay s (one ∷ others) fit =
      let parts = and_parts (exit_fits cpu may one) (list_all (exit_fits cpu may) others) fit in
      changes_stay (changed s one) others parts.1 ∙ change_stays s one parts.0

  acted_stays : (s : State) (allowed : Bool) (decision : Decision)
      → IsTrue (list_all (exit_fits cpu may) (made_by decision))
      → RowStays s (if allowed then after_verdict s (verdict s decision) else numbered s) n
  acted_stays s false decision fit = refl
  acted_stays s true (Refuse errno) fit = refl
  acted_stays s true Unfinished fit = refl
  acted_stays s true (Make changes reply) fit = changes_stay s changes fit

either_stays : (s new : State) (n : ℕ) (allowed : Bool) → RowStays s new n
    → RowStays s (if allowed then new else numbered s) n
either_stays s new n true same = same
either_stays s new n false same = refl

-- the entry is no exit of this CPU
abbrev pub exits_by : Event → Entry → ℕ → Bool
exits_by event (Acted cpu number) n = may_exit event.call && (cpu.0 == n)
exits_by event (Part cpu number space slot) n = false
exits_by event (Retired serial seen) n = false
exits_by event (Reclaimed serial seen) n = false

pub entry_stays : (s : State) (event : Event) (entry : Entry) (n : ℕ)
    → exits_by event entry n ≡ false → cpu_row (after_entry s event entry) n ≡ cpu_row s n
entry_stays s event (Acted cpu number) n other =
    acted_stays cpu.0 n (may_exit event.call) other s (may_act s cpu.0 event.call event.words) (judged_by s cpu.0 event)
    (judged_sets s cpu.0 event).exits
entry_stays s event (Part cpu number space slot) n other =
    either_stays s _ n (may_part (find (fills space.0 slot) s.caps)) refl
entry_stays s event (Retired serial seen) n other =
    either_stays s (counted (changed s (change.Retire serial seen))) n (is_doomed s serial.0 && is_unretired (object_row s serial.0)) refl
entry_stays s event (Reclaimed serial seen) n other =
    either_stays s (counted (changed s (change.Reclaim serial))) n (is_doomed s serial.0 && is_retired (object_row s serial.0)) refl
