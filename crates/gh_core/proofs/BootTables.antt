-- The tables before any event: seats of CPUs before their first call, and the indices of the boot.
use Rattle.std.proofs.Common.{◌≡◌, ◌≢◌, ◌==◌, ◌<◌, ◌∙◌, ◌⊎◌, ℕ, zero, suc, Bool, true, false, List, [], ◌∷◌, inl, inr, refl, ap, sym, subst, arith, length, map, replicate, Option, None, Some, is_some, slice_get, IsTrue}
use Rattle.std.specs.List.{list_all}
use Rattle.std.specs.Option.{option_map_or}
use Rattle.std.proofs.Math.Path.{fun_ext}
use Rattle.std.proofs.lemmas.Bool.Decides.{eqb_tells, nat_tests}
use Rattle.gh_base.specs.declared.limits.TheConstants.{CPUS, OBJECT_INDICES}
use Rattle.gh_invariant.specs.Lives.{lives}
use Rattle.gh_model.specs.Boot.{boot_fits, boot_state}
use Rattle.gh_model.specs.Rows.{cpu_row, object_row}
use Rattle.gh_model.specs.declared.boot_line.BootLine.{BootLine}
use Rattle.gh_model.specs.declared.rows.ObjectRow.{ObjectRow}
use Rattle.gh_model.specs.declared.state.State.{State}
use Rattle.gh_model.proofs.FittingLemmas.{boot_fitting, cpu_small}
use Rattle.gh_events.specs.Config.{Config, Cpu}
use Rattle.gh_events.specs.Start.{AreIndices, new_cpu, start}
use Rattle.gh_schedules.specs.Indices.{boot_index, row_index}
use Rattle.gh_schedules.proofs.Ranks.{boot_indices}
use Rattle.gh_core.specs.Booted.{booted, placed}
use Rattle.gh_core.specs.Running.{IsKept, all_made, cpu_of, cpus, event_of, has_index, index_in, no_number, stands_for}
use Rattle.gh_core.specs.Tables.{numbers, put_number}
use Rattle.gh_core.specs.declared.config.Running.{Running}
use Rattle.gh_core.specs.declared.cpu.Seat.{Seat}
use Rattle.gh_core.specs.declared.log.Logged.{Logged}
use Rattle.gh_core.specs.declared.table.Written.{Written}
use Rattle.gh_core.proofs.CallTests.{is_below, is_equal, joined}
use Rattle.gh_core.proofs.LookRoom.{mapped_length}

-- seats

replicated_length : {X : Type 0} (n : ℕ) (x : X) → length (replicate n x) ≡ n
replicated_length zero x = refl
replicated_length (suc n) x = ap (λ (k : ℕ). suc k) (replicated_length n x)

-- there is one for each CPU
pub nine_seats : (seats : List Seat) → map cpu_of seats ≡ replicate CPUS new_cpu → length seats ≡ CPUS
nine_seats seats new = sym (mapped_length cpu_of seats) ∙ (ap (λ (cs : List Cpu). length cs) new ∙ replicated_length CPUS new_cpu)

mapped_get : (seats : List Seat) (n : ℕ) → cpus seats n ≡ option_map_or (λ (cpu : Cpu). cpu) (slice_get (map cpu_of seats) n) new_cpu
mapped_get [] n = refl
mapped_get (seat ∷ seats) zero = refl
mapped_get (seat ∷ seats) (suc n) = mapped_get seats n

replicated_get : (k n : ℕ) → option_map_or (λ (cpu : Cpu). cpu) (slice_get (replicate k new_cpu) n) new_cpu ≡ new_cpu
replicated_get zero n = refl
replicated_get (suc k) zero = refl
replicated_get (suc k) (suc n) = replicated_get k n

-- each is that of a CPU before its first call
pub new_cpus : (seats : List Seat) → map cpu_of seats ≡ replicate CPUS new_cpu → cpus seats ≡ (λ _. new_cpu)
new_cpus seats new = fun_ext (λ n.
    mapped_get seats n ∙ (ap (λ (cs : List Cpu). option_map_or (λ (cpu : Cpu). cpu) (slice_get cs n) new_cpu) new ∙ replicated_get CPUS n))

-- indices

module _ (s : State) where
  -- a serial's number is its object's index at the boot, or no object has it
  read_placed : (rows : List ObjectRow) (values : ℕ → ℕ) (serial : ℕ)
      → (numbers values (map (placed s) rows) serial ≡ boot_index s serial) ⊎ ((lives rows serial ≡ false) × (numbers values (map (placed s) rows) serial ≡ values serial))
  read_placed [] values serial = inr (refl, refl)
  read_placed (row ∷ rows) values serial =
      elim (read_placed rows (put_number values (placed s row)) serial) as (λ _. (numbers values (map (placed s) (row ∷ rows)) serial ≡ boot_index s serial) ⊎ ((lives (row ∷ rows) serial ≡ false) × (numbers values (map (placed s) (row ∷ rows)) serial ≡ values serial))) [
        | inl found ↦ inl found
        | inr others ↦ elim (eqb_tells serial row.serial.0) as (λ _. (numbers values (map (placed s) (row ∷ rows)) serial ≡ boot_index s serial) ⊎ ((lives (row ∷ rows) serial ≡ false) × (numbers values (map (placed s) (row ∷ rows)) serial ≡ values serial))) [
          | inl same ↦ inl (others.1 ∙ rw same.0 (ap (boot_index s) (sym same.1)))
          | inr other ↦ inr (rw (turned serial row.serial.0 other.1) others.0, others.1 ∙ rw other.0 refl)
        ]
      ]
    where
      turned : (a b : ℕ) → a ≢ b → (b == a) ≡ false
      turned a b differ = grind (arith, nat_tests)

  unplaced : (found : Option ObjectRow) → is_some found ≡ false → option_map_or (row_index s) found 0 ≡ 0
  unplaced None none = refl
  unplaced (Some row) none = absurd (let never : ⊥ = cc in never)

  -- the table has the index of each object of the boot, and 0 elsewhere
  pub placed_read : index_in (map (placed s) s.objects) [] ≡ boot_index s
  placed_read = fun_ext (λ serial. elim (read_placed s.objects no_number serial) as (λ _. index_in (map (placed s) s.objects) [] serial ≡ boot_index s serial) [
    | inl found ↦ found
    | inr none ↦ none.1 ∙ sym (unplaced (object_row s serial) none.0)
  ])

  lives_here : (row : ObjectRow) (rows : List ObjectRow) → lives (row ∷ rows) row.serial.0 ≡ true
  lives_here row rows = rw (is_equal row.serial.0 row.serial.0 refl) refl

  lives_behind : (row : ObjectRow) (rows : List ObjectRow) (serial : ℕ) → lives rows serial ≡ true → lives (row ∷ rows) serial ≡ true
  lives_behind row rows serial alive = by (row.serial.0 == serial) refl
    where
      by : (here : Bool) → (row.serial.0 == serial) ≡ here → lives (row ∷ rows) serial ≡ true
      by true is = rw is refl
      by false is = rw is alive

  small_by : AreIndices s (boot_index s) → (rows : List ObjectRow) → ((serial : ℕ) → lives rows serial ≡ true → lives s.objects serial ≡ true)
      → list_all has_index (map (placed s) rows) ≡ true
  small_by are [] among = refl
  small_by are (row ∷ rows) among = joined (has_index (placed s row)) (list_all has_index (map (placed s) rows))
      (is_below (boot_index s row.serial.0) OBJECT_INDICES (are.within row.serial.0 (among row.serial.0 (lives_here row rows))))
      (small_by are rows (λ serial alive. among serial (lives_behind row rows serial alive)))

-- what was given as indices are indices
boot_small : (lines : List BootLine) → IsTrue (boot_fits lines) → list_all has_index (map (placed (boot_state lines)) (boot_state lines).objects) ≡ true
boot_small lines fits = small_by (boot_state lines) (boot_indices lines fits) (boot_state lines).objects (λ serial alive. alive)

-- a CPU of the boot is one of the nine
pub boot_cpus : (lines : List BootLine) → IsTrue (boot_fits lines) → (at : ℕ) → is_some (cpu_row (boot_state lines) at) ≡ true → at < CPUS
boot_cpus lines fits at is = let small = cpu_small (boot_state lines) at (boot_fitting lines fits) is in omega (arith, small)

-- tables in which nothing was written, of a boot file
pub record IsNew (running : Running) (lines : List BootLine) : Type 0 where
  pub boot : running.boot ≡ lines
  pub log : running.log ≡ []
  pub first : running.first ≡ map (placed (boot_state lines)) (boot_state lines).objects
  pub given : running.given ≡ []
  pub caps : running.caps ≡ []
  pub counts : running.counts ≡ []
  pub dead : running.dead ≡ []
  pub counters : running.counters ≡ []
  pub turn : running.turn ≡ None
  pub seats : map cpu_of running.seats ≡ replicate CPUS new_cpu

-- they stand for the configuration before any event
pub new_begins : (running : Running) (lines : List BootLine) → IsNew running lines → stands_for running ≡ booted lines
new_begins running lines new =
    (λ i. stands_for (record {
      boot = new.boot i;
      log = new.log i;
      first = new.first i;
      given = new.given i;
      caps = new.caps i;
      counts = new.counts i;
      dead = new.dead i;
      counters = new.counters i;
      turn = new.turn i;
      seats = running.seats;
    }))
    ∙ (ap with_cpus (new_cpus running.seats new.seats) ∙ ap (start (boot_state lines)) (placed_read (boot_state lines)))
  where
    with_cpus : (ℕ → Cpu) → Config
    with_cpus cs = record (start (boot_state lines) (index_in (map (placed (boot_state lines)) (boot_state lines).objects) [])) { cpu = cs }

pub new_kept : (running : Running) (lines : List BootLine) → IsTrue (boot_fits lines) → IsNew running lines → IsKept running
new_kept running lines fits new = record {
  nine = nine_seats running.seats new.seats;
  first = subst (λ (ws : List Written). list_all has_index ws ≡ true) (sym new.first) (boot_small lines fits);
  given = subst (λ (ws : List Written). list_all has_index ws ≡ true) (sym new.given) refl;
  made = subst (λ (log : List Logged). all_made (boot_state running.boot) (map event_of log) ≡ true) (sym new.log) refl;
}
