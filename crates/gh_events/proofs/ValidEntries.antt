-- Commit and SetCap keep the present state valid and what the CPUs hold fitting.
use Rattle.std.proofs.Common.{◌≡◌, ◌==◌, ◌∙◌, ◌⊎◌, inl, inr, ℕ, List, Bool, true, false, [], ◌∷◌, ◌++◌, refl, subst, sym, ap, arith, Option, Some, is_some}
use Rattle.std.specs.Prelude.{◌&&◌, ◌||◌, option_map}
use Rattle.std.specs.List.{list_any}
use Rattle.std.proofs.lemmas.Bool.{eqb-true}
use Rattle.std.proofs.lemmas.Bool.Decides.{nat_tests}
use Rattle.std.proofs.lemmas.List.Folds.{list_any-append}
use Rattle.std.proofs.lemmas.List.Sums.{fold-append}
use Rattle.gh_base.specs.declared.cap_word.CapWord.{CapWord}
use Rattle.gh_invariant.specs.Events.{EntryFits, EventFits, EventsFit}
use Rattle.gh_invariant.specs.Grants.{is_running}
use Rattle.gh_invariant.specs.Valid.{IsValid}
use Rattle.gh_invariant.proofs.EventsKept.{event_valid}
use Rattle.gh_invariant.proofs.HistoriesKept.{entry_rises}
use Rattle.gh_invariant.proofs.KindsStay.{event_kind}
use Rattle.gh_invariant.proofs.SetsOne.{may_exit}
use Rattle.gh_model.specs.History.{Event, after_event, replay}
use Rattle.gh_model.specs.Registers.{needs_of}
use Rattle.gh_model.specs.Rows.{cpu_row}
use Rattle.gh_model.specs.declared.entry.Entry.{Entry}
use Rattle.gh_model.specs.declared.entry.Entry.TheVariants.{Acted, Part, Retired, Reclaimed}
use Rattle.gh_model.specs.declared.rows.CapabilityRow.{CapabilityRow}
use Rattle.gh_model.specs.declared.state.State.{State}
use Rattle.gh_events.specs.Config.{Config, Cpu, Current, Holder, has_acted, is_acted, present}
use Rattle.gh_events.specs.Entries.{Allows, KindAllows, index_after, logged, next_state}
use Rattle.gh_events.specs.TurnEvents.{MayCommit, MaySetCap, committed, committed_by, next_index, put_word, set_cap, with_entry}
use Rattle.gh_events.specs.ValidState.{CallFits, CpuFits, HasValid, IsExiting, StillNames, acts}
use Rattle.gh_events.proofs.ActFits.{exit_of_call, grants_fit_all, names_on, shape_of_call}
use Rattle.gh_events.proofs.EntryMoves.{with_log}
use Rattle.gh_events.proofs.EventRuns.{entry_stays, exits_by}

and_other : (a b : Bool) → b ≡ false → (a && b) ≡ false
and_other true b is = is
and_other false b is = refl

-- events that fit, and one more that fits the state behind them
fits_more : (s : State) (events : List Event) (event : Event) → EventsFit s events
    → EventFits (replay s events) event → EventsFit s (events ++ event ∷ [])
fits_more s [] event fit more = record { first = more; others = tt }
fits_more s (one ∷ events) event fit more =
    record { first = fit.first; others = fits_more (after_event s one) events event fit.others more }

module _ (conf : Config) (at : ℕ) (entry : Entry) (holder : Holder) (call : Current)
    (index : ℕ → ℕ) (allows : Allows conf at entry holder call) (fit : HasValid conf) where
  not_acting : (n : ℕ) → acts conf.turn n ≡ false
  not_acting n =
      ap (λ (turn : Option Holder). acts turn n) allows.has_turn.turn ∙ and_other (holder.cpu == n) (has_acted holder) allows.not_acted

  runs_by : (n : ℕ) (cpu : Cpu)
      → (is_running (cpu_row (present conf) n) ≡ true) ⊎ IsExiting (acts conf.turn n) cpu
      → is_running (cpu_row (present conf) n) ≡ true
  runs_by n cpu (inl running) = running
  runs_by n cpu (inr exiting) =
      let now : acts conf.turn n ≡ true = exiting.acted_now in
      let not_now : acts conf.turn n ≡ false = not_acting n in
      absurd (let never : ⊥ = cc in never)

  or_true : (a b : Bool) → b ≡ true → (a || b) ≡ true
  or_true true b is = refl
  or_true false b is = is

  -- the holder runs
  holder_runs : is_running (cpu_row (present conf) at) ≡ true
  holder_runs =
      runs_by at (conf.cpu at) ((fit.cpus at).runs ((fit.cpus at).called (or_true (is_some (conf.cpu at).next) (is_some (conf.cpu at).current) (ap is_some allows.in_act.is_current))))

  call_fits : CallFits (present conf) call
  call_fits = (fit.cpus at).current call allows.in_act.is_current

  entry_fits : (kind : Entry) → KindAllows conf holder call entry kind
      → EntryFits (present conf) (logged entry call) kind
  entry_fits (Acted cpu number) allowed =
      let that : at ≡ cpu.0 = sym (allowed.its_cpu ∙ allows.has_turn.its_cpu) in
      record {
        running = subst (λ (n : ℕ). is_running (cpu_row (present conf) n) ≡ true) that holder_runs;
        shape = shape_of_call call.given.frame call.given.call call_fits.of_frame;
        granted = grants_fit_all (present conf) (needs_of call.given.call) call.seen (call_fits.granted allows.in_act.at_stage) call_fits.found;
      }
  entry_fits (Part cpu number space slot) allowed = tt
  entry_fits (Retired serial seen) allowed = tt
  entry_fits (Reclaimed serial seen) allowed = tt

  -- the entry is one that fits the present state
  pub event_fits : EventFits (present conf) (logged entry call)
  event_fits = entry_fits entry allows.allowed

  names : (row : CapabilityRow) → StillNames (present conf) row
      → StillNames (next_state conf call entry) row
  names row before =
      names_on (present conf) (next_state conf call entry) row
      (event_kind (present conf) (logged entry call) row.serial.0 fit.valid event_fits before.made)
      (entry_rises (present conf) (logged entry call) entry) before

  abbrev Later : Option Holder
  Later = Some (with_entry conf entry (next_state conf call entry) index holder)

  -- a CPU runs on, or its exit is this entry
  abbrev RunsOn : ℕ → Type 0
  RunsOn n =
      (cpu_row (next_state conf call entry) n ≡ cpu_row (present conf) n)
      ⊎ IsExiting (acts Later n) (conf.cpu n)

  acted_now : (kind : Entry) → is_acted kind ≡ true
      → list_any is_acted (holder.entries ++ kind ∷ []) ≡ true
  acted_now kind is =
      list_any-append is_acted holder.entries (kind ∷ []) ∙ or_true (list_any is_acted holder.entries) (is_acted kind || false) (rw is refl)

  -- the exit at hand
  exiting : (n : ℕ) → n ≡ at → is_acted entry ≡ true → may_exit call.given.call ≡ true
      → IsExiting (acts Later n) (conf.cpu n)
  exiting n own act exits =
      subst (λ (i : ℕ). IsExiting (acts Later i) (conf.cpu i)) (sym own) (record {
        acted_now = both (holder.cpu == at) (list_any is_acted (holder.entries ++ entry ∷ [])) (same holder.cpu at allows.has_turn.its_cpu) (acted_now entry act);
        call = call;
        is_current = allows.in_act.is_current;
        exits_now = exit_of_call call.given.frame call.given.call call_fits.of_frame exits;
      })
    where
      both : (a b : Bool) → a ≡ true → b ≡ true → (a && b) ≡ true
      both true b first second = second
      both false b first second = absurd (let never : ⊥ = cc in never)

      same : (a b : ℕ) → a ≡ b → (a == b) ≡ true
      same a b equal = grind (arith, nat_tests)

  -- whose exit an entry is
  record IsExit (kind : Entry) (n : ℕ) : Type 0 where
    own : n ≡ at
    act : is_acted kind ≡ true
    exits : may_exit call.given.call ≡ true

  exit_by : (cpu n : ℕ) (may here : Bool) → (may && here) ≡ true → (may ≡ true) × (here ≡ true)
  exit_by cpu n true true is = (refl, refl)
  exit_by cpu n true false is = absurd (let never : ⊥ = cc in never)
  exit_by cpu n false here is = absurd (let never : ⊥ = cc in never)

  exit_of : (kind : Entry) (n : ℕ) → KindAllows conf holder call entry kind
      → exits_by (logged entry call) kind n ≡ true → IsExit kind n
  exit_of (Acted cpu number) n allowed is =
      let parts = exit_by cpu.0 n (may_exit call.given.call) (cpu.0 == n) is in
      record { own = sym (eqb-true cpu.0 n parts.1) ∙ allowed.its_cpu ∙ allows.has_turn.its_cpu; act = refl; exits = parts.0 }
  exit_of (Part cpu number space slot) n allowed is = absurd (let never : ⊥ = cc in never)
  exit_of (Retired serial seen) n allowed is = absurd (let never : ⊥ = cc in never)
  exit_of (Reclaimed serial seen) n allowed is = absurd (let never : ⊥ = cc in never)

  runs_on_by : (n : ℕ) (exits : Bool) → exits_by (logged entry call) entry n ≡ exits → RunsOn n
  runs_on_by n false other = inl (entry_stays (present conf) (logged entry call) entry n other)
  runs_on_by n true is =
      let exit : IsExit entry n = exit_of entry n allows.allowed is in
      inr (exiting n exit.own exit.act exit.exits)

  later_runs : (n : ℕ) → is_running (cpu_row (present conf) n) ≡ true → RunsOn n
      → (is_running (cpu_row (next_state conf call entry) n) ≡ true) ⊎ IsExiting (acts Later n) (conf.cpu n)
  later_runs n running (inl same) = inl (ap is_running same ∙ running)
  later_runs n running (inr exits) = inr exits

  later_call : (one : Current) → CallFits (present conf) one
      → CallFits (next_state conf call entry) one
  later_call one fits = record {
    of_frame = fits.of_frame;
    found = λ i seen there. λ row is good. names row (fits.found i seen there row is good);
    granted = fits.granted;
  }

  later_cpu : (n : ℕ)
      → CpuFits conf.boot (next_state conf call entry) (acts Later n) n (conf.cpu n)
  later_cpu n = record {
    next = (fit.cpus n).next;
    current = λ one there. later_call one ((fit.cpus n).current one there);
    alone = (fit.cpus n).alone;
    called = (fit.cpus n).called;
    runs = λ may. later_runs n (runs_by n (conf.cpu n) ((fit.cpus n).runs may)) (runs_on_by n (exits_by (logged entry call) entry n) refl);
  }

  -- the entry keeps the present state valid
  pub entry_valid : (cap : ℕ → ℕ → CapWord)
      → HasValid (with_log conf (conf.history ++ logged entry call ∷ []) index
      (option_map (with_entry conf entry (next_state conf call entry) index) conf.turn) cap)
  entry_valid cap =
      let grown : replay conf.boot (conf.history ++ logged entry call ∷ []) ≡ next_state conf call entry = fold-append after_event conf.boot conf.history (logged entry call ∷ []) in
      let turn_is : option_map (with_entry conf entry (next_state conf call entry) index) conf.turn ≡ Later = ap (option_map (with_entry conf entry (next_state conf call entry) index)) allows.has_turn.turn in
      record {
        boot_valid = fit.boot_valid;
        events_fit = fits_more conf.boot conf.history (logged entry call) fit.events_fit event_fits;
        valid = subst (λ (s : State). IsValid s) (sym grown) (event_valid (present conf) (logged entry call) fit.valid event_fits);
        cpus = λ n. subst (λ (turn : Option Holder). CpuFits conf.boot (replay conf.boot (conf.history ++ logged entry call ∷ [])) (acts turn n) n (conf.cpu n)) (sym turn_is)
            (subst (λ (s : State). CpuFits conf.boot s (acts Later n) n (conf.cpu n)) (sym grown) (later_cpu n));
      }

pub commit_valid : (conf : Config) (at : ℕ) (entry : Entry) → HasValid conf
    → MayCommit conf at entry → HasValid (committed conf at entry)
commit_valid conf at entry fit may =
    subst (λ (current : Option Current). HasValid (committed_by conf entry (λ new. conf.index) current)) (sym may.allows.in_act.is_current)
    (entry_valid conf at entry may.holder may.call conf.index may.allows fit conf.cap)

pub set_cap_valid : (conf : Config) (at : ℕ) (entry : Entry) (space slot : ℕ) (word : CapWord)
    → HasValid conf → MaySetCap conf at entry space slot word
    → HasValid (set_cap conf at entry space slot word)
set_cap_valid conf at entry space slot word fit may =
    subst (λ (current : Option Current). HasValid (record (committed_by conf entry (λ new. index_after conf new word) current) { cap = put_word conf.cap space slot word })) (sym may.allows.in_act.is_current)
    (entry_valid conf at entry may.holder may.call (next_index conf may.call entry word) may.allows fit (put_word conf.cap space slot word))
