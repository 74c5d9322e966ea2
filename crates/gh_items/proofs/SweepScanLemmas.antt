-- Configurations in which the holder sweeps, with the progress that stands for them, and as the laws
-- of the sweep have them.
use Rattle.std.proofs.Common.{◌≡◌, ◌==◌, ◌+◌, ◌<◌, ◌∙◌, ℕ, Bool, true, false, List, map, refl, sym, ap, subst, arith, Option, Some, None, is_some, if◌then◌else◌}
use Rattle.std.specs.Option.{unwrap_or}
use Rattle.std.proofs.lemmas.Bool.{and_parts}
use Rattle.std.proofs.lemmas.Bool.Decides.{nat_tests}
use Rattle.gh_base.specs.declared.ids.Serial.{Serial}
use Rattle.gh_base.specs.declared.limits.TheConstants.{CPUS, HISTORY_ENTRIES}
use Rattle.gh_core.specs.Running.{current_of}
use Rattle.gh_core.specs.declared.current.CurrentCall.{CurrentCall}
use Rattle.gh_events.specs.Config.{Config, Current, Holder, present}
use Rattle.gh_events.specs.Grace.{scan_of}
use Rattle.gh_items.specs.Stands.{Stands, with_call}
use Rattle.gh_items.specs.SweepReads.{IsMade, StandsWith}
use Rattle.gh_items.specs.Sweeps.{ScansIn, SweepsIn, tried, with_dead}
use Rattle.gh_items.specs.declared.progress.Progress.{Progress}
use Rattle.gh_items.proofs.LikeLemmas.{stands_like}
use Rattle.gh_items.proofs.SeatLemmas.{current_is}
use Rattle.gh_items.proofs.SweepObjectLemmas.{dead_stands, pinned_stands, rooms, scans_like, spared_stands, tried_stands}
use Rattle.gh_items.proofs.SweepReadLemmas.{mapped_same}
use Rattle.gh_model.specs.History.{is_unretired}
use Rattle.gh_model.specs.References.{is_doomed}
use Rattle.gh_model.specs.Rows.{object_row}
use Rattle.gh_model.specs.declared.rows.ObjectRow.{ObjectRow}
use Rattle.gh_model.specs.declared.state.State.{State}
use Rattle.gh_schedules.specs.Sweep.{HasNotBegun, all_cpus, counters, killing, may_kill, reclaiming, scanned_of, scans}
use Rattle.gh_schedules.specs.Trace.{AreDone, after_all}
use Rattle.gh_schedules.proofs.KilledNone.{none_some}
use Rattle.gh_schedules.proofs.Scanning.{scans_lead}
use Rattle.gh_schedules.proofs.SweepKills.{killing_leads, scanned_on}
use Rattle.gh_schedules.proofs.SweepLaw.{is_sweeping}
use Rattle.gh_schedules.proofs.SweepSteps.{IsScanned, IsSweeping}

module _ (at : ℕ) (conf : Config) where
  -- as the laws have it, and back
  not_begun : (call : Current) → IsSweeping conf at call → HasNotBegun conf at
  not_begun call sweeping = record {
    holder = sweeping.holder;
    call = call;
    has_turn = sweeping.active.has_turn;
    in_act = sweeping.active.in_act;
    owes_nothing = sweeping.active.owes_nothing;
    unrevived = sweeping.active.unrevived;
    not_acted = sweeping.not_acted;
    no_part = sweeping.no_part;
    none_killed = none_some (present conf) conf.index conf.dead sweeping.active.sound.valid.valid sweeping.none_killed;
  }

  -- the counters are scanned behind the scans
  pub scans_on : (call : Current) → IsSweeping conf at call → IsScanned (after_all conf (scans at conf)) at call
  scans_on call sweeping =
      scanned_on conf at call sweeping (after_all conf (scans at conf)) (scans_lead conf at sweeping.holder call sweeping.active).behind

module _ (progress : Progress) (at : ℕ) (call : CurrentCall) (conf : Config) where
  pub sweeping_is : SweepsIn progress at call conf → IsSweeping conf at (current_of call)
  sweeping_is sweeps =
      let its : Some sweeps.begins.call ≡ Some (current_of call) =
      sym sweeps.begins.in_act.is_current ∙ current_is progress conf at call sweeps.stands sweeps.within in
      let same : sweeps.begins.call ≡ current_of call = cc in
      subst (IsSweeping conf at) same (is_sweeping conf at sweeps.sound sweeps.within sweeps.blocks sweeps.begins)

  pub scanned_is : ScansIn progress at call conf → IsScanned conf at (current_of call)
  scanned_is scans =
      let sweeping : IsSweeping conf at (current_of call) = sweeping_is scans.sweeps in
      record {
        sweeping = sweeping;
        scans = λ cpu few. sym (ap (λ (turn : Option Holder). scan_of turn cpu) sweeping.active.has_turn.turn) ∙ scans.scanned cpu few;
      }

  pub sweeps_as : IsSweeping conf at (current_of call) → Stands (with_call progress at (Some call)) conf → SweepsIn progress at call conf
  sweeps_as sweeping stands = record {
    stands = stands;
    sound = sweeping.active.sound;
    within = sweeping.active.is_cpu;
    blocks = sweeping.active.blocks;
    begins = not_begun at conf (current_of call) sweeping;
  }

  pub scans_as : IsScanned conf at (current_of call) → Stands (with_call progress at (Some call)) conf → ScansIn progress at call conf
  scans_as scanned stands = record {
    sweeps = sweeps_as scanned.sweeping stands;
    scanned = λ cpu few. ap (λ (turn : Option Holder). scan_of turn cpu) scanned.sweeping.active.has_turn.turn ∙ scanned.scans cpu few;
  }

-- the scans lead to a configuration for which the progress stands as before
pub scans_here : (progress : Progress) (at : ℕ) (call : CurrentCall) (conf : Config) → SweepsIn progress at call conf
    → ScansIn progress at call (after_all conf (scans at conf))
scans_here progress at call conf sweeps =
    scans_as progress at call (after_all conf (scans at conf)) (scans_on at conf (current_of call) (sweeping_is progress at call conf sweeps))
    (stands_like (with_call progress at (Some call)) conf (after_all conf (scans at conf)) (scans_like at conf) sweeps.stands)

pub with_sound : (progress : Progress) (at : ℕ) (call : CurrentCall) (conf : Config) → SweepsIn progress at call conf
    → StandsWith progress at call conf
with_sound progress at call conf sweeps = record { stands = sweeps.stands; sound = sweeps.sound }

-- one object

module _ (progress : Progress) (at : ℕ) (call : CurrentCall) (serial : Serial) (conf : Config) (scans : ScansIn progress at call conf) where
  pub has_room : progress.plain.entries + 1 < HISTORY_ENTRIES
  has_room = rooms progress conf at call scans.sweeps.stands scans.sweeps.within scans.sweeps.sound

  -- the counters that the holder has are the present ones
  present_counters : counters conf ≡ map conf.counter all_cpus
  unfolding counters
  present_counters =
      mapped_same (scanned_of conf.turn) conf.counter CPUS CPUS 0 (omega arith) (λ cpu few. ap (λ (scan : Option ℕ). unwrap_or scan 0) (scans.scanned cpu few))

  -- it is tried for its reclaim
  pub reclaim_stands : (seen : List ℕ) → seen ≡ map conf.counter all_cpus
      → Stands (with_call (tried progress serial seen) at (Some call)) (after_all conf (reclaiming at serial conf))
  reclaim_stands seen are =
      tried_stands progress conf at call scans.sweeps.stands scans.sweeps.within scans.sweeps.sound serial seen (are ∙ sym present_counters)

  -- it is killed where no pins are counted

  done : AreDone conf (killing at serial conf)
  done = (killing_leads conf at (current_of call) serial (scanned_is progress at call conf scans)).done

  made_by : (found : Option ObjectRow) → is_unretired found ≡ true → is_some found ≡ true
  made_by None unretired = absurd (let never : ⊥ = cc in never)
  made_by (Some row) unretired = refl

  -- what counts the pins counts its word
  abbrev Counts : ℕ → Type 0
  Counts pins = IsMade conf serial.0 → HasNotBegun conf at → is_doomed (present conf) serial.0 ≡ true → pins ≡ conf.count (conf.index serial.0)

  count_is : (pins : ℕ) → Counts pins → may_kill (present conf) serial ≡ true → pins ≡ conf.count (conf.index serial.0)
  count_is pins counts may =
      let both = and_parts (is_doomed (present conf) serial.0) (is_unretired (object_row (present conf) serial.0)) may in
      counts (made_by (object_row (present conf) serial.0) both.1) scans.sweeps.begins both.0

  pub pinned_kill : (pins : ℕ) → Counts pins → 0 < pins → Stands (with_call progress at (Some call)) (after_all conf (killing at serial conf))
  pinned_kill pins counts some = by_may (may_kill (present conf) serial) refl
    where
      by_may : (may : Bool) → may_kill (present conf) serial ≡ may → Stands (with_call progress at (Some call)) (after_all conf (killing at serial conf))
      by_may false may =
          spared_stands progress conf at call scans.sweeps.stands scans.sweeps.within scans.sweeps.sound serial (map conf.counter all_cpus) refl done may
      by_may true may =
          let same : pins ≡ conf.count (conf.index serial.0) = count_is pins counts may in
          let counted : (conf.count (conf.index serial.0) == 0) ≡ false = grind (arith, nat_tests, same, some) in
          pinned_stands progress conf at call scans.sweeps.stands scans.sweeps.within scans.sweeps.sound serial (map conf.counter all_cpus) refl done may counted

  abbrev Killed : List ℕ → Bool → Type 0
  Killed seen may =
      Stands (with_call (if may then with_dead progress serial seen else progress) at (Some call)) (after_all conf (killing at serial conf))

  pub unpinned_kill : (seen : List ℕ) → seen ≡ map conf.counter all_cpus → (pins : ℕ) → Counts pins → pins ≡ 0
      → Stands (with_call (if may_kill progress.plain serial then with_dead progress serial seen else progress) at (Some call))
      (after_all conf (killing at serial conf))
  unpinned_kill seen are pins counts none = by_may (may_kill (present conf) serial) refl
    where
      there : may_kill progress.plain serial ≡ may_kill (present conf) serial
      there = ap (λ (s : State). may_kill s serial) scans.sweeps.stands.state

      by_may : (may : Bool) → may_kill (present conf) serial ≡ may → Killed seen (may_kill progress.plain serial)
      by_may false may =
          subst (Killed seen) (sym (there ∙ may))
          (spared_stands progress conf at call scans.sweeps.stands scans.sweeps.within scans.sweeps.sound serial seen are done may)
      by_may true may =
          let same : pins ≡ conf.count (conf.index serial.0) = count_is pins counts may in
          let nothing : (conf.count (conf.index serial.0) == 0) ≡ true = grind (arith, nat_tests, same, none) in
          subst (Killed seen) (sym (there ∙ may))
          (dead_stands progress conf at call scans.sweeps.stands scans.sweeps.within scans.sweeps.sound serial seen are done may nothing)
