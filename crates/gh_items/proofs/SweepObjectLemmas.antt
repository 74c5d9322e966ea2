-- The sweep of one object: what its events leave, and the progress that stands for it.
use Rattle.std.proofs.Common.{◌≡◌, ◌==◌, ◌+◌, ◌<◌, ◌∙◌, inl, inr, ℕ, Bool, true, false, List, [], ◌∷◌, ◌++◌, length, map, refl, sym, ap, subst, arith, Option, Some, None, if◌then◌else◌}
use Rattle.std.specs.Prelude.{◌&&◌}
use Rattle.gh_base.specs.declared.ids.Serial.{Serial}
use Rattle.gh_base.specs.declared.limits.TheConstants.{CPUS, HISTORY_ENTRIES}
use Rattle.gh_core.specs.Running.{current_of}
use Rattle.gh_core.specs.declared.current.CurrentCall.{CurrentCall}
use Rattle.gh_events.specs.Config.{Config, Current, Holder, is_acted, object_at, present, put}
use Rattle.gh_events.specs.Entries.{logged, makes_object, next_state}
use Rattle.gh_events.specs.HolderEvents.{MayScan, kill_failed, killed, scanned, with_turn, without_scans}
use Rattle.gh_events.specs.Sound.{IsSound}
use Rattle.gh_events.specs.declared.event.Event.{Event}
use Rattle.gh_events.proofs.LengthBound.{history_is_short}
use Rattle.gh_events.proofs.LookCalls.{entries_all}
use Rattle.gh_invariant.specs.Events.{changes_of}
use Rattle.gh_invariant.specs.Lives.{lives}
use Rattle.gh_items.specs.Acts.{in_state, with_entry}
use Rattle.gh_items.specs.Stands.{Stands, with_call}
use Rattle.gh_items.specs.Sweeps.{tried, with_dead, with_reclaimed, with_retired}
use Rattle.gh_items.specs.declared.progress.Progress.{Progress}
use Rattle.gh_items.proofs.EntrySteps.{committed_stands}
use Rattle.gh_items.proofs.LikeLemmas.{IsLike, like_self, like_then, stands_like}
use Rattle.gh_items.proofs.RevokeLemmas.{done_parts}
use Rattle.gh_items.proofs.SeatLemmas.{current_is}
use Rattle.gh_items.proofs.SweepReadLemmas.{counters_are}
use Rattle.gh_model.specs.History as history
use Rattle.gh_model.specs.History.{is_retired, is_unretired}
use Rattle.gh_model.specs.References.{is_doomed}
use Rattle.gh_model.specs.Rows.{object_row}
use Rattle.gh_model.specs.declared.change.Change.TheVariants.{Reclaim, Retire}
use Rattle.gh_model.specs.declared.entry.Entry.{Entry}
use Rattle.gh_model.specs.declared.entry.Entry.TheVariants.{Reclaimed, Retired}
use Rattle.gh_model.specs.declared.rows.ObjectRow.{ObjectRow}
use Rattle.gh_model.specs.declared.state.State.{State}
use Rattle.gh_schedules.specs.Committing.{committing}
use Rattle.gh_schedules.specs.Places.{added}
use Rattle.gh_schedules.specs.Sweep.{all_cpus, counters, kill, killing, kills, may_kill, may_reclaim, reclaiming, retired_now, retires_dead, retiring, scan, scans}
use Rattle.gh_schedules.specs.Trace.{AreDone, after_all, and_then}
use Rattle.gh_schedules.proofs.EntryReferences.{Objects, event_objects}
use Rattle.gh_schedules.proofs.TraceLaws.{after_append}
use Rattle.gh_schedules.proofs.TraceSound.{trace_keeps_sound}

-- scans change what the holder keeps alone

scans_like_by : (at : ℕ) (cpus : List ℕ) (conf : Config) → IsLike conf (after_all conf (map (scan at) cpus))
scans_like_by at [] conf = like_self conf
scans_like_by at (cpu ∷ cpus) conf =
    like_then conf (scanned conf cpu) (after_all conf (map (scan at) (cpu ∷ cpus)))
    (record { boot = refl; history = refl; index = λ n. refl; cpu = λ n. refl })
    (scans_like_by at cpus (scanned conf cpu))

pub scans_like : (at : ℕ) (conf : Config) → IsLike conf (after_all conf (scans at conf))
unfolding scans
scans_like at conf = scans_like_by at all_cpus conf

-- the counters of all CPUs, behind their scans
scanned_by : (at : ℕ) (conf : Config) (holder : Holder)
    → counters (after_all (record conf { turn = Some holder }) (scans at (record conf { turn = Some holder }))) ≡ map conf.counter all_cpus
unfolding scans counters
scanned_by at conf holder = refl

pub scans_counters : (at : ℕ) (conf : Config) (holder : Holder) → conf.turn ≡ Some holder
    → counters (after_all conf (scans at conf)) ≡ map conf.counter all_cpus
scans_counters at conf holder turn =
    subst (λ (there : Config). counters (after_all there (scans at there)) ≡ map there.counter all_cpus)
    (ap (λ (one : Option Holder). record conf { turn = one }) (sym turn)) (scanned_by at conf holder)

-- so does a kill, beside the word

failed_like : (conf : Config) (object : ℕ) (found : Option ObjectRow) → IsLike conf (kill_failed conf object found)
failed_like conf object None = like_self conf
failed_like conf object (Some row) = record { boot = refl; history = refl; index = λ n. refl; cpu = λ n. refl }

pub kill_like : (conf : Config) (object : ℕ) → IsLike conf (killed conf object)
kill_like conf object = by_count (conf.count object == 0)
  where
    by_count : (none : Bool)
        → IsLike conf (if none then record (with_turn without_scans conf) { dead = put conf.dead object true }
        else kill_failed conf object (object_at (present conf) conf.index object))
    by_count true = record { boot = refl; history = refl; index = λ n. refl; cpu = λ n. refl }
    by_count false = failed_like conf object (object_at (present conf) conf.index object)

-- the entry of a retirement or a reclaim makes no object

retired_adds : (s : State) (serial : Serial) (seen : List ℕ) (call : Current) → added (changes_of s (logged (Retired serial seen) call)) ≡ None
retired_adds s serial seen call = by_may (is_doomed s serial.0 && is_unretired (object_row s serial.0))
  where
    by_may : (may : Bool) → added (if may then Retire serial seen ∷ [] else []) ≡ None
    by_may true = refl
    by_may false = refl

reclaimed_adds : (s : State) (serial : Serial) (seen : List ℕ) (call : Current) → added (changes_of s (logged (Reclaimed serial seen) call)) ≡ None
reclaimed_adds s serial seen call = by_may (is_doomed s serial.0 && is_retired (object_row s serial.0))
  where
    by_may : (may : Bool) → added (if may then Reclaim serial ∷ [] else []) ≡ None
    by_may true = refl
    by_may false = refl

module _ (progress : Progress) (conf : Config) (at : ℕ) (call : CurrentCall) (stands : Stands (with_call progress at (Some call)) conf)
    (within : at < CPUS) (sound : IsSound conf) where
  abbrev one : Current
  one = current_of call

  -- the history has room for two entries more
  pub rooms : progress.plain.entries + 1 < HISTORY_ENTRIES
  rooms =
      let all : (present conf).entries ≡ conf.boot.entries + length conf.history = entries_all conf.boot conf.history in
      let state : progress.plain.entries ≡ (present conf).entries = ap (λ (s : State). s.entries) stands.state in
      omega (arith, all, state, sound.begins, history_is_short conf sound.long sound.calls)

  unborn : (entry : Entry) → Objects (present conf) (logged entry one) → is_acted entry ≡ false
      → makes_object (present conf) (next_state conf one entry) ≡ false
  unborn entry (inr made) other = absurd (let acts : is_acted entry ≡ true = made.acts in let never : ⊥ = cc in never)
  unborn entry (inl makes) other = by_alive (lives (next_state conf one entry).objects (present conf).next_serial) refl
    where
      by_alive : (alive : Bool) → lives (next_state conf one entry).objects (present conf).next_serial ≡ alive
          → makes_object (present conf) (next_state conf one entry) ≡ false
      by_alive false is = is
      by_alive true is =
          let made : (present conf).next_serial < (present conf).next_serial =
          sound.state.given (present conf).next_serial (makes.lived (present conf).next_serial is) in
          absurd (omega (arith, made))

  -- a retirement
  pub retired_stands : (serial : Serial) (seen : List ℕ)
      → Stands (with_call (with_retired progress serial seen) at (Some call)) (after_all conf (committing at (Retired serial seen) conf))
  retired_stands serial seen =
      subst (λ (s : State). Stands (with_call (with_entry (in_state progress (history.retired s serial seen)) (Retired serial seen)) at (Some call))
      (after_all conf (committing at (Retired serial seen) conf))) (sym stands.state)
      (committed_stands conf at (Retired serial seen) one (current_is progress conf at call stands within)
      (retired_adds (present conf) serial seen one)
      (unborn (Retired serial seen) (event_objects (present conf) (logged (Retired serial seen) one) sound.valid.valid tt) refl)
      (with_call progress at (Some call)) stands)

  -- a reclaim
  pub reclaimed_stands : (serial : Serial) (seen : List ℕ)
      → Stands (with_call (with_reclaimed progress serial seen) at (Some call)) (after_all conf (committing at (Reclaimed serial seen) conf))
  reclaimed_stands serial seen =
      subst (λ (s : State). Stands (with_call (with_entry (in_state progress (history.reclaimed s serial)) (Reclaimed serial seen)) at (Some call))
      (after_all conf (committing at (Reclaimed serial seen) conf))) (sym stands.state)
      (committed_stands conf at (Reclaimed serial seen) one (current_is progress conf at call stands within)
      (reclaimed_adds (present conf) serial seen one)
      (unborn (Reclaimed serial seen) (event_objects (present conf) (logged (Reclaimed serial seen) one) sound.valid.valid tt) refl)
      (with_call progress at (Some call)) stands)

  -- an object is tried for its reclaim
  pub tried_stands : (serial : Serial) (seen : List ℕ) → seen ≡ counters conf
      → Stands (with_call (tried progress serial seen) at (Some call)) (after_all conf (reclaiming at serial conf))
  unfolding reclaiming
  tried_stands serial seen are =
      subst (λ (list : List ℕ). Stands (with_call (tried progress serial list) at (Some call)) (after_all conf (reclaiming at serial conf))) (sym are)
      (by_may (may_reclaim (present conf) serial (counters conf)) (ap (λ (s : State). may_reclaim s serial (counters conf)) stands.state))
    where
      by_may : (may : Bool) → may_reclaim progress.plain serial (counters conf) ≡ may
          → Stands (with_call (tried progress serial (counters conf)) at (Some call))
          (after_all conf (if may then committing at (Reclaimed serial (counters conf)) conf else []))
      by_may true may =
          subst (λ (b : Bool). Stands (with_call (if b then with_reclaimed progress serial (counters conf) else progress) at (Some call))
          (after_all conf (committing at (Reclaimed serial (counters conf)) conf))) (sym may) (reclaimed_stands serial (counters conf))
      by_may false may =
          subst (λ (b : Bool). Stands (with_call (if b then with_reclaimed progress serial (counters conf) else progress) at (Some call)) conf) (sym may) stands

-- an object that lives without references is killed where its word counts nothing

kill_counter : (conf : Config) (object : ℕ) → (killed conf object).counter ≡ conf.counter
kill_counter conf object = by_count (conf.count object == 0)
  where
    by_found : (found : Option ObjectRow) → (kill_failed conf object found).counter ≡ conf.counter
    by_found None = refl
    by_found (Some row) = refl

    by_count : (none : Bool)
        → (if none then record (with_turn without_scans conf) { dead = put conf.dead object true }
        else kill_failed conf object (object_at (present conf) conf.index object)).counter ≡ conf.counter
    by_count true = refl
    by_count false = by_found (object_at (present conf) conf.index object)

-- counters that are scanned where it is possible
first_scan : (at : ℕ) (conf : Config) → AreDone conf (scans at conf) → MayScan conf at 0
unfolding scans
first_scan at conf done = done.0

done_counters : (at : ℕ) (conf : Config) → AreDone conf (scans at conf) → counters (after_all conf (scans at conf)) ≡ map conf.counter all_cpus
done_counters at conf done =
    let may : MayScan conf at 0 = first_scan at conf done in
    scans_counters at conf may.holder may.has_turn.turn

module _ (progress : Progress) (conf : Config) (at : ℕ) (call : CurrentCall) (stands : Stands (with_call progress at (Some call)) conf)
    (within : at < CPUS) (sound : IsSound conf) (serial : Serial) (seen : List ℕ) (are : seen ≡ map conf.counter all_cpus)
    (done : AreDone conf (killing at serial conf)) where
  abbrev Killed : Config
  Killed = killed conf (conf.index serial.0)

  -- it isn't one
  pub spared_stands : may_kill (present conf) serial ≡ false → Stands (with_call progress at (Some call)) (after_all conf (killing at serial conf))
  unfolding killing
  spared_stands may =
      subst (λ (b : Bool). Stands (with_call progress at (Some call)) (after_all conf (if b then kills at serial conf else []))) (sym may) stands

  module _ (may : may_kill (present conf) serial ≡ true) where
    done_kills : AreDone conf (kills at serial conf)
    unfolding killing
    done_kills = subst (λ (b : Bool). AreDone conf (if b then kills at serial conf else [])) may done

    killing_is : after_all conf (killing at serial conf) ≡ after_all Killed (retires_dead at serial (conf.count (conf.index serial.0) == 0) Killed)
    unfolding killing
    killing_is = ap (λ (b : Bool). after_all conf (if b then kills at serial conf else [])) may

    killed_sound : IsSound Killed
    killed_sound = trace_keeps_sound conf (kill at conf.index serial ∷ []) sound (done_kills.0, tt)

    killed_stands : Stands (with_call progress at (Some call)) Killed
    killed_stands = stands_like (with_call progress at (Some call)) conf Killed (kill_like conf (conf.index serial.0)) stands

    -- its word counts pins
    pub pinned_stands : (conf.count (conf.index serial.0) == 0) ≡ false
        → Stands (with_call progress at (Some call)) (after_all conf (killing at serial conf))
    pinned_stands some =
        subst (Stands (with_call progress at (Some call)))
        (sym (killing_is ∙ ap (λ (b : Bool). after_all Killed (retires_dead at serial b Killed)) some)) killed_stands

    -- it counts nothing
    module _ (none : (conf.count (conf.index serial.0) == 0) ≡ true) where
      abbrev Scanned : Config
      Scanned = after_all Killed (scans at Killed)

      abbrev Gone : Config
      Gone = after_all Scanned (retired_now at serial Scanned)

      abbrev Last : Config
      Last = after_all Gone (scans at Gone)

      abbrev behind : List Event
      behind = scans at Gone ++ reclaiming at serial Last

      done_retiring : AreDone Killed (scans at Killed ++ (retired_now at serial Scanned ++ behind))
      unfolding retiring and_then
      done_retiring = subst (λ (b : Bool). AreDone Killed (retires_dead at serial b Killed)) none done_kills.1

      first : AreDone Killed (scans at Killed) × AreDone Scanned (retired_now at serial Scanned ++ behind)
      first = done_parts Killed (scans at Killed) (retired_now at serial Scanned ++ behind) done_retiring

      second : AreDone Scanned (retired_now at serial Scanned) × AreDone Gone behind
      second = done_parts Scanned (retired_now at serial Scanned) behind first.1

      third : AreDone Gone (scans at Gone) × AreDone Last (reclaiming at serial Last)
      third = done_parts Gone (scans at Gone) (reclaiming at serial Last) second.1

      scanned_sound : IsSound Scanned
      scanned_sound = trace_keeps_sound Killed (scans at Killed) killed_sound first.0

      gone_sound : IsSound Gone
      gone_sound = trace_keeps_sound Scanned (retired_now at serial Scanned) scanned_sound second.0

      last_sound : IsSound Last
      last_sound = trace_keeps_sound Gone (scans at Gone) gone_sound third.0

      scanned_stands : Stands (with_call progress at (Some call)) Scanned
      scanned_stands = stands_like (with_call progress at (Some call)) Killed Scanned (scans_like at Killed) killed_stands

      -- the counters are still the same
      scanned_counters : counters Scanned ≡ seen
      scanned_counters =
          done_counters at Killed first.0 ∙ ap (λ (counter : ℕ → ℕ). map counter all_cpus) (kill_counter conf (conf.index serial.0)) ∙ sym are

      gone_stands : Stands (with_call (with_retired progress serial seen) at (Some call)) Gone
      unfolding retired_now
      gone_stands =
          subst (λ (list : List ℕ). Stands (with_call (with_retired progress serial list) at (Some call)) (after_all Scanned (retired_now at serial Scanned)))
          scanned_counters (retired_stands progress Scanned at call scanned_stands within scanned_sound serial (counters Scanned))

      last_stands : Stands (with_call (with_retired progress serial seen) at (Some call)) Last
      last_stands = stands_like (with_call (with_retired progress serial seen) at (Some call)) Gone Last (scans_like at Gone) gone_stands

      last_counters : seen ≡ counters Last
      last_counters =
          are ∙ sym (counters_are progress at call conf (record { stands = stands; sound = sound }))
          ∙ counters_are (with_retired progress serial seen) at call Gone (record { stands = gone_stands; sound = gone_sound })
          ∙ sym (done_counters at Gone third.0)

      last_is : after_all conf (killing at serial conf) ≡ after_all Last (reclaiming at serial Last)
      unfolding retiring and_then
      last_is =
          killing_is ∙ ap (λ (b : Bool). after_all Killed (retires_dead at serial b Killed)) none
          ∙ after_append Killed (scans at Killed) (retired_now at serial Scanned ++ behind)
          ∙ after_append Scanned (retired_now at serial Scanned) behind
          ∙ after_append Gone (scans at Gone) (reclaiming at serial Last)

      pub dead_stands : Stands (with_call (with_dead progress serial seen) at (Some call)) (after_all conf (killing at serial conf))
      dead_stands =
          subst (Stands (with_call (with_dead progress serial seen) at (Some call))) (sym last_is)
          (tried_stands (with_retired progress serial seen) Last at call last_stands within last_sound serial seen last_counters)
