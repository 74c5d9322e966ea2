-- The plans of entries are steady: they ask for no count and no counter, and each event is their own.
use Rattle.std.proofs.Common.{◌≡◌, ◌++◌, ℕ, zero, suc, Bool, true, false, List, [], ◌∷◌, filter, map, refl, Option, Some, None, if◌then◌else◌}
use Rattle.std.specs.List.{AllByRecursion}
use Rattle.gh_base.specs.declared.ids.Serial.{Serial}
use Rattle.gh_events.specs.Config.{Config, Current, judged, present}
use Rattle.gh_events.specs.Entries.{logged, next_state, slot_set}
use Rattle.gh_events.specs.HolderEvents.{is_done}
use Rattle.gh_events.specs.declared.event.Event.{Event}
use Rattle.gh_invariant.specs.Effects.{gained, lost}
use Rattle.gh_invariant.specs.Events.{changes_of}
use Rattle.gh_model.specs.declared.change.Change.{Change}
use Rattle.gh_model.specs.declared.entry.Entry.{Entry}
use Rattle.gh_model.specs.declared.rows.CapabilityRow.{CapabilityRow}
use Rattle.gh_model.specs.declared.rows.ObjectRow.{ObjectRow}
use Rattle.gh_model.specs.declared.state.State.{State}
use Rattle.gh_schedules.specs.Committing.{commits, commits_of, committing, cpu_no, entry_event, gains_owed, is_made, owe, revives, settle, with_new}
use Rattle.gh_schedules.specs.Items.{acting, acts, goes_on, next_part, object_revoked, part, part_at, part_by, part_of, parts}
use Rattle.gh_schedules.specs.Places.{added, places_of}
use Rattle.gh_schedules.specs.Sweep.{counters, may_reclaim, reclaiming, reclaims_all, retired_now, retired_objects}
use Rattle.gh_schedules.specs.Trace.{after_all, and_then, for_each}
use Rattle.gh_words.specs.Moved.{made_on}
use Rattle.gh_words.specs.Steady.{IsSteadyOf}

-- the entries of a plan: each event is steady

module _ (at : ℕ) where
  abbrev pub AreSteady : List Event → Type 0
  AreSteady events = AllByRecursion (IsSteadyOf at) events

  abbrev pub IsSteadyPlan : (Config → List Event) → Type 0
  IsSteadyPlan plan = (conf : Config) → AreSteady (plan conf)

  joined : (events more : List Event) → AreSteady events → AreSteady more → AreSteady (events ++ more)
  joined [] more first_of rest_of = rest_of
  joined (event ∷ events) more first_of rest_of = (first_of.0, joined events more first_of.1 rest_of)

  mapped : {X : Type 0} (event : X → Event) → ((x : X) → IsSteadyOf at (event x)) → (xs : List X) → AreSteady (map event xs)
  mapped event is [] = tt
  mapped event is (x ∷ xs) = (is x, mapped event is xs)

  then_steady : (first second : Config → List Event) → IsSteadyPlan first → IsSteadyPlan second → IsSteadyPlan (and_then first second)
  unfolding and_then
  then_steady first second first_of rest_of conf = joined (first conf) (second (after_all conf (first conf))) (first_of conf) (rest_of (after_all conf (first conf)))

  each_steady : {X : Type 0} (plan : X → Config → List Event) → ((x : X) → IsSteadyPlan (plan x)) → (xs : List X) → IsSteadyPlan (for_each plan xs)
  unfolding for_each
  each_steady plan each [] conf = tt
  each_steady plan each (x ∷ xs) conf = then_steady (plan x) (for_each plan xs) (each x) (each_steady plan each xs) conf

  by_test : (test : Bool) (events : List Event) → AreSteady events → AreSteady (if test then events else [])
  by_test true events are = are
  by_test false events are = tt

  -- an entry
  revives_steady : (s : State) (places index : ℕ → ℕ) (gains : List Serial) (row : Option ObjectRow) → AreSteady (revives at s places index gains row)
  revives_steady s places index gains None = tt
  revives_steady s places index gains (Some row) = (record { steady = refl; own = refl }, tt)

  entry_steady : (entry : Entry) (new : State) (index later : ℕ → ℕ) (place : Option (ℕ × ℕ))
      → IsSteadyOf at (entry_event at entry new index later place)
  entry_steady entry new index later None = record { steady = refl; own = refl }
  entry_steady entry new index later (Some place) = record { steady = refl; own = refl }

  commits_steady : (entry : Entry) (s new : State) (places index : ℕ → ℕ) (changes : List Change) → AreSteady (commits at entry s new places index changes)
  commits_steady entry s new places index changes =
      joined (gains_owed at s index (gained s changes)) _ (mapped (owe at index) (λ serial. record { steady = refl; own = refl }) (filter (is_made s.next_serial) (gained s changes)))
      (joined (revives at s places index (gained s changes) (added changes)) _ (revives_steady s places index (gained s changes) (added changes)) (
        entry_steady entry new index (with_new s places index (added changes)) (slot_set changes),
        mapped (settle at index) (λ serial. record { steady = refl; own = refl }) (lost s changes),
      ))

  commits_by : (entry : Entry) (conf : Config) (call : Option Current) → AreSteady (commits_of at entry conf call)
  commits_by entry conf None = tt
  commits_by entry conf (Some call) =
      commits_steady entry (present conf) (next_state conf call entry) (places_of conf) conf.index (changes_of (present conf) (logged entry call))

  pub committing_steady : (entry : Entry) → IsSteadyPlan (committing at entry)
  unfolding committing
  committing_steady entry conf = commits_by entry conf (conf.cpu at).current

  -- the steps of a sweep
  pub reclaiming_steady : (serial : Serial) → IsSteadyPlan (reclaiming at serial)
  unfolding reclaiming
  reclaiming_steady serial conf = by_test (may_reclaim (present conf) serial (counters conf)) _ (committing_steady _ conf)

  pub retired_steady : (serial : Serial) → IsSteadyPlan (retired_now at serial)
  unfolding retired_now
  retired_steady serial conf = committing_steady _ conf

  pub reclaims_steady : IsSteadyPlan (reclaims_all at)
  unfolding reclaims_all
  reclaims_steady conf = each_steady (reclaiming at) reclaiming_steady (retired_objects (present conf)) conf

  -- the parts and the act
  part_there : (conf : Config) (call : Current) (row : Option CapabilityRow) → AreSteady (part_at at conf call row)
  part_there conf call None = tt
  part_there conf call (Some row) = committing_steady (part_of at call row) conf

  part_steadyed : (conf : Config) (call : Option Current) → AreSteady (part_by at conf call)
  part_steadyed conf None = tt
  part_steadyed conf (Some call) =
      by_test (goes_on (judged (present conf) at call)) _ (part_there conf call (next_part (present conf) (object_revoked call)))

  pub part_steady : IsSteadyPlan (part at)
  unfolding part
  part_steady conf = part_steadyed conf (conf.cpu at).current

  pub parts_steady : (most : ℕ) → IsSteadyPlan (parts at most)
  unfolding parts
  parts_steady zero conf = tt
  parts_steady (suc more) conf = then_steady (part at) (parts at more) part_steady (parts_steady more) conf

  acts_steady : (conf : Config) (call : Option Current) → AreSteady (acts at conf call)
  acts_steady conf None = tt
  acts_steady conf (Some call) = by_test (is_done (judged (present conf) at call)) _ (committing_steady _ conf)

  pub acting_steady : IsSteadyPlan (acting at)
  unfolding acting
  acting_steady conf = acts_steady conf (conf.cpu at).current

  -- so each event is one of this CPU
  pub own_of : (events : List Event) → AreSteady events → AllByRecursion (λ (event : Event). made_on event ≡ cpu_no at) events
  own_of [] are = tt
  own_of (event ∷ events) are = (are.0.own, own_of events are.1)
