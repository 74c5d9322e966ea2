-- What is said of the sweep, the parts and the act while other CPUs move is said of lists of events.
use Rattle.std.proofs.Common.{◌≡◌, ◌+◌, ◌*◌, ◌++◌, ℕ, zero, suc, Bool, true, false, List, [], ◌∷◌, flat_map, length, map, refl, subst, sym, Option, Some, None, nat_lt}
use Rattle.std.specs.List.{AllByRecursion, list_all}
use Rattle.std.proofs.lemmas.List.Elements.{All-cons, All-nil}
use Rattle.gh_base.specs.declared.ids.CpuNo.{CpuNo}
use Rattle.gh_base.specs.declared.ids.Serial.{Serial}
use Rattle.gh_events.specs.Config.{Config, Current, entries, present}
use Rattle.gh_events.specs.declared.event.Event.{Event}
use Rattle.gh_model.specs.Legal.{is_revoke}
use Rattle.gh_schedules.specs.Committing.{cpu_no}
use Rattle.gh_schedules.specs.Items.{acting, object_revoked, parts, plain_caps, sweeps}
use Rattle.gh_schedules.specs.Sweep.{all_cpus, doomed_objects, kill, may_kill, reclaiming, reclaims_all, retired_now, scan, scans}
use Rattle.gh_schedules.specs.Trace.{AreDone, after_all}
use Rattle.gh_words.specs.Interleaved.{Acts, IfTrue, Kills, Prepares, Retires, Round, Rounds, Sweeps, TriesKills}
use Rattle.gh_words.specs.Moved.{Moved, MovedAll, is_other, made_on}
use Rattle.gh_words.specs.Steps.{IsStepOf, LeadsBySteps, Step, events_of}
use Rattle.gh_schedules.proofs.TraceLaws.{after_append, done_append}
use Rattle.gh_words.proofs.PlansSteady.{acting_steady, own_of, parts_steady, reclaiming_steady, reclaims_steady, retired_steady}

-- a plan whose events are all of one CPU

module _ (at : ℕ) where
  abbrev AreOwn : List Event → Type 0
  AreOwn events = AllByRecursion (λ (event : Event). made_on event ≡ cpu_no at) events

  maps_own : {X : Type 0} (event : X → Event) → ((x : X) → made_on (event x) ≡ cpu_no at) → (xs : List X) → AreOwn (map event xs)
  maps_own event is [] = tt
  maps_own event is (x ∷ xs) = (is x, maps_own event is xs)

  scans_own : (conf : Config) → AreOwn (scans at conf)
  unfolding scans
  scans_own conf = maps_own (scan at) (λ of. refl) all_cpus

-- one step, and others behind it
module _ (between : List Event → Type 0) (at : ℕ) (so : Config → Type 0) where
  abbrev BySteps : Config → Type 0
  BySteps = LeadsBySteps between at so

  no_step : (conf : Config) → so conf → BySteps conf
  no_step conf here = record { steps = []; each = All-nil (IsStepOf between at); done = tt; leaves = here }

  more_steps : (conf : Config) (step : Step) → IsStepOf between at step → AreDone conf (events_of step)
      → BySteps (after_all conf (events_of step)) → BySteps conf
  more_steps conf step is done rest = record {
    steps = step ∷ rest.steps;
    each = All-cons (IsStepOf between at) step rest.steps is rest.each;
    done = done_append conf (events_of step) (flat_map events_of rest.steps) done rest.done;
    leaves = subst so (sym (after_append conf (events_of step) (flat_map events_of rest.steps))) rest.leaves;
  }

  one_step : (found behind : Config → Type 0) (conf : Config) (event : Event) → made_on event ≡ cpu_no at
      → Moved between found behind conf event → ((later : Config) → behind later → BySteps later) → BySteps conf
  one_step found behind conf event own moved on =
      more_steps conf (record { others = moved.others; own = event })
      (record {
        allowed = moved.allowed;
        foreign = subst (λ (cpu : CpuNo). list_all (is_other cpu) moved.others ≡ true) own moved.foreign;
        is_own = own;
      })
      moved.done (on (after_all conf (moved.others ++ event ∷ [])) moved.leaves)

  all_steps : (behind : Config → Type 0) (conf : Config) (events : List Event) → AreOwn at events → MovedAll between behind conf events
      → ((later : Config) → behind later → BySteps later) → BySteps conf
  all_steps behind conf [] own moved on = on conf moved
  all_steps behind conf (event ∷ events) own moved on =
      one_step (λ _. Unit {0}) (λ (later : Config). MovedAll between behind later events) conf event own.0 moved
      (λ later more. all_steps behind later events own.1 more on)

  by_either : (test : Bool) (on_true on_false : Type 0) (conf : Config) → (on_true → BySteps conf) → (on_false → BySteps conf)
      → IfTrue test on_true on_false → BySteps conf
  by_either true on_true on_false conf on off holds = on holds
  by_either false on_true on_false conf on off holds = off holds

  retires_steps : (serial : Serial) (behind : Config → Type 0) → ((later : Config) → behind later → BySteps later)
      → (conf : Config) → Retires between at serial behind conf → BySteps conf
  retires_steps serial behind on conf moved =
      all_steps _ conf (scans at conf) (scans_own at conf) moved
      (λ later moved. all_steps _ later (retired_now at serial later) (own_of at (retired_now at serial later) (retired_steady at serial later)) moved
      (λ later moved. all_steps _ later (scans at later) (scans_own at later) moved
      (λ later moved. all_steps behind later (reclaiming at serial later) (own_of at (reclaiming at serial later) (reclaiming_steady at serial later)) moved on)))

  kills_steps : (serial : Serial) (behind : Config → Type 0) → ((later : Config) → behind later → BySteps later)
      → (conf : Config) → Kills between at serial behind conf → BySteps conf
  kills_steps serial behind on conf moved =
      one_step (λ _. Unit {0}) _ conf (kill at conf.index serial) refl moved
      (λ later. by_either (later.dead (conf.index serial.0)) _ _ later (retires_steps serial behind on later) (on later))

  tries_steps : (serials : List Serial) (behind : Config → Type 0) → ((later : Config) → behind later → BySteps later)
      → (conf : Config) → TriesKills between at serials behind conf → BySteps conf
  tries_steps [] behind on conf moved = on conf moved
  tries_steps (serial ∷ serials) behind on conf moved =
      by_either (may_kill (present conf) serial) _ _ conf
      (kills_steps serial (TriesKills between at serials behind) (tries_steps serials behind on) conf)
      (tries_steps serials behind on conf) moved

  round_steps : (behind : Config → Type 0) → ((later : Config) → behind later → BySteps later)
      → (conf : Config) → Round between at behind conf → BySteps conf
  round_steps behind on conf moved =
      all_steps _ conf (scans at conf) (scans_own at conf) moved
      (λ later moved. all_steps _ later (reclaims_all at later) (own_of at (reclaims_all at later) (reclaims_steady at later)) moved
      (λ later moved. tries_steps (doomed_objects (present later)) behind on later moved))

  rounds_steps : (most : ℕ) (behind : Config → Type 0) → ((later : Config) → behind later → BySteps later)
      → (conf : Config) → Rounds between at most behind conf → BySteps conf
  rounds_steps zero behind on conf moved = on conf moved
  rounds_steps (suc more) behind on conf moved =
      round_steps _ (λ later. by_either (nat_lt (entries conf) (entries later)) _ _ later (rounds_steps more behind on later) (on later)) conf moved

  sweeps_steps : (behind : Config → Type 0) → ((later : Config) → behind later → BySteps later)
      → (conf : Config) → Sweeps between at behind conf → BySteps conf
  sweeps_steps behind on conf moved = rounds_steps (2 * length (present conf).objects + 1) behind on conf moved

  prepares_steps : (behind : Config → Type 0) → ((later : Config) → behind later → BySteps later)
      → (call : Option Current) (conf : Config) → Prepares between at call behind conf → BySteps conf
  prepares_steps behind on None conf moved = on conf moved
  prepares_steps behind on (Some call) conf moved =
      by_either (sweeps call.given.call) _ _ conf (sweeps_steps behind on conf)
      (by_either (is_revoke call.given.call) _ _ conf
      (λ moved. all_steps behind conf _ (own_of at (parts at (length (plain_caps (present conf) (object_revoked call))) conf) (parts_steady at (length (plain_caps (present conf) (object_revoked call))) conf)) moved on) (on conf)) moved

  pub acts_steps : (behind : Config → Type 0) → ((later : Config) → behind later → BySteps later)
      → (conf : Config) → Acts between at behind conf → BySteps conf
  acts_steps behind on conf moved =
      prepares_steps _ (λ later moved. all_steps behind later (acting at later) (own_of at (acting at later) (acting_steady at later)) moved on) (conf.cpu at).current conf moved

-- each course is a list of possible events
pub sweeps_are_steps : (between : List Event → Type 0) (at : ℕ) (behind : Config → Type 0) (conf : Config)
    → Sweeps between at behind conf → LeadsBySteps between at behind conf
sweeps_are_steps between at behind conf moved = sweeps_steps between at behind behind (no_step between at behind) conf moved

pub acts_are_steps : (between : List Event → Type 0) (at : ℕ) (behind : Config → Type 0) (conf : Config)
    → Acts between at behind conf → LeadsBySteps between at behind conf
acts_are_steps between at behind conf moved = acts_steps between at behind behind (no_step between at behind) conf moved
