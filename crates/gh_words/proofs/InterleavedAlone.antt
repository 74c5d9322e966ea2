-- Where no other CPU moves between, the sweep, the parts and the act are the plans of one CPU alone.
use Rattle.std.proofs.Common.{◌≡◌, ◌==◌, ◌+◌, ◌*◌, ℕ, zero, suc, Bool, true, false, List, [], ◌∷◌, length, refl, subst, sym, Option, Some, None, nat_lt, if◌then◌else◌}
use Rattle.gh_base.specs.declared.ids.Serial.{Serial}
use Rattle.gh_events.specs.Config.{Config, Current, entries, object_at, present, put}
use Rattle.gh_events.specs.Events.{Possible, after}
use Rattle.gh_events.specs.HolderEvents.{kill_failed, with_turn, without_scans}
use Rattle.gh_events.specs.declared.event.Event.{Event}
use Rattle.gh_model.specs.Legal.{is_revoke}
use Rattle.gh_model.specs.declared.rows.ObjectRow.{ObjectRow}
use Rattle.gh_schedules.specs.Items.{acting, prepares, preparing, sweeps}
use Rattle.gh_schedules.specs.Sweep.{doomed_objects, kill, killing, kills, kills_all, may_kill, reclaiming, reclaims_all, retired_now, retires_dead, retiring, round, rounds, scans, sweep}
use Rattle.gh_schedules.specs.Trace.{after_all, and_then, for_each}
use Rattle.gh_words.specs.Interleaved.{Acts, IfTrue, Kills, Prepares, Retires, Round, Rounds, Sweeps, TriesKill, TriesKills}
use Rattle.gh_words.specs.Moved.{MovedAll}
use Rattle.gh_events.proofs.Finding.{put_here}
use Rattle.gh_schedules.proofs.TraceLaws.{Leads, leads_append, leads_cons, leads_none, leads_then}
use Rattle.gh_words.proofs.Alone.{lone}

-- a word that a kill found alive is dead behind it just where it counted nothing

failed_dead : (conf : Config) (object : ℕ) (found : Option ObjectRow) → (kill_failed conf object found).dead ≡ conf.dead
failed_dead conf object None = refl
failed_dead conf object (Some row) = refl

killed_dead : (conf : Config) (object : ℕ) (none : Bool) → conf.dead object ≡ false
    → (if none then record (with_turn without_scans conf) { dead = put conf.dead object true }
    else kill_failed conf object (object_at (present conf) conf.index object)).dead object ≡ none
killed_dead conf object true alive = put_here conf.dead object true
killed_dead conf object false alive =
    subst (λ (dead : ℕ → Bool). dead object ≡ false) (sym (failed_dead conf object (object_at (present conf) conf.index object))) alive

pub kill_dies : (conf : Config) (at : ℕ) (serial : Serial) → Possible conf (kill at conf.index serial)
    → (after conf (kill at conf.index serial)).dead (conf.index serial.0) ≡ (conf.count (conf.index serial.0) == 0)
kill_dies conf at serial may = killed_dead conf (conf.index serial.0) (conf.count (conf.index serial.0) == 0) may.alive

-- one of two plans, by a test
if_leads : (conf : Config) (behind : Config → Type 0) (test : Bool) (on_true on_false : Type 0) (first second : List Event)
    → (on_true → Leads conf first behind) → (on_false → Leads conf second behind) → IfTrue test on_true on_false
    → Leads conf (if test then first else second) behind
if_leads conf behind true on_true on_false first second on off holds = on holds
if_leads conf behind false on_true on_false first second on off holds = off holds

module _ (between : List Event → Type 0) (only : (others : List Event) → between others → others ≡ []) (at : ℕ) (behind : Config → Type 0) where
  all_alone : (goes : Config → Type 0) (conf : Config) (events : List Event) → MovedAll between goes conf events → Leads conf events goes
  all_alone goes conf [] moved = leads_none conf goes moved
  all_alone goes conf (event ∷ events) moved =
      let made = lone between (λ _. Unit {0}) (λ (later : Config). MovedAll between goes later events) conf event moved (only moved.others moved.allowed) in
      leads_cons conf event events goes (record { done = (made.0, tt); behind = all_alone goes (after conf event) events made.1 })

  retires_alone : (serial : Serial) (conf : Config) → Retires between at serial behind conf → Leads conf (retiring at serial conf) behind
  unfolding retiring
  retires_alone serial conf moved =
      leads_then (scans at) _ conf _ behind (all_alone _ conf (scans at conf) moved)
      (λ new moved. leads_then (retired_now at serial) _ new _ behind (all_alone _ new (retired_now at serial new) moved)
      (λ new moved. leads_then (scans at) (reclaiming at serial) new _ behind (all_alone _ new (scans at new) moved)
      (λ new moved. all_alone behind new (reclaiming at serial new) moved)))

  by_dead : (serial : Serial) (conf : Config) (dead : Bool) → IfTrue dead (Retires between at serial behind conf) (behind conf)
      → Leads conf (retires_dead at serial dead conf) behind
  by_dead serial conf true moved = retires_alone serial conf moved
  by_dead serial conf false moved = leads_none conf behind moved

  kills_alone : (serial : Serial) (conf : Config) → Kills between at serial behind conf → Leads conf (kills at serial conf) behind
  kills_alone serial conf moved =
      let made = lone between (λ _. Unit {0}) _ conf (kill at conf.index serial) moved (only moved.others moved.allowed) in
      leads_cons conf (kill at conf.index serial) _ behind (record {
        done = (made.0, tt);
        behind = by_dead serial (after conf (kill at conf.index serial)) (conf.count (conf.index serial.0) == 0)
            (subst (λ (dead : Bool). IfTrue dead (Retires between at serial behind (after conf (kill at conf.index serial))) (behind (after conf (kill at conf.index serial))))
            (kill_dies conf at serial made.0) made.1);
      })

module _ (between : List Event → Type 0) (only : (others : List Event) → between others → others ≡ []) (at : ℕ) where
  try_alone : (serial : Serial) (behind : Config → Type 0) (conf : Config) → TriesKill between at behind serial conf
      → Leads conf (killing at serial conf) behind
  unfolding killing
  try_alone serial behind conf moved =
      if_leads conf behind (may_kill (present conf) serial) (Kills between at serial behind conf) (behind conf) (kills at serial conf) []
      (kills_alone between only at behind serial conf) (leads_none conf behind) moved

  tries_alone : (serials : List Serial) (behind : Config → Type 0) (conf : Config) → TriesKills between at serials behind conf
      → Leads conf (for_each (killing at) serials conf) behind
  unfolding for_each
  tries_alone [] behind conf moved = leads_none conf behind moved
  tries_alone (serial ∷ serials) behind conf moved =
      leads_then (killing at serial) (for_each (killing at) serials) conf (TriesKills between at serials behind) behind
      (try_alone serial (TriesKills between at serials behind) conf moved) (tries_alone serials behind)

  doomed_alone : (behind : Config → Type 0) (conf : Config) → TriesKills between at (doomed_objects (present conf)) behind conf
      → Leads conf (kills_all at conf) behind
  unfolding kills_all
  doomed_alone behind conf moved = tries_alone (doomed_objects (present conf)) behind conf moved

  round_alone : (behind : Config → Type 0) (conf : Config) → Round between at behind conf → Leads conf (round at conf) behind
  unfolding round
  round_alone behind conf moved =
      leads_then (scans at) _ conf _ behind (all_alone between only at behind _ conf (scans at conf) moved)
      (λ new moved. leads_then (reclaims_all at) (kills_all at) new _ behind (all_alone between only at behind _ new (reclaims_all at new) moved)
      (doomed_alone behind))

  rounds_alone : (most : ℕ) (behind : Config → Type 0) (conf : Config) → Rounds between at most behind conf → Leads conf (rounds at most conf) behind
  unfolding rounds
  rounds_alone zero behind conf moved = leads_none conf behind moved
  rounds_alone (suc more) behind conf moved =
      leads_append conf (round at conf) _ _ behind (round_alone _ conf moved)
      (λ goes_on. if_leads (after_all conf (round at conf)) behind (nat_lt (entries conf) (entries (after_all conf (round at conf)))) _ _ _ []
      (rounds_alone more behind (after_all conf (round at conf))) (leads_none (after_all conf (round at conf)) behind) goes_on)

  pub sweeps_alone : (behind : Config → Type 0) (conf : Config) → Sweeps between at behind conf → Leads conf (sweep at conf) behind
  unfolding sweep
  sweeps_alone behind conf moved = rounds_alone (2 * length (present conf).objects + 1) behind conf moved

  prepares_alone : (behind : Config → Type 0) (conf : Config) (call : Option Current) → Prepares between at call behind conf
      → Leads conf (prepares at conf call) behind
  prepares_alone behind conf None moved = leads_none conf behind moved
  prepares_alone behind conf (Some call) moved =
      if_leads conf behind (sweeps call.given.call) _ _ (sweep at conf) _ (sweeps_alone behind conf)
      (if_leads conf behind (is_revoke call.given.call) _ _ _ [] (all_alone between only at behind behind conf _) (leads_none conf behind)) moved

  pub acts_alone : (behind : Config → Type 0) (conf : Config) → Acts between at behind conf
      → Leads conf (and_then (preparing at) (acting at) conf) behind
  unfolding preparing
  acts_alone behind conf moved =
      leads_then (preparing at) (acting at) conf _ behind (prepares_alone _ conf (conf.cpu at).current moved)
      (λ new moved. all_alone between only at behind behind new (acting at new) moved)
