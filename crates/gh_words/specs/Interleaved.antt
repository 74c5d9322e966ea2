-- What the holder of a turn does about its call while other CPUs go on: the steps of the sweep, of
-- the parts and of the act, each behind events of other CPUs. What comes behind them all is said of
-- the configuration that they lead to.
use Rattle.std.specs.Prelude.{◌+◌, ◌*◌, ℕ, zero, suc, Bool, true, false, List, [], ◌∷◌, length, Option, Some, None, nat_lt}
use Rattle.gh_base.specs.declared.ids.Serial.{Serial}
use Rattle.gh_events.specs.Config.{Config, Current, entries, present}
use Rattle.gh_events.specs.declared.event.Event.{Event}
use Rattle.gh_model.specs.Legal.{is_revoke}
use Rattle.gh_schedules.specs.Items.{acting, object_revoked, parts, plain_caps, sweeps}
use Rattle.gh_schedules.specs.Sweep.{doomed_objects, kill, may_kill, reclaiming, reclaims_all, retired_now, scans}
use Rattle.gh_words.specs.Moved.{MovedAll}

-- one of two things, by a test
abbrev pub IfTrue : Bool → Type 0 → Type 0 → Type 0
IfTrue true first second = first
IfTrue false first second = second

-- a plan of events that no other CPU has a say in: it is made as it was planned at its begin
abbrev pub Planned : (List Event → Type 0) → (Config → List Event) → (Config → Type 0)
    → Config → Type 0
Planned between plan behind conf = MovedAll between behind conf (plan conf)

-- a killed object is retired with counters that are scanned then, and tried once with newer ones
abbrev pub Retires : (List Event → Type 0) → ℕ → Serial → (Config → Type 0) → Config → Type 0
Retires between at serial behind =
    Planned between (scans at)
    (Planned between (retired_now at serial)
    (Planned between (scans at) (Planned between (reclaiming at serial) behind)))

-- an object without references is killed; where no other CPU has a pin on it by then, its word is
-- dead, and it is retired
abbrev pub Kills : (List Event → Type 0) → ℕ → Serial → (Config → Type 0) → Config → Type 0
Kills between at serial behind conf = MovedAll between
    (λ later. IfTrue (later.dead (conf.index serial.0)) (Retires between at serial behind later)
    (behind later))
    conf (kill at conf.index serial ∷ [])

abbrev pub TriesKill : (List Event → Type 0) → ℕ → (Config → Type 0) → Serial → Config → Type 0
TriesKill between at behind serial conf =
    IfTrue (may_kill (present conf) serial) (Kills between at serial behind conf) (behind conf)

abbrev pub TriesKills : (List Event → Type 0) → ℕ → List Serial → (Config → Type 0)
    → Config → Type 0
TriesKills between at [] behind = behind
TriesKills between at (serial ∷ serials) behind =
    TriesKill between at (TriesKills between at serials behind) serial

-- one round: with the counters scanned once, each object is tried that is retired at its begin;
-- then each is that is without references by then
abbrev pub Round : (List Event → Type 0) → ℕ → (Config → Type 0) → Config → Type 0
Round between at behind =
    Planned between (scans at)
    (Planned between (reclaims_all at)
    (λ later. TriesKills between at (doomed_objects (present later)) behind later))

-- rounds, so many at most, until one adds no entry
abbrev pub Rounds : (List Event → Type 0) → ℕ → ℕ → (Config → Type 0) → Config → Type 0
Rounds between at zero behind conf = behind conf
Rounds between at (suc more) behind conf = Round between at
    (λ later. IfTrue (nat_lt (entries conf) (entries later)) (Rounds between at more behind later)
    (behind later))
    conf

abbrev pub Sweeps : (List Event → Type 0) → ℕ → (Config → Type 0) → Config → Type 0
Sweeps between at behind conf =
    Rounds between at (2 * length (present conf).objects + 1) behind conf

-- a create and both configure calls sweep first; a revoke takes one slot after another
abbrev pub Prepares : (List Event → Type 0) → ℕ → Option Current → (Config → Type 0)
    → Config → Type 0
Prepares between at None behind conf = behind conf
Prepares between at (Some call) behind conf =
    IfTrue (sweeps call.given.call) (Sweeps between at behind conf)
    (IfTrue (is_revoke call.given.call)
    (Planned between (parts at (length (plain_caps (present conf) (object_revoked call))))
    behind conf)
    (behind conf))

-- then an act that is done has its entry
abbrev pub Acts : (List Event → Type 0) → ℕ → (Config → Type 0) → Config → Type 0
Acts between at behind conf =
    Prepares between at (conf.cpu at).current (Planned between (acting at) behind) conf
