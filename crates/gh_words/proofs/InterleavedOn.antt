-- What is said of the configuration behind the sweep, the parts and the act may be weaker, and may
-- say besides what each possible event keeps.
use Rattle.std.proofs.Common.{◌+◌, ◌*◌, ◌++◌, ℕ, zero, suc, Bool, true, false, List, [], ◌∷◌, length, Option, Some, None, nat_lt}
use Rattle.gh_base.specs.declared.ids.Serial.{Serial}
use Rattle.gh_events.specs.Config.{Config, Current, entries, present}
use Rattle.gh_events.specs.Events.{Possible, after}
use Rattle.gh_events.specs.Sound.{IsSound}
use Rattle.gh_events.specs.declared.event.Event.{Event}
use Rattle.gh_model.specs.Legal.{is_revoke}
use Rattle.gh_schedules.specs.Items.{acting, object_revoked, parts, plain_caps, sweeps}
use Rattle.gh_schedules.specs.Sweep.{KeepsNine, doomed_objects, kill, may_kill, reclaiming, reclaims_all, retired_now, scans}
use Rattle.gh_schedules.specs.Trace.{AreDone, after_all}
use Rattle.gh_words.specs.Interleaved.{Acts, IfTrue, Kills, Prepares, Retires, Round, Rounds, Sweeps, TriesKill, TriesKills}
use Rattle.gh_words.specs.Moved.{Moved, MovedAll}
use Rattle.gh_events.proofs.SoundEvents.{event_keeps_sound}
use Rattle.gh_schedules.proofs.TraceSound.{event_nine}

-- each possible event keeps it
abbrev pub IsKept : (Config → Type 0) → Type 0
IsKept Kept = (conf : Config) (event : Event) → Kept conf → Possible conf event → Kept (after conf event)

pub kept_all : (Kept : Config → Type 0) → IsKept Kept → (conf : Config) (events : List Event) → Kept conf → AreDone conf events
    → Kept (after_all conf events)
kept_all Kept keeps conf [] kept done = kept
kept_all Kept keeps conf (event ∷ events) kept done =
    kept_all Kept keeps (after conf event) events (keeps conf event kept done.0) done.1

pub keeps_everything : IsKept (λ _. Unit {0})
keeps_everything conf event kept may = tt

-- a sound configuration, with nine counters on each entry that keeps counters
abbrev pub IsSoundNine : Config → Type 0
IsSoundNine conf = IsSound conf × KeepsNine conf.history

pub keeps_sound_nine : IsKept IsSoundNine
keeps_sound_nine conf event kept may = (event_keeps_sound conf event kept.0 may, event_nine conf event kept.1 may)

-- what is said behind, and what is kept, give something else
module _ (between : List Event → Type 0) (Kept : Config → Type 0) (keeps : IsKept Kept) where
  abbrev Gives : (Config → Type 0) → (Config → Type 0) → Type 0
  Gives behind so = (later : Config) → Kept later → behind later → so later

  pub moved_on : (found behind so : Config → Type 0) → Gives behind so → (conf : Config) (event : Event) → Kept conf
      → Moved between found behind conf event → Moved between found so conf event
  moved_on found behind so on conf event kept moved = record {
    others = moved.others;
    allowed = moved.allowed;
    foreign = moved.foreign;
    done = moved.done;
    finds = moved.finds;
    leaves = on (after_all conf (moved.others ++ event ∷ [])) (kept_all Kept keeps conf (moved.others ++ event ∷ []) kept moved.done) moved.leaves;
  }

  pub all_on : (behind so : Config → Type 0) → Gives behind so → (events : List Event) (conf : Config) → Kept conf
      → MovedAll between behind conf events → MovedAll between so conf events
  all_on behind so on [] conf kept moved = on conf kept moved
  all_on behind so on (event ∷ events) conf kept moved =
      moved_on (λ _. Unit {0}) (λ (later : Config). MovedAll between behind later events) (λ (later : Config). MovedAll between so later events)
      (all_on behind so on events) conf event kept moved

  -- one of two things, by a test
  if_on : (test : Bool) (here other so_here so_other : Type 0) → (here → so_here) → (other → so_other) → IfTrue test here other
      → IfTrue test so_here so_other
  if_on true here other so_here so_other on off holds = on holds
  if_on false here other so_here so_other on off holds = off holds

  module _ (at : ℕ) where
    pub retires_on : (serial : Serial) (behind so : Config → Type 0) → Gives behind so
        → Gives (Retires between at serial behind) (Retires between at serial so)
    retires_on serial behind so on conf kept =
        all_on _ _
        (λ later. all_on _ _
        (λ later. all_on _ _ (λ later. all_on behind so on (reclaiming at serial later) later) (scans at later) later)
        (retired_now at serial later) later)
        (scans at conf) conf kept

    pub kills_on : (serial : Serial) (behind so : Config → Type 0) → Gives behind so
        → Gives (Kills between at serial behind) (Kills between at serial so)
    kills_on serial behind so on conf kept =
        all_on _ _
        (λ later kept. if_on (later.dead (conf.index serial.0)) _ _ _ _ (retires_on serial behind so on later kept) (on later kept))
        (kill at conf.index serial ∷ []) conf kept

    pub try_on : (serial : Serial) (behind so : Config → Type 0) → Gives behind so
        → Gives (TriesKill between at behind serial) (TriesKill between at so serial)
    try_on serial behind so on conf kept =
        if_on (may_kill (present conf) serial) _ _ _ _ (kills_on serial behind so on conf kept) (on conf kept)

    pub tries_on : (serials : List Serial) (behind so : Config → Type 0) → Gives behind so
        → Gives (TriesKills between at serials behind) (TriesKills between at serials so)
    tries_on [] behind so on = on
    tries_on (serial ∷ serials) behind so on =
        try_on serial (TriesKills between at serials behind) (TriesKills between at serials so) (tries_on serials behind so on)

    pub round_on : (behind so : Config → Type 0) → Gives behind so → Gives (Round between at behind) (Round between at so)
    round_on behind so on conf kept =
        all_on _ _
        (λ later. all_on _ _ (λ later. tries_on (doomed_objects (present later)) behind so on later) (reclaims_all at later) later)
        (scans at conf) conf kept

    pub rounds_on : (most : ℕ) (behind so : Config → Type 0) → Gives behind so
        → Gives (Rounds between at most behind) (Rounds between at most so)
    rounds_on zero behind so on conf kept = on conf kept
    rounds_on (suc more) behind so on conf kept =
        round_on _ _
        (λ later kept. if_on (nat_lt (entries conf) (entries later)) _ _ _ _ (rounds_on more behind so on later kept) (on later kept)) conf kept

    pub sweeps_on : (behind so : Config → Type 0) → Gives behind so → Gives (Sweeps between at behind) (Sweeps between at so)
    sweeps_on behind so on conf = rounds_on (2 * length (present conf).objects + 1) behind so on conf

    pub prepares_on : (call : Option Current) (behind so : Config → Type 0) → Gives behind so
        → Gives (Prepares between at call behind) (Prepares between at call so)
    prepares_on None behind so on conf kept = on conf kept
    prepares_on (Some call) behind so on conf kept =
        if_on (sweeps call.given.call) _ _ _ _ (sweeps_on behind so on conf kept)
        (if_on (is_revoke call.given.call) _ _ _ _
        (all_on behind so on (parts at (length (plain_caps (present conf) (object_revoked call))) conf) conf kept) (on conf kept))

    pub acts_on : (behind so : Config → Type 0) → Gives behind so → Gives (Acts between at behind) (Acts between at so)
    acts_on behind so on conf kept =
        prepares_on (conf.cpu at).current _ _ (λ later. all_on behind so on (acting at later) later) conf kept

-- so the sweep and the act lead to sound configurations
module _ (between : List Event → Type 0) (at : ℕ) (behind : Config → Type 0) (conf : Config) (sound : IsSoundNine conf) where
  abbrev AlsoSound : Config → Type 0
  AlsoSound later = behind later × IsSound later × KeepsNine later.history

  pub sweeps_sound : Sweeps between at behind conf → Sweeps between at AlsoSound conf
  sweeps_sound = sweeps_on between IsSoundNine keeps_sound_nine at behind AlsoSound (λ later kept here. (here, kept.0, kept.1)) conf sound

  pub acts_sound : Acts between at behind conf → Acts between at AlsoSound conf
  acts_sound = acts_on between IsSoundNine keeps_sound_nine at behind AlsoSound (λ later kept here. (here, kept.0, kept.1)) conf sound
