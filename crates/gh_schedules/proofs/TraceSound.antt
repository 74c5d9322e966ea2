-- What events that are each possible where they come keep.
use Rattle.std.proofs.Common.{◌≡◌, ◌==◌, ◌<◌, ◌∙◌, ◌⊎◌, inl, inr, ℕ, Bool, true, false, List, [], ◌∷◌, ◌++◌, subst, sym, ap, length, Option, Some, None, slice_get, if◌then◌else◌}
use Rattle.gh_base.specs.declared.limits.TheConstants.{CPUS}
use Rattle.gh_model.specs.History as history
use Rattle.gh_model.specs.declared.entry.Entry.{Entry}
use Rattle.gh_model.specs.declared.entry.Entry.TheVariants.{Acted, Part, Retired, Reclaimed}
use Rattle.gh_model.specs.declared.rows.ObjectRow.{ObjectRow}
use Rattle.gh_model.specs.declared.state.State.{State}
use Rattle.gh_events.specs.Config.{Config, Current, Holder, object_at, present, put}
use Rattle.gh_events.specs.Entries.{Allows, KindAllows, index_after, logged}
use Rattle.gh_events.specs.Events.{Possible, after}
use Rattle.gh_events.specs.HolderEvents.{kill_failed, with_turn, without_scans}
use Rattle.gh_events.specs.Sound.{IsSound}
use Rattle.gh_schedules.specs.Sweep.{KeepsNine}
use Rattle.gh_schedules.specs.Trace.{AreDone, after_all}
use Rattle.gh_events.specs.TurnEvents.{committed_by}
use Rattle.gh_events.specs.declared.event.Event.{Event}
use Rattle.gh_events.specs.declared.event.Event.TheVariants.{Enter, Leave, Take, Look, Pin, Unpin, Undo, Kill, Commit, SetCap, Free, Scan, Revive, Join, Split}
use Rattle.gh_model.proofs.RunLists.{snoc_cases}
use Rattle.gh_events.proofs.GraceCalls.{same_some}
use Rattle.gh_events.proofs.SoundEvents.{event_keeps_sound}

-- a sound configuration
pub trace_keeps_sound : (conf : Config) (events : List Event) → IsSound conf → AreDone conf events
    → IsSound (after_all conf events)
trace_keeps_sound conf [] sound done = sound
trace_keeps_sound conf (event ∷ events) sound done =
    trace_keeps_sound (after conf event) events (event_keeps_sound conf event sound done.0) done.1

-- nine counters on each entry that keeps them

nine_kind : (conf : Config) (holder : Holder) (call : Current) (whole kind : Entry)
    → KindAllows conf holder call whole kind → (seen : List ℕ) → history.counters kind ≡ Some seen
    → length seen ≡ CPUS
nine_kind conf holder call whole (Acted n number) allowed seen keeps =
    absurd (let never : ⊥ = cc in never)
nine_kind conf holder call whole (Part n number space slot) allowed seen keeps =
    absurd (let never : ⊥ = cc in never)
nine_kind conf holder call whole (Retired serial kept) allowed seen keeps =
    subst (λ (list : List ℕ). length list ≡ CPUS) (same_some kept seen keeps) allowed.scans.nine
nine_kind conf holder call whole (Reclaimed serial kept) allowed seen keeps =
    subst (λ (list : List ℕ). length list ≡ CPUS) (same_some kept seen keeps) allowed.scans.nine

nine_more : (events : List history.Event) (new : history.Event) → KeepsNine events
    → ((seen : List ℕ) → history.counters new.entry ≡ Some seen → length seen ≡ CPUS)
    → KeepsNine (events ++ new ∷ [])
nine_more events new nine last n event seen is keeps =
    by_place (snoc_cases events new event n is)
  where
    by_place : ((n < length events) × (slice_get events n ≡ Some event)) ⊎ ((n ≡ length events) × (new ≡ event))
        → length seen ≡ CPUS
    by_place (inl old) = nine n event seen old.1 keeps
    by_place (inr same) = last seen (ap (λ (one : history.Event). history.counters one.entry) same.1 ∙ keeps)

abbrev Nine : Config → Type 0
Nine conf = KeepsNine conf.history

failed_nine : (conf : Config) (object : ℕ) (found : Option ObjectRow) → Nine conf → Nine (kill_failed conf object found)
failed_nine conf object None nine = nine
failed_nine conf object (Some row) nine = nine

killed_nine : (conf : Config) (object : ℕ) (none : Bool) → Nine conf
    → Nine (if none then record (with_turn without_scans conf) { dead = put conf.dead object true }
    else kill_failed conf object (object_at (present conf) conf.index object))
killed_nine conf object true nine = nine
killed_nine conf object false nine = failed_nine conf object (object_at (present conf) conf.index object) nine

committed_nine : (conf : Config) (at : ℕ) (entry : Entry) (index : State → ℕ → ℕ) (holder : Holder) (call : Current)
    → Allows conf at entry holder call → Nine conf → Nine (committed_by conf entry index (conf.cpu at).current)
committed_nine conf at entry index holder call allows nine =
    subst (λ (one : Option Current). Nine (committed_by conf entry index one)) (sym allows.in_act.is_current)
    (nine_more conf.history (logged entry call) nine (nine_kind conf holder call entry entry allows.allowed))

pub event_nine : (conf : Config) (event : Event) → Nine conf → Possible conf event → Nine (after conf event)
event_nine conf (Enter cpu) nine may = nine
event_nine conf (Leave cpu) nine may = nine
event_nine conf (Take cpu) nine may = nine
event_nine conf (Look cpu slot) nine may = nine
event_nine conf (Pin cpu object false) nine may = nine
event_nine conf (Pin cpu object true) nine may = nine
event_nine conf (Unpin cpu object false) nine may = nine
event_nine conf (Unpin cpu object true) nine may = nine
event_nine conf (Undo cpu object) nine may = nine
event_nine conf (Kill cpu object) nine may = killed_nine conf object.0 (conf.count object.0 == 0) nine
event_nine conf (Commit cpu entry) nine may =
    committed_nine conf cpu.0 entry (λ new. conf.index) may.holder may.call may.allows nine
event_nine conf (SetCap cpu entry space slot word) nine may =
    committed_nine conf cpu.0 entry (λ new. index_after conf new word) may.holder may.call may.allows nine
event_nine conf (Free cpu true) nine may = nine
event_nine conf (Free cpu false) nine may = nine
event_nine conf (Scan cpu of_cpu) nine may = nine
event_nine conf (Revive cpu object count) nine may = nine
event_nine conf (Join cpu) nine may = nine
event_nine conf (Split cpu) nine may = nine

pub trace_nine : (conf : Config) (events : List Event) → Nine conf → AreDone conf events
    → Nine (after_all conf events)
trace_nine conf [] nine done = nine
trace_nine conf (event ∷ events) nine done =
    trace_nine (after conf event) events (event_nine conf event nine done.0) done.1
