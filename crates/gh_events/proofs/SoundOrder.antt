-- The counters that entries keep stay in order as the history grows.
use Rattle.std.proofs.Common.{◌≡◌, ◌==◌, ◌<◌, ◌≤◌, ◌∙◌, ◌⊎◌, inl, inr, ℕ, Bool, true, false, List, [], ◌∷◌, ◌++◌, length, subst, sym, ap, arith, Option, Some, None, slice_get, if◌then◌else◌}
use Rattle.std.specs.Prelude.{slice_index}
use Rattle.std.proofs.lemmas.List.{take-append-le}
use Rattle.gh_base.specs.declared.limits.TheConstants.{CPUS}
use Rattle.gh_model.proofs.RunLists.{no_item, snoc_cases, take_all}
use Rattle.gh_model.specs.Graced.{GoesUnread}
use Rattle.gh_model.specs.History.{Event, counters, replay, state_at}
use Rattle.gh_model.specs.declared.entry.Entry.{Entry}
use Rattle.gh_model.specs.declared.entry.Entry.TheVariants.{Acted, Part, Retired, Reclaimed}
use Rattle.gh_model.specs.declared.rows.ObjectRow.{ObjectRow}
use Rattle.gh_model.specs.declared.state.State.{State}
use Rattle.gh_events.specs.Config.{Config, Current, Holder, object_at, present, put}
use Rattle.gh_events.specs.Entries.{Allows, KindAllows, index_after, logged}
use Rattle.gh_events.specs.Events.{Possible, after}
use Rattle.gh_events.specs.Grace.{AreAtMost, HasGrace}
use Rattle.gh_events.specs.HolderEvents.{kill_failed, with_turn, without_scans}
use Rattle.gh_events.specs.Sound.{AreInOrder}
use Rattle.gh_events.specs.TurnEvents.{committed_by}
use Rattle.gh_events.specs.declared.event.Event as machine
use Rattle.gh_events.specs.declared.event.Event.TheVariants.{Enter, Leave, Take, Look, Pin, Unpin, Undo, Kill, Commit, SetCap, Free, Scan, Revive, Join, Split}
use Rattle.gh_events.proofs.GraceCalls.{same_some}
use Rattle.gh_events.proofs.GraceReclaim.{scans_are}

-- the boot has no entry
pub start_in_order : (boot : State) → AreInOrder boot []
start_in_order boot = record {
  rising = λ n m cpu first second before now is. absurd (no_item n first is);
  unread = λ n event is. absurd (no_item n event is);
}

module _ (boot : State) (events : List Event) (new : Event) (order : AreInOrder boot events)
    (above : (seen : List ℕ) (cpu : ℕ) → counters new.entry ≡ Some seen → cpu < CPUS → AreAtMost events cpu (slice_index seen cpu))
    (left : GoesUnread (replay boot events) new.entry) where
  rising_by : (n m cpu : ℕ) (first second : Event) (before now : List ℕ)
      → ((n < length events) × (slice_get events n ≡ Some first)) ⊎ ((n ≡ length events) × (new ≡ first))
      → ((m < length events) × (slice_get events m ≡ Some second)) ⊎ ((m ≡ length events) × (new ≡ second))
      → n < m → counters first.entry ≡ Some before → counters second.entry ≡ Some now
      → cpu < CPUS → slice_index before cpu ≤ slice_index now cpu
  rising_by n m cpu first second before now (inl old) (inl also) less keeps later within =
      order.rising n m cpu first second before now old.1 also.1 less keeps later within
  rising_by n m cpu first second before now (inl old) (inr last) less keeps later within =
      above now cpu (ap (λ (one : Event). counters one.entry) last.1 ∙ later) within n first before old.1 keeps
  rising_by n m cpu first second before now (inr last) (inl also) less keeps later within =
      absurd (omega (arith, last.0, also.0, less))
  rising_by n m cpu first second before now (inr last) (inr also) less keeps later within =
      absurd (omega (arith, last.0, also.0, less))

  front : (n : ℕ) → n ≤ length events → state_at boot (events ++ new ∷ []) n ≡ state_at boot events n
  front n within = ap (replay boot) (take-append-le n events (new ∷ []) within)

  unread_by : (n : ℕ) (event : Event)
      → ((n < length events) × (slice_get events n ≡ Some event)) ⊎ ((n ≡ length events) × (new ≡ event))
      → GoesUnread (state_at boot (events ++ new ∷ []) n) event.entry
  unread_by n event (inl old) =
      subst (λ (s : State). GoesUnread s event.entry) (sym (front n (omega (arith, old.0)))) (order.unread n event old.1)
  unread_by n event (inr last) =
      let all : state_at boot events n ≡ replay boot events = ap (state_at boot events) last.0 ∙ ap (replay boot) (take_all events) in
      subst (λ (s : State). GoesUnread s event.entry) (sym (front n (omega (arith, last.0)) ∙ all))
      (subst (λ (one : Event). GoesUnread (replay boot events) one.entry) last.1 left)

  -- one more entry, whose counters are above those before it, and behind all who were reading
  pub more_in_order : AreInOrder boot (events ++ new ∷ [])
  more_in_order = record {
    rising = λ n m cpu first second before now is also less keeps later within. rising_by n m cpu first second before now (snoc_cases events new first n is) (snoc_cases events new second m also) less keeps later within;
    unread = λ n event is. unread_by n event (snoc_cases events new event n is);
  }

-- an entry that is allowed
module _ (conf : Config) (order : AreInOrder conf.boot conf.history) (graced : HasGrace conf) (holder : Holder)
    (call : Current) (turn : conf.turn ≡ Some holder) where
  counters_above : (entry : Entry) → KindAllows conf holder call entry entry → (seen : List ℕ) (cpu : ℕ)
      → counters entry ≡ Some seen → cpu < CPUS → AreAtMost conf.history cpu (slice_index seen cpu)
  counters_above (Acted n number) allowed seen cpu keeps within = absurd (let never : ⊥ = cc in never)
  counters_above (Part n number space slot) allowed seen cpu keeps within = absurd (let never : ⊥ = cc in never)
  counters_above (Retired serial kept) allowed seen cpu keeps within =
      subst (λ (list : List ℕ). AreAtMost conf.history cpu (slice_index list cpu)) (same_some kept seen keeps)
      ((graced.each cpu within).kept_scanned (slice_index kept cpu) (scans_are conf holder kept cpu turn allowed.scans within))
  counters_above (Reclaimed serial kept) allowed seen cpu keeps within =
      subst (λ (list : List ℕ). AreAtMost conf.history cpu (slice_index list cpu)) (same_some kept seen keeps)
      ((graced.each cpu within).kept_scanned (slice_index kept cpu) (scans_are conf holder kept cpu turn allowed.scans within))

  all_left : (entry : Entry) → KindAllows conf holder call entry entry → GoesUnread (present conf) entry
  all_left (Acted n number) allowed = tt
  all_left (Part n number space slot) allowed = tt
  all_left (Retired serial kept) allowed = tt
  all_left (Reclaimed serial kept) allowed = allowed.unread

  entry_in_order : (entry : Entry) → KindAllows conf holder call entry entry
      → AreInOrder conf.boot (conf.history ++ logged entry call ∷ [])
  entry_in_order entry allowed =
      more_in_order conf.boot conf.history (logged entry call) order
      (counters_above entry allowed) (all_left entry allowed)

abbrev InOrder : Config → Type 0
InOrder conf = AreInOrder conf.boot conf.history

failed_in_order : (conf : Config) (object : ℕ) (found : Option ObjectRow) → InOrder conf
    → InOrder (kill_failed conf object found)
failed_in_order conf object None order = order
failed_in_order conf object (Some row) order = order

killed_in_order : (conf : Config) (object : ℕ) (none : Bool) → InOrder conf
    → InOrder (if none then record (with_turn without_scans conf) { dead = put conf.dead object true }
    else kill_failed conf object (object_at (present conf) conf.index object))
killed_in_order conf object true order = order
killed_in_order conf object false order =
    failed_in_order conf object (object_at (present conf) conf.index object) order

committed_in_order : (conf : Config) (at : ℕ) (entry : Entry) (index : State → ℕ → ℕ) (holder : Holder)
    (call : Current) → Allows conf at entry holder call → InOrder conf → HasGrace conf
    → InOrder (committed_by conf entry index (conf.cpu at).current)
committed_in_order conf at entry index holder call allows order graced =
    subst (λ (one : Option Current). InOrder (committed_by conf entry index one)) (sym allows.in_act.is_current)
    (entry_in_order conf order graced holder call allows.has_turn.turn entry allows.allowed)

-- every event
pub event_in_order : (conf : Config) (event : machine.Event) → InOrder conf → HasGrace conf
    → Possible conf event → InOrder (after conf event)
event_in_order conf (Enter cpu) order graced may = order
event_in_order conf (Leave cpu) order graced may = order
event_in_order conf (Take cpu) order graced may = order
event_in_order conf (Look cpu slot) order graced may = order
event_in_order conf (Pin cpu object false) order graced may = order
event_in_order conf (Pin cpu object true) order graced may = order
event_in_order conf (Unpin cpu object false) order graced may = order
event_in_order conf (Unpin cpu object true) order graced may = order
event_in_order conf (Undo cpu object) order graced may = order
event_in_order conf (Kill cpu object) order graced may =
    killed_in_order conf object.0 (conf.count object.0 == 0) order
event_in_order conf (Commit cpu entry) order graced may =
    committed_in_order conf cpu.0 entry (λ new. conf.index) may.holder may.call may.allows order graced
event_in_order conf (SetCap cpu entry space slot word) order graced may =
    committed_in_order conf cpu.0 entry (λ new. index_after conf new word) may.holder may.call may.allows order graced
event_in_order conf (Free cpu true) order graced may = order
event_in_order conf (Free cpu false) order graced may = order
event_in_order conf (Scan cpu of_cpu) order graced may = order
event_in_order conf (Revive cpu object count) order graced may = order
event_in_order conf (Join cpu) order graced may = order
event_in_order conf (Split cpu) order graced may = order
