-- Each event of an item is of the item's CPU, so the item leaves every other CPU as it is.
use Rattle.std.proofs.Common.{◌≡◌, ◌==◌, ◌+◌, ◌∙◌, ◌++◌, ℕ, zero, suc, Bool, true, false, List, [], ◌∷◌, refl, subst, sym, ap, map, filter, Option, Some, None, if◌then◌else◌}
use Rattle.std.specs.Prelude.{◌*◌, length}
use Rattle.std.specs.List.{last_or, list_all}
use Rattle.std.proofs.lemmas.Bool.{and_from, and_parts, eq-eqb, eqb-true}
use Rattle.std.proofs.lemmas.List.Folds.{list_all-append}
use Rattle.gh_base.specs.declared.ids.Serial.{Serial}
use Rattle.gh_model.specs.Legal.{is_revoke}
use Rattle.gh_model.specs.Marks.{Fails, Grants, Outcome, Seen, Wants}
use Rattle.gh_model.specs.declared.change.Change.{Change}
use Rattle.gh_model.specs.declared.entry.Entry.{Entry}
use Rattle.gh_model.specs.declared.rows.CapabilityRow.{CapabilityRow}
use Rattle.gh_model.specs.declared.rows.ObjectRow.{ObjectRow}
use Rattle.gh_model.specs.declared.state.State.{State}
use Rattle.gh_invariant.specs.Effects.{gained, lost}
use Rattle.gh_invariant.specs.Events.{changes_of}
use Rattle.gh_events.specs.CallEvents.{has_needs}
use Rattle.gh_schedules.specs.Committing.{commits, commits_of, committing, cpu_no, entry_event, gains_owed, is_made, owe, revives, settle, with_new}
use Rattle.gh_schedules.specs.Places.{added, places_of}
use Rattle.gh_events.specs.Config.{AtAct, Config, Cpu, Current, DeadPin, Failed, Given, Looked, Pin as Held, Reading, Stage, Undone, came_to, judged, object_at, present, put}
use Rattle.gh_events.specs.Entries.{index_after, logged, next_state, slot_set}
use Rattle.gh_events.specs.Events.{after}
use Rattle.gh_events.specs.HolderEvents.{is_done, kill_failed, with_turn, without_scans}
use Rattle.gh_schedules.specs.Items.{act, acting, acts, begins, freeing, goes_on, item, item_between, item_in, item_of, leave, leave_ended, next_part, object_revoked, part, part_at, part_by, part_of, parts, pins_last, plain_caps, prepares, preparing, reads, sweeps, taking, undoes_last, unpin, unpins}
use Rattle.gh_schedules.specs.Sweep.{adds_entry, all_cpus, counters, kill, killing, kills, kills_all, doomed_objects, retired_objects, may_kill, may_reclaim, reclaiming, reclaims_all, retired_now, retires_dead, retiring, round, rounds, scan, scans, sweep}
use Rattle.gh_schedules.specs.Trace.{after_all, and_then, for_each}
use Rattle.gh_events.specs.TurnEvents.{committed_by}
use Rattle.gh_events.specs.declared.event.Event.{Event}
use Rattle.gh_events.specs.declared.event.Event.TheVariants.{Enter, Leave, Take, Look, Pin, Unpin, Undo, Kill, Commit, SetCap, Free, Scan, Revive, Join, Split}
use Rattle.gh_events.proofs.Finding.{put_other}

-- the CPU that makes an event
abbrev pub maker : Event → ℕ
maker (Enter cpu) = cpu.0
maker (Leave cpu) = cpu.0
maker (Take cpu) = cpu.0
maker (Look cpu slot) = cpu.0
maker (Pin cpu object turn) = cpu.0
maker (Unpin cpu object turn) = cpu.0
maker (Undo cpu object) = cpu.0
maker (Kill cpu object) = cpu.0
maker (Commit cpu entry) = cpu.0
maker (SetCap cpu entry space slot word) = cpu.0
maker (Free cpu with_end) = cpu.0
maker (Scan cpu of_cpu) = cpu.0
maker (Revive cpu object count) = cpu.0
maker (Join cpu) = cpu.0
maker (Split cpu) = cpu.0

abbrev pub is_own : ℕ → Event → Bool
is_own at event = maker event == at

-- what an event of one CPU leaves of another

failed_cpus : (conf : Config) (object : ℕ) (found : Option ObjectRow) → (kill_failed conf object found).cpu ≡ conf.cpu
failed_cpus conf object None = refl
failed_cpus conf object (Some row) = refl

killed_cpus : (conf : Config) (object : ℕ) (none : Bool)
    → (if none then record (with_turn without_scans conf) { dead = put conf.dead object true }
    else kill_failed conf object (object_at (present conf) conf.index object)).cpu ≡ conf.cpu
killed_cpus conf object true = refl
killed_cpus conf object false = failed_cpus conf object (object_at (present conf) conf.index object)

committed_cpus : (conf : Config) (entry : Entry) (index : State → ℕ → ℕ) (call : Option Current)
    → (committed_by conf entry index call).cpu ≡ conf.cpu
committed_cpus conf entry index None = refl
committed_cpus conf entry index (Some call) = refl

-- the CPU isn't the event's
module _ (conf : Config) (at other : ℕ) (apart : (other == at) ≡ false) where
  abbrev Left : Config → Type 0
  Left new = new.cpu other ≡ conf.cpu other

  pub event_leaves : (event : Event) → maker event ≡ at → Left (after conf event)
  event_leaves event is = by_event event (subst (λ (n : ℕ). (other == n) ≡ false) (sym is) apart)
    where
      by_event : (event : Event) → (other == maker event) ≡ false → Left (after conf event)
      by_event (Enter cpu) away = put_other conf.cpu cpu.0 _ other away
      by_event (Leave cpu) away = put_other conf.cpu cpu.0 _ other away
      by_event (Take cpu) away = put_other conf.cpu cpu.0 _ other away
      by_event (Look cpu slot) away = put_other conf.cpu cpu.0 _ other away
      by_event (Pin cpu object false) away = put_other conf.cpu cpu.0 _ other away
      by_event (Pin cpu object true) away = refl
      by_event (Unpin cpu object false) away = put_other conf.cpu cpu.0 _ other away
      by_event (Unpin cpu object true) away = refl
      by_event (Undo cpu object) away = put_other conf.cpu cpu.0 _ other away
      by_event (Kill cpu object) away =
          ap (λ (cpus : ℕ → Cpu). cpus other) (killed_cpus conf object.0 (conf.count object.0 == 0))
      by_event (Commit cpu entry) away =
          ap (λ (cpus : ℕ → Cpu). cpus other) (committed_cpus conf entry (λ new. conf.index) (conf.cpu cpu.0).current)
      by_event (SetCap cpu entry space slot word) away =
          ap (λ (cpus : ℕ → Cpu). cpus other) (committed_cpus conf entry (λ new. index_after conf new word) (conf.cpu cpu.0).current)
      by_event (Free cpu true) away = put_other conf.cpu cpu.0 _ other away
      by_event (Free cpu false) away = refl
      by_event (Scan cpu of_cpu) away = refl
      by_event (Revive cpu object count) away = refl
      by_event (Join cpu) away = refl
      by_event (Split cpu) away = refl

abbrev pub AreOwn : ℕ → List Event → Type 0
AreOwn at events = list_all (is_own at) events ≡ true

pub own_leave : (conf : Config) (at other : ℕ) (events : List Event) → (other == at) ≡ false → AreOwn at events
    → (after_all conf events).cpu other ≡ conf.cpu other
own_leave conf at other [] apart own = refl
own_leave conf at other (event ∷ events) apart own =
    let parts = and_parts (is_own at event) (list_all (is_own at) events) own in
    own_leave (after conf event) at other events apart parts.1
    ∙ event_leaves conf at other apart event (eqb-true (maker event) at parts.0)

-- plans whose events are all of one CPU

module _ (at : ℕ) where
  this : (at == at) ≡ true
  this = eq-eqb at at refl

  joined : (events more : List Event) → AreOwn at events → AreOwn at more → AreOwn at (events ++ more)
  joined events more own also = list_all-append (is_own at) events more ∙ and_from _ _ own also

  mapped : {X : Type 0} (event : X → Event) → ((x : X) → maker (event x) ≡ at) → (xs : List X) → AreOwn at (map event xs)
  mapped event is [] = refl
  mapped event is (x ∷ xs) = and_from _ _ (eq-eqb (maker (event x)) at (is x)) (mapped event is xs)

  abbrev IsOwn : (Config → List Event) → Type 0
  IsOwn plan = (conf : Config) → AreOwn at (plan conf)

  then_own : (first second : Config → List Event) → IsOwn first → IsOwn second → IsOwn (and_then first second)
  unfolding and_then
  then_own first second own also conf = joined (first conf) (second (after_all conf (first conf))) (own conf) (also (after_all conf (first conf)))

  each_own : {X : Type 0} (plan : X → Config → List Event) → ((x : X) → IsOwn (plan x)) → (xs : List X) → IsOwn (for_each plan xs)
  unfolding for_each
  each_own plan own [] conf = refl
  each_own plan own (x ∷ xs) conf = then_own (plan x) (for_each plan xs) (own x) (each_own plan own xs) conf

  by_test : (test : Bool) (events more : List Event) → AreOwn at events → AreOwn at more → AreOwn at (if test then events else more)
  by_test true events more own also = own
  by_test false events more own also = also

  -- an entry
  revives_own : (s : State) (places index : ℕ → ℕ) (gains : List Serial) (row : Option ObjectRow) → AreOwn at (revives at s places index gains row)
  revives_own s places index gains None = refl
  revives_own s places index gains (Some row) = and_from _ _ this refl

  entry_own : (entry : Entry) (new : State) (index later : ℕ → ℕ) (place : Option (ℕ × ℕ))
      → maker (entry_event at entry new index later place) ≡ at
  entry_own entry new index later None = refl
  entry_own entry new index later (Some place) = refl

  commits_own : (entry : Entry) (s new : State) (places index : ℕ → ℕ) (changes : List Change) → AreOwn at (commits at entry s new places index changes)
  commits_own entry s new places index changes =
      joined (gains_owed at s index (gained s changes)) _ (mapped (owe at index) (λ serial. refl) (filter (is_made s.next_serial) (gained s changes)))
      (joined (revives at s places index (gained s changes) (added changes)) _ (revives_own s places index (gained s changes) (added changes))
      (and_from _ _ (eq-eqb _ at (entry_own entry new index (with_new s places index (added changes)) (slot_set changes)))
      (mapped (settle at index) (λ serial. refl) (lost s changes))))

  commits_by : (entry : Entry) (conf : Config) (call : Option Current) → AreOwn at (commits_of at entry conf call)
  commits_by entry conf None = refl
  commits_by entry conf (Some call) = commits_own entry (present conf) (next_state conf call entry) (places_of conf) conf.index (changes_of (present conf) (logged entry call))

  committing_own : (entry : Entry) → IsOwn (committing at entry)
  unfolding committing
  committing_own entry conf = commits_by entry conf (conf.cpu at).current

  -- the sweep
  scans_own : IsOwn (scans at)
  unfolding scans
  scans_own conf = mapped (scan at) (λ of. refl) all_cpus

  reclaiming_own : (serial : Serial) → IsOwn (reclaiming at serial)
  unfolding reclaiming
  reclaiming_own serial conf = by_test (may_reclaim (present conf) serial (counters conf)) _ [] (committing_own _ conf) refl

  retired_own : (serial : Serial) → IsOwn (retired_now at serial)
  unfolding retired_now
  retired_own serial conf = committing_own _ conf

  retiring_own : (serial : Serial) → IsOwn (retiring at serial)
  unfolding retiring
  retiring_own serial =
      then_own (scans at) _ scans_own
      (then_own (retired_now at serial) _ (retired_own serial) (then_own (scans at) (reclaiming at serial) scans_own (reclaiming_own serial)))

  dead_own : (serial : Serial) (dead : Bool) → IsOwn (retires_dead at serial dead)
  dead_own serial true conf = retiring_own serial conf
  dead_own serial false conf = refl

  killing_own : (serial : Serial) → IsOwn (killing at serial)
  unfolding killing
  killing_own serial conf =
      by_test (may_kill (present conf) serial) (kills at serial conf) []
      (and_from _ _ this (dead_own serial (conf.count (conf.index serial.0) == 0) (after conf (kill at conf.index serial)))) refl

  reclaims_own : IsOwn (reclaims_all at)
  unfolding reclaims_all
  reclaims_own conf = each_own (reclaiming at) reclaiming_own (retired_objects (present conf)) conf

  kills_own : IsOwn (kills_all at)
  unfolding kills_all
  kills_own conf = each_own (killing at) killing_own (doomed_objects (present conf)) conf

  round_own : IsOwn (round at)
  unfolding round
  round_own = then_own (scans at) _ scans_own (then_own (reclaims_all at) (kills_all at) reclaims_own kills_own)

  rounds_own : (most : ℕ) → IsOwn (rounds at most)
  unfolding rounds
  rounds_own zero conf = refl
  rounds_own (suc more) conf =
      joined (round at conf) _ (round_own conf)
      (by_test (adds_entry conf (round at conf)) _ [] (rounds_own more (after_all conf (round at conf))) refl)

  sweep_own : IsOwn (sweep at)
  unfolding sweep
  sweep_own conf = rounds_own (2 * length (present conf).objects + 1) conf

  -- the act
  part_there : (conf : Config) (call : Current) (row : Option CapabilityRow) → AreOwn at (part_at at conf call row)
  part_there conf call None = refl
  part_there conf call (Some row) = committing_own (part_of at call row) conf

  part_owned : (conf : Config) (call : Option Current) → AreOwn at (part_by at conf call)
  part_owned conf None = refl
  part_owned conf (Some call) =
      by_test (goes_on (judged (present conf) at call)) _ [] (part_there conf call (next_part (present conf) (object_revoked call))) refl

  part_own : IsOwn (part at)
  unfolding part
  part_own conf = part_owned conf (conf.cpu at).current

  parts_own : (most : ℕ) → IsOwn (parts at most)
  unfolding parts
  parts_own zero conf = refl
  parts_own (suc more) conf = then_own (part at) (parts at more) part_own (parts_own more) conf

  prepares_own : (conf : Config) (call : Option Current) → AreOwn at (prepares at conf call)
  prepares_own conf None = refl
  prepares_own conf (Some call) =
      by_test (sweeps call.given.call) (sweep at conf) _ (sweep_own conf)
      (by_test (is_revoke call.given.call) _ [] (parts_own (length (plain_caps (present conf) (object_revoked call))) conf) refl)

  preparing_own : IsOwn (preparing at)
  unfolding preparing
  preparing_own conf = prepares_own conf (conf.cpu at).current

  acts_own : (conf : Config) (call : Option Current) → AreOwn at (acts at conf call)
  acts_own conf None = refl
  acts_own conf (Some call) = by_test (is_done (judged (present conf) at call)) _ [] (committing_own _ conf) refl

  acting_own : IsOwn (acting at)
  unfolding acting
  acting_own conf = acts_own conf (conf.cpu at).current

  taking_own : IsOwn (taking at)
  unfolding taking
  taking_own conf = and_from _ _ this refl

  freeing_own : IsOwn (freeing at)
  unfolding freeing
  freeing_own conf = and_from _ _ this refl

  unpins_own : IsOwn (unpins at)
  unfolding unpins
  unpins_own conf = mapped (unpin at) (λ pin. refl) (conf.cpu at).pins

  act_own : IsOwn (act at)
  unfolding act
  act_own =
      then_own (taking at) _ taking_own
      (then_own (preparing at) _ preparing_own (then_own (acting at) _ acting_own (then_own (freeing at) (unpins at) freeing_own unpins_own)))

  leave_own : IsOwn (leave at)
  unfolding leave
  leave_own conf = and_from _ _ this refl

  ended_own : IsOwn (leave_ended at)
  unfolding leave_ended
  ended_own = then_own (leave at) (unpins at) leave_own unpins_own

  -- the item
  reads_own : (conf : Config) (came : Outcome) → AreOwn at (reads at conf came)
  reads_own conf (Wants slot need) = and_from _ _ this refl
  reads_own conf (Fails errno) = leave_own conf
  reads_own conf Grants = leave_own conf

  last_own : (last : Option Seen) → AreOwn at (pins_last at last)
  last_own None = refl
  last_own (Some seen) = and_from _ _ this refl

  undo_own : (last : Option Seen) → AreOwn at (undoes_last at last)
  undo_own None = refl
  undo_own (Some seen) = and_from _ _ this refl

  in_own : (conf : Config) (call : Current) (stage : Stage) → AreOwn at (item_in at conf call stage)
  in_own conf call Reading = reads_own conf (came_to call)
  in_own conf call Looked = last_own (last_or None call.seen)
  in_own conf call DeadPin = undo_own (last_or None call.seen)
  in_own conf call Undone = ended_own conf
  in_own conf call Failed = ended_own conf
  in_own conf call AtAct = act_own conf

  begins_own : (conf : Config) (next : Option Given) → AreOwn at (begins at conf next)
  begins_own conf None = refl
  begins_own conf (Some given) = by_test (has_needs given) (Enter (cpu_no at) ∷ []) (act at conf) (and_from _ _ this refl) (act_own conf)

  between_own : (conf : Config) (pins : List Held) → AreOwn at (item_between at conf pins)
  between_own conf [] = begins_own conf (conf.cpu at).next
  between_own conf (pin ∷ pins) = unpins_own conf

  of_own : (conf : Config) (current : Option Current) → AreOwn at (item_of at conf current)
  of_own conf None = between_own conf (conf.cpu at).pins
  of_own conf (Some call) = in_own conf call call.stage

  pub item_own : (conf : Config) → AreOwn at (item conf at)
  unfolding item
  item_own conf = of_own conf (conf.cpu at).current

-- so an item leaves the other CPUs as they are
pub item_leaves : (conf : Config) (at other : ℕ) → (other == at) ≡ false
    → (after_all conf (item conf at)).cpu other ≡ conf.cpu other
item_leaves conf at other apart = own_leave conf at other (item conf at) apart (item_own at conf)
