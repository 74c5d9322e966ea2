-- Every event keeps the counts of a history.
use Rattle.std.proofs.Common.{◌≡◌, ◌==◌, ◌+◌, ◌-◌, ◌*◌, ◌<◌, ◌≤◌, ◌∙◌, ℕ, Bool, true, false, List, [], ◌∷◌, ◌++◌, length, refl, subst, sym, ap, arith, Option, Some, None, if◌then◌else◌}
use Rattle.std.specs.Prelude.{◌&&◌, ◌||◌, Result, Ok, Err, count_by, is_some, option_map, slice_index}
use Rattle.std.proofs.lemmas.Bool.{and_left}
use Rattle.std.proofs.lemmas.List.{length_push}
use Rattle.std.proofs.lemmas.Bool.Decides.{nat_tests}
use Rattle.gh_base.specs.declared.call.Call.{Call}
use Rattle.gh_base.specs.declared.errno.Errno.{Errno}
use Rattle.gh_base.specs.declared.frame.Frame.{Frame}
use Rattle.gh_base.specs.declared.frame.Reply.{Reply}
use Rattle.gh_base.specs.declared.limits.TheConstants.{CALL_NUMBERS, CPUS, CSPACES, CSPACE_SLOTS, OBJECT_INDICES}
use Rattle.gh_base.specs.declared.mark.End.{End}
use Rattle.gh_base.specs.declared.mark.End.TheVariants as ends
use Rattle.gh_model.specs.History.{state_at}
use Rattle.gh_model.specs.Act.{Verdict, Done, Refused}
use Rattle.gh_model.specs.History as history
use Rattle.gh_model.specs.Legal.{is_short}
use Rattle.gh_model.specs.Marks.{Outcome, Wants, Fails, Grants, number}
use Rattle.gh_model.specs.QueueCalls.{one_if}
use Rattle.gh_model.specs.Registers.{call_of}
use Rattle.gh_model.specs.declared.entry.Entry.{Entry}
use Rattle.gh_model.specs.declared.rows.ObjectRow.{ObjectRow}
use Rattle.gh_model.specs.declared.state.State.{State}
use Rattle.gh_invariant.proofs.Counting.{count_push}
use Rattle.gh_events.specs.CallEvents.{MayEnter, MayLeave, at_stage, begun, end_of_looks, entered, finished, found, left, reply_of_looks, with_call, with_end, with_left, with_look, with_pin}
use Rattle.gh_events.specs.Config as config
use Rattle.gh_events.specs.Config.{AtAct, Config, Cpu, Current, DeadPin, Failed, Given, Holder, Looked, Reading, Stage, Undone, came_to, entries, has_acted, has_part, is_acted, judged, object_at, present, put}
use Rattle.gh_events.specs.Entries.{Allows, index_after, logged, next_state}
use Rattle.gh_events.specs.Events.{Possible, after}
use Rattle.gh_events.specs.HolderEvents.{kill_failed, one_less, one_more, with_failed, with_revived, with_scan, with_turn, without_scans}
use Rattle.gh_events.specs.Length.{CallsCount, EntriesCount, HasLength, calls_given, has_entry}
use Rattle.gh_events.specs.Start.{MayGive, given, refused_frame, with_next}
use Rattle.gh_events.specs.TurnEvents.{Ending, MayEnd, MayTake, acted_ending, call_at_act, causes, committed_by, ended, ending, has_causes, new_holder, ready, refused_ending, short_ending, taken, with_ending, with_entry}
use Rattle.gh_events.specs.ValidState.{HasValid, acts}
use Rattle.gh_events.specs.declared.event.Event.{Event}
use Rattle.gh_events.specs.declared.event.Event.TheVariants.{Enter, Leave, Take, Look, Pin, Unpin, Undo, Kill, Commit, SetCap, Free, Scan, Revive, Join, Split}
use Rattle.gh_events.proofs.EntryCalls.{now_passes, still_fails}
use Rattle.gh_events.proofs.Finding.{same_number}
use Rattle.gh_events.proofs.LengthCalls.{acts_same, call_counts, cpu_counts, entry_counts, none_acts, part_counts, turn_counts}
use Rattle.gh_events.proofs.LengthEntries as allowed
use Rattle.gh_events.proofs.LengthEntries.{entries_count, one_most}

-- an event that leaves the history
module _ (conf : Config) (long : HasLength conf) where
  abbrev Counts : Option Holder → (ℕ → Cpu) → Type 0
  Counts turn cpus = CallsCount conf.history turn cpus

  stays : (new : Config) → new.boot ≡ conf.boot → new.history ≡ conf.history
      → Counts new.turn new.cpu → HasLength new
  stays new boot events counts = record {
    entries = subst (λ (b : State). EntriesCount b new.history) (sym boot) (subst (EntriesCount conf.boot) (sym events) long.entries);
    calls = subst (λ (h : List history.Event). CallsCount h new.turn new.cpu) (sym events) counts;
    few_objects = subst (λ (b : State). length b.objects ≤ OBJECT_INDICES) (sym boot) long.few_objects;
    few_capabilities = subst (λ (b : State). length b.caps ≤ CSPACES * CSPACE_SLOTS) (sym boot) long.few_capabilities;
  }

  -- a call goes on
  goes_on : (at : ℕ) (change : Current → Current) → Counts conf.turn (put conf.cpu at (with_call change (conf.cpu at)))
  goes_on at change =
      call_counts conf.history conf.turn conf.cpu at (with_call change (conf.cpu at)) long.calls refl refl
      (mapped (conf.cpu at).current)
    where
      mapped : (current : Option Current) → is_some (option_map change current) ≡ is_some current
      mapped None = refl
      mapped (Some call) = refl

  -- what the holder keeps
  holder_stays : (change : Holder → Holder) → ((holder : Holder) → (change holder).cpu ≡ holder.cpu)
      → ((holder : Holder) → (change holder).entries ≡ holder.entries)
      → Counts (option_map change conf.turn) conf.cpu
  holder_stays change cpu entries =
      turn_counts conf.history conf.turn (option_map change conf.turn) conf.cpu (acts_same conf.turn change cpu entries) long.calls

  -- a call begins its section
  enter_counts : (at : ℕ) → MayEnter conf at → Counts conf.turn (entered conf at).cpu
  enter_counts at may =
      cpu_counts conf.history conf.turn conf.cpu at _ long.calls refl
      (subst (λ (n : ℕ). length (conf.cpu at).made + n ≤ CALL_NUMBERS) (same (conf.cpu at).next (conf.cpu at).current may.given may.next) (long.calls.numbers at))
    where
      same : (next : Option Given) (current : Option Current) (one : Given) → next ≡ Some one
          → one_if (is_some next || is_some current)
          ≡ one_if (false || is_some (option_map (begun (conf.counter at + 1) Reading) next))
      same None current one is = absurd (let never : ⊥ = cc in never)
      same (Some given) current one is = refl

  -- a pin
  pin_counts : (at : ℕ) (dead : Bool) → Counts conf.turn (put conf.cpu at (with_pin dead (conf.cpu at)))
  pin_counts at true = goes_on at (at_stage DeadPin)
  pin_counts at false =
      call_counts conf.history conf.turn conf.cpu at (with_pin false (conf.cpu at)) long.calls refl refl
      (mapped (conf.cpu at).current)
    where
      mapped : (current : Option Current) → is_some (option_map (at_stage Reading) current) ≡ is_some current
      mapped None = refl
      mapped (Some call) = refl

  -- a call ends
  module _ (at : ℕ) (call : Current) (is_current : (conf.cpu at).current ≡ Some call)
      (alone : (conf.cpu at).next ≡ None) (end : End) (reply : Reply) where
    end_few : calls_given (with_end (conf.cpu at) (finished at call end reply)) ≤ CALL_NUMBERS
    end_few =
        let before : one_if (is_some (conf.cpu at).next || is_some (conf.cpu at).current) ≡ 1 =
        rw alone (ap (λ (one : Option Current). one_if (is_some one)) is_current) in
        let now : one_if (is_some (conf.cpu at).next || false) ≡ 0 = rw alone refl in
        let longer : length ((conf.cpu at).made ++ finished at call end reply ∷ []) ≡ length (conf.cpu at).made + 1 =
        length_push (conf.cpu at).made (finished at call end reply) in
        omega (arith, long.calls.numbers at, before, now, longer)

  looks_none : (came : Outcome) → is_some (number (end_of_looks came)) ≡ false
  looks_none (Wants slot need) = refl
  looks_none (Fails errno) = refl
  looks_none Grants = refl

  left_ends : (at : ℕ) (call : Current) → (conf.cpu at).current ≡ Some call → (conf.cpu at).next ≡ None
      → Counts conf.turn (put conf.cpu at (with_end (conf.cpu at) (finished at call (end_of_looks (came_to call)) (reply_of_looks (came_to call)))))
  left_ends at call is alone =
      cpu_counts conf.history conf.turn conf.cpu at _ long.calls
      (count_push has_entry (conf.cpu at).made _ ∙ none (count_by has_entry (conf.cpu at).made) (ap one_if (looks_none (came_to call))))
      (end_few at call is alone (end_of_looks (came_to call)) (reply_of_looks (came_to call)))
    where
      none : (n : ℕ) {m : ℕ} → m ≡ 0 → n + m ≡ n
      none n zero = omega (arith, zero)

  left_by : (at : ℕ) (call : Current) → (conf.cpu at).current ≡ Some call → (conf.cpu at).next ≡ None
      → (stage : Stage) → Counts conf.turn (put conf.cpu at (with_left at (conf.cpu at) call stage))
  left_by at call is alone Reading =
      call_counts conf.history conf.turn conf.cpu at (with_left at (conf.cpu at) call Reading) long.calls refl refl
      (sym (ap is_some is))
  left_by at call is alone _ = left_ends at call is alone

  leave_counts : (at : ℕ) → HasValid conf → MayLeave conf at → Counts conf.turn (left conf at).cpu
  leave_counts at valid may =
      rw may.is_current (left_by at may.call may.is_current ((valid.cpus at).alone (ap is_some may.is_current)) may.call.stage)

  -- the turn is taken
  was_given : (current : Option Current) (pins : List config.Pin) (next : Option Given) (call : Current)
      → call_at_act current pins next ≡ Some call → (is_some next || is_some current) ≡ true
  was_given (Some one) pins None call is = refl
  was_given (Some one) pins (Some given) call is = refl
  was_given None [] None call is = absurd (let never : ⊥ = cc in never)
  was_given None [] (Some given) call is = refl
  was_given None (pin ∷ pins) next call is = absurd (let never : ⊥ = cc in never)

  take_counts : (at : ℕ) → MayTake conf at → Counts (taken conf at).turn (taken conf at).cpu
  take_counts at may =
      part_counts conf.history conf.turn (Some (new_holder at)) conf.cpu at _ long.calls
      (ap (λ (b : Bool). count_by has_entry (conf.cpu at).made + one_if b) (quiet at))
      (λ n differs. quiet n)
      (omega (arith, long.calls.numbers at, ap one_if had_one, one_most (is_some (if is_some (conf.cpu at).current then (conf.cpu at).next else None) || is_some (ready (conf.cpu at)))))
    where
      had_one : (is_some (conf.cpu at).next || is_some (conf.cpu at).current) ≡ true
      had_one = was_given (conf.cpu at).current (conf.cpu at).pins (conf.cpu at).next may.call may.is_ready

      quiet : (n : ℕ) → acts (Some (new_holder at)) n ≡ acts conf.turn n
      quiet n = none_acts (new_holder at) n refl ∙ sym (ap (λ (turn : Option Holder). acts turn n) may.free)

  -- the turn is given back

  quit_counts : (holder : Holder) → conf.turn ≡ Some holder → has_acted holder ≡ false → Counts None conf.cpu
  quit_counts holder turn none =
      turn_counts conf.history conf.turn None conf.cpu (λ n. sym (ap (λ (one : Option Holder). acts one n) turn ∙ none_acts holder n none)) long.calls

  -- an act that has ended has its entry where it was committed
  acted_end : (n : ℕ) (verdict : Verdict) (end : Ending) → acted_ending n verdict ≡ Some end
      → is_some (number end.end) ≡ true
  acted_end n (Done new reply) end is =
      ap (λ (one : Option Ending). is_some (entry_of one)) (sym is)
    where
      entry_of : Option Ending → Option ℕ
      entry_of None = None
      entry_of (Some one) = number one.end
  acted_end n (Refused reply) end is = absurd (let never : ⊥ = cc in never)

  short_end : (holder : Holder) (s : State) (place : ℕ) (reply : Reply) (end : Ending) (all : Bool)
      → (if all then Some (record { end = ends.Short place (causes holder s); reply = reply }) else None) ≡ Some end
      → is_some (number end.end) ≡ false
  short_end holder s place reply end true is = let same : record { end = ends.Short place (causes holder s); reply = reply } ≡ end = cc in ap (λ (one : Ending). is_some (number one.end)) (sym same)
  short_end holder s place reply end false is = absurd (let never : ⊥ = cc in never)

  refused_by : (holder : Holder) (s : State) (place : ℕ) (reply : Reply) (end : Ending) (done short : Bool)
      → (if done then None else (if short then short_ending holder s place reply else Some (record { end = ends.Act place; reply = reply }))) ≡ Some end
      → is_some (number end.end) ≡ false
  refused_by holder s place reply end true short is = absurd (let never : ⊥ = cc in never)
  refused_by holder s place reply end false true is = short_end holder s place reply end (has_causes holder s) is
  refused_by holder s place reply end false false is = let same : record { end = ends.Act place; reply = reply } ≡ end = cc in ap (λ (one : Ending). is_some (number one.end)) (sym same)

  refused_end : (holder : Holder) (s : State) (place : ℕ) (call : Call) (verdict : Verdict) (end : Ending)
      → refused_ending holder s place call verdict ≡ Some end → is_some (number end.end) ≡ false
  refused_end holder s place call (Done new reply) end is = absurd (let never : ⊥ = cc in never)
  refused_end holder s place call (Refused reply) end is =
      refused_by holder s place reply end (slice_index reply.x 0 == 0) (is_short call reply) is

  unacted_end : (holder : Holder) (s : State) (place : ℕ) (call : Call) (verdict : Verdict) (end : Ending) (parts : Bool)
      → (if parts then None else refused_ending holder s place call verdict) ≡ Some end → is_some (number end.end) ≡ false
  unacted_end holder s place call verdict end true is = absurd (let never : ⊥ = cc in never)
  unacted_end holder s place call verdict end false is = refused_end holder s place call verdict end is

  its_end : (at : ℕ) (holder : Holder) (call : Current) (end : Ending) (acted : Bool) → has_acted holder ≡ acted
      → (if acted then acted_ending (entries conf) (judged (state_at conf.boot conf.history (entries conf - 1)) at call)
      else (if has_part holder then None else refused_ending holder (present conf) (entries conf) call.given.call (judged (present conf) at call))) ≡ Some end
      → is_some (number end.end) ≡ has_acted holder
  its_end at holder call end true acted is =
      acted_end (entries conf) (judged (state_at conf.boot conf.history (entries conf - 1)) at call) end is ∙ sym acted
  its_end at holder call end false acted is =
      unacted_end holder (present conf) (entries conf) call.given.call (judged (present conf) at call) end (has_part holder) is
      ∙ sym acted

  module _ (at : ℕ) (may : MayEnd conf at) (alone : (conf.cpu at).next ≡ None) where
    abbrev before : ℕ → Bool
    before n = acts conf.turn n

    was : (n : ℕ) → before n ≡ ((may.holder.cpu == n) && has_acted may.holder)
    was n = ap (λ (turn : Option Holder). acts turn n) may.has_turn.turn

    here : before at ≡ has_acted may.holder
    here =
        was at
        ∙ ap (λ (b : Bool). b && has_acted may.holder) (ap (λ (c : ℕ). c == at) may.has_turn.its_cpu ∙ same_number at)

    others : (n : ℕ) → (n == at) ≡ false → acts None n ≡ before n
    others n differs =
        let its : may.holder.cpu ≡ at = may.has_turn.its_cpu in
        let apart : (may.holder.cpu == n) ≡ false = grind (arith, nat_tests) in
        sym (was n ∙ and_left (may.holder.cpu == n) (has_acted may.holder) apart)

    ended_by : (end : Option Ending) → ending conf at may.holder may.call ≡ end → is_some end ≡ true
        → Counts None (put conf.cpu at (with_ending at (conf.cpu at) may.call end))
    ended_by None is some = absurd (let never : ⊥ = cc in never)
    ended_by (Some end) is some =
        let has : is_some (number end.end) ≡ has_acted may.holder =
        its_end at may.holder may.call end (has_acted may.holder) refl is in
        let entry : one_if (is_some (number end.end)) ≡ one_if (before at) = ap one_if (has ∙ sym here) in
        part_counts conf.history conf.turn None conf.cpu at _ long.calls
        (omega (arith, count_push has_entry (conf.cpu at).made (finished at may.call end.end end.reply), entry)) others
        (end_few at may.call may.in_act.is_current alone end.end end.reply)

    end_counts : Counts None (ended conf at).cpu
    end_counts =
        rw may.has_turn.turn (rw may.in_act.is_current (ended_by (ending conf at may.holder may.call) refl may.has_ended))

-- a CPU is given a call
module _ (conf : Config) (at : ℕ) (number : ℕ) (frame : Frame) (long : HasLength conf) (may : MayGive conf at number) where
  given_cpu : Result Call Errno → Cpu
  given_cpu call = with_next at number frame (conf.cpu at) call

  none_next : one_if (is_some (conf.cpu at).next || is_some (conf.cpu at).current) ≡ 0
  none_next = rw may.none (rw may.between.none refl)

  given_by : (call : Result Call Errno) → CallsCount conf.history conf.turn (put conf.cpu at (given_cpu call))
  unfolding given_cpu
  given_by (Ok call) =
      cpu_counts conf.history conf.turn conf.cpu at _ long.calls refl
      (subst (λ (n : ℕ). n ≤ CALL_NUMBERS) may.counts may.bounded)
  given_by (Err errno) =
      cpu_counts conf.history conf.turn conf.cpu at _ long.calls
      (omega (arith, count_push has_entry (conf.cpu at).made (refused_frame at number frame errno), no_entry))
      (omega (arith, none_next, length_push (conf.cpu at).made (refused_frame at number frame errno), may.counts, may.bounded))
    where
      no_entry : one_if (has_entry (refused_frame at number frame errno)) ≡ 0
      no_entry = refl

  pub given_length : HasLength (given conf at number frame)
  unfolding given_cpu
  given_length = stays conf long (given conf at number frame) refl refl (given_by (call_of frame))

-- Kill

failed_length : (conf : Config) (object : ℕ) (found : Option ObjectRow) → HasLength conf
    → HasLength (kill_failed conf object found)
failed_length conf object None long = long
failed_length conf object (Some row) long =
    stays conf long (kill_failed conf object (Some row)) refl refl
    (holder_stays conf long (with_failed row.serial.0 (conf.count object)) (λ holder. refl) (λ holder. refl))

killed_length : (conf : Config) (object : ℕ) (none : Bool) → HasLength conf
    → HasLength (if none then record (with_turn without_scans conf) { dead = put conf.dead object true }
    else kill_failed conf object (object_at (present conf) conf.index object))
killed_length conf object true long =
    stays conf long (record (with_turn without_scans conf) { dead = put conf.dead object true }) refl refl
    (holder_stays conf long without_scans (λ holder. refl) (λ holder. refl))
killed_length conf object false long =
    failed_length conf object (object_at (present conf) conf.index object) long

-- Commit and SetCap

module _ (conf : Config) (at : ℕ) (entry : Entry) (index : State → ℕ → ℕ) (holder : Holder) (call : Current)
    (allows : Allows conf at entry holder call) (within : at < CPUS) (valid : HasValid conf) (long : HasLength conf) where
  behind : Holder → Holder
  behind =
      with_entry conf entry (next_state conf call entry) (index (next_state conf call entry))

  has_one : (here : Bool) → is_acted entry ≡ here → has_acted (behind holder) ≡ is_acted entry
  unfolding behind
  has_one true is = now_passes is_acted holder.entries entry is ∙ sym is
  has_one false is = still_fails is_acted holder.entries entry is ∙ allows.not_acted ∙ sym is

  acts_on : CallsCount (conf.history ++ logged entry call ∷ []) (option_map behind conf.turn) conf.cpu
  unfolding behind
  acts_on =
      let counts : CallsCount conf.history (Some holder) conf.cpu =
      subst (λ (turn : Option Holder). CallsCount conf.history turn conf.cpu) allows.has_turn.turn long.calls in
      let its : holder.cpu < CPUS = subst (λ (n : ℕ). n < CPUS) (sym allows.has_turn.its_cpu) within in
      subst (λ (turn : Option Holder). CallsCount (conf.history ++ logged entry call ∷ []) (option_map behind turn) conf.cpu) (sym allows.has_turn.turn)
      (entry_counts conf.history (logged entry call) holder (behind holder) conf.cpu its allows.not_acted refl (has_one (is_acted entry) refl) counts)

  logged_length : HasLength (committed_by conf entry index (Some call))
  unfolding behind
  logged_length = record {
    entries = entries_count conf.boot conf.history (logged entry call) (allowed.entry_counts conf holder call valid.valid entry allows.allowed) long.entries;
    calls = acts_on;
    few_objects = long.few_objects;
    few_capabilities = long.few_capabilities;
  }

  committed_length : HasLength (committed_by conf entry index (conf.cpu at).current)
  committed_length =
      subst (λ (one : Option Current). HasLength (committed_by conf entry index one)) (sym allows.in_act.is_current) logged_length

-- every event
pub event_length : (conf : Config) (event : Event) → HasValid conf → HasLength conf → Possible conf event
    → HasLength (after conf event)
event_length conf (Enter cpu) valid long may = stays conf long _ refl refl (enter_counts conf long cpu.0 may)
event_length conf (Leave cpu) valid long may = stays conf long _ refl refl (leave_counts conf long cpu.0 valid may)
event_length conf (Take cpu) valid long may = stays conf long _ refl refl (take_counts conf long cpu.0 may)
event_length conf (Look cpu slot) valid long may =
    stays conf long _ refl refl (goes_on conf long cpu.0 (λ call. with_look (found conf cpu.0 slot call) call))
event_length conf (Pin cpu object false) valid long may =
    stays conf long _ refl refl (pin_counts conf long cpu.0 (conf.dead object.0))
event_length conf (Pin cpu object true) valid long may =
    stays conf long _ refl refl (holder_stays conf long (one_more object.0) (λ holder. refl) (λ holder. refl))
event_length conf (Unpin cpu object false) valid long may =
    stays conf long _ refl refl (call_counts conf.history conf.turn conf.cpu cpu.0 _ long.calls refl refl refl)
event_length conf (Unpin cpu object true) valid long may =
    stays conf long _ refl refl (holder_stays conf long (one_less object.0) (λ holder. refl) (λ holder. refl))
event_length conf (Undo cpu object) valid long may = stays conf long _ refl refl (goes_on conf long cpu.0 (at_stage Undone))
event_length conf (Kill cpu object) valid long may = killed_length conf object.0 (conf.count object.0 == 0) long
event_length conf (Commit cpu entry) valid long may =
    committed_length conf cpu.0 entry (λ new. conf.index) may.holder may.call may.allows may.is_cpu valid long
event_length conf (SetCap cpu entry space slot word) valid long may =
    let behind =
    committed_length conf cpu.0 entry (λ new. index_after conf new word) may.holder may.call may.allows may.is_cpu valid long in
    record { entries = behind.entries; calls = behind.calls; few_objects = behind.few_objects; few_capabilities = behind.few_capabilities }
event_length conf (Free cpu true) valid long may =
    stays conf long _ refl refl (end_counts conf long cpu.0 may ((valid.cpus cpu.0).alone (ap is_some may.in_act.is_current)))
event_length conf (Free cpu false) valid long may =
    stays conf long _ refl refl (quit_counts conf long may.holder may.has_turn.turn may.not_acted)
event_length conf (Scan cpu of_cpu) valid long may =
    stays conf long _ refl refl (holder_stays conf long (with_scan of_cpu.0 (conf.counter of_cpu.0)) (λ holder. refl) (λ holder. refl))
event_length conf (Revive cpu object count) valid long may =
    stays conf long _ refl refl (holder_stays conf long (with_revived object.0 count) (λ holder. refl) (λ holder. refl))
event_length conf (Join cpu) valid long may = long
event_length conf (Split cpu) valid long may = long
