-- The configuration that the running machine's tables stand for.
use Rattle.std.specs.Prelude.{◌≡◌, ◌-◌, ◌==◌, ◌&&◌, if◌then◌else◌, ℕ, Bool, true, false, List, [], ◌∷◌, length, Option, Some, None, ◌++◌, filter, find, flat_map, is_some, map, nat_lt, not, option_map, slice_get}
use Rattle.std.specs.List.{list_all, list_any}
use Rattle.std.specs.Option.{option_map_or}
use Rattle.gh_base.specs.declared.ids.Serial.{Serial}
use Rattle.gh_base.specs.declared.limits.TheConstants.{CPUS, OBJECT_INDICES}
use Rattle.gh_base.specs.declared.mark.Held.{Held}
use Rattle.gh_base.specs.declared.mark.Held.TheVariants as held
use Rattle.gh_model.specs.Boot.{boot_state}
use Rattle.gh_model.specs.Decide.{judge}
use Rattle.gh_model.specs.Held.{is_held}
use Rattle.gh_model.specs.History as history
use Rattle.gh_model.specs.Marks.{Made, Outcome, Fails, Grants, Seen, Wants}
use Rattle.gh_model.specs.References.{is_doomed}
use Rattle.gh_model.specs.Rows.{fills, object_row}
use Rattle.gh_model.specs.declared.boot_line.BootLine.{BootLine}
use Rattle.gh_model.specs.declared.entry.Entry.{Entry}
use Rattle.gh_model.specs.declared.entry.Entry.TheVariants.{Acted, Part, Retired, Reclaimed}
use Rattle.gh_model.specs.declared.rows.ObjectRow.{ObjectRow}
use Rattle.gh_model.specs.declared.state.State.{State}
use Rattle.gh_events.specs.Config as machine
use Rattle.gh_events.specs.HolderEvents.{is_done, with_failed, with_turn, without_scans}
use Rattle.gh_events.specs.Start.{boot_cap, boot_dead, new_cpu}
use Rattle.gh_events.specs.CallEvents.{begun, end_of_looks, finished, found, reply_of_looks, with_call, with_end, with_look, without_pin}
use Rattle.gh_events.specs.Config.{put, references_at}
use Rattle.gh_core.specs.Tests.{is_at_act, is_before_act}
use Rattle.gh_events.specs.TurnEvents.{Ending, as_list, cause_of, causes, ending, has_causes, ready}
use Rattle.gh_core.specs.Tables.{marks, numbers, options, words}
use Rattle.gh_core.specs.declared.config.Running.{Running}
use Rattle.gh_core.specs.declared.ending.Ended.{Ended}
use Rattle.gh_core.specs.declared.ending.Reader.{Reader}
use Rattle.gh_core.specs.declared.cpu.HeldPin.{HeldPin}
use Rattle.gh_core.specs.declared.cpu.Seat.{Seat}
use Rattle.gh_core.specs.declared.current.CallStage.{CallStage}
use Rattle.gh_core.specs.declared.current.CallStage.TheVariants as stages
use Rattle.gh_core.specs.declared.current.Came.{Came}
use Rattle.gh_core.specs.declared.current.Came.TheVariants as came
use Rattle.gh_core.specs.declared.current.CurrentCall.{CurrentCall}
use Rattle.gh_core.specs.declared.current.GivenCall.{GivenCall}
use Rattle.gh_core.specs.declared.current.MadeCall.{MadeCall}
use Rattle.gh_core.specs.declared.current.SeenLook.{SeenLook}
use Rattle.gh_core.specs.declared.holder.Turn.{Turn}
use Rattle.gh_core.specs.declared.log.Logged.{Logged}
use Rattle.gh_core.specs.declared.slots_set.SlotSet.{SlotSet}
use Rattle.gh_core.specs.declared.table.Written.{Written}

-- calls

abbrev pub given_of : GivenCall → machine.Given
given_of given = record { number = given.number; frame = given.frame; call = given.call }

abbrev pub seen_of : SeenLook → Seen
seen_of seen = record { look = seen.look; word = seen.word }

abbrev pub stage_of : CallStage → machine.Stage
stage_of stages.Reading = machine.Reading
stage_of stages.Looked = machine.Looked
stage_of stages.DeadPin = machine.DeadPin
stage_of stages.Undone = machine.Undone
stage_of stages.Failed = machine.Failed
stage_of stages.AtAct = machine.AtAct

abbrev pub current_of : CurrentCall → machine.Current
current_of call = record {
  given = given_of call.given;
  section = call.section;
  seen = map seen_of call.seen;
  stage = stage_of call.stage;
}

-- what the looks of a call came to
abbrev pub came_of : Came → Outcome
came_of (came.Wants slot need) = Wants slot need
came_of (came.Fails errno) = Fails errno
came_of came.Grants = Grants

abbrev pub made_of : MadeCall → Made
made_of made = record { mark = made.mark; frame = made.frame; seen = map seen_of made.seen }

abbrev pub pin_of : HeldPin → machine.Pin
pin_of pin = record { serial = pin.serial.0; index = pin.index }

abbrev pub cpu_of : Seat → machine.Cpu
cpu_of seat = record {
  next = option_map given_of seat.next;
  current = option_map current_of seat.current;
  pins = map pin_of seat.pins;
  made = map made_of seat.made;
}

-- a CPU that has no seat makes no calls
abbrev pub cpus : List Seat → ℕ → machine.Cpu
cpus seats at = option_map_or cpu_of (slice_get seats at) new_cpu

-- the turn

-- nothing is owed where nothing was written
abbrev pub no_number : ℕ → ℕ
no_number at = 0

abbrev pub holder_of : Turn → machine.Holder
holder_of turn = record {
  cpu = turn.cpu.0;
  entries = turn.entries;
  revived = turn.revived;
  owed = numbers no_number turn.owed;
  failed = options turn.failed;
  scans = options turn.scans;
}

-- the history

abbrev pub event_of : Logged → history.Event
event_of logged = record {
  entry = logged.entry;
  call = logged.call;
  bytes = logged.frame.bytes;
  words = logged.words;
}

abbrev pub history_of : Running → List history.Event
history_of running = map event_of running.log

-- the configuration

abbrev pub boot_of : Running → State
boot_of running = boot_state running.boot

-- the index of each object by what was given at the boot, and since; 0 of another
abbrev pub index_in : List Written → List Written → ℕ → ℕ
index_in first given = numbers (numbers no_number first) given

abbrev pub boot_index : Running → ℕ → ℕ
boot_index running = index_in running.first []

abbrev pub stands_for : Running → machine.Config
stands_for running = record {
  boot = boot_of running;
  history = history_of running;
  index = index_in running.first running.given;
  cap = words (boot_cap (boot_of running) (boot_index running)) running.caps;
  count = numbers (references_at (boot_of running) (boot_index running)) running.counts;
  dead = marks (boot_dead (boot_of running) (boot_index running)) running.dead;
  counter = numbers no_number running.counters;
  turn = option_map holder_of running.turn;
  cpu = cpus running.seats;
}

-- a slot that a change sets
abbrev pub slot_of : SlotSet → ℕ × ℕ
slot_of slot = (slot.cspace.0, slot.slot)

-- what is changed

-- another value of one CPU
abbrev pub with_cpu : machine.Config → ℕ → machine.Cpu → machine.Config
with_cpu conf at cpu = record conf { cpu = put conf.cpu at cpu }

abbrev pub with_counter : machine.Config → ℕ → ℕ → machine.Config
with_counter conf at counter = record conf { counter = put conf.counter at counter }

abbrev pub with_count : machine.Config → ℕ → ℕ → machine.Config
with_count conf at count = record conf { count = put conf.count at count }

abbrev pub with_mark : machine.Config → ℕ → Bool → machine.Config
with_mark conf at dead = record conf { dead = put conf.dead at dead }

abbrev pub with_holder : machine.Config → Option machine.Holder → machine.Config
with_holder conf turn = record conf { turn = turn }

-- the CPU with its next call begun, in this section
abbrev pub entered_cpu : ℕ → machine.Cpu → machine.Cpu
entered_cpu section cpu = record cpu {
  next = None;
  current = option_map (begun section machine.Reading) cpu.next;
}

-- the CPU with this call in progress
abbrev pub with_current : machine.Cpu → machine.Current → machine.Cpu
with_current cpu call = record cpu { current = Some call }

-- the pin, if there is one
abbrev pub pin_list : Option HeldPin → List machine.Pin
pin_list None = []
pin_list (Some pin) = pin_of pin ∷ []

-- the CPU behind a look
abbrev pub looked_cpu_of : machine.Config → ℕ → ℕ → machine.Cpu
looked_cpu_of conf at slot =
    with_call (λ call. with_look (found conf at slot call) call) (conf.cpu at)

-- the CPU with its call ended by its looks
abbrev pub looks_ended : ℕ → machine.Cpu → machine.Current → machine.Cpu
looks_ended at cpu call =
    with_end cpu (finished at call (end_of_looks (machine.came_to call))
    (reply_of_looks (machine.came_to call)))

abbrev pub failed_with : machine.Config → ℕ → Option ObjectRow → machine.Config
failed_with conf seen None = conf
failed_with conf seen (Some row) = with_turn (with_failed row.serial.0 seen) conf

-- a kill that sees this count at an index, where this object lives
abbrev pub killed_with : machine.Config → ℕ → ℕ → Option ObjectRow → machine.Config
killed_with conf at seen row =
    if seen == 0
    then record (with_turn without_scans conf) { dead = put conf.dead at true }
    else failed_with conf seen row

-- no call is in progress, and a pin is at the index
abbrev pub ended_holds : ℕ → machine.Cpu → Bool
ended_holds object cpu =
    not (is_some cpu.current) && list_any (machine.is_pin_at object) cpu.pins

-- the CPU without the first pin at an index
abbrev pub unpinned_cpu : ℕ → machine.Cpu → machine.Cpu
unpinned_cpu object cpu = record cpu { pins = without_pin object cpu.pins }

-- the turn taken and given back

abbrev pub taken_cpu : machine.Cpu → machine.Cpu
taken_cpu cpu = record cpu {
  next = if is_some cpu.current then cpu.next else None;
  current = ready cpu;
}

-- nothing is owed where this was written
abbrev pub is_paid : List Written → Written → Bool
is_paid owed written = numbers no_number owed written.at == 0

-- nor anywhere
abbrev pub owes_nothing : List Written → Bool
owes_nothing owed = list_all (is_paid owed) owed

-- the CPU has the turn, owes nothing and committed nothing of its act
abbrev pub turn_quits : ℕ → Option Turn → Bool
turn_quits at None = false
turn_quits at (Some turn) =
    (turn.cpu.0 == at) && (owes_nothing turn.owed && is_before_act (holder_of turn))

-- the CPU may give the turn back before its act
abbrev pub quits : Running → ℕ → Bool
quits running at =
    nat_lt at CPUS
    && (turn_quits at running.turn && not (machine.some_killed (stands_for running)))

-- how a call ends

abbrev pub ended_of : Ended → Ending
ended_of ended = record { end = ended.end; reply = ended.reply }

abbrev pub reader_of : Reader → ℕ × ℕ
reader_of reader = (reader.cpu.0, reader.counter)

-- this CPU still reads the object
abbrev pub reading_of : Serial → (ℕ × ℕ) → Held
reading_of serial reader = held.Reading serial (record { 0 = reader.0 }) reader.1

-- the causes of all objects that want one; none where one has none
abbrev pub held_causes : machine.Holder → State → Option (List Held)
held_causes holder s = if has_causes holder s then Some (causes holder s) else None

-- these causes, and those of the ending objects among these rows; none where one has none
abbrev pub causes_behind : machine.Holder → State → List Held → List ObjectRow → Option (List Held)
causes_behind holder s held rows =
    if list_all (λ (row : ObjectRow). is_some (cause_of holder row)) (filter (is_held s) rows)
    then Some (held ++ flat_map (λ (row : ObjectRow). as_list (cause_of holder row)) (filter (is_held s) rows))
    else None

-- the end of the call of the turn's CPU, where it is at its act
abbrev pub ending_of_call : machine.Config → ℕ → machine.Holder → machine.Current → Option Ending
ending_of_call conf at holder call =
    if is_at_act call.stage then ending conf at holder call else None

abbrev pub ending_in : machine.Config → ℕ → machine.Holder → Option machine.Current → Option Ending
ending_in conf at holder None = None
ending_in conf at holder (Some call) = ending_of_call conf at holder call

-- the same, where the CPU has the turn and nothing is owed
abbrev pub turn_ending : Running → ℕ → Option Turn → Option Ending
turn_ending running at None = None
turn_ending running at (Some turn) =
    if (turn.cpu.0 == at) && owes_nothing turn.owed
    then ending_in (stands_for running) at (holder_of turn) ((stands_for running).cpu at).current
    else None

-- the CPU may give the turn back behind its act
abbrev pub ends : Running → ℕ → Bool
ends running at =
    nat_lt at CPUS
    && (not (machine.some_killed (stands_for running))
    && is_some (turn_ending running at running.turn))

-- the CPU with its call ended
abbrev pub ended_cpu : ℕ → machine.Cpu → Ending → Option machine.Current → machine.Cpu
ended_cpu at cpu ending None = cpu
ended_cpu at cpu ending (Some call) = with_end cpu (finished at call ending.end ending.reply)

abbrev pub seat_end : Running → ℕ → Option Ending → machine.Cpu
seat_end running at None = (stands_for running).cpu at
seat_end running at (Some ending) =
    ended_cpu at ((stands_for running).cpu at) ending ((stands_for running).cpu at).current

-- the configuration behind the end
abbrev pub end_of : Running → ℕ → machine.Config
end_of running at =
    with_holder (with_cpu (stands_for running) at
    (seat_end running at (turn_ending running at running.turn))) None

-- what is kept

-- the act of an event is done in the state
abbrev pub act_is_made : State → ℕ → history.Event → Bool
act_is_made s cpu event =
    history.may_act s cpu event.call event.words
    && is_done (judge s cpu event.call event.bytes event.words)

-- the state allows the event: an act is done, a part revokes a slot, and an object is retired or
-- reclaimed
abbrev pub entry_is_made : State → history.Event → Entry → Bool
entry_is_made s event (Acted cpu number) = act_is_made s cpu.0 event
entry_is_made s event (Part cpu number space slot) =
    history.may_part (find (fills space.0 slot) s.caps)
entry_is_made s event (Retired serial seen) =
    is_doomed s serial.0 && history.is_unretired (object_row s serial.0)
entry_is_made s event (Reclaimed serial seen) =
    is_doomed s serial.0 && history.is_retired (object_row s serial.0)

abbrev pub is_made : State → history.Event → Bool
is_made s event = entry_is_made s event event.entry

-- each event is allowed by the state before it
abbrev pub all_made : State → List history.Event → Bool
all_made s [] = true
all_made s (event ∷ events) = is_made s event && all_made (history.after_event s event) events

-- the number is an object index
abbrev pub has_index : Written → Bool
has_index written = nat_lt written.value OBJECT_INDICES

-- what the tables keep: there is a seat for each CPU, what was given as an index is one, and each
-- entry of the history was allowed
pub record IsKept (running : Running) : Type 0 where
  pub nine : length running.seats ≡ CPUS
  pub first : list_all has_index running.first ≡ true
  pub given : list_all has_index running.given ≡ true
  pub made : all_made (boot_of running) (history_of running) ≡ true
