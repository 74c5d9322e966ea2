-- The turn: how it is taken, what its holder commits, and how it is given back. When each event is
-- possible, and what it changes.
use Rattle.std.specs.Prelude.{◌≡◌, ◌==◌, ◌&&◌, ◌+◌, ◌-◌, ◌<◌, ℕ, Bool, true, false, List, [], ◌∷◌, ◌++◌, Option, Some, None, flat_map, map, is_some, option_map, slice_index, if◌then◌else◌}
use Rattle.std.specs.List.{list_all, list_any}
use Rattle.gh_base.specs.CapWord.{object_of}
use Rattle.gh_base.specs.Counters.{is_odd}
use Rattle.gh_base.specs.declared.call.Call.{Call}
use Rattle.gh_base.specs.declared.cap_word.CapWord.{CapWord}
use Rattle.gh_base.specs.declared.frame.Reply.{Reply}
use Rattle.gh_base.specs.declared.limits.TheConstants.{CPUS, OBJECT_INDICES}
use Rattle.gh_base.specs.declared.mark.End.{End}
use Rattle.gh_base.specs.declared.mark.End.TheVariants as ends
use Rattle.gh_base.specs.declared.mark.Held.{Held}
use Rattle.gh_base.specs.declared.mark.Held.TheVariants as held
use Rattle.gh_invariant.specs.Effects.{slots_set}
use Rattle.gh_invariant.specs.Events.{changes_of}
use Rattle.gh_model.specs.Act.{Verdict, Done, Refused}
use Rattle.gh_model.specs.Held.{held_rows}
use Rattle.gh_model.specs.History.{state_at}
use Rattle.gh_model.specs.Legal.{is_short}
use Rattle.gh_model.specs.Marks.{Grants}
use Rattle.gh_model.specs.Word.{word_at}
use Rattle.gh_model.specs.declared.entry.Entry.{Entry}
use Rattle.gh_model.specs.declared.rows.ObjectRow.{ObjectRow}
use Rattle.gh_model.specs.declared.state.State.{State}
use Rattle.gh_events.specs.CallEvents.{begun, finished, has_needs, with_end}
use Rattle.gh_events.specs.Config.{AtAct, Config, Cpu, Current, Given, HasTurn, Holder, IsIn, OwesNothing, Pin, Stage, came_to, entries, has_acted, has_part, judged, pin_of, present, put, some_killed}
use Rattle.gh_events.specs.Entries.{Allows, Covers, index_after, is_that_index, logged, makes_object, next_state, owed_after, shown, slot_set}

-- Take

abbrev pub if_at_act : Stage → Current → Option Current
if_at_act AtAct call = Some call
if_at_act _ call = None

abbrev pub if_lookless : Option Given → Option Current
if_lookless None = None
if_lookless (Some given) = if has_needs given then None else Some (begun 0 AtAct given)

-- the call of a CPU that is at its act: the one in progress, or between calls the next one where it
-- looks up no capability
abbrev pub call_at_act : Option Current → List Pin → Option Given → Option Current
call_at_act (Some call) pins next = if_at_act call.stage call
call_at_act None [] next = if_lookless next
call_at_act None (pin ∷ pins) next = None

abbrev pub ready : Cpu → Option Current
ready cpu = call_at_act cpu.current cpu.pins cpu.next

-- the turn is free and the CPU's call is at its act: each of its needs has its grant, with its pin
pub record MayTake (conf : Config) (at : ℕ) : Type 0 where
  pub is_cpu : at < CPUS
  pub free : conf.turn ≡ None
  pub call : Current
  pub is_ready : ready (conf.cpu at) ≡ Some call
  pub granted : came_to call ≡ Grants
  pub all_pinned : (conf.cpu at).pins ≡ map pin_of call.seen

-- a turn at its begin
abbrev pub new_holder : ℕ → Holder
new_holder at = record {
  cpu = at;
  entries = [];
  revived = [];
  owed = λ _. 0;
  failed = λ _. None;
  scans = λ _. None;
}

-- the CPU has the turn; a call without looks begins
abbrev pub taken : Config → ℕ → Config
taken conf at = record conf {
  turn = Some (new_holder at);
  cpu = put conf.cpu at (record (conf.cpu at) {
    next = if is_some (conf.cpu at).current then (conf.cpu at).next else None;
    current = ready (conf.cpu at);
  });
}

-- Commit and SetCap

-- the entry is allowed and sets no slot
pub record MayCommit (conf : Config) (at : ℕ) (entry : Entry) : Type 0 where
  pub is_cpu : at < CPUS
  pub holder : Holder
  pub call : Current
  pub allows : Allows conf at entry holder call
  pub no_slot : slots_set (changes_of (present conf) (logged entry call)) ≡ 0
  pub covers : Covers conf holder (next_state conf call entry) conf.index

-- the indices behind an entry of this call that sets a slot to this word
abbrev pub next_index : Config → Current → Entry → CapWord → ℕ → ℕ
next_index conf call entry word = index_after conf (next_state conf call entry) word

-- the entry is allowed and sets just this slot, to this word; an object that it makes has an index
-- that was revived in this turn
pub record MaySetCap (conf : Config) (at : ℕ) (entry : Entry) (space slot : ℕ) (word : CapWord)
    : Type 0 where
  pub is_cpu : at < CPUS
  pub is_index : space < OBJECT_INDICES
  pub holder : Holder
  pub call : Current
  pub allows : Allows conf at entry holder call
  pub one_slot : slots_set (changes_of (present conf) (logged entry call)) ≡ 1
  pub cspace : ℕ
  pub sets : slot_set (changes_of (present conf) (logged entry call)) ≡ Some (cspace, slot)
  pub at_space : conf.index cspace ≡ space
  pub shows : word.0 ≡ shown (next_index conf call entry word)
      (word_at (next_state conf call entry) cspace slot)
  pub revived : makes_object (present conf) (next_state conf call entry) ≡ true
      → list_any (is_that_index (object_of word.0)) holder.revived ≡ true
  pub covers : Covers conf holder (next_state conf call entry) (next_index conf call entry word)

-- the holder has one more entry, behind which the objects have these indices
abbrev pub with_entry : Config → Entry → State → (ℕ → ℕ) → Holder → Holder
with_entry conf entry new index holder = record holder {
  entries = holder.entries ++ entry ∷ [];
  owed = owed_after conf holder new index;
}

abbrev pub committed_by : Config → Entry → (State → ℕ → ℕ) → Option Current → Config
committed_by conf entry index None = conf
committed_by conf entry index (Some call) = record conf {
  history = conf.history ++ logged entry call ∷ [];
  index = index (next_state conf call entry);
  turn = option_map
      (with_entry conf entry (next_state conf call entry) (index (next_state conf call entry)))
      conf.turn;
}

-- the history gets the entry
abbrev pub committed : Config → ℕ → Entry → Config
committed conf at entry = committed_by conf entry (λ new. conf.index) (conf.cpu at).current

-- a word of two places put
abbrev pub put_word : (ℕ → ℕ → CapWord) → ℕ → ℕ → CapWord → ℕ → ℕ → CapWord
put_word words space slot word = put words space (put (words space) slot word)

-- and the slot its word
abbrev pub set_cap : Config → ℕ → Entry → ℕ → ℕ → CapWord → Config
set_cap conf at entry space slot word =
    record (committed_by conf entry (λ new. index_after conf new word) (conf.cpu at).current) {
      cap = put_word conf.cap space slot word;
    }

-- Free

-- how a call ended, and its reply
pub record Ending : Type 0 where
  pub end : End
  pub reply : Reply

-- the end of the call whose act's entry is the last one
abbrev pub acted_ending : ℕ → Verdict → Option Ending
acted_ending number (Done new reply) = Some (record { end = ends.Entry number; reply = reply })
acted_ending number (Refused reply) = None

abbrev pub is_scan : ℕ → Option ℕ → Bool
is_scan counter None = false
is_scan counter (Some scan) = scan == counter

-- the first CPU, from this one on, that still has its odd counter of a retirement, and that counter
abbrev pub first_reader : (ℕ → Option ℕ) → ℕ → List ℕ → Option (ℕ × ℕ)
first_reader scans cpu [] = None
first_reader scans cpu (counter ∷ counters) =
    if is_odd counter && is_scan counter (scans cpu) then Some (cpu, counter)
    else first_reader scans (cpu + 1) counters

abbrev pub reading : ObjectRow → (ℕ × ℕ) → Held
reading row reader =
    held.Reading row.serial (record { 0 = reader.0 }) reader.1

abbrev pub pins_of : ObjectRow → ℕ → Held
pins_of row count = held.Pins row.serial count

-- what holds an object: a CPU that was reading at its retirement, or else the pins that a kill saw
abbrev pub cause : Holder → ObjectRow → Option (List ℕ) → Option Held
cause holder row None = option_map (pins_of row) (holder.failed row.serial.0)
cause holder row (Some counters) = option_map (reading row) (first_reader holder.scans 0 counters)

abbrev pub cause_of : Holder → ObjectRow → Option Held
cause_of holder row = cause holder row row.retired

abbrev pub as_list : Option Held → List Held
as_list None = []
as_list (Some cause) = cause ∷ []

-- the cause of each object that is retired or without references
abbrev pub causes : Holder → State → List Held
causes holder s = flat_map (λ (row : ObjectRow). as_list (cause_of holder row)) (held_rows s)

abbrev pub has_causes : Holder → State → Bool
has_causes holder s =
    list_all (λ (row : ObjectRow). is_some (cause_of holder row)) (held_rows s)

-- want of units ends a call once each of these objects has its cause
abbrev pub short_ending : Holder → State → ℕ → Reply → Option Ending
short_ending holder s place reply =
    if has_causes holder s
    then Some (record { end = ends.Short place (causes holder s); reply = reply }) else None

-- the end of a call whose act is refused at this place
abbrev pub refused_ending : Holder → State → ℕ → Call → Verdict → Option Ending
refused_ending holder s place call (Done new reply) = None
refused_ending holder s place call (Refused reply) =
    if slice_index reply.x 0 == 0 then None
    else (if is_short call reply then short_ending holder s place reply
    else Some (record { end = ends.Act place; reply = reply }))

-- the end of the holder's call, where its act has ended: its entry was committed in this turn, or
-- neither that nor a part was and the act is refused in the present state
abbrev pub ending : Config → ℕ → Holder → Current → Option Ending
ending conf at holder call =
    if has_acted holder
    then acted_ending (entries conf) (judged (state_at conf.boot conf.history (entries conf - 1)) at call)
    else (if has_part holder then None
    else refused_ending holder (present conf) (entries conf) call.given.call
    (judged (present conf) at call))

-- the holder's act has ended, it owes nothing, and no object is killed and not retired
pub record MayEnd (conf : Config) (at : ℕ) : Type 0 where
  pub is_cpu : at < CPUS
  pub holder : Holder
  pub call : Current
  pub has_turn : HasTurn conf at holder
  pub in_act : IsIn (conf.cpu at) call AtAct
  pub owes_nothing : OwesNothing holder
  pub none_killed : some_killed conf ≡ false
  pub has_ended : is_some (ending conf at holder call) ≡ true

abbrev pub with_ending : ℕ → Cpu → Current → Option Ending → Cpu
with_ending at cpu call None = cpu
with_ending at cpu call (Some ending) = with_end cpu (finished at call ending.end ending.reply)

abbrev pub end_call : Config → ℕ → Option Holder → Option Current → Cpu
end_call conf at None current = conf.cpu at
end_call conf at (Some holder) None = conf.cpu at
end_call conf at (Some holder) (Some call) =
    with_ending at (conf.cpu at) call (ending conf at holder call)

-- the turn is free, and the call has its end
abbrev pub ended : Config → ℕ → Config
ended conf at = record conf {
  turn = None;
  cpu = put conf.cpu at (end_call conf at conf.turn (conf.cpu at).current);
}

-- the holder committed nothing of its act, it owes nothing, and no object is killed and not retired
pub record MayQuit (conf : Config) (at : ℕ) : Type 0 where
  pub is_cpu : at < CPUS
  pub holder : Holder
  pub has_turn : HasTurn conf at holder
  pub owes_nothing : OwesNothing holder
  pub not_acted : has_acted holder ≡ false
  pub no_part : has_part holder ≡ false
  pub none_killed : some_killed conf ≡ false

-- the turn is free, and the call stays at its act
abbrev pub quit : Config → Config
quit conf = record conf { turn = None }
