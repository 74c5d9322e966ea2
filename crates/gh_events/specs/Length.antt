-- How long a history can be: its entries of each kind, counted against the objects, the
-- capabilities and the calls that there are.
use Rattle.std.specs.Prelude.{◌≡◌, ◌&&◌, ◌||◌, ◌+◌, ◌*◌, ◌≤◌, not, ℕ, Bool, true, false, List, Option, length, count_by, is_some}
use Rattle.gh_base.specs.declared.call.Call.{Call}
use Rattle.gh_base.specs.declared.call.Call.TheVariants.{CapCopy}
use Rattle.gh_base.specs.declared.limits.TheConstants.{CALL_NUMBERS, CPUS, CSPACES, CSPACE_SLOTS, OBJECT_INDICES}
use Rattle.gh_model.specs.History.{Event, reclaims, replay, retires}
use Rattle.gh_model.specs.Legal.{is_part}
use Rattle.gh_model.specs.Marks.{Made, number}
use Rattle.gh_model.specs.QueueCalls.{one_if}
use Rattle.gh_model.specs.declared.rows.CapabilityRow.{CapabilityRow}
use Rattle.gh_model.specs.declared.rows.ObjectRow.{ObjectRow}
use Rattle.gh_model.specs.declared.state.State.{State}
use Rattle.gh_events.specs.Config.{Config, Cpu, Holder, is_acted}
use Rattle.gh_events.specs.HolderEvents.{is_create}
use Rattle.gh_events.specs.References.{total}
use Rattle.gh_events.specs.ValidState.{acts}

-- kinds of entries

-- the entry is an act, a part, a retirement, a reclaim
abbrev pub is_act : Event → Bool
is_act event = is_acted event.entry

abbrev pub parts : Event → Bool
parts event = is_part event.entry

abbrev pub retires_one : Event → Bool
retires_one event = is_some (retires event.entry)

abbrev pub reclaims_one : Event → Bool
reclaims_one event = is_some (reclaims event.entry)

-- the act makes an object
abbrev pub makes_one : Event → Bool
makes_one event = is_act event && is_create event.call

-- the act copies a capability
abbrev pub is_copy : Call → Bool
is_copy (CapCopy cspace source mask) = true
is_copy _ = false

abbrev pub copies_one : Event → Bool
copies_one event = is_act event && is_copy event.call

-- what they are counted against

-- the object is retired, and not reclaimed yet
abbrev pub is_leaving : ObjectRow → Bool
is_leaving row = is_some row.retired

-- the object isn't retired
abbrev pub is_staying : ObjectRow → Bool
is_staying row = not (is_some row.retired)

-- the capability is valid and isn't the master
abbrev pub is_plain : CapabilityRow → Bool
is_plain row = row.valid && not row.master

-- the entries of a history from this boot state on
pub record EntriesCount (boot : State) (events : List Event) : Type 0 where
  -- retirements and the objects that aren't retired are together the boot's objects and those made
  pub retired : count_by retires_one events + count_by is_staying (replay boot events).objects
      ≡ length boot.objects + count_by makes_one events
  -- reclaims and the objects that wait for theirs are together the retirements
  pub reclaimed : count_by reclaims_one events + count_by is_leaving (replay boot events).objects
      ≡ count_by retires_one events
  -- parts and the valid capabilities that aren't masters are together at most the boot's and the
  -- copies
  pub parted : count_by parts events + count_by is_plain (replay boot events).caps
      ≤ count_by is_plain boot.caps + count_by copies_one events

-- calls

-- the calls that a CPU was given: the finished ones, and the next one or the one in progress
abbrev pub calls_given : Cpu → ℕ
calls_given cpu = length cpu.made + one_if (is_some cpu.next || is_some cpu.current)

-- the call ended with its act's entry
abbrev pub has_entry : Made → Bool
has_entry made = is_some (number made.mark.end)

-- the acts of a CPU: its finished calls that ended with their entries, and the holder's act once it
-- is committed
abbrev pub acts_of : Option Holder → (ℕ → Cpu) → ℕ → ℕ
acts_of turn cpus at = count_by has_entry (cpus at).made + one_if (acts turn at)

-- the acts of a history, and the calls of the CPUs
pub record CallsCount (events : List Event) (turn : Option Holder) (cpus : ℕ → Cpu) : Type 0 where
  -- each act is one of a call
  pub acts : count_by is_act events ≡ total CPUS (acts_of turn cpus)
  -- no call's number is above the last one
  pub numbers : (cpu : ℕ) → calls_given (cpus cpu) ≤ CALL_NUMBERS

-- a history is no longer than its boot and its calls let it be
pub record HasLength (conf : Config) : Type 0 where
  pub entries : EntriesCount conf.boot conf.history
  pub calls : CallsCount conf.history conf.turn conf.cpu
  -- the boot's objects have indices, and its capabilities have slots
  pub few_objects : length conf.boot.objects ≤ OBJECT_INDICES
  pub few_capabilities : length conf.boot.caps ≤ CSPACES * CSPACE_SLOTS

-- no history is as long as this
abbrev pub too_long : ℕ
too_long = 12_500_000
