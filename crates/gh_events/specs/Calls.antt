-- Sound calls: the finished calls, the looks of those in progress and the entries of the history
-- are legal so far.
use Rattle.std.specs.Prelude.{◌≡◌, ◌≢◌, ◌==◌, ◌&&◌, ◌+◌, ◌*◌, ◌-◌, ◌⊎◌, not, ℕ, Bool, true, false, List, [], ◌∷◌, ◌++◌, length, take, Option, Some, None, Ok, count_by, map, is_some, nat_lt, slice_get, if◌then◌else◌}
use Rattle.std.specs.List.{last_or, list_any}
use Rattle.gh_base.specs.declared.mark.End.TheVariants as ends
use Rattle.gh_model.specs.Act.{granted}
use Rattle.gh_model.specs.Graced.{GoesUnreferenced}
use Rattle.gh_model.specs.History as history
use Rattle.gh_model.specs.Legal.{CallIs, EntryIs, GoesOn, IsNumbered, IsRetiredBehind, LookIs, exits, is_part}
use Rattle.gh_model.specs.Marks.{InTurn, Made, Outcome, Seen, cspace_of, failure, has_looks, place_after}
use Rattle.gh_model.specs.Registers.{call_of, needs_of}
use Rattle.gh_model.specs.Rows.{cpu_row}
use Rattle.gh_model.specs.declared.rows.ObjectRow.{ObjectRow}
use Rattle.gh_model.specs.declared.state.State.{State}
use Rattle.gh_events.specs.CallEvents.{finished, has_grants, has_needs}
use Rattle.gh_events.specs.Config.{AtAct, Config, Cpu, Current, DeadPin, Failed, Given, Holder, IsIn, Looked, Reading, Stage, Undone, came_to, has_acted, has_part, is_killed, judged, object_at, pin_of, present, seen_index}
use Rattle.gh_events.specs.Entries.{logged}
use Rattle.gh_events.specs.TurnEvents.{Ending, acted_ending}

-- finished calls

-- a call that has its ending
abbrev pub as_made : ℕ → Current → Option Ending → List Made
as_made at call None = []
as_made at call (Some ending) = finished at call ending.end ending.reply ∷ []

-- how the holder's call ends whose act's entry is the last one of the history
abbrev pub last_ending : State → List history.Event → ℕ → Current → Option Ending
last_ending boot events at call =
    acted_ending (length events) (judged (history.state_at boot events (length events - 1)) at call)

-- the holder's call once its act's entry is committed, with the end and the reply that it will get
abbrev pub acted_call : State → List history.Event → Option Holder → ℕ → Option Current → List Made
acted_call boot events turn at None = []
acted_call boot events None at (Some call) = []
acted_call boot events (Some holder) at (Some call) =
    if (holder.cpu == at) && has_acted holder then as_made at call (last_ending boot events at call)
    else []

-- the calls of a CPU that have come to their end, the holder's act among them
abbrev pub calls_of : State → List history.Event → Option Holder → ℕ → Cpu → List Made
calls_of boot events turn at cpu = cpu.made ++ acted_call boot events turn at cpu.current

abbrev pub calls_in : Config → ℕ → List Made
calls_in conf at = calls_of conf.boot conf.history conf.turn at (conf.cpu at)

-- calls in progress

-- the looks of a call but the last
abbrev pub but_last : List Seen → List Seen
but_last seen = take (length seen - 1) seen

-- the looks that have their pins on words that weren't dead
abbrev pub pinned_looks : Stage → List Seen → List Seen
pinned_looks Reading seen = seen
pinned_looks Looked seen = but_last seen
pinned_looks DeadPin seen = but_last seen
pinned_looks Undone seen = but_last seen
pinned_looks Failed seen = but_last seen
pinned_looks AtAct seen = seen

-- what the looks came to fits the stage: only a failed call's last look was refused, and at its act
-- each need has its grant
abbrev pub came_fits : Stage → Outcome → Bool
came_fits Reading came = not (is_some (failure came))
came_fits Looked came = not (is_some (failure came))
came_fits DeadPin came = not (is_some (failure came))
came_fits Undone came = not (is_some (failure came))
came_fits Failed came = is_some (failure came)
came_fits AtAct came = has_grants came

-- a call speaks of its last look at these stages, so it has one
abbrev pub looks_fit : Stage → List Seen → Bool
looks_fit Reading seen = true
looks_fit Looked seen = nat_lt 0 (length seen)
looks_fit DeadPin seen = nat_lt 0 (length seen)
looks_fit Undone seen = nat_lt 0 (length seen)
looks_fit Failed seen = nat_lt 0 (length seen)
looks_fit AtAct seen = true

-- a call without looks is at its act from its begin
abbrev pub needs_fit : Stage → Given → Bool
needs_fit Reading given = has_needs given
needs_fit Looked given = has_needs given
needs_fit DeadPin given = has_needs given
needs_fit Undone given = has_needs given
needs_fit Failed given = has_needs given
needs_fit AtAct given = true

-- the call's last pin went to a dead word
abbrev pub is_dying : Stage → Bool
is_dying Reading = false
is_dying Looked = false
is_dying DeadPin = true
is_dying Undone = true
is_dying Failed = false
is_dying AtAct = false

-- the section of a call behind these: the k-th call with looks has the number 2k - 1
abbrev pub section_behind : List Made → Given → ℕ
section_behind made given = if has_needs given then 2 * count_by has_looks made + 1 else 0

-- what a CPU was given: a well formed frame, the next number, and no call behind an exit call
pub record GivenIs (made : List Made) (given : Given) : Type 0 where
  pub frame : call_of given.frame ≡ Ok given.call
  pub number : given.number ≡ length made + 1
  pub no_exit : list_any exits made ≡ false

-- a CPU that the boot doesn't have makes no calls
pub record IsIdle (cpu : Cpu) : Type 0 where
  pub next : cpu.next ≡ None
  pub current : cpu.current ≡ None
  pub pins : cpu.pins ≡ []
  pub made : cpu.made ≡ []

-- what a CPU was given stands behind its finished calls, and no call of it is in progress then
pub record NextIs (cpu : Cpu) (given : Given) : Type 0 where
  pub follows : GivenIs cpu.made given
  pub none : cpu.current ≡ None
  pub dropped : cpu.pins ≡ []

-- the object of this serial lives at the index, killed and not retired
pub record IsKilledThere (s : State) (index : ℕ → ℕ) (dead : ℕ → Bool) (at serial : ℕ)
    : Type 0 where
  pub row : ObjectRow
  pub lives_there : object_at s index at ≡ Some row
  pub is_that : row.serial.0 ≡ serial
  pub killed : is_killed dead index row ≡ true

-- the object that this look of a dead call granted is retired behind it, or the holder killed it
abbrev pub DeathIs : State → List history.Event → (ℕ → ℕ) → (ℕ → Bool) → Seen → Type 0
DeathIs boot events index dead seen =
    IsRetiredBehind boot events seen.look.place (granted seen.word).0
    ⊎ IsKilledThere (history.replay boot events) index dead (seen_index seen) (granted seen.word).0

module _ (boot : State) (events : List history.Event) (index : ℕ → ℕ) (dead : ℕ → Bool) where
  -- a call in progress of a CPU: its looks are legal so far, and its stage tells what they came to,
  -- which of them have pins, and that a dying call's last grant is retired or killed
  pub record CurrentIs (at : ℕ) (cpu : Cpu) (call : Current) : Type 0 where
    pub follows : GivenIs cpu.made call.given
    pub section : call.section ≡ section_behind cpu.made call.given
    pub looks : InTurn
        (LookIs boot events (cspace_of boot at) (place_after cpu.made) (needs_of call.given.call))
        call.seen
    pub came : came_fits call.stage (came_to call) ≡ true
    pub looked : looks_fit call.stage call.seen ≡ true
    pub needs : needs_fit call.stage call.given ≡ true
    pub pinned : cpu.pins ≡ map pin_of (pinned_looks call.stage call.seen)
    pub dies : (seen : Seen) → is_dying call.stage ≡ true → last_or None call.seen ≡ Some seen
        → DeathIs boot events index dead seen

  -- the calls of one CPU, those that have come to their end apart
  pub record CpuCalls (calls : List Made) (at : ℕ) (cpu : Cpu) : Type 0 where
    pub finished : InTurn (CallIs boot events at) calls
    pub numbered : InTurn IsNumbered calls
    pub current : (call : Current) → cpu.current ≡ Some call → CurrentIs at cpu call
    pub next : (given : Given) → cpu.next ≡ Some given → NextIs cpu given
    pub idle : cpu_row boot at ≡ None → IsIdle cpu

-- the calls of all CPUs
abbrev pub AreCalls : Config → Type 0
AreCalls conf = (cpu : ℕ)
    → CpuCalls conf.boot conf.history conf.index conf.dead (calls_in conf cpu) cpu (conf.cpu cpu)

-- entries

-- the holder's call is at its act
pub record IsActing (cpus : ℕ → Cpu) (holder : Holder) : Type 0 where
  pub call : Current
  pub in_act : IsIn (cpus holder.cpu) call AtAct

-- the last entry is a part of the holder's call, whose next entry is still to come
pub record Waits (events : List history.Event) (turn : Option Holder) (cpus : ℕ → Cpu) (n : ℕ)
    (event : history.Event) : Type 0 where
  pub last : n + 1 ≡ length events
  pub holder : Holder
  pub call : Current
  pub has_turn : turn ≡ Some holder
  pub in_act : IsIn (cpus holder.cpu) call AtAct
  pub not_acted : has_acted holder ≡ false
  pub parts : has_part holder ≡ true
  pub caller : history.caller event.entry ≡ Some (holder.cpu, call.given.number)
  pub is_its : event ≡ logged event.entry call

-- a part of this turn waits for its act
abbrev pub stands_open : Option Holder → Bool
stands_open None = false
stands_open (Some holder) = has_part holder && not (has_acted holder)

-- the turn and the entries of the history, and what they say of the finished calls
pub record AreEntries (conf : Config) : Type 0 where
  pub acting : (holder : Holder) → conf.turn ≡ Some holder → IsActing conf.cpu holder
  -- each act's entry is the end of a call, and each part's slot one of its call
  pub entries : (n : ℕ) (event : history.Event) → slice_get conf.history n ≡ Some event
      → EntryIs conf.boot conf.history (calls_in conf) n event event.entry
  -- behind a part stands another part of the same call, or its act, or it waits for these
  pub parts : (n : ℕ) (event : history.Event) → slice_get conf.history n ≡ Some event
      → is_part event.entry ≡ true
      → GoesOn conf.boot conf.history n event ⊎ Waits conf.history conf.turn conf.cpu n event
  pub untaken : stands_open conf.turn ≡ false → (present conf).taken ≡ []
  -- what an entry retires or reclaims has no references just before it
  pub unreferenced : (n : ℕ) (event : history.Event) → slice_get conf.history n ≡ Some event
      → GoesUnreferenced (history.state_at conf.boot conf.history n) event.entry
  -- the object that a dead call's last look granted is retired behind it, or the holder killed it
  pub deaths : (cpu i : ℕ) (made : Made) (seen : Seen)
      → slice_get (conf.cpu cpu).made i ≡ Some made → made.mark.end ≡ ends.Dead
      → last_or None made.seen ≡ Some seen
      → DeathIs conf.boot conf.history conf.index conf.dead seen

-- how far the counter of a CPU went on with its call in progress: by one in the section, and by
-- two once that is left
abbrev pub steps_at : Stage → Given → ℕ
steps_at Reading given = 1
steps_at Looked given = 1
steps_at DeadPin given = 1
steps_at Undone given = 1
steps_at Failed given = 1
steps_at AtAct given = if has_needs given then 2 else 0

abbrev pub steps : Option Current → ℕ
steps None = 0
steps (Some call) = steps_at call.stage call.given

-- the counter of a CPU is twice the number of its finished calls with looks, and goes on with the
-- one in progress
abbrev pub counted : Cpu → ℕ
counted cpu = 2 * count_by has_looks cpu.made + steps cpu.current

-- the calls of a configuration are sound
pub record HasCalls (conf : Config) : Type 0 where
  pub calls : AreCalls conf
  pub counters : (cpu : ℕ) → conf.counter cpu ≡ counted (conf.cpu cpu)
  pub entries : AreEntries conf

-- the history begins with the boot: no entry was counted before it
abbrev pub BeginsAtBoot : Config → Type 0
BeginsAtBoot conf = conf.boot.entries ≡ 0

-- a failed kill of this turn saw pins: each count that it keeps isn't 0
abbrev pub SawPins : Option Holder → Type 0
SawPins turn = (holder : Holder) (serial count : ℕ) → turn ≡ Some holder
    → holder.failed serial ≡ Some count → count ≢ 0
