-- How plain words take the turn and free it.
use Rattle.std.specs.Prelude.{◌≡◌, ℕ, true, List, Option, Some, None, length, map}
use Rattle.gh_base.specs.declared.cap_word.Grant.{Grant}
use Rattle.gh_base.specs.declared.frame.Frame.{Frame}
use Rattle.gh_base.specs.declared.ids.CpuNo.{CpuNo}
use Rattle.gh_events.specs.Config.{Config, Current}
use Rattle.gh_events.specs.Events.{Possible, after}
use Rattle.gh_events.specs.TurnEvents.{ready}
use Rattle.gh_events.specs.declared.event.Event.{Event}
use Rattle.gh_events.specs.declared.event.Event.TheVariants.{Free, Take}
use Rattle.gh_words.specs.Shows.{Shows, grant_of}
use Rattle.gh_words.specs.Tables.{with_place}
use Rattle.gh_words.specs.declared.plain_words.PlainWords.{PlainWords}
use Rattle.gh_words.specs.declared.plain_words.Turn.{Turn}

-- no CPU has the turn
abbrev pub IsFree : PlainWords → Type 0
IsFree words = words.turn ≡ None

-- the call that the CPU takes the turn for: its number, its frame and what its looks granted
pub record IsReady (conf : Config) (cpu no : ℕ) (made : Frame) (granted : List Grant)
    : Type 0 where
  pub call : Current
  pub is_ready : ready (conf.cpu cpu) ≡ Some call
  pub number : call.given.number ≡ no
  pub frame : call.given.frame ≡ made
  pub grants : map grant_of call.seen ≡ granted

-- in each configuration that was shown, in which the CPU may take the turn for this call, it did
abbrev pub Takes : PlainWords → PlainWords → CpuNo → ℕ → Frame → List Grant → Type 0
Takes old new cpu number frame grants = (conf : Config) → Shows old conf
    → Possible conf (Take cpu) → IsReady conf cpu.0 number frame grants
    → Shows new (after conf (Take cpu))

-- the CPU that has the turn
abbrev pub holder_of : Option Turn → Option CpuNo
holder_of None = None
holder_of (Some turn) = Some turn.cpu

-- the words with the end of the history as the holder's last place
abbrev pub at_end : PlainWords → Option CpuNo → PlainWords
at_end words None = words
at_end words (Some cpu) = with_place words cpu.0 (length words.log.entries)

-- the turn is given back behind the act
abbrev pub freeing : CpuNo → Event
freeing cpu = Free cpu true

abbrev pub Frees : PlainWords → PlainWords → Type 0
Frees old new = (conf : Config) (cpu : CpuNo) → Shows old conf → Possible conf (freeing cpu)
    → Shows new (after conf (freeing cpu))
