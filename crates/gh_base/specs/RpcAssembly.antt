-- How fragments are put together as they come: what a fragment does to the open message, and what
-- it answers.
use Rattle.std.specs.Prelude.{◌==◌, ◌-◌, ℕ, not, nat_lt, List, [], ◌∷◌, ◌++◌}
use Rattle.std.specs.Prelude.{length, Option, None, Some, Result, Ok, Err, if◌then◌else◌}
use Rattle.std.specs.Option.{option_or}
use Rattle.gh_base.specs.Bytes.{u8_at}
use Rattle.gh_base.specs.RpcMessage.{version_at, header_of, payload_of}
use Rattle.gh_base.specs.declared.limits.TheConstants.{FRAGMENT_BYTES, FURTHER_FRAGMENTS}
use Rattle.gh_base.specs.declared.fragment.TheConstants.{FRAGMENT_VERSION, FRAGMENT_HEADER_BYTES}
use Rattle.gh_base.specs.declared.fragment.FragmentKind.{FragmentKind}
use Rattle.gh_base.specs.declared.fragment.FragmentKind.TheVariants.{Continuation, Request}
use Rattle.gh_base.specs.declared.fragment.FragmentKind.TheVariants.{Reply, Notification}
use Rattle.gh_base.specs.declared.fragment.Header.{Header}
use Rattle.gh_base.specs.declared.fragment.Message.{Message}
use Rattle.gh_base.specs.declared.fragment.RpcFault.{RpcFault}
use Rattle.gh_base.specs.declared.fragment.RpcFault.TheVariants.{TooShort, TooLong, BadVersion}
use Rattle.gh_base.specs.declared.fragment.RpcFault.TheVariants.{BadType, TooManyFragments}
use Rattle.gh_base.specs.declared.fragment.RpcFault.TheVariants.{WrongSequence, WrongId}

-- a message so far, and how many of its fragments are still lacking
pub record Progress : Type 0 where
  pub message : Message
  pub lacking : ℕ

-- ---- faults, in the order in which they are told

-- why these bytes are no fragment
abbrev pub fragment_fault : List ℕ → Option RpcFault
fragment_fault bytes =
    if nat_lt (length bytes) FRAGMENT_HEADER_BYTES then Some TooShort
    else (if nat_lt FRAGMENT_BYTES (length bytes) then Some TooLong
    else (if not (u8_at version_at bytes == FRAGMENT_VERSION) then Some BadVersion
    else None))

-- why a continuation doesn't go on with the open message
abbrev pub continuation_fault : Option Progress → Header → Option RpcFault
continuation_fault None h = Some BadType
continuation_fault (Some p) h =
    if not (h.sequence == p.message.sequence) then Some WrongSequence
    else (if not (h.id == p.message.id) then Some WrongId
    else None)

-- why a fragment of this kind and header can't come now
abbrev pub kind_fault : FragmentKind → Option Progress → Header → Option RpcFault
kind_fault Continuation opened h = continuation_fault opened h
kind_fault Request opened h =
    if nat_lt FURTHER_FRAGMENTS h.further then Some TooManyFragments else None
kind_fault Reply opened h = Some BadType
kind_fault Notification opened h = Some BadType

-- why a fragment with this header can't come now
abbrev pub header_fault : Option Progress → Header → Option RpcFault
header_fault opened h = kind_fault h.kind opened h

-- why this fragment is refused
unfoldable pub fault_of : Option Progress → List ℕ → Option RpcFault
fault_of opened bytes = option_or (fragment_fault bytes) (header_fault opened (header_of bytes))

-- ---- a fragment without a fault

-- a request begins a message, whatever was open
abbrev pub begun : Header → List ℕ → Progress
begun h payload =
    record {
      message = record { id = h.id; sequence = h.sequence; payload = payload };
      lacking = h.further;
    }

-- a continuation adds its payload
abbrev pub continued : Progress → List ℕ → Progress
continued p payload =
    record {
      message = record p.message { payload = p.message.payload ++ payload };
      lacking = p.lacking - 1;
    }

-- the message so far with a fragment of this kind; only a continuation goes on with the open one
abbrev pub progress_of_kind : FragmentKind → Option Progress → Header → List ℕ → Progress
progress_of_kind Continuation (Some p) h payload = continued p payload
progress_of_kind Continuation None h payload = begun h payload
progress_of_kind Request opened h payload = begun h payload
progress_of_kind Reply opened h payload = begun h payload
progress_of_kind Notification opened h payload = begun h payload

-- the message so far with this fragment
unfoldable pub progress_of : Option Progress → List ℕ → Progress
progress_of opened bytes =
    progress_of_kind (header_of bytes).kind opened (header_of bytes) (payload_of bytes)

-- ---- one fragment

-- what a fragment answers, and the message that is open then
pub record Fed : Type 0 where
  pub answer : Result (Option Message) RpcFault
  pub opened : Option Progress

-- a message is given as soon as nothing is lacking
abbrev pub accepted : Progress → Fed
accepted p =
    if p.lacking == 0 then record { answer = Ok (Some p.message); opened = None }
    else record { answer = Ok None; opened = Some p }

-- a fault drops the open message
abbrev pub judged : Option RpcFault → Progress → Fed
judged (Some fault) p = record { answer = Err fault; opened = None }
judged None p = accepted p

-- the open message is fed a fragment
abbrev pub fed : Option Progress → List ℕ → Fed
fed opened bytes = judged (fault_of opened bytes) (progress_of opened bytes)

-- ---- a stream of fragments

-- what each of them answers
abbrev pub answers : Option Progress → List (List ℕ) → List (Result (Option Message) RpcFault)
answers opened [] = []
answers opened (bytes ∷ stream) =
    (fed opened bytes).answer ∷ answers (fed opened bytes).opened stream

-- the message that is open behind them
abbrev pub opened_behind : Option Progress → List (List ℕ) → Option Progress
opened_behind opened [] = opened
opened_behind opened (bytes ∷ stream) = opened_behind (fed opened bytes).opened stream
