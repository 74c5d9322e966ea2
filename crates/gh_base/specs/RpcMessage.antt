-- What a message of the resource manager is: a row of fragments, each a header of eight bytes and
-- a part of the payload. Nothing here says how fragments are put together as they come.
use Rattle.std.specs.Prelude.{◌≡◌, ◌≤◌, ◌<◌, ◌+◌, ◌*◌, ◌^◌, ◌-◌}
use Rattle.std.specs.Prelude.{◌/◌, ◌%◌, ◌==◌, ℕ, zero, suc, List, [], ◌∷◌}
use Rattle.std.specs.Prelude.{◌++◌, All, length, take, drop, if◌then◌else◌}
use Rattle.std.specs.Int.{w16, w32, to_le_bytes}
use Rattle.std.specs.List.{flat_map}
use Rattle.gh_base.specs.Bytes.{u8_at, u16_at, u32_at}
use Rattle.gh_base.specs.declared.limits.TheConstants.{FRAGMENT_BYTES, FURTHER_FRAGMENTS}
use Rattle.gh_base.specs.declared.fragment.TheConstants.{FRAGMENT_VERSION, FRAGMENT_HEADER_BYTES}
use Rattle.gh_base.specs.declared.fragment.TheConstants.{FRAGMENT_PAYLOAD_BYTES}
use Rattle.gh_base.specs.declared.fragment.TheConstants.{MESSAGE_PAYLOAD_BYTES}
use Rattle.gh_base.specs.declared.fragment.FragmentKind.{FragmentKind}
use Rattle.gh_base.specs.declared.fragment.FragmentKind.TheVariants.{Continuation, Request}
use Rattle.gh_base.specs.declared.fragment.FragmentKind.TheVariants.{Reply, Notification}
use Rattle.gh_base.specs.declared.fragment.Header.{Header}
use Rattle.gh_base.specs.declared.fragment.Message.{Message}

-- ---- the header, by offset

-- the version, in one byte
abbrev pub version_at : ℕ
version_at = 0

-- the kind and the count of further fragments, in one byte
abbrev pub kind_and_count_at : ℕ
kind_and_count_at = 1

-- the sequence, in two bytes
abbrev pub sequence_at : ℕ
sequence_at = 2

-- the id, in four bytes; behind it comes the payload
abbrev pub id_at : ℕ
id_at = 4

-- the number of a kind, in the low two bits of its byte
abbrev pub fragment_kind_number : FragmentKind → ℕ
fragment_kind_number Continuation = 0
fragment_kind_number Request = 1
fragment_kind_number Reply = 2
fragment_kind_number Notification = 3

-- the kind of a number
abbrev pub fragment_kind_numbered : ℕ → FragmentKind
fragment_kind_numbered n =
    if n == 0 then Continuation
    else (if n == 1 then Request
    else (if n == 2 then Reply
    else Notification))

-- the header that these bytes begin with
unfoldable pub header_of : List ℕ → Header
header_of bytes = record {
  kind = fragment_kind_numbered (u8_at kind_and_count_at bytes % 4);
  further = u8_at kind_and_count_at bytes / 4;
  sequence = u16_at sequence_at bytes;
  id = u32_at id_at bytes;
}

-- the bytes of a header; the count stands in the upper six bits of its byte
unfoldable pub header_bytes : Header → List ℕ
header_bytes h =
    FRAGMENT_VERSION ∷ (fragment_kind_number h.kind + h.further * 4)
    ∷ (to_le_bytes w16 h.sequence ++ to_le_bytes w32 h.id)

-- what stands behind the header
abbrev pub payload_of : List ℕ → List ℕ
payload_of fragment = drop FRAGMENT_HEADER_BYTES fragment

-- ---- messages

-- a fragment of this version, neither too short nor too long
pub record IsFragment (bytes : List ℕ) : Type 0 where
  pub header : FRAGMENT_HEADER_BYTES ≤ length bytes
  pub room : length bytes ≤ FRAGMENT_BYTES
  pub version : u8_at version_at bytes ≡ FRAGMENT_VERSION

-- a later fragment of the message with this id and sequence; its count isn't looked at
pub record Continues (id sequence : ℕ) (bytes : List ℕ) : Type 0 where
  pub fragment : IsFragment bytes
  pub kind : (header_of bytes).kind ≡ Continuation
  pub same_sequence : (header_of bytes).sequence ≡ sequence
  pub same_id : (header_of bytes).id ≡ id

-- a request and the fragments behind it begin this message, of which so many fragments are lacking:
-- the request counts all that follow it, and the payload is that of all fragments joined
pub record Begins (lacking : ℕ) (first : List ℕ) (others : List (List ℕ)) (m : Message)
    : Type 0 where
  pub fragment : IsFragment first
  pub kind : (header_of first).kind ≡ Request
  pub count : (header_of first).further ≡ length others + lacking
  pub most : (header_of first).further ≤ FURTHER_FRAGMENTS
  pub sequence : m.sequence ≡ (header_of first).sequence
  pub id : m.id ≡ (header_of first).id
  pub continued : All (Continues m.id m.sequence) others
  pub payload : m.payload ≡ flat_map payload_of (first ∷ others)

-- these fragments begin this message, of which so many are lacking
abbrev pub IsBegun : ℕ → List (List ℕ) → Message → Type 0
IsBegun lacking [] m = ⊥
IsBegun lacking (first ∷ others) m = Begins lacking first others m

-- these fragments are this message: none is lacking
abbrev pub IsMessage : List (List ℕ) → Message → Type 0
IsMessage fragments m = IsBegun 0 fragments m

-- ---- the fragments that are made of a message

-- how many fragments must follow the first so that a payload has room
abbrev pub further_fragments : List ℕ → ℕ
further_fragments payload = (length payload - 1) / FRAGMENT_PAYLOAD_BYTES

-- the header of each fragment of a message; all have the count of the first
abbrev pub header_in : Message → FragmentKind → Header
header_in m kind =
    record { kind = kind; further = further_fragments m.payload; sequence = m.sequence; id = m.id }

-- a fragment of a message with as much as it holds of what is left of the payload
abbrev pub filled : Message → FragmentKind → List ℕ → List ℕ
filled m kind left = header_bytes (header_in m kind) ++ take FRAGMENT_PAYLOAD_BYTES left

-- so many continuations with what is left of the payload
unfoldable pub continuations : Message → ℕ → List ℕ → List (List ℕ)
continuations m zero left = []
continuations m (suc n) left =
    filled m Continuation left ∷ continuations m n (drop FRAGMENT_PAYLOAD_BYTES left)

-- the fewest fragments that are this message, each full but the last
unfoldable pub fragments_of : Message → List (List ℕ)
fragments_of m =
    filled m Request m.payload
    ∷ continuations m (further_fragments m.payload) (drop FRAGMENT_PAYLOAD_BYTES m.payload)

-- a message whose numbers are within their fields, and whose payload has room in fragments
pub record IsWithinFields (m : Message) : Type 0 where
  pub id : m.id < 2 ^ 32
  pub sequence : m.sequence < 2 ^ 16
  pub payload : length m.payload ≤ MESSAGE_PAYLOAD_BYTES
