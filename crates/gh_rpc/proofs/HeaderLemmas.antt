-- A header reads as it was written, and what stands behind it is the payload.
use Rattle.std.proofs.Common.{◌≡◌, ℕ, ◌+◌, ◌*◌, ◌/◌, ◌%◌, ◌<◌}
use Rattle.std.proofs.Common.{◌≤◌, ◌^◌, ◌++◌, List, length, refl, arith, ap}
use Rattle.std.proofs.lemmas.Nat.{from_le_bytes-to_le_bytes_2, from_le_bytes-to_le_bytes_4}
use Rattle.gh_base.specs.Bytes.{u16_at, u32_at}
use Rattle.gh_base.specs.declared.fragment.FragmentKind.{FragmentKind}
use Rattle.gh_base.specs.declared.fragment.FragmentKind.TheVariants.{Continuation, Request}
use Rattle.gh_base.specs.declared.fragment.FragmentKind.TheVariants.{Reply, Notification}
use Rattle.gh_base.specs.declared.fragment.Header.{Header}
use Rattle.gh_base.specs.RpcMessage.{IsFragment, fragment_kind_number, fragment_kind_numbered}
use Rattle.gh_base.specs.RpcMessage.{header_bytes, header_of, payload_of}

-- the numbers of a header are within their fields
pub record HeaderFits (h : Header) : Type 0 where
  pub further : h.further < 64
  pub sequence : h.sequence < 2 ^ 16
  pub id : h.id < 2 ^ 32

-- a kind is read from the low two bits
kind_read : (kind : FragmentKind) (further : ℕ)
    → fragment_kind_numbered ((fragment_kind_number kind + further * 4) % 4) ≡ kind
kind_read Continuation further =
    let low : (0 + further * 4) % 4 ≡ 0 = omega arith in ap fragment_kind_numbered low
kind_read Request further =
    let low : (1 + further * 4) % 4 ≡ 1 = omega arith in ap fragment_kind_numbered low
kind_read Reply further =
    let low : (2 + further * 4) % 4 ≡ 2 = omega arith in ap fragment_kind_numbered low
kind_read Notification further =
    let low : (3 + further * 4) % 4 ≡ 3 = omega arith in ap fragment_kind_numbered low

-- the count is read from the bits above them
count_read : (kind : FragmentKind) (further : ℕ) → (fragment_kind_number kind + further * 4) / 4 ≡ further
count_read Continuation further = omega arith
count_read Request further = omega arith
count_read Reply further = omega arith
count_read Notification further = omega arith

-- a header reads as it was written
pub header_read : (h : Header) (rest : List ℕ) → HeaderFits h → header_of (header_bytes h ++ rest) ≡ h
unfolding header_of header_bytes u16_at u32_at
header_read h rest fits =
    rw (
      kind_read h.kind h.further,
      count_read h.kind h.further,
      from_le_bytes-to_le_bytes_2 h.sequence fits.sequence,
      from_le_bytes-to_le_bytes_4 h.id fits.id,
    )

-- behind the header stands the payload
pub payload_read : (h : Header) (rest : List ℕ) → payload_of (header_bytes h ++ rest) ≡ rest
unfolding header_bytes
payload_read h rest = refl

-- a header and a payload that has room are a fragment
pub is_fragment : (h : Header) (rest : List ℕ) → length rest ≤ 232 → IsFragment (header_bytes h ++ rest)
unfolding header_bytes
is_fragment h rest room = record { header = omega arith; room = omega arith; version = refl }
