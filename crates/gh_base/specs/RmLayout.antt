-- The layouts of requests and replies of the resource manager: for each field its offset, its width
-- and what it says. Bytes that aren't named aren't looked at.
use Rattle.std.specs.Prelude.{◌<◌, ◌+◌, ◌*◌, ◌^◌, ◌/◌, ◌%◌}
use Rattle.std.specs.Prelude.{◌==◌, ◌&&◌, ◌||◌, not, ℕ, zero, suc, Bool}
use Rattle.std.specs.Prelude.{List, [], ◌∷◌, ◌++◌, All, length, drop, Option}
use Rattle.std.specs.Prelude.{None, Some, Result, Ok, Err, if◌then◌else◌}
use Rattle.std.specs.Int.{w16, w32, w64, to_le_bytes}
use Rattle.std.specs.List.{flat_map}
use Rattle.gh_base.specs.Bytes.{u8_at, u16_at, u32_at, u64_at}
use Rattle.gh_base.specs.RmError.{rm_error_number}
use Rattle.gh_base.specs.declared.rm.TheConstants.{LEND_ID, SHARE_ID, DONATE_ID}
use Rattle.gh_base.specs.declared.rm.TheConstants.{ACCEPT_ID, RELEASE_ID, RECLAIM_ID}
use Rattle.gh_base.specs.declared.rm.MemRequest.{MemRequest}
use Rattle.gh_base.specs.declared.rm.Request.{Request}
use Rattle.gh_base.specs.declared.rm.Request.TheVariants.{Lend, Share, Donate}
use Rattle.gh_base.specs.declared.rm.Request.TheVariants.{Accept, Release, Reclaim}
use Rattle.gh_base.specs.declared.rm.RmError.{RmError}
use Rattle.gh_base.specs.declared.rm.RmError.TheVariants as Errors

-- so many entries of a width, one behind another, each read alike
unfoldable pub entries : {E : Type 0} → (List ℕ → E) → ℕ → ℕ → List ℕ → List E
entries entry width zero bytes = []
entries entry width (suc n) bytes = entry bytes ∷ entries entry width n (drop width bytes)

-- ---- a memory request

-- the type of memory at 0, in one byte
abbrev pub mem_type_of : List ℕ → ℕ
mem_type_of bytes = u8_at 0 bytes

-- flags at 2, in one byte, of which bit 1 says that memory is to be appended
abbrev pub appends : List ℕ → Bool
appends bytes = u8_at 2 bytes / 2 % 2 == 1

-- the label at 4, in four bytes
abbrev pub label_of : List ℕ → ℕ
label_of bytes = u32_at 4 bytes

-- the number of access entries at 8, in four bytes
abbrev pub access_count : List ℕ → ℕ
access_count bytes = u32_at 8 bytes

-- the access entries from 12 on
abbrev pub access_at : ℕ
access_at = 12

-- each of four bytes
abbrev pub access_width : ℕ
access_width = 4

-- the VM of an access entry at 0, in two bytes, and what it may do at 2, in one
abbrev pub access_entry : List ℕ → ℕ × ℕ
access_entry bytes = (u16_at 0 bytes, u8_at 2 bytes)

-- behind the access entries the number of memory entries, in two bytes
abbrev pub memory_count_at : List ℕ → ℕ
memory_count_at bytes = access_at + access_count bytes * access_width

-- this number
abbrev pub memory_count : List ℕ → ℕ
memory_count bytes = u16_at (memory_count_at bytes) bytes

-- with two bytes more it takes four
abbrev pub memory_count_width : ℕ
memory_count_width = 4

-- the memory entries behind it
abbrev pub memory_at : List ℕ → ℕ
memory_at bytes = memory_count_at bytes + memory_count_width

-- each of sixteen bytes
abbrev pub memory_width : ℕ
memory_width = 16

-- the address of a memory entry at 0, in eight bytes, and its size at 8, in eight
abbrev pub memory_entry : List ℕ → ℕ × ℕ
memory_entry bytes = (u64_at 0 bytes, u64_at 8 bytes)

-- behind the memory entries the number of attributes
abbrev pub attribute_count_at : List ℕ → ℕ
attribute_count_at bytes = memory_at bytes + memory_count bytes * memory_width

-- this number
abbrev pub attribute_count : List ℕ → ℕ
attribute_count bytes = u32_at (attribute_count_at bytes) bytes

-- it takes four bytes
abbrev pub attribute_count_width : ℕ
attribute_count_width = 4

-- and behind it stands nothing
abbrev pub memory_request_length : List ℕ → ℕ
memory_request_length bytes = attribute_count_at bytes + attribute_count_width

-- the bytes are of the layout: just as many as it takes, and without attributes
abbrev pub is_memory_layout : List ℕ → Bool
is_memory_layout bytes =
    (length bytes == memory_request_length bytes) && (attribute_count bytes == 0)

-- what bytes of the layout ask for
abbrev pub memory_asked : List ℕ → MemRequest
memory_asked bytes = record {
  label = label_of bytes;
  access = entries access_entry access_width (access_count bytes) (drop access_at bytes);
  memory = entries memory_entry memory_width (memory_count bytes) (drop (memory_at bytes) bytes);
}

-- why bytes are no memory request: first the layout, then the append bit, which isn't built, and
-- then a type of memory that isn't 0
abbrev pub memory_refusal : List ℕ → Option RmError
memory_refusal bytes =
    if not (is_memory_layout bytes) then Some Errors.ArgumentInvalid
    else (if appends bytes then Some Errors.Unimplemented
    else (if not (mem_type_of bytes == 0) then Some Errors.ArgumentInvalid
    else None))

-- ---- the other requests

-- accept has sixteen bytes
abbrev pub accept_width : ℕ
accept_width = 16

-- the handle at 0, in four bytes, and the address at 8, in eight
abbrev pub accept_asked : List ℕ → Request
accept_asked bytes = Accept (u32_at 0 bytes) (u64_at 8 bytes)

-- release and reclaim have eight bytes
abbrev pub handle_width : ℕ
handle_width = 8

-- the handle at 0, in four bytes
abbrev pub handle_of : List ℕ → ℕ
handle_of bytes = u32_at 0 bytes

-- ---- requests

-- what is asked unless it is refused
abbrev pub unless_refused : {Asked : Type 0} → Option RmError → Asked → Result Asked RmError
unless_refused None asked = Ok asked
unless_refused (Some error) asked = Err error

-- a payload of another width isn't of the layout
abbrev pub width_refusal : ℕ → List ℕ → Option RmError
width_refusal width bytes = if length bytes == width then None else Some Errors.ArgumentInvalid

-- the ids that name a request
abbrev pub is_request_id : ℕ → Bool
is_request_id id =
    (id == LEND_ID) || (id == SHARE_ID) || (id == DONATE_ID)
    || (id == ACCEPT_ID) || (id == RELEASE_ID) || (id == RECLAIM_ID)

-- a request for memory, of the kind that this makes of what is asked
abbrev pub memory_request : (MemRequest → Request) → List ℕ → Result Request RmError
memory_request kind bytes = unless_refused (memory_refusal bytes) (kind (memory_asked bytes))

-- an accept
abbrev pub accept_request : List ℕ → Result Request RmError
accept_request bytes = unless_refused (width_refusal accept_width bytes) (accept_asked bytes)

-- a request that only has a handle, of the kind that this makes of it
abbrev pub handle_request : (ℕ → Request) → List ℕ → Result Request RmError
handle_request kind bytes =
    unless_refused (width_refusal handle_width bytes) (kind (handle_of bytes))

-- what the id and the payload ask, or the first error that they show by themselves
abbrev pub request_of : ℕ → List ℕ → Result Request RmError
request_of id bytes =
    if id == LEND_ID then memory_request Lend bytes
    else (if id == SHARE_ID then memory_request Share bytes
    else (if id == DONATE_ID then memory_request Donate bytes
    else (if id == ACCEPT_ID then accept_request bytes
    else (if id == RELEASE_ID then handle_request Release bytes
    else (if id == RECLAIM_ID then handle_request Reclaim bytes
    else Err Errors.Unimplemented)))))

-- ---- requests as they are written; what isn't named is 0

-- an access entry
abbrev pub access_entry_bytes : ℕ × ℕ → List ℕ
access_entry_bytes entry = to_le_bytes w16 entry.0 ++ entry.1 ∷ 0 ∷ []

-- a memory entry
abbrev pub memory_entry_bytes : ℕ × ℕ → List ℕ
memory_entry_bytes entry = to_le_bytes w64 entry.0 ++ to_le_bytes w64 entry.1

-- four bytes that say nothing, or that a count is 0
abbrev pub four_zeros : List ℕ
four_zeros = 0 ∷ 0 ∷ 0 ∷ 0 ∷ []

-- the part behind the access entries
abbrev pub memory_part_bytes : MemRequest → List ℕ
memory_part_bytes r =
    to_le_bytes w16 (length r.memory)
    ++ 0 ∷ 0 ∷ (flat_map memory_entry_bytes r.memory ++ four_zeros)

-- a memory request
abbrev pub memory_bytes : MemRequest → List ℕ
memory_bytes r =
    four_zeros ++ to_le_bytes w32 r.label ++ to_le_bytes w32 (length r.access)
    ++ flat_map access_entry_bytes r.access ++ memory_part_bytes r

-- the payload of a request
abbrev pub request_bytes : Request → List ℕ
request_bytes (Lend r) = memory_bytes r
request_bytes (Share r) = memory_bytes r
request_bytes (Donate r) = memory_bytes r
request_bytes (Accept handle address) =
    to_le_bytes w32 handle ++ four_zeros ++ to_le_bytes w64 address
request_bytes (Release handle) = to_le_bytes w32 handle ++ four_zeros
request_bytes (Reclaim handle) = to_le_bytes w32 handle ++ four_zeros

-- the id of a request
abbrev pub request_id : Request → ℕ
request_id (Lend r) = LEND_ID
request_id (Share r) = SHARE_ID
request_id (Donate r) = DONATE_ID
request_id (Accept handle address) = ACCEPT_ID
request_id (Release handle) = RELEASE_ID
request_id (Reclaim handle) = RECLAIM_ID

-- each number of a memory request is within its field
pub record MemoryFits (r : MemRequest) : Type 0 where
  pub label : r.label < 2 ^ 32
  pub access : length r.access < 2 ^ 32
  pub vms : All (λ entry. entry.0 < 2 ^ 16) r.access
  pub memory : length r.memory < 2 ^ 16
  pub addresses : All (λ entry. entry.0 < 2 ^ 64) r.memory
  pub sizes : All (λ entry. entry.1 < 2 ^ 64) r.memory

-- the handle and the address of an accept are within their fields
pub record AcceptFits (number place : ℕ) : Type 0 where
  pub handle : number < 2 ^ 32
  pub address : place < 2 ^ 64

-- each number of a request is within its field
abbrev pub RequestFits : Request → Type 0
RequestFits (Lend r) = MemoryFits r
RequestFits (Share r) = MemoryFits r
RequestFits (Donate r) = MemoryFits r
RequestFits (Accept handle address) = AcceptFits handle address
RequestFits (Release handle) = handle < 2 ^ 32
RequestFits (Reclaim handle) = handle < 2 ^ 32

-- ---- replies

-- a handle in four bytes, where there is one
abbrev pub handle_bytes : Option ℕ → List ℕ
handle_bytes None = []
handle_bytes (Some handle) = to_le_bytes w32 handle

-- what follows the error: nothing behind one that isn't Ok
abbrev pub reply_payload : RmError → Option ℕ → List ℕ
reply_payload Errors.Ok handle = handle_bytes handle
reply_payload Errors.Unimplemented handle = []
reply_payload Errors.NoResource handle = []
reply_payload Errors.Denied handle = []
reply_payload Errors.Busy handle = []
reply_payload Errors.ArgumentInvalid handle = []
reply_payload Errors.HandleInvalid handle = []
reply_payload Errors.ValidateFailed handle = []
reply_payload Errors.MapFailed handle = []
reply_payload Errors.MemInvalid handle = []
reply_payload Errors.MemInuse handle = []
reply_payload Errors.MemReleased handle = []
reply_payload Errors.VmidInvalid handle = []

-- the error at 0 in four bytes, and then the payload
abbrev pub reply_bytes : RmError → Option ℕ → List ℕ
reply_bytes error handle = to_le_bytes w32 (rm_error_number error) ++ reply_payload error handle
