-- The register table: for each hypercall its function number, its registers, the register that
-- must be zero, the shape that it asks of them, and the capabilities that it looks up. The numbers
-- up to 8061 and their registers are those of the Linux drivers; the others, and which error
-- answers which cause, are this project's own.
use Rattle.std.specs.Prelude.{◌==◌, ◌&&◌, ◌||◌, ◌+◌, ◌-◌, ◌/◌}
use Rattle.std.specs.Prelude.{◌%◌, ◌^◌, ℕ, Bool, true, false, not, List, []}
use Rattle.std.specs.Prelude.{◌∷◌, length, Option, Some, None, Result, Ok, Err}
use Rattle.std.specs.Prelude.{find, slice_index, nat_lt, if◌then◌else◌}
use Rattle.gh_base.specs.declared.call.Call.{Call}
use Rattle.gh_base.specs.declared.call.Call.TheVariants.{Identify, Exit, BellSend, BellSetMask}
use Rattle.gh_base.specs.declared.call.Call.TheVariants.{BellReceive, BellReset, MsgqSend}
use Rattle.gh_base.specs.declared.call.Call.TheVariants.{MsgqRecv, MsgqFlush, Map, Unmap}
use Rattle.gh_base.specs.declared.call.Call.TheVariants.{Donate, Derive, AsLookup, Create}
use Rattle.gh_base.specs.declared.call.Call.TheVariants.{ConfigurePartition, ConfigureQueue}
use Rattle.gh_base.specs.declared.call.Call.TheVariants.{Activate, CapCopy, CapDelete}
use Rattle.gh_base.specs.declared.call.Call.TheVariants.{CapRevoke, CapsRevoke, RmAct, RmPoll}
use Rattle.gh_base.specs.declared.cap_word.Need.{Need}
use Rattle.gh_base.specs.declared.errno.Errno.{Errno}
use Rattle.gh_base.specs.declared.errno.Errno.TheVariants.{Unimplemented, ArgInval}
use Rattle.gh_base.specs.declared.errno.Errno.TheVariants.{ArgSize, ArgAlign}
use Rattle.gh_base.specs.declared.frame.Frame.{Frame}
use Rattle.gh_base.specs.declared.ids.Rights.{Rights}
use Rattle.gh_base.specs.declared.ids.TheConstants.Rights as right
use Rattle.gh_base.specs.declared.kind.Kind.{Kind}
use Rattle.gh_base.specs.declared.kind.Kind.TheVariants as kind
use Rattle.gh_base.specs.declared.limits.TheConstants.{MESSAGE_BYTES, PAGE_BYTES}
use Rattle.gh_base.specs.declared.limits.TheConstants.{PARTITION_UNITS, QUEUE_DEPTH, VMS}

-- a row of the table: the function's number, its register that must be zero where it has one, and
-- its call
pub record Function : Type 0 where
  pub number : ℕ
  pub zero : Option ℕ
  pub call : List ℕ → Call

-- a function without a register that must be zero
abbrev pub plain : ℕ → Call → Function
plain number call = record { number = number; zero = None; call = λ _. call }

-- a function with so many registers from x1 on; the one after them must be zero
abbrev pub taking : ℕ → ℕ → (List ℕ → Call) → Function
taking number registers call = record { number = number; zero = Some (registers + 1); call = call }

-- all functions, by number
abbrev pub functions : List Function
functions =
    plain 0x8000 Identify
    ∷ taking 0x8012 2 (λ x. BellSend (slice_index x 1) (slice_index x 2))
    ∷ taking 0x8015 3 (λ x. BellSetMask (slice_index x 1) (slice_index x 2) (slice_index x 3))
    ∷ taking 0x801b 4
    (λ x. MsgqSend (slice_index x 1) (slice_index x 2) (slice_index x 3) (slice_index x 4))
    ∷ taking 0x801c 3 (λ x. MsgqRecv (slice_index x 1) (slice_index x 2) (slice_index x 3))
    ∷ taking 0x802b 7
    (λ x. Map (slice_index x 1) (slice_index x 2) (slice_index x 3) (slice_index x 4)
    (slice_index x 5) (slice_index x 6) (slice_index x 7))
    ∷ taking 0x802c 6
    (λ x. Unmap (slice_index x 1) (slice_index x 2) (slice_index x 3) (slice_index x 4)
    (slice_index x 5) (slice_index x 6))
    ∷ taking 0x8061 5
    (λ x. Donate (slice_index x 1) (slice_index x 2) (slice_index x 3) (slice_index x 4)
    (slice_index x 5))
    ∷ taking 0x8201 3 (λ x. Create (slice_index x 1) (slice_index x 2) (slice_index x 3))
    ∷ taking 0x8202 2 (λ x. ConfigurePartition (slice_index x 1) (slice_index x 2))
    ∷ taking 0x8203 3 (λ x. ConfigureQueue (slice_index x 1) (slice_index x 2) (slice_index x 3))
    ∷ taking 0x8204 1 (λ x. Activate (slice_index x 1))
    ∷ taking 0x8210 3 (λ x. CapCopy (slice_index x 1) (slice_index x 2) (slice_index x 3))
    ∷ taking 0x8211 2 (λ x. CapDelete (slice_index x 1) (slice_index x 2))
    ∷ taking 0x8212 2 (λ x. CapRevoke (slice_index x 1) (slice_index x 2))
    ∷ taking 0x8213 1 (λ x. CapsRevoke (slice_index x 1))
    ∷ taking 0x8220 2 (λ x. BellReceive (slice_index x 1) (slice_index x 2))
    ∷ taking 0x8221 1 (λ x. BellReset (slice_index x 1))
    ∷ taking 0x8222 1 (λ x. MsgqFlush (slice_index x 1))
    ∷ taking 0x8230 5
    (λ x. Derive (slice_index x 1) (slice_index x 2) (slice_index x 3) (slice_index x 4)
    (slice_index x 5))
    ∷ taking 0x8231 2 (λ x. AsLookup (slice_index x 1) (slice_index x 2))
    ∷ plain 0x8240 Exit
    ∷ taking 0x8241 2 (λ x. RmAct (slice_index x 1) (slice_index x 2))
    ∷ taking 0x8242 1 (λ x. RmPoll (slice_index x 1))
    ∷ []

-- a fast 64-bit call to the vendor hypervisor: 0xC6000000 and the function, in the low 32 bits of
-- x0
abbrev pub function_number : Frame → ℕ
function_number frame = slice_index frame.x 0 % 2 ^ 32 - 0xc600_0000

-- one of several refusals, the first that holds
abbrev pub first_of : List (Bool × Errno) → Option Errno
first_of [] = None
first_of (refusal ∷ others) = if refusal.0 then Some refusal.1 else first_of others

-- not a multiple of the page size
abbrev pub is_unaligned : ℕ → Bool
is_unaligned n = not (n % PAGE_BYTES == 0)

-- bits 0 (PARTIAL) and 31 (NOSYNC) alone are taken in the flags of map and unmap
abbrev pub has_partial : ℕ → Bool
has_partial flags = flags % 2 == 1

-- the flags have a bit that isn't taken
abbrev pub has_foreign_flags : ℕ → Bool
has_foreign_flags flags =
    not ((flags == 0) || (flags == 1) || (flags == 0x8000_0000) || (flags == 0x8000_0001))

-- user access is bits 2..0 of the attributes, kernel access bits 6..4, the memory type bits 23..16
abbrev pub user_access : ℕ → ℕ
user_access attributes = attributes % 8

-- bits 4 to 6 of the attributes: what the kernel may do
abbrev pub kernel_access : ℕ → ℕ
kernel_access attributes = attributes / 16 % 8

-- the attributes have a bit that isn't taken
abbrev pub has_foreign_attributes : ℕ → Bool
has_foreign_attributes attributes =
    not (attributes / 8 % 2 == 0) || not (attributes / 128 % 512 == 0)
    || not (attributes / 16777216 == 0)

-- alignment of base, and with PARTIAL of offset and size; then PARTIAL with size 0
abbrev pub range_refusals : ℕ → ℕ → ℕ → ℕ → List (Bool × Errno)
range_refusals flags base offset size = (
  is_unaligned base
      || (has_partial flags && (is_unaligned offset || is_unaligned size)),
  ArgAlign,
)
    ∷ (has_partial flags && (size == 0), ArgSize) ∷ []

-- donate's options: the type is bits 7..0, bit 31 (NOSYNC) is taken
abbrev pub has_foreign_options : ℕ → Bool
has_foreign_options options = not (options / 256 % 8388608 == 0) || not (options / 4294967296 == 0)

-- what a call asks of its registers and of the number of its bytes: each refusal, in order
abbrev pub shape_refusals : Call → ℕ → List (Bool × Errno)
shape_refusals (BellSend cap flags) bytes = (flags == 0, ArgInval) ∷ []
shape_refusals (MsgqSend cap size buffer flags) bytes =
    (nat_lt 1 flags, ArgInval) ∷ ((size == 0) || nat_lt MESSAGE_BYTES size, ArgSize)
    ∷ (not (size == bytes), ArgSize) ∷ []
shape_refusals (MsgqRecv cap buffer size) bytes = (size == 0, ArgSize) ∷ []
shape_refusals (Map space extent base attributes flags offset size) bytes =
    (has_foreign_flags flags, ArgInval) ∷ (has_foreign_attributes attributes, ArgInval)
    ∷ ((user_access attributes == 3) || (kernel_access attributes == 3), ArgInval)
    ∷ (not (user_access attributes == kernel_access attributes), ArgInval)
    ∷ (user_access attributes == 0, ArgInval) ∷ range_refusals flags base offset size
shape_refusals (Unmap space extent base flags offset size) bytes =
    (has_foreign_flags flags, ArgInval) ∷ range_refusals flags base offset size
shape_refusals (Donate options «from» to offset size) bytes =
    (has_foreign_options options, ArgInval) ∷ (nat_lt 2 (options % 256), ArgInval)
    ∷ (is_unaligned offset || is_unaligned size, ArgAlign) ∷ (size == 0, ArgSize) ∷ []
shape_refusals (Derive child parent offset size access) bytes =
    (is_unaligned offset || is_unaligned size, ArgAlign) ∷ (size == 0, ArgSize)
    ∷ ((access == 0) || (access == 3) || nat_lt 7 access, ArgInval) ∷ []
shape_refusals (Create partition cspace number) bytes =
    ((number == 0) || nat_lt 6 number, ArgInval) ∷ []
shape_refusals (ConfigurePartition cap quota) bytes =
    ((quota == 0) || nat_lt PARTITION_UNITS quota, ArgInval) ∷ []
shape_refusals (ConfigureQueue cap depth size) bytes =
    ((depth == 0) || nat_lt QUEUE_DEPTH depth, ArgInval)
    ∷ ((size == 0) || nat_lt MESSAGE_BYTES size, ArgInval) ∷ []
shape_refusals (CapCopy cspace source mask) bytes = (nat_lt 0xffff mask, ArgInval) ∷ []
shape_refusals (RmAct cap vm) bytes =
    ((vm == 0) || nat_lt VMS vm, ArgInval) ∷ (nat_lt bytes 4 || nat_lt 14620 bytes, ArgSize)
    ∷ []
shape_refusals _ bytes = []

-- a register that must be zero and isn't
abbrev pub breaks_zero : List ℕ → Option ℕ → Bool
breaks_zero x None = false
breaks_zero x (Some register) = not (slice_index x register == 0)

-- the call, unless there is a refusal
abbrev pub shaped : Call → Option Errno → Result Call Errno
shaped call None = Ok call
shaped call (Some errno) = Err errno

-- the call of a frame whose function has this row, if it has one
abbrev pub read_function : Frame → Option Function → Result Call Errno
read_function frame None = Err Unimplemented
read_function frame (Some row) =
    if breaks_zero frame.x row.zero then Err ArgInval
    else shaped (row.call frame.x)
    (first_of (shape_refusals (row.call frame.x) (length frame.bytes)))

-- the call of a frame: it is refused where it names no function, then for its zero register, then
-- for its shape
abbrev pub call_of : Frame → Result Call Errno
call_of frame = read_function frame (find (λ row. row.number == function_number frame) functions)

-- a capability of this kind with these rights
abbrev pub of_kind : Kind → Rights → Need
of_kind k rights = record { kind = Some k; rights = rights; master = false }

-- a capability of any kind with these rights
abbrev pub of_any_kind : Rights → Need
of_any_kind rights = record { kind = None; rights = rights; master = false }

-- an object's master capability
abbrev pub a_master : Need
a_master = record { kind = None; rights = right.NONE; master = true }

-- the address space that a call names; 0 is the caller's own, which isn't looked up
abbrev pub space_need : ℕ → Rights → List (ℕ × Need) → List (ℕ × Need)
space_need space rights others =
    if space == 0 then others else (space, of_kind kind.Space rights) ∷ others

-- the capabilities that a call looks up, in order, and what it needs of each
abbrev pub needs_of : Call → List (ℕ × Need)
needs_of Identify = []
needs_of Exit = []
needs_of (BellSend cap flags) = (cap, of_kind kind.Bell right.SEND) ∷ []
needs_of (BellSetMask cap enable ack) = (cap, of_kind kind.Bell right.RECEIVE) ∷ []
needs_of (BellReceive cap clear) = (cap, of_kind kind.Bell right.RECEIVE) ∷ []
needs_of (BellReset cap) = (cap, of_kind kind.Bell right.RECEIVE) ∷ []
needs_of (MsgqSend cap size buffer flags) = (cap, of_kind kind.Queue right.SEND) ∷ []
needs_of (MsgqRecv cap buffer size) = (cap, of_kind kind.Queue right.RECEIVE) ∷ []
needs_of (MsgqFlush cap) = (cap, of_kind kind.Queue right.RECEIVE) ∷ []
needs_of (Map space extent base attributes flags offset size) =
    space_need space right.MAP ((extent, of_kind kind.Extent right.MAP) ∷ [])
needs_of (Unmap space extent base flags offset size) =
    space_need space right.MAP ((extent, of_kind kind.Extent right.MAP) ∷ [])
needs_of (Donate options «from» to offset size) =
    («from», of_kind kind.Extent right.DONATE) ∷ (to, of_kind kind.Extent right.DONATE) ∷ []
needs_of (Derive child parent offset size access) =
    (child, of_kind kind.Extent right.DERIVE) ∷ (parent, of_kind kind.Extent right.DERIVE) ∷ []
needs_of (AsLookup space address) = space_need space right.LOOKUP []
needs_of (Create partition cspace number) =
    (partition, of_kind kind.Partition right.CREATE) ∷ (cspace, of_kind kind.Cspace right.CREATE)
    ∷ []
needs_of (ConfigurePartition cap quota) = (cap, of_kind kind.Partition right.ACTIVATE) ∷ []
needs_of (ConfigureQueue cap depth size) = (cap, of_kind kind.Queue right.ACTIVATE) ∷ []
needs_of (Activate cap) = (cap, of_any_kind right.ACTIVATE) ∷ []
needs_of (CapCopy cspace source mask) =
    (cspace, of_kind kind.Cspace right.COPY) ∷ (source, of_any_kind right.NONE) ∷ []
needs_of (CapDelete cspace slot) = (cspace, of_kind kind.Cspace right.DELETE) ∷ []
needs_of (CapRevoke cspace slot) = (cspace, of_kind kind.Cspace right.REVOKE) ∷ []
needs_of (CapsRevoke cap) = (cap, a_master) ∷ []
needs_of (RmAct cap vm) = (cap, of_kind kind.Partition right.RESOURCE_MANAGER) ∷ []
needs_of (RmPoll cap) = (cap, of_kind kind.Partition right.RESOURCE_MANAGER) ∷ []
