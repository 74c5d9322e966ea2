-- What a call is on, by its noun.
use Rattle.std.specs.Prelude.{Bool, true, false}
use Rattle.gh_base.specs.declared.call.Call.{Call}
use Rattle.gh_base.specs.declared.call.Call.TheVariants.{BellSend, BellSetMask, BellReceive, BellReset, MsgqSend, MsgqRecv, MsgqFlush, Map, Unmap, Donate, Derive, AsLookup, Create, ConfigurePartition, ConfigureQueue, Activate, CapCopy, CapDelete, CapRevoke, CapsRevoke}

-- the call is on a doorbell
abbrev pub is_bell_call : Call → Bool
is_bell_call (BellSend cap flags) = true
is_bell_call (BellSetMask cap enable ack) = true
is_bell_call (BellReceive cap clear) = true
is_bell_call (BellReset cap) = true
is_bell_call _ = false

-- on a message queue
abbrev pub is_queue_call : Call → Bool
is_queue_call (MsgqSend cap size buffer flags) = true
is_queue_call (MsgqRecv cap buffer size) = true
is_queue_call (MsgqFlush cap) = true
is_queue_call _ = false

-- on an address space
abbrev pub is_space_call : Call → Bool
is_space_call (Map space extent base attributes flags offset size) = true
is_space_call (Unmap space extent base flags offset size) = true
is_space_call (AsLookup space address) = true
is_space_call _ = false

-- it unmaps pages
abbrev pub is_unmap : Call → Bool
is_unmap (Unmap space extent base flags offset size) = true
is_unmap _ = false

-- on two extents
abbrev pub is_extent_call : Call → Bool
is_extent_call (Donate options giver receiver offset size) = true
is_extent_call (Derive child parent offset size access) = true
is_extent_call _ = false

-- on an object, new or to be made ready
abbrev pub is_object_call : Call → Bool
is_object_call (Create partition cspace kind) = true
is_object_call (ConfigurePartition cap quota) = true
is_object_call (ConfigureQueue cap depth size) = true
is_object_call (Activate cap) = true
is_object_call _ = false

-- on capabilities
abbrev pub is_capability_call : Call → Bool
is_capability_call (CapCopy cspace source mask) = true
is_capability_call (CapDelete cspace slot) = true
is_capability_call (CapRevoke cspace slot) = true
is_capability_call (CapsRevoke cap) = true
is_capability_call _ = false
