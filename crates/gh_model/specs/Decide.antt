-- The act of any call: it is decided, and then done.
use Rattle.std.specs.Prelude.{◌==◌, ◌&&◌, not, ℕ, Bool, true, false, List, []}
use Rattle.std.specs.Prelude.{length, Option, Some, None, slice_get, if◌then◌else◌}
use Rattle.std.specs.Option.{unwrap_or}
use Rattle.gh_base.specs.Kind.{kind_number}
use Rattle.gh_base.specs.Reply.{refusal}
use Rattle.gh_base.specs.declared.call.Call.{Call}
use Rattle.gh_base.specs.declared.call.Call.TheVariants as calls
use Rattle.gh_base.specs.declared.errno.Errno.TheVariants.{CapRevoked, ObjState, Retry}
use Rattle.gh_base.specs.declared.ids.Serial.{Serial}
use Rattle.gh_model.specs.declared.change.Decision.{Decision}
use Rattle.gh_model.specs.declared.change.Decision.TheVariants.{Refuse, Unfinished, Make}
use Rattle.gh_model.specs.declared.rows.CapabilityRow.{CapabilityRow}
use Rattle.gh_model.specs.declared.word.Word.{Word}
use Rattle.gh_model.specs.declared.state.State.{State}
use Rattle.gh_model.specs.Act.{Verdict, Done, Refused, counted, any_doomed}
use Rattle.gh_model.specs.Act.{all_active, is_active_row, identified, grants_of}
use Rattle.gh_model.specs.BellCalls as bells
use Rattle.gh_model.specs.Boot.{cpu_cspace}
use Rattle.gh_model.specs.CapabilityCalls.{cap_copy, cap_delete, cap_revoke, caps_revoke}
use Rattle.gh_model.specs.Changes.{changed_all}
use Rattle.gh_model.specs.Decisions.{done, grant_at, is_init_row}
use Rattle.gh_model.specs.ManagerCalls.{exit, rm_poll, rm_act}
use Rattle.gh_model.specs.MemoryCalls as memory
use Rattle.gh_model.specs.ObjectCalls.{create, configure_partition, configure_queue, activate}
use Rattle.gh_model.specs.QueueCalls.{msgq_send, msgq_recv, msgq_flush}
use Rattle.gh_model.specs.Rows.{object_row}
use Rattle.gh_model.specs.Word.{word_at}

-- a revoke of all capabilities may take its object's last reference itself, by its parts
abbrev pub is_at_end : State → Call → List Serial → Bool
is_at_end s (calls.CapsRevoke cap) grants = (length s.taken == 0) && any_doomed s grants
is_at_end s _ grants = any_doomed s grants

-- the object with this serial is active
abbrev pub is_active : State → Serial → Bool
is_active s object = is_active_row (object_row s object.0)

-- the object with this serial is at its first stage, Init
abbrev pub is_init : State → Serial → Bool
is_init s object = is_init_row (object_row s object.0)

-- every granted object is in use, but for what is still to be made ready, or to be activated, and
-- for the source of a copy and the object of a revoke, whose stage isn't looked at
abbrev pub stages_fit : State → Call → List Serial → Bool
stages_fit s (calls.Derive child parent offset size access) grants =
    is_init s (grant_at grants 0) && is_active s (grant_at grants 1)
stages_fit s (calls.ConfigurePartition cap quota) grants = is_init s (grant_at grants 0)
stages_fit s (calls.ConfigureQueue cap depth size) grants = is_init s (grant_at grants 0)
stages_fit s (calls.Activate cap) grants = not (is_active s (grant_at grants 0))
stages_fit s (calls.CapCopy cspace source mask) grants = is_active s (grant_at grants 0)
stages_fit s (calls.CapsRevoke cap) grants = true
stages_fit s _ grants = all_active s grants

-- what each call comes to, where nothing before it stands against it
abbrev pub decided : State → ℕ → Call → List ℕ → List Serial → Decision
decided s cpu calls.Identify bytes grants = Make [] identified
decided s cpu calls.Exit bytes grants = exit (record { 0 = cpu })
decided s cpu (calls.BellSend cap flags) bytes grants = bells.bell_send s (grant_at grants 0) flags
decided s cpu (calls.BellSetMask cap enable ack) bytes grants =
    bells.bell_set_mask s (grant_at grants 0) enable ack
decided s cpu (calls.BellReceive cap clear) bytes grants =
    bells.bell_receive s (grant_at grants 0) clear
decided s cpu (calls.BellReset cap) bytes grants = bells.bell_reset (grant_at grants 0)
decided s cpu (calls.MsgqSend cap size buffer flags) bytes grants =
    msgq_send s (grant_at grants 0) bytes
decided s cpu (calls.MsgqRecv cap buffer size) bytes grants = msgq_recv s (grant_at grants 0) size
decided s cpu (calls.MsgqFlush cap) bytes grants = msgq_flush s (grant_at grants 0)
decided s cpu (calls.Map space extent base attributes flags offset size) bytes grants =
    memory.map s (memory.named_space s cpu space grants) (memory.named_extent space grants) base
    attributes flags offset size
decided s cpu (calls.Unmap space extent base flags offset size) bytes grants =
    memory.unmap s (memory.named_space s cpu space grants) (memory.named_extent space grants) base
    flags offset size
decided s cpu (calls.Donate options giver receiver offset size) bytes grants =
    memory.donate s options (grant_at grants 0) (grant_at grants 1) offset size
decided s cpu (calls.Derive child parent offset size access) bytes grants =
    memory.derive s (grant_at grants 0) (grant_at grants 1) offset size access
decided s cpu (calls.AsLookup space address) bytes grants =
    memory.as_lookup s (memory.named_space s cpu space grants) address
decided s cpu (calls.Create partition cspace number) bytes grants =
    create s (grant_at grants 0) (grant_at grants 1) number
decided s cpu (calls.ConfigurePartition cap quota) bytes grants =
    configure_partition s (grant_at grants 0) quota
decided s cpu (calls.ConfigureQueue cap depth size) bytes grants =
    configure_queue s (grant_at grants 0) depth size
decided s cpu (calls.Activate cap) bytes grants = activate s (grant_at grants 0)
decided s cpu (calls.CapCopy cspace source mask) bytes grants =
    cap_copy s cpu (grant_at grants 0) (grant_at grants 1) source mask
decided s cpu (calls.CapDelete cspace slot) bytes grants = cap_delete s (grant_at grants 0) slot
decided s cpu (calls.CapRevoke cspace slot) bytes grants = cap_revoke s (grant_at grants 0) slot
decided s cpu (calls.CapsRevoke cap) bytes grants = caps_revoke s (grant_at grants 0)
decided s cpu (calls.RmAct cap vm) bytes grants = rm_act s vm bytes
decided s cpu (calls.RmPoll cap) bytes grants = rm_poll s

-- a call is refused where a granted object is at its end, then where one is in another stage, then
-- where the capability to copy has moved; else it comes to what its table says. The bytes are those
-- of the call's frame
abbrev pub decision : Bool → State → ℕ → Call → List ℕ → List Serial → Decision
decision moved s cpu call bytes grants =
    if is_at_end s call grants then Refuse CapRevoked
    else (if not (stages_fit s call grants) then Refuse ObjState
    else (if moved then Refuse Retry else decided s cpu call bytes grants))

-- a decision is done: its changes are made in order, and an entry is counted
abbrev pub verdict : State → Decision → Verdict
verdict s (Refuse errno) = Refused (refusal errno)
verdict s Unfinished = Refused done
verdict s (Make changes reply) = Done (counted (changed_all s changes)) reply

-- the act of a call with these grants
abbrev pub act : State → ℕ → Call → List ℕ → List Serial → Verdict
act s cpu call bytes grants = verdict s (decision false s cpu call bytes grants)

-- two words are the same

-- two truth values are the same
abbrev pub same_truth : Bool → Bool → Bool
same_truth a b = if a then b else not b

-- two rows of capabilities are the same, field by field
abbrev pub same_row : CapabilityRow → CapabilityRow → Bool
same_row a b =
    (a.cspace.0 == b.cspace.0) && (a.slot == b.slot) && (a.serial.0 == b.serial.0)
    && (kind_number a.kind == kind_number b.kind) && (a.rights.0 == b.rights.0)
    && same_truth a.master b.master && same_truth a.valid b.valid

-- both rows are there and the same, or neither is there
abbrev pub same_rows : Option CapabilityRow → Option CapabilityRow → Bool
same_rows None None = true
same_rows None (Some b) = false
same_rows (Some a) None = false
same_rows (Some a) (Some b) = same_row a b

-- two words are the same
abbrev pub same_word : Word → Word → Bool
same_word a b = (a.set_at == b.set_at) && same_rows a.row b.row

-- the capability to copy isn't the one that the call's look found
abbrev pub source_word : List Word → Word
source_word words = unwrap_or (slice_get words 1) (record { row = None; set_at = 0 })

-- the source of a copy is no longer what was looked up
abbrev pub has_moved : State → ℕ → Call → List Word → Bool
has_moved s cpu (calls.CapCopy cspace source mask) words =
    not (same_word (word_at s (cpu_cspace s.cpus cpu) source) (source_word words))
has_moved s cpu _ words = false

-- the act of a call whose looks found these words
abbrev pub judge : State → ℕ → Call → List ℕ → List Word → Verdict
judge s cpu call bytes words =
    verdict s (decision (has_moved s cpu call words) s cpu call bytes (grants_of call words))
