-- What exit and the calls of the resource manager come to.
use Rattle.std.specs.Prelude.{◌==◌, ◌&&◌, ◌+◌, not, ℕ, Bool}
use Rattle.std.specs.Prelude.{true, false, List, [], ◌∷◌, length, Option}
use Rattle.std.specs.Prelude.{Some, None, find, nat_lt, if◌then◌else◌}
use Rattle.std.specs.Int.{w32, to_le_bytes}
use Rattle.std.specs.List.{list_any}
use Rattle.gh_base.specs.Bytes.{u32_at}
use Rattle.gh_base.specs.Reply.{register_reply}
use Rattle.gh_base.specs.RmError.{rm_error_number}
use Rattle.gh_base.specs.RmLayout.{is_request_id}
use Rattle.gh_base.specs.declared.errno.Errno.TheVariants.{ArgSize}
use Rattle.gh_base.specs.declared.frame.Reply.{Reply}
use Rattle.gh_base.specs.declared.ids.CpuNo.{CpuNo}
use Rattle.gh_base.specs.declared.rm.RmError.{RmError}
use Rattle.gh_base.specs.declared.rm.RmError.TheVariants as rm
use Rattle.gh_model.specs.declared.change.Change.{Change}
use Rattle.gh_model.specs.declared.change.Decision.{Decision}
use Rattle.gh_model.specs.declared.change.Decision.TheVariants.{Refuse, Make}
use Rattle.gh_model.specs.declared.change.Change.TheVariants.{Exit, Ring}
use Rattle.gh_model.specs.declared.rows.CpuRow.{CpuRow}
use Rattle.gh_model.specs.declared.rows.LinkRow.{LinkRow}
use Rattle.gh_model.specs.declared.rows.QueueRow.{QueueRow}
use Rattle.gh_model.specs.declared.state.State.{State}
use Rattle.gh_model.specs.Decisions.{done}
use Rattle.gh_model.specs.Rows.{cpu_row, is_queue}

-- exit: the CPU has exited, and that of a VM rings the resource manager
abbrev pub exit_changes : CpuNo → Bool → List Change
exit_changes cpu true = Exit cpu ∷ []
exit_changes cpu false = Exit cpu ∷ Ring ∷ []

-- exit: the CPU has ended
abbrev pub exit : CpuNo → Decision
exit cpu = Make (exit_changes cpu (cpu.0 == 0)) done

-- rm_poll: the linked VMs whose request queue isn't empty, the VMs that have exited, and the rings.
-- VM v has bit v
abbrev pub is_link_for : ℕ → LinkRow → Bool
is_link_for vm link = link.vm.0 == vm

-- the queue is there and has a message
abbrev pub has_messages : Option QueueRow → Bool
has_messages None = false
has_messages (Some row) = nat_lt 0 (length row.messages)

-- the link is there and its request queue has a message
abbrev pub has_requests : State → Option LinkRow → Bool
has_requests s None = false
has_requests s (Some link) = has_messages (find (is_queue link.request.0) s.queues)

-- a VM has a request that waits
abbrev pub vm_requests : State → ℕ → Bool
vm_requests s vm = has_requests s (find (is_link_for vm) s.links)

-- the bit of a VM where it has a request that waits, else 0
abbrev pub request_bit : State → ℕ → ℕ → ℕ
request_bit s vm bit = if vm_requests s vm then bit else 0

-- the CPU is there and has exited
abbrev pub has_exited : Option CpuRow → Bool
has_exited None = false
has_exited (Some row) = row.exited

-- the bit of a VM where it has exited, else 0
abbrev pub exit_bit : State → ℕ → ℕ → ℕ
exit_bit s vm bit = if has_exited (cpu_row s vm) then bit else 0

-- a bit for each of the eight VMs
abbrev pub bits_of : (ℕ → ℕ → ℕ) → ℕ
bits_of bit = bit 1 2 + bit 2 4 + bit 3 8 + bit 4 16 + bit 5 32 + bit 6 64 + bit 7 128 + bit 8 256

-- rm_poll: the reply has a bit for each VM that waits, one for each that has exited, and the rings
-- so far
abbrev pub rm_poll : State → Decision
rm_poll s = Make [] (register_reply 0 (bits_of (request_bit s)) (bits_of (exit_bit s)) s.rings)

-- rm_act: the reply's bytes are an error. What a linked VM asks for isn't built; another VM asks
-- in vain
abbrev pub error_reply : RmError → Reply
error_reply error = record {
  x = 0 ∷ 0 ∷ 0 ∷ 0 ∷ [];
  bytes = to_le_bytes w32 (rm_error_number error);
}

-- a VM has a link
abbrev pub is_linked : State → ℕ → Bool
is_linked s vm = list_any (is_link_for vm) s.links

-- the error of a request: VmidInvalid where it is a known one of a VM without a link, else
-- Unimplemented
abbrev pub request_error : Bool → Bool → RmError
request_error is_known is_linked =
    if is_known && not is_linked then rm.VmidInvalid else rm.Unimplemented

-- fewer than four bytes come from no frame
abbrev pub rm_act : State → ℕ → List ℕ → Decision
rm_act s vm bytes =
    if nat_lt (length bytes) 4 then Refuse ArgSize
    else Make [] (error_reply (request_error (is_request_id (u32_at 0 bytes)) (is_linked s vm)))
