-- What a call comes to gives no reference to an object that lives and has none.
use Rattle.std.proofs.Common.{◌≡◌, ◌+◌, ◌%◌, ℕ, Bool, true, false, not, List, ◌∷◌, length, refl, Option, Some, None, IsTrue}
use Rattle.std.specs.Prelude.{◌||◌, ◌==◌, nat_lt, nat_le, min}
use Rattle.gh_base.specs.Kind.{kind_numbered}
use Rattle.gh_base.specs.declared.call.Call.{Call}
use Rattle.gh_base.specs.declared.call.Call.TheVariants as calls
use Rattle.gh_base.specs.declared.errno.Errno.TheVariants.{AddrInval, ArgInval, ArgSize, CapRevoked, ObjState, QueueFull, Retry}
use Rattle.gh_base.specs.declared.ids.PageNo.{PageNo}
use Rattle.gh_base.specs.declared.access.Access.{Access}
use Rattle.gh_base.specs.declared.ids.Serial.{Serial}
use Rattle.gh_base.specs.declared.ids.TheConstants.Rights as right
use Rattle.gh_base.specs.declared.kind.Kind.TheVariants as kind
use Rattle.gh_base.specs.declared.limits.TheConstants.{MESSAGE_BYTES}
use Rattle.gh_model.specs.BellCalls as bells
use Rattle.gh_model.specs.Boot.{cpu_cspace}
use Rattle.gh_model.specs.Decide.{decided, decision, is_at_end, stages_fit}
use Rattle.gh_model.specs.Decisions.{done, done_with, grant_at}
use Rattle.gh_model.specs.ManagerCalls.{exit_changes}
use Rattle.gh_model.specs.MemoryCalls.{looked_up, named_extent, named_space, page_of}
use Rattle.gh_model.specs.QueueCalls as queues
use Rattle.gh_model.specs.Registers.{needs_of, of_any_kind, of_kind, user_access}
use Rattle.gh_model.specs.Rows.{cpu_row, object_row}
use Rattle.gh_model.specs.declared.change.Change.TheVariants.{PutMessage}
use Rattle.gh_model.specs.declared.change.Decision.TheVariants.{Make}
use Rattle.gh_model.specs.declared.rows.BellRow.{BellRow}
use Rattle.gh_model.specs.declared.state.State.{State}
use Rattle.gh_model.specs.declared.state_reads.QueueFill.{QueueFill}
use Rattle.gh_invariant.specs.Grants.{GivesToReferred, MayAct, grants_stand, is_running}
use Rattle.gh_invariant.proofs.GrantsReferred.{extent_referred, first_of_two, second_of_two, space_referred}
use Rattle.gh_invariant.proofs.GivesMade.{activated_gives, caps_revoke_gives, copied_gives, created_gives, deleted_gives, derived_gives, donated_gives, mapped_gives, quota_gives, revoked_gives, room_gives, unmapped_gives}
use Rattle.gh_invariant.proofs.Referred.{gives_provided, gives_unless}

module _ (s : State) where
  sent_gives : (flags : ℕ) (row : Option BellRow) → GivesToReferred s (bells.sent flags row)
  sent_gives flags None = refl
  sent_gives flags (Some row) = refl

  received_gives : (clear : ℕ) (row : Option BellRow) → GivesToReferred s (bells.received clear row)
  received_gives clear None = refl
  received_gives clear (Some row) = refl

  masked_gives : (enable ack : ℕ) (row : Option BellRow) → GivesToReferred s (bells.masked enable ack row)
  masked_gives enable ack None = refl
  masked_gives enable ack (Some row) = refl

  rings_give : (queue : Serial) (message : List ℕ) (linked : Bool) (x1 : ℕ)
      → GivesToReferred s (Make (PutMessage queue message ∷ queues.rings_if linked) (done_with x1))
  rings_give queue message true x1 = refl
  rings_give queue message false x1 = refl

  put_gives : (queue : Serial) (message : List ℕ) (fill : Option QueueFill) → GivesToReferred s (queues.message_sent s queue message fill)
  put_gives queue message None = tt
  put_gives queue message (Some fill) =
      gives_unless s (nat_lt fill.size (length message)) ArgSize _ (λ short.
      gives_unless s (nat_le fill.depth fill.count) QueueFull _ (λ room.
      rings_give queue message (queues.is_request_queue s queue) (queues.one_if (nat_lt (fill.count + 1) fill.depth))))

  taken_gives : (queue : Serial) (room : ℕ) (fill : Option QueueFill) (first : Option (List ℕ))
      → GivesToReferred s (queues.message_received queue room fill first)
  taken_gives queue room None first = tt
  taken_gives queue room (Some fill) None = tt
  taken_gives queue room (Some fill) (Some message) =
      gives_unless s (nat_lt (min room MESSAGE_BYTES) (length message)) ArgSize _ (λ fits. refl)

  flushed_gives : (queue : Serial) (fill : Option QueueFill) → GivesToReferred s (queues.flushed queue fill)
  flushed_gives queue None = refl
  flushed_gives queue (Some fill) = refl

  exited_gives : (cpu : ℕ) (manager : Bool) → GivesToReferred s (Make (exit_changes (record { 0 = cpu }) manager) done)
  exited_gives cpu true = refl
  exited_gives cpu false = refl

  looked_gives : (found : Option (PageNo × Access)) → GivesToReferred s (looked_up found)
  looked_gives None = tt
  looked_gives (Some found) = refl

module _ (s : State) (cpu : ℕ) (running : IsTrue (is_running (cpu_row s cpu))) (bytes : List ℕ) (grants : List Serial) where
  -- what each call comes to gives no reference to an object that lives and has none
  decided_gives : (call : Call) → IsTrue (grants_stand s.objects (needs_of call) grants) → is_at_end s call grants ≡ false
      → GivesToReferred s (decided s cpu call bytes grants)
  decided_gives calls.Identify stand live = refl
  decided_gives calls.Exit stand live = exited_gives s cpu (cpu == 0)
  decided_gives (calls.BellSend cap flags) stand live = sent_gives s flags (bells.bell_row s (grant_at grants 0))
  decided_gives (calls.BellSetMask cap enable ack) stand live = masked_gives s enable ack (bells.bell_row s (grant_at grants 0))
  decided_gives (calls.BellReceive cap clear) stand live = received_gives s clear (bells.bell_row s (grant_at grants 0))
  decided_gives (calls.BellReset cap) stand live = refl
  decided_gives (calls.MsgqSend cap size buffer flags) stand live =
      put_gives s (grant_at grants 0) bytes (queues.queue_fill s (grant_at grants 0))
  decided_gives (calls.MsgqRecv cap buffer size) stand live =
      taken_gives s (grant_at grants 0) size (queues.queue_fill s (grant_at grants 0)) (queues.first_message s (grant_at grants 0))
  decided_gives (calls.MsgqFlush cap) stand live = flushed_gives s (grant_at grants 0) (queues.queue_fill s (grant_at grants 0))
  decided_gives (calls.Map space extent base attributes flags offset size) stand live =
      mapped_gives s (named_space s cpu space grants) (named_extent space grants) base (user_access attributes) flags offset size _
      (space_referred s cpu running space extent right.MAP grants live (space == 0) stand)
      (extent_referred s cpu running space extent right.MAP grants live (space == 0) stand)
  decided_gives (calls.Unmap space extent base flags offset size) stand live =
      unmapped_gives s (named_space s cpu space grants) (named_extent space grants) base flags offset size _
  decided_gives (calls.Donate options giver receiver offset size) stand live =
      donated_gives s (options % 256) (grant_at grants 1) (page_of offset) (page_of size) _
  decided_gives (calls.Derive child parent offset size access) stand live =
      derived_gives s (grant_at grants 0) (grant_at grants 1) offset size access _
      (first_of_two s grants (child, of_kind kind.Extent right.DERIVE) (parent, of_kind kind.Extent right.DERIVE) stand live)
      (second_of_two s grants (child, of_kind kind.Extent right.DERIVE) (parent, of_kind kind.Extent right.DERIVE) stand live)
  decided_gives (calls.AsLookup space address) stand live =
      gives_provided s (nat_lt (page_of address) 4096) AddrInval _ (λ within. looked_gives s _)
  decided_gives (calls.Create partition cspace number) stand live =
      created_gives s (grant_at grants 0) (grant_at grants 1) (kind_numbered number)
      (first_of_two s grants (partition, of_kind kind.Partition right.CREATE) (cspace, of_kind kind.Cspace right.CREATE) stand live)
      (second_of_two s grants (partition, of_kind kind.Partition right.CREATE) (cspace, of_kind kind.Cspace right.CREATE) stand live)
  decided_gives (calls.ConfigurePartition cap quota) stand live =
      gives_unless s (nat_lt 128 quota) ArgInval _ (λ few. quota_gives s (grant_at grants 0) quota _)
  decided_gives (calls.ConfigureQueue cap depth size) stand live =
      gives_unless s (nat_lt 64 depth || nat_lt 1024 size) ArgInval _ (λ few. room_gives s (grant_at grants 0) depth size _)
  decided_gives (calls.Activate cap) stand live = activated_gives s (grant_at grants 0) (object_row s (grant_at grants 0).0)
  decided_gives (calls.CapCopy cspace source mask) stand live =
      copied_gives s (grant_at grants 0) (grant_at grants 1) mask (cpu_cspace s.cpus cpu) source _ refl
      (first_of_two s grants (cspace, of_kind kind.Cspace right.COPY) (source, of_any_kind right.NONE) stand live)
  decided_gives (calls.CapDelete cspace slot) stand live = deleted_gives s _
  decided_gives (calls.CapRevoke cspace slot) stand live = revoked_gives s _
  decided_gives (calls.CapsRevoke cap) stand live = caps_revoke_gives s (grant_at grants 0)
  decided_gives (calls.RmAct cap vm) stand live = gives_unless s (nat_lt (length bytes) 4) ArgSize _ (λ enough. refl)
  decided_gives (calls.RmPoll cap) stand live = refl

-- whatever refuses it before
pub decision_gives : (s : State) (moved : Bool) (cpu : ℕ) (call : Call) (bytes : List ℕ) (grants : List Serial)
    → MayAct s cpu call (length bytes) grants → GivesToReferred s (decision moved s cpu call bytes grants)
decision_gives s moved cpu call bytes grants may =
    gives_unless s (is_at_end s call grants) CapRevoked _ (λ live.
    gives_unless s (not (stages_fit s call grants)) ObjState _ (λ stages.
    gives_unless s moved Retry _ (λ here.
    decided_gives s cpu may.running bytes grants call may.granted live)))
