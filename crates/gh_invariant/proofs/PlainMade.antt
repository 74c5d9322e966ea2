-- The changes of the calls on doorbells and queues, of exit and of the resource manager's calls may
-- be made.
use Rattle.std.proofs.Common.{◌≡◌, ◌+◌, ℕ, Bool, true, false, List, ◌∷◌, length, refl, Option, Some, None, find}
use Rattle.std.specs.Prelude.{◌==◌, nat_lt, nat_le, min}
use Rattle.gh_base.specs.declared.access.Access.{Access}
use Rattle.gh_base.specs.declared.errno.Errno.TheVariants.{AddrInval, ArgSize, QueueFull}
use Rattle.gh_base.specs.declared.ids.CpuNo.{CpuNo}
use Rattle.gh_base.specs.declared.ids.PageNo.{PageNo}
use Rattle.gh_base.specs.declared.ids.Serial.{Serial}
use Rattle.gh_base.specs.declared.limits.TheConstants.{MESSAGE_BYTES}
use Rattle.gh_model.specs.Access.{access_at}
use Rattle.gh_model.specs.BellCalls as bells
use Rattle.gh_model.specs.Decisions.{done, done_with}
use Rattle.gh_model.specs.ManagerCalls.{exit, exit_changes, rm_act}
use Rattle.gh_model.specs.MemoryCalls.{as_lookup, looked_up, page_of}
use Rattle.gh_model.specs.QueueCalls as queues
use Rattle.gh_model.specs.declared.change.Change.TheVariants.{PutMessage}
use Rattle.gh_model.specs.declared.change.Decision.TheVariants.{Make}
use Rattle.gh_model.specs.declared.rows.BellRow.{BellRow}
use Rattle.gh_model.specs.declared.state.State.{State}
use Rattle.gh_model.specs.declared.state_reads.QueueFill.{QueueFill}
use Rattle.gh_model.specs.Rows.{is_queue}
use Rattle.gh_model.specs.declared.rows.QueueRow.{QueueRow}
use Rattle.gh_invariant.specs.Grants.{MayMake}
use Rattle.gh_invariant.specs.Premises.{MaySend}
use Rattle.gh_invariant.proofs.MayMake.{at_most_by, below_by, provided, unless}
use Rattle.std.proofs.lemmas.Bool.{leb-true}

module _ (s : State) where
  pub sent_made : (flags : ℕ) (row : Option BellRow) → MayMake s (bells.sent flags row)
  sent_made flags None = tt
  sent_made flags (Some row) = record { first = tt; others = tt }

  pub received_made : (clear : ℕ) (row : Option BellRow) → MayMake s (bells.received clear row)
  received_made clear None = tt
  received_made clear (Some row) = record { first = tt; others = tt }

  pub masked_made : (enable ack : ℕ) (row : Option BellRow) → MayMake s (bells.masked enable ack row)
  masked_made enable ack None = tt
  masked_made enable ack (Some row) = record { first = tt; others = tt }

  rings_made : (queue : Serial) (message : List ℕ) (linked : Bool) (x1 : ℕ) → MaySend s queue.0 message
      → MayMake s (Make (PutMessage queue message ∷ queues.rings_if linked) (done_with x1))
  rings_made queue message true x1 may = record { first = may; others = record { first = tt; others = tt } }
  rings_made queue message false x1 may = record { first = may; others = tt }

  put_made_by : (queue : Serial) (message : List ℕ) (row : Option QueueRow) → find (is_queue queue.0) s.queues ≡ row
      → MayMake s (queues.message_sent s queue message (queues.row_fill row))
  put_made_by queue message None found = tt
  put_made_by queue message (Some row) found =
      unless s (nat_lt row.size (length message)) ArgSize _ (λ short.
      unless s (nat_le row.depth (length row.messages)) QueueFull _ (λ room.
      rings_made queue message (queues.is_request_queue s queue) (queues.one_if (nat_lt (length row.messages + 1) row.depth))
      (record {
        row = row;
        found = found;
        room = below_by row.depth (length row.messages) room;
        short = leb-true _ _ (at_most_by row.size (length message) short);
      })))

  pub put_made : (queue : Serial) (message : List ℕ) → MayMake s (queues.msgq_send s queue message)
  put_made queue message = put_made_by queue message (find (is_queue queue.0) s.queues) refl

  pub taken_made : (queue : Serial) (room : ℕ) (fill : Option QueueFill) (first : Option (List ℕ))
      → MayMake s (queues.message_received queue room fill first)
  taken_made queue room None first = tt
  taken_made queue room (Some fill) None = tt
  taken_made queue room (Some fill) (Some message) =
      unless s (nat_lt (min room MESSAGE_BYTES) (length message)) ArgSize _ (λ fits. record { first = tt; others = tt })

  pub flushed_made : (queue : Serial) (fill : Option QueueFill) → MayMake s (queues.flushed queue fill)
  flushed_made queue None = tt
  flushed_made queue (Some fill) = record { first = tt; others = tt }

  exited_made : (cpu : CpuNo) (manager : Bool) → MayMake s (Make (exit_changes cpu manager) done)
  exited_made cpu true = record { first = tt; others = tt }
  exited_made cpu false = record { first = tt; others = record { first = tt; others = tt } }

  pub exit_made : (cpu : CpuNo) → MayMake s (exit cpu)
  exit_made cpu = exited_made cpu (cpu.0 == 0)

  pub rm_act_made : (vm : ℕ) (bytes : List ℕ) → MayMake s (rm_act s vm bytes)
  rm_act_made vm bytes = unless s (nat_lt (length bytes) 4) ArgSize _ (λ enough. tt)

  looked_made : (found : Option (PageNo × Access)) → MayMake s (looked_up found)
  looked_made None = tt
  looked_made (Some found) = tt

  pub as_lookup_made : (space : Serial) (address : ℕ) → MayMake s (as_lookup s space address)
  as_lookup_made space address =
      provided s (nat_lt (page_of address) 4096) AddrInval _ (λ within. looked_made (access_at s space.0 (page_of address)))
