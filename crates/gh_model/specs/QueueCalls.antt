-- What the calls on message queues come to: their own refusals in order, and their changes.
use Rattle.std.specs.Prelude.{◌==◌, ◌+◌, ℕ, Bool, true, false, List, []}
use Rattle.std.specs.Prelude.{◌∷◌, length, min, Option, Some, None, find}
use Rattle.std.specs.Prelude.{nat_lt, nat_le, slice_get, if◌then◌else◌}
use Rattle.std.specs.List.{list_any}
use Rattle.gh_base.specs.declared.errno.Errno.TheVariants.{ArgSize, QueueEmpty, QueueFull}
use Rattle.gh_base.specs.declared.frame.Reply.{Reply}
use Rattle.gh_base.specs.declared.ids.Serial.{Serial}
use Rattle.gh_base.specs.declared.limits.TheConstants.{MESSAGE_BYTES}
use Rattle.gh_model.specs.declared.change.Change.{Change}
use Rattle.gh_model.specs.declared.change.Decision.{Decision}
use Rattle.gh_model.specs.declared.change.Decision.TheVariants.{Refuse, Make}
use Rattle.gh_model.specs.declared.change.Change.TheVariants.{PutMessage, DropMessage}
use Rattle.gh_model.specs.declared.change.Change.TheVariants.{EmptyQueue, Ring}
use Rattle.gh_model.specs.declared.rows.LinkRow.{LinkRow}
use Rattle.gh_model.specs.declared.state_reads.QueueFill.{QueueFill}
use Rattle.gh_model.specs.declared.rows.QueueRow.{QueueRow}
use Rattle.gh_model.specs.declared.state.State.{State}
use Rattle.gh_model.specs.Decisions.{done_with, make_one}
use Rattle.gh_model.specs.Rows.{is_queue}

-- a queue's depth, its size in bytes and the number of its messages
abbrev pub fill_of : QueueRow → QueueFill
fill_of row = record { depth = row.depth; size = row.size; count = length row.messages }

-- how full a queue is, if it has a row
abbrev pub row_fill : Option QueueRow → Option QueueFill
row_fill None = None
row_fill (Some row) = Some (fill_of row)

-- how full the queue with this serial is
abbrev pub queue_fill : State → Serial → Option QueueFill
queue_fill s queue = row_fill (find (is_queue queue.0) s.queues)

-- a queue's first message
abbrev pub row_first : Option QueueRow → Option (List ℕ)
row_first None = None
row_first (Some row) = slice_get row.messages 0

-- the first message of a queue, if there is one
abbrev pub first_message : State → Serial → Option (List ℕ)
first_message s queue = row_first (find (is_queue queue.0) s.queues)

-- 1 where a fact holds, else 0
abbrev pub one_if : Bool → ℕ
one_if true = 1
one_if false = 0

-- a request queue of a link
abbrev pub is_requests : ℕ → LinkRow → Bool
is_requests queue link = link.request.0 == queue

-- msgq_send: the message goes last, and rings where it is a linked request queue. The reply has 1
-- where the queue isn't full now
abbrev pub rings_if : Bool → List Change
rings_if true = Ring ∷ []
rings_if false = []

-- the queue is one of requests, which ring
abbrev pub is_request_queue : State → Serial → Bool
is_request_queue s queue = list_any (is_requests queue.0) s.links

-- msgq_send to a queue that is so full; one without room is full
abbrev pub message_sent : State → Serial → List ℕ → Option QueueFill → Decision
message_sent s queue message None = Refuse QueueFull
message_sent s queue message (Some fill) =
    if nat_lt fill.size (length message) then Refuse ArgSize
    else (if nat_le fill.depth fill.count then Refuse QueueFull
    else Make (PutMessage queue message ∷ rings_if (is_request_queue s queue))
    (done_with (one_if (nat_lt (fill.count + 1) fill.depth))))

-- msgq_send: the message is the last, and the reply says whether there is room for another
abbrev pub msgq_send : State → Serial → List ℕ → Decision
msgq_send s queue message = message_sent s queue message (queue_fill s queue)

-- msgq_recv: the first message is the reply's bytes, which has room for 1,024. The reply has its
-- length, and 1 where messages are left
abbrev pub message_reply : List ℕ → Bool → Reply
message_reply message left = record {
  x = 0 ∷ length message ∷ one_if left ∷ 0 ∷ [];
  bytes = message;
}

-- msgq_recv from a queue that is so full, with this first message; one without room is empty
abbrev pub message_received : Serial → ℕ → Option QueueFill → Option (List ℕ) → Decision
message_received queue room None first = Refuse QueueEmpty
message_received queue room (Some fill) None = Refuse QueueEmpty
message_received queue room (Some fill) (Some message) =
    if nat_lt (min room MESSAGE_BYTES) (length message) then Refuse ArgSize
    else make_one (DropMessage queue) (message_reply message (nat_lt 1 fill.count))

-- msgq_recv: the first message goes, and the reply has it and whether another is left
abbrev pub msgq_recv : State → Serial → ℕ → Decision
msgq_recv s queue room = message_received queue room (queue_fill s queue) (first_message s queue)

-- msgq_flush: the queue is emptied, and the reply has the number of messages that it dropped
abbrev pub flushed : Serial → Option QueueFill → Decision
flushed queue None = Make [] (done_with 0)
flushed queue (Some fill) = make_one (EmptyQueue queue) (done_with fill.count)

-- msgq_flush: all messages go
abbrev pub msgq_flush : State → Serial → Decision
msgq_flush s queue = flushed queue (queue_fill s queue)
