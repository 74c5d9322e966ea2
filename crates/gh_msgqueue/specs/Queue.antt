-- What callers see of a message queue.
use Rattle.std.specs.Prelude.{◌≤◌, ◌<◌, ℕ, Bool, List, [], ◌∷◌, ◌++◌}
use Rattle.std.specs.Prelude.{length, All, Option, Some, None, nat_lt, if◌then◌else◌}
use Rattle.gh_base.specs.declared.limits.TheConstants.{QUEUE_DEPTH, MESSAGE_BYTES}
use Rattle.gh_base.specs.declared.errno.Errno.{Errno}
use Rattle.gh_base.specs.declared.errno.Errno.TheVariants.{ArgSize, QueueEmpty, QueueFull}

-- the messages, first to last, the most that there may be, and the most bytes of each
pub record MessageQueue : Type 0 where
  pub messages : List (List ℕ)
  pub depth : ℕ
  pub size : ℕ

-- a queue of this depth and size without messages
abbrev pub empty_queue : ℕ → ℕ → MessageQueue
empty_queue depth size = record { messages = []; depth = depth; size = size }

-- the queue with this message put last
abbrev pub with_last : MessageQueue → List ℕ → MessageQueue
with_last q message = record q { messages = q.messages ++ message ∷ [] }

-- the queue with this message put first
abbrev pub with_first : List ℕ → MessageQueue → MessageQueue
with_first message q = record q { messages = message ∷ q.messages }

-- whether there are fewer messages than there may be
abbrev pub has_room : MessageQueue → Bool
has_room q = nat_lt (length q.messages) q.depth

-- whether there is a message
abbrev pub has_messages : MessageQueue → Bool
has_messages q = nat_lt 0 (length q.messages)

-- why a message of so many bytes can't be sent now: it is too long, or else the queue is full
abbrev pub send_refusal : MessageQueue → ℕ → Option Errno
send_refusal q bytes =
    if nat_lt q.size bytes then Some ArgSize else (if has_room q then None else Some QueueFull)

-- why the first of these messages can't be received in so many bytes: there is none, or it has more
abbrev pub first_refusal : List (List ℕ) → ℕ → Option Errno
first_refusal [] room = Some QueueEmpty
first_refusal (message ∷ messages) room =
    if nat_lt room (length message) then Some ArgSize else None

-- why nothing can be received in so many bytes now
abbrev pub receive_refusal : MessageQueue → ℕ → Option Errno
receive_refusal q = first_refusal q.messages

-- a depth and a size that a queue can have
pub record IsConfigurable (depth size : ℕ) : Type 0 where
  pub some_depth : 0 < depth
  pub most_depth : depth ≤ QUEUE_DEPTH
  pub some_size : 0 < size
  pub most_size : size ≤ MESSAGE_BYTES

-- a queue has no more messages than its depth, and none longer than its size
pub record IsWithinLimits (q : MessageQueue) : Type 0 where
  pub configured : IsConfigurable q.depth q.size
  pub messages : length q.messages ≤ q.depth
  pub lengths : All (λ message. length message ≤ q.size) q.messages
