-- How the messages of a queue lie: a ring of as many slots as the queue is deep, of which the first
-- hold the messages, first to last, and the others wait for one.
use Rattle.std.specs.Prelude.{◌≡◌, ◌≤◌, ℕ, List}
use Rattle.std.specs.Prelude.{◌++◌, length, map, take, drop, All}
use Rattle.circular_buffer.specs.Buffer.{Buffer}
use Rattle.gh_msgqueue.specs.Slot.{Content}
use Rattle.gh_msgqueue.specs.Queue.{MessageQueue, IsConfigurable}

-- the messages in the first slots
abbrev pub messages_in : ℕ → List Content → List (List ℕ)
messages_in count slots = map (λ slot. slot.message) (take count slots)

-- the queue whose messages lie in the first slots of this ring
abbrev pub queue_in : Buffer Content → ℕ → ℕ → MessageQueue
queue_in ring count size =
    record { messages = messages_in count ring.items; depth = ring.capacity; size = size }

-- the slots with the first of them put last
abbrev pub rotated : List Content → List Content
rotated slots = drop 1 slots ++ take 1 slots

-- the ring has all its slots, each with room for a message and none with more in it
pub record IsLaidOut (ring : Buffer Content) (count size : ℕ) : Type 0 where
  pub configured : IsConfigurable ring.capacity size
  pub slots : length ring.items ≡ ring.capacity
  pub filled : count ≤ ring.capacity
  pub rooms : All (λ slot. slot.room ≡ size) ring.items
  pub lengths : All (λ slot. length slot.message ≤ size) ring.items
