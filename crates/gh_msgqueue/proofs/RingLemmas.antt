-- What each call does to a ring that is laid out.
use Rattle.std.proofs.Common.{◌≡◌, ◌<◌, ◌≤◌, ℕ, suc, ◌+◌}
use Rattle.std.proofs.Common.{◌-◌, List, [], ◌∷◌, ◌++◌, length}
use Rattle.std.proofs.Common.{take, drop, set, slice_get, Some, All, sym, arith}
use Rattle.std.proofs.lemmas.Grind.{common_steps}
use Rattle.std.proofs.lemmas.Option.{slice_get_within}
use Rattle.std.proofs.lemmas.List.Elements.{All-map, All-take, All-drop, All-append}
use Rattle.circular_buffer.specs.Buffer.{Buffer, buffer, keep_last}
use Rattle.gh_msgqueue.specs.Queue.{IsWithinLimits, with_first, with_last}
use Rattle.gh_msgqueue.specs.Ring.{messages_in, queue_in, rotated, IsLaidOut}
use Rattle.gh_msgqueue.specs.Slot.{Content, content}

-- the messages of a ring that is laid out are within the limits
pub limits_of_ring : (ring : Buffer Content) (count size : ℕ) →
    IsLaidOut ring count size → IsWithinLimits (queue_in ring count size)
limits_of_ring ring count size laid = record {
  configured = laid.configured;
  messages = grind (arith, common_steps);
  lengths =
      All-map (λ message. length message ≤ size) (λ slot. slot.message) (take count ring.items)
      (All-take (λ slot. length slot.message ≤ size) count ring.items laid.lengths);
}

-- pushing the first slot after it was popped rotates the slots
pub pushed_after_pop : (slots : List Content) (slot : Content) (depth : ℕ) →
    slice_get slots 0 ≡ Some slot → length slots ≤ depth →
    keep_last depth (drop 1 slots ++ slot ∷ []) ≡ rotated slots
pushed_after_pop [] slot depth first fits = cc
pushed_after_pop (s ∷ slots) slot depth first fits = grind (arith, common_steps)

-- what holds of each slot still does when they are rotated
All-rotated : (P : Content → Type 0) (slots : List Content) → All P slots → All P (rotated slots)
All-rotated P slots all =
    All-append P (drop 1 slots) (take 1 slots) (All-drop P 1 slots all) (All-take P 1 slots all)

-- a rotated ring is laid out, with one message less
pub laid_out_rotated : (ring : Buffer Content) (count size : ℕ) →
    IsLaidOut ring count size →
    IsLaidOut (buffer (rotated ring.items) ring.capacity) (count - 1) size
laid_out_rotated ring count size laid = record {
  configured = laid.configured;
  slots = grind (arith, common_steps);
  filled = omega (arith, laid.filled);
  rooms = All-rotated (λ slot. slot.room ≡ size) ring.items laid.rooms;
  lengths = All-rotated (λ slot. length slot.message ≤ size) ring.items laid.lengths;
}

-- rotating the slots takes the first message away
messages_in-rotated : (count : ℕ) (slots : List Content) (message : List ℕ) →
    count ≤ length slots → Some message ≡ slice_get (messages_in count slots) 0 →
    messages_in count slots ≡ message ∷ messages_in (count - 1) (rotated slots)
messages_in-rotated count [] message within first = grind (arith, common_steps)
messages_in-rotated Prim.Native.Nat.zero (s ∷ slots) message within first = cc
messages_in-rotated (suc count) (s ∷ slots) message within first = grind (arith, common_steps)

-- a queue is its first message before the queue of the rotated slots
pub queue_in_rotated : (ring : Buffer Content) (count size : ℕ) (message : List ℕ) →
    Some message ≡ slice_get (messages_in count ring.items) 0 → IsLaidOut ring count size →
    queue_in ring count size ≡
    with_first message (queue_in (buffer (rotated ring.items) ring.capacity) (count - 1) size)
queue_in_rotated ring count size message first laid =
    let within : count ≤ length ring.items = omega (arith, laid.filled, laid.slots) in
    let taken = messages_in-rotated count ring.items message within first in
    cc

-- a message written into the first slot without one comes last
pub queue_in_after_write : (ring : Buffer Content) (count size room : ℕ) (slot : Content) (message : List ℕ) →
    Some slot ≡ slice_get ring.items count →
    let slots = set ring.items count (content message room) in
    queue_in (buffer slots ring.capacity) (count + 1) size ≡ with_last (queue_in ring count size) message
queue_in_after_write ring count size room slot message there =
    let within : count < length ring.items = slice_get_within ring.items count slot (sym there) in
    let slots = set ring.items count (content message room) in
    let last : messages_in (count + 1) slots ≡ messages_in count ring.items ++ message ∷ [] =
    grind (arith, common_steps) in
    cc
