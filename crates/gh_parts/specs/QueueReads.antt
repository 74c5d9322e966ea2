-- What a queue's body tells of its row.
use Rattle.std.specs.Prelude.{ℕ, Bool, false, List, length, Option, Some, None, nat_lt, slice_get}
use Rattle.gh_model.specs.declared.state_reads.QueueFill.{QueueFill}
use Rattle.gh_parts.specs.declared.body.Body.{Body}
use Rattle.gh_parts.specs.declared.body.Body.TheVariants.{NewQueue, Queue}

-- how full the queue is; one that isn't configured has no room
abbrev pub fill_in : Body → Option QueueFill
fill_in NewQueue = Some (record { depth = 0; size = 0; count = 0 })
fill_in (Queue queue) =
    Some (record { depth = queue.depth; size = queue.size; count = length queue.messages })
fill_in body = None

-- its first message
abbrev pub first_in : Body → Option (List ℕ)
first_in (Queue queue) = slice_get queue.messages 0
first_in body = None

-- the body is that of a queue with a message
abbrev pub has_some : Body → Bool
has_some (Queue queue) = nat_lt 0 (length queue.messages)
has_some body = false
