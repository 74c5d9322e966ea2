-- How a body is changed: each change is that of one kind, and leaves the bodies of all others.
use Rattle.std.specs.Prelude.{ℕ, List, length, drop, is_none, if◌then◌else◌}
use Rattle.gh_doorbell.specs.Bell.{BellWords}
use Rattle.gh_model.specs.declared.rows.BellRow.{BellRow}
use Rattle.gh_msgqueue.specs.Queue.{MessageQueue, empty_queue, send_refusal, with_last}
use Rattle.gh_parts.specs.declared.body.Body.{Body}
use Rattle.gh_parts.specs.declared.body.Body.TheVariants.{Bell, NewQueue, Queue}

-- the words in a bell's row
abbrev pub words_in : BellRow → BellWords
words_in row = record { flags = row.flags; enable = row.enable; ack = row.ack }

-- a bell gets the words of a row
abbrev pub belled : BellRow → Body → Body
belled row (Bell words) = Bell (words_in row)
belled row body = body

-- a queue gets its room, and is empty
abbrev pub roomed : MessageQueue → Body → Body
roomed room NewQueue = Queue room
roomed room (Queue queue) = Queue room
roomed room body = body

-- a configured queue is changed
abbrev pub on_queue : (MessageQueue → MessageQueue) → Body → Body
on_queue change (Queue queue) = Queue (change queue)
on_queue change body = body

-- a message goes behind the others of a queue that it fits
abbrev pub sent_to : List ℕ → MessageQueue → MessageQueue
sent_to message queue =
    if is_none (send_refusal queue (length message)) then with_last queue message else queue

-- a queue's first message goes
abbrev pub without_one : MessageQueue → MessageQueue
without_one queue = record queue { messages = drop 1 queue.messages }

-- a queue's messages go
abbrev pub without_any : MessageQueue → MessageQueue
without_any queue = empty_queue queue.depth queue.size
