-- Each change of a body is that of one kind's rows, and leaves what the other kinds show.
use Rattle.std.proofs.Common.{◌≡◌, ℕ, Option, Some, None, refl, option_map}
use Rattle.gh_base.specs.declared.kind.Kind.{Kind}
use Rattle.gh_base.specs.declared.kind.Kind.TheVariants as kind
use Rattle.gh_doorbell.specs.Bell.{BellWords}
use Rattle.gh_model.specs.Changes.{replaced, with_room, without_first, without_messages}
use Rattle.gh_model.specs.declared.rows.BellRow.{BellRow}
use Rattle.gh_model.specs.declared.rows.ObjectRow.{ObjectRow}
use Rattle.gh_msgqueue.specs.Queue.{MessageQueue, empty_queue}
use Rattle.gh_parts.specs.Bodies.{bell_in, fits_body, is_body_of, mappings_in, queue_in, space_in, span_in}
use Rattle.gh_parts.specs.BodyChanges.{belled, on_queue, roomed, without_any, without_one, words_in}
use Rattle.gh_parts.specs.declared.body.Body.{Body}
use Rattle.gh_parts.specs.declared.body.Body.TheVariants.{Bell, NewQueue, Queue}

-- what the kinds with memory show
pub record KeepsMemory (serial : ℕ) (new old : Body) : Type 0 where
  pub spans : span_in serial new ≡ span_in serial old
  pub mappings : mappings_in serial new ≡ mappings_in serial old
  pub spaces : space_in new ≡ space_in old

-- doorbells

pub belled_shown : (row : BellRow) (body : Body)
    → bell_in row.serial.0 (belled row body) ≡ option_map (replaced row) (bell_in row.serial.0 body)
belled_shown row (Bell words) = refl
belled_shown row _ = refl

pub belled_queues : (row : BellRow) (serial : ℕ) (body : Body)
    → queue_in serial (belled row body) ≡ queue_in serial body
belled_queues row serial (Bell words) = refl
belled_queues row serial _ = refl

pub belled_memory : (row : BellRow) (serial : ℕ) (body : Body)
    → KeepsMemory serial (belled row body) body
belled_memory row serial (Bell words) = record { spans = refl; mappings = refl; spaces = refl }
belled_memory row serial _ = record { spans = refl; mappings = refl; spaces = refl }

-- queues: a room
pub roomed_shown : (depth size serial : ℕ) (body : Body)
    → queue_in serial (roomed (empty_queue depth size) body)
    ≡ option_map (with_room depth size) (queue_in serial body)
roomed_shown depth size serial NewQueue = refl
roomed_shown depth size serial (Queue queue) = refl
roomed_shown depth size serial _ = refl

pub roomed_bells : (room : MessageQueue) (serial : ℕ) (body : Body)
    → bell_in serial (roomed room body) ≡ bell_in serial body
roomed_bells room serial NewQueue = refl
roomed_bells room serial (Queue queue) = refl
roomed_bells room serial _ = refl

pub roomed_memory : (room : MessageQueue) (serial : ℕ) (body : Body)
    → KeepsMemory serial (roomed room body) body
roomed_memory room serial NewQueue = record { spans = refl; mappings = refl; spaces = refl }
roomed_memory room serial (Queue queue) = record { spans = refl; mappings = refl; spaces = refl }
roomed_memory room serial _ = record { spans = refl; mappings = refl; spaces = refl }

-- a first message that goes
pub received_shown : (serial : ℕ) (body : Body)
    → queue_in serial (on_queue without_one body) ≡ option_map without_first (queue_in serial body)
received_shown serial NewQueue = refl
received_shown serial (Queue queue) = refl
received_shown serial _ = refl

-- all messages that go
pub flushed_shown : (serial : ℕ) (body : Body)
    → queue_in serial (on_queue without_any body) ≡ option_map without_messages (queue_in serial body)
flushed_shown serial NewQueue = refl
flushed_shown serial (Queue queue) = refl
flushed_shown serial _ = refl

-- a change of configured queues alone
pub queue_bells : (change : MessageQueue → MessageQueue) (serial : ℕ) (body : Body)
    → bell_in serial (on_queue change body) ≡ bell_in serial body
queue_bells change serial (Queue queue) = refl
queue_bells change serial _ = refl

pub queue_memory : (change : MessageQueue → MessageQueue) (serial : ℕ) (body : Body)
    → KeepsMemory serial (on_queue change body) body
queue_memory change serial (Queue queue) = record { spans = refl; mappings = refl; spaces = refl }
queue_memory change serial _ = record { spans = refl; mappings = refl; spaces = refl }

-- kinds stay

kind_same : (k : Kind) (old new : MessageQueue) → is_body_of k (Queue new) ≡ is_body_of k (Queue old)
kind_same kind.Partition old new = refl
kind_same kind.Cspace old new = refl
kind_same kind.Space old new = refl
kind_same kind.Extent old new = refl
kind_same kind.Bell old new = refl
kind_same kind.Queue old new = refl

kind_roomed : (k : Kind) (room : MessageQueue) → is_body_of k (Queue room) ≡ is_body_of k NewQueue
kind_roomed kind.Partition room = refl
kind_roomed kind.Cspace room = refl
kind_roomed kind.Space room = refl
kind_roomed kind.Extent room = refl
kind_roomed kind.Bell room = refl
kind_roomed kind.Queue room = refl

kind_belled : (k : Kind) (old new : BellWords) → is_body_of k (Bell new) ≡ is_body_of k (Bell old)
kind_belled kind.Partition old new = refl
kind_belled kind.Cspace old new = refl
kind_belled kind.Space old new = refl
kind_belled kind.Extent old new = refl
kind_belled kind.Bell old new = refl
kind_belled kind.Queue old new = refl

pub belled_kind : (row : BellRow) (body : Body) (found : Option ObjectRow)
    → fits_body (belled row body) found ≡ fits_body body found
belled_kind row body None = refl
belled_kind row (Bell words) (Some object) = kind_belled object.kind words (words_in row)
belled_kind row _ (Some object) = refl

pub roomed_kind : (room : MessageQueue) (body : Body) (found : Option ObjectRow)
    → fits_body (roomed room body) found ≡ fits_body body found
roomed_kind room body None = refl
roomed_kind room NewQueue (Some object) = kind_roomed object.kind room
roomed_kind room (Queue queue) (Some object) = kind_same object.kind queue room
roomed_kind room _ (Some object) = refl

pub queue_kind : (change : MessageQueue → MessageQueue) (body : Body) (found : Option ObjectRow)
    → fits_body (on_queue change body) found ≡ fits_body body found
queue_kind change body None = refl
queue_kind change (Queue queue) (Some object) = kind_same object.kind queue (change queue)
queue_kind change _ (Some object) = refl
