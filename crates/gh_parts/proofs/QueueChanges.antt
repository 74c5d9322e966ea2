-- Each change of a queue's body goes together with one of its row.
use Rattle.std.proofs.Common.{◌∙◌, ℕ, List, refl, sym}
use Rattle.gh_invariant.specs.Premises.{MaySend}
use Rattle.gh_model.specs.Changes.{with_message, with_room, without_first, without_messages}
use Rattle.gh_model.specs.declared.state.State.{State}
use Rattle.gh_msgqueue.specs.Queue.{empty_queue}
use Rattle.gh_parts.specs.Bodies.{body_of}
use Rattle.gh_parts.specs.BodyChanges.{on_queue, roomed, sent_to, without_any, without_one}
use Rattle.gh_parts.specs.Stands.{Stands}
use Rattle.gh_parts.specs.declared.body.Body.{Body}
use Rattle.gh_parts.specs.declared.parts.Parts.{Parts}
use Rattle.gh_parts.proofs.BodyChangeLemmas.{flushed_shown, queue_bells, queue_kind, queue_memory, received_shown, roomed_bells}
use Rattle.gh_parts.proofs.BodyChangeLemmas.{roomed_kind, roomed_memory, roomed_shown}
use Rattle.gh_parts.proofs.StandsQueues.{ChangesQueue, sent_shown}

pub one_dropped : (serial : ℕ) (body : Body)
    → ChangesQueue serial (on_queue without_one) without_first body
one_dropped serial body = record {
  nothing = refl;
  shown = received_shown serial body;
  named = λ row. refl;
  kind = queue_kind without_one body;
  bells = queue_bells without_one serial body;
  memory = queue_memory without_one serial body;
}

pub all_dropped : (serial : ℕ) (body : Body)
    → ChangesQueue serial (on_queue without_any) without_messages body
all_dropped serial body = record {
  nothing = refl;
  shown = flushed_shown serial body;
  named = λ row. refl;
  kind = queue_kind without_any body;
  bells = queue_bells without_any serial body;
  memory = queue_memory without_any serial body;
}

pub room_given : (depth size serial : ℕ) (body : Body)
    → ChangesQueue serial (roomed (empty_queue depth size)) (with_room depth size) body
room_given depth size serial body = record {
  nothing = refl;
  shown = roomed_shown depth size serial body;
  named = λ row. refl;
  kind = roomed_kind (empty_queue depth size) body;
  bells = roomed_bells (empty_queue depth size) serial body;
  memory = roomed_memory (empty_queue depth size) serial body;
}

pub one_sent : (parts : Parts) (s : State) → Stands parts s → (serial : ℕ) (message : List ℕ)
    → MaySend s serial message
    → ChangesQueue serial (on_queue (sent_to message)) (with_message message)
    (body_of parts.table.headers parts.shares serial)
one_sent parts s stand serial message fits =
    let body : Body = body_of parts.table.headers parts.shares serial in
    record {
      nothing = refl;
      shown = sent_shown serial message body fits.row (sym (stand.queues serial) ∙ fits.found) fits.room fits.short;
      named = λ row. refl;
      kind = queue_kind (sent_to message) body;
      bells = queue_bells (sent_to message) serial body;
      memory = queue_memory (sent_to message) serial body;
    }
