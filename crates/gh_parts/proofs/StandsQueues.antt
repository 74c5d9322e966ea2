-- The parts stand for the rows once a queue is changed.
use Rattle.std.proofs.Common.{◌≡◌, ◌<◌, ◌≤◌, length, ℕ, List, Option, Some, refl, sym, ap, arith, ◌==◌, ◌∙◌}
use Rattle.std.specs.Option.{option_map, option_map_or}
use Rattle.std.proofs.lemmas.Bool.{le-ltb, lt-ltb}
use Rattle.gh_base.specs.declared.ids.Serial.{Serial}
use Rattle.gh_model.specs.Changes.{with_message}
use Rattle.gh_model.specs.Rows.{change_row, is_queue}
use Rattle.gh_model.specs.declared.rows.ObjectRow.{ObjectRow}
use Rattle.gh_model.specs.declared.rows.QueueRow.{QueueRow}
use Rattle.gh_model.specs.declared.state.State.{State}
use Rattle.gh_parts.specs.Bodies.{bell_in, body_of, fits_body, queue_in}
use Rattle.gh_parts.specs.BodyChanges.{on_queue, sent_to}
use Rattle.gh_parts.specs.Index.{index_of}
use Rattle.gh_parts.specs.Shares.{with_body}
use Rattle.gh_parts.specs.Stands.{StandsOwing}
use Rattle.gh_parts.specs.declared.body.Body.{Body}
use Rattle.gh_parts.specs.declared.body.Body.TheVariants.{Nothing, NewQueue, Queue}
use Rattle.gh_parts.specs.declared.parts.Parts.{Parts}
use Rattle.gh_parts.proofs.BodyChangeLemmas.{KeepsMemory}
use Rattle.gh_parts.proofs.BodyLemmas.{rows_changed}
use Rattle.gh_parts.proofs.StandsBells.{apart_serials}
use Rattle.gh_parts.proofs.StandsBodies.{bells_kept, kinds_kept, objects_kept, spaces_kept, spans_kept}

-- a change of a queue's body and one of its row that go together
pub record ChangesQueue (serial : ℕ) (change : Body → Body) (row_change : QueueRow → QueueRow)
    (body : Body) : Type 0 where
  pub nothing : change Nothing ≡ Nothing
  pub shown : queue_in serial (change body) ≡ option_map row_change (queue_in serial body)
  pub named : (row : QueueRow) → (row_change row).serial ≡ row.serial
  pub kind : (found : Option ObjectRow) → fits_body (change body) found ≡ fits_body body found
  pub bells : bell_in serial (change body) ≡ bell_in serial body
  pub memory : KeepsMemory serial (change body) body

module _ (owed : List Serial) (parts : Parts) (s : State) (stand : StandsOwing owed parts s)
    (queue : Serial) (change : Body → Body) (row_change : QueueRow → QueueRow)
    (changes : ChangesQueue queue.0 change row_change (body_of parts.table.headers parts.shares queue.0)) where
  pub queue_stands : StandsOwing owed
      (record parts {
        shares = with_body parts.shares (index_of parts.table.headers queue.0)
            (change (body_of parts.table.headers parts.shares queue.0));
      })
      (record s { queues = change_row (is_queue queue.0) row_change s.queues })
  queue_stands =
      let new : Body = change (body_of parts.table.headers parts.shares queue.0) in
      record {
        objects = objects_kept owed parts s stand queue.0 new;
        references = record { each = stand.references.each; bare = stand.references.bare };
        kinds = kinds_kept owed parts s stand queue.0 new changes.kind;
        bells = bells_kept owed parts s stand queue.0 new changes.bells;
        queues = rows_changed parts.table.headers parts.shares stand.objects.indexed stand.objects.whole queue.0 new
            is_queue queue_in s.queues row_change change changes.nothing refl
            (λ row is. ap (λ (serial : Serial). serial.0 == queue.0) (changes.named row) ∙ is)
            (λ other row apart is. apart_serials queue.0 other row.serial.0 apart is)
            changes.shown stand.queues;
        spans = spans_kept owed parts s stand queue.0 new changes.memory.spans;
        spaces = spaces_kept owed parts s stand queue.0 new changes.memory.mappings changes.memory.spaces;
        slots = stand.slots;
        units = stand.units;
        memory = stand.memory;
        blocks = stand.blocks;
        numbers = record {
          cpus = stand.numbers.cpus;
          links = stand.numbers.links;
          taken = stand.numbers.taken;
          entries = stand.numbers.entries;
          serials = stand.numbers.serials;
          handles = stand.numbers.handles;
          rings = stand.numbers.rings;
        };
      }

-- a message that fits goes behind the others
pub sent_shown : (serial : ℕ) (message : List ℕ) (body : Body) (row : QueueRow)
    → queue_in serial body ≡ Some row → length row.messages < row.depth → length message ≤ row.size
    → queue_in serial (on_queue (sent_to message) body)
    ≡ option_map (with_message message) (queue_in serial body)
sent_shown serial message (Queue queue) row is room short =
    let messages : length row.messages ≡ length queue.messages =
    ap (λ (o : Option QueueRow). option_map_or (λ (r : QueueRow). length r.messages) o 0) (sym is) in
    let depth : row.depth ≡ queue.depth =
    ap (λ (o : Option QueueRow). option_map_or (λ (r : QueueRow). r.depth) o 0) (sym is) in
    let size : row.size ≡ queue.size =
    ap (λ (o : Option QueueRow). option_map_or (λ (r : QueueRow). r.size) o 0) (sym is) in
    rw (le-ltb queue.size (length message) (omega (arith, size)), lt-ltb (length queue.messages) queue.depth (omega (arith, messages, depth))) refl
sent_shown serial message NewQueue row is room short =
    let messages : length row.messages ≡ 0 =
    ap (λ (o : Option QueueRow). option_map_or (λ (r : QueueRow). length r.messages) o 0) (sym is) in
    let depth : row.depth ≡ 0 =
    ap (λ (o : Option QueueRow). option_map_or (λ (r : QueueRow). r.depth) o 0) (sym is) in
    absurd (omega (arith, messages, depth))
sent_shown serial message _ row is room short = refl
