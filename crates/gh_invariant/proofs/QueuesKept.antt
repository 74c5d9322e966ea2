-- A change that may be made keeps each queue within its limits.
use Rattle.std.proofs.Common.{◌≡◌, ◌≤◌, ◌<◌, ◌∙◌, ℕ, true, List, [], ◌∷◌, length, drop, refl, subst, arith, IsTrue, Some, find, nat_le}
use Rattle.std.specs.List.{list_all}
use Rattle.std.proofs.lemmas.Bool.{and_from, and_parts, le-leb, leb-true}
use Rattle.std.proofs.lemmas.List.{length-append}
use Rattle.std.proofs.lemmas.List.Folds.{list_all-append}
use Rattle.gh_base.specs.declared.ids.Serial.{Serial}
use Rattle.gh_base.specs.declared.kind.Kind.{Kind}
use Rattle.gh_base.specs.declared.kind.Kind.TheVariants as kind
use Rattle.gh_base.specs.declared.limits.TheConstants.{MESSAGE_BYTES, QUEUE_DEPTH}
use Rattle.gh_model.specs.Changes.{changed, new_queues, with_message, with_room, without_first, without_messages}
use Rattle.gh_model.specs.Rows.{change_row, is_queue}
use Rattle.gh_model.specs.declared.change.Change.{Change}
use Rattle.gh_model.specs.declared.change.Change.TheVariants.{PutCapability, DropCapability, RevokeCapability, AddObject, SetStage, Retire, Reclaim, GiveQuota, AddExtent, MovePages, PutMapping, DropMapping, SetBell, ConfigureQueue, PutMessage, DropMessage, EmptyQueue, Exit, Ring, SetPages, AddPartition, AddRoot, SetRoom, FillSlot, AddCpu, AddLink}
use Rattle.gh_model.specs.declared.rows.QueueRow.{QueueRow}
use Rattle.gh_model.specs.declared.state.State.{State}
use Rattle.gh_invariant.specs.Lives.{is_short, queue_fits}
use Rattle.gh_invariant.specs.Premises.{MayChange, MaySend}
use Rattle.gh_invariant.specs.Valid.{IsValidTo}
use Rattle.gh_invariant.proofs.Counting.{all_push}
use Rattle.gh_invariant.proofs.ChangedRow.{all_change}
use Rattle.gh_invariant.proofs.RowsLeft.{all_without}
use Rattle.gh_invariant.proofs.RowsTested.{all_change_found}

-- the limits of a queue, by name
pub record QueueParts (row : QueueRow) : Type 0 where
  pub deep : row.depth ≤ QUEUE_DEPTH
  pub wide : row.size ≤ MESSAGE_BYTES
  pub few : length row.messages ≤ row.depth
  pub short : IsTrue (list_all (is_short row.size) row.messages)

pub queue_parts : (row : QueueRow) → IsTrue (queue_fits row) → QueueParts row
queue_parts row fits =
    let last : _ × (list_all (is_short row.size) row.messages ≡ true) = and_parts _ _ fits in
    let third : _ × (nat_le (length row.messages) row.depth ≡ true) = and_parts _ _ last.0 in
    let first : (nat_le row.depth QUEUE_DEPTH ≡ true) × (nat_le row.size MESSAGE_BYTES ≡ true) =
    and_parts _ _ third.0 in
    record {
      deep = leb-true row.depth QUEUE_DEPTH first.0;
      wide = leb-true row.size MESSAGE_BYTES first.1;
      few = leb-true (length row.messages) row.depth third.1;
      short = last.1;
    }

pub queue_from : (row : QueueRow) → QueueParts row → IsTrue (queue_fits row)
queue_from row parts =
    and_from _ _
    (and_from _ _
    (and_from _ _ (le-leb row.depth QUEUE_DEPTH parts.deep)
    (le-leb row.size MESSAGE_BYTES parts.wide))
    (le-leb (length row.messages) row.depth parts.few)) parts.short

-- a message more, where there is room for it
sent_fits : (row : QueueRow) (message : List ℕ) → length row.messages < row.depth
    → length message ≤ row.size → IsTrue (queue_fits row)
    → IsTrue (queue_fits (with_message message row))
sent_fits row message room short fits =
    let parts : QueueParts row = queue_parts row fits in
    queue_from (with_message message row) (record {
      deep = parts.deep;
      wide = parts.wide;
      few = omega (arith, length-append row.messages (message ∷ []), room);
      short = all_push (is_short row.size) row.messages message parts.short
          (le-leb (length message) row.size short);
    })

rest_short : (size : ℕ) (messages : List (List ℕ)) → IsTrue (list_all (is_short size) messages)
    → IsTrue (list_all (is_short size) (drop 1 messages))
rest_short size [] short = refl
rest_short size (message ∷ messages) short = (and_parts _ _ short).1

rest_few : (messages : List (List ℕ)) (depth : ℕ) → length messages ≤ depth
    → length (drop 1 messages) ≤ depth
rest_few [] depth few = omega arith
rest_few (message ∷ messages) depth few = omega arith

-- a message fewer
received_fits : (row : QueueRow) → IsTrue (queue_fits row) → IsTrue (queue_fits (without_first row))
received_fits row fits =
    let parts : QueueParts row = queue_parts row fits in
    queue_from (without_first row) (record {
      deep = parts.deep;
      wide = parts.wide;
      few = rest_few row.messages row.depth parts.few;
      short = rest_short row.size row.messages parts.short;
    })

-- no message
emptied_fits : (row : QueueRow) → IsTrue (queue_fits row)
    → IsTrue (queue_fits (without_messages row))
emptied_fits row fits =
    let parts : QueueParts row = queue_parts row fits in
    queue_from (without_messages row)
    (record { deep = parts.deep; wide = parts.wide; few = omega arith; short = refl })

-- a new queue has no room
new_fits : (k : Kind) (serial : Serial) → IsTrue (list_all queue_fits (new_queues k serial))
new_fits kind.Queue serial = refl
new_fits kind.Partition serial = refl
new_fits kind.Cspace serial = refl
new_fits kind.Space serial = refl
new_fits kind.Extent serial = refl
new_fits kind.Bell serial = refl

send_keeps : (s : State) (queue : ℕ) (message : List ℕ) → IsTrue (list_all queue_fits s.queues)
    → MaySend s queue message → (row : QueueRow) → find (is_queue queue) s.queues ≡ Some row
    → IsTrue (queue_fits row) → IsTrue (queue_fits (with_message message row))
send_keeps s queue message fit may row is fits =
    let same : may.row ≡ row =
    (let found : find (is_queue queue) s.queues ≡ Some may.row = may.found in cc) in
    sent_fits row message
    (subst (λ (one : QueueRow). length one.messages < one.depth) same may.room)
    (subst (λ (one : QueueRow). length message ≤ one.size) same may.short) fits

room_keeps : (s : State) (queue depth size : ℕ) → IsTrue (list_all queue_fits s.queues)
    → depth ≤ QUEUE_DEPTH → size ≤ MESSAGE_BYTES
    → IsTrue (list_all queue_fits (change_row (is_queue queue) (with_room depth size) s.queues))
room_keeps s queue depth size fit deep wide =
    all_change queue_fits (is_queue queue) (with_room depth size) s.queues
    (λ row is fits.
    queue_from (with_room depth size row)
    (record { deep = deep; wide = wide; few = omega arith; short = refl })) fit

pub queues_kept : (last : ℕ) (s : State) (change : Change) → IsValidTo last s → MayChange s change
    → IsTrue (list_all queue_fits (changed s change).queues)
queues_kept last s (PutCapability row) valid may = valid.queues
queues_kept last s (DropCapability cspace slot) valid may = valid.queues
queues_kept last s (RevokeCapability cspace slot) valid may = valid.queues
queues_kept last s (AddObject row) valid may =
    list_all-append queue_fits s.queues (new_queues row.kind row.serial)
    ∙ and_from _ _ valid.queues (new_fits row.kind row.serial)
queues_kept last s (SetStage object stage) valid may = valid.queues
queues_kept last s (Retire object seen) valid may = valid.queues
queues_kept last s (Reclaim object) valid may =
    all_without queue_fits (is_queue object.0) s.queues valid.queues
queues_kept last s (GiveQuota partition quota) valid may = valid.queues
queues_kept last s (AddExtent row) valid may = valid.queues
queues_kept last s (MovePages first count holder) valid may = valid.queues
queues_kept last s (PutMapping row) valid may = valid.queues
queues_kept last s (DropMapping row) valid may = valid.queues
queues_kept last s (SetBell row) valid may = valid.queues
queues_kept last s (ConfigureQueue queue depth size cost) valid may =
    room_keeps s queue.0 depth size valid.queues may.deep may.wide
queues_kept last s (PutMessage queue message) valid may =
    all_change_found queue_fits (is_queue queue.0) (with_message message) s.queues
    (send_keeps s queue.0 message valid.queues may) valid.queues
queues_kept last s (DropMessage queue) valid may =
    all_change queue_fits (is_queue queue.0) without_first s.queues
    (λ row is fits. received_fits row fits) valid.queues
queues_kept last s (EmptyQueue queue) valid may =
    all_change queue_fits (is_queue queue.0) without_messages s.queues
    (λ row is fits. emptied_fits row fits) valid.queues
queues_kept last s (Exit cpu) valid may = valid.queues
queues_kept last s Ring valid may = valid.queues
queues_kept last s (SetPages count) valid may = valid.queues
queues_kept last s (AddPartition quota) valid may = valid.queues
queues_kept last s (AddRoot row) valid may = valid.queues
queues_kept last s (SetRoom queue depth size) valid may =
    room_keeps s queue.0 depth size valid.queues may.deep may.wide
queues_kept last s (FillSlot row) valid may = valid.queues
queues_kept last s (AddCpu row) valid may = valid.queues
queues_kept last s (AddLink row) valid may = valid.queues
