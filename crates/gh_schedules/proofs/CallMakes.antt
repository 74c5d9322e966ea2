-- Which calls make an object: a create makes one, of the next serial, with its master capability in
-- a free slot; what every other call comes to makes, retires and reclaims none.
use Rattle.std.proofs.Common.{◌≡◌, ◌⊎◌, inl, inr, ◌+◌, ◌%◌, ℕ, Bool, true, false, not, List, [], ◌∷◌, length, refl, IsTrue, Option, Some, None, if◌then◌else◌}
use Rattle.std.specs.Prelude.{◌&&◌, ◌||◌, ◌==◌, nat_lt, nat_le, min, count_by}
use Rattle.std.proofs.lemmas.Bool.{and_parts}
use Rattle.std.specs.List.{list_all, list_any}
use Rattle.gh_base.specs.Kind.{kind_numbered}
use Rattle.gh_base.specs.declared.access.Access.{Access}
use Rattle.gh_base.specs.declared.call.Call.{Call}
use Rattle.gh_base.specs.declared.call.Call.TheVariants as calls
use Rattle.gh_base.specs.declared.errno.Errno.{Errno}
use Rattle.gh_base.specs.declared.errno.Errno.TheVariants.{AddrInval, AddrOvfl, ArgInval, ArgSize, Busy, CapRevoked, Denied, InsufRights, Nomem, ObjConfig, ObjState, QueueFull, Retry}
use Rattle.gh_base.specs.declared.frame.Reply.{Reply}
use Rattle.gh_base.specs.declared.ids.PageNo.{PageNo}
use Rattle.gh_base.specs.declared.ids.Serial.{Serial}
use Rattle.gh_base.specs.declared.kind.Kind.{Kind}
use Rattle.gh_base.specs.declared.limits.TheConstants.{MESSAGE_BYTES}
use Rattle.gh_model.specs.BellCalls as bells
use Rattle.gh_model.specs.Boot.{access_fits, is_row_of, overlaps}
use Rattle.gh_model.specs.CapabilityCalls.{copied, copied_into, deleted, free_slot, is_finished, is_valid_of, revoked}
use Rattle.gh_model.specs.Decide.{decided, decision, is_at_end, stages_fit}
use Rattle.gh_model.specs.Decisions.{done, done_with, grant_at, is_init_stage}
use Rattle.gh_model.specs.Legal.{is_revoke}
use Rattle.gh_model.specs.ManagerCalls.{exit_changes}
use Rattle.gh_model.specs.MemoryCalls.{are_related, derived, donated, donated_to, holds_run, is_within_span, looked_up, mapped, meant_count, meant_offset, named_extent, named_space, page_of, unmapped, unmapped_row}
use Rattle.gh_model.specs.ObjectCalls.{activated, created, created_in, lacks_room, new_master, new_object, quota_given, room_cost, room_given}
use Rattle.gh_model.specs.QueueCalls as queues
use Rattle.gh_model.specs.Registers.{user_access}
use Rattle.gh_model.specs.Units.{free_units}
use Rattle.gh_model.specs.declared.change.Change.{Change}
use Rattle.gh_model.specs.declared.change.Change.TheVariants.{AddObject, PutCapability, PutMessage}
use Rattle.gh_model.specs.declared.change.Decision.{Decision}
use Rattle.gh_model.specs.declared.change.Decision.TheVariants.{Refuse, Unfinished, Make}
use Rattle.gh_model.specs.declared.rows.BellRow.{BellRow}
use Rattle.gh_model.specs.declared.rows.CapabilityRow.{CapabilityRow}
use Rattle.gh_model.specs.declared.rows.ExtentRow.{ExtentRow}
use Rattle.gh_model.specs.declared.rows.MappingRow.{MappingRow}
use Rattle.gh_model.specs.declared.rows.ObjectRow.{ObjectRow}
use Rattle.gh_model.specs.declared.rows.PartitionRow.{PartitionRow}
use Rattle.gh_model.specs.declared.state.State.{State}
use Rattle.gh_model.specs.declared.state_reads.QueueFill.{QueueFill}
use Rattle.gh_invariant.specs.Events.{made_by}
use Rattle.gh_invariant.proofs.SetsOne.{keeps_objects}
use Rattle.gh_events.specs.HolderEvents.{is_create}
use Rattle.gh_schedules.specs.Indices.{kind_made}

-- what the decision makes leaves the objects that live, by three changes at most
abbrev pub is_few : List Change → Bool
is_few changes = nat_le (length changes) 3

abbrev pub is_unfinished : Decision → Bool
is_unfinished (Refuse errno) = false
is_unfinished Unfinished = true
is_unfinished (Make changes reply) = false

-- and but for a revoke of all capabilities it doesn't wait for a part
pub record Keeps (waits : Bool) (decision : Decision) : Type 0 where
  pub keeps : ((not (is_unfinished decision) || waits) && (is_few (made_by decision) && list_all keeps_objects (made_by decision))) ≡ true

module _ (waits : Bool) (decision : Decision) (keep : Keeps waits decision) where
  parts : ((not (is_unfinished decision) || waits) ≡ true) × ((is_few (made_by decision) && list_all keeps_objects (made_by decision)) ≡ true)
  parts = and_parts (not (is_unfinished decision) || waits) (is_few (made_by decision) && list_all keeps_objects (made_by decision)) keep.keeps

  pub keeps_settled : (not (is_unfinished decision) || waits) ≡ true
  keeps_settled = parts.0

  pub keeps_few : is_few (made_by decision) ≡ true
  keeps_few = (and_parts (is_few (made_by decision)) (list_all keeps_objects (made_by decision)) parts.1).0

  pub keeps_all : IsTrue (list_all keeps_objects (made_by decision))
  keeps_all = (and_parts (is_few (made_by decision)) (list_all keeps_objects (made_by decision)) parts.1).1

module _ (s : State) (waits : Bool) where
  keeps_unless : (refused : Bool) (errno : Errno) (others : Decision) → Keeps waits others → Keeps waits (if refused then Refuse errno else others)
  keeps_unless true errno others sets = record { keeps = refl }
  keeps_unless false errno others sets = sets

  keeps_provided : (holds : Bool) (errno : Errno) (others : Decision) → Keeps waits others → Keeps waits (if holds then others else Refuse errno)
  keeps_provided true errno others sets = sets
  keeps_provided false errno others sets = record { keeps = refl }

  sent_keeps : (flags : ℕ) (row : Option BellRow) → Keeps waits (bells.sent flags row)
  sent_keeps flags None = record { keeps = refl }
  sent_keeps flags (Some row) = record { keeps = refl }

  received_keeps : (clear : ℕ) (row : Option BellRow) → Keeps waits (bells.received clear row)
  received_keeps clear None = record { keeps = refl }
  received_keeps clear (Some row) = record { keeps = refl }

  masked_keeps : (enable ack : ℕ) (row : Option BellRow) → Keeps waits (bells.masked enable ack row)
  masked_keeps enable ack None = record { keeps = refl }
  masked_keeps enable ack (Some row) = record { keeps = refl }

  rings_keep : (queue : Serial) (message : List ℕ) (linked : Bool) (reply : Reply) → Keeps waits (Make (PutMessage queue message ∷ queues.rings_if linked) reply)
  rings_keep queue message true reply = record { keeps = refl }
  rings_keep queue message false reply = record { keeps = refl }

  put_keeps : (queue : Serial) (message : List ℕ) (fill : Option QueueFill) → Keeps waits (queues.message_sent s queue message fill)
  put_keeps queue message None = record { keeps = refl }
  put_keeps queue message (Some fill) =
      keeps_unless (nat_lt fill.size (length message)) ArgSize _ (keeps_unless (nat_le fill.depth fill.count) QueueFull _
      (rings_keep queue message (queues.is_request_queue s queue) (done_with (queues.one_if (nat_lt (fill.count + 1) fill.depth)))))

  taken_keeps : (queue : Serial) (room : ℕ) (fill : Option QueueFill) (first : Option (List ℕ)) → Keeps waits (queues.message_received queue room fill first)
  taken_keeps queue room None first = record { keeps = refl }
  taken_keeps queue room (Some fill) None = record { keeps = refl }
  taken_keeps queue room (Some fill) (Some message) =
      keeps_unless (nat_lt (min room MESSAGE_BYTES) (length message)) ArgSize _ (record { keeps = refl })

  flushed_keeps : (queue : Serial) (fill : Option QueueFill) → Keeps waits (queues.flushed queue fill)
  flushed_keeps queue None = record { keeps = refl }
  flushed_keeps queue (Some fill) = record { keeps = refl }

  looked_keeps : (found : Option (PageNo × Access)) → Keeps waits (looked_up found)
  looked_keeps None = record { keeps = refl }
  looked_keeps (Some found) = record { keeps = refl }

  copied_into_keeps : (row : CapabilityRow) (cspace : Serial) (mask : ℕ) (slot : Option ℕ) → Keeps waits (copied_into row cspace mask slot)
  copied_into_keeps row cspace mask None = record { keeps = refl }
  copied_into_keeps row cspace mask (Some slot) = record { keeps = refl }

  copied_keeps : (cspace object : Serial) (mask : ℕ) (found : Option CapabilityRow) → Keeps waits (copied s cspace object mask found)
  copied_keeps cspace object mask None = record { keeps = refl }
  copied_keeps cspace object mask (Some row) =
      keeps_provided (is_valid_of object row) Retry _ (copied_into_keeps row cspace mask (free_slot s cspace.0))

  deleted_keeps : (found : Option CapabilityRow) → Keeps waits (deleted found)
  deleted_keeps None = record { keeps = refl }
  deleted_keeps (Some row) = record { keeps = refl }

  revoked_keeps : (found : Option CapabilityRow) → Keeps waits (revoked found)
  revoked_keeps None = record { keeps = refl }
  revoked_keeps (Some row) =
      keeps_unless (not row.valid) CapRevoked _ (keeps_unless row.master InsufRights _ (record { keeps = refl }))

  quota_keeps : (partition : Serial) (quota : ℕ) (row : Option PartitionRow) → Keeps waits (quota_given s partition quota row)
  quota_keeps partition quota None = record { keeps = refl }
  quota_keeps partition quota (Some row) = keeps_unless (nat_lt (free_units s row.parent.0) quota) Nomem _ (record { keeps = refl })

  room_keeps : (queue : Serial) (depth size : ℕ) (row : Option ObjectRow) → Keeps waits (room_given s queue depth size row)
  room_keeps queue depth size None = record { keeps = refl }
  room_keeps queue depth size (Some row) =
      keeps_unless (nat_lt (free_units s row.partition.0) (room_cost depth size)) Nomem _ (record { keeps = refl })

  activated_keeps : (object : Serial) (row : Option ObjectRow) → Keeps waits (activated object row)
  activated_keeps object None = record { keeps = refl }
  activated_keeps object (Some row) = keeps_unless (is_init_stage row.stage) ObjConfig _ (record { keeps = refl })

  mapped_keeps : (space extent : Serial) (base access flags offset size : ℕ) (row : Option ExtentRow)
      → Keeps waits (mapped s space extent base access flags offset size row)
  mapped_keeps space extent base access flags offset size None = record { keeps = refl }
  mapped_keeps space extent base access flags offset size (Some row) =
      keeps_unless (nat_lt 4096 (page_of base + meant_count row flags size)) AddrOvfl _
      (keeps_unless (nat_lt row.count (meant_offset flags offset + meant_count row flags size)) ArgSize _
      (keeps_unless (not (access_fits access row.access.0)) Denied _
      (keeps_unless (list_any (overlaps space.0 (page_of base) (meant_count row flags size)) s.mappings) Busy _
      (keeps_unless (nat_le 64 (count_by (is_row_of space.0) s.mappings)) Nomem _ (record { keeps = refl })))))

  unmapped_row_keeps : (row : Option MappingRow) → Keeps waits (unmapped_row row)
  unmapped_row_keeps None = record { keeps = refl }
  unmapped_row_keeps (Some row) = record { keeps = refl }

  unmapped_keeps : (space extent : Serial) (base flags offset size : ℕ) (row : Option ExtentRow)
      → Keeps waits (unmapped s space extent base flags offset size row)
  unmapped_keeps space extent base flags offset size None = record { keeps = refl }
  unmapped_keeps space extent base flags offset size (Some row) = unmapped_row_keeps _

  derived_keeps : (child parent : Serial) (offset size access : ℕ) (row : Option ExtentRow)
      → Keeps waits (derived s child parent offset size access row)
  derived_keeps child parent offset size access None = record { keeps = refl }
  derived_keeps child parent offset size access (Some row) =
      keeps_unless (nat_lt row.count (page_of offset + page_of size)) ArgSize _
      (keeps_unless (not (holds_run s.holders parent (row.first.0 + page_of offset) (page_of size)) || not (access_fits access row.access.0)) Denied _
      (record { keeps = refl }))

  donated_to_keeps : (relation offset count : ℕ) (giver : ExtentRow) (receiver : Option ExtentRow)
      → Keeps waits (donated_to s relation offset count giver receiver)
  donated_to_keeps relation offset count giver None = record { keeps = refl }
  donated_to_keeps relation offset count giver (Some receiver) =
      keeps_unless (not (are_related relation giver receiver)) ArgInval _
      (keeps_unless (not (is_within_span receiver (giver.first.0 + offset) count)) AddrInval _
      (keeps_unless (not (holds_run s.holders giver.serial (giver.first.0 + offset) count)) Denied _ (record { keeps = refl })))

  donated_keeps : (relation : ℕ) (receiver : Serial) (offset count : ℕ) (giver : Option ExtentRow)
      → Keeps waits (donated s relation receiver offset count giver)
  donated_keeps relation receiver offset count None = record { keeps = refl }
  donated_keeps relation receiver offset count (Some giver) = donated_to_keeps relation offset count giver _

  exited_keeps : (cpu : ℕ) (manager : Bool)
      → Keeps waits (Make (exit_changes (record { 0 = cpu }) manager) done)
  exited_keeps cpu true = record { keeps = refl }
  exited_keeps cpu false = record { keeps = refl }

revoke_all_keeps : (finished : Bool) (n : ℕ)
    → Keeps true (if finished then Make [] (done_with n) else Unfinished)
revoke_all_keeps true n = record { keeps = refl }
revoke_all_keeps false n = record { keeps = refl }

-- each call
decided_keeps : (s : State) (cpu : ℕ) (bytes : List ℕ) (grants : List Serial) (call : Call) → is_create call ≡ false → Keeps (is_revoke call) (decided s cpu call bytes grants)
decided_keeps s cpu bytes grants calls.Identify other = record { keeps = refl }
decided_keeps s cpu bytes grants calls.Exit other = exited_keeps s false cpu (cpu == 0)
decided_keeps s cpu bytes grants (calls.BellSend cap flags) other = sent_keeps s false flags _
decided_keeps s cpu bytes grants (calls.BellSetMask cap enable ack) other = masked_keeps s false enable ack _
decided_keeps s cpu bytes grants (calls.BellReceive cap clear) other = received_keeps s false clear _
decided_keeps s cpu bytes grants (calls.BellReset cap) other = record { keeps = refl }
decided_keeps s cpu bytes grants (calls.MsgqSend cap size buffer flags) other = put_keeps s false (grant_at grants 0) bytes _
decided_keeps s cpu bytes grants (calls.MsgqRecv cap buffer size) other = taken_keeps s false (grant_at grants 0) size _ _
decided_keeps s cpu bytes grants (calls.MsgqFlush cap) other = flushed_keeps s false (grant_at grants 0) _
decided_keeps s cpu bytes grants (calls.Map space extent base attributes flags offset size) other =
    mapped_keeps s false (named_space s cpu space grants) (named_extent space grants) base (user_access attributes) flags offset size _
decided_keeps s cpu bytes grants (calls.Unmap space extent base flags offset size) other =
    unmapped_keeps s false (named_space s cpu space grants) (named_extent space grants) base flags offset size _
decided_keeps s cpu bytes grants (calls.Donate options giver receiver offset size) other =
    donated_keeps s false (options % 256) (grant_at grants 1) (page_of offset) (page_of size) _
decided_keeps s cpu bytes grants (calls.Derive child parent offset size access) other =
    derived_keeps s false (grant_at grants 0) (grant_at grants 1) offset size access _
decided_keeps s cpu bytes grants (calls.AsLookup space address) other =
    keeps_provided s false (nat_lt (page_of address) 4096) AddrInval _ (looked_keeps s false _)
decided_keeps s cpu bytes grants (calls.Create partition cspace number) other =
    absurd (let never : ⊥ = cc in never)
decided_keeps s cpu bytes grants (calls.ConfigurePartition cap quota) other =
    keeps_unless s false (nat_lt 128 quota) ArgInval _ (quota_keeps s false (grant_at grants 0) quota _)
decided_keeps s cpu bytes grants (calls.ConfigureQueue cap depth size) other =
    keeps_unless s false (nat_lt 64 depth || nat_lt 1024 size) ArgInval _ (room_keeps s false (grant_at grants 0) depth size _)
decided_keeps s cpu bytes grants (calls.Activate cap) other = activated_keeps s false (grant_at grants 0) _
decided_keeps s cpu bytes grants (calls.CapCopy cspace source mask) other = copied_keeps s false (grant_at grants 0) (grant_at grants 1) mask _
decided_keeps s cpu bytes grants (calls.CapDelete cspace slot) other = deleted_keeps s false _
decided_keeps s cpu bytes grants (calls.CapRevoke cspace slot) other = revoked_keeps s false _
decided_keeps s cpu bytes grants (calls.CapsRevoke cap) other = revoke_all_keeps (is_finished s (grant_at grants 0)) _
decided_keeps s cpu bytes grants (calls.RmAct cap vm) other =
    keeps_unless s false (nat_lt (length bytes) 4) ArgSize _ (record { keeps = refl })
decided_keeps s cpu bytes grants (calls.RmPoll cap) other = record { keeps = refl }

-- the object that a create makes, and its capability
pub record MakesNew (s : State) (call : Call) (grants : List Serial) (changes : List Change) : Type 0 where
  pub kind : Kind
  pub numbered : kind_made call ≡ Some kind
  pub slot : ℕ
  pub is : changes
      ≡ AddObject (new_object s (grant_at grants 0) kind)
      ∷ PutCapability (new_master s (grant_at grants 1) slot kind) ∷ []

-- a decision makes such an object, by a create, or leaves the objects that live
abbrev pub Makes : State → Call → List Serial → Decision → Type 0
Makes s call grants decision =
    Keeps (is_revoke call) decision ⊎ ((is_create call ≡ true) × MakesNew s call grants (made_by decision))

module _ (s : State) (call : Call) (grants : List Serial) where
  makes_unless : (refused : Bool) (errno : Errno) (others : Decision) → Makes s call grants others
      → Makes s call grants (if refused then Refuse errno else others)
  makes_unless true errno others makes = inl (record { keeps = refl })
  makes_unless false errno others makes = makes

  creates_in : (k : Kind) (slot : Option ℕ) → is_create call ≡ true → kind_made call ≡ Some k
      → Makes s call grants (created_in s (grant_at grants 0) (grant_at grants 1) k slot)
  creates_in k None is numbered = inl (record { keeps = refl })
  creates_in k (Some slot) is numbered =
      makes_unless (lacks_room s (grant_at grants 0) k) Nomem _ (inr (is, record { kind = k; numbered = numbered; slot = slot; is = refl }))

  creates_by : (k : Option Kind) → is_create call ≡ true → kind_made call ≡ k
      → Makes s call grants (created s (grant_at grants 0) (grant_at grants 1) k)
  creates_by None is numbered = inl (record { keeps = refl })
  creates_by (Some k) is numbered = creates_in k (free_slot s (grant_at grants 1).0) is numbered

decided_makes : (s : State) (cpu : ℕ) (bytes : List ℕ) (grants : List Serial) (call : Call)
    → (creates : Bool) → is_create call ≡ creates → Makes s call grants (decided s cpu call bytes grants)
decided_makes s cpu bytes grants call false other = inl (decided_keeps s cpu bytes grants call other)
decided_makes s cpu bytes grants (calls.Create partition cspace number) true is =
    creates_by s (calls.Create partition cspace number) grants (kind_numbered number) refl refl
decided_makes s cpu bytes grants _ true is = absurd (let never : ⊥ = cc in never)

-- whatever refuses it before
pub decision_makes : (s : State) (moved : Bool) (cpu : ℕ) (call : Call) (bytes : List ℕ)
    (grants : List Serial) → Makes s call grants (decision moved s cpu call bytes grants)
decision_makes s moved cpu call bytes grants =
    makes_unless s call grants (is_at_end s call grants) CapRevoked _
    (makes_unless s call grants (not (stages_fit s call grants)) ObjState _
    (makes_unless s call grants moved Retry _ (decided_makes s cpu bytes grants call (is_create call) refl)))

-- a call that isn't a revoke of all capabilities doesn't wait for parts
settled_by : (s : State) (call : Call) (grants : List Serial) (decision : Decision) → is_revoke call ≡ false
    → Makes s call grants decision → is_unfinished decision ≡ false
settled_by s call grants decision other (inl keep) =
    either (is_unfinished decision) (is_revoke call) other (keeps_settled (is_revoke call) decision keep)
  where
    either : (a b : Bool) → b ≡ false → (not a || b) ≡ true → a ≡ false
    either true true is fits = absurd (let never : ⊥ = cc in never)
    either true false is fits = absurd (let never : ⊥ = cc in never)
    either false b is fits = refl
settled_by s call grants (Refuse errno) other (inr makes) = refl
settled_by s call grants (Make changes reply) other (inr makes) = refl
settled_by s call grants Unfinished other (inr makes) =
    let none : [] ≡ AddObject (new_object s (grant_at grants 0) makes.1.kind) ∷ PutCapability (new_master s (grant_at grants 1) makes.1.slot makes.1.kind) ∷ [] = makes.1.is in
    absurd (let never : ⊥ = cc in never)

pub decision_settled : (s : State) (moved : Bool) (cpu : ℕ) (call : Call) (bytes : List ℕ)
    (grants : List Serial) → is_revoke call ≡ false
    → is_unfinished (decision moved s cpu call bytes grants) ≡ false
decision_settled s moved cpu call bytes grants other =
    settled_by s call grants (decision moved s cpu call bytes grants) other (decision_makes s moved cpu call bytes grants)
