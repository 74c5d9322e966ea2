-- What each call's changes are, as far as objects and capabilities are counted: a create makes an
-- object and its master capability, a copy puts a capability, and the others do neither.
use Rattle.std.proofs.Common.{◌≡◌, ◌+◌, ◌%◌, ℕ, Bool, true, false, not, List, [], ◌∷◌, length, refl, IsTrue, Option, Some, None, if◌then◌else◌}
use Rattle.std.specs.Prelude.{◌||◌, ◌==◌, nat_lt, nat_le, min, count_by, ⊤}
use Rattle.std.specs.List.{list_all, list_any}
use Rattle.gh_base.specs.Kind.{kind_numbered}
use Rattle.gh_base.specs.declared.access.Access.{Access}
use Rattle.gh_base.specs.declared.call.Call.{Call}
use Rattle.gh_base.specs.declared.call.Call.TheVariants as calls
use Rattle.gh_base.specs.declared.errno.Errno.{Errno}
use Rattle.gh_base.specs.declared.errno.Errno.TheVariants.{AddrInval, AddrOvfl, ArgInval, ArgSize, Busy, CapRevoked, Denied, InsufRights, Nomem, ObjConfig, ObjState, QueueFull, Retry}
use Rattle.gh_base.specs.declared.ids.PageNo.{PageNo}
use Rattle.gh_base.specs.declared.ids.Serial.{Serial}
use Rattle.gh_base.specs.declared.kind.Kind.{Kind}
use Rattle.gh_base.specs.declared.limits.TheConstants.{MESSAGE_BYTES}
use Rattle.gh_model.specs.BellCalls as bells
use Rattle.gh_model.specs.Boot.{access_fits, is_row_of, overlaps}
use Rattle.gh_model.specs.CapabilityCalls.{copied, copied_into, copy_of, deleted, free_slot, is_finished, is_valid_of, revoked}
use Rattle.gh_model.specs.Decide.{decided, decision, is_at_end, stages_fit}
use Rattle.gh_model.specs.Decisions.{done, done_with, grant_at, is_init_stage}
use Rattle.gh_model.specs.ManagerCalls.{exit_changes}
use Rattle.gh_model.specs.MemoryCalls.{are_related, derived, donated, donated_to, holds_run, is_within_span, looked_up, mapped, meant_count, meant_offset, named_extent, named_space, page_of, unmapped, unmapped_row}
use Rattle.gh_model.specs.ObjectCalls.{activated, created, created_in, lacks_room, new_master, new_object, quota_given, room_cost, room_given}
use Rattle.gh_model.specs.QueueCalls as queues
use Rattle.gh_model.specs.Registers.{user_access}
use Rattle.gh_model.specs.Units.{free_units}
use Rattle.gh_model.specs.declared.change.Change.{Change}
use Rattle.gh_model.specs.declared.change.Change.TheVariants.{AddObject, AddPartition, FillSlot, PutCapability, PutMessage, Reclaim, Retire}
use Rattle.gh_model.specs.declared.change.Decision.{Decision}
use Rattle.gh_model.specs.declared.change.Decision.TheVariants.{Refuse, Unfinished, Make}
use Rattle.gh_model.specs.declared.rows.BellRow.{BellRow}
use Rattle.gh_model.specs.declared.rows.CapabilityRow.{CapabilityRow}
use Rattle.gh_model.specs.declared.rows.ExtentRow.{ExtentRow}
use Rattle.gh_model.specs.declared.rows.MappingRow.{MappingRow}
use Rattle.gh_model.specs.declared.rows.ObjectRow.{ObjectRow}
use Rattle.gh_model.specs.declared.rows.PartitionRow.{PartitionRow}
use Rattle.gh_model.specs.declared.state.State.{State}
use Rattle.gh_model.specs.declared.state_reads.QueueFill.{QueueFill}

-- the change makes, retires and reclaims no object and puts no capability
abbrev pub spares : Change → Bool
spares (AddObject row) = false
spares (AddPartition quota) = false
spares (Retire object seen) = false
spares (Reclaim object) = false
spares (PutCapability row) = false
spares (FillSlot row) = false
spares _ = true

-- the changes make one object, which isn't retired, and put its master capability
pub record MakesMaster (changes : List Change) : Type 0 where
  pub row : ObjectRow
  pub cap : CapabilityRow
  pub is : changes ≡ AddObject row ∷ PutCapability cap ∷ []
  pub unretired : row.retired ≡ None
  pub master : cap.master ≡ true

-- they put one capability
pub record PutsOne (changes : List Change) : Type 0 where
  pub cap : CapabilityRow
  pub is : changes ≡ PutCapability cap ∷ []

abbrev pub Effect : Call → List Change → Type 0
Effect (calls.Create partition cspace number) changes = MakesMaster changes
Effect (calls.CapCopy cspace source mask) changes = PutsOne changes
Effect _ changes = IsTrue (list_all spares changes)

-- a decision that isn't a refusal makes such changes
abbrev pub Does : (List Change → Type 0) → Decision → Type 0
Does P (Refuse errno) = ⊤
Does P Unfinished = ⊤
Does P (Make changes reply) = P changes

abbrev AllSpare : List Change → Type 0
AllSpare changes = IsTrue (list_all spares changes)

abbrev Spares : Decision → Type 0
Spares decision = Does AllSpare decision

module _ (P : List Change → Type 0) where
  unless : (refused : Bool) (errno : Errno) (others : Decision) → Does P others
      → Does P (if refused then Refuse errno else others)
  unless true errno others does = tt
  unless false errno others does = does

  provided : (holds : Bool) (errno : Errno) (others : Decision) → Does P others
      → Does P (if holds then others else Refuse errno)
  provided true errno others does = does
  provided false errno others does = tt

-- doorbells and queues

sent_spare : (flags : ℕ) (row : Option BellRow) → Spares (bells.sent flags row)
sent_spare flags None = refl
sent_spare flags (Some row) = refl

received_spare : (clear : ℕ) (row : Option BellRow) → Spares (bells.received clear row)
received_spare clear None = refl
received_spare clear (Some row) = refl

masked_spare : (enable ack : ℕ) (row : Option BellRow) → Spares (bells.masked enable ack row)
masked_spare enable ack None = refl
masked_spare enable ack (Some row) = refl

rings_spare : (queue : Serial) (message : List ℕ) (linked : Bool) (x1 : ℕ)
    → Spares (Make (PutMessage queue message ∷ queues.rings_if linked) (done_with x1))
rings_spare queue message true x1 = refl
rings_spare queue message false x1 = refl

put_spare : (s : State) (queue : Serial) (message : List ℕ) (fill : Option QueueFill)
    → Spares (queues.message_sent s queue message fill)
put_spare s queue message None = tt
put_spare s queue message (Some fill) =
    unless AllSpare (nat_lt fill.size (length message)) ArgSize _
    (unless AllSpare (nat_le fill.depth fill.count) QueueFull _
    (rings_spare queue message (queues.is_request_queue s queue) (queues.one_if (nat_lt (fill.count + 1) fill.depth))))

taken_spare : (queue : Serial) (room : ℕ) (fill : Option QueueFill) (first : Option (List ℕ))
    → Spares (queues.message_received queue room fill first)
taken_spare queue room None first = tt
taken_spare queue room (Some fill) None = tt
taken_spare queue room (Some fill) (Some message) =
    unless AllSpare (nat_lt (min room MESSAGE_BYTES) (length message)) ArgSize _ refl

flushed_spare : (queue : Serial) (fill : Option QueueFill) → Spares (queues.flushed queue fill)
flushed_spare queue None = refl
flushed_spare queue (Some fill) = refl

exited_spare : (cpu : ℕ) (manager : Bool)
    → Spares (Make (exit_changes (record { 0 = cpu }) manager) done)
exited_spare cpu true = refl
exited_spare cpu false = refl

-- memory

looked_spare : (found : Option (PageNo × Access)) → Spares (looked_up found)
looked_spare None = tt
looked_spare (Some found) = refl

mapped_spare : (s : State) (space extent : Serial) (base access flags offset size : ℕ)
    (row : Option ExtentRow) → Spares (mapped s space extent base access flags offset size row)
mapped_spare s space extent base access flags offset size None = tt
mapped_spare s space extent base access flags offset size (Some row) =
    unless AllSpare (nat_lt 4096 (page_of base + meant_count row flags size)) AddrOvfl _
    (unless AllSpare (nat_lt row.count (meant_offset flags offset + meant_count row flags size)) ArgSize _
    (unless AllSpare (not (access_fits access row.access.0)) Denied _
    (unless AllSpare (list_any (overlaps space.0 (page_of base) (meant_count row flags size)) s.mappings) Busy _
    (unless AllSpare (nat_le 64 (count_by (is_row_of space.0) s.mappings)) Nomem _ refl))))

unmapped_row_spare : (row : Option MappingRow) → Spares (unmapped_row row)
unmapped_row_spare None = tt
unmapped_row_spare (Some row) = refl

unmapped_spare : (s : State) (space extent : Serial) (base flags offset size : ℕ)
    (row : Option ExtentRow) → Spares (unmapped s space extent base flags offset size row)
unmapped_spare s space extent base flags offset size None = tt
unmapped_spare s space extent base flags offset size (Some row) = unmapped_row_spare _

derived_spare : (s : State) (child parent : Serial) (offset size access : ℕ)
    (row : Option ExtentRow) → Spares (derived s child parent offset size access row)
derived_spare s child parent offset size access None = tt
derived_spare s child parent offset size access (Some row) =
    unless AllSpare (nat_lt row.count (page_of offset + page_of size)) ArgSize _
    (unless AllSpare (not (holds_run s.holders parent (row.first.0 + page_of offset) (page_of size)) || not (access_fits access row.access.0)) Denied _ refl)

donated_to_spare : (s : State) (relation offset count : ℕ) (giver : ExtentRow)
    (receiver : Option ExtentRow) → Spares (donated_to s relation offset count giver receiver)
donated_to_spare s relation offset count giver None = tt
donated_to_spare s relation offset count giver (Some receiver) =
    unless AllSpare (not (are_related relation giver receiver)) ArgInval _
    (unless AllSpare (not (is_within_span receiver (giver.first.0 + offset) count)) AddrInval _
    (unless AllSpare (not (holds_run s.holders giver.serial (giver.first.0 + offset) count)) Denied _ refl))

donated_spare : (s : State) (relation : ℕ) (receiver : Serial) (offset count : ℕ)
    (giver : Option ExtentRow) → Spares (donated s relation receiver offset count giver)
donated_spare s relation receiver offset count None = tt
donated_spare s relation receiver offset count (Some giver) =
    donated_to_spare s relation offset count giver _

-- objects

quota_spare : (s : State) (partition : Serial) (quota : ℕ) (row : Option PartitionRow)
    → Spares (quota_given s partition quota row)
quota_spare s partition quota None = tt
quota_spare s partition quota (Some row) =
    unless AllSpare (nat_lt (free_units s row.parent.0) quota) Nomem _ refl

room_spare : (s : State) (queue : Serial) (depth size : ℕ) (row : Option ObjectRow)
    → Spares (room_given s queue depth size row)
room_spare s queue depth size None = tt
room_spare s queue depth size (Some row) =
    unless AllSpare (nat_lt (free_units s row.partition.0) (room_cost depth size)) Nomem _ refl

activated_spare : (object : Serial) (row : Option ObjectRow) → Spares (activated object row)
activated_spare object None = tt
activated_spare object (Some row) = unless AllSpare (is_init_stage row.stage) ObjConfig _ refl

created_in_makes : (s : State) (partition cspace : Serial) (k : Kind) (slot : Option ℕ)
    → Does MakesMaster (created_in s partition cspace k slot)
created_in_makes s partition cspace k None = tt
created_in_makes s partition cspace k (Some slot) = unless MakesMaster (lacks_room s partition k) Nomem _ (record {
  row = new_object s partition k;
  cap = new_master s cspace slot k;
  is = refl;
  unretired = refl;
  master = refl;
})

created_makes : (s : State) (partition cspace : Serial) (k : Option Kind)
    → Does MakesMaster (created s partition cspace k)
created_makes s partition cspace None = tt
created_makes s partition cspace (Some k) =
    created_in_makes s partition cspace k (free_slot s cspace.0)

-- capabilities

deleted_spare : (found : Option CapabilityRow) → Spares (deleted found)
deleted_spare None = tt
deleted_spare (Some row) = refl

revoked_spare : (found : Option CapabilityRow) → Spares (revoked found)
revoked_spare None = tt
revoked_spare (Some row) =
    unless AllSpare (not row.valid) CapRevoked _ (unless AllSpare row.master InsufRights _ refl)

revoke_all_spares : (finished : Bool) (n : ℕ)
    → Spares (if finished then Make [] (done_with n) else Unfinished)
revoke_all_spares true n = refl
revoke_all_spares false n = tt

copied_into_puts : (row : CapabilityRow) (cspace : Serial) (mask : ℕ) (slot : Option ℕ)
    → Does PutsOne (copied_into row cspace mask slot)
copied_into_puts row cspace mask None = tt
copied_into_puts row cspace mask (Some slot) =
    record { cap = copy_of row cspace slot mask; is = refl }

copied_puts : (s : State) (cspace object : Serial) (mask : ℕ) (found : Option CapabilityRow)
    → Does PutsOne (copied s cspace object mask found)
copied_puts s cspace object mask None = tt
copied_puts s cspace object mask (Some row) =
    provided PutsOne (is_valid_of object row) Retry _ (copied_into_puts row cspace mask (free_slot s cspace.0))

-- each call
decided_does : (s : State) (cpu : ℕ) (bytes : List ℕ) (grants : List Serial) (call : Call)
    → Does (Effect call) (decided s cpu call bytes grants)
decided_does s cpu bytes grants calls.Identify = refl
decided_does s cpu bytes grants calls.Exit = exited_spare cpu (cpu == 0)
decided_does s cpu bytes grants (calls.BellSend cap flags) = sent_spare flags _
decided_does s cpu bytes grants (calls.BellSetMask cap enable ack) = masked_spare enable ack _
decided_does s cpu bytes grants (calls.BellReceive cap clear) = received_spare clear _
decided_does s cpu bytes grants (calls.BellReset cap) = refl
decided_does s cpu bytes grants (calls.MsgqSend cap size buffer flags) =
    put_spare s (grant_at grants 0) bytes _
decided_does s cpu bytes grants (calls.MsgqRecv cap buffer size) =
    taken_spare (grant_at grants 0) size _ _
decided_does s cpu bytes grants (calls.MsgqFlush cap) = flushed_spare (grant_at grants 0) _
decided_does s cpu bytes grants (calls.Map space extent base attributes flags offset size) =
    mapped_spare s (named_space s cpu space grants) (named_extent space grants) base
    (user_access attributes) flags offset size _
decided_does s cpu bytes grants (calls.Unmap space extent base flags offset size) =
    unmapped_spare s (named_space s cpu space grants) (named_extent space grants) base flags offset
    size _
decided_does s cpu bytes grants (calls.Donate options giver receiver offset size) =
    donated_spare s (options % 256) (grant_at grants 1) (page_of offset) (page_of size) _
decided_does s cpu bytes grants (calls.Derive child parent offset size access) =
    derived_spare s (grant_at grants 0) (grant_at grants 1) offset size access _
decided_does s cpu bytes grants (calls.AsLookup space address) =
    provided AllSpare (nat_lt (page_of address) 4096) AddrInval _ (looked_spare _)
decided_does s cpu bytes grants (calls.Create partition cspace number) =
    created_makes s (grant_at grants 0) (grant_at grants 1) (kind_numbered number)
decided_does s cpu bytes grants (calls.ConfigurePartition cap quota) =
    unless AllSpare (nat_lt 128 quota) ArgInval _ (quota_spare s (grant_at grants 0) quota _)
decided_does s cpu bytes grants (calls.ConfigureQueue cap depth size) =
    unless AllSpare (nat_lt 64 depth || nat_lt 1024 size) ArgInval _ (room_spare s (grant_at grants 0) depth size _)
decided_does s cpu bytes grants (calls.Activate cap) = activated_spare (grant_at grants 0) _
decided_does s cpu bytes grants (calls.CapCopy cspace source mask) =
    copied_puts s (grant_at grants 0) (grant_at grants 1) mask _
decided_does s cpu bytes grants (calls.CapDelete cspace slot) = deleted_spare _
decided_does s cpu bytes grants (calls.CapRevoke cspace slot) = revoked_spare _
decided_does s cpu bytes grants (calls.CapsRevoke cap) =
    revoke_all_spares (is_finished s (grant_at grants 0)) _
decided_does s cpu bytes grants (calls.RmAct cap vm) =
    unless AllSpare (nat_lt (length bytes) 4) ArgSize _ refl
decided_does s cpu bytes grants (calls.RmPoll cap) = refl

-- whatever refuses it before
pub decision_does : (s : State) (moved : Bool) (cpu : ℕ) (call : Call) (bytes : List ℕ)
    (grants : List Serial) → Does (Effect call) (decision moved s cpu call bytes grants)
decision_does s moved cpu call bytes grants =
    unless (Effect call) (is_at_end s call grants) CapRevoked _
    (unless (Effect call) (not (stages_fit s call grants)) ObjState _
    (unless (Effect call) moved Retry _ (decided_does s cpu bytes grants call)))
