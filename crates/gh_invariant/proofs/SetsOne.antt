-- What a call comes to sets one slot at most, makes one object at most, whose capability goes to the
-- space that the call's second look granted, and lets no other CPU exit.
use Rattle.std.proofs.Common.{◌≡◌, ◌⊎◌, inl, inr, ◌+◌, ◌%◌, ℕ, Bool, true, false, not, List, [], ◌∷◌, length, refl, IsTrue, Option, Some, None, if◌then◌else◌}
use Rattle.std.specs.Prelude.{◌&&◌, ◌||◌, ◌==◌, nat_lt, nat_le, min, count_by}
use Rattle.std.specs.List.{list_all, list_any}
use Rattle.gh_base.specs.Kind.{kind_numbered}
use Rattle.gh_base.specs.declared.access.Access.{Access}
use Rattle.gh_base.specs.declared.call.Call.{Call}
use Rattle.gh_base.specs.declared.call.Call.TheVariants as calls
use Rattle.gh_base.specs.declared.errno.Errno.{Errno}
use Rattle.gh_base.specs.declared.errno.Errno.TheVariants.{AddrInval, AddrOvfl, ArgInval, ArgSize, Busy, CapRevoked, Denied, InsufRights, Nomem, ObjConfig, ObjState, QueueFull, Retry}
use Rattle.gh_base.specs.declared.frame.Reply.{Reply}
use Rattle.gh_base.specs.declared.ids.PageNo.{PageNo}
use Rattle.gh_base.specs.declared.ids.Serial.{Serial}
use Rattle.gh_base.specs.declared.kind.Kind.{Kind}
use Rattle.gh_base.specs.declared.limits.TheConstants.{MESSAGE_BYTES}
use Rattle.gh_model.specs.BellCalls as bells
use Rattle.gh_model.specs.Boot.{access_fits, is_row_of, overlaps}
use Rattle.gh_model.specs.CapabilityCalls.{copied, copied_into, deleted, free_slot, is_finished, is_valid_of, revoked}
use Rattle.gh_model.specs.Decide.{decided, decision, is_at_end, stages_fit}
use Rattle.gh_model.specs.Decisions.{done, done_with, grant_at, is_init_stage}
use Rattle.gh_model.specs.ManagerCalls.{exit_changes}
use Rattle.gh_model.specs.MemoryCalls.{are_related, derived, donated, donated_to, holds_run, is_within_span, looked_up, mapped, meant_count, meant_offset, named_extent, named_space, page_of, unmapped, unmapped_row}
use Rattle.gh_model.specs.ObjectCalls.{activated, created, created_in, lacks_room, new_master, new_object, quota_given, room_cost, room_given}
use Rattle.gh_model.specs.QueueCalls as queues
use Rattle.gh_model.specs.Registers.{user_access}
use Rattle.gh_model.specs.Units.{free_units}
use Rattle.gh_model.specs.declared.change.Change.{Change}
use Rattle.gh_model.specs.declared.change.Change.TheVariants.{AddCpu, AddLink, AddObject, AddPartition, AddRoot, Exit, FillSlot, PutCapability, PutMessage, Reclaim, Retire, SetPages, SetRoom}
use Rattle.gh_model.specs.declared.change.Decision.{Decision}
use Rattle.gh_model.specs.declared.change.Decision.TheVariants.{Refuse, Unfinished, Make}
use Rattle.gh_model.specs.declared.rows.BellRow.{BellRow}
use Rattle.gh_model.specs.declared.rows.CapabilityRow.{CapabilityRow}
use Rattle.gh_model.specs.declared.rows.ExtentRow.{ExtentRow}
use Rattle.gh_model.specs.declared.rows.MappingRow.{MappingRow}
use Rattle.gh_model.specs.declared.rows.ObjectRow.{ObjectRow}
use Rattle.gh_model.specs.declared.rows.PartitionRow.{PartitionRow}
use Rattle.gh_model.specs.declared.state.State.{State}
use Rattle.gh_model.specs.declared.state_reads.QueueFill.{QueueFill}
use Rattle.gh_invariant.specs.Events.{made_by}
use Rattle.gh_invariant.specs.Effects.{sets_last}
use Rattle.gh_invariant.proofs.MayMake.{itself}

-- the change makes no object, and retires and reclaims none
abbrev pub keeps_objects : Change → Bool
keeps_objects (AddObject row) = false
keeps_objects (AddPartition quota) = false
keeps_objects (Retire object seen) = false
keeps_objects (Reclaim object) = false
keeps_objects _ = true

-- the changes make one object, of the next serial and not retired, and fill a slot of this
-- capability space
pub record MakesOne (s : State) (home : ℕ) (changes : List Change) : Type 0 where
  pub row : ObjectRow
  pub cap : CapabilityRow
  pub is : changes ≡ AddObject row ∷ PutCapability cap ∷ []
  pub serial : row.serial.0 ≡ s.next_serial
  pub unretired : row.retired ≡ None
  pub there : cap.cspace.0 ≡ home

-- the change adds no CPU, and is no exit but, of a call that may exit, that of its own CPU
abbrev pub exit_fits : ℕ → Bool → Change → Bool
exit_fits cpu may (Exit other) = may && (other.0 == cpu)
exit_fits cpu may (AddCpu row) = false
exit_fits cpu may _ = true

-- the change isn't one that boot lines alone make
abbrev pub is_of_calls : Change → Bool
is_of_calls (SetPages count) = false
is_of_calls (AddPartition quota) = false
is_of_calls (AddRoot row) = false
is_of_calls (SetRoom queue depth size) = false
is_of_calls (FillSlot row) = false
is_of_calls (AddCpu row) = false
is_of_calls (AddLink row) = false
is_of_calls _ = true

abbrev pub may_exit : Call → Bool
may_exit calls.Exit = true
may_exit _ = false

-- the changes of the decision set one slot at most, by the last of them, and make one object, whose
-- capability goes to this space, or none; they retire and reclaim none, let no other CPU exit, and
-- are none of boot lines alone
pub record SetsOne (s : State) (cpu : ℕ) (may : Bool) (home : ℕ) (decision : Decision) : Type 0 where
  pub last : IsTrue (sets_last (made_by decision))
  pub makes : IsTrue (list_all keeps_objects (made_by decision)) ⊎ MakesOne s home (made_by decision)
  pub exits : IsTrue (list_all (exit_fits cpu may) (made_by decision))
  pub calls : IsTrue (list_all is_of_calls (made_by decision))

module _ (s : State) (cpu : ℕ) (may : Bool) (home : ℕ) where
  sets_unless : (refused : Bool) (errno : Errno) (others : Decision) → SetsOne s cpu may home others → SetsOne s cpu may home (if refused then Refuse errno else others)
  sets_unless true errno others sets = record { last = refl; makes = inl refl; exits = refl; calls = refl }
  sets_unless false errno others sets = sets

  sets_provided : (holds : Bool) (errno : Errno) (others : Decision) → SetsOne s cpu may home others → SetsOne s cpu may home (if holds then others else Refuse errno)
  sets_provided true errno others sets = sets
  sets_provided false errno others sets = record { last = refl; makes = inl refl; exits = refl; calls = refl }

  sent_sets : (flags : ℕ) (row : Option BellRow) → SetsOne s cpu may home (bells.sent flags row)
  sent_sets flags None = record { last = refl; makes = inl refl; exits = refl; calls = refl }
  sent_sets flags (Some row) = record { last = refl; makes = inl refl; exits = refl; calls = refl }

  received_sets : (clear : ℕ) (row : Option BellRow) → SetsOne s cpu may home (bells.received clear row)
  received_sets clear None = record { last = refl; makes = inl refl; exits = refl; calls = refl }
  received_sets clear (Some row) = record { last = refl; makes = inl refl; exits = refl; calls = refl }

  masked_sets : (enable ack : ℕ) (row : Option BellRow) → SetsOne s cpu may home (bells.masked enable ack row)
  masked_sets enable ack None = record { last = refl; makes = inl refl; exits = refl; calls = refl }
  masked_sets enable ack (Some row) = record { last = refl; makes = inl refl; exits = refl; calls = refl }

  rings_set : (queue : Serial) (message : List ℕ) (linked : Bool) (reply : Reply) → SetsOne s cpu may home (Make (PutMessage queue message ∷ queues.rings_if linked) reply)
  rings_set queue message true reply = record { last = refl; makes = inl refl; exits = refl; calls = refl }
  rings_set queue message false reply = record { last = refl; makes = inl refl; exits = refl; calls = refl }

  put_sets : (queue : Serial) (message : List ℕ) (fill : Option QueueFill) → SetsOne s cpu may home (queues.message_sent s queue message fill)
  put_sets queue message None = record { last = refl; makes = inl refl; exits = refl; calls = refl }
  put_sets queue message (Some fill) =
      sets_unless (nat_lt fill.size (length message)) ArgSize _ (sets_unless (nat_le fill.depth fill.count) QueueFull _
      (rings_set queue message (queues.is_request_queue s queue) (done_with (queues.one_if (nat_lt (fill.count + 1) fill.depth)))))

  taken_sets : (queue : Serial) (room : ℕ) (fill : Option QueueFill) (first : Option (List ℕ)) → SetsOne s cpu may home (queues.message_received queue room fill first)
  taken_sets queue room None first = record { last = refl; makes = inl refl; exits = refl; calls = refl }
  taken_sets queue room (Some fill) None = record { last = refl; makes = inl refl; exits = refl; calls = refl }
  taken_sets queue room (Some fill) (Some message) =
      sets_unless (nat_lt (min room MESSAGE_BYTES) (length message)) ArgSize _ (record { last = refl; makes = inl refl; exits = refl; calls = refl })

  flushed_sets : (queue : Serial) (fill : Option QueueFill) → SetsOne s cpu may home (queues.flushed queue fill)
  flushed_sets queue None = record { last = refl; makes = inl refl; exits = refl; calls = refl }
  flushed_sets queue (Some fill) = record { last = refl; makes = inl refl; exits = refl; calls = refl }

  looked_sets : (found : Option (PageNo × Access)) → SetsOne s cpu may home (looked_up found)
  looked_sets None = record { last = refl; makes = inl refl; exits = refl; calls = refl }
  looked_sets (Some found) = record { last = refl; makes = inl refl; exits = refl; calls = refl }

  copied_into_sets : (row : CapabilityRow) (cspace : Serial) (mask : ℕ) (slot : Option ℕ) → SetsOne s cpu may home (copied_into row cspace mask slot)
  copied_into_sets row cspace mask None = record { last = refl; makes = inl refl; exits = refl; calls = refl }
  copied_into_sets row cspace mask (Some slot) = record { last = refl; makes = inl refl; exits = refl; calls = refl }

  copied_sets : (cspace object : Serial) (mask : ℕ) (found : Option CapabilityRow) → SetsOne s cpu may home (copied s cspace object mask found)
  copied_sets cspace object mask None = record { last = refl; makes = inl refl; exits = refl; calls = refl }
  copied_sets cspace object mask (Some row) =
      sets_provided (is_valid_of object row) Retry _ (copied_into_sets row cspace mask (free_slot s cspace.0))

  deleted_sets : (found : Option CapabilityRow) → SetsOne s cpu may home (deleted found)
  deleted_sets None = record { last = refl; makes = inl refl; exits = refl; calls = refl }
  deleted_sets (Some row) = record { last = refl; makes = inl refl; exits = refl; calls = refl }

  revoked_sets : (found : Option CapabilityRow) → SetsOne s cpu may home (revoked found)
  revoked_sets None = record { last = refl; makes = inl refl; exits = refl; calls = refl }
  revoked_sets (Some row) =
      sets_unless (not row.valid) CapRevoked _ (sets_unless row.master InsufRights _ (record { last = refl; makes = inl refl; exits = refl; calls = refl }))

  revoke_all_sets : (finished : Bool) (n : ℕ) → SetsOne s cpu may home (if finished then Make [] (done_with n) else Unfinished)
  revoke_all_sets true n = record { last = refl; makes = inl refl; exits = refl; calls = refl }
  revoke_all_sets false n = record { last = refl; makes = inl refl; exits = refl; calls = refl }

  created_in_sets : (partition cspace : Serial) (k : Kind) (slot : Option ℕ) → cspace.0 ≡ home → SetsOne s cpu may home (created_in s partition cspace k slot)
  created_in_sets partition cspace k None there = record { last = refl; makes = inl refl; exits = refl; calls = refl }
  created_in_sets partition cspace k (Some slot) there = sets_unless (lacks_room s partition k) Nomem _ (record {
    last = refl;
    makes = inr (record {
      row = new_object s partition k;
      cap = new_master s cspace slot k;
      is = refl;
      serial = refl;
      unretired = refl;
      there = there;
    });
    exits = refl;
    calls = refl;
  })

  created_sets : (partition cspace : Serial) (k : Option Kind) → cspace.0 ≡ home → SetsOne s cpu may home (created s partition cspace k)
  created_sets partition cspace None there = record { last = refl; makes = inl refl; exits = refl; calls = refl }
  created_sets partition cspace (Some k) there = created_in_sets partition cspace k (free_slot s cspace.0) there

  quota_sets : (partition : Serial) (quota : ℕ) (row : Option PartitionRow) → SetsOne s cpu may home (quota_given s partition quota row)
  quota_sets partition quota None = record { last = refl; makes = inl refl; exits = refl; calls = refl }
  quota_sets partition quota (Some row) = sets_unless (nat_lt (free_units s row.parent.0) quota) Nomem _ (record { last = refl; makes = inl refl; exits = refl; calls = refl })

  room_sets : (queue : Serial) (depth size : ℕ) (row : Option ObjectRow) → SetsOne s cpu may home (room_given s queue depth size row)
  room_sets queue depth size None = record { last = refl; makes = inl refl; exits = refl; calls = refl }
  room_sets queue depth size (Some row) =
      sets_unless (nat_lt (free_units s row.partition.0) (room_cost depth size)) Nomem _ (record { last = refl; makes = inl refl; exits = refl; calls = refl })

  activated_sets : (object : Serial) (row : Option ObjectRow) → SetsOne s cpu may home (activated object row)
  activated_sets object None = record { last = refl; makes = inl refl; exits = refl; calls = refl }
  activated_sets object (Some row) = sets_unless (is_init_stage row.stage) ObjConfig _ (record { last = refl; makes = inl refl; exits = refl; calls = refl })

  mapped_sets : (space extent : Serial) (base access flags offset size : ℕ) (row : Option ExtentRow)
      → SetsOne s cpu may home (mapped s space extent base access flags offset size row)
  mapped_sets space extent base access flags offset size None = record { last = refl; makes = inl refl; exits = refl; calls = refl }
  mapped_sets space extent base access flags offset size (Some row) =
      sets_unless (nat_lt 4096 (page_of base + meant_count row flags size)) AddrOvfl _
      (sets_unless (nat_lt row.count (meant_offset flags offset + meant_count row flags size)) ArgSize _
      (sets_unless (not (access_fits access row.access.0)) Denied _
      (sets_unless (list_any (overlaps space.0 (page_of base) (meant_count row flags size)) s.mappings) Busy _
      (sets_unless (nat_le 64 (count_by (is_row_of space.0) s.mappings)) Nomem _ (record { last = refl; makes = inl refl; exits = refl; calls = refl })))))

  unmapped_row_sets : (row : Option MappingRow) → SetsOne s cpu may home (unmapped_row row)
  unmapped_row_sets None = record { last = refl; makes = inl refl; exits = refl; calls = refl }
  unmapped_row_sets (Some row) = record { last = refl; makes = inl refl; exits = refl; calls = refl }

  unmapped_sets : (space extent : Serial) (base flags offset size : ℕ) (row : Option ExtentRow)
      → SetsOne s cpu may home (unmapped s space extent base flags offset size row)
  unmapped_sets space extent base flags offset size None = record { last = refl; makes = inl refl; exits = refl; calls = refl }
  unmapped_sets space extent base flags offset size (Some row) = unmapped_row_sets _

  derived_sets : (child parent : Serial) (offset size access : ℕ) (row : Option ExtentRow)
      → SetsOne s cpu may home (derived s child parent offset size access row)
  derived_sets child parent offset size access None = record { last = refl; makes = inl refl; exits = refl; calls = refl }
  derived_sets child parent offset size access (Some row) =
      sets_unless (nat_lt row.count (page_of offset + page_of size)) ArgSize _
      (sets_unless (not (holds_run s.holders parent (row.first.0 + page_of offset) (page_of size)) || not (access_fits access row.access.0)) Denied _
      (record { last = refl; makes = inl refl; exits = refl; calls = refl }))

  donated_to_sets : (relation offset count : ℕ) (giver : ExtentRow) (receiver : Option ExtentRow)
      → SetsOne s cpu may home (donated_to s relation offset count giver receiver)
  donated_to_sets relation offset count giver None = record { last = refl; makes = inl refl; exits = refl; calls = refl }
  donated_to_sets relation offset count giver (Some receiver) =
      sets_unless (not (are_related relation giver receiver)) ArgInval _
      (sets_unless (not (is_within_span receiver (giver.first.0 + offset) count)) AddrInval _
      (sets_unless (not (holds_run s.holders giver.serial (giver.first.0 + offset) count)) Denied _ (record { last = refl; makes = inl refl; exits = refl; calls = refl })))

  donated_sets : (relation : ℕ) (receiver : Serial) (offset count : ℕ) (giver : Option ExtentRow)
      → SetsOne s cpu may home (donated s relation receiver offset count giver)
  donated_sets relation receiver offset count None = record { last = refl; makes = inl refl; exits = refl; calls = refl }
  donated_sets relation receiver offset count (Some giver) = donated_to_sets relation offset count giver _

exited_sets : (s : State) (cpu home : ℕ) (manager : Bool) → SetsOne s cpu true home (Make (exit_changes (record { 0 = cpu }) manager) done)
exited_sets s cpu home true = record { last = refl; makes = inl refl; exits = rw (itself cpu) refl; calls = refl }
exited_sets s cpu home false = record { last = refl; makes = inl refl; exits = rw (itself cpu) refl; calls = refl }

-- each call
decided_sets : (s : State) (cpu : ℕ) (bytes : List ℕ) (grants : List Serial) (call : Call) → SetsOne s cpu (may_exit call) (grant_at grants 1).0 (decided s cpu call bytes grants)
decided_sets s cpu bytes grants calls.Identify = record { last = refl; makes = inl refl; exits = refl; calls = refl }
decided_sets s cpu bytes grants calls.Exit = exited_sets s cpu (grant_at grants 1).0 (cpu == 0)
decided_sets s cpu bytes grants (calls.BellSend cap flags) = sent_sets s cpu false (grant_at grants 1).0 flags _
decided_sets s cpu bytes grants (calls.BellSetMask cap enable ack) = masked_sets s cpu false (grant_at grants 1).0 enable ack _
decided_sets s cpu bytes grants (calls.BellReceive cap clear) = received_sets s cpu false (grant_at grants 1).0 clear _
decided_sets s cpu bytes grants (calls.BellReset cap) = record { last = refl; makes = inl refl; exits = refl; calls = refl }
decided_sets s cpu bytes grants (calls.MsgqSend cap size buffer flags) = put_sets s cpu false (grant_at grants 1).0 (grant_at grants 0) bytes _
decided_sets s cpu bytes grants (calls.MsgqRecv cap buffer size) = taken_sets s cpu false (grant_at grants 1).0 (grant_at grants 0) size _ _
decided_sets s cpu bytes grants (calls.MsgqFlush cap) = flushed_sets s cpu false (grant_at grants 1).0 (grant_at grants 0) _
decided_sets s cpu bytes grants (calls.Map space extent base attributes flags offset size) =
    mapped_sets s cpu false (grant_at grants 1).0 (named_space s cpu space grants) (named_extent space grants) base (user_access attributes) flags offset size _
decided_sets s cpu bytes grants (calls.Unmap space extent base flags offset size) =
    unmapped_sets s cpu false (grant_at grants 1).0 (named_space s cpu space grants) (named_extent space grants) base flags offset size _
decided_sets s cpu bytes grants (calls.Donate options giver receiver offset size) =
    donated_sets s cpu false (grant_at grants 1).0 (options % 256) (grant_at grants 1) (page_of offset) (page_of size) _
decided_sets s cpu bytes grants (calls.Derive child parent offset size access) =
    derived_sets s cpu false (grant_at grants 1).0 (grant_at grants 0) (grant_at grants 1) offset size access _
decided_sets s cpu bytes grants (calls.AsLookup space address) =
    sets_provided s cpu false (grant_at grants 1).0 (nat_lt (page_of address) 4096) AddrInval _ (looked_sets s cpu false (grant_at grants 1).0 _)
decided_sets s cpu bytes grants (calls.Create partition cspace number) =
    created_sets s cpu false (grant_at grants 1).0 (grant_at grants 0) (grant_at grants 1) (kind_numbered number) refl
decided_sets s cpu bytes grants (calls.ConfigurePartition cap quota) =
    sets_unless s cpu false (grant_at grants 1).0 (nat_lt 128 quota) ArgInval _ (quota_sets s cpu false (grant_at grants 1).0 (grant_at grants 0) quota _)
decided_sets s cpu bytes grants (calls.ConfigureQueue cap depth size) =
    sets_unless s cpu false (grant_at grants 1).0 (nat_lt 64 depth || nat_lt 1024 size) ArgInval _ (room_sets s cpu false (grant_at grants 1).0 (grant_at grants 0) depth size _)
decided_sets s cpu bytes grants (calls.Activate cap) = activated_sets s cpu false (grant_at grants 1).0 (grant_at grants 0) _
decided_sets s cpu bytes grants (calls.CapCopy cspace source mask) = copied_sets s cpu false (grant_at grants 1).0 (grant_at grants 0) (grant_at grants 1) mask _
decided_sets s cpu bytes grants (calls.CapDelete cspace slot) = deleted_sets s cpu false (grant_at grants 1).0 _
decided_sets s cpu bytes grants (calls.CapRevoke cspace slot) = revoked_sets s cpu false (grant_at grants 1).0 _
decided_sets s cpu bytes grants (calls.CapsRevoke cap) = revoke_all_sets s cpu false (grant_at grants 1).0 (is_finished s (grant_at grants 0)) _
decided_sets s cpu bytes grants (calls.RmAct cap vm) =
    sets_unless s cpu false (grant_at grants 1).0 (nat_lt (length bytes) 4) ArgSize _ (record { last = refl; makes = inl refl; exits = refl; calls = refl })
decided_sets s cpu bytes grants (calls.RmPoll cap) = record { last = refl; makes = inl refl; exits = refl; calls = refl }

-- whatever refuses it before
pub decision_sets : (s : State) (moved : Bool) (cpu : ℕ) (call : Call) (bytes : List ℕ) (grants : List Serial)
    → SetsOne s cpu (may_exit call) (grant_at grants 1).0 (decision moved s cpu call bytes grants)
decision_sets s moved cpu call bytes grants =
    sets_unless s cpu (may_exit call) (grant_at grants 1).0 (is_at_end s call grants) CapRevoked _ (sets_unless s cpu (may_exit call) (grant_at grants 1).0 (not (stages_fit s call grants)) ObjState _
    (sets_unless s cpu (may_exit call) (grant_at grants 1).0 moved Retry _ (decided_sets s cpu bytes grants call)))
