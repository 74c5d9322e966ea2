-- What the decisions of all calls come to: at most one serial and one ring, and sums that stay small.
use Rattle.std.proofs.Common.{◌≡◌, ◌==◌, ◌+◌, ◌%◌, ◌<◌, ◌≤◌, ◌∙◌, ◌||◌, ℕ, Bool, true, false, List, [], ◌∷◌, Option, Some, None, not, find, length, count_by, nat_le, nat_lt, if◌then◌else◌, refl, subst, sym, arith, sum_by}
use Rattle.std.specs.Bool.{⊤}
use Rattle.std.specs.List.{list_any}
use Rattle.std.proofs.lemmas.Bool.Decides.{nat_tests}
use Rattle.std.proofs.lemmas.Option.{same_Some}
use Rattle.gh_base.specs.Kind.{kind_cost, kind_numbered}
use Rattle.gh_base.specs.declared.call.Call.{Call}
use Rattle.gh_base.specs.declared.call.Call.TheVariants as calls
use Rattle.gh_base.specs.declared.errno.Errno.{Errno}
use Rattle.gh_base.specs.declared.errno.Errno.TheVariants.{AddrInval, AddrOvfl, ArgInval, ArgSize, Busy, CapRevoked, Denied, InsufRights, Nomem, ObjState, QueueFull, Retry}
use Rattle.gh_base.specs.declared.kind.Stage.TheVariants.{Ready}
use Rattle.gh_base.specs.declared.frame.Reply.{Reply}
use Rattle.gh_base.specs.declared.ids.PageNo.{PageNo}
use Rattle.gh_base.specs.declared.ids.Serial.{Serial}
use Rattle.gh_base.specs.declared.access.Access.{Access}
use Rattle.gh_base.specs.declared.kind.Kind.{Kind}
use Rattle.gh_base.specs.declared.kind.Kind.TheVariants as kind
use Rattle.gh_base.specs.declared.limits.TheConstants.{HISTORY_ENTRIES, PARTITION_UNITS, SPACE_PAGES, SPACE_ROWS}
use Rattle.gh_model.specs.declared.change.Change.{Change}
use Rattle.gh_model.specs.declared.change.Change.TheVariants.{PutCapability, RevokeCapability, AddObject, SetStage, GiveQuota, AddExtent, MovePages, PutMapping, ConfigureQueue, PutMessage}
use Rattle.gh_model.specs.declared.change.Decision.{Decision}
use Rattle.gh_model.specs.declared.change.Decision.TheVariants.{Refuse, Unfinished, Make}
use Rattle.gh_model.specs.declared.rows.BellRow.{BellRow}
use Rattle.gh_model.specs.declared.rows.CapabilityRow.{CapabilityRow}
use Rattle.gh_model.specs.declared.rows.ExtentRow.{ExtentRow}
use Rattle.gh_model.specs.declared.rows.MappingRow.{MappingRow}
use Rattle.gh_model.specs.declared.rows.ObjectRow.{ObjectRow}
use Rattle.gh_model.specs.declared.rows.PartitionRow.{PartitionRow}
use Rattle.gh_model.specs.declared.state.State.{State}
use Rattle.gh_model.specs.declared.state_reads.QueueFill.{QueueFill}
use Rattle.gh_model.specs.BellCalls as bells
use Rattle.gh_model.specs.Boot.{access_fits, cpu_cspace, is_row_of, overlaps, queue_cost}
use Rattle.gh_model.specs.CapabilityCalls as capabilities
use Rattle.gh_model.specs.Changes.{set_stage, with_stage}
use Rattle.gh_model.specs.Decide.{decided, decision, is_at_end, stages_fit}
use Rattle.gh_model.specs.Decisions.{done, done_with, grant_at, make_one}
use Rattle.gh_model.specs.ManagerCalls as manager
use Rattle.gh_model.specs.MemoryCalls as memory
use Rattle.gh_model.specs.ObjectCalls as objects
use Rattle.gh_model.specs.QueueCalls as queues
use Rattle.gh_model.specs.Room.{HasRoom, new_rings, new_serials}
use Rattle.gh_model.specs.Rows.{is_extent, is_partition, object_row}
use Rattle.gh_model.specs.Word.{word_at}
use Rattle.gh_model.specs.Small.{IsKept, IsSmallQuota}
use Rattle.gh_model.specs.Units.{free_units, given_units, row_quota, used_units}
use Rattle.gh_model.proofs.KeptLemmas.{AreModest, AreSmall, IsModest}
use Rattle.gh_model.proofs.ReadyLemmas.{staged_row, staged_units}
use Rattle.gh_model.proofs.SumLemmas.{all_found}

-- changes that give at most one serial and ring at most once, and keep the sums small
pub record MayMake (s : State) (changes : List Change) : Type 0 where
  pub serials : sum_by new_serials changes ≤ 1
  pub rings : sum_by new_rings changes ≤ 1
  pub modest : AreModest s changes

abbrev pub MayDecide : State → Decision → Type 0
MayDecide s (Refuse errno) = ⊤
MayDecide s Unfinished = ⊤
MayDecide s (Make changes reply) = MayMake s changes

-- the same as a fact about a decision
pub record May (s : State) (d : Decision) : Type 0 where
  pub is : MayDecide s d

-- a decision behind a refusal
unless : (here : Bool) (s : State) (errno : Errno) (others : Decision) → May s others → May s (if here then Refuse errno else others)
unless true s errno others may = record { is = tt }
unless false s errno others may = may

unless_two : (a b : Bool) (s : State) (first second : Errno) (others : Decision) → May s others → May s (if a then Refuse first else (if b then Refuse second else others))
unless_two a b s first second others may = unless a s first (if b then Refuse second else others) (unless b s second others may)

unless_three : (a b c : Bool) (s : State) (first second third : Errno) (others : Decision) → May s others
    → May s (if a then Refuse first else (if b then Refuse second else (if c then Refuse third else others)))
unless_three a b c s first second third others may =
    unless a s first (if b then Refuse second else (if c then Refuse third else others)) (unless_two b c s second third others may)

unless_five : (a b c d e : Bool) (s : State) (first second third fourth fifth : Errno) (others : Decision) → May s others
    → May s (if a then Refuse first else (if b then Refuse second else (if c then Refuse third else (if d then Refuse fourth else (if e then Refuse fifth else others)))))
unless_five a b c d e s first second third fourth fifth others may =
    unless_two a b s first second (if c then Refuse third else (if d then Refuse fourth else (if e then Refuse fifth else others))) (unless_three c d e s third fourth fifth others may)

may_none : (s : State) (reply : Reply) → May s (Make [] reply)
may_none s reply = record { is = record { serials = omega arith; rings = omega arith; modest = tt } }

may_one : (s : State) (change : Change) (reply : Reply) → new_serials change ≤ 1 → new_rings change ≤ 1 → IsModest s change → May s (make_one change reply)
may_one s change reply serials rings modest = record { is = record { serials = omega (arith, serials); rings = omega (arith, rings); modest = (modest, tt) } }

-- doorbells

bell_sent : (s : State) (flags : ℕ) (row : Option BellRow) → May s (bells.sent flags row)
bell_sent s flags None = may_none s _
bell_sent s flags (Some row) = may_one s _ _ (omega arith) (omega arith) tt

bell_received : (s : State) (clear : ℕ) (row : Option BellRow) → May s (bells.received clear row)
bell_received s clear None = may_none s _
bell_received s clear (Some row) = may_one s _ _ (omega arith) (omega arith) tt

bell_masked : (s : State) (enable ack : ℕ) (row : Option BellRow) → May s (bells.masked enable ack row)
bell_masked s enable ack None = may_none s _
bell_masked s enable ack (Some row) = may_one s _ _ (omega arith) (omega arith) tt

-- queues

message_sent : (s : State) (queue : Serial) (message : List ℕ) (rings : Bool) (reply : Reply) → May s (Make (PutMessage queue message ∷ queues.rings_if rings) reply)
message_sent s queue message true reply = record { is = record { serials = omega arith; rings = omega arith; modest = (tt, (tt, tt)) } }
message_sent s queue message false reply = record { is = record { serials = omega arith; rings = omega arith; modest = (tt, tt) } }

queue_sent : (s : State) (queue : Serial) (message : List ℕ) (fill : Option QueueFill) → May s (queues.message_sent s queue message fill)
queue_sent s queue message None = record { is = tt }
queue_sent s queue message (Some fill) =
    unless_two (nat_lt fill.size (length message)) (nat_le fill.depth fill.count) s ArgSize QueueFull
    (Make (PutMessage queue message ∷ queues.rings_if (queues.is_request_queue s queue)) (done_with (queues.one_if (nat_lt (fill.count + 1) fill.depth))))
    (message_sent s queue message (queues.is_request_queue s queue) (done_with (queues.one_if (nat_lt (fill.count + 1) fill.depth))))

queue_received : (s : State) (queue : Serial) (room : ℕ) (fill : Option QueueFill) (first : Option (List ℕ)) → May s (queues.message_received queue room fill first)
queue_received s queue room None first = record { is = tt }
queue_received s queue room (Some fill) None = record { is = tt }
queue_received s queue room (Some fill) (Some message) = unless _ s _ _ (may_one s _ _ (omega arith) (omega arith) tt)

queue_flushed : (s : State) (queue : Serial) (fill : Option QueueFill) → May s (queues.flushed queue fill)
queue_flushed s queue None = may_none s _
queue_flushed s queue (Some fill) = may_one s _ _ (omega arith) (omega arith) tt

-- memory

mapped_at : (s : State) (space extent : Serial) (row : ExtentRow) (base offset count access : ℕ) → May s (memory.mapped_at s space extent row base offset count access)
mapped_at s space extent row base offset count access =
    unless_five (nat_lt SPACE_PAGES (base + count)) (nat_lt row.count (offset + count)) (not (access_fits access row.access.0))
    (list_any (overlaps space.0 base count) s.mappings) (nat_le SPACE_ROWS (count_by (is_row_of space.0) s.mappings))
    s AddrOvfl ArgSize Denied Busy Nomem
    (make_one (PutMapping (memory.mapped_row space extent base offset count access)) done)
    (may_one s (PutMapping (memory.mapped_row space extent base offset count access)) done (omega arith) (omega arith) tt)

mapped : (s : State) (space extent : Serial) (base access flags offset size : ℕ) (row : Option ExtentRow) → May s (memory.mapped s space extent base access flags offset size row)
mapped s space extent base access flags offset size None = record { is = tt }
mapped s space extent base access flags offset size (Some row) =
    mapped_at s space extent row (memory.page_of base) (memory.meant_offset flags offset) (memory.meant_count row flags size) access

unmapped_row : (s : State) (row : Option MappingRow) → May s (memory.unmapped_row row)
unmapped_row s None = record { is = tt }
unmapped_row s (Some row) = may_one s _ _ (omega arith) (omega arith) tt

unmapped : (s : State) (space extent : Serial) (base flags offset size : ℕ) (row : Option ExtentRow) → May s (memory.unmapped s space extent base flags offset size row)
unmapped s space extent base flags offset size None = record { is = tt }
unmapped s space extent base flags offset size (Some row) = unmapped_row s _

derived_at : (s : State) (child parent : Serial) (row : ExtentRow) (offset count access : ℕ) → May s (memory.derived_at s child parent row offset count access)
derived_at s child parent row offset count access =
    unless_two (nat_lt row.count (offset + count)) (not (memory.holds_run s.holders parent (row.first.0 + offset) count) || not (access_fits access row.access.0))
    s ArgSize Denied
    (Make (SetStage child Ready ∷ AddExtent (memory.derived_row child parent row offset count access) ∷ MovePages (row.first.0 + offset) count child ∷ []) done)
    (record { is = record { serials = omega arith; rings = omega arith; modest = (tt, (tt, (tt, tt))) } })

derived : (s : State) (child parent : Serial) (offset size access : ℕ) (row : Option ExtentRow) → May s (memory.derived s child parent offset size access row)
derived s child parent offset size access None = record { is = tt }
derived s child parent offset size access (Some row) =
    derived_at s child parent row (memory.page_of offset) (memory.page_of size) access

donated_at : (s : State) (relation : ℕ) (giver receiver : ExtentRow) (first count : ℕ) → May s (memory.donated_at s relation giver receiver first count)
donated_at s relation giver receiver first count =
    unless_three (not (memory.are_related relation giver receiver)) (not (memory.is_within_span receiver first count)) (not (memory.holds_run s.holders giver.serial first count))
    s ArgInval AddrInval Denied
    (make_one (MovePages first count receiver.serial) done)
    (may_one s (MovePages first count receiver.serial) done (omega arith) (omega arith) tt)

donated_to : (s : State) (relation offset count : ℕ) (giver : ExtentRow) (receiver : Option ExtentRow) → May s (memory.donated_to s relation offset count giver receiver)
donated_to s relation offset count giver None = record { is = tt }
donated_to s relation offset count giver (Some receiver) =
    donated_at s relation giver receiver (giver.first.0 + offset) count

donated : (s : State) (relation : ℕ) (receiver : Serial) (offset count : ℕ) (giver : Option ExtentRow) → May s (memory.donated s relation receiver offset count giver)
donated s relation receiver offset count None = record { is = tt }
donated s relation receiver offset count (Some giver) = donated_to s relation offset count giver _

looked_up : (s : State) (found : Option (PageNo × Access)) → May s (memory.looked_up found)
looked_up s None = record { is = tt }
looked_up s (Some found) = may_none s _

within_space : (here : Bool) (s : State) (errno : Errno) (others : Decision) → May s others → May s (if here then others else Refuse errno)
within_space true s errno others may = may
within_space false s errno others may = record { is = tt }

-- capabilities

copied_into : (s : State) (row : CapabilityRow) (cspace : Serial) (mask : ℕ) (slot : Option ℕ) → May s (capabilities.copied_into row cspace mask slot)
copied_into s row cspace mask None = record { is = tt }
copied_into s row cspace mask (Some slot) = may_one s _ _ (omega arith) (omega arith) tt

copied : (s : State) (cspace object : Serial) (mask : ℕ) (row : Option CapabilityRow) → May s (capabilities.copied s cspace object mask row)
copied s cspace object mask None = record { is = tt }
copied s cspace object mask (Some row) = within_space _ s _ _ (copied_into s row cspace mask _)

deleted : (s : State) (row : Option CapabilityRow) → May s (capabilities.deleted row)
deleted s None = record { is = tt }
deleted s (Some row) = may_one s _ _ (omega arith) (omega arith) tt

revoked : (s : State) (row : Option CapabilityRow) → May s (capabilities.revoked row)
revoked s None = record { is = tt }
revoked s (Some row) =
    unless_two (not row.valid) row.master s CapRevoked InsufRights
    (make_one (RevokeCapability row.cspace row.slot) done)
    (may_one s (RevokeCapability row.cspace row.slot) done (omega arith) (omega arith) tt)

finished : (here : Bool) (s : State) (reply : Reply) → May s (if here then Make [] reply else Unfinished)
finished true s reply = may_none s reply
finished false s reply = record { is = tt }

-- the manager and exit

exited : (s : State) (cpu : ℕ) (is_manager : Bool) (reply : Reply) → May s (Make (manager.exit_changes (record { 0 = cpu }) is_manager) reply)
exited s cpu true reply = record { is = record { serials = omega arith; rings = omega arith; modest = (tt, tt) } }
exited s cpu false reply = record { is = record { serials = omega arith; rings = omega arith; modest = (tt, (tt, tt)) } }

-- objects

cost_some : (k : Kind) → 1 ≤ kind_cost k
cost_some kind.Partition = omega arith
cost_some kind.Cspace = omega arith
cost_some kind.Space = omega arith
cost_some kind.Extent = omega arith
cost_some kind.Bell = omega arith
cost_some kind.Queue = omega arith

enough : (a b : ℕ) → nat_lt a b ≡ false → b ≤ a
enough a b is = grind (arith, nat_tests)

both_false : (a b : Bool) → (a || b) ≡ false → a ≡ false
both_false true b is = is
both_false false b is = refl

activated : (s : State) (object : Serial) (row : Option ObjectRow) → May s (objects.activated object row)
activated s object None = record { is = tt }
activated s object (Some row) = unless _ s _ _ (may_one s _ _ (omega arith) (omega arith) tt)

module _ (s : State) (h : AreSmall s) where
  small_quota : (partition : ℕ) (found : Option PartitionRow) → find (is_partition partition) s.partitions ≡ found → row_quota found ≤ PARTITION_UNITS
  small_quota partition None is = omega arith
  small_quota partition (Some row) is = all_found IsSmallQuota (is_partition partition) s.partitions row is h.quotas

  -- what is left of a quota is within it
  free_within : (partition : ℕ) → 1 ≤ free_units s partition → free_units s partition + used_units s partition + given_units s partition ≤ PARTITION_UNITS
  free_within partition some =
      let quota : row_quota (find (is_partition partition) s.partitions) ≤ PARTITION_UNITS = small_quota partition (find (is_partition partition) s.partitions) refl in
      omega (arith, quota, some)

  created_room : (full : Bool) (partition cspace : Serial) (k : Kind) (slot : ℕ) (reply : Reply) → objects.lacks_room s partition k ≡ full
      → May s (if full then Refuse Nomem else Make (AddObject (objects.new_object s partition k) ∷ PutCapability (objects.new_master s cspace slot k) ∷ []) reply)
  created_room true partition cspace k slot reply is = record { is = tt }
  created_room false partition cspace k slot reply is =
      let room : kind_cost k ≤ free_units s partition.0 = enough (free_units s partition.0) (kind_cost k) (both_false (nat_lt (free_units s partition.0) (kind_cost k)) (objects.is_full s k) is) in
      let some : 1 ≤ kind_cost k = cost_some k in
      let within : free_units s partition.0 + used_units s partition.0 + given_units s partition.0 ≤ PARTITION_UNITS = free_within partition.0 (omega (arith, room, some)) in
      record { is = record { serials = omega arith; rings = omega arith; modest = ((omega (arith, room, within), some), (tt, tt)) } }

  created_in : (partition cspace : Serial) (k : Kind) (slot : Option ℕ) → May s (objects.created_in s partition cspace k slot)
  created_in partition cspace k None = record { is = tt }
  created_in partition cspace k (Some slot) = created_room (objects.lacks_room s partition k) partition cspace k slot _ refl

  created : (partition cspace : Serial) (k : Option Kind) → May s (objects.created s partition cspace k)
  created partition cspace None = record { is = tt }
  created partition cspace (Some k) = created_in partition cspace k _

  quota_room : (lacks : Bool) (partition : Serial) (quota : ℕ) (row : PartitionRow) (reply : Reply)
      → find (is_partition partition.0) s.partitions ≡ Some row → quota ≤ PARTITION_UNITS → nat_lt (free_units s row.parent.0) quota ≡ lacks
      → May s (if lacks then Refuse Nomem else Make (SetStage partition Ready ∷ GiveQuota partition quota ∷ []) reply)
  quota_room true partition quota row reply found few is = record { is = tt }
  quota_room false partition quota row reply found few is =
      let room : quota ≤ free_units s row.parent.0 = enough (free_units s row.parent.0) quota is in
      let fits : given_units s row.parent.0 + quota < 65536 = omega (arith, room, h.small.given row.parent.0, small_quota row.parent.0 (find (is_partition row.parent.0) s.partitions) refl) in
      record {
        is = record {
          serials = omega arith;
          rings = omega arith;
          modest = (tt, ((few, λ other is. subst (λ (o : PartitionRow). given_units s o.parent.0 + quota < 65536) (same_Some row other (sym found ∙ is)) fits), tt));
        };
      }

  quota_given : (partition : Serial) (quota : ℕ) (found : Option PartitionRow) → find (is_partition partition.0) s.partitions ≡ found → quota ≤ PARTITION_UNITS
      → May s (objects.quota_given s partition quota found)
  quota_given partition quota None is few = record { is = tt }
  quota_given partition quota (Some row) is few = quota_room (nat_lt (free_units s row.parent.0) quota) partition quota row _ is few refl

  quota_asked : (many : Bool) (partition : Serial) (quota : ℕ) → nat_lt PARTITION_UNITS quota ≡ many
      → May s (if many then Refuse ArgInval else objects.quota_given s partition quota (find (is_partition partition.0) s.partitions))
  quota_asked true partition quota is = record { is = tt }
  quota_asked false partition quota is = quota_given partition quota (find (is_partition partition.0) s.partitions) refl (enough PARTITION_UNITS quota is)

  queue_room : (lacks : Bool) (queue : Serial) (depth size : ℕ) (row : ObjectRow) (reply : Reply)
      → object_row s queue.0 ≡ Some row → nat_lt (free_units s row.partition.0) (objects.room_cost depth size) ≡ lacks
      → May s (if lacks then Refuse Nomem else Make (SetStage queue Ready ∷ ConfigureQueue queue depth size (queue_cost depth size) ∷ []) reply)
  queue_room true queue depth size row reply found is = record { is = tt }
  queue_room false queue depth size row reply found is =
      let room : objects.room_cost depth size ≤ free_units s row.partition.0 = enough (free_units s row.partition.0) (objects.room_cost depth size) is in
      let cost : queue_cost depth size ≡ 1 + objects.room_cost depth size = refl in
      let fits : used_units s row.partition.0 + queue_cost depth size ≤ 65536 =
      omega (arith, cost, room, h.small.used row.partition.0, small_quota row.partition.0 (find (is_partition row.partition.0) s.partitions) refl) in
      record {
        is = record {
          serials = omega arith;
          rings = omega arith;
          modest = (
            tt,
            (
              (
                omega arith,
                λ other is. subst (λ (o : ObjectRow). used_units (set_stage queue Ready s) o.partition.0 + queue_cost depth size ≤ 65536)
                    (same_Some (with_stage Ready row) other (sym (staged_row s queue Ready row found) ∙ is)) (omega (arith, fits, staged_units s queue Ready row.partition.0)),
              ),
              tt,
            ),
          );
        };
      }

  room_given : (queue : Serial) (depth size : ℕ) (found : Option ObjectRow) → object_row s queue.0 ≡ found → May s (objects.room_given s queue depth size found)
  room_given queue depth size None is = record { is = tt }
  room_given queue depth size (Some row) is = queue_room (nat_lt (free_units s row.partition.0) (objects.room_cost depth size)) queue depth size row _ is refl

  -- each call
  decided_may : (cpu : ℕ) (call : Call) (bytes : List ℕ) (grants : List Serial) → May s (decided s cpu call bytes grants)
  decided_may cpu calls.Identify bytes grants = may_none s _
  decided_may cpu calls.Exit bytes grants = exited s cpu (cpu == 0) _
  decided_may cpu (calls.BellSend cap flags) bytes grants = bell_sent s flags _
  decided_may cpu (calls.BellSetMask cap enable ack) bytes grants = bell_masked s enable ack _
  decided_may cpu (calls.BellReceive cap clear) bytes grants = bell_received s clear _
  decided_may cpu (calls.BellReset cap) bytes grants = may_one s _ _ (omega arith) (omega arith) tt
  decided_may cpu (calls.MsgqSend cap size buffer flags) bytes grants = queue_sent s _ bytes _
  decided_may cpu (calls.MsgqRecv cap buffer size) bytes grants = queue_received s _ size _ _
  decided_may cpu (calls.MsgqFlush cap) bytes grants = queue_flushed s _ _
  decided_may cpu (calls.Map space extent base attributes flags offset size) bytes grants = mapped s _ _ base _ flags offset size _
  decided_may cpu (calls.Unmap space extent base flags offset size) bytes grants = unmapped s _ _ base flags offset size _
  decided_may cpu (calls.Donate options giver receiver offset size) bytes grants =
      donated s (options % 256) (grant_at grants 1) (memory.page_of offset) (memory.page_of size) (find (is_extent (grant_at grants 0).0) s.extents)
  decided_may cpu (calls.Derive child parent offset size access) bytes grants = derived s _ _ offset size access _
  decided_may cpu (calls.AsLookup space address) bytes grants = within_space _ s _ _ (looked_up s _)
  decided_may cpu (calls.Create partition cspace number) bytes grants = created _ _ (kind_numbered number)
  decided_may cpu (calls.ConfigurePartition cap quota) bytes grants = quota_asked (nat_lt PARTITION_UNITS quota) _ quota refl
  decided_may cpu (calls.ConfigureQueue cap depth size) bytes grants = unless _ s _ _ (room_given _ depth size _ refl)
  decided_may cpu (calls.Activate cap) bytes grants = activated s _ _
  decided_may cpu (calls.CapCopy cspace source mask) bytes grants =
      copied s (grant_at grants 0) (grant_at grants 1) mask (word_at s (cpu_cspace s.cpus cpu) source).row
  decided_may cpu (calls.CapDelete cspace slot) bytes grants = deleted s _
  decided_may cpu (calls.CapRevoke cspace slot) bytes grants = revoked s _
  decided_may cpu (calls.CapsRevoke cap) bytes grants = finished _ s _
  decided_may cpu (calls.RmAct cap vm) bytes grants = unless _ s _ _ (may_none s _)
  decided_may cpu (calls.RmPoll cap) bytes grants = may_none s _

  -- every decision
  pub decision_may : (moved : Bool) (cpu : ℕ) (call : Call) (bytes : List ℕ) (grants : List Serial) → May s (decision moved s cpu call bytes grants)
  decision_may moved cpu call bytes grants =
      unless_three (is_at_end s call grants) (not (stages_fit s call grants)) moved s CapRevoked ObjState Retry (decided s cpu call bytes grants) (decided_may cpu call bytes grants)

-- what the slow machine keeps
pub small_kept : (s : State) → IsKept s → AreSmall s
small_kept s kept = record { small = kept.small; quotas = kept.quotas; costs = kept.costs }

-- a call that comes to changes, on a state that is kept small
pub record ComesTo (s : State) (changes : List Change) : Type 0 where
  pub moved : Bool
  pub cpu : ℕ
  pub call : Call
  pub bytes : List ℕ
  pub grants : List Serial
  pub made : Decision
  pub reply : Reply
  pub kept : IsKept s
  pub is : made ≡ decision moved s cpu call bytes grants
  pub makes : made ≡ Make changes reply

-- the changes of a decision
decided_changes : (s : State) (changes : List Change) → ComesTo s changes → MayMake s changes
decided_changes s changes h =
    let may : May s (decision h.moved s h.cpu h.call h.bytes h.grants) = decision_may s (small_kept s h.kept) h.moved h.cpu h.call h.bytes h.grants in
    subst (λ (d : Decision). MayDecide s d) (sym h.is ∙ h.makes) may.is

-- have room in the counts of the state
pub decided_room : (s : State) (changes : List Change) → ComesTo s changes → s.entries < HISTORY_ENTRIES → HasRoom s changes
decided_room s changes h room =
    let may : MayMake s changes = decided_changes s changes h in
    record {
      entries = omega (arith, room);
      serials = omega (arith, may.serials, h.kept.serials, room);
      rings = omega (arith, may.rings, h.kept.rings, room);
    }
