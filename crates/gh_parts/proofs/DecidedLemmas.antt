-- What a call of its shape comes to, the parts can make.
use Rattle.std.proofs.Common.{◌≡◌, ◌+◌, ◌%◌, ◌<◌, ◌≤◌, ℕ, Bool, true, false, not, List, [], ◌∷◌, length, refl, arith, Option, Some, None, if◌then◌else◌}
use Rattle.std.specs.Prelude.{◌||◌, ◌==◌, All, nat_lt, nat_le, min, count_by}
use Rattle.std.specs.Bool.{⊤}
use Rattle.std.specs.List.{list_any}
use Rattle.std.proofs.lemmas.Bool.Decides.{nat_tests}
use Rattle.std.proofs.lemmas.List.Elements.{All-cons, All-nil}
use Rattle.gh_base.specs.Kind.{kind_numbered}
use Rattle.gh_base.specs.declared.access.Access.{Access}
use Rattle.gh_base.specs.declared.call.Call.{Call}
use Rattle.gh_base.specs.declared.call.Call.TheVariants as calls
use Rattle.gh_base.specs.declared.errno.Errno.{Errno}
use Rattle.gh_base.specs.declared.errno.Errno.TheVariants.{AddrInval, AddrOvfl, ArgInval, ArgSize, Busy, CapRevoked, Denied, InsufRights, Nomem, ObjConfig, ObjState, QueueFull, Retry}
use Rattle.gh_base.specs.declared.frame.Reply.{Reply}
use Rattle.gh_base.specs.declared.ids.PageNo.{PageNo}
use Rattle.gh_base.specs.declared.ids.Serial.{Serial}
use Rattle.gh_base.specs.declared.kind.Kind.{Kind}
use Rattle.gh_base.specs.declared.limits.TheConstants.{MESSAGE_BYTES, QUEUE_DEPTH}
use Rattle.gh_invariant.proofs.MayMake.{first_none}
use Rattle.gh_invariant.proofs.ObjectsMade.{or_none}
use Rattle.gh_invariant.specs.Events.{made_by}
use Rattle.gh_model.specs.BellCalls as bells
use Rattle.gh_model.specs.Boot.{access_fits, is_row_of, overlaps}
use Rattle.gh_model.specs.CapabilityCalls.{copied, copied_into, deleted, free_slot, is_finished, is_valid_of, revoked}
use Rattle.gh_model.specs.Decide.{decided, decision, is_at_end, stages_fit}
use Rattle.gh_model.specs.Decisions.{done, done_with, grant_at, is_init_stage}
use Rattle.gh_model.specs.ManagerCalls.{exit_changes}
use Rattle.gh_model.specs.MemoryCalls.{are_related, derived, donated, donated_to, holds_run, is_within_span, looked_up, mapped, meant_count, meant_offset, named_extent, named_space, page_of, unmapped, unmapped_row}
use Rattle.gh_model.specs.ObjectCalls.{activated, created, created_in, lacks_room, quota_given, room_cost, room_given}
use Rattle.gh_model.specs.QueueCalls as queues
use Rattle.gh_model.specs.Registers.{first_of, shape_refusals, user_access}
use Rattle.gh_model.specs.Units.{free_units}
use Rattle.gh_model.specs.declared.change.Change.{Change}
use Rattle.gh_model.specs.declared.change.Change.TheVariants.{PutMessage}
use Rattle.gh_model.specs.declared.change.Decision.{Decision}
use Rattle.gh_model.specs.declared.change.Decision.TheVariants.{Refuse, Unfinished, Make}
use Rattle.gh_model.specs.declared.rows.BellRow.{BellRow}
use Rattle.gh_model.specs.declared.rows.CapabilityRow.{CapabilityRow}
use Rattle.gh_model.specs.declared.rows.ExtentRow.{ExtentRow}
use Rattle.gh_model.specs.declared.rows.MappingRow.{MappingRow}
use Rattle.gh_model.specs.declared.rows.ObjectRow.{ObjectRow}
use Rattle.gh_model.specs.declared.rows.PartitionRow.{PartitionRow}
use Rattle.gh_model.specs.declared.state.State.{State}
use Rattle.gh_model.specs.declared.state_reads.QueueFill.{QueueFill}
use Rattle.gh_msgqueue.specs.Queue.{IsConfigurable}
use Rattle.gh_parts.specs.Decided.{SuitsParts}
use Rattle.gh_parts.specs.MakingAll.{FitsParts, wants_once}

-- each change of a list fits, one by one
abbrev EachFits : List Change → Type 0
EachFits [] = ⊤
EachFits (change ∷ changes) = FitsParts change × EachFits changes

all_fit : (changes : List Change) → EachFits changes → All FitsParts changes
all_fit [] fit = All-nil FitsParts
all_fit (change ∷ changes) fit = All-cons FitsParts change changes fit.0 (all_fit changes fit.1)

-- a list of three at most
abbrev is_short : List Change → Bool
is_short [] = true
is_short (first ∷ []) = true
is_short (first ∷ second ∷ []) = true
is_short (first ∷ second ∷ third ∷ []) = true
is_short _ = false

short : (changes : List Change) → is_short changes ≡ true → length changes ≤ 3
short [] is = omega arith
short (first ∷ []) is = omega arith
short (first ∷ second ∷ []) is = omega arith
short (first ∷ second ∷ third ∷ []) is = omega arith
short (first ∷ second ∷ third ∷ fourth ∷ changes) is = absurd (let never : ⊥ = cc in never)

-- what the decision makes suits the parts
record Suits (decision : Decision) : Type 0 where
  once : wants_once (made_by decision) ≡ true
  fit : EachFits (made_by decision)
  few : is_short (made_by decision) ≡ true

suits_unless : (refused : Bool) (errno : Errno) (others : Decision) → Suits others → Suits (if refused then Refuse errno else others)
suits_unless true errno others suits = record { once = refl; fit = tt; few = refl }
suits_unless false errno others suits = suits

suits_provided : (holds : Bool) (errno : Errno) (others : Decision) → Suits others → Suits (if holds then others else Refuse errno)
suits_provided true errno others suits = suits
suits_provided false errno others suits = record { once = refl; fit = tt; few = refl }

-- a refusal, and a decision of one change that the parts can always have
refused : (errno : Errno) → Suits (Refuse errno)
refused errno = record { once = refl; fit = tt; few = refl }

unchanged : (reply : Reply) → Suits (Make [] reply)
unchanged reply = record { once = refl; fit = tt; few = refl }

sent_suits : (flags : ℕ) (row : Option BellRow) → Suits (bells.sent flags row)
sent_suits flags None = record { once = refl; fit = tt; few = refl }
sent_suits flags (Some row) = record { once = refl; fit = (tt, tt); few = refl }

received_suits : (clear : ℕ) (row : Option BellRow) → Suits (bells.received clear row)
received_suits clear None = record { once = refl; fit = tt; few = refl }
received_suits clear (Some row) = record { once = refl; fit = (tt, tt); few = refl }

masked_suits : (enable ack : ℕ) (row : Option BellRow) → Suits (bells.masked enable ack row)
masked_suits enable ack None = record { once = refl; fit = tt; few = refl }
masked_suits enable ack (Some row) = record { once = refl; fit = (tt, tt); few = refl }

rings_suit : (queue : Serial) (message : List ℕ) (linked : Bool) (reply : Reply) → Suits (Make (PutMessage queue message ∷ queues.rings_if linked) reply)
rings_suit queue message true reply = record { once = refl; fit = (tt, (tt, tt)); few = refl }
rings_suit queue message false reply = record { once = refl; fit = (tt, tt); few = refl }

put_suits : (s : State) (queue : Serial) (message : List ℕ) (fill : Option QueueFill) → Suits (queues.message_sent s queue message fill)
put_suits s queue message None = refused QueueFull
put_suits s queue message (Some fill) =
    suits_unless (nat_lt fill.size (length message)) ArgSize _ (suits_unless (nat_le fill.depth fill.count) QueueFull _
    (rings_suit queue message (queues.is_request_queue s queue) (done_with (queues.one_if (nat_lt (fill.count + 1) fill.depth)))))

taken_suits : (queue : Serial) (room : ℕ) (fill : Option QueueFill) (first : Option (List ℕ)) → Suits (queues.message_received queue room fill first)
taken_suits queue room None first = record { once = refl; fit = tt; few = refl }
taken_suits queue room (Some fill) None = record { once = refl; fit = tt; few = refl }
taken_suits queue room (Some fill) (Some message) =
    suits_unless (nat_lt (min room MESSAGE_BYTES) (length message)) ArgSize _ (record { once = refl; fit = (tt, tt); few = refl })

flushed_suits : (queue : Serial) (fill : Option QueueFill) → Suits (queues.flushed queue fill)
flushed_suits queue None = record { once = refl; fit = tt; few = refl }
flushed_suits queue (Some fill) = record { once = refl; fit = (tt, tt); few = refl }

looked_suits : (found : Option (PageNo × Access)) → Suits (looked_up found)
looked_suits None = record { once = refl; fit = tt; few = refl }
looked_suits (Some found) = record { once = refl; fit = tt; few = refl }

copied_into_suits : (row : CapabilityRow) (cspace : Serial) (mask : ℕ) (slot : Option ℕ) → Suits (copied_into row cspace mask slot)
copied_into_suits row cspace mask None = record { once = refl; fit = tt; few = refl }
copied_into_suits row cspace mask (Some slot) = record { once = refl; fit = (tt, tt); few = refl }

copied_suits : (s : State) (cspace object : Serial) (mask : ℕ) (found : Option CapabilityRow) → Suits (copied s cspace object mask found)
copied_suits s cspace object mask None = record { once = refl; fit = tt; few = refl }
copied_suits s cspace object mask (Some row) =
    suits_provided (is_valid_of object row) Retry _ (copied_into_suits row cspace mask (free_slot s cspace.0))

deleted_suits : (found : Option CapabilityRow) → Suits (deleted found)
deleted_suits None = record { once = refl; fit = tt; few = refl }
deleted_suits (Some row) = record { once = refl; fit = (tt, tt); few = refl }

revoked_suits : (found : Option CapabilityRow) → Suits (revoked found)
revoked_suits None = record { once = refl; fit = tt; few = refl }
revoked_suits (Some row) =
    suits_unless (not row.valid) CapRevoked _ (suits_unless row.master InsufRights _ (record { once = refl; fit = (tt, tt); few = refl }))

revoke_all_suits : (finished : Bool) (n : ℕ) → Suits (if finished then Make [] (done_with n) else Unfinished)
revoke_all_suits true n = record { once = refl; fit = tt; few = refl }
revoke_all_suits false n = record { once = refl; fit = tt; few = refl }

created_in_suits : (s : State) (partition cspace : Serial) (k : Kind) (slot : Option ℕ) → Suits (created_in s partition cspace k slot)
created_in_suits s partition cspace k None = record { once = refl; fit = tt; few = refl }
created_in_suits s partition cspace k (Some slot) =
    suits_unless (lacks_room s partition k) Nomem _ (record { once = refl; fit = (tt, (tt, tt)); few = refl })

created_suits : (s : State) (partition cspace : Serial) (k : Option Kind) → Suits (created s partition cspace k)
created_suits s partition cspace None = record { once = refl; fit = tt; few = refl }
created_suits s partition cspace (Some k) = created_in_suits s partition cspace k (free_slot s cspace.0)

quota_suits : (s : State) (partition : Serial) (quota : ℕ) (row : Option PartitionRow) → Suits (quota_given s partition quota row)
quota_suits s partition quota None = record { once = refl; fit = tt; few = refl }
quota_suits s partition quota (Some row) =
    suits_unless (nat_lt (free_units s row.parent.0) quota) Nomem _ (record { once = refl; fit = (tt, (tt, tt)); few = refl })

room_suits : (s : State) (queue : Serial) (depth size : ℕ) (row : Option ObjectRow) → IsConfigurable depth size → Suits (room_given s queue depth size row)
room_suits s queue depth size None fits = record { once = refl; fit = tt; few = refl }
room_suits s queue depth size (Some row) fits =
    suits_unless (nat_lt (free_units s row.partition.0) (room_cost depth size)) Nomem _ (record { once = refl; fit = (tt, (fits, tt)); few = refl })

activated_suits : (object : Serial) (row : Option ObjectRow) → Suits (activated object row)
activated_suits object None = record { once = refl; fit = tt; few = refl }
activated_suits object (Some row) = suits_unless (is_init_stage row.stage) ObjConfig _ (record { once = refl; fit = (tt, tt); few = refl })

mapped_suits : (s : State) (space extent : Serial) (base access flags offset size : ℕ) (row : Option ExtentRow)
    → Suits (mapped s space extent base access flags offset size row)
mapped_suits s space extent base access flags offset size None = record { once = refl; fit = tt; few = refl }
mapped_suits s space extent base access flags offset size (Some row) =
    suits_unless (nat_lt 4096 (page_of base + meant_count row flags size)) AddrOvfl _
    (suits_unless (nat_lt row.count (meant_offset flags offset + meant_count row flags size)) ArgSize _
    (suits_unless (not (access_fits access row.access.0)) Denied _
    (suits_unless (list_any (overlaps space.0 (page_of base) (meant_count row flags size)) s.mappings) Busy _
    (suits_unless (nat_le 64 (count_by (is_row_of space.0) s.mappings)) Nomem _ (record { once = refl; fit = (tt, tt); few = refl })))))

unmapped_row_suits : (row : Option MappingRow) → Suits (unmapped_row row)
unmapped_row_suits None = record { once = refl; fit = tt; few = refl }
unmapped_row_suits (Some row) = record { once = refl; fit = (tt, tt); few = refl }

unmapped_suits : (s : State) (space extent : Serial) (base flags offset size : ℕ) (row : Option ExtentRow)
    → Suits (unmapped s space extent base flags offset size row)
unmapped_suits s space extent base flags offset size None = record { once = refl; fit = tt; few = refl }
unmapped_suits s space extent base flags offset size (Some row) = unmapped_row_suits _

derived_suits : (s : State) (child parent : Serial) (offset size access : ℕ) (row : Option ExtentRow)
    → Suits (derived s child parent offset size access row)
derived_suits s child parent offset size access None = record { once = refl; fit = tt; few = refl }
derived_suits s child parent offset size access (Some row) =
    suits_unless (nat_lt row.count (page_of offset + page_of size)) ArgSize _
    (suits_unless (not (holds_run s.holders parent (row.first.0 + page_of offset) (page_of size)) || not (access_fits access row.access.0)) Denied _
    (record { once = refl; fit = (tt, (refl, (tt, tt))); few = refl }))

donated_to_suits : (s : State) (relation offset count : ℕ) (giver : ExtentRow) (receiver : Option ExtentRow)
    → Suits (donated_to s relation offset count giver receiver)
donated_to_suits s relation offset count giver None = record { once = refl; fit = tt; few = refl }
donated_to_suits s relation offset count giver (Some receiver) =
    suits_unless (not (are_related relation giver receiver)) ArgInval _
    (suits_unless (not (is_within_span receiver (giver.first.0 + offset) count)) AddrInval _
    (suits_unless (not (holds_run s.holders giver.serial (giver.first.0 + offset) count)) Denied _ (record { once = refl; fit = (tt, tt); few = refl })))

donated_suits : (s : State) (relation : ℕ) (receiver : Serial) (offset count : ℕ) (giver : Option ExtentRow)
    → Suits (donated s relation receiver offset count giver)
donated_suits s relation receiver offset count None = record { once = refl; fit = tt; few = refl }
donated_suits s relation receiver offset count (Some giver) = donated_to_suits s relation offset count giver _

exited_suits : (cpu : ℕ) (manager : Bool) → Suits (Make (exit_changes (record { 0 = cpu }) manager) done)
exited_suits cpu true = record { once = refl; fit = (tt, tt); few = refl }
exited_suits cpu false = record { once = refl; fit = (tt, (tt, tt)); few = refl }

-- a number of the shape is within its limit
limits_by : (limit n : ℕ) → ((n == 0) || nat_lt limit n) ≡ false → (0 < n) × (n ≤ limit)
limits_by limit n fits =
    let both : ((n == 0) ≡ false) × (nat_lt limit n ≡ false) = or_none (n == 0) (nat_lt limit n) fits in
    (some n both.0, most n both.1)
  where
    some : (m : ℕ) → (m == 0) ≡ false → 0 < m
    some m is = grind (arith, nat_tests)

    most : (m : ℕ) → nat_lt limit m ≡ false → m ≤ limit
    most m is = grind (arith, nat_tests)

-- a queue of its shape has room for a message
queue_fits : (cap depth size bytes : ℕ) → first_of (shape_refusals (calls.ConfigureQueue cap depth size) bytes) ≡ None
    → IsConfigurable depth size
queue_fits cap depth size bytes shape =
    let deep = first_none ((depth == 0) || nat_lt QUEUE_DEPTH depth) ArgInval (((size == 0) || nat_lt MESSAGE_BYTES size, ArgInval) ∷ []) shape in
    let wide = first_none ((size == 0) || nat_lt MESSAGE_BYTES size) ArgInval [] deep.1 in
    let depths : (0 < depth) × (depth ≤ QUEUE_DEPTH) = limits_by QUEUE_DEPTH depth deep.0 in
    let sizes : (0 < size) × (size ≤ MESSAGE_BYTES) = limits_by MESSAGE_BYTES size wide.0 in
    record { some_depth = depths.0; most_depth = depths.1; some_size = sizes.0; most_size = sizes.1 }

-- each call
decided_suits : (s : State) (cpu : ℕ) (bytes : List ℕ) (grants : List Serial) (call : Call) → first_of (shape_refusals call (length bytes)) ≡ None
    → Suits (decided s cpu call bytes grants)
decided_suits s cpu bytes grants calls.Identify shape = record { once = refl; fit = tt; few = refl }
decided_suits s cpu bytes grants calls.Exit shape = exited_suits cpu (cpu == 0)
decided_suits s cpu bytes grants (calls.BellSend cap flags) shape = sent_suits flags _
decided_suits s cpu bytes grants (calls.BellSetMask cap enable ack) shape = masked_suits enable ack _
decided_suits s cpu bytes grants (calls.BellReceive cap clear) shape = received_suits clear _
decided_suits s cpu bytes grants (calls.BellReset cap) shape = record { once = refl; fit = (tt, tt); few = refl }
decided_suits s cpu bytes grants (calls.MsgqSend cap size buffer flags) shape = put_suits s (grant_at grants 0) bytes _
decided_suits s cpu bytes grants (calls.MsgqRecv cap buffer size) shape = taken_suits (grant_at grants 0) size _ _
decided_suits s cpu bytes grants (calls.MsgqFlush cap) shape = flushed_suits (grant_at grants 0) _
decided_suits s cpu bytes grants (calls.Map space extent base attributes flags offset size) shape =
    mapped_suits s (named_space s cpu space grants) (named_extent space grants) base (user_access attributes) flags offset size _
decided_suits s cpu bytes grants (calls.Unmap space extent base flags offset size) shape =
    unmapped_suits s (named_space s cpu space grants) (named_extent space grants) base flags offset size _
decided_suits s cpu bytes grants (calls.Donate options giver receiver offset size) shape =
    donated_suits s (options % 256) (grant_at grants 1) (page_of offset) (page_of size) _
decided_suits s cpu bytes grants (calls.Derive child parent offset size access) shape =
    derived_suits s (grant_at grants 0) (grant_at grants 1) offset size access _
decided_suits s cpu bytes grants (calls.AsLookup space address) shape =
    suits_provided (nat_lt (page_of address) 4096) AddrInval _ (looked_suits _)
decided_suits s cpu bytes grants (calls.Create partition cspace number) shape =
    created_suits s (grant_at grants 0) (grant_at grants 1) (kind_numbered number)
decided_suits s cpu bytes grants (calls.ConfigurePartition cap quota) shape =
    suits_unless (nat_lt 128 quota) ArgInval _ (quota_suits s (grant_at grants 0) quota _)
decided_suits s cpu bytes grants (calls.ConfigureQueue cap depth size) shape =
    suits_unless (nat_lt 64 depth || nat_lt 1024 size) ArgInval _
    (room_suits s (grant_at grants 0) depth size _ (queue_fits cap depth size (length bytes) shape))
decided_suits s cpu bytes grants (calls.Activate cap) shape = activated_suits (grant_at grants 0) _
decided_suits s cpu bytes grants (calls.CapCopy cspace source mask) shape = copied_suits s (grant_at grants 0) (grant_at grants 1) mask _
decided_suits s cpu bytes grants (calls.CapDelete cspace slot) shape = deleted_suits _
decided_suits s cpu bytes grants (calls.CapRevoke cspace slot) shape = revoked_suits _
decided_suits s cpu bytes grants (calls.CapsRevoke cap) shape = revoke_all_suits (is_finished s (grant_at grants 0)) _
decided_suits s cpu bytes grants (calls.RmAct cap vm) shape =
    suits_unless (nat_lt (length bytes) 4) ArgSize _ (record { once = refl; fit = tt; few = refl })
decided_suits s cpu bytes grants (calls.RmPoll cap) shape = record { once = refl; fit = tt; few = refl }

-- whatever refuses it before
pub decision_suits : (s : State) (moved : Bool) (cpu : ℕ) (call : Call) (bytes : List ℕ) (grants : List Serial)
    → first_of (shape_refusals call (length bytes)) ≡ None → SuitsParts (made_by (decision moved s cpu call bytes grants))
decision_suits s moved cpu call bytes grants shape =
    let suits : Suits (decision moved s cpu call bytes grants) =
    suits_unless (is_at_end s call grants) CapRevoked _ (suits_unless (not (stages_fit s call grants)) ObjState _
    (suits_unless moved Retry _ (decided_suits s cpu bytes grants call shape))) in
    record {
      once = suits.once;
      fit = all_fit (made_by (decision moved s cpu call bytes grants)) suits.fit;
      few = short (made_by (decision moved s cpu call bytes grants)) suits.few;
    }
