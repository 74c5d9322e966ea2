-- What a call with its grants comes to, in a valid state, may be made.
use Rattle.std.proofs.Common.{◌≡◌, ◌%◌, ◌<◌, ◌≤◌, ℕ, Bool, true, false, not, List, [], ◌∷◌, length, refl, arith, Option, Some, None, IsTrue, if◌then◌else◌}
use Rattle.std.specs.Prelude.{◌&&◌, ◌||◌, ◌==◌, is_some, nat_lt}
use Rattle.std.proofs.lemmas.Bool.{and_parts, leb-true}
use Rattle.std.proofs.lemmas.Bool.Decides.{nat_tests}
use Rattle.gh_base.specs.declared.call.Call.{Call}
use Rattle.gh_base.specs.declared.call.Call.TheVariants as calls
use Rattle.gh_base.specs.declared.cap_word.Need.{Need}
use Rattle.gh_base.specs.declared.errno.Errno.{Errno}
use Rattle.gh_base.specs.declared.errno.Errno.TheVariants.{ArgAlign, ArgInval, ArgSize, CapRevoked, ObjState, Retry}
use Rattle.gh_base.specs.declared.ids.Rights.{Rights}
use Rattle.gh_base.specs.declared.ids.Serial.{Serial}
use Rattle.gh_base.specs.declared.ids.TheConstants.Rights as right
use Rattle.gh_base.specs.declared.kind.Kind.{Kind}
use Rattle.gh_base.specs.declared.kind.Kind.TheVariants as kind
use Rattle.gh_base.specs.declared.limits.TheConstants.{PARTITION_UNITS}
use Rattle.gh_model.specs.Act.{all_active, is_active_row}
use Rattle.gh_model.specs.Decide.{decided, decision, is_active, is_at_end, is_init, stages_fit}
use Rattle.gh_model.specs.Decisions.{grant_at, is_init_row}
use Rattle.gh_model.specs.MemoryCalls.{named_extent, named_space, page_of, row_space}
use Rattle.gh_model.specs.BellCalls.{bell_row}
use Rattle.gh_model.specs.QueueCalls.{first_message, queue_fill}
use Rattle.gh_model.specs.Registers.{first_of, has_foreign_attributes, has_foreign_flags, has_partial, is_unaligned, kernel_access, needs_of, of_any_kind, of_kind, range_refusals, shape_refusals, user_access}
use Rattle.gh_model.specs.Rows.{cpu_row, is_cpu, object_row}
use Rattle.gh_model.specs.declared.rows.CpuRow.{CpuRow}
use Rattle.gh_model.specs.declared.rows.ObjectRow.{ObjectRow}
use Rattle.gh_model.specs.declared.state.State.{State}
use Rattle.gh_invariant.specs.Grants.{MayAct, MayMake, grant_fits, grants_stand, is_running}
use Rattle.gh_invariant.specs.Lives.{cpu_fits, lives_as}
use Rattle.gh_invariant.specs.Valid.{IsValid}
use Rattle.gh_invariant.proofs.Counting.{found_all}
use Rattle.gh_invariant.proofs.CapabilityMade.{cap_copy_made, cap_delete_made, cap_revoke_made, caps_revoke_made}
use Rattle.gh_invariant.proofs.ConfigureMade.{configure_partition_made, configure_queue_made}
use Rattle.gh_invariant.proofs.DeriveMade.{derived_made}
use Rattle.gh_invariant.proofs.GrantsReferred.{extent_referred, first_of_two, named_needs, second_of_two, space_referred}
use Rattle.gh_invariant.proofs.MayMake.{active_lives, at_most_by, first_none, granted_kind, not_false, some_pages, unless}
use Rattle.gh_invariant.proofs.MemoryMade.{donated_made, mapped_made, unmapped_made}
use Rattle.gh_invariant.proofs.ObjectsMade.{activate_made, create_made, or_none}
use Rattle.gh_invariant.proofs.PlainMade.{as_lookup_made, exit_made, flushed_made, masked_made, put_made, received_made, rm_act_made, sent_made, taken_made}

-- the first grant fits the first need, and the second the second
first_granted : (objects : List ObjectRow) (need : ℕ × Need) (needs : List (ℕ × Need)) (grants : List Serial)
    → IsTrue (grants_stand objects (need ∷ needs) grants) → IsTrue (grant_fits objects (grant_at grants 0) need.1.kind)
first_granted objects need needs [] stand = absurd (let never : ⊥ = cc in never)
first_granted objects need needs (grant ∷ grants) stand = (and_parts (grant_fits objects grant need.1.kind) _ stand).0

second_granted : (objects : List ObjectRow) (first second : ℕ × Need) (needs : List (ℕ × Need)) (grants : List Serial)
    → IsTrue (grants_stand objects (first ∷ second ∷ needs) grants) → IsTrue (grant_fits objects (grant_at grants 1) second.1.kind)
second_granted objects first second needs [] stand = absurd (let never : ⊥ = cc in never)
second_granted objects first second needs (grant ∷ []) stand =
    absurd (let never : false ≡ true = (and_parts (grant_fits objects grant first.1.kind) false stand).1 in cc)
second_granted objects first second needs (grant ∷ other ∷ grants) stand =
    (and_parts (grant_fits objects other second.1.kind) _ (and_parts (grant_fits objects grant first.1.kind) _ stand).1).0

-- where all are in use, the first and the second are
first_active : (s : State) (need : ℕ × Need) (needs : List (ℕ × Need)) (grants : List Serial)
    → IsTrue (grants_stand s.objects (need ∷ needs) grants) → all_active s grants ≡ true → is_active s (grant_at grants 0) ≡ true
first_active s need needs [] stand all = absurd (let never : ⊥ = cc in never)
first_active s need needs (grant ∷ grants) stand all = (and_parts (is_active_row (object_row s grant.0)) _ all).0

second_active : (s : State) (first second : ℕ × Need) (needs : List (ℕ × Need)) (grants : List Serial)
    → IsTrue (grants_stand s.objects (first ∷ second ∷ needs) grants) → all_active s grants ≡ true → is_active s (grant_at grants 1) ≡ true
second_active s first second needs [] stand all = absurd (let never : ⊥ = cc in never)
second_active s first second needs (grant ∷ []) stand all =
    absurd (let never : false ≡ true = (and_parts (grant_fits s.objects grant first.1.kind) false stand).1 in cc)
second_active s first second needs (grant ∷ other ∷ grants) stand all =
    (and_parts (is_active_row (object_row s other.0)) _ (and_parts (is_active_row (object_row s grant.0)) _ all).1).0

-- what a call was granted of a kind, and is in use, lives as that kind
module _ (s : State) (slot : ℕ) (k : Kind) (rights : Rights) (grants : List Serial) where
  first_fits : (others : List (ℕ × Need)) → IsTrue (grants_stand s.objects ((slot, of_kind k rights) ∷ others) grants)
      → is_active s (grant_at grants 0) ≡ true → IsTrue (lives_as s.objects (grant_at grants 0).0 k)
  first_fits others stand active =
      granted_kind s.objects (grant_at grants 0) k (first_granted s.objects (slot, of_kind k rights) others grants stand)
      (active_lives s (grant_at grants 0) active)

  first_lives : (others : List (ℕ × Need)) → IsTrue (grants_stand s.objects ((slot, of_kind k rights) ∷ others) grants)
      → all_active s grants ≡ true → IsTrue (lives_as s.objects (grant_at grants 0).0 k)
  first_lives others stand all =
      first_fits others stand (first_active s (slot, of_kind k rights) others grants stand all)

  second_lives : (first : ℕ × Need) → IsTrue (grants_stand s.objects (first ∷ (slot, of_kind k rights) ∷ []) grants)
      → all_active s grants ≡ true → IsTrue (lives_as s.objects (grant_at grants 1).0 k)
  second_lives first stand all =
      granted_kind s.objects (grant_at grants 1) k (second_granted s.objects first (slot, of_kind k rights) [] grants stand)
      (active_lives s (grant_at grants 1) (second_active s first (slot, of_kind k rights) [] grants stand all))

  -- the same of one in stage init
  init_lives : (others : List (ℕ × Need)) → IsTrue (grants_stand s.objects ((slot, of_kind k rights) ∷ others) grants)
      → IsTrue (is_init s (grant_at grants 0)) → IsTrue (lives_as s.objects (grant_at grants 0).0 k)
  init_lives others stand init =
      granted_kind s.objects (grant_at grants 0) k (first_granted s.objects (slot, of_kind k rights) others grants stand)
      (new_lives (object_row s (grant_at grants 0).0) init)
    where
      new_lives : (row : Option ObjectRow) → is_init_row row ≡ true → IsTrue (is_some row)
      new_lives None is = absurd (let never : ⊥ = cc in never)
      new_lives (Some row) is = refl

-- a CPU that runs has an address space that lives
own_space_by : (s : State) (valid : IsValid s) (cpu : ℕ) (row : Option CpuRow) → cpu_row s cpu ≡ row → IsTrue (is_running row)
    → IsTrue (lives_as s.objects (row_space row).0 kind.Space)
own_space_by s valid cpu None found running = absurd (let never : ⊥ = cc in never)
own_space_by s valid cpu (Some row) found running =
    lives row.exited (lives_as s.objects row.cspace.0 kind.Cspace) (lives_as s.objects row.space.0 kind.Space) running
    (found_all (is_cpu cpu) (cpu_fits s.objects) s.cpus row valid.cpus.attached found)
  where
    lives : (exited cspace space : Bool) → not exited ≡ true → (exited || (cspace && space)) ≡ true → space ≡ true
    lives true cspace space running fits = absurd (let never : ⊥ = cc in never)
    lives false cspace space running fits = (and_parts cspace space fits).1

own_space : (s : State) (valid : IsValid s) (cpu : ℕ) → IsTrue (is_running (cpu_row s cpu))
    → IsTrue (lives_as s.objects (row_space (cpu_row s cpu)).0 kind.Space)
own_space s valid cpu running = own_space_by s valid cpu (cpu_row s cpu) refl running

-- the address space and the extent that a call names live
module _ (s : State) (valid : IsValid s) (cpu : ℕ) (running : IsTrue (is_running (cpu_row s cpu)))
    (space extent : ℕ) (rights : Rights) (grants : List Serial) (all : all_active s grants ≡ true) where
  abbrev space_named : Bool → Serial
  space_named own = if own then row_space (cpu_row s cpu) else grant_at grants 0

  abbrev extent_named : Bool → Serial
  extent_named own = if own then grant_at grants 0 else grant_at grants 1

  space_by : (own : Bool) → IsTrue (grants_stand s.objects (named_needs space extent rights own) grants)
      → IsTrue (lives_as s.objects (space_named own).0 kind.Space)
  space_by true stand = own_space s valid cpu running
  space_by false stand =
      first_lives s space kind.Space rights grants ((extent, of_kind kind.Extent rights) ∷ []) stand all

  extent_by : (own : Bool) → IsTrue (grants_stand s.objects (named_needs space extent rights own) grants)
      → IsTrue (lives_as s.objects (extent_named own).0 kind.Extent)
  extent_by true stand = first_lives s extent kind.Extent rights grants [] stand all
  extent_by false stand =
      second_lives s extent kind.Extent rights grants (space, of_kind kind.Space rights) stand all

-- what shapes say of numbers

size_part : (base partial offset size zero : Bool) → (base || (partial && (offset || size))) ≡ false → (partial && zero) ≡ false
    → partial ≡ true → (size ≡ false) × (zero ≡ false)
size_part true partial offset size zero aligned some is = absurd (let never : ⊥ = cc in never)
size_part false false offset size zero aligned some is = absurd (let never : ⊥ = cc in never)
size_part false true true size zero aligned some is = absurd (let never : ⊥ = cc in never)
size_part false true false size zero aligned some is = (aligned, some)

-- the refusals of map, from the last ones on
abbrev without_access : ℕ → ℕ → ℕ → ℕ → ℕ → List (Bool × Errno)
without_access attributes flags base offset size =
    (user_access attributes == 0, ArgInval) ∷ range_refusals flags base offset size

abbrev with_two_accesses : ℕ → ℕ → ℕ → ℕ → ℕ → List (Bool × Errno)
with_two_accesses attributes flags base offset size =
    (not (user_access attributes == kernel_access attributes), ArgInval) ∷ without_access attributes flags base offset size

abbrev with_bad_access : ℕ → ℕ → ℕ → ℕ → ℕ → List (Bool × Errno)
with_bad_access attributes flags base offset size =
    ((user_access attributes == 3) || (kernel_access attributes == 3), ArgInval) ∷ with_two_accesses attributes flags base offset size

abbrev with_attributes : ℕ → ℕ → ℕ → ℕ → ℕ → List (Bool × Errno)
with_attributes attributes flags base offset size =
    (has_foreign_attributes attributes, ArgInval) ∷ with_bad_access attributes flags base offset size

-- with PARTIAL, map means a page at least
map_pages : (space extent base attributes flags offset size bytes : ℕ)
    → first_of (shape_refusals (calls.Map space extent base attributes flags offset size) bytes) ≡ None
    → has_partial flags ≡ true → IsTrue (nat_lt 0 (page_of size))
map_pages space extent base attributes flags offset size bytes shape partial =
    let second = first_none (has_foreign_flags flags) ArgInval (with_attributes attributes flags base offset size) shape in
    let third = first_none (has_foreign_attributes attributes) ArgInval (with_bad_access attributes flags base offset size) second.1 in
    let fourth = first_none ((user_access attributes == 3) || (kernel_access attributes == 3)) ArgInval (with_two_accesses attributes flags base offset size) third.1 in
    let fifth = first_none (not (user_access attributes == kernel_access attributes)) ArgInval (without_access attributes flags base offset size) fourth.1 in
    let ranges = first_none (user_access attributes == 0) ArgInval (range_refusals flags base offset size) fifth.1 in
    let aligned = first_none (is_unaligned base || (has_partial flags && (is_unaligned offset || is_unaligned size))) ArgAlign
    ((has_partial flags && (size == 0), ArgSize) ∷ []) ranges.1 in
    let some = first_none (has_partial flags && (size == 0)) ArgSize [] aligned.1 in
    let both : (is_unaligned size ≡ false) × ((size == 0) ≡ false) =
    size_part (is_unaligned base) (has_partial flags) (is_unaligned offset) (is_unaligned size) (size == 0) aligned.0 some.0 partial in
    some_pages size both.0 both.1

derive_pages : (child parent offset size access bytes : ℕ)
    → first_of (shape_refusals (calls.Derive child parent offset size access) bytes) ≡ None → IsTrue (nat_lt 0 (page_of size))
derive_pages child parent offset size access bytes shape =
    let bad : Bool × Errno = ((access == 0) || (access == 3) || nat_lt 7 access, ArgInval) in
    let aligned = first_none (is_unaligned offset || is_unaligned size) ArgAlign ((size == 0, ArgSize) ∷ bad ∷ []) shape in
    let some = first_none (size == 0) ArgSize (bad ∷ []) aligned.1 in
    some_pages size (or_none (is_unaligned offset) (is_unaligned size) aligned.0).1 some.0

quota_bounds : (quota : ℕ) → ((quota == 0) || nat_lt PARTITION_UNITS quota) ≡ false → (0 < quota) × (quota ≤ PARTITION_UNITS)
quota_bounds quota fits =
    let both : ((quota == 0) ≡ false) × (nat_lt PARTITION_UNITS quota ≡ false) = or_none (quota == 0) (nat_lt PARTITION_UNITS quota) fits in
    (some quota both.0, leb-true _ _ (at_most_by PARTITION_UNITS quota both.1))
  where
    some : (n : ℕ) → (n == 0) ≡ false → 0 < n
    some n is = grind (arith, nat_tests)

module _ (s : State) (valid : IsValid s) (cpu : ℕ) (running : IsTrue (is_running (cpu_row s cpu))) (bytes : List ℕ) (grants : List Serial) where
  -- what each call comes to may be made
  decided_made : (call : Call) → first_of (shape_refusals call (length bytes)) ≡ None
      → IsTrue (grants_stand s.objects (needs_of call) grants) → stages_fit s call grants ≡ true → is_at_end s call grants ≡ false
      → MayMake s (decided s cpu call bytes grants)
  decided_made calls.Identify shape stand stages live = tt
  decided_made calls.Exit shape stand stages live = exit_made s (record { 0 = cpu })
  decided_made (calls.BellSend cap flags) shape stand stages live = sent_made s flags (bell_row s (grant_at grants 0))
  decided_made (calls.BellSetMask cap enable ack) shape stand stages live = masked_made s enable ack (bell_row s (grant_at grants 0))
  decided_made (calls.BellReceive cap clear) shape stand stages live = received_made s clear (bell_row s (grant_at grants 0))
  decided_made (calls.BellReset cap) shape stand stages live = record { first = tt; others = tt }
  decided_made (calls.MsgqSend cap size buffer flags) shape stand stages live =
      put_made s (grant_at grants 0) bytes
  decided_made (calls.MsgqRecv cap buffer size) shape stand stages live =
      taken_made s (grant_at grants 0) size (queue_fill s (grant_at grants 0)) (first_message s (grant_at grants 0))
  decided_made (calls.MsgqFlush cap) shape stand stages live = flushed_made s (grant_at grants 0) (queue_fill s (grant_at grants 0))
  decided_made (calls.Map space extent base attributes flags offset size) shape stand stages live =
      mapped_made s valid (named_space s cpu space grants) (named_extent space grants) base (user_access attributes) flags offset size
      _ refl (map_pages space extent base attributes flags offset size (length bytes) shape)
      (space_by s valid cpu running space extent right.MAP grants stages (space == 0) stand)
      (extent_by s valid cpu running space extent right.MAP grants stages (space == 0) stand)
      (space_referred s cpu running space extent right.MAP grants live (space == 0) stand)
      (extent_referred s cpu running space extent right.MAP grants live (space == 0) stand)
  decided_made (calls.Unmap space extent base flags offset size) shape stand stages live =
      unmapped_made s (named_space s cpu space grants) (named_extent space grants) base flags offset size _
  decided_made (calls.Donate options giver receiver offset size) shape stand stages live =
      donated_made s (options % 256) (grant_at grants 1) (page_of offset) (page_of size) _
  decided_made (calls.Derive child parent offset size access) shape stand stages live =
      let both : (is_init s (grant_at grants 0) ≡ true) × (is_active s (grant_at grants 1) ≡ true) = and_parts _ _ stages in
      derived_made s valid (grant_at grants 0) (grant_at grants 1) offset size access _ refl
      (derive_pages child parent offset size access (length bytes) shape) both.0
      (init_lives s child kind.Extent right.DERIVE grants ((parent, of_kind kind.Extent right.DERIVE) ∷ []) stand both.0)
      (second_of_two s grants (child, of_kind kind.Extent right.DERIVE) (parent, of_kind kind.Extent right.DERIVE) stand live)
  decided_made (calls.AsLookup space address) shape stand stages live =
      as_lookup_made s (named_space s cpu space grants) address
  decided_made (calls.Create partition cspace number) shape stand stages live =
      create_made s valid (grant_at grants 0) (grant_at grants 1) number
      (first_lives s partition kind.Partition right.CREATE grants ((cspace, of_kind kind.Cspace right.CREATE) ∷ []) stand stages)
      (second_lives s cspace kind.Cspace right.CREATE grants (partition, of_kind kind.Partition right.CREATE) stand stages)
      (first_of_two s grants (partition, of_kind kind.Partition right.CREATE) (cspace, of_kind kind.Cspace right.CREATE) stand live)
      (second_of_two s grants (partition, of_kind kind.Partition right.CREATE) (cspace, of_kind kind.Cspace right.CREATE) stand live)
  decided_made (calls.ConfigurePartition cap quota) shape stand stages live =
      let bounds : (0 < quota) × (quota ≤ PARTITION_UNITS) =
      quota_bounds quota (first_none ((quota == 0) || nat_lt PARTITION_UNITS quota) ArgInval [] shape).0 in
      configure_partition_made s valid (grant_at grants 0) quota bounds.0 bounds.1 stages
      (init_lives s cap kind.Partition right.ACTIVATE grants [] stand stages)
  decided_made (calls.ConfigureQueue cap depth size) shape stand stages live =
      configure_queue_made s valid (grant_at grants 0) depth size stages
      (init_lives s cap kind.Queue right.ACTIVATE grants [] stand stages)
  decided_made (calls.Activate cap) shape stand stages live = activate_made s (grant_at grants 0)
  decided_made (calls.CapCopy cspace source mask) shape stand stages live =
      cap_copy_made s valid cpu (grant_at grants 0) (grant_at grants 1) source mask
      (first_fits s cspace kind.Cspace right.COPY grants ((source, of_any_kind right.NONE) ∷ []) stand stages)
      (first_of_two s grants (cspace, of_kind kind.Cspace right.COPY) (source, of_any_kind right.NONE) stand live)
  decided_made (calls.CapDelete cspace slot) shape stand stages live = cap_delete_made s (grant_at grants 0) slot
  decided_made (calls.CapRevoke cspace slot) shape stand stages live = cap_revoke_made s (grant_at grants 0) slot
  decided_made (calls.CapsRevoke cap) shape stand stages live = caps_revoke_made s (grant_at grants 0)
  decided_made (calls.RmAct cap vm) shape stand stages live = rm_act_made s vm bytes
  decided_made (calls.RmPoll cap) shape stand stages live = tt

-- what a call comes to may be made, whatever refuses it before
pub decision_made : (s : State) → IsValid s → (moved : Bool) (cpu : ℕ) (call : Call) (bytes : List ℕ) (grants : List Serial)
    → MayAct s cpu call (length bytes) grants → MayMake s (decision moved s cpu call bytes grants)
decision_made s valid moved cpu call bytes grants may =
    unless s (is_at_end s call grants) CapRevoked _ (λ live.
    unless s (not (stages_fit s call grants)) ObjState _ (λ stages.
    unless s moved Retry _ (λ here.
    decided_made s valid cpu may.running bytes grants call may.shape may.granted (not_false _ stages) live)))
