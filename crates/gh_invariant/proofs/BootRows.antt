-- The changes of a boot line that maps pages, fills a slot, attaches a CPU or links a VM may be made.
use Rattle.std.proofs.Common.{◌≡◌, ◌+◌, ◌*◌, ◌≤◌, ◌∙◌, ◌&&◌, ◌==◌, ◌++◌, not, ℕ, Bool, true, false, List, [], ◌∷◌, refl, subst, sym, ap, arith, IsTrue, Option, Some, None, find, nat_le, nat_lt, bit_and}
use Rattle.std.specs.Prelude.{count_by, is_some}
use Rattle.std.specs.List.{list_all, list_any}
use Rattle.std.specs.Option.{option_map_or}
use Rattle.std.proofs.lemmas.Bool.{and_from, and_parts, and_right, both_ways, eq-eqb, eqb-true, leb-true, lt-ltb, ltb-true, ne_eqb, not-true, or_parts}
use Rattle.gh_base.specs.Kind.{kind_number, kind_rights}
use Rattle.gh_base.specs.declared.access.Access.{Access}
use Rattle.gh_base.specs.declared.ids.Rights.{Rights}
use Rattle.gh_base.specs.declared.ids.Serial.{Serial}
use Rattle.gh_base.specs.declared.ids.VmId.{VmId}
use Rattle.gh_base.specs.declared.kind.Kind.{Kind}
use Rattle.gh_base.specs.declared.kind.Kind.TheVariants as kind
use Rattle.gh_model.specs.Boot.{access_fits, boot_capability, boot_cpu, boot_mapping, changes_of_line, is_access, is_free_slot, is_kind, is_linked_queue, is_master_of, is_of_kind, is_row_of, is_small_queue, kind_at, line_fits, link_fits, manager_cspace, mapping_fits, may_attach, overlaps, queues_may_link, rights_fit_kind, vm_count, vm_may_link}
use Rattle.gh_model.specs.Changes.{changed}
use Rattle.gh_model.specs.Fitting.{IsNumbered}
use Rattle.gh_model.specs.QueueCalls.{one_if}
use Rattle.gh_model.specs.Rows.{cpu_row, fills, is_cpu, is_extent, is_object, object_row}
use Rattle.gh_model.specs.Word.{is_slot}
use Rattle.gh_model.specs.declared.boot_line.BootLine.TheVariants.{Map, Cap, Vm, Rm, Link}
use Rattle.gh_model.specs.declared.change.Change.TheVariants.{AddCpu, AddLink, FillSlot}
use Rattle.gh_model.specs.declared.rows.CapabilityRow.{CapabilityRow}
use Rattle.gh_model.specs.declared.rows.CpuRow.{CpuRow}
use Rattle.gh_model.specs.declared.rows.ExtentRow.{ExtentRow}
use Rattle.gh_model.specs.declared.rows.LinkRow.{LinkRow}
use Rattle.gh_model.specs.declared.rows.ObjectRow.{ObjectRow}
use Rattle.gh_model.specs.declared.state.State.{State}
use Rattle.gh_invariant.specs.Lives.{cpu_fits, lives_as, space_lives, spans_row}
use Rattle.gh_invariant.specs.Premises.{MayAttach, MayChangeAll, MayLink, MayPut}
use Rattle.gh_invariant.specs.Valid.{IsValidTo}
use Rattle.gh_invariant.proofs.BootObjects.{NoneRetired}
use Rattle.gh_invariant.proofs.Counting.{count_cons, find_push_other, found_all, found_one, one_false, unfound}
use Rattle.gh_invariant.proofs.CpusFit.{link_from}

-- what is found, and what isn't

-- where no row passes, none is counted
none_any : {R : Type 0} (p : R → Bool) (rows : List R) → list_any p rows ≡ false
    → count_by p rows ≡ 0
none_any p [] none = refl
none_any p (row ∷ rows) none =
    let parts : (p row ≡ false) × (list_any p rows ≡ false) = or_parts _ _ none in
    let others : count_by p rows ≡ 0 = none_any p rows parts.1 in
    count_cons p row rows ∙ omega (arith, one_false (p row) parts.0, others)

none_found : {R : Type 0} (p : R → Bool) (rows : List R) → list_any p rows ≡ false
    → find p rows ≡ None
none_found p rows none = unfound p rows (none_any p rows none)

not_some : {R : Type 0} (found : Option R) → not (is_some found) ≡ true → found ≡ None
not_some None is = refl
not_some (Some row) is = absurd (let never : ⊥ = cc in never)

given_some : {R : Type 0} {P : Type 0} (found : Option R) → is_some found ≡ true
    → ((row : R) → found ≡ Some row → P) → P
given_some None some by = absurd (let never : ⊥ = cc in never)
given_some (Some row) some by = by row refl

counted_true : (n : ℕ) (b : Bool) → 1 ≤ n → n ≤ one_if b → b ≡ true
counted_true n true some most = refl
counted_true n false some most = absurd (let none : one_if false ≡ 0 = refl in omega arith)

never_master : {P : Type 0} → false ≡ true → P
never_master {P} is = absurd (both_ways false refl is)

-- capabilities

-- the kind of an object, and a partition's where there is none
abbrev kind_or : Option ObjectRow → Kind
kind_or found = option_map_or (λ (row : ObjectRow). row.kind) found kind.Partition

-- the object lives as its kind, and the rights are within those of the kind
record KindHas (found : Option ObjectRow) (rights : ℕ) : Type 0 where
  lives : IsTrue (is_of_kind (kind_or found) found)
  within : (bit_and rights (kind_rights (kind_or found)) == rights) ≡ true

kind_has : (found : Option ObjectRow) (rights : ℕ) → rights_fit_kind rights found ≡ true
    → KindHas found rights
kind_has None rights fits = absurd (let never : ⊥ = cc in never)
kind_has (Some row) rights fits =
    record { lives = eq-eqb (kind_number row.kind) (kind_number row.kind) refl; within = fits }

-- an object of a kind has the rights of the kind
rights_by : (k : Kind) (rights : ℕ) → (bit_and rights (kind_rights k) == rights) ≡ true
    → (found : Option ObjectRow) → is_of_kind k found ≡ true
    → ((j : Kind) → kind_number j ≡ kind_number k → j ≡ k) → rights_fit_kind rights found ≡ true
rights_by k rights fits None is same = absurd (let never : ⊥ = cc in never)
rights_by k rights fits (Some row) is same =
    subst (λ (j : Kind). (bit_and rights (kind_rights j) == rights) ≡ true)
    (sym (same row.kind (eqb-true (kind_number row.kind) (kind_number k) is))) fits

-- kinds of one number are one
one_partition : (j : Kind) → kind_number j ≡ 1 → j ≡ kind.Partition
one_partition kind.Partition is = refl
one_partition kind.Cspace is = absurd (omega (arith, is))
one_partition kind.Space is = absurd (omega (arith, is))
one_partition kind.Extent is = absurd (omega (arith, is))
one_partition kind.Bell is = absurd (omega (arith, is))
one_partition kind.Queue is = absurd (omega (arith, is))

one_queue : (j : Kind) → kind_number j ≡ 6 → j ≡ kind.Queue
one_queue kind.Partition is = absurd (omega (arith, is))
one_queue kind.Cspace is = absurd (omega (arith, is))
one_queue kind.Space is = absurd (omega (arith, is))
one_queue kind.Extent is = absurd (omega (arith, is))
one_queue kind.Bell is = absurd (omega (arith, is))
one_queue kind.Queue is = refl

-- no CPU has exited before the first entry
abbrev pub is_running : CpuRow → Bool
is_running row = not row.exited

abbrev pub AllRunning : State → Type 0
AllRunning s = IsTrue (list_all is_running s.cpus)

-- what a line that links a VM asks of the state
record LinkAsks (s : State) (vm extent request reply : ℕ) : Type 0 where
  manager : is_some (cpu_row s 0) ≡ true
  there : is_some (cpu_row s vm) ≡ true
  extent_lives : IsTrue (is_kind s extent kind.Extent)
  request_lives : IsTrue (is_kind s request kind.Queue)
  reply_lives : IsTrue (is_kind s reply kind.Queue)
  differ : (request == reply) ≡ false
  first_free : IsTrue (is_free_slot s (manager_cspace s) (2 * vm))
  second_free : IsTrue (is_free_slot s (manager_cspace s) (2 * vm + 1))

link_asks : (s : State) (vm extent request reply : ℕ)
    → IsTrue (link_fits s vm extent request reply) → LinkAsks s vm extent request reply
link_asks s vm extent request reply fits =
    let second : _ × _ = and_parts _ (is_free_slot s (manager_cspace s) (2 * vm + 1)) fits in
    let first : _ × _ = and_parts _ (is_free_slot s (manager_cspace s) (2 * vm)) second.0 in
    let queues : _ × _ = and_parts _ (queues_may_link s request reply) first.0 in
    let spans : _ × _ = and_parts (vm_may_link s vm) (is_kind s extent kind.Extent) queues.0 in
    let small : _ × _ = and_parts _ (list_any (is_small_queue request) s.queues) queues.1 in
    let unlinked : _ × _ = and_parts _ (not (list_any (is_linked_queue reply) s.links)) small.0 in
    let free : _ × _ =
    and_parts _ (not (list_any (is_linked_queue request) s.links)) unlinked.0 in
    let differ : _ × _ = and_parts _ (not (request == reply)) free.0 in
    let live : _ × _ =
    and_parts (is_kind s request kind.Queue) (is_kind s reply kind.Queue) differ.0 in
    let alone : _ × _ =
    and_parts _ (not (list_any (λ (row : LinkRow). row.vm.0 == vm) s.links)) spans.0 in
    let there : _ × _ = and_parts _ (is_some (cpu_row s vm)) alone.0 in
    let manager : _ × _ = and_parts (is_some (cpu_row s 0)) (nat_lt 0 vm) there.0 in
    record {
      manager = manager.0;
      there = there.1;
      extent_lives = spans.1;
      request_lives = live.0;
      reply_lives = live.1;
      differ = not-true _ differ.1;
      first_free = first.1;
      second_free = second.1;
    }

module _ (last : ℕ) (s : State) (valid : IsValidTo last s) (fresh : NoneRetired s) where
  -- an extent with a span lives
  span_lives : (extent : ℕ) (row : ExtentRow) → find (is_extent extent) s.extents ≡ Some row
      → IsTrue (lives_as s.objects extent kind.Extent)
  span_lives extent row found =
      counted_true (count_by (is_extent extent) s.extents)
      (lives_as s.objects extent kind.Extent) (found_one (is_extent extent) s.extents row found)
      (valid.rows.extents extent)

  map_found : (space extent : Serial) (base offset count : ℕ) (access : Access)
      → IsTrue (is_kind s space.0 kind.Space)
      → (found : Option ExtentRow) → find (is_extent extent.0) s.extents ≡ found
      → IsTrue (mapping_fits s space.0 base offset count access.0 found)
      → MayChangeAll s (changes_of_line s (Map space extent base offset count access))
  map_found space extent base offset count access home None is fits =
      absurd (let never : ⊥ = cc in never)
  map_found space extent base offset count access home (Some row) is fits =
      let few = and_parts _ (nat_lt (count_by (is_row_of space.0) s.mappings) 64) fits in
      let free = and_parts _ (not (list_any (overlaps space.0 base count) s.mappings)) few.0 in
      let narrow = and_parts _ (access_fits access.0 row.access.0) free.0 in
      let within = and_parts _ (nat_le (offset + count) row.count) narrow.0 in
      let low = and_parts _ (nat_le (base + count) 4096) within.0 in
      let some = and_parts (nat_le 1 count) (is_access access.0) low.0 in
      let more : 1 ≤ count = leb-true 1 count some.0 in
      record {
        first = record {
          stands = and_from _ _
              (and_from _ _
              (and_from _ _ (and_from _ _ home (span_lives extent.0 row is))
              (lt-ltb 0 count (omega arith))) low.1)
              (ap (spans_row (boot_mapping space extent base offset count access)) is
              ∙ and_from _ _ within.1 narrow.1);
          apart = not-true (list_any (overlaps space.0 base count) s.mappings) free.1;
          few = ltb-true (count_by (is_row_of space.0) s.mappings) 64 few.1;
          from_space = fresh space.0;
          from_extent = fresh extent.0;
        };
        others = tt;
      }

  pub map_may : (space extent : Serial) (base offset count : ℕ) (access : Access)
      → IsTrue (line_fits s (Map space extent base offset count access))
      → MayChangeAll s (changes_of_line s (Map space extent base offset count access))
  map_may space extent base offset count access fits =
      let parts : (is_kind s space.0 kind.Space ≡ true)
      × (mapping_fits s space.0 base offset count access.0
      (find (is_extent extent.0) s.extents) ≡ true) = and_parts _ _ fits in
      map_found space extent base offset count access parts.0 (find (is_extent extent.0) s.extents)
      refl parts.1

  -- a capability of an object that lives, in a free slot
  fill_may : (cspace slot object rights : ℕ) (master : Bool)
      → IsTrue (is_kind s cspace kind.Cspace) → IsTrue (is_free_slot s cspace slot)
      → rights_fit_kind rights (object_row s object) ≡ true
      → (master ≡ true → count_by (is_master_of object) s.caps ≡ 0)
      → MayPut s (boot_capability s cspace slot object rights master)
  fill_may cspace slot object rights master home free fits only =
      let has : KindHas (object_row s object) rights =
      kind_has (object_row s object) rights fits in
      let parts : (is_slot slot ≡ true) × (not (list_any (fills cspace slot) s.caps) ≡ true) =
      and_parts _ _ free in
      record {
        slot = parts.0;
        free = none_found (fills cspace slot) s.caps (not-true _ parts.1);
        home = home;
        object = has.lives;
        valid = refl;
        rights = has.within;
        master = only;
        from_slot = fresh cspace;
        from_capability = fresh object;
      }

  only_master : (master any : Bool) (object : ℕ) → list_any (is_master_of object) s.caps ≡ any
      → (master && any) ≡ false → master ≡ true → count_by (is_master_of object) s.caps ≡ 0
  only_master true true object is none masters = absurd (let never : ⊥ = cc in never)
  only_master true false object is none masters = none_any (is_master_of object) s.caps is
  only_master false any object is none masters = absurd (let never : ⊥ = cc in never)

  pub cap_may : (cspace : Serial) (slot : ℕ) (object : Serial) (rights : Rights) (master : Bool)
      → IsTrue (line_fits s (Cap cspace slot object rights master))
      → MayChangeAll s (changes_of_line s (Cap cspace slot object rights master))
  cap_may cspace slot object rights master fits =
      let last : _ × (not (master && list_any (is_master_of object.0) s.caps) ≡ true) =
      and_parts _ _ fits in
      let third : _ × (rights_fit_kind rights.0 (object_row s object.0) ≡ true) =
      and_parts _ _ last.0 in
      let first : (is_kind s cspace.0 kind.Cspace ≡ true)
      × (is_free_slot s cspace.0 slot ≡ true) = and_parts _ _ third.0 in
      record {
        first = fill_may cspace.0 slot object.0 rights.0 master first.0 first.1 third.1
            (only_master master (list_any (is_master_of object.0) s.caps) object.0 refl
            (not-true _ last.1));
        others = tt;
      }

  -- a new CPU with spaces that live
  attach_may : (cpu : ℕ) (cspace space : Serial) → cpu_row s cpu ≡ None
      → IsTrue (may_attach s cspace.0 space.0) → MayAttach s (boot_cpu cpu cspace space)
  attach_may cpu cspace space new may =
      let live : (is_kind s cspace.0 kind.Cspace ≡ true) × (is_kind s space.0 kind.Space ≡ true) =
      and_parts _ _ (and_parts _ _ (and_parts _ _ may).0).0 in
      record {
        new = new;
        runs = refl;
        cspace = live.0;
        space = live.1;
        from_cspace = fresh cspace.0;
        from_space = fresh space.0;
      }

  pub vm_may : (cspace space : Serial) → IsNumbered s → IsTrue (line_fits s (Vm cspace space))
      → MayChangeAll s (changes_of_line s (Vm cspace space))
  vm_may cspace space numbered fits = record {
    first = attach_may (vm_count s + 1) cspace space
        (unfound (is_cpu (vm_count s + 1)) s.cpus (numbered.beyond (vm_count s + 1) (omega arith)))
        (and_parts _ _ fits).0;
    others = tt;
  }

  pub rm_may : (cspace space partition : Serial) → IsTrue (line_fits s (Rm cspace space partition))
      → MayChangeAll s (changes_of_line s (Rm cspace space partition))
  rm_may cspace space partition fits =
      let last : _ × (is_kind s partition.0 kind.Partition ≡ true) = and_parts _ _ fits in
      let third : _ × (is_free_slot s cspace.0 1 ≡ true) = and_parts _ _ last.0 in
      let first : (not (is_some (cpu_row s 0)) ≡ true)
      × (may_attach s cspace.0 space.0 ≡ true) = and_parts _ _ third.0 in
      let home : is_kind s cspace.0 kind.Cspace ≡ true =
      (and_parts _ _ (and_parts _ _ (and_parts _ _ first.1).0).0).0 in
      let slot : MayPut s (boot_capability s cspace.0 1 partition.0 128 false) =
      fill_may cspace.0 1 partition.0 128 false home third.1
      (rights_by kind.Partition 128 refl (find (is_object partition.0) s.objects) last.1
      one_partition) never_master in
      record {
        first = attach_may 0 cspace space (not_some (cpu_row s 0) first.0) first.1;
        others = record { first = unmoved (boot_cpu 0 cspace space) _ slot; others = tt };
      }
    where
      -- a CPU more leaves what a slot needs
      unmoved : (cpu : CpuRow) (row : CapabilityRow) → MayPut s row
          → MayPut (changed s (AddCpu cpu)) row
      unmoved cpu row may = record {
        slot = may.slot;
        free = may.free;
        home = may.home;
        object = may.object;
        valid = may.valid;
        rights = may.rights;
        master = may.master;
        from_slot = may.from_slot;
        from_capability = may.from_capability;
      }

  module _ (running : AllRunning s) where
    -- a CPU before the first entry is attached to what lives
    cpu_lives : (cpu : ℕ) (row : CpuRow) → find (is_cpu cpu) s.cpus ≡ Some row
        → (lives_as s.objects row.cspace.0 kind.Cspace ≡ true)
        × (lives_as s.objects row.space.0 kind.Space ≡ true)
    cpu_lives cpu row found =
        let runs : row.exited ≡ false =
        not-true row.exited (found_all (is_cpu cpu) is_running s.cpus row running found) in
        and_parts _ _
        (rw runs at (found_all (is_cpu cpu) (cpu_fits s.objects) s.cpus row valid.cpus.attached
        found))

    manager_home : (found : Option CpuRow) → find (is_cpu 0) s.cpus ≡ found → is_some found ≡ true
        → IsTrue (is_kind s (option_map_or (λ (row : CpuRow). row.cspace.0) found 0) kind.Cspace)
    manager_home None is there = absurd (let never : ⊥ = cc in never)
    manager_home (Some row) is there = (cpu_lives 0 row is).0

    -- the second slot is free beside the first, and else as before
    beside_first : (first row : CapabilityRow) → row.slot ≡ first.slot + 1 → row.master ≡ false
        → MayPut s row → MayPut (changed s (FillSlot first)) row
    beside_first first row number plain may = record {
      slot = may.slot;
      free = find_push_other (fills row.cspace.0 row.slot) s.caps first
          (and_right _ _ (ne_eqb first.slot row.slot (λ same. omega arith))) ∙ may.free;
      home = may.home;
      object = may.object;
      valid = may.valid;
      rights = may.rights;
      master = λ is. absurd (both_ways row.master plain is);
      from_slot = may.from_slot;
      from_capability = may.from_capability;
    }

    link_row_may : (vm : VmId) (extent request reply : Serial) (first second : CapabilityRow)
        → LinkAsks s vm.0 extent.0 request.0 reply.0 → (cpu : CpuRow)
        → cpu_row s vm.0 ≡ Some cpu
        → MayLink (changed (changed s (FillSlot first)) (FillSlot second))
        (record { vm = vm; extent = extent; request = request; reply = reply })
    link_row_may vm extent request reply first second asks cpu found = record {
      cpu = cpu;
      found = found;
      stands = link_from s.objects s.cpus
          (record { vm = vm; extent = extent; request = request; reply = reply }) (record {
            space = ap (space_lives s.objects) found ∙ (cpu_lives vm.0 cpu found).1;
            extent = asks.extent_lives;
            request = asks.request_lives;
            reply = asks.reply_lives;
          });
      apart = asks.differ;
      from_space = fresh cpu.space.0;
      from_extent = fresh extent.0;
      from_request = fresh request.0;
      from_reply = fresh reply.0;
    }

    pub link_may : (vm : VmId) (extent request reply : Serial)
        → IsTrue (line_fits s (Link vm extent request reply))
        → MayChangeAll s (changes_of_line s (Link vm extent request reply))
    link_may vm extent request reply fits =
        let asks : LinkAsks s vm.0 extent.0 request.0 reply.0 =
        link_asks s vm.0 extent.0 request.0 reply.0 fits in
        let home : IsTrue (is_kind s (manager_cspace s) kind.Cspace) =
        manager_home (find (is_cpu 0) s.cpus) refl asks.manager in
        let first : CapabilityRow =
        boot_capability s (manager_cspace s) (2 * vm.0) request.0 2 false in
        let second : CapabilityRow =
        boot_capability s (manager_cspace s) (2 * vm.0 + 1) reply.0 1 false in
        record {
          first = fill_may (manager_cspace s) (2 * vm.0) request.0 2 false home asks.first_free
              (rights_by kind.Queue 2 refl (find (is_object request.0) s.objects)
              asks.request_lives one_queue) never_master;
          others = record {
            first = beside_first first second refl refl
                (fill_may (manager_cspace s) (2 * vm.0 + 1) reply.0 1 false home asks.second_free
                (rights_by kind.Queue 1 refl (find (is_object reply.0) s.objects)
                asks.reply_lives one_queue) never_master);
            others = record {
              first = given_some (cpu_row s vm.0) asks.there
                  (link_row_may vm extent request reply first second asks);
              others = tt;
            };
          };
        }
