-- The parts stand for the rows once an object is made in a partition.
use Rattle.std.proofs.Common.{◌≡◌, ◌≢◌, ◌<◌, ◌≤◌, ◌+◌, ◌-◌, ◌∙◌, ◌∷◌, ◌==◌, ℕ, true, false, List, [], Option, Some, None, refl, sym, ap, subst}
use Rattle.std.proofs.Common.{arith, find, is_some, length, get_or}
use Rattle.std.specs.Prelude.{◌^◌, count_by}
use Rattle.std.specs.Option.{option_map}
use Rattle.std.proofs.lemmas.Bool.{both_ways, ne_eqb}
use Rattle.gh_base.specs.Kind.{kind_number}
use Rattle.gh_base.specs.declared.ids.ObjIndex.{ObjIndex}
use Rattle.gh_base.specs.declared.ids.Serial.{Serial}
use Rattle.gh_base.specs.declared.kind.Kind.{Kind}
use Rattle.gh_base.specs.declared.kind.Kind.TheVariants as kind
use Rattle.gh_base.specs.declared.limits.TheConstants.{OBJECT_INDICES, PARTITION_PLACES, PARTITIONS}
use Rattle.gh_invariant.proofs.Counting.{one_true, unfound}
use Rattle.gh_invariant.proofs.NotLiving.{not_living}
use Rattle.gh_invariant.proofs.ReferencesLaw.{moves}
use Rattle.gh_invariant.proofs.RoomFor.{few_partitions, no_row_by}
use Rattle.gh_invariant.specs.Effects.{home_of, times}
use Rattle.gh_invariant.specs.Lives.{lives_as}
use Rattle.gh_invariant.specs.Premises.{MayAdd}
use Rattle.gh_invariant.specs.Valid.{IsValidWithin}
use Rattle.gh_model.specs.Boot.{is_of_kind}
use Rattle.gh_model.specs.Changes.{add_object}
use Rattle.gh_model.specs.References.{references}
use Rattle.gh_model.specs.Rows.{change_row, is_object, is_partition as is_partition_row}
use Rattle.gh_model.specs.Units.{given_by, row_quota, used_by}
use Rattle.gh_model.specs.declared.change.Change.TheVariants.{AddObject}
use Rattle.gh_model.specs.declared.rows.ObjectRow.{ObjectRow}
use Rattle.gh_model.specs.declared.state.State.{State}
use Rattle.gh_objects.specs.Counts.{with_reference}
use Rattle.gh_objects.specs.Headers.{HasIndex, header_at, header_inserted, headers_in, is_partition, is_partition_kind, new_index, new_place, place_of}
use Rattle.gh_objects.specs.declared.header.Header.{Header}
use Rattle.gh_parts.specs.Accounts.{using, with_accounts}
use Rattle.gh_parts.specs.Blocks.{BlocksStand}
use Rattle.gh_parts.specs.Index.{found_index, index_of}
use Rattle.gh_parts.specs.Making.{HasRoom}
use Rattle.gh_parts.specs.ObjectChanges.{IsNewBody, entered, new_header, opened, with_account, with_space}
use Rattle.gh_parts.specs.Owing.{HasCount, recounted}
use Rattle.gh_parts.specs.Stands.{Stands, StandsOwing, header_of, is_account}
use Rattle.gh_parts.specs.declared.body.Body.{Body}
use Rattle.gh_parts.specs.declared.parts.Parts.{Parts}
use Rattle.gh_parts.proofs.AddedBlocks.{Places, blocks_placed, place_kept}
use Rattle.gh_parts.proofs.AddedBodies.{Begins, begins, bells_now, kinds_now, queues_now, spaces_now, spans_now}
use Rattle.gh_parts.proofs.AddedCounts.{Refers, references_now}
use Rattle.gh_parts.proofs.AddedObjects.{objects_now}
use Rattle.gh_parts.proofs.AddedSlots.{slots_now}
use Rattle.gh_parts.proofs.AddedUnits.{Takes, units_now}
use Rattle.gh_parts.proofs.BlockRoom.{block_room, has_index, partitions_live}
use Rattle.gh_parts.proofs.Entering.{Enters, past_none}
use Rattle.gh_parts.proofs.FreeIndex.{free_place, index_below, index_free, index_in, place_is}
use Rattle.gh_parts.proofs.HeaderRows.{headers_housed, kind_is, partition_at, partition_below}
use Rattle.gh_parts.proofs.IndexLemmas.{found_at, unfound_past}
use Rattle.gh_parts.proofs.AddedIndices.{index_there}
use Rattle.gh_parts.proofs.StandsCounts.{times_there}
use Rattle.gh_parts.proofs.StandsOwed.{may_owe, owed_next}

-- what the parts have before an object is made, whose partition's reference is owed
pub record Adds (parts : Parts) (s : State) (row : ObjectRow) : Type 0 where
  pub stand : StandsOwing (row.partition ∷ []) parts s
  pub valid : IsValidWithin s
  pub may : MayAdd s row

module _ (parts : Parts) (s : State) (row : ObjectRow) (adds : Adds parts s row) where
  abbrev headers : List (Option Header)
  headers = parts.table.headers

  abbrev partition : ℕ
  partition = row.partition.0

  abbrev home : ℕ
  home = index_of headers partition

  abbrev at : ℕ
  at = new_index parts.table home

  abbrev owed : List Serial
  owed = row.partition ∷ []

  -- the partition has the units
  units : used_by s.objects partition + given_by s.partitions partition + row.cost
      ≤ row_quota (find (is_partition_row partition) s.partitions)
  units = omega (arith, adds.may.units, adds.may.some)

  live : is_partition (header_at headers home) ≡ true
  live = partition_at owed parts s adds.stand partition adds.may.partition

  few : count_by is_some (headers_in headers (place_of parts.table.partitions home)) < PARTITION_PLACES
  few = block_room owed parts s adds.stand adds.valid partition adds.may.partition row.cost adds.may.some units

  -- there is an index
  pub object_index : HasIndex parts.table row.kind home
  object_index =
      has_index owed parts s adds.stand adds.valid partition adds.may.partition row.kind row.cost adds.may.some units

  -- and a place for a partition
  pub partition_place : row.kind ≡ kind.Partition → count_by is_partition headers < PARTITIONS
  partition_place same =
      omega (
        arith,
        partitions_live owed parts s adds.stand adds.valid,
        few_partitions s row.kind adds.may.room adds.valid.objects.partitions,
        one_true (kind_number row.kind == kind_number kind.Partition) (ap (λ (k : Kind). kind_number k == kind_number kind.Partition) same),
      )

  abbrev serial : ℕ
  serial = row.serial.0

  abbrev header : Header
  header = new_header home row

  -- no object has the serial
  unmade : find (is_object serial) s.objects ≡ None
  unmade =
      unfound (is_object serial) s.objects
      (adds.valid.objects.later serial (omega (arith, adds.may.serial)))

  lives_not : lives_as s.objects serial kind.Partition ≡ false
  lives_not = ap (is_of_kind kind.Partition) unmade

  partition_apart : partition ≢ serial
  partition_apart same =
      both_ways (lives_as s.objects serial kind.Partition) lives_not
      (subst (λ (n : ℕ). lives_as s.objects n kind.Partition ≡ true) same adds.may.partition)

  past : length headers ≤ index_of headers serial
  past =
      past_none headers serial
      (adds.stand.objects.each serial ∙ ap (option_map (header_of headers)) unmade)

  below : at < OBJECT_INDICES
  below = index_below parts.table adds.stand.blocks.places home live few

  free : header_at headers at ≡ None
  free = index_free parts.table adds.stand.blocks.places home live few

  enters : Enters owed parts s row home at
  enters = record {
    stand = adds.stand;
    valid = adds.valid;
    serial = adds.may.serial;
    unretired = adds.may.unretired;
    below = below;
    free = free;
    housed = sym (index_there headers adds.stand.objects.indexed at header below free past partition partition_apart);
  }

  -- the place of a new partition is one that none has
  place_free : is_partition_kind row.kind ≡ true
      → (new_place parts.table home < PARTITIONS) × (get_or parts.table.partitions (new_place parts.table home) None ≡ None)
  place_free is =
      subst (λ (place : ℕ). (place < PARTITIONS) × (get_or parts.table.partitions place None ≡ None))
      (sym (place_is parts.table adds.stand.blocks.places home live few))
      (free_place headers parts.table.partitions adds.stand.blocks.places (partition_place (kind_is row.kind is)))

  places : Places parts.table header (new_place parts.table home) at
  places = record {
    blocks = adds.stand.blocks;
    housed = headers_housed owed parts s adds.stand adds.valid;
    below = below;
    free = free;
    inside = λ is. (place_free is).0;
    vacant = λ is. (place_free is).1;
  }

  blocks_now : BlocksStand (header_inserted parts.table header)
  blocks_now =
      blocks_placed parts.table header (new_place parts.table home) at places
      (index_in parts.table adds.stand.blocks.places home live few
      ∙ sym (place_kept parts.table header (new_place parts.table home) at places home live))
      (λ own. absurd (both_ways (is_partition (header_at headers at)) (ap is_partition free)
      (subst (λ (i : ℕ). is_partition (header_at headers i) ≡ true) own live)))

  -- references
  some : 0 < serial
  some = omega (arith, adds.valid.objects.some, adds.may.serial)

  gained : home_of row ≡ owed
  gained = rw (ne_eqb partition serial partition_apart) refl

  moved : (x : ℕ) → 0 < x → references (add_object row s) x ≡ references s x + times x owed
  moved x above =
      let none : times x [] ≡ 0 = refl in
      omega (arith, moves (s.entries + 1) s adds.valid x (AddObject row) above adds.may, ap (times x) gained)

  refers : Refers owed s (add_object row s) serial 0
  refers = record {
    here =
        let none : times serial [] ≡ 0 = refl in
        omega (
          arith,
          moved serial some,
          times_there row.partition [] serial (λ same. partition_apart (sym same)),
          not_living (s.entries + 1) s serial some adds.valid (ap is_some unmade),
        );
    there = λ x above apart. sym (moved x above);
  }

  -- units
  unknown : find (is_partition_row serial) s.partitions ≡ None
  unknown =
      no_row_by (is_partition_row serial) s.partitions (find (is_object serial) s.objects) kind.Partition unmade
      (omega (arith, adds.valid.rows.partitions serial))

  takes : Takes s row
  takes = record {
    home = partition_apart;
    units = adds.may.units;
    unused = omega (arith, adds.valid.units.within serial some, ap row_quota unknown);
    unknown = unknown;
  }

  module _ (body : Body) (new : IsNewBody row.kind body) (room : length parts.journal.counts ≡ OBJECT_INDICES)
    where
      begun : Begins row.serial row.kind body
      begun = begins row.serial row.kind body new

      pub add_stands : Stands
          (entered header row.cost body 0
          (record parts {
            journal = record (parts.journal) {
              slots = with_space row.kind row.serial parts.journal.slots;
              accounts = change_row (is_account partition) (using row.cost)
                  (with_account row.kind row.serial row.partition parts.journal.accounts);
            };
          }))
          (add_object row s)
      add_stands = record {
        objects = objects_now owed parts s row home at enters body;
        blocks = blocks_now;
        kinds = kinds_now owed parts s row home at enters body begun;
        references = references_now owed parts s (add_object row s) row home at 0 enters refers refl room;
        bells = bells_now owed parts s row home at enters body begun;
        queues = queues_now owed parts s row home at enters body begun;
        spans = spans_now owed parts s row home at enters body begun;
        spaces = spaces_now owed parts s row home at enters body begun;
        slots = slots_now owed parts s row home at enters;
        units = units_now owed parts s row home at enters takes;
        memory = adds.stand.memory;
        numbers = record {
          cpus = adds.stand.numbers.cpus;
          links = adds.stand.numbers.links;
          taken = adds.stand.numbers.taken;
          entries = adds.stand.numbers.entries;
          serials = ap (λ (n : ℕ). n + 1) adds.stand.numbers.serials;
          handles = adds.stand.numbers.handles;
          rings = adds.stand.numbers.rings;
        };
      }

module _ (parts opening counting taking : Parts) (s : State) (row : ObjectRow) (stand : Stands parts s)
    (valid : IsValidWithin s) (may : MayAdd s row) (was : opening ≡ opened row parts) where
  abbrev home_at : ℕ
  home_at = index_of parts.table.headers row.partition.0

  -- the partition's reference can be counted
  pub adding_counts : HasRoom s → HasCount opening row.partition.0 (λ (n : ℕ). n < 2 ^ 64 - 1)
  adding_counts room =
      let here : HasCount parts row.partition.0 (λ (n : ℕ). n < 2 ^ 64 - 1) =
      may_owe parts s [] row.partition.0 stand room (omega arith) in
      subst (λ (p : Parts). HasCount p row.partition.0 (λ (n : ℕ). n < 2 ^ 64 - 1)) (sym was)
      (record { indexed = here.indexed; bare = here.bare; count = here.count })

  -- and the partition is found
  pub adding_found : None ≡ found_index opening.table.headers row.partition.0 → ⊥
  adding_found none =
      let past : length parts.table.headers ≤ home_at =
      unfound_past parts.table.headers row.partition.0
      (ap (λ (p : Parts). found_index p.table.headers row.partition.0) (sym was) ∙ sym none) in
      omega (arith, past, partition_below [] parts s stand row.partition.0 may.partition, stand.objects.indexed.indices)

  module _ (home : ObjIndex) (header : Header)
      (found : Some home ≡ found_index opening.table.headers row.partition.0)
      (one : counting ≡ recounted with_reference opening row.partition.0)
      (two : taking ≡ with_accounts
      (change_row (is_account row.partition.0) (using row.cost) counting.journal.accounts) counting)
      (three : header ≡ new_header home.0 row) where
    abbrev counted : Parts
    counted = recounted with_reference parts row.partition.0

    abbrev taken : Parts
    taken = record counted {
      journal = record (counted.journal) {
        slots = with_space row.kind row.serial parts.journal.slots;
        accounts = change_row (is_account row.partition.0) (using row.cost)
            (with_account row.kind row.serial row.partition parts.journal.accounts);
      };
    }

    adds : Adds counted s row
    adds = record {
      stand = owed_next parts counted s [] row.partition stand refl;
      valid = valid;
      may = may;
    }

    taking_is : taking ≡ taken
    taking_is =
        two
        ∙ ap (λ (p : Parts). with_accounts (change_row (is_account row.partition.0) (using row.cost) p.journal.accounts) p)
        (one ∙ ap (λ (p : Parts). recounted with_reference p row.partition.0) was)

    header_is : header ≡ new_header home_at row
    header_is =
        three
        ∙ ap (λ (i : ℕ). new_header i row)
        (sym (found_at parts.table.headers row.partition.0 home
        (ap (λ (p : Parts). found_index p.table.headers row.partition.0) (sym was) ∙ sym found)))

    pub adding_index : HasIndex taking.table header.kind header.partition.0
    adding_index =
        subst (λ (p : Parts). HasIndex p.table header.kind header.partition.0) (sym taking_is)
        (subst (λ (h : Header). HasIndex parts.table h.kind h.partition.0) (sym header_is) (object_index counted s row adds))

    pub adding_place : header.kind ≡ kind.Partition → count_by is_partition taking.table.headers < PARTITIONS
    adding_place same =
        subst (λ (p : Parts). count_by is_partition p.table.headers < PARTITIONS) (sym taking_is)
        (partition_place counted s row adds (ap (λ (h : Header). h.kind) (sym header_is) ∙ same))

    pub adding_stands : (body : Body) (now : Parts) → IsNewBody row.kind body
        → now ≡ entered header row.cost body 0 taking → length taking.journal.counts ≡ OBJECT_INDICES
        → Stands now (add_object row s)
    adding_stands body now new is room =
        subst (λ (p : Parts). Stands p (add_object row s))
        (sym (is ∙ ap (λ (h : Header). entered h row.cost body 0 taking) header_is
        ∙ ap (entered (new_header home_at row) row.cost body 0) taking_is))
        (add_stands counted s row adds body new (ap (λ (p : Parts). length p.journal.counts) (sym taking_is) ∙ room))
