-- The parts stand for the rows once a boot partition is made.
use Rattle.std.proofs.Common.{◌≡◌, ◌<◌, ◌≤◌, ◌+◌, ◌∙◌, ◌∷◌, ℕ, List, [], Option, Some, None, refl, sym, ap, subst, arith, find, is_some, length, set, ◌==◌}
use Rattle.std.specs.Prelude.{count_by, is_none}
use Rattle.std.specs.List.{position_or_len}
use Rattle.std.specs.Option.{option_map}
use Rattle.std.proofs.lemmas.List.{append-nil}
use Rattle.gh_base.specs.Kind.{kind_number}
use Rattle.gh_base.specs.declared.ids.ObjIndex.{ObjIndex}
use Rattle.gh_base.specs.declared.ids.Serial.{Serial}
use Rattle.gh_base.specs.declared.kind.Kind.TheVariants as kind
use Rattle.gh_base.specs.declared.kind.Stage.TheVariants.{Active}
use Rattle.gh_base.specs.declared.limits.TheConstants.{OBJECT_INDICES, PARTITIONS}
use Rattle.gh_invariant.proofs.Counting.{one_true, unfound}
use Rattle.gh_invariant.proofs.NotLiving.{not_living}
use Rattle.gh_invariant.proofs.ReferencesLaw.{moves}
use Rattle.gh_invariant.proofs.RoomFor.{few_partitions, no_row_by}
use Rattle.gh_invariant.specs.Effects.{times}
use Rattle.gh_invariant.specs.Premises.{MayAddPartition}
use Rattle.gh_invariant.specs.Valid.{IsValidWithin}
use Rattle.gh_model.specs.Changes.{add_partition, boot_object, serial_of}
use Rattle.gh_model.specs.References.{references}
use Rattle.gh_model.specs.Rows.{is_object, is_partition as is_partition_row}
use Rattle.gh_model.specs.Units.{given_by, row_quota, used_by}
use Rattle.gh_model.specs.declared.change.Change.TheVariants.{AddPartition}
use Rattle.gh_model.specs.declared.rows.BellRow.{BellRow}
use Rattle.gh_model.specs.declared.rows.ObjectRow.{ObjectRow}
use Rattle.gh_model.specs.declared.rows.QueueRow.{QueueRow}
use Rattle.gh_model.specs.declared.state.State.{State}
use Rattle.gh_objects.specs.Headers.{HasIndex, HeaderTable, boot_index, header_at, header_inserted, is_partition, with_header}
use Rattle.gh_objects.specs.declared.header.Header.{Header}
use Rattle.gh_parts.specs.Index.{index_of}
use Rattle.gh_parts.specs.ObjectChanges.{booted, entered, entered_at, new_header}
use Rattle.gh_parts.specs.Shares.{with_place}
use Rattle.gh_parts.specs.Stands.{BellsStand, QueuesStand, Stands, header_of}
use Rattle.gh_parts.specs.declared.body.Body.TheVariants.{Nothing}
use Rattle.gh_parts.specs.declared.parts.Parts.{Parts}
use Rattle.gh_parts.specs.declared.shares.Place.{Place}
use Rattle.gh_parts.proofs.AddedBodies.{Begins, begins, bells_now, kinds_now, queues_now, spaces_now, spans_now}
use Rattle.gh_parts.proofs.AddedCounts.{Refers, references_now}
use Rattle.gh_parts.proofs.AddedIndices.{index_here}
use Rattle.gh_parts.proofs.AddedObjects.{objects_now}
use Rattle.gh_parts.proofs.AddedSlots.{slots_now}
use Rattle.gh_parts.proofs.BlockRoom.{partitions_live}
use Rattle.gh_parts.proofs.BootIndex.{boot_below, boot_blocks, boot_free, boot_has, boot_inserted, boot_new, boot_somewhere}
use Rattle.gh_parts.proofs.BootUnits.{boot_units_now}
use Rattle.gh_parts.proofs.Entering.{Enters, past_none}
use Rattle.gh_parts.proofs.FreeIndex.{free_place}
use Rattle.gh_parts.proofs.HeaderRows.{headers_housed}
use Rattle.gh_parts.proofs.StandsCounts.{times_here, times_there}

module _ (parts : Parts) (s : State) (stand : Stands parts s) (valid : IsValidWithin s) (quota : ℕ)
    (may : MayAddPartition s quota) where
  abbrev headers : List (Option Header)
  headers = parts.table.headers

  abbrev serial : ℕ
  serial = s.next_serial

  abbrev row : ObjectRow
  row = boot_object s kind.Partition serial 1

  -- there is a place for it
  pub boot_room : count_by is_partition headers < PARTITIONS
  boot_room =
      omega (
        arith,
        partitions_live [] parts s stand valid,
        few_partitions s kind.Partition may.room valid.objects.partitions,
        one_true (kind_number kind.Partition == kind_number kind.Partition) refl,
      )

  some : 0 < serial
  some = valid.objects.some

  unmade : find (is_object serial) s.objects ≡ None
  unmade = unfound (is_object serial) s.objects (valid.objects.later serial (omega arith))

  unknown : find (is_partition_row serial) s.partitions ≡ None
  unknown =
      no_row_by (is_partition_row serial) s.partitions (find (is_object serial) s.objects) kind.Partition unmade
      (omega (arith, valid.rows.partitions serial))

  unused : used_by s.objects serial + given_by s.partitions serial ≤ 0
  unused = omega (arith, valid.units.within serial some, ap row_quota unknown)

  past : length headers ≤ index_of headers serial
  past = past_none headers serial (stand.objects.each serial ∙ ap (option_map (header_of headers)) unmade)

  moved : (x : ℕ) → 0 < x → references (add_partition quota s) x ≡ references s x + times x (serial_of serial ∷ [])
  moved x above =
      let none : times x [] ≡ 0 = refl in
      omega (arith, moves (s.entries + 1) s valid x (AddPartition quota) above may)

  refers : Refers [] s (add_partition quota s) serial 1
  refers = record {
    here =
        let none : times serial [] ≡ 0 = refl in
        omega (
          arith,
          moved serial some,
          times_here (serial_of serial) [] serial refl,
          not_living (s.entries + 1) s serial some valid (ap is_some unmade),
        );
    there = λ x above apart.
        omega (arith, moved x above, times_there (serial_of serial) [] x apart);
  }

  begun : Begins (serial_of serial) kind.Partition Nothing
  begun = begins (serial_of serial) kind.Partition Nothing refl

  module _ (index : ObjIndex) (found : Some index ≡ boot_index parts.table)
      (room : length parts.journal.counts ≡ OBJECT_INDICES) where
    abbrev at : ℕ
    at = index.0

    abbrev header : Header
    header = new_header at row

    below : at < OBJECT_INDICES
    below = boot_below parts.table stand.blocks (headers_housed [] parts s stand valid) index found

    free : header_at headers at ≡ None
    free = boot_free parts.table stand.blocks (headers_housed [] parts s stand valid) index found

    enters : Enters [] parts s row at at
    enters = record {
      stand = stand;
      valid = valid;
      serial = refl;
      unretired = refl;
      below = below;
      free = free;
      housed = sym (index_here headers stand.objects.indexed at header below free past);
    }

    abbrev now : List (Option Header)
    now = set headers at (Some header)

    abbrev shares : List (List Place)
    shares = with_place parts.shares at (record { cost = 1; body = Nothing })

    abbrev table : HeaderTable
    table = with_header parts.table header (position_or_len is_none parts.table.partitions) at

    placed_stands : Stands (entered_at table at (serial_of serial) 1 Nothing 1 (booted (serial_of serial) quota parts)) (add_partition quota s)
    placed_stands = record {
      objects = objects_now [] parts s row at at enters Nothing;
      blocks = boot_blocks parts.table stand.blocks (headers_housed [] parts s stand valid) index found header refl refl;
      kinds = kinds_now [] parts s row at at enters Nothing begun;
      references = references_now [] parts s (add_partition quota s) row at at 1 enters refers refl room;
      bells = subst (λ (rows : List BellRow). BellsStand now shares rows) (append-nil s.bells)
          (bells_now [] parts s row at at enters Nothing begun);
      queues = subst (λ (rows : List QueueRow). QueuesStand now shares rows) (append-nil s.queues)
          (queues_now [] parts s row at at enters Nothing begun);
      spans = spans_now [] parts s row at at enters Nothing begun;
      spaces = spaces_now [] parts s row at at enters Nothing begun;
      slots = slots_now [] parts s row at at enters;
      units = boot_units_now parts.journal.accounts s valid quota stand.units unknown unused;
      memory = stand.memory;
      numbers = record {
        cpus = stand.numbers.cpus;
        links = stand.numbers.links;
        taken = stand.numbers.taken;
        entries = stand.numbers.entries;
        serials = ap (λ (n : ℕ). n + 1) stand.numbers.serials;
        handles = stand.numbers.handles;
        rings = stand.numbers.rings;
      };
    }

    pub boot_stands : Stands (entered header 1 Nothing 1 (booted (serial_of serial) quota parts)) (add_partition quota s)
    boot_stands =
        subst (λ (p : Parts). Stands p (add_partition quota s))
        (sym (ap (λ (i : ℕ). entered_at (header_inserted parts.table header) i (serial_of serial) 1 Nothing 1 (booted (serial_of serial) quota parts))
        (boot_new parts.table stand.blocks (headers_housed [] parts s stand valid) index found)
        ∙ ap (λ (t : HeaderTable). entered_at t at (serial_of serial) 1 Nothing 1 (booted (serial_of serial) quota parts))
        (boot_inserted parts.table stand.blocks (headers_housed [] parts s stand valid) index found header refl refl)))
        placed_stands

  -- the steps of the call, by the serial that the parts tell
  module _ (booting : Parts) (was : booting ≡ booted (record { 0 = parts.journal.next_serial }) quota parts) where
    told : (record { 0 = parts.journal.next_serial }) ≡ serial_of serial
    told = ap serial_of stand.numbers.serials

    pub booting_found : None ≡ boot_index booting.table → ⊥
    booting_found none =
        boot_somewhere parts.table.partitions (free_place headers parts.table.partitions stand.blocks.places boot_room).0
        stand.blocks.places.places
        (none ∙ ap (λ (p : Parts). boot_index p.table) was)

    pub booting_index : (index : ObjIndex) → Some index ≡ boot_index booting.table
        → HasIndex booting.table kind.Partition index.0
    booting_index index found =
        subst (λ (p : Parts). HasIndex p.table kind.Partition index.0) (sym was)
        (boot_has parts.table stand.blocks (headers_housed [] parts s stand valid) index
        (found ∙ ap (λ (p : Parts). boot_index p.table) was))

    pub booting_place : count_by is_partition booting.table.headers < PARTITIONS
    booting_place = subst (λ (p : Parts). count_by is_partition p.table.headers < PARTITIONS) (sym was) boot_room

    pub booting_stands : (index : ObjIndex) (next : Parts) → Some index ≡ boot_index booting.table
        → next ≡ entered (record { kind = kind.Partition; partition = index; serial = record { 0 = parts.journal.next_serial }; stage = Active }) 1 Nothing 1 booting
        → length booting.journal.counts ≡ OBJECT_INDICES → Stands next (add_partition quota s)
    booting_stands index next found is room =
        subst (λ (p : Parts). Stands p (add_partition quota s))
        (sym (is
        ∙ ap (entered (record { kind = kind.Partition; partition = index; serial = record { 0 = parts.journal.next_serial }; stage = Active }) 1 Nothing 1) was
        ∙ ap (λ (n : Serial). entered (record { kind = kind.Partition; partition = index; serial = n; stage = Active }) 1 Nothing 1 (booted n quota parts)) told))
        (boot_stands index (found ∙ ap (λ (p : Parts). boot_index p.table) was)
        (ap (λ (p : Parts). length p.journal.counts) (sym was) ∙ room))
