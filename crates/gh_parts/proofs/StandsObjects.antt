-- The parts stand for the rows once an object comes to another stage.
use Rattle.std.proofs.Common.{◌≡◌, ◌≢◌, ◌∙◌, ◌+◌, ℕ, List, Option, Some, None, refl, sym, ap, subst, arith, inl, inr, find}
use Rattle.std.proofs.Common.{is_some, length, set}
use Rattle.std.specs.Prelude.{slice_index_or}
use Rattle.std.specs.Option.{option_map}
use Rattle.std.proofs.lemmas.Bool.{cases_eq, cases_lt, eq-eqb}
use Rattle.std.proofs.lemmas.List.{get_or-set_other, length-set, set_past}
use Rattle.std.proofs.lemmas.List.Folds.{position_or_len-set}
use Rattle.gh_base.specs.declared.ids.Serial.{Serial}
use Rattle.gh_base.specs.declared.kind.Stage.{Stage}
use Rattle.gh_base.specs.declared.kind.Kind.TheVariants as kind
use Rattle.gh_invariant.proofs.ChangedRow.{count_change_kept, find_change_seen, find_past_change}
use Rattle.gh_invariant.proofs.UnitsMoved.{used_kept}
use Rattle.gh_invariant.specs.Effects.{times}
use Rattle.gh_model.proofs.ChangedRows.{find_changed}
use Rattle.gh_model.specs.Boot.{is_of_kind}
use Rattle.gh_model.specs.Changes.{set_stage, with_stage}
use Rattle.gh_model.specs.References.{is_inhabitant_of, references}
use Rattle.gh_model.specs.Units.{given_by}
use Rattle.gh_model.specs.Rows.{change_row, is_object, is_partition}
use Rattle.gh_model.specs.declared.rows.ObjectRow.{ObjectRow}
use Rattle.gh_model.specs.declared.state.State.{State}
use Rattle.gh_objects.proofs.ListLemmas.{set_map-here}
use Rattle.gh_objects.specs.Counts.{count_at}
use Rattle.gh_objects.specs.Headers.{HeaderTable, has_serial, header_at, header_staged, in_stage}
use Rattle.gh_objects.specs.declared.header.Header.{Header}
use Rattle.gh_parts.specs.Bodies.{fits_body}
use Rattle.gh_parts.specs.Index.{AreIndexed, found_index, index_of, indexed}
use Rattle.gh_parts.specs.Shares.{body_at, place_at}
use Rattle.gh_parts.specs.Stands.{StandsOwing, UnitsStand, account_of, count_of, header_of}
use Rattle.gh_parts.specs.declared.parts.Parts.{Parts}
use Rattle.gh_parts.proofs.BlockLemmas.{blocks_staged}
use Rattle.gh_parts.proofs.IndexLemmas.{alone, one_serial, unfound_past}
use Rattle.gh_parts.proofs.Options.{Like, like_found, map_none, map_same}
use Rattle.gh_parts.proofs.Reindexed.{bells_at, queues_at, slots_at, spaces_at, spans_at}
use Rattle.gh_parts.proofs.StandsBells.{apart_serials}

module _ (headers : List (Option Header)) (stage : Stage) (at : ℕ) where
  -- the headers with that of an index in the stage
  abbrev pub staged : List (Option Header)
  staged = set headers at (option_map (in_stage stage) (header_at headers at))

  has_staged : (x : ℕ) (header : Option Header)
      → has_serial x (option_map (in_stage stage) header) ≡ has_serial x header
  has_staged x None = refl
  has_staged x (Some header) = refl

  -- every serial keeps its index
  pub index_stays : (x : ℕ) → index_of staged x ≡ index_of headers x
  index_stays x =
      position_or_len-set (has_serial x) headers at (option_map (in_stage stage) (header_at headers at)) None
      (has_staged x (header_at headers at))

  header_here : header_at staged at ≡ option_map (in_stage stage) (header_at headers at)
  header_here = set_map-here (in_stage stage) headers at

  header_there : (index : ℕ) → index ≢ at → header_at staged index ≡ header_at headers index
  header_there index apart = get_or-set_other headers at index _ None apart

  -- every index keeps its serial, and its header or the want of one
  serial_stays : (x index : ℕ)
      → has_serial x (header_at staged index) ≡ has_serial x (header_at headers index)
  serial_stays x index =
      elim (cases_eq index at) [
        | inl same ↦
            subst (λ (i : ℕ). has_serial x (header_at staged i) ≡ has_serial x (header_at headers i)) (sym same)
            (ap (has_serial x) header_here ∙ has_staged x (header_at headers at))
        | inr apart ↦ ap (has_serial x) (header_there index apart)
      ]

  none_stays : (index : ℕ) → header_at staged index ≡ None → header_at headers index ≡ None
  none_stays index none =
      elim (cases_eq index at) [
        | inl same ↦
            subst (λ (i : ℕ). header_at headers i ≡ None) (sym same)
            (map_none (in_stage stage) (header_at headers at)
            (sym header_here ∙ subst (λ (i : ℕ). header_at staged i ≡ None) same none))
        | inr apart ↦ sym (header_there index apart) ∙ none
      ]

  pub indexed_stays : AreIndexed headers → AreIndexed staged
  indexed_stays all = record {
    indices = length-set headers at _ ∙ all.indices;
    alone = λ index header is.
        index_stays header.serial.0
        ∙ alone headers all header.serial.0 index
        (sym (serial_stays header.serial.0 index)
        ∙ ap (has_serial header.serial.0) is ∙ eq-eqb header.serial.0 header.serial.0 refl);
  }

  pub header_same : (row : ObjectRow) → header_of headers row ≡ header_of staged row
  header_same row =
      ap (λ (i : ℕ). record { kind = row.kind; partition = indexed i; serial = row.serial; stage = row.stage })
      (sym (index_stays row.partition.0))

  header_changed : (found : Option ObjectRow)
      → option_map (in_stage stage) (option_map (header_of headers) found)
      ≡ option_map (header_of staged) (option_map (with_stage stage) found)
  header_changed None = refl
  header_changed (Some row) = ap Some (header_same (with_stage stage row))

  -- an index that isn't the object's keeps its header
  header_apart : AreIndexed headers → (x object : ℕ) → at ≡ index_of headers object → x ≢ object
      → header_at staged (index_of headers x) ≡ header_at headers (index_of headers x)
  header_apart all x object here apart =
      elim (cases_eq (index_of headers x) at) [
        | inl same ↦
            ap (λ (now : List (Option Header)). header_at now (index_of headers x))
            (set_past headers at _ (elim (cases_lt (index_of headers x) (length headers)) [
              | inl below ↦ absurd (apart (one_serial headers x object below (same ∙ here)))
              | inr past ↦ omega (arith, same)
            ]))
        | inr another ↦ header_there (index_of headers x) another
      ]

module _ (owed : List Serial) (parts : Parts) (s : State) (stand : StandsOwing owed parts s)
    (object : Serial) (stage : Stage) where
  abbrev headers : List (Option Header)
  headers = parts.table.headers

  abbrev at : ℕ
  at = index_of headers object.0

  abbrev now : List (Option Header)
  now = staged headers stage at

  abbrev rows : List ObjectRow
  rows = change_row (is_object object.0) (with_stage stage) s.objects

  -- what another stage leaves of a row is seen of it as before
  seen : {V : Type 0} (see : Option ObjectRow → V)
      → ((row : ObjectRow) → see (Some (with_stage stage row)) ≡ see (Some row)) → (x : ℕ)
      → see (find (is_object x) rows) ≡ see (find (is_object x) s.objects)
  seen see kept x =
      find_change_seen see (is_object x) (is_object object.0) (with_stage stage) s.objects (λ row. refl) kept

  each_now : (x : ℕ) → header_at now (index_of now x) ≡ option_map (header_of now) (find (is_object x) rows)
  each_now x =
      ap (header_at now) (index_stays headers stage at x)
      ∙ elim (cases_eq x object.0) [
        | inl same ↦
            subst (λ (n : ℕ). header_at now (index_of headers n) ≡ option_map (header_of now) (find (is_object n) rows)) (sym same)
            (header_here headers stage at
            ∙ ap (option_map (in_stage stage)) (stand.objects.each object.0)
            ∙ header_changed headers stage at (find (is_object object.0) s.objects)
            ∙ ap (option_map (header_of now)) (sym (find_changed (is_object object.0) (with_stage stage) s.objects (λ row. refl))))
        | inr apart ↦
            header_apart headers stage at stand.objects.indexed x object.0 refl apart
            ∙ stand.objects.each x
            ∙ map_same (header_of headers) (header_of now) (header_same headers stage at) (find (is_object x) s.objects)
            ∙ ap (option_map (header_of now)) (sym (find_past_change (is_object x) (is_object object.0) (with_stage stage) s.objects
            (λ row is. apart_serials object.0 x row.serial.0 apart is)
            (λ row is. apart_serials object.0 x row.serial.0 apart is)))
      ]

  costs_now : (x : ℕ) (row : ObjectRow) → find (is_object x) rows ≡ Some row
      → (place_at parts.shares (index_of now x)).cost ≡ row.cost
  costs_now x row is =
      let like : Like (λ (r : ObjectRow). r.cost) (find (is_object x) s.objects) row =
      like_found _ _ _ row (sym (seen (option_map (λ (r : ObjectRow). r.cost)) (λ r. refl) x)) is in
      ap (λ (i : ℕ). (place_at parts.shares i).cost) (index_stays headers stage at x)
      ∙ stand.objects.costs x like.one like.is ∙ like.seen

  retired_now : (x : ℕ) (row : ObjectRow) → find (is_object x) rows ≡ Some row
      → slice_index_or parts.journal.retirements (index_of now x) None ≡ row.retired
  retired_now x row is =
      let like : Like (λ (r : ObjectRow). r.retired) (find (is_object x) s.objects) row =
      like_found _ _ _ row (sym (seen (option_map (λ (r : ObjectRow). r.retired)) (λ r. refl) x)) is in
      ap (λ (i : ℕ). slice_index_or parts.journal.retirements i None) (index_stays headers stage at x)
      ∙ stand.objects.retired x like.one like.is ∙ like.seen

  -- references stay
  references_same : (n : ℕ) → references s n ≡ references (set_stage object stage s) n
  references_same n =
      omega (arith, count_change_kept (is_inhabitant_of n) (is_object object.0) (with_stage stage) s.objects (λ row. refl))

  counts_now : (x : ℕ) → count_at parts.journal.counts (index_of now x)
      ≡ option_map (count_of (set_stage object stage s) owed) (find (is_object x) rows)
  counts_now x =
      ap (count_at parts.journal.counts) (index_stays headers stage at x)
      ∙ stand.references.each x
      ∙ map_same (count_of s owed) (count_of (set_stage object stage s) owed)
      (λ row. ap (λ (n : ℕ). record { serial = row.serial; references = n + times row.serial.0 owed; retired = is_some row.retired })
      (references_same row.serial.0))
      (find (is_object x) s.objects)
      ∙ sym (seen (option_map (count_of (set_stage object stage s) owed)) (λ row. refl) x)

  units_now : UnitsStand parts.journal.accounts rows s.partitions
  units_now x =
      stand.units x
      ∙ map_same (account_of s.objects s.partitions) (account_of rows s.partitions)
      (λ row. ap (λ (n : ℕ). record {
        partition = row.serial;
        parent = row.parent;
        units = record { quota = row.quota; used = n; given = given_by s.partitions row.serial.0 };
      })
      (sym (used_kept (is_object object.0) (with_stage stage) s.objects row.serial.0 (λ r. refl))))
      (find (is_partition x) s.partitions)

  pub stage_stands : StandsOwing owed
      (record parts { table = header_staged stage parts.table at }) (set_stage object stage s)
  stage_stands = record {
    objects = record {
      indexed = indexed_stays headers stage at stand.objects.indexed;
      whole = stand.objects.whole;
      each = each_now;
      costs = costs_now;
      retired = retired_now;
      room = stand.objects.room;
    };
    blocks = blocks_staged parts.table stage at stand.blocks;
    references = record {
      each = counts_now;
      bare = λ index none. stand.references.bare index (none_stays headers stage at index none);
    };
    kinds = λ x.
        seen (fits_body (body_at parts.shares (index_of now x))) (λ row. refl) x
        ∙ ap (λ (i : ℕ). fits_body (body_at parts.shares i) (find (is_object x) s.objects)) (index_stays headers stage at x)
        ∙ stand.kinds x;
    bells = bells_at headers now (index_stays headers stage at) parts.shares s.bells stand.bells;
    queues = queues_at headers now (index_stays headers stage at) parts.shares s.queues stand.queues;
    spans = spans_at headers now (index_stays headers stage at) parts.shares s.extents stand.spans;
    spaces = spaces_at headers now (index_stays headers stage at) parts.shares s.extents s.holders s.mappings stand.spaces;
    slots = slots_at headers now (index_stays headers stage at) parts.journal.slots s.objects rows s.caps s.set_at
        (λ serial. seen (is_of_kind kind.Cspace) (λ row. refl) serial) stand.slots;
    units = units_now;
    memory = stand.memory;
    numbers = record {
      cpus = stand.numbers.cpus;
      links = stand.numbers.links;
      taken = stand.numbers.taken;
      entries = stand.numbers.entries;
      serials = stand.numbers.serials;
      handles = stand.numbers.handles;
      rings = stand.numbers.rings;
    };
  }

-- an object that isn't found has no stage to set
pub stage_unfound : (table : HeaderTable) (stage : Stage) (serial : ℕ)
    → found_index table.headers serial ≡ None
    → header_staged stage table (index_of table.headers serial) ≡ table
stage_unfound table stage serial none =
    ap (λ (now : List (Option Header)). record table { headers = now })
    (set_past table.headers (index_of table.headers serial) _ (unfound_past table.headers serial none))
