-- There is room for an object in its partition's block: each of the headers there is that of an object
-- that lives in the partition, and each of these costs a unit at least.
use Rattle.std.proofs.Common.{◌≡◌, ◌<◌, ◌≤◌, ◌∙◌, ◌*◌, ◌+◌, ◌/◌, ◌==◌, ℕ, Bool, true, false, List, [], ◌∷◌, Option, Some, None, refl, sym, ap, subst, arith}
use Rattle.std.proofs.Common.{find, IsTrue, get_or, drop, inl, inr, nat_lt}
use Rattle.std.specs.Prelude.{count_by, is_some, sum_by, if◌then◌else◌}
use Rattle.std.specs.List.{list_all}
use Rattle.std.proofs.lemmas.Bool.{and_parts, cases_lt, eq-eqb, leb-true, ltb-true}
use Rattle.std.proofs.lemmas.List.{get_or-drop, get_or-take, get_or_past, length-take}
use Rattle.std.proofs.lemmas.List.Sums.{sum_by-cons}
use Rattle.std.proofs.lemmas.Nat.{div-mul-add}
use Rattle.gh_base.specs.Kind.{kind_number}
use Rattle.gh_base.specs.declared.ids.Serial.{Serial}
use Rattle.gh_base.specs.declared.kind.Kind.{Kind}
use Rattle.gh_base.specs.declared.kind.Kind.TheVariants as kind
use Rattle.gh_base.specs.declared.limits.TheConstants.{PARTITION_PLACES, PARTITION_UNITS}
use Rattle.gh_invariant.proofs.Counting.{all_by, count_cons, found_all}
use Rattle.gh_invariant.proofs.Summing.{number_if}
use Rattle.gh_invariant.proofs.UnitsMoved.{used_sum}
use Rattle.gh_invariant.specs.Lives.{cost_fits, kind_total, lives_as, quota_fits}
use Rattle.gh_invariant.specs.Valid.{IsValidWithin}
use Rattle.gh_model.specs.QueueCalls.{one_if}
use Rattle.gh_model.specs.Rows.{is_partition as is_partition_row}
use Rattle.gh_model.specs.Units.{given_by, lives_in, object_cost, row_quota, used_by}
use Rattle.gh_model.specs.declared.rows.ObjectRow.{ObjectRow}
use Rattle.gh_model.specs.declared.rows.PartitionRow.{PartitionRow}
use Rattle.gh_model.specs.declared.state.State.{State}
use Rattle.gh_objects.specs.Headers.{HasIndex, HasIndexIf, header_at, headers_in, is_partition, is_partition_kind, place_of}
use Rattle.gh_objects.specs.declared.header.Header.{Header}
use Rattle.gh_parts.specs.Index.{index_of}
use Rattle.gh_parts.specs.Stands.{StandsOwing}
use Rattle.gh_parts.specs.declared.parts.Parts.{Parts}
use Rattle.gh_parts.proofs.AddedBlocks.{one_place}
use Rattle.gh_parts.proofs.CountedRows.{HasRow, HaveRows, count_headers}
use Rattle.gh_parts.proofs.HeaderRows.{RowAt, housed_in, kind_is, partition_at, partition_below, row_at}
use Rattle.gh_parts.proofs.IndexLemmas.{one_serial}

-- each row that passes adds one at least
rows_cost : (test : ObjectRow → Bool) (rows : List ObjectRow)
    → IsTrue (list_all (λ (row : ObjectRow). nat_lt 0 row.cost) rows)
    → count_by test rows ≤ sum_by (number_if test object_cost) rows
rows_cost test [] some = let none : count_by test [] ≡ 0 = refl in omega arith
rows_cost test (row ∷ rows) some =
    let parts : (nat_lt 0 row.cost ≡ true) × (list_all (λ (one : ObjectRow). nat_lt 0 one.cost) rows ≡ true) =
    and_parts _ _ some in
    omega (
      arith,
      count_cons test row rows,
      sum_by-cons (number_if test object_cost) row rows,
      rows_cost test rows parts.1,
      one_at_least (test row) row.cost (ltb-true 0 row.cost parts.0),
    )
  where
    one_at_least : (here : Bool) (cost : ℕ) → 0 < cost → one_if here ≤ (if here then cost else 0)
    one_at_least true cost some = let one : one_if true ≡ 1 = refl in omega arith
    one_at_least false cost some = let none : one_if false ≡ 0 = refl in omega arith

module _ (owed : List Serial) (parts : Parts) (s : State) (stand : StandsOwing owed parts s)
    (valid : IsValidWithin s) where
  abbrev headers : List (Option Header)
  headers = parts.table.headers

  -- as many partitions' headers as partitions live
  apart_at : (index other : ℕ) (header also : Header) → header_at headers index ≡ Some header
      → header_at headers other ≡ Some also → header.serial.0 ≡ also.serial.0 → index ≡ other
  apart_at index other header also is there same =
      sym (stand.objects.indexed.alone index header is)
      ∙ ap (index_of headers) same
      ∙ stand.objects.indexed.alone other also there

  kind_passes : (k : Kind) → is_partition_kind k ≡ true → (kind_number k == kind_number kind.Partition) ≡ true
  kind_passes k is =
      ap (λ (one : Kind). kind_number one == kind_number kind.Partition) (kind_is k is)

  pub partitions_live : count_by is_partition headers ≤ kind_total s.objects kind.Partition
  partitions_live =
      count_headers is_partition (λ (row : ObjectRow). kind_number row.kind == kind_number kind.Partition) refl
      headers s.objects
      (record {
        each = λ index header is passes.
            let one : RowAt headers s.objects header = row_at owed parts s stand index header is in
            record {
              row = one.row;
              found = one.found;
              passes =
                  kind_passes one.row.kind
                  (ap (λ (h : Header). is_partition_kind h.kind) one.is ∙ passes);
            };
        apart = apart_at;
      })

  module _ (partition : ℕ) (lives : IsTrue (lives_as s.objects partition kind.Partition)) where
    abbrev home : ℕ
    home = index_of headers partition

    abbrev place : ℕ
    place = place_of parts.table.partitions home

    abbrev block : List (Option Header)
    block = headers_in headers place

    -- what stands in the block stands in its share of the indices
    inside : (at : ℕ) (header : Header) → get_or block at None ≡ Some header → at < PARTITION_PLACES
    inside at header is =
        elim (cases_lt at PARTITION_PLACES) [
          | inl below ↦ below
          | inr past ↦
              absurd (let none : get_or block at None ≡ None =
              get_or_past block at None (omega (arith, length-take PARTITION_PLACES (drop (PARTITION_PLACES * place) headers))) in
              let never : ⊥ = cc in never)
        ]

    block_at : (at : ℕ) (header : Header) → get_or block at None ≡ Some header
        → header_at headers (PARTITION_PLACES * place + at) ≡ Some header
    block_at at header is =
        sym (get_or-drop (PARTITION_PLACES * place) headers at None)
        ∙ sym (get_or-take PARTITION_PLACES (drop (PARTITION_PLACES * place) headers) at None (inside at header is))
        ∙ is

    -- each header there is of an object that lives in the partition
    block_row : (at : ℕ) (header : Header) → get_or block at None ≡ Some header
        → HasRow (lives_in partition) s.objects header
    block_row at header is =
        let there : header_at headers (PARTITION_PLACES * place + at) ≡ Some header = block_at at header is in
        let one : RowAt headers s.objects header = row_at owed parts s stand _ header there in
        let own : ℕ = one.row.partition.0 in
        let housed : IsTrue (lives_as s.objects own kind.Partition) =
        housed_in owed parts s stand valid header.serial.0 one.row one.found in
        let homed : header.partition.0 ≡ index_of headers own = ap (λ (h : Header). h.partition.0) (sym one.is) in
        let spot : (PARTITION_PLACES * place + at) / PARTITION_PLACES ≡ place =
        ap (λ (n : ℕ). n / PARTITION_PLACES) (let turned : PARTITION_PLACES * place + at ≡ place * PARTITION_PLACES + at = omega arith in turned)
        ∙ div-mul-add place PARTITION_PLACES at (inside at header is) in
        let same : place_of parts.table.partitions (index_of headers own) ≡ place =
        ap (place_of parts.table.partitions) (sym homed) ∙ sym (stand.blocks.within _ header there) ∙ spot in
        let index : index_of headers own ≡ home =
        one_place headers parts.table.partitions stand.blocks.places (index_of headers own) home
        (partition_at owed parts s stand own housed) (partition_at owed parts s stand partition lives) same in
        record {
          row = one.row;
          found = one.found;
          passes = eq-eqb own partition
              (one_serial headers own partition
              (omega (arith, partition_below owed parts s stand own housed, stand.objects.indexed.indices)) index);
        }

    block_rows : HaveRows is_some (lives_in partition) block s.objects
    block_rows = record {
      each = λ at header is passes. block_row at header is;
      apart = λ at other header also is there same.
          let one : PARTITION_PLACES * place + at ≡ PARTITION_PLACES * place + other =
          apart_at _ _ header also (block_at at header is) (block_at other also there) same in
          omega arith;
    }

    some_cost : IsTrue (list_all (λ (row : ObjectRow). nat_lt 0 row.cost) s.objects)
    some_cost =
        all_by (cost_fits s.partitions s.extents) (λ (row : ObjectRow). nat_lt 0 row.cost) s.objects
        (λ row fits. (and_parts _ _ fits).0) valid.units.costs

    quota_most : (found : Option PartitionRow) → find (is_partition_row partition) s.partitions ≡ found
        → row_quota found ≤ PARTITION_UNITS
    quota_most None is = omega arith
    quota_most (Some row) is =
        leb-true row.quota PARTITION_UNITS
        ((and_parts _ _ (found_all (is_partition_row partition) (quota_fits s.objects) s.partitions row valid.units.quotas is)).0)

    -- and so fewer stand there than can, where a unit is free
    pub block_room : (cost : ℕ) → 0 < cost
        → used_by s.objects partition + given_by s.partitions partition + cost
        ≤ row_quota (find (is_partition_row partition) s.partitions)
        → count_by is_some block < PARTITION_PLACES
    block_room cost some free =
        omega (
          arith,
          count_headers is_some (lives_in partition) refl block s.objects block_rows,
          rows_cost (lives_in partition) s.objects some_cost,
          used_sum s.objects partition,
          quota_most (find (is_partition_row partition) s.partitions) refl,
        )

    pub has_index : (k : Kind) (cost : ℕ) → 0 < cost
        → used_by s.objects partition + given_by s.partitions partition + cost
        ≤ row_quota (find (is_partition_row partition) s.partitions)
        → HasIndex parts.table k home
    has_index k cost some free =
        subst (λ (b : Bool). HasIndexIf b parts.table k home)
        (sym (partition_at owed parts s stand partition lives)) (block_room cost some free)
