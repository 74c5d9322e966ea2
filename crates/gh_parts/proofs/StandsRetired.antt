-- The parts stand for the rows once an object is retired.
use Rattle.std.proofs.Common.{◌≡◌, ◌≢◌, ◌<◌, ◌≤◌, ◌∙◌, ◌+◌, ℕ, List, [], Option, Some, None, refl, sym, ap, subst, arith, inl}
use Rattle.std.proofs.Common.{inr, find, is_some, length, set}
use Rattle.std.specs.Prelude.{slice_index_or}
use Rattle.std.specs.Option.{option_map}
use Rattle.std.proofs.lemmas.Bool.{cases_eq, cases_lt}
use Rattle.std.proofs.lemmas.List.{get_or-set_other, get_or-set_same, length-set, set_past}
use Rattle.gh_base.specs.declared.ids.Serial.{Serial}
use Rattle.gh_base.specs.declared.kind.Kind.TheVariants as kind
use Rattle.gh_base.specs.declared.limits.TheConstants.{OBJECT_INDICES}
use Rattle.gh_invariant.proofs.ChangedRow.{count_change_kept, find_change_seen, find_past_change}
use Rattle.gh_invariant.proofs.UnitsMoved.{used_kept}
use Rattle.gh_invariant.specs.Effects.{times}
use Rattle.gh_model.proofs.ChangedRows.{find_changed}
use Rattle.gh_model.specs.Boot.{is_of_kind}
use Rattle.gh_model.specs.Changes.{retire_object, with_counters}
use Rattle.gh_model.specs.References.{is_inhabitant_of, references}
use Rattle.gh_model.specs.Rows.{change_row, is_object, is_partition}
use Rattle.gh_model.specs.Units.{given_by}
use Rattle.gh_model.specs.declared.rows.ObjectRow.{ObjectRow}
use Rattle.gh_model.specs.declared.state.State.{State}
use Rattle.gh_objects.proofs.ListLemmas.{set_map-here}
use Rattle.gh_objects.specs.Counts.{as_retired, count_at, count_changed}
use Rattle.gh_objects.specs.Headers.{header_at}
use Rattle.gh_objects.specs.declared.count.Count.{Count}
use Rattle.gh_objects.specs.declared.header.Header.{Header}
use Rattle.gh_parts.specs.Bodies.{body_of, fits_body}
use Rattle.gh_parts.specs.Index.{index_of}
use Rattle.gh_parts.specs.NumberChanges.{with_retired}
use Rattle.gh_parts.specs.Shares.{place_at}
use Rattle.gh_parts.specs.Stands.{Stands, UnitsStand, account_of, count_of, header_of}
use Rattle.gh_parts.specs.declared.parts.Parts.{Parts}
use Rattle.gh_parts.proofs.IndexLemmas.{one_serial}
use Rattle.gh_parts.proofs.Living.{index_below}
use Rattle.gh_parts.proofs.Options.{Like, like_found, map_same, some_same}
use Rattle.gh_parts.proofs.Reindexed.{slots_at}
use Rattle.gh_parts.proofs.StandsBells.{apart_serials}
use Rattle.gh_parts.proofs.StandsCounts.{past_uncounted, uncounted}

module _ (parts : Parts) (s : State) (stand : Stands parts s) (object : Serial) (seen_by : List ℕ) where
  abbrev headers : List (Option Header)
  headers = parts.table.headers

  abbrev at : ℕ
  at = index_of headers object.0

  abbrev after : State
  after = retire_object object seen_by s

  abbrev rows : List ObjectRow
  rows = change_row (is_object object.0) (with_counters seen_by) s.objects

  abbrev counts : List (Option Count)
  counts = count_changed as_retired parts.journal.counts at

  abbrev retirements : List (Option (List ℕ))
  retirements = set parts.journal.retirements at (Some seen_by)

  seen : {V : Type 0} (see : Option ObjectRow → V)
      → ((row : ObjectRow) → see (Some (with_counters seen_by row)) ≡ see (Some row)) → (x : ℕ)
      → see (find (is_object x) rows) ≡ see (find (is_object x) s.objects)
  seen see kept x =
      find_change_seen see (is_object x) (is_object object.0) (with_counters seen_by) s.objects (λ row. refl) kept

  found_other : (x : ℕ) → x ≢ object.0 → find (is_object x) rows ≡ find (is_object x) s.objects
  found_other x apart =
      find_past_change (is_object x) (is_object object.0) (with_counters seen_by) s.objects
      (λ row is. apart_serials object.0 x row.serial.0 apart is)
      (λ row is. apart_serials object.0 x row.serial.0 apart is)

  found_here : find (is_object object.0) rows ≡ option_map (with_counters seen_by) (find (is_object object.0) s.objects)
  found_here = find_changed (is_object object.0) (with_counters seen_by) s.objects (λ row. refl)

  costs_now : (x : ℕ) (row : ObjectRow) → find (is_object x) rows ≡ Some row
      → (place_at parts.shares (index_of headers x)).cost ≡ row.cost
  costs_now x row is =
      let like : Like (λ (r : ObjectRow). r.cost) (find (is_object x) s.objects) row =
      like_found _ _ _ row (sym (seen (option_map (λ (r : ObjectRow). r.cost)) (λ r. refl) x)) is in
      stand.objects.costs x like.one like.is ∙ like.seen

  -- an index that is another object's
  other_index : (x : ℕ) → x ≢ object.0 → index_of headers x < OBJECT_INDICES → index_of headers x ≢ at
  other_index x apart below same =
      apart (one_serial headers x object.0 (omega (arith, stand.objects.indexed.indices)) same)

  retired_here : (row : ObjectRow) → find (is_object object.0) rows ≡ Some row
      → index_of headers object.0 < OBJECT_INDICES
      → slice_index_or retirements at None ≡ row.retired
  retired_here row is below =
      get_or-set_same parts.journal.retirements at (Some seen_by) None (omega (arith, stand.objects.room))
      ∙ retired_by (find (is_object object.0) s.objects) (sym found_here ∙ is)
    where
      retired_by : (found : Option ObjectRow) → option_map (with_counters seen_by) found ≡ Some row
          → Some seen_by ≡ row.retired
      retired_by None none = absurd (let never : ⊥ = cc in never)
      retired_by (Some old) some = ap (λ (r : ObjectRow). r.retired) (some_same (with_counters seen_by old) row some)

  retired_now : (x : ℕ) (row : ObjectRow) → find (is_object x) rows ≡ Some row
      → slice_index_or retirements (index_of headers x) None ≡ row.retired
  retired_now x row is =
      elim (cases_eq x object.0) [
        | inl same ↦
            subst (λ (n : ℕ). slice_index_or retirements (index_of headers n) None ≡ row.retired) (sym same)
            (retired_here row (subst (λ (n : ℕ). find (is_object n) rows ≡ Some row) same is)
            (let like : Like (λ (r : ObjectRow). r.cost) (find (is_object object.0) s.objects) row =
            like_found _ _ _ row (sym (seen (option_map (λ (r : ObjectRow). r.cost)) (λ r. refl) object.0))
            (subst (λ (n : ℕ). find (is_object n) rows ≡ Some row) same is) in
            index_below headers parts.shares parts.journal.retirements s.objects stand.objects object.0 like.one like.is))
        | inr apart ↦
            get_or-set_other parts.journal.retirements at (index_of headers x) (Some seen_by) None
            (other_index x apart (index_below headers parts.shares parts.journal.retirements s.objects stand.objects x row (sym (found_other x apart) ∙ is)))
            ∙ stand.objects.retired x row (sym (found_other x apart) ∙ is)
      ]

  references_same : (n : ℕ) → references s n ≡ references after n
  references_same n =
      omega (arith, count_change_kept (is_inhabitant_of n) (is_object object.0) (with_counters seen_by) s.objects (λ row. refl))

  count_same : (row : ObjectRow) → count_of s [] row ≡ count_of after [] row
  count_same row =
      ap (λ (n : ℕ). record { serial = row.serial; references = n + times row.serial.0 []; retired = is_some row.retired })
      (references_same row.serial.0)

  counted_here : (found : Option ObjectRow)
      → option_map as_retired (option_map (count_of s []) found)
      ≡ option_map (count_of after []) (option_map (with_counters seen_by) found)
  counted_here None = refl
  counted_here (Some row) = ap (λ (count : Count). Some (as_retired count)) (count_same row)

  count_there : (x : ℕ) → x ≢ object.0
      → count_at counts (index_of headers x) ≡ count_at parts.journal.counts (index_of headers x)
  count_there x apart =
      elim (cases_eq (index_of headers x) at) [
        | inl same ↦
            ap (λ (all : List (Option Count)). count_at all (index_of headers x))
            (uncounted as_retired parts.journal.counts at (past_uncounted headers parts.journal.counts [] s at stand.references
            (elim (cases_lt (index_of headers x) (length headers)) [
              | inl below ↦ absurd (apart (one_serial headers x object.0 below same))
              | inr past ↦ omega (arith, same)
            ])))
        | inr another ↦ get_or-set_other parts.journal.counts at (index_of headers x) (option_map as_retired (count_at parts.journal.counts at)) None another
      ]

  counts_now : (x : ℕ) → count_at counts (index_of headers x) ≡ option_map (count_of after []) (find (is_object x) rows)
  counts_now x =
      elim (cases_eq x object.0) [
        | inl same ↦
            subst (λ (n : ℕ). count_at counts (index_of headers n) ≡ option_map (count_of after []) (find (is_object n) rows)) (sym same)
            (set_map-here as_retired parts.journal.counts at
            ∙ ap (option_map as_retired) (stand.references.each object.0)
            ∙ counted_here (find (is_object object.0) s.objects)
            ∙ ap (option_map (count_of after [])) (sym found_here))
        | inr apart ↦
            count_there x apart ∙ stand.references.each x
            ∙ map_same (count_of s []) (count_of after []) count_same (find (is_object x) s.objects)
            ∙ ap (option_map (count_of after [])) (sym (found_other x apart))
      ]

  bare_now : (index : ℕ) → header_at headers index ≡ None → count_at counts index ≡ None
  bare_now index none =
      elim (cases_eq index at) [
        | inl same ↦
            subst (λ (i : ℕ). count_at counts i ≡ None) (sym same)
            (set_map-here as_retired parts.journal.counts at
            ∙ ap (option_map as_retired) (subst (λ (i : ℕ). count_at parts.journal.counts i ≡ None) same (stand.references.bare index none)))
        | inr apart ↦
            get_or-set_other parts.journal.counts at index (option_map as_retired (count_at parts.journal.counts at)) None apart
            ∙ stand.references.bare index none
      ]

  units_now : UnitsStand parts.journal.accounts rows s.partitions
  units_now x =
      stand.units x
      ∙ map_same (account_of s.objects s.partitions) (account_of rows s.partitions)
      (λ row. ap (λ (n : ℕ). record {
        partition = row.serial;
        parent = row.parent;
        units = record { quota = row.quota; used = n; given = given_by s.partitions row.serial.0 };
      })
      (sym (used_kept (is_object object.0) (with_counters seen_by) s.objects row.serial.0 (λ r. refl))))
      (find (is_partition x) s.partitions)

  pub retire_stands : Stands (with_retired seen_by at parts) after
  retire_stands = record {
    objects = record {
      indexed = stand.objects.indexed;
      whole = stand.objects.whole;
      each = λ x. stand.objects.each x ∙ sym (seen (option_map (header_of headers)) (λ row. refl) x);
      costs = costs_now;
      retired = retired_now;
      room = length-set parts.journal.retirements at (Some seen_by) ∙ stand.objects.room;
    };
    references = record { each = counts_now; bare = bare_now };
    kinds = λ x. seen (fits_body (body_of headers parts.shares x)) (λ row. refl) x ∙ stand.kinds x;
    bells = stand.bells;
    queues = stand.queues;
    spans = stand.spans;
    spaces = stand.spaces;
    slots = slots_at headers headers (λ x. refl) parts.journal.slots s.objects rows s.caps s.set_at
        (λ serial. seen (is_of_kind kind.Cspace) (λ row. refl) serial) stand.slots;
    units = units_now;
    memory = stand.memory;
    blocks = stand.blocks;
    numbers = record {
      cpus = stand.numbers.cpus;
      links = stand.numbers.links;
      taken = stand.numbers.taken;
      entries = stand.numbers.entries;
      serials = stand.numbers.serials;
      handles = stand.numbers.handles;
      rings = stand.numbers.rings;
    };
  }

  -- where no object is found none is retired
  pub retire_unfound : length headers ≤ at → with_retired seen_by at parts ≡ parts
  retire_unfound past =
      ap (λ (all : List (Option Count)). record parts { journal = record (parts.journal) { counts = all; retirements = retirements } })
      (uncounted as_retired parts.journal.counts at (past_uncounted headers parts.journal.counts [] s at stand.references past))
      ∙ ap (λ (all : List (Option (List ℕ))). record parts { journal = record (parts.journal) { retirements = all } })
      (set_past parts.journal.retirements at (Some seen_by) (omega (arith, stand.objects.room, stand.objects.indexed.indices)))
