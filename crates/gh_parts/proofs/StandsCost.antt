-- The parts stand for the rows once an object costs more.
use Rattle.std.proofs.Common.{◌≡◌, ◌≢◌, ◌<◌, ◌≤◌, ◌+◌, ◌-◌, ◌∙◌, ℕ, true, false, List, [], Option, Some, None, refl, sym, ap}
use Rattle.std.proofs.Common.{subst, arith, inl, inr, find, is_some, nat_lt}
use Rattle.std.specs.Prelude.{slice_index_or}
use Rattle.std.specs.Option.{option_map, option_map_or}
use Rattle.std.proofs.lemmas.Bool.{cases_eq, eqb-true, le-ltb, ne_eqb}
use Rattle.gh_base.specs.declared.ids.Serial.{Serial}
use Rattle.gh_base.specs.declared.kind.Kind.TheVariants as kind
use Rattle.gh_base.specs.declared.limits.TheConstants.{OBJECT_INDICES}
use Rattle.gh_invariant.proofs.ChangedRow.{count_change_kept, find_change_seen, find_past_change}
use Rattle.gh_invariant.proofs.Counting.{found_all, found_passes}
use Rattle.gh_invariant.proofs.Summing.{number_found}
use Rattle.gh_invariant.proofs.UnitsMoved.{cost_in, used_change}
use Rattle.gh_invariant.specs.Effects.{times}
use Rattle.gh_invariant.specs.Lives.{is_housed}
use Rattle.gh_invariant.specs.Premises.{MayConfigure}
use Rattle.gh_invariant.specs.Valid.{IsValidWithin}
use Rattle.gh_model.proofs.ChangedRows.{find_changed}
use Rattle.gh_model.specs.Boot.{is_of_kind}
use Rattle.gh_model.specs.Changes.{with_cost}
use Rattle.gh_model.specs.References.{is_inhabitant_of, references}
use Rattle.gh_model.specs.Rows.{change_row, is_object, is_partition}
use Rattle.gh_model.specs.Units.{given_by, row_quota, used_by}
use Rattle.gh_model.specs.declared.rows.ObjectRow.{ObjectRow}
use Rattle.gh_model.specs.declared.rows.PartitionRow.{PartitionRow}
use Rattle.gh_model.specs.declared.rows.QueueRow.{QueueRow}
use Rattle.gh_model.specs.declared.state.State.{State}
use Rattle.gh_objects.specs.Counts.{count_at}
use Rattle.gh_objects.specs.Headers.{header_at}
use Rattle.gh_objects.specs.declared.header.Header.{Header}
use Rattle.gh_parts.specs.Accounts.{costing_more, using}
use Rattle.gh_parts.specs.Bodies.{bell_in, body_of, fits_body, mappings_in, queue_in, space_in, span_in}
use Rattle.gh_parts.specs.Index.{home_in, index_of, partition_in, serial_at}
use Rattle.gh_parts.specs.Shares.{place_at, with_cost_at}
use Rattle.gh_parts.specs.Stands.{KindsStand, Stands, UnitsStand, account_of, count_of, header_of, is_account}
use Rattle.gh_parts.specs.declared.body.Body.{Body}
use Rattle.gh_parts.specs.declared.journal.Account.{Account}
use Rattle.gh_parts.specs.declared.parts.Parts.{Parts}
use Rattle.gh_parts.specs.declared.shares.Place.{Place}
use Rattle.gh_parts.proofs.IndexLemmas.{one_serial}
use Rattle.gh_parts.proofs.Living.{There, index_below, kind_there}
use Rattle.gh_parts.proofs.Options.{Like, like_found, map_same, some_same}
use Rattle.gh_parts.proofs.PlaceLemmas.{place_elsewhere, place_here, place_kept, places_whole}
use Rattle.gh_parts.proofs.Reindexed.{slots_at}
use Rattle.gh_parts.proofs.StandsBells.{apart_serials}
use Rattle.gh_parts.proofs.StandsQuota.{costs_in}

pub costs_not : (partition : ℕ) (row : ObjectRow) → row.partition.0 ≢ partition → cost_in partition row ≡ 0
costs_not partition row apart = rw (ne_eqb row.partition.0 partition apart) refl

-- what a configured object costs: more than the unit that it cost so far, where its partition has the
-- units
pub record MayCost (s : State) (object cost : ℕ) : Type 0 where
  pub row : ObjectRow
  pub found : find (is_object object) s.objects ≡ Some row
  pub one : row.cost ≡ 1
  pub some : 0 < cost
  pub units : cost ≤ row_quota (find (is_partition row.partition.0) s.partitions)
      - used_by s.objects row.partition.0 - given_by s.partitions row.partition.0 + 1
  pub housed : is_housed s.objects row ≡ true

module _ (parts : Parts) (s : State) (stand : Stands parts s) (object : Serial) (cost : ℕ)
    (may : MayCost s object.0 cost) where
  abbrev headers : List (Option Header)
  headers = parts.table.headers

  abbrev at : ℕ
  at = index_of headers object.0

  abbrev row : ObjectRow
  row = may.row

  abbrev home : Serial
  home = row.partition

  abbrev rows : List ObjectRow
  rows = change_row (is_object object.0) (with_cost cost) s.objects

  abbrev after : State
  after = record s { objects = rows }

  abbrev costly : Place
  costly = record (place_at parts.shares at) { cost = cost }

  abbrev shares : List (List Place)
  shares = with_cost_at parts.shares at cost

  seen : {V : Type 0} (see : Option ObjectRow → V)
      → ((one : ObjectRow) → see (Some (with_cost cost one)) ≡ see (Some one)) → (x : ℕ)
      → see (find (is_object x) rows) ≡ see (find (is_object x) s.objects)
  seen see kept x =
      find_change_seen see (is_object x) (is_object object.0) (with_cost cost) s.objects (λ one. refl) kept

  found_other : (x : ℕ) → x ≢ object.0 → find (is_object x) rows ≡ find (is_object x) s.objects
  found_other x apart =
      find_past_change (is_object x) (is_object object.0) (with_cost cost) s.objects
      (λ one is. apart_serials object.0 x one.serial.0 apart is)
      (λ one is. apart_serials object.0 x one.serial.0 apart is)

  below : at < OBJECT_INDICES
  below = index_below headers parts.shares parts.journal.retirements s.objects stand.objects object.0 row may.found

  cost_here : (one : ObjectRow) → find (is_object object.0) rows ≡ Some one → (place_at shares at).cost ≡ one.cost
  cost_here one is =
      ap (λ (place : Place). place.cost) (place_here parts.shares at costly stand.objects.whole below)
      ∙ ap (λ (r : ObjectRow). r.cost)
      (some_same (with_cost cost row) one
      (sym (find_changed (is_object object.0) (with_cost cost) s.objects (λ r. refl) ∙ ap (option_map (with_cost cost)) may.found) ∙ is))

  cost_there : (x : ℕ) (one : ObjectRow) → x ≢ object.0 → find (is_object x) rows ≡ Some one
      → (place_at shares (index_of headers x)).cost ≡ one.cost
  cost_there x one apart is =
      let there : find (is_object x) s.objects ≡ Some one = sym (found_other x apart) ∙ is in
      let fits : index_of headers x < OBJECT_INDICES =
      index_below headers parts.shares parts.journal.retirements s.objects stand.objects x one there in
      ap (λ (place : Place). place.cost)
      (place_elsewhere parts.shares at costly (index_of headers x)
      (λ same. apart (one_serial headers x object.0 (omega (arith, fits, stand.objects.indexed.indices)) same)))
      ∙ stand.objects.costs x one there

  costs_now : (x : ℕ) (one : ObjectRow) → find (is_object x) rows ≡ Some one
      → (place_at shares (index_of headers x)).cost ≡ one.cost
  costs_now x one is =
      elim (cases_eq x object.0) [
        | inl same ↦
            subst (λ (n : ℕ). (place_at shares (index_of headers n)).cost ≡ one.cost) (sym same)
            (cost_here one (subst (λ (n : ℕ). find (is_object n) rows ≡ Some one) same is))
        | inr apart ↦ cost_there x one apart is
      ]

  retired_now : (x : ℕ) (one : ObjectRow) → find (is_object x) rows ≡ Some one
      → slice_index_or parts.journal.retirements (index_of headers x) None ≡ one.retired
  retired_now x one is =
      let like : Like (λ (r : ObjectRow). r.retired) (find (is_object x) s.objects) one =
      like_found _ _ _ one (sym (seen (option_map (λ (r : ObjectRow). r.retired)) (λ r. refl) x)) is in
      stand.objects.retired x like.one like.is ∙ like.seen

  references_same : (n : ℕ) → references s n ≡ references after n
  references_same n =
      omega (arith, count_change_kept (is_inhabitant_of n) (is_object object.0) (with_cost cost) s.objects (λ one. refl))

  counts_now : (x : ℕ) → count_at parts.journal.counts (index_of headers x) ≡ option_map (count_of after []) (find (is_object x) rows)
  counts_now x =
      stand.references.each x
      ∙ map_same (count_of s []) (count_of after [])
      (λ one. ap (λ (n : ℕ). record { serial = one.serial; references = n + times one.serial.0 []; retired = is_some one.retired })
      (references_same one.serial.0))
      (find (is_object x) s.objects)
      ∙ sym (seen (option_map (count_of after [])) (λ one. refl) x)

  -- bodies stay
  body_seen : {V : Type 0} (see : ℕ → Body → V) (x : ℕ)
      → see x (body_of headers parts.shares x) ≡ see x (body_of headers shares x)
  body_seen see x =
      ap (see x) (sym (place_kept parts.shares at costly (λ (place : Place). place.body) refl (index_of headers x)))

  kinds_now : KindsStand headers shares rows
  kinds_now x =
      subst (λ (body : Body). fits_body body (find (is_object x) rows) ≡ true) (body_seen (λ n b. b) x)
      (seen (fits_body (body_of headers parts.shares x)) (λ one. refl) x ∙ stand.kinds x)

  -- units
  used_sums : (x : ℕ) → used_by rows x + cost_in x row ≡ used_by s.objects x + cost_in x (with_cost cost row)
  used_sums x =
      let sums : used_by rows x + number_found (cost_in x) (find (is_object object.0) s.objects)
      ≡ used_by s.objects x + number_found (cost_in x) (option_map (with_cost cost) (find (is_object object.0) s.objects)) =
      used_change (is_object object.0) (with_cost cost) s.objects x in
      subst (λ (found : Option ObjectRow). used_by rows x + number_found (cost_in x) found
      ≡ used_by s.objects x + number_found (cost_in x) (option_map (with_cost cost) found)) may.found sums

  used_home : used_by s.objects home.0 + (cost - 1) ≡ used_by rows home.0
  used_home =
      omega (arith, used_sums home.0, costs_in home.0 row refl, costs_in home.0 (with_cost cost row) refl, may.one, may.some)

  used_other : (x : ℕ) → home.0 ≢ x → used_by s.objects x ≡ used_by rows x
  used_other x apart =
      omega (arith, used_sums x, costs_not x row apart, costs_not x (with_cost cost row) apart)

  abbrev accounts : List Account
  accounts = change_row (is_account home.0) (using (cost - 1)) parts.journal.accounts

  units_with : PartitionRow → ℕ → Account
  units_with one used = record {
    partition = one.serial;
    parent = one.parent;
    units = record { quota = one.quota; used = used; given = given_by s.partitions one.serial.0 };
  }

  using_is : (one : PartitionRow) → find (is_partition home.0) s.partitions ≡ Some one
      → using (cost - 1) (account_of s.objects s.partitions one) ≡ account_of rows s.partitions one
  unfolding units_with
  using_is one is =
      let serial : one.serial.0 ≡ home.0 =
      eqb-true one.serial.0 home.0 (found_passes (is_partition home.0) s.partitions one is) in
      let units : cost ≤ one.quota - used_by s.objects home.0 - given_by s.partitions home.0 + 1 =
      subst (λ (n : ℕ). cost ≤ n - used_by s.objects home.0 - given_by s.partitions home.0 + 1) (ap row_quota is) may.units in
      let enough : nat_lt (one.quota - used_by s.objects one.serial.0 - given_by s.partitions one.serial.0) (cost - 1) ≡ false =
      subst (λ (n : ℕ). nat_lt (one.quota - used_by s.objects n - given_by s.partitions n) (cost - 1) ≡ false) (sym serial)
      (le-ltb (one.quota - used_by s.objects home.0 - given_by s.partitions home.0) (cost - 1) (omega (arith, units))) in
      let used : used_by s.objects one.serial.0 + (cost - 1) ≡ used_by rows one.serial.0 =
      subst (λ (n : ℕ). used_by s.objects n + (cost - 1) ≡ used_by rows n) (sym serial) used_home in
      rw enough (ap (units_with one) used)

  using_by : (found : Option PartitionRow) → find (is_partition home.0) s.partitions ≡ found
      → option_map (using (cost - 1)) (option_map (account_of s.objects s.partitions) found)
      ≡ option_map (account_of rows s.partitions) found
  using_by None is = refl
  using_by (Some one) is = ap Some (using_is one is)

  same_by : (x : ℕ) → x ≢ home.0 → (found : Option PartitionRow) → find (is_partition x) s.partitions ≡ found
      → option_map (account_of s.objects s.partitions) found ≡ option_map (account_of rows s.partitions) found
  unfolding units_with
  same_by x apart None is = refl
  same_by x apart (Some one) is =
      let serial : one.serial.0 ≡ x =
      eqb-true one.serial.0 x (found_passes (is_partition x) s.partitions one is) in
      ap (λ (n : ℕ). Some (units_with one n))
      (subst (λ (n : ℕ). used_by s.objects n ≡ used_by rows n) (sym serial) (used_other x (λ same. apart (sym same))))

  units_now : UnitsStand accounts rows s.partitions
  units_now x =
      elim (cases_eq x home.0) [
        | inl same ↦
            subst (λ (n : ℕ). find (is_account n) accounts ≡ option_map (account_of rows s.partitions) (find (is_partition n) s.partitions)) (sym same)
            (find_changed (is_account home.0) (using (cost - 1)) parts.journal.accounts (λ account. refl)
            ∙ ap (option_map (using (cost - 1))) (stand.units home.0)
            ∙ using_by (find (is_partition home.0) s.partitions) refl)
        | inr apart ↦
            find_past_change (is_account x) (is_account home.0) (using (cost - 1)) parts.journal.accounts
            (λ account is. apart_serials home.0 x account.partition.0 apart is)
            (λ account is. apart_serials home.0 x account.partition.0 apart is)
            ∙ stand.units x
            ∙ same_by x apart (find (is_partition x) s.partitions) refl
      ]

  -- the parts tell the partition
  header_here : header_at headers at ≡ Some (header_of headers row)
  header_here = stand.objects.each object.0 ∙ ap (option_map (header_of headers)) may.found

  partition_there : There (find (is_object home.0) s.objects)
  partition_there = kind_there kind.Partition (find (is_object home.0) s.objects) may.housed

  home_told : home_in headers object.0 ≡ home
  home_told =
      let serial : partition_there.it.serial.0 ≡ home.0 =
      eqb-true partition_there.it.serial.0 home.0 (found_passes (is_object home.0) s.objects partition_there.it partition_there.is) in
      ap (λ (header : Option Header). serial_at headers (partition_in header)) header_here
      ∙ ap (λ (header : Option Header). option_map_or (λ (h : Header). h.serial) header (record { 0 = 0 }))
      (stand.objects.each home.0 ∙ ap (option_map (header_of headers)) partition_there.is)
      ∙ ap (λ (n : ℕ). record { 0 = n }) serial

  cost_stands_by : (told : Serial) → told ≡ home
      → Stands (record parts {
        shares = shares;
        journal = record (parts.journal) {
          accounts = change_row (is_account told.0) (using (cost - 1)) parts.journal.accounts;
        };
      }) after
  cost_stands_by told is = record {
    objects = record {
      indexed = stand.objects.indexed;
      whole = places_whole parts.shares at costly stand.objects.whole;
      each = λ x. stand.objects.each x ∙ sym (seen (option_map (header_of headers)) (λ one. refl) x);
      costs = costs_now;
      retired = retired_now;
      room = stand.objects.room;
    };
    references = record { each = counts_now; bare = stand.references.bare };
    kinds = kinds_now;
    bells = λ x. stand.bells x ∙ body_seen bell_in x;
    queues = λ x. stand.queues x ∙ body_seen queue_in x;
    spans = λ x. stand.spans x ∙ body_seen span_in x;
    spaces = record {
      mappings = λ x. stand.spaces.mappings x ∙ body_seen mappings_in x;
      access = λ x space found. stand.spaces.access x space (body_seen (λ n b. space_in b) x ∙ found);
    };
    slots = slots_at headers headers (λ x. refl) parts.journal.slots s.objects rows s.caps s.set_at
        (λ serial. seen (is_of_kind kind.Cspace) (λ one. refl) serial) stand.slots;
    units =
        subst (λ (one : Serial). UnitsStand (change_row (is_account one.0) (using (cost - 1)) parts.journal.accounts) rows s.partitions)
        (sym is) units_now;
    memory = stand.memory;
    blocks = stand.blocks;
    numbers = record {
      cpus = stand.numbers.cpus;
      links = stand.numbers.links;
      taken = stand.numbers.taken;
      entries = stand.numbers.entries;
      serials = stand.numbers.serials;
      handles = stand.numbers.handles;
      rings = stand.numbers.rings;
    };
  }

  pub cost_stands : Stands (costing_more object.0 cost parts) after
  cost_stands = cost_stands_by (home_in headers object.0) home_told

-- a queue that may be configured may cost so much, whatever the queues are
pub may_cost : (s : State) (queues : List QueueRow) → IsValidWithin s → (queue depth size cost : ℕ)
    → MayConfigure s queue depth size cost → MayCost (record s { queues = queues }) queue cost
may_cost s queues valid queue depth size cost may = record {
  row = may.row;
  found = may.found;
  one = may.one;
  some = may.some;
  units = may.units;
  housed = found_all (is_object queue) (is_housed s.objects) s.objects may.row valid.objects.housed may.found;
}
