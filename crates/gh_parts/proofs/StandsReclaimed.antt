-- The parts stand for the rows once an object is reclaimed.
use Rattle.std.proofs.Common.{◌≡◌, ◌≢◌, ◌<◌, ◌≤◌, ◌+◌, ◌∙◌, ◌∷◌, ◌++◌, not, ℕ, Bool, true, false, List, [], Option, Some, None, refl, sym, ap, subst, arith, find, map, length, IsTrue}
use Rattle.std.specs.Prelude.{IfSome, count_by, if◌then◌else◌}
use Rattle.std.specs.List.{list_all, list_any}
use Rattle.std.specs.Option.{option_map, option_map_or, option_to_list, unwrap_or}
use Rattle.std.proofs.lemmas.Bool.{and_from, and_parts, both_ways, eq-eqb, eqb-true, ne_eqb}
use Rattle.gh_base.specs.declared.ids.ObjIndex.{ObjIndex}
use Rattle.gh_base.specs.declared.ids.Serial.{Serial}
use Rattle.gh_extent.specs.Extents.{is_child_of}
use Rattle.gh_invariant.proofs.Counting.{found_passes, none_fail}
use Rattle.gh_invariant.specs.Effects.{home_named, losses, parent_named}
use Rattle.gh_invariant.specs.Premises.{MayReclaim}
use Rattle.gh_invariant.specs.Valid.{IsValidWithin}
use Rattle.gh_model.specs.Changes.{extent_parent, given_back, reclaim_object, serial_of, without}
use Rattle.gh_model.specs.History.{is_retired}
use Rattle.gh_model.specs.References.{is_root_extent}
use Rattle.gh_model.specs.Rows.{is_extent, is_object, is_partition}
use Rattle.gh_model.specs.Units.{row_quota}
use Rattle.gh_model.specs.declared.change.Change.TheVariants.{Reclaim}
use Rattle.gh_model.specs.declared.rows.ExtentRow.{ExtentRow}
use Rattle.gh_model.specs.declared.rows.ObjectRow.{ObjectRow}
use Rattle.gh_model.specs.declared.state.State.{State}
use Rattle.gh_objects.specs.Headers.{header_at}
use Rattle.gh_objects.specs.declared.header.Header.{Header}
use Rattle.gh_parts.specs.Follows.{GivesBack, MayReturn, SharesFollow, parent_in}
use Rattle.gh_parts.specs.Index.{found_index, index_of, partition_in, serial_at}
use Rattle.gh_parts.specs.Owing.{HasCount, settled}
use Rattle.gh_parts.specs.Reclaims.{HasUnits, closed, freed, quota_of, removed, row_parent}
use Rattle.gh_parts.specs.Shares.{place_at}
use Rattle.gh_parts.specs.Slots.{no_serial}
use Rattle.gh_parts.specs.Stands.{Stands, StandsOwing, extent_rows, is_account, page_holders}
use Rattle.gh_parts.specs.declared.parts.Parts.{Parts}
use Rattle.gh_parts.proofs.FoundRows.{found_fails, not_true}
use Rattle.gh_parts.proofs.HeaderRows.{RowAt, home_row, row_at}
use Rattle.gh_parts.proofs.IndexLemmas.{found_at, one_serial, unfound_past}
use Rattle.gh_parts.proofs.Leaving.{Leaves, home_elsewhere, leaves_within}
use Rattle.gh_parts.proofs.LeavingHome.{home_other}
use Rattle.gh_parts.proofs.Living.{There, object_some}
use Rattle.gh_parts.proofs.RemovedBlocks.{blocks_left}
use Rattle.gh_parts.proofs.RemovedBodies.{bells_left, kinds_left, queues_left, spaces_left, spans_left}
use Rattle.gh_parts.proofs.RemovedObjects.{objects_now, references_left}
use Rattle.gh_parts.proofs.RemovedSlots.{slots_left}
use Rattle.gh_parts.proofs.RemovedUnits.{home_has, quota_told, units_left}
use Rattle.gh_parts.proofs.StandsOwed.{owed_has, settled_next}

-- a retired object lives
retired_there : (found : Option ObjectRow) → IsTrue (is_retired found) → There found
retired_there None retired = absurd (let never : ⊥ = cc in never)
retired_there (Some row) retired = record { it = row; is = refl }

none_any : {R : Type 0} (p : R → Bool) (rows : List R) → IsTrue (list_all (λ (row : R). not (p row)) rows)
    → list_any p rows ≡ false
none_any p [] none = refl
none_any {R} p (row ∷ rows) none =
    let parts : (not (p row) ≡ true) × (list_all (λ (one : R). not (p one)) rows ≡ true) = and_parts _ _ none in
    rw (not_true (p row) parts.0) (none_any p rows parts.1)

module _ (parts : Parts) (s : State) (object : Serial) (stand : Stands parts s) (valid : IsValidWithin s)
    (may : MayReclaim s object.0) where
  there : There (find (is_object object.0) s.objects)
  there = retired_there (find (is_object object.0) s.objects) may.retired

  leaves : Leaves parts s object.0
  leaves = record { stand = stand; valid = valid; may = may; row = there.it; found = there.is }

  abbrev row : ObjectRow
  row = leaves.row

  abbrev headers : List (Option Header)
  headers = parts.table.headers

  abbrev at : ℕ
  at = index_of headers object.0

  -- it is found
  pub reclaiming_found : None ≡ found_index headers object.0 → ⊥
  reclaiming_found none =
      omega (arith, unfound_past headers object.0 (sym none), leaves_within parts s object.0 leaves)

  -- it may give its pages back
  pub reclaiming_may : MayReturn parts.journal.memory object.0
  reclaiming_may = record {
    some = object_some (s.entries + 1) s valid object.0 row leaves.found;
    leaf =
        ap (list_any (is_child_of object.0)) stand.memory.rows
        ∙ none_any (is_child_of object.0) s.extents
        (none_fail (is_child_of object.0) s.extents
        (let none : count_by (is_child_of object.0) s.extents ≡ 0 = omega (arith, may.doomed) in none));
    child = λ one is root.
        both_ways (is_root_extent object.0 one)
        (found_fails (is_extent object.0) (is_root_extent object.0) s.extents one
        (let none : count_by (is_root_extent object.0) s.extents ≡ 0 = omega (arith, may.doomed) in none)
        (ap (find (is_extent object.0)) (sym stand.memory.rows) ∙ is))
        (and_from _ _
        (found_passes (is_extent object.0) (extent_rows parts.journal.memory) one is)
        (eq-eqb one.parent.0 0 root));
  }

  -- an object elsewhere doesn't live in it
  alone : (index : ℕ) (header : Header) → index ≢ at → header_at headers index ≡ Some header
      → header.partition.0 ≢ at
  alone index header apart is own =
      let one : RowAt headers s.objects header = row_at [] parts s stand index header is in
      let other : header.serial.0 ≢ object.0 =
      λ same. apart (sym (stand.objects.indexed.alone index header is) ∙ ap (index_of headers) same) in
      let same : index_of headers one.row.partition.0 ≡ at = ap (λ (h : Header). h.partition.0) one.is ∙ own in
      home_elsewhere parts s object.0 leaves header.serial.0 one.row other one.found
      (one_serial headers one.row.partition.0 object.0
      (subst (λ (i : ℕ). i < length headers) (sym same) (leaves_within parts s object.0 leaves)) same)

  module _ (returned : Parts) (gives : GivesBack object.0 (extent_parent s.extents object.0) parts returned) where
    abbrev after : State
    after = reclaim_object object s

    pages_now : page_holders gives.memory ≡ after.holders
    pages_now = gives.pages ∙ ap (map (given_back object.0 (extent_parent s.extents object.0))) stand.memory.pages

    follow : SharesFollow s.holders after.holders parts.shares gives.shares
    follow =
        subst (λ (holders : List Serial). SharesFollow s.holders holders parts.shares gives.shares) pages_now
        (subst (λ (holders : List Serial). SharesFollow holders (page_holders gives.memory) parts.shares gives.shares)
        stand.memory.pages gives.follow)

    abbrev given : Parts
    given = record parts {
      shares = gives.shares;
      journal = record (parts.journal) { memory = gives.memory };
    }

    -- once all of it is gone, what it referred to is owed
    gone_owes : StandsOwing (losses s (Reclaim object))
        (removed at (freed row.partition.0 row.cost (row_quota (find (is_partition object.0) s.partitions)) (closed object.0 given)))
        (reclaim_object object s)
    gone_owes = record {
      objects = objects_now parts s object leaves after.holders gives.shares follow;
      blocks = blocks_left parts.table stand.blocks at (leaves_within parts s object.0 leaves) alone;
      kinds = kinds_left parts s object leaves after.holders gives.shares follow;
      references = references_left parts s object leaves;
      bells = bells_left parts s object leaves after.holders gives.shares follow;
      queues = queues_left parts s object leaves after.holders gives.shares follow;
      spans = spans_left parts s object leaves after.holders gives.shares follow;
      spaces = spaces_left parts s object leaves after.holders gives.shares follow;
      slots = slots_left parts s object leaves;
      units = units_left parts s object leaves;
      memory = record {
        rows = gives.rows ∙ ap (without (is_extent object.0)) stand.memory.rows;
        pages = pages_now;
      };
      numbers = record {
        cpus = stand.numbers.cpus;
        links = stand.numbers.links;
        taken = stand.numbers.taken;
        entries = stand.numbers.entries;
        serials = stand.numbers.serials;
        handles = stand.numbers.handles;
        rings = stand.numbers.rings;
      };
    }

  -- what it referred to

  home_names : home_named (find (is_object object.0) s.objects) ≡ row.partition ∷ []
  home_names =
      let serial : row.serial.0 ≡ object.0 = eqb-true row.serial.0 object.0 (found_passes (is_object object.0) s.objects row leaves.found) in
      ap home_named leaves.found
      ∙ ap (λ (b : Bool). if b then [] else row.partition ∷ [])
      (ne_eqb row.partition.0 row.serial.0 (λ same. home_other parts s object leaves (same ∙ serial)))

  parent_by : (found : Option ExtentRow) → find (is_extent object.0) s.extents ≡ found
      → parent_named found ≡ option_to_list (option_map row_parent found)
  parent_by None is = refl
  parent_by (Some one) is =
      ap (λ (b : Bool). if b then one.serial ∷ [] else one.parent ∷ [])
      (ne_eqb one.parent.0 0 (reclaiming_may.child one (ap (find (is_extent object.0)) stand.memory.rows ∙ is)))

  named : losses s (Reclaim object) ≡ row.partition ∷ option_to_list (option_map row_parent (find (is_extent object.0) s.extents))
  named =
      ap (λ (front : List Serial). front ++ parent_named (find (is_extent object.0) s.extents)) home_names
      ∙ ap (λ (rest : List Serial). row.partition ∷ rest) (parent_by (find (is_extent object.0) s.extents) refl)

  parent_told : parent_in parts.journal.memory object.0 ≡ option_map row_parent (find (is_extent object.0) s.extents)
  parent_told = ap (λ (rows : List ExtentRow). option_map row_parent (find (is_extent object.0) rows)) stand.memory.rows

  giver_told : unwrap_or (parent_in parts.journal.memory object.0) no_serial ≡ extent_parent s.extents object.0
  giver_told = ap (λ (o : Option Serial). unwrap_or o no_serial) parent_told ∙ by (find (is_extent object.0) s.extents)
    where
      by : (found : Option ExtentRow)
          → unwrap_or (option_map row_parent found) no_serial ≡ option_map_or (λ (one : ExtentRow). one.parent) found (serial_of 0)
      by None = refl
      by (Some one) = refl

  module _ (index : ObjIndex) (home : Serial) (parent : Option Serial) (cost quota : ℕ)
      (returned closing : Parts) (found : Some index ≡ found_index headers object.0)
      (home_is : home ≡ serial_at headers (partition_in (header_at headers index.0)))
      (parent_is : parent ≡ parent_in parts.journal.memory object.0)
      (cost_is : cost ≡ (place_at parts.shares index.0).cost)
      (quota_is : quota ≡ quota_of (find (is_account object.0) parts.journal.accounts))
      (gives : GivesBack object.0 (unwrap_or parent no_serial) parts returned)
      (closes : closing ≡ closed object.0 returned) where
    index_is : at ≡ index.0
    index_is = found_at headers object.0 index (sym found)

    home_told : home ≡ row.partition
    home_told = home_is ∙ ap (λ (i : ℕ). serial_at headers (partition_in (header_at headers i))) (sym index_is)
        ∙ home_row [] parts s stand object.0 row valid leaves.found

    cost_told : cost ≡ row.cost
    cost_told =
        cost_is ∙ ap (λ (i : ℕ). (place_at parts.shares i).cost) (sym index_is)
        ∙ stand.objects.costs object.0 row leaves.found

    quota_now : quota ≡ row_quota (find (is_partition object.0) s.partitions)
    quota_now = quota_is ∙ quota_told parts s object leaves

    giving : GivesBack object.0 (extent_parent s.extents object.0) parts returned
    giving =
        subst (λ (to : Serial). GivesBack object.0 to parts returned)
        (ap (λ (o : Option Serial). unwrap_or o no_serial) parent_is ∙ giver_told) gives

    abbrev given_now : Parts
    given_now = record parts {
      shares = giving.shares;
      journal = record (parts.journal) { memory = giving.memory };
    }

    closing_is : closing ≡ closed object.0 given_now
    closing_is = closes ∙ ap (closed object.0) giving.parts

    -- the partition has the units
    pub reclaiming_units : IfSome (find (is_account home.0) closing.journal.accounts) (HasUnits cost quota)
    reclaiming_units =
        subst (λ (p : Parts). IfSome (find (is_account home.0) p.journal.accounts) (HasUnits cost quota)) (sym closing_is)
        (subst (λ (n : Serial). IfSome (find (is_account n.0) (without (is_account object.0) parts.journal.accounts)) (HasUnits cost quota)) (sym home_told)
        (subst (λ (n : ℕ). IfSome (find (is_account row.partition.0) (without (is_account object.0) parts.journal.accounts)) (HasUnits n quota)) (sym cost_told)
        (subst (λ (n : ℕ). IfSome (find (is_account row.partition.0) (without (is_account object.0) parts.journal.accounts)) (HasUnits row.cost n)) (sym quota_now)
        (home_has parts s object leaves))))

    -- and with the object gone its references are owed
    pub reclaiming_owes : (free gone : Parts) → free ≡ freed home.0 cost quota closing → gone ≡ removed index.0 free
        → StandsOwing (home ∷ option_to_list parent) gone (reclaim_object object s)
    reclaiming_owes free gone frees removes =
        subst (λ (owed : List Serial). StandsOwing owed gone (reclaim_object object s))
        (named ∙ ap (λ (rest : List Serial). row.partition ∷ rest) (ap option_to_list (sym (parent_is ∙ parent_told)))
        ∙ ap (λ (first : Serial). first ∷ option_to_list parent) (sym home_told))
        (subst (λ (p : Parts). StandsOwing (losses s (Reclaim object)) p (reclaim_object object s))
        (sym (removes ∙ ap (λ (i : ℕ). removed i free) (sym index_is)
        ∙ ap (removed at)
        (frees
        ∙ ap (freed home.0 cost quota) closing_is
        ∙ ap (λ (n : Serial). freed n.0 cost quota (closed object.0 given_now)) home_told
        ∙ ap (λ (n : ℕ). freed row.partition.0 n quota (closed object.0 given_now)) cost_told
        ∙ ap (λ (n : ℕ). freed row.partition.0 row.cost n (closed object.0 given_now)) quota_now)))
        (gone_owes returned giving))

-- what is owed to one that may be named

pub named_has : (parts : Parts) (s : State) (named : Option Serial) → StandsOwing (option_to_list named) parts s
    → IfSome named (λ (one : Serial). HasCount parts one.0 (λ (n : ℕ). 1 ≤ n))
named_has parts s None stand = tt
named_has parts s (Some one) stand = owed_has parts s [] one stand

pub named_settled : (parts now : Parts) (s : State) (named : Option Serial) → StandsOwing (option_to_list named) parts s
    → now ≡ settled named parts → Stands now s
named_settled parts now s None stand is = subst (λ (p : Parts). Stands p s) (sym is) stand
named_settled parts now s (Some one) stand is = settled_next parts now s [] one stand is
