-- Objects stay in their blocks once one that no other lives in is removed.
use Rattle.std.proofs.Common.{◌≡◌, ◌≢◌, ◌<◌, ◌∙◌, ◌*◌, ℕ, Bool, true, false, List, Option, Some, None, refl, sym, ap, subst, length, set, get_or}
use Rattle.std.specs.Prelude.{if◌then◌else◌}
use Rattle.std.proofs.lemmas.List.{get_or-set_other}
use Rattle.std.proofs.lemmas.List.Folds.{position_or_len-set}
use Rattle.gh_base.specs.declared.ids.ObjIndex.{ObjIndex}
use Rattle.gh_base.specs.declared.limits.TheConstants.{PARTITION_PLACES}
use Rattle.gh_objects.proofs.ListLemmas.{set_none-here}
use Rattle.gh_objects.proofs.PartitionsLemmas.{HavePlaces-gone, HavePlaces-same}
use Rattle.gh_objects.specs.Headers.{HeaderTable, header_at, header_removed, is_had_by, is_partition, place_of, without_partition}
use Rattle.gh_objects.specs.Partitions.{HavePlaces}
use Rattle.gh_objects.specs.declared.header.Header.{Header}
use Rattle.gh_parts.specs.Blocks.{BlocksStand}
use Rattle.gh_parts.proofs.AddedBlocks.{had_same, place_had}

module _ (table : HeaderTable) (blocks : BlocksStand table) (at : ℕ) (below : at < length table.headers)
    (alone : (index : ℕ) (header : Header) → index ≢ at → header_at table.headers index ≡ Some header
    → header.partition.0 ≢ at) where
  abbrev headers : List (Option Header)
  headers = table.headers

  abbrev now : List (Option Header)
  now = set headers at None

  abbrev gone : List (Option ObjIndex)
  gone = set table.partitions (place_of table.partitions at) None

  have_by : (lives : Bool) → is_partition (header_at headers at) ≡ lives
      → HavePlaces now (if lives then gone else table.partitions)
  have_by true is = HavePlaces-gone headers table.partitions blocks.places at None below is refl
  have_by false is = HavePlaces-same headers table.partitions blocks.places at None below (sym is)

  -- another partition has another place
  unhad_by : (index : ℕ) (had : Bool) → index ≢ at → is_partition (header_at headers at) ≡ true
      → is_had_by index (get_or table.partitions (place_of table.partitions at) None) ≡ had → had ≡ false
  unhad_by index true apart lives is =
      absurd (apart (had_same index at (get_or table.partitions (place_of table.partitions at) None) is
      (place_had headers table.partitions blocks.places at lives).1))
  unhad_by index false apart lives is = refl

  place_by : (lives : Bool) → is_partition (header_at headers at) ≡ lives → (index : ℕ) → index ≢ at
      → place_of (if lives then gone else table.partitions) index ≡ place_of table.partitions index
  place_by true is index apart =
      position_or_len-set (is_had_by index) table.partitions (place_of table.partitions at) None None
      (sym (unhad_by index (is_had_by index (get_or table.partitions (place_of table.partitions at) None)) apart is refl))
  place_by false is index apart = refl

  place_left : (index : ℕ) → index ≢ at → place_of (without_partition table at) index ≡ place_of table.partitions index
  place_left index apart = place_by (is_partition (header_at headers at)) refl index apart

  never : (index : ℕ) (header : Header) → header_at now index ≡ Some header → index ≢ at
  never index header is same =
      let none : header_at now index ≡ None =
      subst (λ (i : ℕ). header_at now i ≡ None) (sym same) (set_none-here headers at) in
      let absent : ⊥ = cc in
      absent

  there : (index : ℕ) (header : Header) → header_at now index ≡ Some header
      → header_at headers index ≡ Some header
  there index header is =
      sym (get_or-set_other headers at index None None (never index header is)) ∙ is

  pub blocks_left : BlocksStand (header_removed table at)
  blocks_left = record {
    places = have_by (is_partition (header_at headers at)) refl;
    within = λ index header is.
        blocks.within index header (there index header is)
        ∙ sym (place_left header.partition.0 (alone index header (never index header is) (there index header is)));
    first = λ index header is own.
        blocks.first index header (there index header is) own
        ∙ ap (λ (p : ℕ). PARTITION_PLACES * p) (sym (place_left index (never index header is)));
  }
