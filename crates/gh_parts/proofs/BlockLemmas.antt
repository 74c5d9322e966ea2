-- Objects stay in their blocks.
use Rattle.std.proofs.Common.{◌≡◌, ◌∙◌, ℕ, List, Option, Some, None, refl, sym, ap, subst, inl, inr, length, set}
use Rattle.std.specs.Option.{option_map}
use Rattle.std.proofs.lemmas.Bool.{cases_eq, cases_lt}
use Rattle.std.proofs.lemmas.List.{get_or-set_other, set_past}
use Rattle.gh_base.specs.declared.ids.ObjIndex.{ObjIndex}
use Rattle.gh_base.specs.declared.kind.Stage.{Stage}
use Rattle.gh_base.specs.declared.limits.TheConstants.{OBJECT_INDICES}
use Rattle.gh_objects.proofs.ListLemmas.{replicate-at, set_map-here}
use Rattle.gh_objects.proofs.PartitionsLemmas.{HavePlaces-none, HavePlaces-same}
use Rattle.gh_objects.specs.Headers.{HeaderTable, header_at, header_staged, in_stage, is_partition, no_headers, place_of}
use Rattle.gh_objects.specs.Partitions.{HavePlaces}
use Rattle.gh_objects.specs.declared.header.Header.{Header}
use Rattle.gh_parts.specs.Blocks.{BlocksStand}
use Rattle.gh_parts.proofs.Options.{Like, like_found}

-- nothing lives, and so in no block
pub no_blocks : BlocksStand no_headers
no_blocks = record {
  places = HavePlaces-none no_headers.headers no_headers.partitions refl refl;
  within = λ index header is. absurd (never index header is);
  first = λ index header is own. absurd (never index header is);
}
  where
    never : (index : ℕ) (header : Header) → header_at no_headers.headers index ≡ Some header → ⊥
    never index header is =
        let none : header_at no_headers.headers index ≡ None =
        replicate-at None OBJECT_INDICES no_headers.headers refl index in
        let absent : ⊥ = cc in
        absent

-- the partition in a header
abbrev home : Header → ObjIndex
home header = header.partition

module _ (table : HeaderTable) (stage : Stage) (at : ℕ) (blocks : BlocksStand table) where
  abbrev headers : List (Option Header)
  headers = table.headers

  abbrev staged : List (Option Header)
  staged = set headers at (option_map (in_stage stage) (header_at headers at))

  kind_stays : (found : Option Header) → is_partition (option_map (in_stage stage) found) ≡ is_partition found
  kind_stays None = refl
  kind_stays (Some header) = refl

  home_stays : (found : Option Header) → option_map home (option_map (in_stage stage) found) ≡ option_map home found
  home_stays None = refl
  home_stays (Some header) = refl

  homes_stay : (index : ℕ) → option_map home (header_at headers index) ≡ option_map home (header_at staged index)
  homes_stay index =
      elim (cases_eq index at) [
        | inl same ↦
            subst (λ (i : ℕ). option_map home (header_at headers i) ≡ option_map home (header_at staged i)) (sym same)
            (sym (ap (option_map home) (set_map-here (in_stage stage) headers at) ∙ home_stays (header_at headers at)))
        | inr apart ↦ ap (option_map home) (sym (get_or-set_other headers at index _ None apart))
      ]

  places_stay : HavePlaces staged table.partitions
  places_stay =
      elim (cases_lt at (length headers)) [
        | inl below ↦
            HavePlaces-same headers table.partitions blocks.places at _ below (kind_stays (header_at headers at))
        | inr past ↦
            subst (λ (now : List (Option Header)). HavePlaces now table.partitions) (sym (set_past headers at _ past)) blocks.places
      ]

  -- an object comes to another stage where it lies
  pub blocks_staged : BlocksStand (header_staged stage table at)
  blocks_staged = record {
    places = places_stay;
    within = λ index header is.
        let like : Like home (header_at headers index) header =
        like_found home _ _ header (homes_stay index) is in
        blocks.within index like.one like.is
        ∙ ap (λ (p : ObjIndex). place_of table.partitions p.0) like.seen;
    first = λ index header is own.
        let like : Like home (header_at headers index) header =
        like_found home _ _ header (homes_stay index) is in
        blocks.first index like.one like.is (ap (λ (p : ObjIndex). p.0) like.seen ∙ own);
  }
