-- What is at each index once what is at one of them is another.
use Rattle.std.proofs.Common.{◌≡◌, ◌≢◌, ◌<◌, ◌≤◌, ◌∙◌, ◌/◌, ◌%◌, ◌*◌, ◌+◌, ℕ, List, [], Option, None, refl, sym, ap, subst, arith}
use Rattle.std.proofs.Common.{inl, inr, length}
use Rattle.std.proofs.Common.{set, get_or}
use Rattle.std.specs.Prelude.{All}
use Rattle.std.proofs.lemmas.Bool.{cases_lt, cases_eq}
use Rattle.std.proofs.lemmas.List.{get_or-set_same, get_or-set_other, length-set, set_past}
use Rattle.std.proofs.lemmas.List.Elements.{All-get_or, All-set}
use Rattle.std.proofs.lemmas.Nat.{div-add-mod', div_below, le-div, mod_below}
use Rattle.gh_base.specs.declared.limits.TheConstants.{OBJECT_INDICES, PARTITION_PLACES, PARTITIONS}
use Rattle.gh_parts.specs.Shares.{AreShares, no_place, place_at, place_in, with_cost_at}
use Rattle.gh_parts.specs.declared.shares.Place.{Place}
use Rattle.gh_objects.specs.declared.header.Header.{Header}
use Rattle.gh_parts.specs.Index.{AreIndexed, found_index, index_of}
use Rattle.gh_parts.proofs.IndexLemmas.{unfound_past}

-- what holds of an element and of what was there holds once it is written there
pub set_there : {X : Type 0} (P : X → Type 0) (xs : List X) (i : ℕ) (x d : X) → P x → P (get_or xs i d)
    → P (get_or (set xs i x) i d)
set_there P xs i x d new old =
    elim (cases_lt i (length xs)) [
      | inl below ↦ subst P (sym (get_or-set_same xs i x d below)) new
      | inr past ↦ subst (λ (ys : List _). P (get_or ys i d)) (sym (set_past xs i x past)) old
    ]

-- a share has a place for each of its objects
abbrev pub sized_share : List Place → Type 0
sized_share places = length places ≡ PARTITION_PLACES

-- the share of an index, and its place there
abbrev pub share_of : ℕ → ℕ
share_of index = index / PARTITION_PLACES

abbrev pub spot_of : ℕ → ℕ
spot_of index = index % PARTITION_PLACES

pub share_below : (index : ℕ) → index < OBJECT_INDICES → share_of index < PARTITIONS
share_below index within = div_below index PARTITION_PLACES PARTITIONS (omega arith) within

pub spot_below : (index : ℕ) → spot_of index < PARTITION_PLACES
spot_below index = mod_below index PARTITION_PLACES (omega arith)

-- another place of the same share
pub other_spot : (index other : ℕ) → other ≢ index → share_of other ≡ share_of index
    → spot_of other ≢ spot_of index
other_spot index other apart share spot =
    apart (sym (div-add-mod' other PARTITION_PLACES)
    ∙ ap (λ (q : ℕ). q * PARTITION_PLACES + spot_of other) share
    ∙ ap (λ (r : ℕ). share_of index * PARTITION_PLACES + r) spot
    ∙ div-add-mod' index PARTITION_PLACES)

module _ (shares : List (List Place)) (index : ℕ) (place : Place) where
  abbrev share : List Place
  share = set (get_or shares (share_of index) []) (spot_of index) place

  -- the shares with the place
  abbrev pub placed : List (List Place)
  placed = set shares (share_of index) share

  pub place_here : AreShares shares → index < OBJECT_INDICES → place_at placed index ≡ place
  place_here whole within =
      let sized : length (get_or shares (share_of index) []) ≡ PARTITION_PLACES =
      All-get_or sized_share shares (share_of index) [] (omega (arith, whole.partitions, share_below index within)) whole.places in
      ap (λ (places : List Place). place_in places (spot_of index))
      (get_or-set_same shares (share_of index) share [] (omega (arith, whole.partitions, share_below index within)))
      ∙ get_or-set_same (get_or shares (share_of index) []) (spot_of index) place no_place (omega (arith, sized, spot_below index))

  pub place_elsewhere : (other : ℕ) → other ≢ index → place_at placed other ≡ place_at shares other
  place_elsewhere other apart =
      elim (cases_eq (share_of other) (share_of index)) [
        | inl same ↦
            subst (λ (q : ℕ). place_in (get_or placed q []) (spot_of other) ≡ place_in (get_or shares q []) (spot_of other)) (sym same)
            (set_there (λ (places : List Place). place_in places (spot_of other) ≡ place_in (get_or shares (share_of index) []) (spot_of other))
            shares (share_of index) share []
            (get_or-set_other (get_or shares (share_of index) []) (spot_of index) (spot_of other) place no_place
            (other_spot index other apart same))
            refl)
        | inr another ↦
            ap (λ (places : List Place). place_in places (spot_of other))
            (get_or-set_other shares (share_of index) (share_of other) share [] another)
      ]

  -- what is kept of the place is kept everywhere
  pub place_kept : {V : Type 0} (see : Place → V) → see place ≡ see (place_at shares index) → (other : ℕ)
      → see (place_at placed other) ≡ see (place_at shares other)
  place_kept see kept other =
      elim (cases_eq other index) [
        | inl same ↦
            subst (λ (i : ℕ). see (place_at placed i) ≡ see (place_at shares i)) (sym same)
            (set_there (λ (places : List Place). see (place_in places (spot_of index)) ≡ see (place_at shares index))
            shares (share_of index) share []
            (set_there (λ (one : Place). see one ≡ see (place_at shares index))
            (get_or shares (share_of index) []) (spot_of index) place no_place kept refl)
            refl)
        | inr apart ↦ ap see (place_elsewhere other apart)
      ]

  pub place_past : AreShares shares → OBJECT_INDICES ≤ index → placed ≡ shares
  place_past whole past =
      set_past shares (share_of index) share
      (omega (arith, whole.partitions, le-div PARTITIONS index PARTITION_PLACES (omega arith) past))

  pub places_whole : AreShares shares → AreShares placed
  places_whole whole = record {
    partitions = length-set shares (share_of index) share ∙ whole.partitions;
    places =
        elim (cases_lt (share_of index) (length shares)) [
          | inl below ↦
              All-set sized_share shares (share_of index) share
              (length-set (get_or shares (share_of index) []) (spot_of index) place
              ∙ All-get_or sized_share shares (share_of index) [] below whole.places)
              whole.places
          | inr past ↦ subst (All sized_share) (sym (set_past shares (share_of index) share past)) whole.places
        ];
  }

-- where an object isn't found no cost is set
pub unfound_cost : (headers : List (Option Header)) (shares : List (List Place)) (serial cost : ℕ)
    → AreIndexed headers → AreShares shares → None ≡ found_index headers serial
    → with_cost_at shares (index_of headers serial) cost ≡ shares
unfound_cost headers shares serial cost all whole none =
    place_past shares (index_of headers serial) (record (place_at shares (index_of headers serial)) { cost = cost }) whole
    (omega (arith, all.indices, unfound_past headers serial (sym none)))
