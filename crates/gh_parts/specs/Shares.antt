-- The shares of the partition places as callers see them: for each partition place the objects'
-- costs and bodies, by their places there.
use Rattle.std.specs.Prelude.{◌≡◌, ◌/◌, ◌%◌, ℕ, Bool, true, false, List, [], length, replicate, All}
use Rattle.std.specs.Prelude.{count_by, slice_index_or, slice_set}
use Rattle.gh_base.specs.declared.limits.TheConstants.{PARTITIONS, PARTITION_PLACES}
use Rattle.gh_parts.specs.declared.body.Body.{Body}
use Rattle.gh_parts.specs.declared.body.Body.TheVariants.{Nothing, Space}
use Rattle.gh_parts.specs.declared.shares.Place.{Place}

-- where no object is
abbrev pub no_place : Place
no_place = record { cost = 0; body = Nothing }

-- no object is anywhere
abbrev pub no_shares : List (List Place)
no_shares = replicate PARTITIONS (replicate PARTITION_PLACES no_place)

-- each partition place has its share, with a place for each of its objects
pub record AreShares (shares : List (List Place)) : Type 0 where
  pub partitions : length shares ≡ PARTITIONS
  pub places : All (λ places. length places ≡ PARTITION_PLACES) shares

-- what is at a place of a share
abbrev pub place_in : List Place → ℕ → Place
place_in places at = slice_index_or places at no_place

-- what is at an index
abbrev pub place_at : List (List Place) → ℕ → Place
place_at shares index =
    place_in (slice_index_or shares (index / PARTITION_PLACES) []) (index % PARTITION_PLACES)

-- the body at an index
abbrev pub body_at : List (List Place) → ℕ → Body
body_at shares index = (place_at shares index).body

-- the shares with another place at an index
abbrev pub with_place : List (List Place) → ℕ → Place → List (List Place)
with_place shares index place =
    slice_set shares (index / PARTITION_PLACES)
    (slice_set (slice_index_or shares (index / PARTITION_PLACES) []) (index % PARTITION_PLACES)
    place)

-- a share with another body at a place
abbrev pub with_body_in : List Place → ℕ → Body → List Place
with_body_in places at body = slice_set places at (record (place_in places at) { body = body })

-- the shares with another body at an index
abbrev pub with_body : List (List Place) → ℕ → Body → List (List Place)
with_body shares index body =
    slice_set shares (index / PARTITION_PLACES)
    (with_body_in (slice_index_or shares (index / PARTITION_PLACES) [])
    (index % PARTITION_PLACES) body)

-- a share with another cost at a place
abbrev pub with_cost_in : List Place → ℕ → ℕ → List Place
with_cost_in places at cost = slice_set places at (record (place_in places at) { cost = cost })

-- the shares with another cost at an index
abbrev pub with_cost_at : List (List Place) → ℕ → ℕ → List (List Place)
with_cost_at shares index cost =
    slice_set shares (index / PARTITION_PLACES)
    (with_cost_in (slice_index_or shares (index / PARTITION_PLACES) [])
    (index % PARTITION_PLACES) cost)

-- a place with an address space, and how many there are in a share
abbrev pub is_space : Body → Bool
is_space (Space space) = true
is_space _ = false

abbrev pub has_space : Place → Bool
has_space place = is_space place.body

abbrev pub spaces_in : List Place → ℕ
spaces_in places = count_by has_space places
