-- What is at each index once another body is put to one of them.
use Rattle.std.proofs.Common.{◌≡◌, ◌≢◌, ◌<◌, ◌≤◌, ◌∙◌, ℕ, List, [], refl, sym, ap, arith, inl, inr}
use Rattle.std.proofs.Common.{length, set, get_or}
use Rattle.std.proofs.lemmas.Bool.{cases_lt}
use Rattle.std.proofs.lemmas.List.{get_or-set_same, length-set, set_past, set-get_or, set-set}
use Rattle.gh_base.specs.declared.limits.TheConstants.{OBJECT_INDICES}
use Rattle.gh_parts.specs.Shares.{AreShares, body_at, no_place, place_at, place_in, with_body, with_body_in}
use Rattle.gh_parts.specs.declared.body.Body.{Body}
use Rattle.gh_parts.specs.declared.shares.Place.{Place}
use Rattle.gh_parts.proofs.PlaceLemmas.{place_elsewhere, place_here, place_kept, place_past, places_whole, share_of, spot_of}

module _ (shares : List (List Place)) (index : ℕ) (body : Body) where
  abbrev place : Place
  place = record (place_at shares index) { body = body }

  abbrev pub written : List Place
  written = with_body_in (get_or shares (share_of index) []) (spot_of index) body

  -- the body stands at its index
  pub body_here : AreShares shares → index < OBJECT_INDICES
      → body_at (with_body shares index body) index ≡ body
  body_here all within = ap (λ (one : Place). one.body) (place_here shares index place all within)

  -- every other index has what it had
  pub body_other : (other : ℕ) → other ≢ index
      → body_at (with_body shares index body) other ≡ body_at shares other
  body_other other apart = ap (λ (one : Place). one.body) (place_elsewhere shares index place other apart)

  -- costs stay
  pub cost_same : (other : ℕ)
      → (place_at (with_body shares index body) other).cost ≡ (place_at shares other).cost
  cost_same other = place_kept shares index place (λ (one : Place). one.cost) refl other

  -- past the last index nothing is put
  pub body_past : AreShares shares → OBJECT_INDICES ≤ index → with_body shares index body ≡ shares
  body_past all past = place_past shares index place all past

  -- the shares stay whole
  pub shares_whole : AreShares shares → AreShares (with_body shares index body)
  shares_whole all = places_whole shares index place all

-- a body that is put over another in one share
body_in_twice : (places : List Place) (at : ℕ) (first body : Body)
    → with_body_in (with_body_in places at first) at body ≡ with_body_in places at body
body_in_twice places at first body =
    elim (cases_lt at (length places)) [
      | inl below ↦
          ap (λ (place : Place). set (with_body_in places at first) at (record place { body = body }))
          (get_or-set_same places at (record (place_in places at) { body = first }) no_place below)
          ∙ set-set places at _ _
      | inr past ↦
          set_past (with_body_in places at first) at _
          (omega (arith, length-set places at (record (place_in places at) { body = first })))
          ∙ set_past places at _ past
          ∙ sym (set_past places at _ past)
    ]

-- a body that is put over another
pub body_twice : (shares : List (List Place)) (index : ℕ) (first body : Body)
    → with_body (with_body shares index first) index body ≡ with_body shares index body
body_twice shares index first body =
    elim (cases_lt (share_of index) (length shares)) [
      | inl below ↦
          let there : get_or (with_body shares index first) (share_of index) [] ≡ written shares index first =
          get_or-set_same shares (share_of index) (written shares index first) [] below in
          ap (λ (places : List Place). set (with_body shares index first) (share_of index) (with_body_in places (spot_of index) body)) there
          ∙ set-set shares (share_of index) (written shares index first) (with_body_in (written shares index first) (spot_of index) body)
          ∙ ap (set shares (share_of index)) (body_in_twice (get_or shares (share_of index) []) (spot_of index) first body)
      | inr past ↦
          set_past (with_body shares index first) (share_of index) _ (omega (arith, length-set shares (share_of index) (written shares index first)))
          ∙ set_past shares (share_of index) (written shares index first) past
          ∙ sym (set_past shares (share_of index) (written shares index body) past)
    ]

-- a body that is put where it stands
pub body_same : (shares : List (List Place)) (index : ℕ)
    → with_body shares index (body_at shares index) ≡ shares
body_same shares index =
    ap (set shares (share_of index))
    (set-get_or (get_or shares (share_of index) []) (spot_of index) no_place)
    ∙ set-get_or shares (share_of index) []
