-- Shares of which each place has changed.
use Rattle.std.proofs.Common.{◌∙◌, ℕ, List, [], arith}
use Rattle.std.proofs.lemmas.List.Elements.{All-from_get_or, All-get_or}
use Rattle.gh_addrspace.specs.Space.{Space as Mapped}
use Rattle.gh_parts.specs.PageMoves.{PlaceChanges, SharesChange}
use Rattle.gh_parts.specs.Shares.{AreShares, place_at}
use Rattle.gh_parts.specs.declared.shares.Place.{Place}
use Rattle.gh_parts.proofs.PlaceLemmas.{share_of, sized_share, spot_of}

-- shares of which each place is changed are still whole
pub shares_changed : (change : Mapped → Mapped → Type 0) (old new : List (List Place)) → SharesChange change old new
    → AreShares old → AreShares new
shares_changed change old new changed whole = record {
  partitions = changed.shares ∙ whole.partitions;
  places =
      All-from_get_or sized_share new []
      (λ at within.
      (changed.each at).places
      ∙ All-get_or sized_share old at [] (omega (arith, within, changed.shares)) whole.places);
}

-- and each index has a changed place
pub place_changed : (change : Mapped → Mapped → Type 0) (old new : List (List Place)) → SharesChange change old new
    → (index : ℕ) → PlaceChanges change (place_at old index) (place_at new index)
place_changed change old new changed index = (changed.each (share_of index)).each (spot_of index)
