-- How many places of a share have an address space.
use Rattle.std.proofs.Common.{◌≡◌, ◌<◌, ◌≤◌, ◌⊎◌, ℕ, zero, suc, Bool, true, false, List, [], ◌∷◌}
use Rattle.std.proofs.Common.{refl, ap, arith, inl, inr, get_or, length, replicate}
use Rattle.std.specs.Prelude.{count_by}
use Rattle.std.proofs.lemmas.Bool.{cases_Bool, cases_lt}
use Rattle.std.proofs.lemmas.List.{get_or_past}
use Rattle.gh_addrspace.specs.Space.{Space as Mapped}
use Rattle.gh_invariant.proofs.Counting.{count_cons, one_false}
use Rattle.gh_objects.proofs.ListLemmas.{count_by-passes}
use Rattle.gh_model.specs.QueueCalls.{one_if}
use Rattle.gh_parts.specs.MappingChanges.{Remaps}
use Rattle.gh_parts.specs.PageMoves.{ShareChanges}
use Rattle.gh_parts.specs.Shares.{has_space, is_space, no_place, place_in, spaces_in}
use Rattle.gh_parts.specs.declared.body.Body.{Body}
use Rattle.gh_parts.specs.declared.body.Body.TheVariants.{Bell, Extent, NewQueue, Nothing, Queue}
use Rattle.gh_parts.specs.declared.body.Body.TheVariants.{Space}
use Rattle.gh_parts.specs.declared.shares.Place.{Place}

-- places without an object have none
pub no_spaces : (count : ℕ) → spaces_in (replicate count no_place) ≡ 0
no_spaces zero = refl
no_spaces (suc count) =
    let fails : has_space no_place ≡ false = refl in
    omega (arith, count_cons has_space no_place (replicate count no_place), one_false (has_space no_place) fails, no_spaces count)

-- a body that has changed so is an address space where it was one
space_stays : (change : Mapped → Mapped → Type 0) (old new : Body) → Remaps change old new → is_space new ≡ is_space old
space_stays change (Space old) (Space new) so = refl
space_stays change (Space old) Nothing so = absurd so
space_stays change (Space old) (Bell words) so = absurd so
space_stays change (Space old) NewQueue so = absurd so
space_stays change (Space old) (Queue queue) so = absurd so
space_stays change (Space old) (Extent span) so = absurd so
space_stays change Nothing new so = ap is_space so
space_stays change (Bell words) new so = ap is_space so
space_stays change NewQueue new so = ap is_space so
space_stays change (Queue queue) new so = ap is_space so
space_stays change (Extent span) new so = ap is_space so

counts_same : (p : Place → Bool) (old new : List Place) (d : Place) → length new ≡ length old
    → ((at : ℕ) → p (get_or new at d) ≡ p (get_or old at d)) → count_by p new ≡ count_by p old
counts_same p [] [] d same each = refl
counts_same p [] (new ∷ news) d same each = absurd (omega (arith, same))
counts_same p (old ∷ olds) [] d same each = absurd (omega (arith, same))
counts_same p (old ∷ olds) (new ∷ news) d same each =
    omega (
      arith,
      count_cons p old olds,
      count_cons p new news,
      ap one_if (each 0),
      counts_same p olds news d (omega (arith, same)) (λ at. each (suc at)),
    )

-- a share that has changed so has as many
pub spaces_stay : (change : Mapped → Mapped → Type 0) (old new : List Place) → ShareChanges change old new
    → spaces_in new ≡ spaces_in old
spaces_stay change old new changed =
    counts_same has_space old new no_place changed.places
    (λ at. space_stays change (place_in old at).body (place_in new at).body (changed.each at).body)

-- a body that is none has changed so by itself
other_stays : (change : Mapped → Mapped → Type 0) (body : Body) → is_space body ≡ false → Remaps change body body
other_stays change (Space space) is = absurd (let never : ⊥ = cc in never)
other_stays change Nothing is = refl
other_stays change (Bell words) is = refl
other_stays change NewQueue is = refl
other_stays change (Queue queue) is = refl
other_stays change (Extent span) is = refl

-- where no place has one none is there
none_there : (places : List Place) (at : ℕ) → spaces_in places ≡ 0 → has_space (place_in places at) ≡ false
none_there places at none =
    elim (cases_Bool (has_space (place_in places at))) [
      | inl has ↦ absurd (some has (cases_lt at (length places)))
      | inr lacks ↦ lacks
    ]
  where
    some : has_space (place_in places at) ≡ true → (at < length places) ⊎ (length places ≤ at) → ⊥
    some has (inl within) = omega (arith, none, count_by-passes has_space places at no_place within has)
    some has (inr past) =
        let outside : has_space (place_in places at) ≡ false = ap has_space (get_or_past places at no_place past) in
        let never : ⊥ = cc in never

-- so a share without any has changed so by itself
pub unspaced_stays : (change : Mapped → Mapped → Type 0) (places : List Place) → spaces_in places ≡ 0
    → ShareChanges change places places
unspaced_stays change places none = record {
  places = refl;
  each = λ at. record { cost = refl; body = other_stays change (place_in places at).body (none_there places at none) };
}
