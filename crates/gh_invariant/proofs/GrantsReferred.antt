-- The objects that a call was granted have references, where none of them is at its end.
use Rattle.std.proofs.Common.{◌≡◌, ℕ, Bool, true, false, List, [], ◌∷◌, length, refl, arith, IsTrue, if◌then◌else◌}
use Rattle.std.proofs.lemmas.Bool.{and_parts}
use Rattle.gh_base.specs.declared.cap_word.Need.{Need}
use Rattle.gh_base.specs.declared.ids.Rights.{Rights}
use Rattle.gh_base.specs.declared.ids.Serial.{Serial}
use Rattle.gh_base.specs.declared.kind.Kind.TheVariants as kind
use Rattle.gh_model.specs.Act.{any_doomed}
use Rattle.gh_model.specs.Decisions.{grant_at}
use Rattle.gh_model.specs.MemoryCalls.{row_space}
use Rattle.gh_model.specs.Registers.{of_kind}
use Rattle.gh_model.specs.Rows.{cpu_row}
use Rattle.gh_model.specs.declared.state.State.{State}
use Rattle.gh_invariant.specs.Grants.{grants_stand, is_referred, is_running}
use Rattle.gh_invariant.proofs.Referred.{cpu_refers, first_referred, second_referred}

-- as many grants as needs
pub as_many : (s : State) (needs : List (ℕ × Need)) (grants : List Serial) → IsTrue (grants_stand s.objects needs grants) → length grants ≡ length needs
as_many s [] [] stand = refl
as_many s [] (grant ∷ grants) stand = absurd (let never : ⊥ = cc in never)
as_many s (need ∷ needs) [] stand = absurd (let never : ⊥ = cc in never)
as_many s (need ∷ needs) (grant ∷ grants) stand =
    let others : length grants ≡ length needs = as_many s needs grants (and_parts _ (grants_stand s.objects needs grants) stand).1 in
    omega arith

-- the needs of a call that names an address space, 0 for its own, and an extent
abbrev pub named_needs : ℕ → ℕ → Rights → Bool → List (ℕ × Need)
named_needs space extent rights own =
    if own then (extent, of_kind kind.Extent rights) ∷ []
    else (space, of_kind kind.Space rights) ∷ (extent, of_kind kind.Extent rights) ∷ []

module _ (s : State) (cpu : ℕ) (running : IsTrue (is_running (cpu_row s cpu))) (space extent : ℕ) (rights : Rights)
    (grants : List Serial) (live : any_doomed s grants ≡ false) where
  pub space_referred : (own : Bool) → IsTrue (grants_stand s.objects (named_needs space extent rights own) grants)
      → IsTrue (is_referred s (if own then row_space (cpu_row s cpu) else grant_at grants 0))
  space_referred true stand = cpu_refers s cpu running
  space_referred false stand =
      let two : length grants ≡ 2 = as_many s (named_needs space extent rights false) grants stand in
      first_referred s grants (omega arith) live

  pub extent_referred : (own : Bool) → IsTrue (grants_stand s.objects (named_needs space extent rights own) grants)
      → IsTrue (is_referred s (if own then grant_at grants 0 else grant_at grants 1))
  extent_referred true stand =
      let one : length grants ≡ 1 = as_many s (named_needs space extent rights true) grants stand in
      first_referred s grants (omega arith) live
  extent_referred false stand =
      let two : length grants ≡ 2 = as_many s (named_needs space extent rights false) grants stand in
      second_referred s grants (omega arith) live

pub first_of_two : (s : State) (grants : List Serial) (first second : ℕ × Need) → IsTrue (grants_stand s.objects (first ∷ second ∷ []) grants) → any_doomed s grants ≡ false
    → IsTrue (is_referred s (grant_at grants 0))
first_of_two s grants first second stand live =
    let two : length grants ≡ 2 = as_many s (first ∷ second ∷ []) grants stand in first_referred s grants (omega arith) live

pub second_of_two : (s : State) (grants : List Serial) (first second : ℕ × Need) → IsTrue (grants_stand s.objects (first ∷ second ∷ []) grants) → any_doomed s grants ≡ false
    → IsTrue (is_referred s (grant_at grants 1))
second_of_two s grants first second stand live =
    let two : length grants ≡ 2 = as_many s (first ∷ second ∷ []) grants stand in second_referred s grants (omega arith) live
