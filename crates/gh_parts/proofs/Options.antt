-- What is seen of a row that may be there.
use Rattle.std.proofs.Common.{◌≡◌, ◌∙◌, Option, Some, None, refl, ap}
use Rattle.std.specs.Option.{option_map, option_map_or}

-- two functions that agree map alike
pub map_same : {R V : Type 0} (f g : R → V) → ((row : R) → f row ≡ g row) → (found : Option R)
    → option_map f found ≡ option_map g found
map_same f g same None = refl
map_same f g same (Some row) = ap Some (same row)

-- a row with what is seen of another
pub record Like {R V : Type 0} (see : R → V) (found : Option R) (row : R) : Type 0 where
  pub one : R
  pub is : found ≡ Some one
  pub seen : see one ≡ see row

pub some_same : {V : Type 0} (a b : V) → Some a ≡ Some b → a ≡ b
some_same a b is = ap (λ (o : Option _). option_map_or (λ x. x) o a) is

like_by : {R V : Type 0} (see : R → V) (found : Option R) (row : R)
    → option_map see found ≡ Some (see row) → Like see found row
like_by see None row same = absurd (let never : ⊥ = cc in never)
like_by see (Some one) row same =
    record { one = one; is = refl; seen = some_same (see one) (see row) same }

-- where the same is seen of two finds, and one of them is a row, so is the other
pub like_found : {R V : Type 0} (see : R → V) (found other : Option R) (row : R)
    → option_map see found ≡ option_map see other → other ≡ Some row → Like see found row
like_found see found other row same is =
    like_by see found row (same ∙ ap (option_map see) is)

-- what is none once changed was none
pub map_none : {R V : Type 0} (f : R → V) (found : Option R) → option_map f found ≡ None
    → found ≡ None
map_none f None none = refl
map_none f (Some row) none = absurd (let never : ⊥ = cc in never)
