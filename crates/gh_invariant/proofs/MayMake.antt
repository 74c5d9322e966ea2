-- What every call comes to may be made: the changes of a decision, in a valid state.
use Rattle.std.proofs.Common.{◌≡◌, ◌/◌, ◌<◌, ℕ, Bool, true, false, not, List, [], ◌∷◌, refl, arith, Option, Some, None, IsTrue, eqb, if◌then◌else◌}
use Rattle.std.specs.Prelude.{◌||◌, ◌==◌, is_some, nat_lt, nat_le}
use Rattle.std.proofs.lemmas.Bool.Decides.{nat_tests}
use Rattle.gh_base.specs.declared.errno.Errno.{Errno}
use Rattle.gh_base.specs.declared.frame.Reply.{Reply}
use Rattle.gh_base.specs.declared.ids.Serial.{Serial}
use Rattle.gh_base.specs.declared.kind.Kind.{Kind}
use Rattle.gh_model.specs.Act.{is_active_row}
use Rattle.gh_model.specs.Decide.{is_active}
use Rattle.gh_model.specs.declared.change.Change.{Change}
use Rattle.gh_model.specs.declared.change.Decision.{Decision}
use Rattle.gh_model.specs.declared.change.Decision.TheVariants.{Refuse, Make}
use Rattle.gh_model.specs.declared.rows.ObjectRow.{ObjectRow}
use Rattle.gh_model.specs.declared.state.State.{State}
use Rattle.gh_model.specs.Registers.{first_of, is_unaligned}
use Rattle.gh_model.specs.Rows.{object_row}
use Rattle.gh_invariant.specs.Grants.{MayMake, grant_fits}
use Rattle.gh_invariant.specs.Lives.{lives, lives_as}
use Rattle.gh_invariant.specs.Premises.{MayChange}

-- a decision behind a refusal may be made where that refusal doesn't hold
pub unless : (s : State) (refused : Bool) (errno : Errno) (others : Decision)
    → (refused ≡ false → MayMake s others) → MayMake s (if refused then Refuse errno else others)
unless s true errno others made = tt
unless s false errno others made = made refl

-- the same where a test must hold
pub provided : (s : State) (holds : Bool) (errno : Errno) (others : Decision)
    → (holds ≡ true → MayMake s others) → MayMake s (if holds then others else Refuse errno)
provided s false errno others made = tt
provided s true errno others made = made refl

-- one change
pub one : (s : State) (change : Change) (reply : Reply) → MayChange s change → MayMake s (Make (change ∷ []) reply)
one s change reply may = record { first = may; others = tt }

-- an object in use lives
active_lives_by : (row : Option ObjectRow) → is_active_row row ≡ true → IsTrue (is_some row)
active_lives_by None is = absurd (let never : ⊥ = cc in never)
active_lives_by (Some row) is = refl

pub active_lives : (s : State) (grant : Serial) → is_active s grant ≡ true → IsTrue (lives s.objects grant.0)
active_lives s grant is = active_lives_by (object_row s grant.0) is

-- a granted object that lives is of the kind that is needed
fits_by : (here there : Bool) → here ≡ true → (not here || there) ≡ true → there ≡ true
fits_by true there lives fits = fits
fits_by false there lives fits = absurd (let never : ⊥ = cc in never)

pub granted_kind : (objects : List ObjectRow) (grant : Serial) (k : Kind)
    → IsTrue (grant_fits objects grant (Some k)) → IsTrue (lives objects grant.0) → IsTrue (lives_as objects grant.0 k)
granted_kind objects grant k fits is = fits_by (lives objects grant.0) (lives_as objects grant.0 k) is fits

pub not_false : (b : Bool) → not b ≡ false → IsTrue b
not_false true is = refl
not_false false is = absurd (let never : ⊥ = cc in never)

-- tests of numbers that fail

pub itself : (n : ℕ) → eqb n n ≡ true
itself n = grind (arith, nat_tests)

pub at_most_by : (a b : ℕ) → nat_lt a b ≡ false → IsTrue (nat_le b a)
at_most_by a b fails = grind (arith, nat_tests)

pub below_by : (a b : ℕ) → nat_le a b ≡ false → b < a
below_by a b fails = grind (arith, nat_tests)

-- a shape without a refusal has none of its first, and none of the others
pub first_none : (refused : Bool) (errno : Errno) (others : List (Bool × Errno)) → first_of ((refused, errno) ∷ others) ≡ None
    → (refused ≡ false) × (first_of others ≡ None)
first_none true errno others none = absurd (let never : ⊥ = cc in never)
first_none false errno others none = (refl, none)

-- a size in whole pages that isn't 0 has a page
pub some_pages : (size : ℕ) → is_unaligned size ≡ false → (size == 0) ≡ false → IsTrue (nat_lt 0 (size / 4096))
some_pages size whole some = grind (arith, nat_tests)
