-- What lives is found in the parts.
use Rattle.std.proofs.Common.{◌≡◌, ◌<◌, ◌≤◌, ◌∙◌, ◌==◌, ℕ, true, List, Option, Some, None, refl, sym, ap, subst, arith, inl, inr}
use Rattle.std.proofs.Common.{find, is_some, length, IsTrue}
use Rattle.std.specs.Option.{option_map}
use Rattle.std.proofs.lemmas.Bool.{cases_lt, eqb-true}
use Rattle.std.proofs.lemmas.List.{get_or_past}
use Rattle.gh_base.specs.Kind.{kind_number, kind_numbered}
use Rattle.gh_base.specs.declared.kind.Kind.{Kind}
use Rattle.gh_base.specs.declared.kind.Kind.TheVariants as kind
use Rattle.gh_base.specs.declared.limits.TheConstants.{OBJECT_INDICES}
use Rattle.gh_invariant.proofs.Counting.{unfound}
use Rattle.gh_invariant.specs.Valid.{IsValidTo}
use Rattle.gh_model.specs.Boot.{is_of_kind}
use Rattle.gh_model.specs.Rows.{is_object}
use Rattle.gh_model.specs.declared.rows.ObjectRow.{ObjectRow}
use Rattle.gh_model.specs.declared.state.State.{State}
use Rattle.gh_objects.specs.Headers.{header_at}
use Rattle.gh_objects.specs.declared.header.Header.{Header}
use Rattle.gh_parts.specs.Bodies.{fits_body, is_body_of}
use Rattle.gh_parts.specs.declared.body.Body.{Body}
use Rattle.gh_parts.proofs.Options.{some_same}
use Rattle.gh_parts.specs.Index.{index_of}
use Rattle.gh_parts.specs.Stands.{ObjectsStand, header_of}
use Rattle.gh_parts.specs.declared.shares.Place.{Place}

-- what is there, with what it is
pub record There {X : Type 0} (found : Option X) : Type 0 where
  pub it : X
  pub is : found ≡ Some it

pub there : {X : Type 0} (found : Option X) → is_some found ≡ true → There found
there None some = absurd (let never : ⊥ = cc in never)
there (Some x) some = record { it = x; is = refl }

pub kind_there : (k : Kind) (found : Option ObjectRow) → IsTrue (is_of_kind k found) → There found
kind_there k None is = absurd (let never : ⊥ = cc in never)
kind_there k (Some row) is = record { it = row; is = refl }

never_past : (headers : List (Option Header)) (row : ObjectRow) (index : ℕ)
    → header_at headers index ≡ Some (header_of headers row) → length headers ≤ index → ⊥
never_past headers row index is past =
    let none : header_at headers index ≡ None = get_or_past headers index None past in
    let never : ⊥ = cc in
    never

-- a live object has an index
pub index_below : (headers : List (Option Header)) (shares : List (List Place))
    (retirements : List (Option (List ℕ))) (objects : List ObjectRow)
    → ObjectsStand headers shares retirements objects → (serial : ℕ) (row : ObjectRow)
    → find (is_object serial) objects ≡ Some row → index_of headers serial < OBJECT_INDICES
index_below headers shares retirements objects stand serial row is =
    elim (cases_lt (index_of headers serial) OBJECT_INDICES) [
      | inl below ↦ below
      | inr past ↦
          absurd (never_past headers row (index_of headers serial)
          (stand.each serial ∙ ap (option_map (header_of headers)) is)
          (omega (arith, stand.indexed.indices)))
    ]

-- and a serial above 0
pub object_some : (last : ℕ) (s : State) → IsValidTo last s → (serial : ℕ) (row : ObjectRow)
    → find (is_object serial) s.objects ≡ Some row → 0 < serial
object_some last s valid serial row is =
    elim (cases_lt 0 serial) [
      | inl some ↦ some
      | inr none ↦
          let zero : serial ≡ 0 = omega arith in
          let gone : find (is_object serial) s.objects ≡ None =
          subst (λ (n : ℕ). find (is_object n) s.objects ≡ None) (sym zero) (unfound (is_object 0) s.objects valid.objects.none) in
          absurd (let never : ⊥ = cc in never)
    ]

-- a kind is that of its number
pub numbered : (k : Kind) → kind_numbered (kind_number k) ≡ Some k
numbered kind.Partition = refl
numbered kind.Cspace = refl
numbered kind.Space = refl
numbered kind.Extent = refl
numbered kind.Bell = refl
numbered kind.Queue = refl

pub same_kind : (a b : Kind) → (kind_number a == kind_number b) ≡ true → a ≡ b
same_kind a b same =
    some_same a b (sym (numbered a) ∙ ap kind_numbered (eqb-true _ _ same) ∙ numbered b)

-- the body of a live object is that of its kind
pub body_of_kind : (k : Kind) (found : Option ObjectRow) (body : Body) → is_of_kind k found ≡ true
    → fits_body body found ≡ true → is_body_of k body ≡ true
body_of_kind k None body is fits = absurd (let never : ⊥ = cc in never)
body_of_kind k (Some row) body is fits =
    subst (λ (one : Kind). is_body_of one body ≡ true) (same_kind row.kind k is) fits
