-- What the table of mappings says of all mappings.
use Rattle.std.proofs.Common.{◌≡◌, ℕ, zero, suc, ◌+◌, ◌<◌, Bool}
use Rattle.std.proofs.Common.{false, List, [], ◌∷◌, ◌++◌, length, refl, sym}
use Rattle.std.proofs.Common.{ap, ◌∙◌, arith, inl, inr, cond, eq-eqb, ne_eqb}
use Rattle.std.specs.Prelude.{◌||◌, filter, count_by}
use Rattle.std.specs.List.{list_any}
use Rattle.std.proofs.lemmas.Bool.{cases_Bool, cases_eq}
use Rattle.std.proofs.lemmas.List.{get_or-set_same, get_or-set_other, append-nil}
use Rattle.std.proofs.lemmas.List.Elements.{filter-append}
use Rattle.std.proofs.lemmas.List.Sums.{sum_by-cons}
use Rattle.gh_model.specs.declared.rows.MappingRow.{MappingRow}
use Rattle.gh_model.specs.Boot.{is_row_of, overlaps}
use Rattle.gh_bootfile.specs.Draft.{mappings_at, with_row, HasMappings}

-- a place more, without mappings
pub place_more : (table : List (List MappingRow)) (n : ℕ) → mappings_at (table ++ [] ∷ []) n ≡ mappings_at table n
place_more [] zero = refl
place_more [] (suc n) = refl
place_more (rows ∷ table) zero = refl
place_more (rows ∷ table) (suc n) = place_more table n

-- a mapping behind the others of its address space
pub has_row : (table : List (List MappingRow)) (mappings : List MappingRow) (row : MappingRow)
    → HasMappings table mappings
    → row.space.0 < length table
    → HasMappings (with_row table row) (mappings ++ row ∷ [])
has_row table mappings row has within n =
    elim (cases_eq n row.space.0) [
      | inl here ↦
          rw here (get_or-set_same table row.space.0 (mappings_at table row.space.0 ++ row ∷ []) [] within ∙ ap (λ (rows : List MappingRow). rows ++ row ∷ []) (has row.space.0)
          ∙ sym (filter-append (is_row_of row.space.0) mappings (row ∷ []) ∙ rw (eq-eqb row.space.0 row.space.0 refl) refl))
      | inr apart ↦
          get_or-set_other table row.space.0 n (mappings_at table row.space.0 ++ row ∷ []) [] apart ∙ has n
          ∙ sym (filter-append (is_row_of n) mappings (row ∷ []) ∙ rw (ne_eqb row.space.0 n (λ same. apart (sym same))) (append-nil (filter (is_row_of n) mappings)))
    ]

-- what the mappings of one address space say of all
any_of_rows : (test : MappingRow → Bool) (space : ℕ)
    → ((row : MappingRow) → is_row_of space row ≡ false → test row ≡ false)
    → (mappings : List MappingRow)
    → list_any test (filter (is_row_of space) mappings) ≡ list_any test mappings
any_of_rows test space fails [] = refl
any_of_rows test space fails (row ∷ mappings) =
    elim (cases_Bool (is_row_of space row)) [
      | inl here ↦ rw here (ap (λ (b : Bool). test row || b) (any_of_rows test space fails mappings))
      | inr other ↦ rw (other, fails row other) (any_of_rows test space fails mappings)
    ]

count_of_rows : (space : ℕ) (mappings : List MappingRow) → length (filter (is_row_of space) mappings) ≡ count_by (is_row_of space) mappings
count_of_rows space [] = refl
count_of_rows space (row ∷ mappings) =
    let more : count_by (is_row_of space) (row ∷ mappings) ≡ cond (is_row_of space row) 1 0 + count_by (is_row_of space) mappings = sum_by-cons (λ (r : MappingRow). cond (is_row_of space r) 1 0) row mappings in
    elim (cases_Bool (is_row_of space row)) [
      | inl here ↦ rw (more, here) (omega (arith, count_of_rows space mappings))
      | inr other ↦ rw (more, other) (omega (arith, count_of_rows space mappings))
    ]

module _ (table : List (List MappingRow)) (mappings : List MappingRow) (has : HasMappings table mappings) (space : ℕ) where
  pub any_of_space : (base count : ℕ) → list_any (overlaps space base count) (mappings_at table space) ≡ list_any (overlaps space base count) mappings
  any_of_space base count = rw (has space) (any_of_rows (overlaps space base count) space (λ row other. rw other refl) mappings)

  pub count_of_space : length (mappings_at table space) ≡ count_by (is_row_of space) mappings
  count_of_space = rw (has space) (count_of_rows space mappings)
