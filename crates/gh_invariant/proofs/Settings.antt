-- A slot that is set has the setting of that entry, and other slots keep theirs.
use Rattle.std.proofs.Common.{◌≡◌, ◌+◌, ◌≤◌, ◌∙◌, ◌&&◌, ◌==◌, ℕ, Bool, true, false, length, List, [], ◌∷◌, ◌++◌, inl, inr, refl, subst, sym, ap, arith, Option, Some, None, find, position, slice_get, option_map}
use Rattle.std.specs.Prelude.{count_by}
use Rattle.std.specs.List.{position_or_len}
use Rattle.std.proofs.lemmas.Bool.{lt-ltb, le-ltb}
use Rattle.std.proofs.lemmas.Bool.Decides.{nat_tests}
use Rattle.std.proofs.lemmas.List.Folds.{find_at}
use Rattle.std.proofs.lemmas.Option.{slice_get_cases, slice_get_within}
use Rattle.gh_base.specs.declared.ids.Serial.{Serial}
use Rattle.gh_model.specs.QueueCalls.{one_if}
use Rattle.gh_model.specs.Changes.{put_setting, with_setting, with_number}
use Rattle.gh_model.specs.Rows.{change_row, tells_setting}
use Rattle.gh_model.specs.Word.{setting_number}
use Rattle.gh_model.specs.declared.rows.SetAtRow.{SetAtRow}
use Rattle.gh_invariant.proofs.Counting.{count_push, count_same, count_unfound, find_push_new, find_push_other}
use Rattle.gh_model.proofs.ChangedRows.{find_changed}
use Rattle.gh_invariant.proofs.ChangedRow.{count_change_kept, find_past_change}

-- what isn't found has no place
pub unplaced : {R : Type 0} (p : R → Bool) (rows : List R) → find p rows ≡ None
    → position p rows ≡ None
unplaced p rows none =
    elim ((slice_get_cases rows (position_or_len p rows)).1) as (λ _. position p rows ≡ None) [
      | inl there ↦
          let is : slice_get rows (position_or_len p rows) ≡ Some there.0 = there.2 in
          let gone : slice_get rows (position_or_len p rows) ≡ None = sym (find_at p rows) ∙ none in
          absurd (let never : ⊥ = cc in never)
      | inr past ↦ rw (le-ltb (position_or_len p rows) (length rows) past.0)
    ]

-- what is found has one
pub placed : {R : Type 0} (p : R → Bool) (rows : List R) (row : R) → find p rows ≡ Some row
    → position p rows ≡ Some (position_or_len p rows)
placed p rows row is =
    rw (lt-ltb (position_or_len p rows) (length rows) (slice_get_within rows (position_or_len p rows) row (sym (find_at p rows) ∙ is)))

module _ (rows : List SetAtRow) (cspace : Serial) (slot number : ℕ) where
  -- the first setting of a slot is a new one
  pub first_setting : find (tells_setting cspace.0 slot) rows ≡ None
      → with_setting rows cspace slot number ≡ rows ++ record { cspace = cspace; slot = slot; number = number } ∷ []
  first_setting none =
      ap (put_setting rows cspace slot number) (unplaced (tells_setting cspace.0 slot) rows none)

  -- and later the number changes
  pub next_setting : (row : SetAtRow) → find (tells_setting cspace.0 slot) rows ≡ Some row
      → with_setting rows cspace slot number
      ≡ change_row (tells_setting cspace.0 slot) (with_number number) rows
  next_setting row is =
      ap (put_setting rows cspace slot number) (placed (tells_setting cspace.0 slot) rows row is)

  -- what is so of the first setting and of a later one is so of each
  pub each_setting : (P : List SetAtRow → Type 0)
      → (find (tells_setting cspace.0 slot) rows ≡ None → P (rows ++ record { cspace = cspace; slot = slot; number = number } ∷ []))
      → ((row : SetAtRow) → find (tells_setting cspace.0 slot) rows ≡ Some row → P (change_row (tells_setting cspace.0 slot) (with_number number) rows))
      → P (with_setting rows cspace slot number)
  each_setting P first next = by_found (find (tells_setting cspace.0 slot) rows) refl
    where
      by_found : (found : Option SetAtRow) → find (tells_setting cspace.0 slot) rows ≡ found
          → P (with_setting rows cspace slot number)
      by_found None is = subst P (sym (first_setting is)) (first is)
      by_found (Some row) is = subst P (sym (next_setting row is)) (next row is)

  more_once : (c n : ℕ) → count_by (tells_setting c n) rows ≤ 1 → (here : Bool)
      → tells_setting c n (record { cspace = cspace; slot = slot; number = number }) ≡ here
      → find (tells_setting cspace.0 slot) rows ≡ None
      → count_by (tells_setting c n) rows + one_if here ≤ 1
  more_once c n once true is none =
      let same : count_by (tells_setting c n) rows ≡ count_by (tells_setting cspace.0 slot) rows =
      count_same (tells_setting c n) (tells_setting cspace.0 slot) rows (λ row. grind (arith, nat_tests)) in
      let one : one_if true ≡ 1 = refl in
      omega (arith, count_unfound (tells_setting cspace.0 slot) rows none)
  more_once c n once false is none = let no : one_if false ≡ 0 = refl in omega (arith, once)

  -- a slot has one setting still
  pub setting_once : (c n : ℕ) → count_by (tells_setting c n) rows ≤ 1
      → count_by (tells_setting c n) (with_setting rows cspace slot number) ≤ 1
  setting_once c n once =
      each_setting (λ new. count_by (tells_setting c n) new ≤ 1)
      (λ none. subst (λ (m : ℕ). m ≤ 1) (sym (count_push (tells_setting c n) rows (record { cspace = cspace; slot = slot; number = number }))) (more_once c n once _ refl none))
      (λ row is. subst (λ (m : ℕ). m ≤ 1) (sym (count_change_kept (tells_setting c n) (tells_setting cspace.0 slot) (with_number number) rows (λ one. refl))) once)

  -- the slot has the number
  pub setting_is : setting_number (find (tells_setting cspace.0 slot) (with_setting rows cspace slot number)) ≡ number
  setting_is =
      each_setting (λ new. setting_number (find (tells_setting cspace.0 slot) new) ≡ number)
      (λ none. ap setting_number (find_push_new (tells_setting cspace.0 slot) rows (record { cspace = cspace; slot = slot; number = number }) none (grind (arith, nat_tests))))
      (λ row is. ap setting_number (find_changed (tells_setting cspace.0 slot) (with_number number) rows (λ one. refl))
      ∙ ap (λ (o : Option SetAtRow). setting_number (option_map (with_number number) o)) is)

  -- another slot has what it had
  pub setting_other : (c n : ℕ) → ((cspace.0 == c) && (slot == n)) ≡ false
      → find (tells_setting c n) (with_setting rows cspace slot number)
      ≡ find (tells_setting c n) rows
  setting_other c n other =
      each_setting (λ new. find (tells_setting c n) new ≡ find (tells_setting c n) rows)
      (λ none. find_push_other (tells_setting c n) rows (record { cspace = cspace; slot = slot; number = number }) other)
      (λ row is. find_past_change (tells_setting c n) (tells_setting cspace.0 slot) (with_number number) rows (λ one here. grind (arith, nat_tests)) (λ one here. grind (arith, nat_tests)))
