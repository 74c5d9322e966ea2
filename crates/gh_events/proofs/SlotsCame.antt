-- Where a revoked capability behind an event came from: the slot held it before, revoked or not.
use Rattle.std.proofs.Common.{◌≡◌, ◌+◌, ◌≤◌, ◌∙◌, ℕ, Bool, true, false, not, List, [], ◌∷◌, refl, subst, sym, ap, arith, IsTrue, Option, Some, None, find, is_some, option_map}
use Rattle.std.specs.Prelude.{◌||◌, ◌==◌}
use Rattle.std.specs.List.{list_all, list_any}
use Rattle.std.proofs.lemmas.Bool.{and_parts, eqb-true}
use Rattle.std.proofs.lemmas.Bool.Decides.{nat_tests}
use Rattle.gh_model.specs.Changes.{as_revoked, changed, changed_all, is_in_cspace, without}
use Rattle.gh_model.specs.History.{Event, after_event}
use Rattle.gh_model.specs.QueueCalls.{one_if}
use Rattle.gh_model.specs.Rows.{fills}
use Rattle.gh_model.specs.declared.change.Change.{Change}
use Rattle.gh_model.specs.declared.change.Change.TheVariants as change
use Rattle.gh_model.specs.declared.rows.CapabilityRow.{CapabilityRow}
use Rattle.gh_model.specs.declared.state.State.{State}
use Rattle.gh_model.specs.declared.word.Word.{Word}
use Rattle.gh_invariant.specs.Effects.{is_place, leaves, sets, sets_slot, sets_some, slots_set}
use Rattle.gh_invariant.specs.Events.{EventFits, changes_of}
use Rattle.gh_invariant.specs.Premises.{MayChange, MayChangeAll}
use Rattle.gh_invariant.specs.Valid.{IsValid}
use Rattle.gh_invariant.proofs.CapabilityMade.{word_found}
use Rattle.gh_invariant.proofs.Counting.{count_cons, find_push_new, one_true}
use Rattle.gh_invariant.proofs.EventWords.{event_may, event_sets_few}
use Rattle.gh_invariant.proofs.FactLemmas.{entry_word}
use Rattle.gh_invariant.proofs.RowsLeft.{find_gone}
use Rattle.gh_invariant.proofs.WordsLeft.{SlotSet, slot_set, slot_stays, slot_stays_all}
use Rattle.gh_events.proofs.SlotsLeft.{keeps_spaces, left_all, left_one, none_set, setting_keeps}
use Rattle.gh_events.proofs.WordsFollow.{Fills}

-- the slot has a capability of this object
pub record HasCap (s : State) (cspace slot serial : ℕ) : Type 0 where
  pub old : CapabilityRow
  pub is : find (fills cspace slot) s.caps ≡ Some old
  pub same : old.serial.0 ≡ serial

module _ (cspace slot : ℕ) where
  revoked_by : (s : State) (row : CapabilityRow) (found : Option CapabilityRow)
      → find (fills cspace slot) s.caps ≡ found → option_map as_revoked found ≡ Some row
      → HasCap s cspace slot row.serial.0
  revoked_by s row None is behind = absurd (let never : ⊥ = cc in never)
  revoked_by s row (Some old) is behind =
      let equal : as_revoked old ≡ row = cc in
      record { old = old; is = is; same = ap (λ (one : CapabilityRow). one.serial.0) equal }

  not_false : (b : Bool) → not b ≡ false → b ≡ true
  not_false true is = refl
  not_false false is = absurd (let never : ⊥ = cc in never)

  gone_by : (s : State) (object : ℕ) (row : CapabilityRow) → (object == cspace) ≡ true
      → find (fills cspace slot) (without (is_in_cspace object) s.caps) ≡ Some row
      → HasCap s cspace slot row.serial.0
  gone_by s object row same is =
      let none : find (fills cspace slot) (without (is_in_cspace object) s.caps) ≡ None =
      find_gone (fills cspace slot) (is_in_cspace object) s.caps (λ one other. grind (arith, nat_tests)) in
      absurd (let never : ⊥ = cc in never)

  -- a change that doesn't leave the slot
  touched : (s : State) (one : Change) (row : CapabilityRow) → row.valid ≡ false → MayChange s one
      → leaves cspace slot one ≡ false → find (fills cspace slot) (changed s one).caps ≡ Some row
      → HasCap s cspace slot row.serial.0
  touched s (change.Reclaim object) row revoked may left is =
      gone_by s object.0 row (not_false (object.0 == cspace) left) is
  touched s (change.PutCapability cap) row revoked may left is =
      let set : SlotSet s (changed s (change.PutCapability cap)) cspace slot (Some cap) = slot_set s (change.PutCapability cap) cspace slot may (not_false (sets_slot cspace slot (change.PutCapability cap)) left) in
      let both : Some cap ≡ Some row = sym set.capability ∙ is in
      let same : cap ≡ row = cc in
      let valid : row.valid ≡ true = sym (ap (λ (one : CapabilityRow). one.valid) same) ∙ may.valid in
      absurd (let never : ⊥ = cc in never)
  touched s (change.FillSlot cap) row revoked may left is =
      let here = not_false (fills cspace slot cap) left in
      let parts = and_parts (cap.cspace.0 == cspace) (cap.slot == slot) here in
      let there : find (fills cspace cap.slot) s.caps ≡ None = subst (λ (c : ℕ). find (fills c cap.slot) s.caps ≡ None) (eqb-true cap.cspace.0 cspace parts.0) may.free in
      let free : find (fills cspace slot) s.caps ≡ None = subst (λ (m : ℕ). find (fills cspace m) s.caps ≡ None) (eqb-true cap.slot slot parts.1) there in
      let both : Some cap ≡ Some row = sym (find_push_new (fills cspace slot) s.caps cap free here) ∙ is in
      let same : cap ≡ row = cc in
      let valid : row.valid ≡ true = sym (ap (λ (one : CapabilityRow). one.valid) same) ∙ may.valid in
      absurd (let never : ⊥ = cc in never)
  touched s (change.DropCapability home n) row revoked may left is =
      let set : SlotSet s (changed s (change.DropCapability home n)) cspace slot None = slot_set s (change.DropCapability home n) cspace slot may (not_false (sets_slot cspace slot (change.DropCapability home n)) left) in
      let both : None ≡ Some row = sym set.capability ∙ is in
      absurd (let never : ⊥ = cc in never)
  touched s (change.RevokeCapability home n) row revoked may left is =
      let here = not_false (sets_slot cspace slot (change.RevokeCapability home n)) left in
      let parts = and_parts (home.0 == cspace) (n == slot) here in
      let set : SlotSet s (changed s (change.RevokeCapability home n)) cspace slot (option_map as_revoked (find (fills home.0 n) s.caps)) = slot_set s (change.RevokeCapability home n) cspace slot may here in
      let behind : option_map as_revoked (find (fills home.0 n) s.caps) ≡ Some row = sym set.capability ∙ is in
      let there : option_map as_revoked (find (fills cspace n) s.caps) ≡ Some row = subst (λ (c : ℕ). option_map as_revoked (find (fills c n) s.caps) ≡ Some row) (eqb-true home.0 cspace parts.0) behind in
      revoked_by s row (find (fills cspace slot) s.caps) refl (subst (λ (m : ℕ). option_map as_revoked (find (fills cspace m) s.caps) ≡ Some row) (eqb-true n slot parts.1) there)
  touched s _ row revoked may left is = absurd (let never : ⊥ = cc in never)

  came_one : (s : State) (one : Change) (row : CapabilityRow) (left : Bool) → row.valid ≡ false
      → MayChange s one → leaves cspace slot one ≡ left
      → find (fills cspace slot) (changed s one).caps ≡ Some row
      → HasCap s cspace slot row.serial.0
  came_one s one row true revoked may left is =
      record { old = row; is = sym (slot_stays s cspace slot one left).capability ∙ is; same = refl }
  came_one s one row false revoked may left is = touched s one row revoked may left is

  left_not : (one : Change) → keeps_spaces one ≡ true → sets_slot cspace slot one ≡ true
      → leaves cspace slot one ≡ false
  left_not (change.Reclaim object) keeps set = absurd (let never : ⊥ = cc in never)
  left_not (change.FillSlot row) keeps set = absurd (let never : ⊥ = cc in never)
  left_not _ keeps set = ap not set

  some_set : (place : Option (ℕ × ℕ)) → is_place cspace slot place ≡ true → is_some place ≡ true
  some_set None here = absurd (let never : ⊥ = cc in never)
  some_set (Some place) here = refl

  or_later : (here others : Bool) → here ≡ false → (here || others) ≡ true → others ≡ true
  or_later true others is either = absurd (let never : ⊥ = cc in never)
  or_later false others is either = either

  set_by : (s : State) (one : Change) (others : List Change) (row : CapabilityRow) (here : Bool)
      → sets_slot cspace slot one ≡ here → row.valid ≡ false
      → MayChange s one → (keeps_spaces one ≡ true) × (list_all keeps_spaces others ≡ true)
      → one_if (sets_some one) + slots_set others ≤ 1
      → list_any (sets_slot cspace slot) (one ∷ others) ≡ true
      → find (fills cspace slot) (changed_all (changed s one) others).caps ≡ Some row
      → (list_any (sets_slot cspace slot) others ≡ true → HasCap (changed s one) cspace slot row.serial.0)
      → HasCap s cspace slot row.serial.0
  set_by s one others row true is revoked may keep few any there rest =
      let first : one_if (sets_some one) ≡ 1 = one_true (sets_some one) (some_set (sets one) is) in
      let left : IsTrue (list_all (leaves cspace slot) others) = left_all cspace slot others keep.1 (none_set cspace slot others (omega (arith, first, few))) in
      let same : find (fills cspace slot) (changed_all (changed s one) others).caps ≡ find (fills cspace slot) (changed s one).caps = (slot_stays_all (changed s one) others cspace slot left).capability in
      touched s one row revoked may (left_not one keep.0 is) (sym same ∙ there)
  set_by s one others row false is revoked may keep few any there rest =
      let before : HasCap (changed s one) cspace slot row.serial.0 = rest (or_later (sets_slot cspace slot one) (list_any (sets_slot cspace slot) others) is any) in
      record { old = before.old; is = sym (slot_stays s cspace slot one (left_one cspace slot one keep.0 is)).capability ∙ before.is; same = before.same }

  -- of changes that set the slot once
  set_all : (s : State) (changes : List Change) (row : CapabilityRow) → row.valid ≡ false
      → MayChangeAll s changes → IsTrue (list_all keeps_spaces changes) → slots_set changes ≤ 1
      → list_any (sets_slot cspace slot) changes ≡ true
      → find (fills cspace slot) (changed_all s changes).caps ≡ Some row
      → HasCap s cspace slot row.serial.0
  set_all s [] row revoked may keep few any there = absurd (let never : ⊥ = cc in never)
  set_all s (one ∷ others) row revoked may keep few any there =
      let parts = and_parts (keeps_spaces one) (list_all keeps_spaces others) keep in
      let all : one_if (sets_some one) + slots_set others ≤ 1 = omega (arith, count_cons sets_some one others, few) in
      set_by s one others row (sets_slot cspace slot one) refl revoked may.first parts all any there
      (λ later. set_all (changed s one) others row revoked may.others parts.1 (omega (arith, all)) later there)

-- of an entry
pub entry_came : (s : State) (event : Event) (cspace slot : ℕ) (row : CapabilityRow) → IsValid s
    → EventFits s event → list_any (sets_slot cspace slot) (changes_of s event) ≡ true
    → row.valid ≡ false → Fills (after_event s event) cspace slot row
    → HasCap s cspace slot row.serial.0
entry_came s event cspace slot row valid fits set revoked is =
    set_all cspace slot s (changes_of s event) row revoked (event_may s event valid fits) (setting_keeps s event event.entry cspace slot set) (event_sets_few s event) set
    (word_found (changed_all s (changes_of s event)) cspace slot row (sym (ap (λ (word : Word). word.row) (entry_word s event event.entry cspace slot)) ∙ is))
