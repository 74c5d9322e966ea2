-- Slots stand once an object is removed; a capability space's own go with it.
use Rattle.std.proofs.Common.{◌≡◌, ◌≢◌, ◌-◌, ◌∙◌, not, ℕ, List, [], Option, Some, None, refl, sym, ap, subst, arith, inl, inr}
use Rattle.std.proofs.Common.{find, is_some, set, IsTrue}
use Rattle.std.specs.Prelude.{count_by, slice_index_or}
use Rattle.std.specs.Option.{option_map_or}
use Rattle.std.proofs.lemmas.Bool.{and_left, and_parts, both_ways, cases_eq, ne_eqb}
use Rattle.gh_base.specs.declared.cap_word.CapWord.{CapWord}
use Rattle.gh_base.specs.declared.ids.Serial.{Serial}
use Rattle.gh_base.specs.declared.kind.Kind.TheVariants as kind
use Rattle.gh_cspace.specs.Cspace.{word_at}
use Rattle.gh_invariant.proofs.Counting.{none_fail}
use Rattle.gh_invariant.proofs.RowsLeft.{count_fewer, find_gone, find_left}
use Rattle.gh_invariant.proofs.RowsTested.{other_number}
use Rattle.gh_invariant.specs.Lives.{lives_as}
use Rattle.gh_model.specs.Changes.{is_set_in, reclaim_object, without}
use Rattle.gh_model.specs.References.{is_slot_of}
use Rattle.gh_model.specs.Rows.{fills, tells_setting}
use Rattle.gh_model.specs.Word.{is_slot, setting_number}
use Rattle.gh_model.specs.declared.rows.CapabilityRow.{CapabilityRow}
use Rattle.gh_model.specs.declared.rows.SetAtRow.{SetAtRow}
use Rattle.gh_model.specs.declared.state.State.{State}
use Rattle.gh_objects.specs.declared.header.Header.{Header}
use Rattle.gh_parts.specs.Index.{index_of}
use Rattle.gh_parts.specs.Slots.{is_home, name_in, no_serial, word_in}
use Rattle.gh_parts.specs.Stands.{ShowsSlot, SlotsStand}
use Rattle.gh_parts.specs.declared.parts.Parts.{Parts}
use Rattle.gh_parts.specs.declared.slots.Slots.{Slots}
use Rattle.gh_parts.proofs.AddedSlots.{no_word}
use Rattle.gh_parts.proofs.FoundRows.{none_found, not_true}
use Rattle.gh_parts.proofs.Leaving.{Leaves, capability_apart, caps_stay, lives_never, lives_still}
use Rattle.gh_parts.proofs.RemovedObjects.{at_left}
use Rattle.gh_parts.proofs.SlotNumbers.{slot_within}

module _ (parts : Parts) (s : State) (object : Serial) (leaves : Leaves parts s object.0) where
  abbrev headers : List (Option Header)
  headers = parts.table.headers

  abbrev now : List (Option Header)
  now = set headers (index_of headers object.0) None

  abbrev after : State
  after = reclaim_object object s

  abbrev slots : List Slots
  slots = without (is_home object.0) parts.journal.slots

  unopened : find (is_home object.0) slots ≡ None
  unopened = find_gone (is_home object.0) (is_home object.0) parts.journal.slots (λ one fails. fails)

  opened_still : (x : ℕ) → x ≢ object.0 → find (is_home x) slots ≡ find (is_home x) parts.journal.slots
  opened_still x apart =
      find_left (is_home x) (is_home object.0) parts.journal.slots
      (λ one is. other_number one.cspace.0 x object.0 (ne_eqb x object.0 apart) is)

  -- no slot of it is filled or set
  none_fills : (n : ℕ) → find (fills object.0 n) s.caps ≡ None
  none_fills n =
      none_found (fills object.0 n) (λ (row : CapabilityRow). not (is_slot_of object.0 row)) s.caps
      (none_fail (is_slot_of object.0) s.caps
      (let none : count_by (is_slot_of object.0) s.caps ≡ 0 = omega (arith, leaves.may.doomed) in none))
      (λ row apart here. both_ways (is_slot_of object.0 row) (not_true (is_slot_of object.0 row) apart) (and_parts _ _ here).0)

  none_tells : (n : ℕ) → find (tells_setting object.0 n) after.set_at ≡ None
  none_tells n =
      find_gone (tells_setting object.0 n) (is_set_in object.0) s.set_at (λ row fails. and_left _ _ fails)

  tells_still : (c n : ℕ) → c ≢ object.0
      → find (tells_setting c n) after.set_at ≡ find (tells_setting c n) s.set_at
  tells_still c n apart =
      find_left (tells_setting c n) (is_set_in object.0) s.set_at
      (λ row is. and_left _ _ (other_number row.cspace.0 c object.0 (ne_eqb c object.0 apart) is))

  shown_by : (word : CapWord) (name : Serial) (number c n : ℕ) (found : Option CapabilityRow)
      → find (fills c n) s.caps ≡ found → ShowsSlot headers word name found number
      → ShowsSlot now word name found number
  shown_by word name number c n None is shows = shows
  shown_by word name number c n (Some cap) is shows = record {
    object = shows.object;
    within = shows.within;
    bits = shows.bits;
    index = λ valid.
        shows.index valid
        ∙ sym (at_left parts s object leaves cap.serial.0 (capability_apart parts s object.0 leaves c n cap is valid));
    named = shows.named;
  }

  abbrev Shown : ℕ → ℕ → List CapabilityRow → List SetAtRow → Type 0
  Shown c n caps set_at = ShowsSlot now (word_in slots c n) (name_in slots c n)
      (find (fills c n) caps) (setting_number (find (tells_setting c n) set_at))

  shown_here : (n : ℕ) → IsTrue (is_slot n) → Shown object.0 n s.caps after.set_at
  shown_here n is =
      subst (λ (found : Option CapabilityRow). ShowsSlot now (word_in slots object.0 n) (name_in slots object.0 n)
      found (setting_number (find (tells_setting object.0 n) after.set_at))) (sym (none_fills n))
      (ap (λ (o : Option Slots). (word_at (option_map_or (λ (x : Slots). x.words) o []) n).0) unopened
      ∙ no_word n (slot_within n is)
      ∙ sym (ap setting_number (none_tells n)))

  shown_there : (c n : ℕ) → c ≢ object.0 → IsTrue (is_slot n) → Shown c n s.caps after.set_at
  shown_there c n apart is =
      subst (λ (o : Option SetAtRow). ShowsSlot now (word_in slots c n) (name_in slots c n) (find (fills c n) s.caps) (setting_number o))
      (sym (tells_still c n apart))
      (subst (λ (o : Option Slots). ShowsSlot now (word_at (option_map_or (λ (x : Slots). x.words) o []) n)
      (slice_index_or (option_map_or (λ (x : Slots). x.names) o []) (n - 1) no_serial)
      (find (fills c n) s.caps) (setting_number (find (tells_setting c n) s.set_at)))
      (sym (opened_still c apart))
      (shown_by (word_in parts.journal.slots c n) (name_in parts.journal.slots c n)
      (setting_number (find (tells_setting c n) s.set_at)) c n
      (find (fills c n) s.caps) refl (leaves.stand.slots.words c n is)))

  shown_now : (c n : ℕ) → IsTrue (is_slot n) → Shown c n s.caps after.set_at
  shown_now c n is =
      elim (cases_eq c object.0) [
        | inl same ↦ subst (λ (m : ℕ). Shown m n s.caps after.set_at) (sym same) (shown_here n is)
        | inr apart ↦ shown_there c n apart is
      ]

  homes_now : (x : ℕ) → is_some (find (is_home x) slots) ≡ lives_as after.objects x kind.Cspace
  homes_now x =
      elim (cases_eq x object.0) [
        | inl same ↦
            subst (λ (n : ℕ). is_some (find (is_home n) slots) ≡ lives_as after.objects n kind.Cspace) (sym same)
            (ap is_some unopened ∙ sym (lives_never parts s object.0 leaves kind.Cspace))
        | inr apart ↦
            ap is_some (opened_still x apart) ∙ leaves.stand.slots.homes x
            ∙ sym (lives_still parts s object.0 leaves x kind.Cspace apart)
      ]

  none_open : (x : ℕ) (one : Slots) → find (is_home x) slots ≡ Some one → x ≢ object.0
  none_open x one is same =
      let none : find (is_home x) slots ≡ None = subst (λ (n : ℕ). find (is_home n) slots ≡ None) (sym same) unopened in
      let never : ⊥ = cc in
      never

  pub slots_left : SlotsStand now slots after.objects after.caps after.set_at
  slots_left = record {
    homes = homes_now;
    once = λ x.
        omega (arith, count_fewer (is_home x) (is_home object.0) parts.journal.slots, leaves.stand.slots.once x);
    sized = λ x one is.
        leaves.stand.slots.sized x one (sym (opened_still x (none_open x one is)) ∙ is);
    words = λ c n is.
        subst (λ (caps : List CapabilityRow). Shown c n caps after.set_at) (sym (caps_stay parts s object.0 leaves))
        (shown_now c n is);
  }
