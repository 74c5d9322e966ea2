-- At each index, the references behind an entry and the losses there are together as much as the
-- references before it and the gains there: so what is owed by gains and settled by losses is even.
use Rattle.std.proofs.Common.{◌≡◌, ◌==◌, ◌+◌, ◌<◌, ◌≤◌, ◌∙◌, ◌⊎◌, inl, inr, ℕ, Bool, true, false, not, List, [], ◌∷◌, refl, subst, sym, ap, arith, IsTrue, Option, Some, None, filter, find, is_some, if◌then◌else◌}
use Rattle.std.specs.Prelude.{◌||◌, count_by}
use Rattle.std.specs.List.{list_all}
use Rattle.std.specs.Option.{option_map_or}
use Rattle.std.proofs.lemmas.Bool.{and_from, and_parts, eqb-true}
use Rattle.std.proofs.lemmas.Bool.Decides.{eqb_tells, nat_tests}
use Rattle.gh_base.specs.declared.ids.Serial.{Serial}
use Rattle.gh_base.specs.declared.limits.TheConstants.{OBJECT_INDICES}
use Rattle.gh_model.specs.QueueCalls.{one_if}
use Rattle.gh_model.specs.References.{references}
use Rattle.gh_model.specs.Rows.{is_object}
use Rattle.gh_model.specs.declared.rows.ObjectRow.{ObjectRow}
use Rattle.gh_model.specs.declared.state.State.{State}
use Rattle.gh_invariant.specs.Effects.{is_that, times}
use Rattle.gh_invariant.specs.Lives.{lives}
use Rattle.gh_invariant.specs.Valid.{IsValid}
use Rattle.gh_invariant.proofs.Counting.{count_cons, found_one, one_false}
use Rattle.gh_invariant.proofs.NotLiving.{not_living}
use Rattle.gh_schedules.specs.Committing.{is_made}
use Rattle.gh_events.specs.Config.{object_at, references_at}
use Rattle.gh_events.specs.Start.{AreIndices}
use Rattle.gh_schedules.proofs.ChangeLives.{AllLive, lives_here}
use Rattle.gh_events.proofs.EntryMoves.{RowOf, lives_there, nothing, row_of, there_index, there_lives}
use Rattle.gh_events.proofs.StartSound.{counted_there}

-- how many of these objects have this index
abbrev pub is_indexed : (ℕ → ℕ) → ℕ → Serial → Bool
is_indexed index at serial = index serial.0 == at

abbrev pub count_at : (ℕ → ℕ) → List Serial → ℕ → ℕ
count_at index serials at = count_by (is_indexed index at) serials

-- objects that live, by their indices

-- what lives has a serial
pub lives_some : (old : State) → IsValid old → (object : ℕ) → lives old.objects object ≡ true
    → 0 < object
lives_some old valid object alive =
    elim (eqb_tells object 0) as (λ _. 0 < object) [
      | inl none ↦ let one : RowOf old object = row_of old object alive in let found : 1 ≤ count_by (is_object 0) old.objects = found_one (is_object 0) old.objects one.row (subst (λ (n : ℕ). find (is_object n) old.objects ≡ Some one.row) (one.serial_is ∙ none.1) one.is_row) in absurd (omega (arith, found, valid.objects.none))
      | inr some ↦ omega (arith, some.1)
    ]

module _ (s : State) (index : ℕ → ℕ) (indices : AreIndices s index) where
  same_index : (object : ℕ) (serial : Serial) → lives s.objects object ≡ true
      → lives s.objects serial.0 ≡ true
      → (index serial.0 == index object) ≡ (serial.0 == object)
  same_index object serial alive also =
      elim (eqb_tells serial.0 object) as (λ _. (index serial.0 == index object) ≡ (serial.0 == object)) [
        | inl same ↦ let here : index serial.0 ≡ index object = ap index same.1 in grind (arith, nat_tests)
        | inr differs ↦ by_index (index serial.0 == index object) refl differs.0
      ]
    where
      by_index : (here : Bool) → (index serial.0 == index object) ≡ here → (serial.0 == object) ≡ false
          → (index serial.0 == index object) ≡ (serial.0 == object)
      by_index false is apart = is ∙ sym apart
      by_index true is apart =
          let same : serial.0 ≡ object = indices.unique serial.0 object also alive (eqb-true (index serial.0) (index object) is) in
          absurd (let never : ⊥ = grind (arith, nat_tests) in never)

  -- those at an object's index are it
  pub counted_at : (object : ℕ) (serials : List Serial) → lives s.objects object ≡ true
      → AllLive s.objects serials → count_at index serials (index object) ≡ times object serials
  counted_at object [] alive all = refl
  counted_at object (serial ∷ serials) alive all =
      let parts = and_parts (lives_here s.objects serial) (list_all (lives_here s.objects) serials) all in
      let here : one_if (is_indexed index (index object) serial) ≡ one_if (is_that object serial) = ap one_if (same_index object serial alive parts.0) in
      omega (
        arith,
        here,
        count_cons (is_indexed index (index object)) serial serials,
        count_cons (is_that object) serial serials,
        counted_at object serials alive parts.1,
      )

-- and at an index where nothing lives are none
pub none_at : (s : State) (index : ℕ → ℕ) (at : ℕ) (serials : List Serial)
    → object_at s index at ≡ None → AllLive s.objects serials → count_at index serials at ≡ 0
none_at s index at [] none all = refl
none_at s index at (serial ∷ serials) none all =
    let parts = and_parts (lives_here s.objects serial) (list_all (lives_here s.objects) serials) all in
    omega (
      arith,
      count_cons (is_indexed index at) serial serials,
      one_false (is_indexed index at serial) (other (is_indexed index at serial) refl parts.0),
      none_at s index at serials none parts.1,
    )
  where
    other : (here : Bool) → is_indexed index at serial ≡ here → lives s.objects serial.0 ≡ true → is_indexed index at serial ≡ false
    other false is alive = is
    other true is alive =
        let there : index serial.0 ≡ at = eqb-true (index serial.0) at is in
        absurd (nothing (object_at s index at) none (subst (λ (n : ℕ). is_some (object_at s index n) ≡ true) there (lives_there s index serial.0 alive)))

-- of the objects that were made, an object is named as often as of all
pub times_made : (next object : ℕ) (serials : List Serial) → object < next
    → times object (filter (is_made next) serials) ≡ times object serials
times_made next object [] made = refl
times_made next object (serial ∷ serials) made =
    by_made (is_made next serial) refl (times_made next object serials made)
  where
    by_made : (here : Bool) → is_made next serial ≡ here → times object (filter (is_made next) serials) ≡ times object serials
        → times object (if here then serial ∷ filter (is_made next) serials else filter (is_made next) serials) ≡ times object (serial ∷ serials)
    by_made true is rest =
        omega (arith, rest, count_cons (is_that object) serial serials, count_cons (is_that object) serial (filter (is_made next) serials))
    by_made false is rest =
        let other : is_that object serial ≡ false = grind (arith, nat_tests) in
        omega (arith, rest, count_cons (is_that object) serial serials, one_false (is_that object serial) other)

-- an object lives or isn't made yet
abbrev pub lives_or_new : State → ℕ → Serial → Bool
lives_or_new s next serial = lives s.objects serial.0 || not (is_made next serial)

pub made_live : (s : State) (next : ℕ) (serials : List Serial)
    → IsTrue (list_all (lives_or_new s next) serials)
    → AllLive s.objects (filter (is_made next) serials)
made_live s next [] all = refl
made_live s next (serial ∷ serials) all =
    let parts = and_parts (lives_or_new s next serial) (list_all (lives_or_new s next) serials) all in
    by_made (is_made next serial) refl parts.0 (made_live s next serials parts.1)
  where
    either : (a b : Bool) → b ≡ true → (a || not b) ≡ true → a ≡ true
    either true b is fits = refl
    either false true is fits = absurd (let never : ⊥ = cc in never)
    either false false is fits = absurd (let never : ⊥ = cc in never)

    by_made : (here : Bool) → is_made next serial ≡ here → lives_or_new s next serial ≡ true
        → AllLive s.objects (filter (is_made next) serials)
        → AllLive s.objects (if here then serial ∷ filter (is_made next) serials else filter (is_made next) serials)
    by_made true is fits rest = and_from _ _ (either (lives s.objects serial.0) (is_made next serial) is fits) rest
    by_made false is fits rest = rest

-- a new object: nothing lived at its index, and what is owed there is its first references
pub record IsNewAt (s : State) (index later extra : ℕ → ℕ) (gains : List Serial) (object : ℕ)
    : Type 0 where
  pub next : object ≡ s.next_serial
  pub within : later object < OBJECT_INDICES
  pub uninhabited : object_at s index (later object) ≡ None
  pub owes : extra (later object) ≡ times object gains

-- what an entry does to the objects and their indices, with what is owed for new ones
pub record Births (s new : State) (index later extra : ℕ → ℕ) (gains losses : List Serial)
    : Type 0 where
  pub indices : AreIndices s index
  pub given : (object : ℕ) → lives s.objects object ≡ true → object < s.next_serial
  pub kept : (object : ℕ) → lives s.objects object ≡ true → later object ≡ index object
  pub came : (object : ℕ) → lives new.objects object ≡ true
      → (lives s.objects object ≡ true) ⊎ IsNewAt s index later extra gains object
  -- nothing is owed but for a new object
  pub extra_old : (at : ℕ) → is_some (object_at s index at) ≡ true → extra at ≡ 0
  pub extra_none : (at : ℕ) → object_at s index at ≡ None → object_at new later at ≡ None → extra at ≡ 0
  pub gained : IsTrue (list_all (lives_or_new s s.next_serial) gains)
  pub lost : AllLive s.objects losses
  -- references move so
  pub moved : (object : ℕ) → 0 < object
      → references new object + times object losses ≡ references s object + times object gains
  pub valid : IsValid s
  pub valid_after : IsValid new

module _ (s new : State) (index later extra : ℕ → ℕ) (gains losses : List Serial)
    (births : Births s new index later extra gains losses) where
  unfoldable pub owed_gains : List Serial
  owed_gains = filter (is_made s.next_serial) gains

  gains_alive : AllLive s.objects owed_gains
  unfolding owed_gains
  gains_alive = made_live s s.next_serial gains births.gained

  -- the indices behind the entry
  unique_by : (object other : ℕ) → (lives s.objects object ≡ true) ⊎ IsNewAt s index later extra gains object
      → (lives s.objects other ≡ true) ⊎ IsNewAt s index later extra gains other
      → later object ≡ later other → object ≡ other
  unique_by object other (inl old) (inl also) same =
      births.indices.unique object other old also (sym (births.kept object old) ∙ same ∙ births.kept other also)
  unique_by object other (inl old) (inr born) same =
      let there : index object ≡ later other = sym (births.kept object old) ∙ same in
      absurd (nothing (object_at s index (later other)) born.uninhabited (subst (λ (n : ℕ). is_some (object_at s index n) ≡ true) there (lives_there s index object old)))
  unique_by object other (inr born) (inl old) same =
      let there : index other ≡ later object = sym (births.kept other old) ∙ sym same in
      absurd (nothing (object_at s index (later object)) born.uninhabited (subst (λ (n : ℕ). is_some (object_at s index n) ≡ true) there (lives_there s index other old)))
  unique_by object other (inr born) (inr also) same = born.next ∙ sym also.next

  within_by : (object : ℕ) → (lives s.objects object ≡ true) ⊎ IsNewAt s index later extra gains object
      → later object < OBJECT_INDICES
  within_by object (inl old) =
      subst (λ (n : ℕ). n < OBJECT_INDICES) (sym (births.kept object old)) (births.indices.within object old)
  within_by object (inr born) = born.within

  pub new_indices : AreIndices new later
  new_indices = record {
    within = λ object alive. within_by object (births.came object alive);
    unique = λ object other alive also same. unique_by object other (births.came object alive) (births.came other also) same;
  }

  -- at the index of an object that lived

  -- if it lives on, its references are there, and else none are
  there_by : (object : ℕ) → lives s.objects object ≡ true → (alive : Bool)
      → lives new.objects object ≡ alive
      → references_at new later (index object) ≡ references new object
  there_by object old true alive =
      let one : RowOf new object = row_of new object alive in
      let at : later one.row.serial.0 ≡ index object = ap later one.serial_is ∙ births.kept object old in
      subst (λ (n : ℕ). references_at new later n ≡ references new object) at
      (counted_there new later new_indices one.row one.is_row ∙ ap (references new) one.serial_is)
  there_by object old false gone =
      let none : references new object ≡ 0 = not_living new.entries new object (lives_some s births.valid object old) births.valid_after gone in
      by_found (object_at new later (index object)) refl ∙ sym none
    where
      other_there : (found : ObjectRow) → object_at new later (index object) ≡ Some found
          → (lives s.objects found.serial.0 ≡ true) ⊎ IsNewAt s index later extra gains found.serial.0 → ⊥
      other_there found is (inl also) =
          let at : index found.serial.0 ≡ index object = sym (births.kept found.serial.0 also) ∙ there_index new later (index object) found is in
          let same : found.serial.0 ≡ object = births.indices.unique found.serial.0 object also old at in
          let alive : lives new.objects object ≡ true = subst (λ (n : ℕ). lives new.objects n ≡ true) same (there_lives new later (index object) found is) in
          let never : ⊥ = cc in never
      other_there found is (inr born) =
          let at : later found.serial.0 ≡ index object = there_index new later (index object) found is in
          nothing (object_at s index (later found.serial.0)) born.uninhabited (subst (λ (n : ℕ). is_some (object_at s index n) ≡ true) (sym at) (lives_there s index object old))

      by_found : (found : Option ObjectRow) → object_at new later (index object) ≡ found
          → references_at new later (index object) ≡ 0
      by_found None is =
          ap (λ (one : Option ObjectRow). option_map_or (λ (row : ObjectRow). references new row.serial.0) one 0) is
      by_found (Some found) is =
          absurd (other_there found is (births.came found.serial.0 (there_lives new later (index object) found is)))

  -- what is owed at an index before the entry
  unfoldable pub owed_there : ℕ → ℕ
  owed_there at = count_at index owed_gains at + extra at

  abbrev pub Balanced : ℕ → Type 0
  Balanced at =
      references_at new later at + count_at index losses at ≡ owed_there at + references_at s index at

  old_balanced : (at : ℕ) (found : ObjectRow) → object_at s index at ≡ Some found → Balanced at
  unfolding owed_gains owed_there
  old_balanced at found is =
      let old : lives s.objects found.serial.0 ≡ true = there_lives s index at found is in
      let here : index found.serial.0 ≡ at = there_index s index at found is in
      let gains_here : count_at index owed_gains (index found.serial.0) ≡ times found.serial.0 owed_gains = counted_at s index births.indices found.serial.0 owed_gains old gains_alive in
      let made : times found.serial.0 owed_gains ≡ times found.serial.0 gains = times_made s.next_serial found.serial.0 gains (births.given found.serial.0 old) in
      let losses_here : count_at index losses (index found.serial.0) ≡ times found.serial.0 losses = counted_at s index births.indices found.serial.0 losses old births.lost in
      let moved : references new found.serial.0 + times found.serial.0 losses ≡ references s found.serial.0 + times found.serial.0 gains = births.moved found.serial.0 (lives_some s births.valid found.serial.0 old) in
      let after : references_at new later (index found.serial.0) ≡ references new found.serial.0 = there_by found.serial.0 old (lives new.objects found.serial.0) refl in
      let before : references_at s index at ≡ references s found.serial.0 =
      ap (λ (one : Option ObjectRow). option_map_or (λ (row : ObjectRow). references s row.serial.0) one 0) is in
      let none : extra at ≡ 0 = births.extra_old at (ap is_some is) in
      let sums : references_at new later (index found.serial.0) + count_at index losses (index found.serial.0)
      ≡ count_at index owed_gains (index found.serial.0) + references s found.serial.0 =
      omega (arith, gains_here, made, losses_here, moved, after) in
      let there : references_at new later at + count_at index losses at ≡ count_at index owed_gains at + references s found.serial.0 =
      subst (λ (n : ℕ). references_at new later n + count_at index losses n ≡ count_at index owed_gains n + references s found.serial.0) here sums in
      omega (arith, there, before, none)

  -- at the index of none that lived
  born_balanced : (at : ℕ) (found : ObjectRow) → object_at s index at ≡ None
      → object_at new later at ≡ Some found
      → (lives s.objects found.serial.0 ≡ true) ⊎ IsNewAt s index later extra gains found.serial.0
      → references_at new later at ≡ extra at
  born_balanced at found none is (inl old) =
      let there : index found.serial.0 ≡ at = sym (births.kept found.serial.0 old) ∙ there_index new later at found is in
      absurd (nothing (object_at s index at) none (subst (λ (n : ℕ). is_some (object_at s index n) ≡ true) there (lives_there s index found.serial.0 old)))
  born_balanced at found none is (inr born) =
      let alive : lives new.objects found.serial.0 ≡ true = there_lives new later at found is in
      let some : 0 < found.serial.0 = lives_some new births.valid_after found.serial.0 alive in
      let unmade : references s found.serial.0 ≡ 0 = not_living s.entries s found.serial.0 some births.valid (not_old (lives s.objects found.serial.0) refl) in
      let unlost : times found.serial.0 losses ≡ 0 = unnamed losses births.lost in
      let moved : references new found.serial.0 + times found.serial.0 losses ≡ references s found.serial.0 + times found.serial.0 gains = births.moved found.serial.0 some in
      let here : references_at new later at ≡ references new found.serial.0 =
      ap (λ (one : Option ObjectRow). option_map_or (λ (row : ObjectRow). references new row.serial.0) one 0) is in
      let owed : extra at ≡ times found.serial.0 gains =
      subst (λ (n : ℕ). extra n ≡ times found.serial.0 gains) (there_index new later at found is) born.owes in
      omega (arith, unmade, unlost, moved, here, owed)
    where
      not_old : (old : Bool) → lives s.objects found.serial.0 ≡ old → lives s.objects found.serial.0 ≡ false
      not_old false is_old = is_old
      not_old true is_old =
          absurd (let below : found.serial.0 < s.next_serial = births.given found.serial.0 is_old in omega (arith, below, born.next))

      unnamed : (serials : List Serial) → AllLive s.objects serials → times found.serial.0 serials ≡ 0
      unnamed [] all = refl
      unnamed (serial ∷ serials) all =
          let parts = and_parts (lives_here s.objects serial) (list_all (lives_here s.objects) serials) all in
          let below : serial.0 < s.next_serial = births.given serial.0 parts.0 in
          let other : is_that found.serial.0 serial ≡ false = grind (arith, nat_tests, born.next) in
          omega (arith, count_cons (is_that found.serial.0) serial serials, one_false (is_that found.serial.0 serial) other, unnamed serials parts.1)

  none_balanced : (at : ℕ) → object_at s index at ≡ None → (found : Option ObjectRow)
      → object_at new later at ≡ found → Balanced at
  unfolding owed_gains owed_there
  none_balanced at none found is =
      omega (
        arith,
        none_at s index at owed_gains none gains_alive,
        none_at s index at losses none births.lost,
        before,
        after found is,
      )
    where
      before : references_at s index at ≡ 0
      before =
          ap (λ (one : Option ObjectRow). option_map_or (λ (row : ObjectRow). references s row.serial.0) one 0) none

      after : (one : Option ObjectRow) → object_at new later at ≡ one → references_at new later at ≡ extra at
      after None is_none =
          ap (λ (one : Option ObjectRow). option_map_or (λ (row : ObjectRow). references new row.serial.0) one 0) is_none
          ∙ sym (births.extra_none at none is_none)
      after (Some row) is_some =
          born_balanced at row none is_some (births.came row.serial.0 (there_lives new later at row is_some))

  balanced_by : (at : ℕ) (found : Option ObjectRow) → object_at s index at ≡ found → Balanced at
  balanced_by at None is = none_balanced at is (object_at new later at) refl
  balanced_by at (Some found) is = old_balanced at found is

  -- references and losses are as many as what is owed and the references before
  pub balanced : (at : ℕ) → Balanced at
  balanced at = balanced_by at (object_at s index at) refl
