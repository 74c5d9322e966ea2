-- An entry of the holder keeps sound references where each object behind it lived before at the
-- same index or is new at a revived one, and what is owed makes up for its references.
use Rattle.std.proofs.Common.{◌≡◌, ◌+◌, ◌-◌, ◌<◌, ◌∙◌, ◌⊎◌, inl, inr, ℕ, true, false, List, refl, subst, sym, ap, arith, Option, Some, None, find, is_some}
use Rattle.std.specs.List.{last_or, list_any}
use Rattle.std.specs.Option.{option_map_or}
use Rattle.std.proofs.lemmas.Bool.{eqb-true}
use Rattle.gh_base.specs.declared.cap_word.CapWord.{CapWord}
use Rattle.gh_base.specs.declared.limits.TheConstants.{OBJECT_INDICES}
use Rattle.gh_invariant.specs.Lives.{lives}
use Rattle.gh_model.specs.Act.{granted}
use Rattle.gh_model.specs.History.{Event, replay}
use Rattle.gh_model.specs.Marks.{Seen}
use Rattle.gh_model.specs.References.{references}
use Rattle.gh_model.specs.Rows.{is_object}
use Rattle.gh_model.specs.declared.rows.ObjectRow.{ObjectRow}
use Rattle.gh_model.specs.declared.state.State.{State}
use Rattle.gh_events.specs.Config.{Config, Current, Holder, Pin, has_acted, is_at, live_references, object_at, present, references_at, seen_index}
use Rattle.gh_events.specs.Entries.{Covers, is_that_index}
use Rattle.gh_events.specs.References.{AreCounted, ArePlaced, HasGrant, HasHome, HasReferences, HoldsSoundly, IsFresh, IsGranted, IsPinned, IsRow, is_revived, owed_at, pins_at}
use Rattle.gh_events.specs.Start.{AreIndices}
use Rattle.gh_events.proofs.Finding.{finds, found_passes, same_number}
use Rattle.gh_events.proofs.NoPins.{no_pins}
use Rattle.gh_events.proofs.StartSound.{counted_there}

-- the history, the indices, the turn and the words changed
abbrev pub with_log : Config → List Event → (ℕ → ℕ) → Option Holder → (ℕ → ℕ → CapWord) → Config
with_log conf history index turn cap =
    record conf { history = history; index = index; turn = turn; cap = cap }

-- the object lived before, at the same index
pub record IsOld (conf : Config) (index : ℕ → ℕ) (serial : ℕ) : Type 0 where
  pub lived : lives (present conf).objects serial ≡ true
  pub same : index serial ≡ conf.index serial

-- it is new, at an index that was revived in this turn
pub record IsBorn (conf : Config) (holder : Holder) (index : ℕ → ℕ) (serial : ℕ) : Type 0 where
  pub next : serial ≡ (present conf).next_serial
  pub revived : list_any (is_that_index (index serial)) holder.revived ≡ true

-- it lives on at its index
pub record LivesOn (conf : Config) (new : State) (index : ℕ → ℕ) (serial : ℕ) : Type 0 where
  pub lives_still : lives new.objects serial ≡ true
  pub same : index serial ≡ conf.index serial

-- it lives no more, and its word was dead
pub record IsGone (conf : Config) (new : State) (serial : ℕ) : Type 0 where
  pub lives_not : lives new.objects serial ≡ false
  pub dead : conf.dead (conf.index serial) ≡ true

-- what an entry does to the objects, their indices and what is owed
pub record Follows (conf : Config) (holder after : Holder) (new : State) (index : ℕ → ℕ)
    : Type 0 where
  pub turn : conf.turn ≡ Some holder
  pub not_acted : has_acted holder ≡ false
  pub came : (serial : ℕ) → lives new.objects serial ≡ true
      → IsOld conf index serial ⊎ IsBorn conf holder index serial
  pub stays : (serial : ℕ) → lives (present conf).objects serial ≡ true
      → LivesOn conf new index serial ⊎ IsGone conf new serial
  pub was_within : (serial : ℕ) → lives (present conf).objects serial ≡ true
      → conf.index serial < OBJECT_INDICES
  pub within : (serial : ℕ) → lives new.objects serial ≡ true → index serial < OBJECT_INDICES
  pub retired : (row : ObjectRow) → IsRow new row → is_some row.retired ≡ true
      → conf.dead (index row.serial.0) ≡ true
  pub before_act : has_acted after ≡ false → (serial : ℕ) → lives new.objects serial ≡ true
      → IsOld conf index serial
  pub looks : (cpu : ℕ) (call : Current) (seen : Seen) → HasGrant (conf.cpu cpu) call
      → last_or None call.seen ≡ Some seen
      → lives (present conf).objects (granted seen.word).0 ≡ true
      → lives new.objects (granted seen.word).0 ≡ true
  pub revived : after.revived ≡ holder.revived
  pub owed : (at : ℕ) → after.owed at
      ≡ holder.owed at + live_references conf at - references_at new index at
  pub covers : Covers conf holder new index

-- the row of an object that lives
pub record RowOf (s : State) (serial : ℕ) : Type 0 where
  pub row : ObjectRow
  pub is_row : IsRow s row
  pub serial_is : row.serial.0 ≡ serial

row_by : (s : State) (serial : ℕ) (found : Option ObjectRow)
    → find (is_object serial) s.objects ≡ found → is_some found ≡ true → RowOf s serial
row_by s serial None is some = absurd (let never : ⊥ = cc in never)
row_by s serial (Some row) is some =
    let same : row.serial.0 ≡ serial = eqb-true row.serial.0 serial (found_passes (is_object serial) s.objects row is) in
    record { row = row; is_row = subst (λ (n : ℕ). find (is_object n) s.objects ≡ Some row) (sym same) is; serial_is = same }

pub row_of : (s : State) (serial : ℕ) → lives s.objects serial ≡ true → RowOf s serial
row_of s serial alive = row_by s serial (find (is_object serial) s.objects) refl alive

-- a row's object lives
pub row_lives : (s : State) (row : ObjectRow) → IsRow s row → lives s.objects row.serial.0 ≡ true
row_lives s row is = ap is_some is

module _ (s : State) (index : ℕ → ℕ) (at : ℕ) (found : ObjectRow)
    (there : object_at s index at ≡ Some found) where
  -- what stands at an index lives, and has this index
  pub there_lives : lives s.objects found.serial.0 ≡ true
  there_lives =
      finds (is_at index at) (is_object found.serial.0) s.objects found there (same_number found.serial.0)

  pub there_index : index found.serial.0 ≡ at
  there_index =
      eqb-true (index found.serial.0) at (found_passes (is_at index at) s.objects found there)

-- nothing isn't something
pub nothing : (found : Option ObjectRow) → found ≡ None → is_some found ≡ true → ⊥
nothing None none some = absurd (let never : ⊥ = cc in never)
nothing (Some row) none some = absurd (let never : ⊥ = cc in never)

-- an object that lives stands at its index
pub lives_there : (s : State) (index : ℕ → ℕ) (serial : ℕ) → lives s.objects serial ≡ true
    → is_some (object_at s index (index serial)) ≡ true
lives_there s index serial alive =
    let one : RowOf s serial = row_of s serial alive in
    subst (λ (n : ℕ). is_some (object_at s index (index n)) ≡ true) one.serial_is
    (finds (is_object one.row.serial.0) (is_at index (index one.row.serial.0)) s.objects one.row one.is_row (same_number (index one.row.serial.0)))

-- objects that live have indices, each its own
pub indices_of : (conf : Config) → HasReferences conf
    → ((serial : ℕ) → lives (present conf).objects serial ≡ true → conf.index serial < OBJECT_INDICES)
    → AreIndices (present conf) conf.index
indices_of conf sound within = record {
  within = within;
  unique = λ serial other alive also same. let one : RowOf (present conf) serial = row_of (present conf) serial alive in let two : RowOf (present conf) other = row_of (present conf) other also in let at : conf.index one.row.serial.0 ≡ conf.index two.row.serial.0 = ap conf.index one.serial_is ∙ same ∙ sym (ap conf.index two.serial_is) in sym one.serial_is ∙ sound.placed.unique one.row two.row one.is_row two.is_row at ∙ two.serial_is;
}

module _ (conf : Config) (history : List Event) (index : ℕ → ℕ) (holder after : Holder)
    (cap : ℕ → ℕ → CapWord)
    (follows : Follows conf holder after (replay conf.boot history) index)
    (sound : HasReferences conf) where
  new : State
  new = replay conf.boot history

  old_indices : AreIndices (present conf) conf.index
  old_indices = indices_of conf sound follows.was_within

  -- an index that was revived has no object yet
  revived_empty : (at : ℕ) → list_any (is_that_index at) holder.revived ≡ true
      → object_at (present conf) conf.index at ≡ None
  revived_empty at revived =
      sound.placed.fresh holder at follows.turn follows.not_acted revived

  -- no object that lived is at the index of a new one
  not_both : (serial other : ℕ) → IsOld conf index serial → IsBorn conf holder index other
      → index serial ≡ index other → ⊥
  not_both serial other old born same =
      let there : conf.index serial ≡ index other = sym old.same ∙ same in
      nothing (object_at (present conf) conf.index (index other)) (revived_empty (index other) born.revived)
      (subst (λ (n : ℕ). is_some (object_at (present conf) conf.index n) ≡ true) there (lives_there (present conf) conf.index serial old.lived))

  same_by : (serial other : ℕ) → IsOld conf index serial ⊎ IsBorn conf holder index serial
      → IsOld conf index other ⊎ IsBorn conf holder index other → index serial ≡ index other
      → serial ≡ other
  same_by serial other (inl old) (inl also) same =
      old_indices.unique serial other old.lived also.lived (sym old.same ∙ same ∙ also.same)
  same_by serial other (inl old) (inr born) same = absurd (not_both serial other old born same)
  same_by serial other (inr born) (inl old) same =
      absurd (not_both other serial old born (sym same))
  same_by serial other (inr born) (inr also) same = born.next ∙ sym also.next

  new_indices : AreIndices new index
  unfolding new
  new_indices = record {
    within = follows.within;
    unique = λ serial other alive also same. same_by serial other (follows.came serial alive) (follows.came other also) same;
  }

  -- nothing refers to what isn't there
  empty_references : (s : State) (indices : ℕ → ℕ) (at : ℕ) → object_at s indices at ≡ None
      → references_at s indices at ≡ 0
  empty_references s indices at none =
      ap (λ (found : Option ObjectRow). option_map_or (λ (row : ObjectRow). references s row.serial.0) found 0) none

  owed_before : (at : ℕ) → owed_at conf.turn at ≡ holder.owed at
  owed_before at = ap (λ (turn : Option Holder). owed_at turn at) follows.turn

  -- references and what is owed are together as before
  balanced : (row : ObjectRow) → IsRow new row
      → references new row.serial.0 + after.owed (index row.serial.0)
      ≡ live_references conf (index row.serial.0) + holder.owed (index row.serial.0)
  unfolding new
  balanced row is =
      let at : ℕ = index row.serial.0 in
      let there : references_at new index (index row.serial.0) ≡ references new row.serial.0 = counted_there new index new_indices row is in
      let within : index row.serial.0 < OBJECT_INDICES = follows.within row.serial.0 (row_lives new row is) in
      omega (arith, there, follows.covers (index row.serial.0) within, follows.owed (index row.serial.0))

  -- the references at the index of an object that lived
  old_references : (row : ObjectRow) (serial : ℕ) → IsOld conf index serial
      → row.serial.0 ≡ serial → IsRow (present conf) row
      → live_references conf (index serial) ≡ references (present conf) row.serial.0
  old_references row serial old that is =
      let at : conf.index row.serial.0 ≡ index serial = ap conf.index that ∙ sym old.same in
      subst (λ (n : ℕ). live_references conf n ≡ references (present conf) row.serial.0) at (counted_there (present conf) conf.index old_indices row is)

  counts_old : (row : ObjectRow) → IsRow new row → IsOld conf index row.serial.0
      → conf.dead (index row.serial.0) ≡ false
      → conf.count (index row.serial.0) ≡ references new row.serial.0 + (pins_at conf.cpu (index row.serial.0) + after.owed (index row.serial.0))
  counts_old row is old alive =
      let one : RowOf (present conf) row.serial.0 = row_of (present conf) row.serial.0 old.lived in
      let at : conf.index one.row.serial.0 ≡ index row.serial.0 = ap conf.index one.serial_is ∙ sym old.same in
      let before : conf.count (index row.serial.0) ≡ references (present conf) one.row.serial.0 + (pins_at conf.cpu (index row.serial.0) + owed_at conf.turn (index row.serial.0)) =
      subst (λ (n : ℕ). conf.count n ≡ references (present conf) one.row.serial.0 + (pins_at conf.cpu n + owed_at conf.turn n)) at
      (sound.counted.counts one.row one.is_row (subst (λ (n : ℕ). conf.dead n ≡ false) (sym at) alive)) in
      omega (arith, before, balanced row is, old_references one.row row.serial.0 old one.serial_is one.is_row, owed_before (index row.serial.0))

  fresh_count : (at : ℕ) → at < OBJECT_INDICES → object_at (present conf) conf.index at ≡ None
      → HasHome conf at → conf.count at ≡ owed_at conf.turn at
  fresh_count at within none (inl some) =
      absurd (nothing (object_at (present conf) conf.index at) none some)
  fresh_count at within none (inr fresh) = fresh.owed

  counts_born : (row : ObjectRow) → IsRow new row → IsBorn conf holder index row.serial.0
      → conf.dead (index row.serial.0) ≡ false
      → conf.count (index row.serial.0) ≡ references new row.serial.0 + (pins_at conf.cpu (index row.serial.0) + after.owed (index row.serial.0))
  unfolding new
  counts_born row is born alive =
      let none : object_at (present conf) conf.index (index row.serial.0) ≡ None = revived_empty (index row.serial.0) born.revived in
      let within : index row.serial.0 < OBJECT_INDICES = follows.within row.serial.0 (row_lives new row is) in
      let counted : conf.count (index row.serial.0) ≡ owed_at conf.turn (index row.serial.0) =
      fresh_count (index row.serial.0) within none (sound.counted.homes (index row.serial.0) within alive) in
      omega (arith, counted, balanced row is, empty_references (present conf) conf.index (index row.serial.0) none, owed_before (index row.serial.0), no_pins conf (index row.serial.0) none alive sound)

  counts_by : (row : ObjectRow) → IsRow new row
      → IsOld conf index row.serial.0 ⊎ IsBorn conf holder index row.serial.0
      → conf.dead (index row.serial.0) ≡ false
      → conf.count (index row.serial.0) ≡ references new row.serial.0 + (pins_at conf.cpu (index row.serial.0) + after.owed (index row.serial.0))
  counts_by row is (inl old) alive = counts_old row is old alive
  counts_by row is (inr born) alive = counts_born row is born alive

  -- an index whose word isn't dead has a home

  new_home : (found : ObjectRow) (at : ℕ) → object_at (present conf) conf.index at ≡ Some found
      → conf.dead at ≡ false
      → LivesOn conf new index found.serial.0 ⊎ IsGone conf new found.serial.0
      → is_some (object_at new index at) ≡ true
  new_home found at there alive (inl left) =
      let here : index found.serial.0 ≡ at = left.same ∙ there_index (present conf) conf.index at found there in
      subst (λ (n : ℕ). is_some (object_at new index n) ≡ true) here (lives_there new index found.serial.0 left.lives_still)
  new_home found at there alive (inr gone) =
      let dead : conf.dead at ≡ true = subst (λ (n : ℕ). conf.dead n ≡ true) (there_index (present conf) conf.index at found there) gone.dead in
      absurd (let never : ⊥ = cc in never)

  fresh_by : (at : ℕ) (found : Option ObjectRow) → object_at new index at ≡ found
      → IsFresh conf at → HasHome (with_log conf history index (Some after) cap) at
  unfolding new
  fresh_by at (Some row) is fresh = inl (ap is_some is)
  fresh_by at None is fresh =
      let none : references_at new index at ≡ 0 = empty_references new index at is in
      let before : live_references conf at ≡ 0 = empty_references (present conf) conf.index at fresh.uninhabited in
      let owed : after.owed at ≡ owed_at conf.turn at = omega (arith, none, before, follows.owed at, owed_before at) in
      inr (record {
        revived = ap (list_any (is_that_index at)) follows.revived ∙ sym (was_revived at) ∙ fresh.revived;
        uninhabited = is;
        owed = fresh.owed ∙ sym owed;
        some = subst (λ (n : ℕ). 0 < n) (sym owed) fresh.some;
      })
    where
      was_revived : (n : ℕ) → is_revived conf.turn n ≡ list_any (is_that_index n) holder.revived
      was_revived n = ap (λ (turn : Option Holder). is_revived turn n) follows.turn

  home_by : (at : ℕ) (found : Option ObjectRow) → object_at (present conf) conf.index at ≡ found
      → conf.dead at ≡ false → HasHome conf at
      → HasHome (with_log conf history index (Some after) cap) at
  unfolding new
  home_by at (Some found) there alive home =
      inl (new_home found at there alive (follows.stays found.serial.0 (there_lives (present conf) conf.index at found there)))
  home_by at None there alive (inl some) =
      absurd (nothing (object_at (present conf) conf.index at) there some)
  home_by at None there alive (inr fresh) = fresh_by at (object_at new index at) refl fresh

  entry_counted : AreCounted (with_log conf history index (Some after) cap)
  unfolding new
  entry_counted = record {
    counts = λ row is alive. counts_by row is (follows.came row.serial.0 (row_lives new row is)) alive;
    homes = λ at within alive. home_by at (object_at (present conf) conf.index at) refl alive (sound.counted.homes at within alive);
    dead_counts = sound.counted.dead_counts;
  }

  -- where objects are

  dead_old : (at : ℕ) (found : Option ObjectRow) → object_at (present conf) conf.index at ≡ found
      → conf.dead at ≡ true → live_references conf at ≡ 0
  dead_old at None there dead = empty_references (present conf) conf.index at there
  dead_old at (Some found) there dead =
      let one : RowOf (present conf) found.serial.0 = row_of (present conf) found.serial.0 (there_lives (present conf) conf.index at found there) in
      let here : conf.index one.row.serial.0 ≡ at = ap conf.index one.serial_is ∙ there_index (present conf) conf.index at found there in
      let none : references (present conf) one.row.serial.0 ≡ 0 = sound.placed.doomed one.row one.is_row (subst (λ (n : ℕ). conf.dead n ≡ true) (sym here) dead) in
      subst (λ (n : ℕ). live_references conf n ≡ 0) here (counted_there (present conf) conf.index old_indices one.row one.is_row ∙ none)

  -- at a dead word nothing was owed and nothing referred
  dead_none : (at : ℕ) → conf.dead at ≡ true → live_references conf at + holder.owed at ≡ 0
  dead_none at dead =
      omega (arith, dead_old at (object_at (present conf) conf.index at) refl dead, sound.placed.unowed at dead, owed_before at)

  entry_placed : ArePlaced (with_log conf history index (Some after) cap)
  unfolding new
  entry_placed = record {
    unique = λ row other is also same. new_indices.unique row.serial.0 other.serial.0 (row_lives new row is) (row_lives new other also) same;
    doomed = λ row is dead. omega (arith, balanced row is, dead_none (index row.serial.0) dead);
    unowed = λ at dead. omega (arith, follows.owed at, dead_none at dead);
    retired = follows.retired;
    fresh = λ one at held acted revived. let same : after ≡ one = cc in fresh_none at (subst (λ (h : Holder). has_acted h ≡ false) (sym same) acted) (subst (λ (h : Holder). list_any (is_that_index at) h.revived ≡ true) (sym same) revived) (object_at new index at) refl;
  }
    where
      fresh_none : (at : ℕ) → has_acted after ≡ false → list_any (is_that_index at) after.revived ≡ true
          → (found : Option ObjectRow) → object_at new index at ≡ found → object_at new index at ≡ None
      fresh_none at acted revived None is = is
      fresh_none at acted revived (Some found) is =
          let old : IsOld conf index found.serial.0 = follows.before_act acted found.serial.0 (there_lives new index at found is) in
          let here : conf.index found.serial.0 ≡ at = sym old.same ∙ there_index new index at found is in
          let none : object_at (present conf) conf.index at ≡ None = revived_empty at (sym (ap (list_any (is_that_index at)) follows.revived) ∙ revived) in
          absurd (nothing (object_at (present conf) conf.index at) none
          (subst (λ (n : ℕ). is_some (object_at (present conf) conf.index n) ≡ true) here (lives_there (present conf) conf.index found.serial.0 old.lived)))

  -- what CPUs hold

  -- an object that lives on stands where it stood
  record StandsAt (at serial : ℕ) : Type 0 where
    row : ObjectRow
    lives_there : object_at new index at ≡ Some row
    is_that : row.serial.0 ≡ serial

  stands_by : (at serial : ℕ) → lives new.objects serial ≡ true → index serial ≡ at
      → (found : Option ObjectRow) → object_at new index at ≡ found → StandsAt at serial
  stands_by at serial alive here None is =
      absurd (nothing (object_at new index at) is (subst (λ (n : ℕ). is_some (object_at new index n) ≡ true) here (lives_there new index serial alive)))
  stands_by at serial alive here (Some row) is =
      let same : index row.serial.0 ≡ index serial = there_index new index at row is ∙ sym here in
      record { row = row; lives_there = is; is_that = new_indices.unique row.serial.0 serial (there_lives new index at row is) alive same }

  old_stands : (at : ℕ) (row : ObjectRow) → object_at (present conf) conf.index at ≡ Some row
      → LivesOn conf new index row.serial.0 → StandsAt at row.serial.0
  old_stands at row there left =
      stands_by at row.serial.0 left.lives_still (left.same ∙ there_index (present conf) conf.index at row there) (object_at new index at) refl

  pin_by : (pin : Pin) (before : IsPinned conf pin)
      → LivesOn conf new index before.row.serial.0 ⊎ IsGone conf new before.row.serial.0
      → IsPinned (with_log conf history index (Some after) cap) pin
  unfolding new
  pin_by pin before (inl left) =
      let one : StandsAt pin.index before.row.serial.0 = old_stands pin.index before.row before.lives_there left in
      record { row = one.row; lives_there = one.lives_there; is_that = one.is_that ∙ before.is_that; alive = before.alive }
  pin_by pin before (inr gone) =
      let here : conf.index before.row.serial.0 ≡ pin.index = there_index (present conf) conf.index pin.index before.row before.lives_there in
      let dead : conf.dead pin.index ≡ true = subst (λ (n : ℕ). conf.dead n ≡ true) here gone.dead in
      let alive : conf.dead pin.index ≡ false = before.alive in
      absurd (let never : ⊥ = cc in never)

  grant_by : (seen : Seen) (before : IsGranted conf seen)
      → lives new.objects before.row.serial.0 ≡ true
      → LivesOn conf new index before.row.serial.0 ⊎ IsGone conf new before.row.serial.0
      → IsGranted (with_log conf history index (Some after) cap) seen
  unfolding new
  grant_by seen before alive (inl left) =
      let one : StandsAt (seen_index seen) before.row.serial.0 = old_stands (seen_index seen) before.row before.lives_there left in
      record { row = one.row; lives_there = one.lives_there; is_that = one.is_that ∙ before.is_that }
  grant_by seen before alive (inr gone) =
      let not_alive : lives new.objects before.row.serial.0 ≡ false = gone.lives_not in
      absurd (let never : ⊥ = cc in never)

  old_lives : (at : ℕ) (row : ObjectRow) → object_at (present conf) conf.index at ≡ Some row
      → lives (present conf).objects row.serial.0 ≡ true
  old_lives at row there = there_lives (present conf) conf.index at row there

  granted_on : (cpu : ℕ) (call : Current) (seen : Seen) → HasGrant (conf.cpu cpu) call
      → last_or None call.seen ≡ Some seen → IsGranted conf seen
      → IsGranted (with_log conf history index (Some after) cap) seen
  unfolding new
  granted_on cpu call seen looked last before =
      let was : lives (present conf).objects before.row.serial.0 ≡ true = old_lives (seen_index seen) before.row before.lives_there in
      let named : lives (present conf).objects (granted seen.word).0 ≡ true = subst (λ (n : ℕ). lives (present conf).objects n ≡ true) before.is_that was in
      let still : lives new.objects before.row.serial.0 ≡ true = subst (λ (n : ℕ). lives new.objects n ≡ true) (sym before.is_that) (follows.looks cpu call seen looked last named) in
      grant_by seen before still (follows.stays before.row.serial.0 was)

  entry_holds : (cpu : ℕ) → HoldsSoundly (with_log conf history index (Some after) cap) (conf.cpu cpu)
  unfolding new
  entry_holds cpu = record {
    pinned = λ i pin is. let before : IsPinned conf pin = (sound.holds cpu).pinned i pin is in pin_by pin before (follows.stays before.row.serial.0 (old_lives pin.index before.row before.lives_there));
    granted = λ call seen looked last. granted_on cpu call seen looked last ((sound.holds cpu).granted call seen looked last);
    dying = (sound.holds cpu).dying;
  }

  -- the references stay sound
  pub entry_sound : HasReferences (with_log conf history index (Some after) cap)
  entry_sound = record {
    counted = entry_counted;
    placed = entry_placed;
    holds = entry_holds;
    seats = sound.seats;
  }
