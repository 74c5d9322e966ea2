-- An index that the holder gives a new count keeps sound references.
use Rattle.std.proofs.Common.{◌≡◌, ◌==◌, ◌<◌, ◌∙◌, ℕ, Bool, true, false, List, [], ◌∷◌, ◌++◌, inl, inr, refl, subst, sym, ap, arith, Option, Some, None}
use Rattle.std.specs.Prelude.{option_map, ◌||◌}
use Rattle.std.specs.List.{list_any}
use Rattle.std.proofs.lemmas.Bool.{eqb-true}
use Rattle.std.proofs.lemmas.Bool.Decides.{eqb_tells}
use Rattle.gh_base.specs.declared.limits.TheConstants.{OBJECT_INDICES}
use Rattle.gh_model.specs.declared.rows.ObjectRow.{ObjectRow}
use Rattle.gh_events.specs.Config.{Config, Holder, Pin, has_acted, object_at, present, put, seen_index}
use Rattle.gh_events.specs.Entries.{is_that_index}
use Rattle.gh_events.specs.HolderEvents.{MayRevive, revived, with_revived}
use Rattle.gh_events.specs.References.{HasHome, HasReferences, IsFresh, IsPinned, IsRow, is_revived, owed_at}
use Rattle.gh_events.proofs.Finding.{put_here, put_other, same_number}
use Rattle.gh_events.proofs.Living.{index_apart}
use Rattle.gh_events.proofs.WordsMove.{MovesWith, WordsMove, with_words, words_sound}

-- two numbers are one, or the test says that they aren't
pub apart_by : (i at : ℕ) → (i ≡ at → ⊥) → (i == at) ≡ false
apart_by i at never =
    elim (eqb_tells i at) as (λ _. (i == at) ≡ false) [
      | inl same ↦ absurd (never same.1)
      | inr differs ↦ differs.0
    ]

module _ (conf : Config) (at object amount : ℕ) (sound : HasReferences conf)
    (may : MayRevive conf at object amount) where
  reviving : Option Holder
  reviving = Some (with_revived object amount may.holder)

  revives_count : ℕ → ℕ
  revives_count = put conf.count object amount

  revives_dead : ℕ → Bool
  revives_dead = put conf.dead object false

  -- an index where something lives is another
  apart_row : (row : ObjectRow) → IsRow (present conf) row → (conf.index row.serial.0 == object) ≡ false
  apart_row row is =
      apart_by (conf.index row.serial.0) object (index_apart (present conf) conf.index row object is may.uninhabited)

  apart_found : (i : ℕ) (row : ObjectRow) → object_at (present conf) conf.index i ≡ Some row
      → (i == object) ≡ false
  apart_found i row is =
      apart_by i object (λ (same : i ≡ object). let there : object_at (present conf) conf.index object ≡ Some row = subst (λ (n : ℕ). object_at (present conf) conf.index n ≡ Some row) same is in let none : object_at (present conf) conf.index object ≡ None = may.uninhabited in cc)

  owed_stays : (i : ℕ) → (i == object) ≡ false → owed_at reviving i ≡ owed_at conf.turn i
  unfolding reviving
  owed_stays i apart =
      put_other may.holder.owed object amount i apart ∙ sym (ap (λ (one : Option Holder). owed_at one i) may.has_turn.turn)

  -- nothing was revived before
  none_revived : (i : ℕ) → is_revived conf.turn i ≡ true → ⊥
  none_revived i some =
      let here : list_any (is_that_index i) may.holder.revived ≡ true = subst (λ (one : Option Holder). is_revived one i ≡ true) may.has_turn.turn some in
      let none : list_any (is_that_index i) may.holder.revived ≡ false = ap (λ (one : List ℕ). list_any (is_that_index i) one) may.first in
      cc

  -- it is this index that is revived now
  now_revived : (i : ℕ) → list_any (is_that_index i) (may.holder.revived ++ object ∷ []) ≡ true
      → i ≡ object
  now_revived i some =
      let one : list_any (is_that_index i) (object ∷ []) ≡ true = subst (λ (before : List ℕ). list_any (is_that_index i) (before ++ object ∷ []) ≡ true) may.first some in
      only (object == i) refl one
    where
      only : (here : Bool) → (object == i) ≡ here → (here || false) ≡ true → i ≡ object
      only true is found = sym (eqb-true object i is)
      only false is found = absurd (let never : ⊥ = cc in never)

  is_new : (i : ℕ) → i ≡ object
      → list_any (is_that_index i) (may.holder.revived ++ object ∷ []) ≡ true
  is_new i same =
      subst (λ (before : List ℕ). list_any (is_that_index i) (before ++ object ∷ []) ≡ true) (sym may.first) (subst (λ (n : ℕ). list_any (is_that_index n) (object ∷ []) ≡ true) (sym same) (rw (same_number object) refl))

  fresh_now : (i : ℕ) → i ≡ object → IsFresh (with_words conf revives_count revives_dead reviving) i
  unfolding reviving revives_count revives_dead
  fresh_now i same =
      let word : put conf.count object amount i ≡ amount = subst (λ (n : ℕ). put conf.count object amount n ≡ amount) (sym same) (put_here conf.count object amount) in
      let new : put may.holder.owed object amount i ≡ amount = subst (λ (n : ℕ). put may.holder.owed object amount n ≡ amount) (sym same) (put_here may.holder.owed object amount) in
      record {
        revived = is_new i same;
        uninhabited = subst (λ (n : ℕ). object_at (present conf) conf.index n ≡ None) (sym same) may.uninhabited;
        owed = word ∙ sym new;
        some = omega (arith, new, may.counted);
      }

  home_elsewhere : (i : ℕ) → HasHome conf i
      → HasHome (with_words conf revives_count revives_dead reviving) i
  home_elsewhere i (inl home) = inl home
  home_elsewhere i (inr fresh) = absurd (none_revived i fresh.revived)

  revive_homes : (i : ℕ) → i < OBJECT_INDICES → revives_dead i ≡ false
      → HasHome (with_words conf revives_count revives_dead reviving) i
  unfolding revives_dead
  revive_homes i within alive =
      elim (eqb_tells i object) as (λ _. HasHome (with_words conf revives_count revives_dead reviving) i) [
        | inl same ↦ inr (fresh_now i same.1)
        | inr differs ↦ home_elsewhere i (sound.counted.homes i within (sym (put_other conf.dead object false i differs.0) ∙ alive))
      ]

  -- what is dead behind was so before, and is another index
  dead_apart : (i : ℕ) → revives_dead i ≡ true → (i == object) ≡ false
  unfolding revives_dead
  dead_apart i dead =
      apart_by i object (λ (same : i ≡ object). let here : put conf.dead object false i ≡ false = subst (λ (n : ℕ). put conf.dead object false n ≡ false) (sym same) (put_here conf.dead object false) in cc)

  dead_before : (i : ℕ) → revives_dead i ≡ true → conf.dead i ≡ true
  unfolding revives_dead
  dead_before i dead = sym (put_other conf.dead object false i (dead_apart i dead)) ∙ dead

  dead_stays : (i : ℕ) (row : ObjectRow) → object_at (present conf) conf.index i ≡ Some row
      → revives_dead i ≡ conf.dead i
  unfolding revives_dead
  dead_stays i row is = put_other conf.dead object false i (apart_found i row is)

  row_dead : (row : ObjectRow) → IsRow (present conf) row
      → revives_dead (conf.index row.serial.0) ≡ conf.dead (conf.index row.serial.0)
  unfolding revives_dead
  row_dead row is = put_other conf.dead object false (conf.index row.serial.0) (apart_row row is)

  revive_fresh : (holder : Holder) (i : ℕ) → reviving ≡ Some holder → has_acted holder ≡ false
      → list_any (is_that_index i) holder.revived ≡ true
      → object_at (present conf) conf.index i ≡ None
  unfolding reviving
  revive_fresh holder i held acted some =
      let same : with_revived object amount may.holder ≡ holder = cc in
      let this : i ≡ object = now_revived i (ap (λ (one : Holder). list_any (is_that_index i) one.revived) same ∙ some) in
      subst (λ (n : ℕ). object_at (present conf) conf.index n ≡ None) (sym this) may.uninhabited

  revive_moves : (row : ObjectRow) → IsRow (present conf) row
      → revives_dead (conf.index row.serial.0) ≡ false
      → MovesWith conf revives_count reviving (conf.index row.serial.0)
  unfolding revives_count
  revive_moves row is alive = record {
    alive = sym (row_dead row is) ∙ alive;
    moved = omega (arith, put_other conf.count object amount (conf.index row.serial.0) (apart_row row is), owed_stays (conf.index row.serial.0) (apart_row row is));
  }

  revive_pinned : (pin : Pin) → IsPinned conf pin → revives_dead pin.index ≡ false
  revive_pinned pin before = dead_stays pin.index before.row before.lives_there ∙ before.alive

  revive_move : WordsMove conf revives_count revives_dead reviving
  unfolding revives_count
  revive_move = record {
    moves = revive_moves;
    homes = revive_homes;
    dead_counts = λ i within dead. put_other conf.count object amount i (dead_apart i dead) ∙ sound.counted.dead_counts i within (dead_before i dead);
    placed = record {
      unique = sound.placed.unique;
      doomed = λ row is dead. sound.placed.doomed row is (dead_before (conf.index row.serial.0) dead);
      unowed = λ i dead. owed_stays i (dead_apart i dead) ∙ sound.placed.unowed i (dead_before i dead);
      retired = λ row is retired. row_dead row is ∙ sound.placed.retired row is retired;
      fresh = revive_fresh;
    };
    pinned = λ cpu i pin is. revive_pinned pin ((sound.holds cpu).pinned i pin is);
    dying = λ seen dead grant. dead_stays (seen_index seen) grant.row grant.lives_there ∙ dead;
  }

  -- a revived index keeps sound references
  pub revive_keeps : HasReferences (revived conf object amount)
  unfolding reviving revives_count revives_dead
  revive_keeps =
      subst (λ (one : Option Holder). HasReferences (with_words conf revives_count revives_dead (option_map (with_revived object amount) one))) (sym may.has_turn.turn) (words_sound conf revives_count revives_dead reviving revive_move sound)
