-- The holder's pins and unpins keep sound references.
use Rattle.std.proofs.Common.{◌≡◌, ◌==◌, ◌+◌, ◌-◌, ◌<◌, ◌≤◌, ◌∙◌, ℕ, Bool, true, false, ◌⊎◌, inl, inr, refl, subst, sym, ap, arith, Option, Some, None, is_some, if◌then◌else◌}
use Rattle.std.specs.Prelude.{option_map}
use Rattle.std.specs.List.{list_any}
use Rattle.std.proofs.lemmas.Bool.Decides.{eqb_tells}
use Rattle.gh_model.specs.declared.rows.ObjectRow.{ObjectRow}
use Rattle.gh_events.specs.Config.{Config, Holder, has_acted, object_at, present, put}
use Rattle.gh_events.specs.Entries.{is_that_index}
use Rattle.gh_events.specs.HolderEvents.{MayOwe, MaySettle, one_less, one_more, owed, settled, with_owed}
use Rattle.gh_events.specs.References.{HasHome, HasReferences, IsFresh, is_revived, owed_at}
use Rattle.gh_events.proofs.Finding.{put_here, put_other}
use Rattle.gh_events.proofs.Living.{LivesAt, lives_there}
use Rattle.gh_events.proofs.WordsMove.{WordsMove, with_words, words_sound}

-- one word and what is owed there, changed alike: the word isn't dead, and what stays owed where
-- nothing lives isn't 0
pub record OwesOther (conf : Config) (holder : Holder) (object count amount : ℕ) : Type 0 where
  pub turn : conf.turn ≡ Some holder
  pub alive : conf.dead object ≡ false
  pub alike : count + holder.owed object ≡ conf.count object + amount
  pub some : (is_some (object_at (present conf) conf.index object) ≡ true) ⊎ (0 < amount)

module _ (conf : Config) (holder : Holder) (object count amount : ℕ)
    (other : OwesOther conf holder object count amount) (sound : HasReferences conf) where
  pub owing : Option Holder
  owing = Some (with_owed object amount holder)

  owed_before : (i : ℕ) → owed_at conf.turn i ≡ holder.owed i
  owed_before i = ap (λ (one : Option Holder). owed_at one i) other.turn

  owed_here : (i : ℕ) → i ≡ object → owed_at owing i ≡ amount
  unfolding owing
  owed_here i same =
      subst (λ (n : ℕ). put holder.owed object amount n ≡ amount) (sym same) (put_here holder.owed object amount)

  owed_elsewhere : (i : ℕ) → (i == object) ≡ false → owed_at owing i ≡ owed_at conf.turn i
  unfolding owing
  owed_elsewhere i apart = put_other holder.owed object amount i apart ∙ sym (owed_before i)

  moves_here : (i : ℕ) → i ≡ object
      → put conf.count object count i + owed_at conf.turn i ≡ conf.count i + owed_at owing i
  moves_here i same =
      let word : put conf.count object count i ≡ count = subst (λ (n : ℕ). put conf.count object count n ≡ count) (sym same) (put_here conf.count object count) in
      let before : owed_at conf.turn i ≡ holder.owed object = owed_before i ∙ ap holder.owed same in
      let old : conf.count i ≡ conf.count object = ap conf.count same in
      omega (arith, word, before, old, owed_here i same, other.alike)

  owes_moved : (i : ℕ)
      → put conf.count object count i + owed_at conf.turn i ≡ conf.count i + owed_at owing i
  owes_moved i =
      elim (eqb_tells i object) as (λ _. put conf.count object count i + owed_at conf.turn i ≡ conf.count i + owed_at owing i) [
        | inl same ↦ moves_here i same.1
        | inr differs ↦ omega (arith, put_other conf.count object count i differs.0, owed_elsewhere i differs.0)
      ]

  fresh_here : (i : ℕ) → i ≡ object → IsFresh conf i
      → HasHome (with_words conf (put conf.count object count) conf.dead owing) i
  unfolding owing
  fresh_here i same fresh = by_some other.some
    where
      old : conf.count i ≡ conf.count object
      old = ap conf.count same

      old_owed : owed_at conf.turn i ≡ holder.owed object
      old_owed = owed_before i ∙ ap holder.owed same

      word : put conf.count object count i ≡ count
      word = subst (λ (n : ℕ). put conf.count object count n ≡ count) (sym same) (put_here conf.count object count)

      by_some : (is_some (object_at (present conf) conf.index object) ≡ true) ⊎ (0 < amount)
          → HasHome (with_words conf (put conf.count object count) conf.dead owing) i
      by_some (inl home) = inl (subst (λ (n : ℕ). is_some (object_at (present conf) conf.index n) ≡ true) (sym same) home)
      by_some (inr some) = inr record {
        revived = subst (λ (one : Option Holder). is_revived one i ≡ true) other.turn fresh.revived;
        uninhabited = fresh.uninhabited;
        owed = omega (arith, word, old, old_owed, owed_here i same, other.alike, fresh.owed);
        some = omega (arith, some, owed_here i same);
      }

  fresh_elsewhere : (i : ℕ) → (i == object) ≡ false → IsFresh conf i
      → IsFresh (with_words conf (put conf.count object count) conf.dead owing) i
  unfolding owing
  fresh_elsewhere i apart fresh = record {
    revived = subst (λ (one : Option Holder). is_revived one i ≡ true) other.turn fresh.revived;
    uninhabited = fresh.uninhabited;
    owed = put_other conf.count object count i apart ∙ (fresh.owed ∙ sym (owed_elsewhere i apart));
    some = omega (arith, fresh.some, owed_elsewhere i apart);
  }

  owes_homes : (i : ℕ) → HasHome conf i
      → HasHome (with_words conf (put conf.count object count) conf.dead owing) i
  owes_homes i (inl home) = inl home
  owes_homes i (inr fresh) =
      elim (eqb_tells i object) as (λ _. HasHome (with_words conf (put conf.count object count) conf.dead owing) i) [
        | inl same ↦ fresh_here i same.1 fresh
        | inr differs ↦ inr (fresh_elsewhere i differs.0 fresh)
      ]

  -- the word isn't a dead one
  dead_apart : (i : ℕ) → conf.dead i ≡ true → (i == object) ≡ false
  dead_apart i dead =
      elim (eqb_tells i object) as (λ _. (i == object) ≡ false) [
        | inl same ↦ let alive : conf.dead i ≡ false = ap conf.dead same.1 ∙ other.alive in absurd (let never : ⊥ = cc in never)
        | inr differs ↦ differs.0
      ]

  owes_move : WordsMove conf (put conf.count object count) conf.dead owing
  unfolding owing
  owes_move = record {
    moves = λ row is alive. record { alive = alive; moved = owes_moved (conf.index row.serial.0) };
    homes = λ i within alive. owes_homes i (sound.counted.homes i within alive);
    dead_counts = λ i within dead. put_other conf.count object count i (dead_apart i dead) ∙ sound.counted.dead_counts i within dead;
    placed = record {
      unique = sound.placed.unique;
      doomed = sound.placed.doomed;
      unowed = λ i dead. owed_elsewhere i (dead_apart i dead) ∙ sound.placed.unowed i dead;
      retired = sound.placed.retired;
      fresh = λ one i held acted revived. let same : with_owed object amount holder ≡ one = cc in sound.placed.fresh holder i other.turn (ap has_acted same ∙ acted) (ap (λ (any : Holder). list_any (is_that_index i) any.revived) same ∙ revived);
    };
    pinned = λ cpu i pin is. ((sound.holds cpu).pinned i pin is).alive;
    dying = λ seen dead grant. dead;
  }

  pub owes_sound : HasReferences (with_words conf (put conf.count object count) conf.dead owing)
  owes_sound = words_sound conf (put conf.count object count) conf.dead owing owes_move sound

-- Pin of the turn

module _ (conf : Config) (at object : ℕ) (sound : HasReferences conf) where
  owes_more : (may : MayOwe conf at object)
      → OwesOther conf may.holder object (conf.count object + 1) (may.holder.owed object + 1)
  owes_more may = record {
    turn = may.has_turn.turn;
    alive = may.alive;
    alike = omega arith;
    some = inr (omega arith);
  }

  -- a reference that becomes owed keeps sound references
  pub owe_keeps : MayOwe conf at object → HasReferences (owed conf object)
  unfolding owing
  owe_keeps may =
      subst (λ (one : Option Holder). HasReferences (with_words conf (put conf.count object (conf.count object + 1)) conf.dead (option_map (one_more object) one))) (sym may.has_turn.turn) (owes_sound conf may.holder object (conf.count object + 1) (may.holder.owed object + 1) (owes_more may) sound)

  -- Unpin of the turn

  least_by : (home : Bool) (amount : ℕ) → (if home then 0 else 1) < amount
      → (home ≡ true) ⊎ (0 < amount - 1)
  least_by true amount more = inl refl
  least_by false amount more = inr (omega (arith, more))

  owes_some : (may : MaySettle conf at object) → 0 < may.holder.owed object
  owes_some may = by_home (is_some (object_at (present conf) conf.index object)) may.owes
    where
      by_home : (home : Bool) → (if home then 0 else 1) < may.holder.owed object → 0 < may.holder.owed object
      by_home true more = more
      by_home false more = omega (arith, more)

  owed_is : (may : MaySettle conf at object) → owed_at conf.turn object ≡ may.holder.owed object
  owed_is may = ap (λ (one : Option Holder). owed_at one object) may.has_turn.turn

  settles_alive : (may : MaySettle conf at object) (dead : Bool) → conf.dead object ≡ dead
      → conf.dead object ≡ false
  settles_alive may true is =
      let none : owed_at conf.turn object ≡ 0 = sound.placed.unowed object is in
      absurd (omega (arith, none, owed_is may, owes_some may))
  settles_alive may false is = is

  -- a word that isn't dead counts what is owed there
  pub counts_owed : (found : Option ObjectRow) → object_at (present conf) conf.index object ≡ found
      → conf.dead object ≡ false → HasHome conf object → owed_at conf.turn object ≤ conf.count object
  counts_owed None is alive (inl home) = let some : is_some {T = ObjectRow} None ≡ true = ap is_some (sym is) ∙ home in absurd (let never : ⊥ = cc in never)
  counts_owed found is alive (inr fresh) = omega (arith, fresh.owed)
  counts_owed (Some found) is alive (inl home) =
      let lives : LivesAt (present conf) conf.index object found.serial.0 = lives_there (present conf) conf.index object found is in
      let also : conf.dead (conf.index lives.row.serial.0) ≡ false = subst (λ (n : ℕ). conf.dead n ≡ false) (sym lives.there) alive in
      subst (λ (n : ℕ). owed_at conf.turn n ≤ conf.count n) lives.there (omega (arith, sound.counted.counts lives.row lives.is also))

  owes_less : (may : MaySettle conf at object)
      → OwesOther conf may.holder object (conf.count object - 1) (may.holder.owed object - 1)
  owes_less may =
      let alive : conf.dead object ≡ false = settles_alive may (conf.dead object) refl in
      let counted : owed_at conf.turn object ≤ conf.count object = counts_owed (object_at (present conf) conf.index object) refl alive (sound.counted.homes object may.is_index alive) in
      record {
        turn = may.has_turn.turn;
        alive = alive;
        alike = omega (arith, counted, owed_is may, owes_some may);
        some = least_by (is_some (object_at (present conf) conf.index object)) (may.holder.owed object) may.owes;
      }

  -- a reference that is owed no more keeps sound references
  pub settle_keeps : MaySettle conf at object → HasReferences (settled conf object)
  unfolding owing
  settle_keeps may =
      subst (λ (one : Option Holder). HasReferences (with_words conf (put conf.count object (conf.count object - 1)) conf.dead (option_map (one_less object) one))) (sym may.has_turn.turn) (owes_sound conf may.holder object (conf.count object - 1) (may.holder.owed object - 1) (owes_less may) sound)
