-- A kill, whether it succeeds or not, keeps sound references.
use Rattle.std.proofs.Common.{◌≡◌, ◌==◌, ◌<◌, ◌≤◌, ◌∙◌, ℕ, Bool, true, false, ◌⊎◌, inl, inr, refl, subst, sym, ap, arith, Option, Some, None, slice_get, if◌then◌else◌}
use Rattle.std.specs.Prelude.{option_map}
use Rattle.std.specs.List.{list_any}
use Rattle.std.proofs.lemmas.Bool.{eqb-true}
use Rattle.std.proofs.lemmas.Bool.Decides.{eqb_tells}
use Rattle.gh_base.specs.declared.limits.TheConstants.{OBJECT_INDICES}
use Rattle.gh_model.specs.References.{references}
use Rattle.gh_model.specs.declared.rows.ObjectRow.{ObjectRow}
use Rattle.gh_events.specs.Config.{Config, Holder, Pin, has_acted, object_at, present, put, seen_index}
use Rattle.gh_events.specs.Entries.{is_that_index}
use Rattle.gh_events.specs.HolderEvents.{MayKill, kill_failed, killed, with_failed, without_scans}
use Rattle.gh_events.specs.References.{HasHome, HasReferences, IsFresh, IsRow, is_revived, owed_at, pins_at}
use Rattle.gh_events.proofs.Finding.{put_here, put_other}
use Rattle.gh_events.proofs.Living.{LivesAt, lives_there}
use Rattle.gh_events.proofs.ReviveKeeps.{apart_by}
use Rattle.gh_events.proofs.TurnKeeps.{keeps_stays, turn_sound}
use Rattle.gh_events.proofs.UnpinKeeps.{pin_counted}
use Rattle.gh_events.proofs.WordsMove.{WordsMove, with_words, words_sound}

module _ (conf : Config) (at object : ℕ) (sound : HasReferences conf) (may : MayKill conf at object)
  where
    kills_turn : Option Holder
    kills_turn = Some (without_scans may.holder)

    kills_dead : ℕ → Bool
    kills_dead = put conf.dead object true

    victim : LivesAt (present conf) conf.index object may.row.serial.0
    victim = lives_there (present conf) conf.index object may.row may.lives_there

    victim_alive : conf.dead (conf.index victim.row.serial.0) ≡ false
    victim_alive = subst (λ (n : ℕ). conf.dead n ≡ false) (sym victim.there) may.alive

    -- the word of the object that is killed is 0, so it has no pins
    no_pins : conf.count object ≡ 0 → pins_at conf.cpu object ≡ 0
    no_pins none =
        let word : conf.count (conf.index victim.row.serial.0) ≡ 0 = ap conf.count victim.there ∙ none in
        subst (λ (n : ℕ). pins_at conf.cpu n ≡ 0) victim.there (omega (arith, word, sound.counted.counts victim.row victim.is victim_alive))

    no_references : references (present conf) may.row.serial.0 ≡ 0
    no_references = eqb-true (references (present conf) may.row.serial.0) 0 may.doomed

    same_owed : (i : ℕ) → owed_at kills_turn i ≡ owed_at conf.turn i
    unfolding kills_turn
    same_owed i = sym (ap (λ (one : Option Holder). owed_at one i) may.has_turn.turn)

    killed_unowed : owed_at kills_turn object ≡ 0
    unfolding kills_turn
    killed_unowed = may.unowed

    alive_apart : (i : ℕ) → kills_dead i ≡ false → (i == object) ≡ false
    unfolding kills_dead
    alive_apart i alive =
        apart_by i object (λ (same : i ≡ object). let here : put conf.dead object true i ≡ true = subst (λ (n : ℕ). put conf.dead object true n ≡ true) (sym same) (put_here conf.dead object true) in cc)

    alive_before : (i : ℕ) → kills_dead i ≡ false → conf.dead i ≡ false
    unfolding kills_dead
    alive_before i alive = sym (put_other conf.dead object true i (alive_apart i alive)) ∙ alive

    -- what is dead behind is the one that was killed, or was dead before
    dead_behind : (i : ℕ) → kills_dead i ≡ true → (i ≡ object) ⊎ (conf.dead i ≡ true)
    unfolding kills_dead
    dead_behind i dead =
        elim (eqb_tells i object) as (λ _. (i ≡ object) ⊎ (conf.dead i ≡ true)) [
          | inl same ↦ inl same.1
          | inr differs ↦ inr (sym (put_other conf.dead object true i differs.0) ∙ dead)
        ]

    dead_still : (i : ℕ) → conf.dead i ≡ true → kills_dead i ≡ true
    unfolding kills_dead
    dead_still i dead =
        elim (eqb_tells i object) as (λ _. put conf.dead object true i ≡ true) [
          | inl same ↦ subst (λ (n : ℕ). put conf.dead object true n ≡ true) (sym same.1) (put_here conf.dead object true)
          | inr differs ↦ put_other conf.dead object true i differs.0 ∙ dead
        ]

    fresh_on : (i : ℕ) → IsFresh conf i → IsFresh (with_words conf conf.count kills_dead kills_turn) i
    unfolding kills_turn
    fresh_on i fresh = record {
      revived = subst (λ (one : Option Holder). is_revived one i ≡ true) may.has_turn.turn fresh.revived;
      uninhabited = fresh.uninhabited;
      owed = fresh.owed ∙ sym (same_owed i);
      some = omega (arith, fresh.some, same_owed i);
    }

    home_on : (i : ℕ) → HasHome conf i → HasHome (with_words conf conf.count kills_dead kills_turn) i
    home_on i (inl home) = inl home
    home_on i (inr fresh) = inr (fresh_on i fresh)

    counts_by : (none : conf.count object ≡ 0) (i : ℕ) → i < OBJECT_INDICES
        → (i ≡ object) ⊎ (conf.dead i ≡ true) → conf.count i ≡ pins_at conf.cpu i
    counts_by none i within (inl same) =
        subst (λ (n : ℕ). conf.count n ≡ pins_at conf.cpu n) (sym same) (none ∙ sym (no_pins none))
    counts_by none i within (inr dead) = sound.counted.dead_counts i within dead

    doomed_by : (row : ObjectRow) → IsRow (present conf) row
        → (conf.index row.serial.0 ≡ object) ⊎ (conf.dead (conf.index row.serial.0) ≡ true)
        → references (present conf) row.serial.0 ≡ 0
    doomed_by row is (inl there) =
        let same : row.serial.0 ≡ may.row.serial.0 = sound.placed.unique row victim.row is victim.is (there ∙ sym victim.there) ∙ victim.same in
        ap (references (present conf)) same ∙ no_references
    doomed_by row is (inr dead) = sound.placed.doomed row is dead

    unowed_by : (i : ℕ) → (i ≡ object) ⊎ (conf.dead i ≡ true) → owed_at kills_turn i ≡ 0
    unowed_by i (inl same) = subst (λ (n : ℕ). owed_at kills_turn n ≡ 0) (sym same) killed_unowed
    unowed_by i (inr dead) = same_owed i ∙ sound.placed.unowed i dead

    kill_fresh : (holder : Holder) (i : ℕ) → kills_turn ≡ Some holder → has_acted holder ≡ false
        → list_any (is_that_index i) holder.revived ≡ true
        → object_at (present conf) conf.index i ≡ None
    unfolding kills_turn
    kill_fresh holder i held acted some =
        let same : without_scans may.holder ≡ holder = cc in
        sound.placed.fresh may.holder i may.has_turn.turn (ap has_acted same ∙ acted) (ap (λ (one : Holder). list_any (is_that_index i) one.revived) same ∙ some)

    -- an object with a pin isn't the one that is killed
    kill_pinned : (cpu i : ℕ) (pin : Pin) → conf.count object ≡ 0
        → slice_get (conf.cpu cpu).pins i ≡ Some pin → kills_dead pin.index ≡ false
    unfolding kills_dead
    kill_pinned cpu i pin none is =
        let one : 1 ≤ conf.count pin.index = pin_counted conf cpu i pin sound is in
        let apart : (pin.index == object) ≡ false = apart_by pin.index object (λ (same : pin.index ≡ object). let word : conf.count pin.index ≡ 0 = ap conf.count same ∙ none in omega (arith, word, one)) in
        put_other conf.dead object true pin.index apart ∙ ((sound.holds cpu).pinned i pin is).alive

    kill_move : conf.count object ≡ 0 → WordsMove conf conf.count kills_dead kills_turn
    kill_move none = record {
      moves = λ row is alive. record { alive = alive_before (conf.index row.serial.0) alive; moved = omega (arith, same_owed (conf.index row.serial.0)) };
      homes = λ i within alive. home_on i (sound.counted.homes i within (alive_before i alive));
      dead_counts = λ i within dead. counts_by none i within (dead_behind i dead);
      placed = record {
        unique = sound.placed.unique;
        doomed = λ row is dead. doomed_by row is (dead_behind (conf.index row.serial.0) dead);
        unowed = λ i dead. unowed_by i (dead_behind i dead);
        retired = λ row is retired. dead_still (conf.index row.serial.0) (sound.placed.retired row is retired);
        fresh = kill_fresh;
      };
      pinned = λ cpu i pin is. kill_pinned cpu i pin none is;
      dying = λ seen dead grant. dead_still (seen_index seen) dead;
    }

    kill_succeeds : conf.count object ≡ 0
        → HasReferences (with_words conf conf.count kills_dead (option_map without_scans conf.turn))
    unfolding kills_turn
    kill_succeeds none =
        subst (λ (one : Option Holder). HasReferences (with_words conf conf.count kills_dead (option_map without_scans one))) (sym may.has_turn.turn) (words_sound conf conf.count kills_dead kills_turn (kill_move none) sound)

    kill_fails : (found : Option ObjectRow) → HasReferences (kill_failed conf object found)
    kill_fails None = sound
    kill_fails (Some row) =
        turn_sound conf (option_map (with_failed row.serial.0 (conf.count object)) conf.turn) (keeps_stays conf (with_failed row.serial.0 (conf.count object)) (λ holder. record { owed = refl; revived = refl; entries = refl }) conf.turn refl sound) sound

    kill_by : (here : Bool) → (conf.count object == 0) ≡ here
        → HasReferences (if here
        then record conf { turn = option_map without_scans conf.turn; dead = put conf.dead object true }
        else kill_failed conf object (object_at (present conf) conf.index object))
    unfolding kills_dead
    kill_by true none = kill_succeeds (eqb-true (conf.count object) 0 none)
    kill_by false some = kill_fails (object_at (present conf) conf.index object)

    -- a kill keeps sound references
    pub kill_keeps : HasReferences (killed conf object)
    kill_keeps = kill_by (conf.count object == 0) refl
