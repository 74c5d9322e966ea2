-- Events that change only what the holder keeps, and no amount that is owed, keep sound references.
use Rattle.std.proofs.Common.{◌≡◌, ◌<◌, ◌∙◌, ℕ, true, false, List, inl, inr, refl, subst, sym, ap, arith, Option, Some, None}
use Rattle.std.specs.Prelude.{option_map}
use Rattle.std.specs.List.{list_any}
use Rattle.gh_model.specs.declared.entry.Entry.{Entry}
use Rattle.gh_events.specs.Config.{Config, Cpu, Holder, has_acted, is_acted, object_at, present}
use Rattle.gh_events.specs.Entries.{is_that_index}
use Rattle.gh_events.specs.References.{AreCounted, ArePlaced, HasHome, HasReferences, HoldsSoundly, IsGranted, IsPinned, is_revived, owed_at}
use Rattle.gh_events.specs.HolderEvents.{scanned, with_scan}
use Rattle.gh_events.specs.TurnEvents.{MayQuit, quit}

-- the holder of the turn changed
abbrev pub with_holder : Config → Option Holder → Config
with_holder conf turn = record conf { turn = turn }

-- what such a change needs: as much is owed as before, what was revived and is owed stays so, and a
-- revived index has no object yet
pub record TurnStays (conf : Config) (turn : Option Holder) : Type 0 where
  pub owed : (i : ℕ) → owed_at turn i ≡ owed_at conf.turn i
  pub revived : (i : ℕ) → is_revived conf.turn i ≡ true → 0 < owed_at conf.turn i
      → is_revived turn i ≡ true
  pub fresh : (holder : Holder) (i : ℕ) → turn ≡ Some holder → has_acted holder ≡ false
      → list_any (is_that_index i) holder.revived ≡ true
      → object_at (present conf) conf.index i ≡ None

module _ (conf : Config) (turn : Option Holder) (stays : TurnStays conf turn)
    (sound : HasReferences conf) where
  home_of_turn : (i : ℕ) → HasHome conf i → HasHome (with_holder conf turn) i
  home_of_turn i (inl home) = inl home
  home_of_turn i (inr fresh) =
      let same : owed_at turn i ≡ owed_at conf.turn i = stays.owed i in
      let some : 0 < owed_at conf.turn i = fresh.some in
      inr record {
        revived = stays.revived i fresh.revived fresh.some;
        uninhabited = fresh.uninhabited;
        owed = fresh.owed ∙ sym same;
        some = omega (arith, same, some);
      }

  turn_counted : AreCounted (with_holder conf turn)
  turn_counted = record {
    counts = λ row is alive. omega (arith, sound.counted.counts row is alive, stays.owed (conf.index row.serial.0));
    homes = λ i within alive. home_of_turn i (sound.counted.homes i within alive);
    dead_counts = sound.counted.dead_counts;
  }

  turn_placed : ArePlaced (with_holder conf turn)
  turn_placed = record {
    unique = sound.placed.unique;
    doomed = sound.placed.doomed;
    unowed = λ i dead. stays.owed i ∙ sound.placed.unowed i dead;
    retired = sound.placed.retired;
    fresh = stays.fresh;
  }

  turn_holds : (one : Cpu) → HoldsSoundly conf one → HoldsSoundly (with_holder conf turn) one
  turn_holds one holding = record {
    pinned = λ i pin is. let before : IsPinned conf pin = holding.pinned i pin is in record { row = before.row; lives_there = before.lives_there; is_that = before.is_that; alive = before.alive };
    granted = λ call seen looked last. let before : IsGranted conf seen = holding.granted call seen looked last in record { row = before.row; lives_there = before.lives_there; is_that = before.is_that };
    dying = holding.dying;
  }

  -- the references stay sound
  pub turn_sound : HasReferences (with_holder conf turn)
  turn_sound = record {
    counted = turn_counted;
    placed = turn_placed;
    holds = λ n. turn_holds (conf.cpu n) (sound.holds n);
    seats = sound.seats;
  }

-- Scan

-- what a change of the holder leaves as it was: what is owed, the revived indices and the entries
pub record KeepsOwed (before behind : Holder) : Type 0 where
  pub owed : behind.owed ≡ before.owed
  pub revived : behind.revived ≡ before.revived
  pub entries : behind.entries ≡ before.entries

pub keeps_stays : (conf : Config) (change : Holder → Holder)
    → ((holder : Holder) → KeepsOwed holder (change holder)) → (turn : Option Holder)
    → conf.turn ≡ turn → HasReferences conf → TurnStays conf (option_map change turn)
keeps_stays conf change keeps None is sound = record {
  owed = λ i. rw is refl;
  revived = λ i revived some. subst (λ (one : Option Holder). is_revived one i ≡ true) is revived;
  fresh = λ holder i held acted revived. absurd (let never : ⊥ = cc in never);
}
keeps_stays conf change keeps (Some before) is sound = record {
  owed = λ i. ap (λ (amounts : ℕ → ℕ). amounts i) (keeps before).owed ∙ sym (ap (λ (one : Option Holder). owed_at one i) is);
  revived = λ i revived some. ap (λ (list : List ℕ). list_any (is_that_index i) list) (keeps before).revived ∙ subst (λ (one : Option Holder). is_revived one i ≡ true) is revived;
  fresh = λ holder i held acted revived. let same : change before ≡ holder = cc in let entries : before.entries ≡ holder.entries = sym (keeps before).entries ∙ ap (λ (one : Holder). one.entries) same in let indices : before.revived ≡ holder.revived = sym (keeps before).revived ∙ ap (λ (one : Holder). one.revived) same in sound.placed.fresh before i is (ap (λ (list : List Entry). list_any is_acted list) entries ∙ acted) (ap (λ (list : List ℕ). list_any (is_that_index i) list) indices ∙ revived);
}

-- a scan keeps sound references
pub scan_keeps : (conf : Config) (of : ℕ) → HasReferences conf → HasReferences (scanned conf of)
scan_keeps conf of sound =
    turn_sound conf (option_map (with_scan of (conf.counter of)) conf.turn) (keeps_stays conf (with_scan of (conf.counter of)) (λ holder. record { owed = refl; revived = refl; entries = refl }) conf.turn refl sound) sound

-- Free before the act

pub quit_owed : (conf : Config) (holder : Holder) (i : ℕ) → conf.turn ≡ Some holder
    → holder.owed i ≡ 0 → owed_at conf.turn i ≡ 0
quit_owed conf holder i is none =
    ap (λ (one : Option Holder). owed_at one i) is ∙ none

quit_stays : (conf : Config) (at : ℕ) → MayQuit conf at → TurnStays conf None
quit_stays conf at may = record {
  owed = λ i. sym (quit_owed conf may.holder i may.has_turn.turn (may.owes_nothing i));
  revived = λ i revived some. let none : owed_at conf.turn i ≡ 0 = quit_owed conf may.holder i may.has_turn.turn (may.owes_nothing i) in absurd (omega (arith, none, some));
  fresh = λ holder i held acted revived. absurd (let never : ⊥ = cc in never);
}

-- a turn that is given back before its act keeps sound references
pub quit_keeps : (conf : Config) (at : ℕ) → HasReferences conf → MayQuit conf at
    → HasReferences (quit conf)
quit_keeps conf at sound may = turn_sound conf None (quit_stays conf at may) sound
