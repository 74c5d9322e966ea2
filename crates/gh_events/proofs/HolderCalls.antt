-- The holder's events on words and counters, and a turn that is given back before its act, keep
-- sound calls.
use Rattle.std.proofs.Common.{◌≡◌, ◌==◌, ◌+◌, ◌-◌, ◌∙◌, ◌⊎◌, inl, inr, ℕ, Bool, true, false, List, [], ◌++◌, refl, subst, sym, ap, Option, Some, None, option_map, if◌then◌else◌}
use Rattle.std.specs.Prelude.{◌&&◌}
use Rattle.std.proofs.lemmas.Bool.{eqb-true}
use Rattle.gh_model.specs.History as history
use Rattle.gh_model.specs.Legal.{CallIs, EntryIs, GoesOn, IsEndOf, IsNumbered}
use Rattle.gh_model.specs.Marks.{InTurn, Made}
use Rattle.gh_model.specs.declared.entry.Entry.{Entry}
use Rattle.gh_model.specs.declared.entry.Entry.TheVariants.{Acted, Part, Retired, Reclaimed}
use Rattle.gh_model.specs.declared.rows.ObjectRow.{ObjectRow}
use Rattle.gh_model.specs.declared.state.State.{State}
use Rattle.gh_events.specs.Calls.{HasCalls, Waits, acted_call, calls_in, calls_of}
use Rattle.gh_events.specs.Config.{Config, Current, Holder, has_acted, has_part, is_at, object_at, present, put}
use Rattle.gh_events.specs.HolderEvents.{MayRevive, kill_failed, killed, one_less, one_more, owed, revived, scanned, settled, with_failed, with_revived, with_scan, without_scans}
use Rattle.gh_events.specs.TurnEvents.{MayQuit, quit}
use Rattle.gh_events.proofs.Finding.{found_passes, put_other}
use Rattle.gh_events.proofs.TurnCalls.{seat, seat_of, with_words, words_sound}

-- what the holder keeps changes, and its CPU and entries stay
seat_stays : (change : Holder → Holder) (turn : Option Holder)
    → ((holder : Holder) → seat (change holder) ≡ seat holder)
    → seat_of (option_map change turn) ≡ seat_of turn
seat_stays change None same = refl
seat_stays change (Some holder) same = ap Some (same holder)

-- a scan keeps sound calls
pub scan_keeps_calls : (conf : Config) (of : ℕ) → HasCalls conf → HasCalls (scanned conf of)
scan_keeps_calls conf of sound =
    words_sound conf (option_map (with_scan of (conf.counter of)) conf.turn) conf.count conf.dead record {
      same = seat_stays (with_scan of (conf.counter of)) conf.turn (λ holder. refl);
      dies = λ at row there dead. dead;
    } sound

-- a reference that the holder owes, and one that it settles
pub owe_keeps_calls : (conf : Config) (object : ℕ) → HasCalls conf → HasCalls (owed conf object)
owe_keeps_calls conf object sound =
    words_sound conf (option_map (one_more object) conf.turn) (put conf.count object (conf.count object + 1)) conf.dead record {
      same = seat_stays (one_more object) conf.turn (λ holder. refl);
      dies = λ at row there dead. dead;
    } sound

pub settle_keeps_calls : (conf : Config) (object : ℕ) → HasCalls conf → HasCalls (settled conf object)
settle_keeps_calls conf object sound =
    words_sound conf (option_map (one_less object) conf.turn) (put conf.count object (conf.count object - 1)) conf.dead record {
      same = seat_stays (one_less object) conf.turn (λ holder. refl);
      dies = λ at row there dead. dead;
    } sound

-- Kill

put_true : (dead : ℕ → Bool) (object at : ℕ) → dead at ≡ true → put dead object true at ≡ true
put_true dead object at is =
    by_place (at == object) refl
  where
    by_place : (here : Bool) → (at == object) ≡ here → put dead object true at ≡ true
    by_place true here = rw here refl
    by_place false other = put_other dead object true at other ∙ is

kill_by : (conf : Config) (object : ℕ) (found : Option ObjectRow) → HasCalls conf
    → HasCalls (kill_failed conf object found)
kill_by conf object None sound = sound
kill_by conf object (Some row) sound =
    words_sound conf (option_map (with_failed row.serial.0 (conf.count object)) conf.turn) conf.count conf.dead record {
      same = seat_stays (with_failed row.serial.0 (conf.count object)) conf.turn (λ holder. refl);
      dies = λ at row there dead. dead;
    } sound

kill_either : (none : Bool) (one other : Config) → HasCalls one → HasCalls other
    → HasCalls (if none then one else other)
kill_either true one other first second = first
kill_either false one other first second = second

-- a kill, be it made or not, keeps sound calls
pub kill_keeps_calls : (conf : Config) (object : ℕ) → HasCalls conf → HasCalls (killed conf object)
kill_keeps_calls conf object sound =
    kill_either (conf.count object == 0)
    (with_words conf (option_map without_scans conf.turn) conf.count (put conf.dead object true))
    (kill_failed conf object (object_at (present conf) conf.index object))
    (words_sound conf (option_map without_scans conf.turn) conf.count (put conf.dead object true) record {
      same = seat_stays without_scans conf.turn (λ holder. refl);
      dies = λ at row there dead. put_true conf.dead object (conf.index row.serial.0) dead;
    } sound)
    (kill_by conf object (object_at (present conf) conf.index object) sound)

-- Revive

-- an object doesn't live at an index where none does
lives_elsewhere : (conf : Config) (object at : ℕ) (row : ObjectRow)
    → object_at (present conf) conf.index object ≡ None
    → object_at (present conf) conf.index at ≡ Some row
    → (conf.index row.serial.0 == object) ≡ false
lives_elsewhere conf object at row none there =
    by_place (conf.index row.serial.0 == object) refl
  where
    at_is : conf.index row.serial.0 ≡ at
    at_is = eqb-true (conf.index row.serial.0) at (found_passes (is_at conf.index at) (present conf).objects row there)

    by_place : (here : Bool) → (conf.index row.serial.0 == object) ≡ here → here ≡ false
    by_place false other = refl
    by_place true here =
        let same : at ≡ object = sym at_is ∙ eqb-true (conf.index row.serial.0) object here in
        let found : object_at (present conf) conf.index object ≡ Some row = subst (λ (n : ℕ). object_at (present conf) conf.index n ≡ Some row) same there in
        absurd (let never : ⊥ = cc in never)

-- a new count at an index keeps sound calls
pub revive_keeps_calls : (conf : Config) (at object count : ℕ) → HasCalls conf
    → MayRevive conf at object count → HasCalls (revived conf object count)
revive_keeps_calls conf at object count sound may =
    words_sound conf (option_map (with_revived object count) conf.turn) (put conf.count object count) (put conf.dead object false) record {
      same = seat_stays (with_revived object count) conf.turn (λ holder. refl);
      dies = λ place row there dead.
          put_other conf.dead object false (conf.index row.serial.0) (lives_elsewhere conf object place row may.uninhabited there) ∙ dead;
    } sound

-- Free before the act

and_false : (b c : Bool) → c ≡ false → (b && c) ≡ false
and_false true c none = none
and_false false c none = refl

-- a turn without its act's entry has no act that is committed
pub none_committed : (boot : State) (events : List history.Event) (turn : Option Holder) (at : ℕ)
    (current : Option Current) → ((holder : Holder) → turn ≡ Some holder → has_acted holder ≡ false)
    → acted_call boot events turn at current ≡ []
none_committed boot events turn at None none = refl
none_committed boot events None at (Some call) none = refl
none_committed boot events (Some holder) at (Some call) none =
    rw (and_false (holder.cpu == at) (has_acted holder) (none holder refl)) refl

module _ (conf : Config) (at : ℕ) (sound : HasCalls conf) (may : MayQuit conf at) where
  the_holder : (holder : Holder) → conf.turn ≡ Some holder → may.holder ≡ holder
  the_holder holder is = let same : Some may.holder ≡ Some holder = sym may.has_turn.turn ∙ is in cc

  calls_same : (n : ℕ) → calls_in conf n ≡ calls_of conf.boot conf.history None n (conf.cpu n)
  calls_same n =
      ap (λ (more : List Made). (conf.cpu n).made ++ more)
      (none_committed conf.boot conf.history conf.turn n (conf.cpu n).current
      (λ holder is. ap has_acted (sym (the_holder holder is)) ∙ may.not_acted)
      ∙ sym (none_committed conf.boot conf.history None n (conf.cpu n).current (λ holder is. absurd (let never : ⊥ = cc in never))))

  quit_entry : (n : ℕ) (event : history.Event) (entry : Entry)
      → EntryIs conf.boot conf.history (calls_in conf) n event entry
      → EntryIs conf.boot conf.history (calls_in (quit conf)) n event entry
  quit_entry n event (Acted of number) is =
      subst (λ (calls : List Made). IsEndOf calls number (n + 1)) (calls_same of.0) is
  quit_entry n event (Part of number space slot) is = is
  quit_entry n event (Retired serial seen) is = is
  quit_entry n event (Reclaimed serial seen) is = is

  quit_part : (n : ℕ) (event : history.Event)
      → GoesOn conf.boot conf.history n event ⊎ Waits conf.history conf.turn conf.cpu n event
      → GoesOn conf.boot conf.history n event ⊎ Waits conf.history None conf.cpu n event
  quit_part n event (inl on) = inl on
  quit_part n event (inr waits) =
      let none : has_part waits.holder ≡ false = ap has_part (sym (the_holder waits.holder waits.has_turn)) ∙ may.no_part in
      let some : has_part waits.holder ≡ true = waits.parts in
      absurd (let never : ⊥ = cc in never)

  -- a turn that is given back before its act keeps sound calls
  pub quit_keeps_calls : HasCalls (quit conf)
  quit_keeps_calls = record {
    calls = λ n. record {
      finished = subst (λ (calls : List Made). InTurn (CallIs conf.boot conf.history n) calls) (calls_same n) (sound.calls n).finished;
      numbered = subst (λ (calls : List Made). InTurn IsNumbered calls) (calls_same n) (sound.calls n).numbered;
      current = (sound.calls n).current;
      next = (sound.calls n).next;
      idle = (sound.calls n).idle;
    };
    counters = sound.counters;
    entries = record {
      acting = λ holder is. absurd (let never : ⊥ = cc in never);
      entries = λ n event is. quit_entry n event event.entry (sound.entries.entries n event is);
      parts = λ n event is part. quit_part n event (sound.entries.parts n event is part);
      untaken = λ closed. sound.entries.untaken (rw (may.has_turn.turn, may.no_part) refl);
      unreferenced = sound.entries.unreferenced;
      deaths = sound.entries.deaths;
    };
  }
