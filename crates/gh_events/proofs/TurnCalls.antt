-- The events of the turn that leave the history keep sound calls.
use Rattle.std.proofs.Common.{◌≡◌, ◌==◌, ◌+◌, ◌∙◌, ◌⊎◌, inl, inr, ℕ, Bool, true, false, not, List, [], ◌++◌, refl, subst, sym, ap, Option, Some, None, is_some, option_map, if◌then◌else◌}
use Rattle.std.specs.Prelude.{◌&&◌}
use Rattle.gh_model.specs.History as history
use Rattle.std.specs.List.{list_any}
use Rattle.gh_model.specs.Legal.{CallIs, EntryIs, GoesOn, IsEndOf, IsNumbered, is_part}
use Rattle.gh_model.specs.Marks.{InTurn, Made, Seen}
use Rattle.gh_model.specs.declared.entry.Entry.{Entry}
use Rattle.gh_model.specs.declared.entry.Entry.TheVariants.{Acted, Part, Retired, Reclaimed}
use Rattle.gh_model.specs.declared.rows.ObjectRow.{ObjectRow}
use Rattle.gh_model.specs.declared.state.State.{State}
use Rattle.gh_events.specs.Calls.{CpuCalls, CurrentIs, DeathIs, HasCalls, IsActing, Waits, acted_call, as_made, calls_in, calls_of, last_ending, stands_open}
use Rattle.gh_events.specs.Config.{AtAct, Config, Cpu, Current, Holder, IsIn, is_acted, object_at, present, seen_index}

-- the CPU of the holder and its entries in this turn
pub record Seat : Type 0 where
  pub cpu : ℕ
  pub entries : List Entry

abbrev pub seat : Holder → Seat
seat holder = record { cpu = holder.cpu; entries = holder.entries }

abbrev pub seat_of : Option Holder → Option Seat
seat_of turn = option_map seat turn

-- the words of indices and what the holder keeps changed
abbrev pub with_words : Config → Option Holder → (ℕ → ℕ) → (ℕ → Bool) → Config
with_words conf turn count dead =
    record conf { turn = turn; count = count; dead = dead }

-- what such an event needs: the holder and its entries stay, and no word of a live object comes to
-- life
pub record WordsMove (conf : Config) (turn : Option Holder) (dead : ℕ → Bool) : Type 0 where
  pub same : seat_of turn ≡ seat_of conf.turn
  pub dies : (at : ℕ) (row : ObjectRow) → object_at (present conf) conf.index at ≡ Some row
      → conf.dead (conf.index row.serial.0) ≡ true → dead (conf.index row.serial.0) ≡ true

-- a holder with the same seat
record WasHolder (old : Option Holder) (holder : Holder) : Type 0 where
  before : Holder
  turn_was : old ≡ Some before
  same : seat holder ≡ seat before

same_seats : (one other : Holder) → Some (seat one) ≡ Some (seat other) → seat one ≡ seat other
same_seats one other is = cc

-- the act that is committed depends on the holder's CPU and its entries alone
acted_same : (boot : State) (events : List history.Event) (new old : Option Holder) (at : ℕ)
    (current : Option Current) → seat_of new ≡ seat_of old
    → acted_call boot events new at current ≡ acted_call boot events old at current
acted_same boot events new old at None same = refl
acted_same boot events None None at (Some call) same = refl
acted_same boot events None (Some holder) at (Some call) same = absurd (let never : ⊥ = cc in never)
acted_same boot events (Some holder) None at (Some call) same = absurd (let never : ⊥ = cc in never)
acted_same boot events (Some new) (Some old) at (Some call) same =
    ap (λ (one : Seat). if (one.cpu == at) && list_any is_acted one.entries then as_made at call (last_ending boot events at call) else [])
    (same_seats new old same)

-- a killed object stays so while its word is dead
killed_by : (retired old new : Bool) → (old ≡ true → new ≡ true)
    → (if retired then false else old) ≡ true → (if retired then false else new) ≡ true
killed_by true old new dies killed = absurd (let never : ⊥ = cc in never)
killed_by false old new dies killed = dies killed

module _ (conf : Config) (turn : Option Holder) (count : ℕ → ℕ) (dead : ℕ → Bool)
    (moves : WordsMove conf turn dead) (sound : HasCalls conf) where
  death_stays : (seen : Seen) → DeathIs conf.boot conf.history conf.index conf.dead seen
      → DeathIs conf.boot conf.history conf.index dead seen
  death_stays seen (inl behind) = inl behind
  death_stays seen (inr killed) = inr record {
    row = killed.row;
    lives_there = killed.lives_there;
    is_that = killed.is_that;
    killed = killed_by (is_some killed.row.retired) (conf.dead (conf.index killed.row.serial.0)) (dead (conf.index killed.row.serial.0))
        (moves.dies (seen_index seen) killed.row killed.lives_there) killed.killed;
  }

  current_stays : (at : ℕ) (cpu : Cpu) (call : Current)
      → CurrentIs conf.boot conf.history conf.index conf.dead at cpu call
      → CurrentIs conf.boot conf.history conf.index dead at cpu call
  current_stays at cpu call now = record {
    follows = now.follows;
    section = now.section;
    looks = now.looks;
    came = now.came;
    looked = now.looked;
    needs = now.needs;
    pinned = now.pinned;
    dies = λ seen dying last. death_stays seen (now.dies seen dying last);
  }

  calls_same : (at : ℕ) → calls_of conf.boot conf.history turn at (conf.cpu at) ≡ calls_in conf at
  calls_same at =
      ap (λ (more : List Made). (conf.cpu at).made ++ more)
      (acted_same conf.boot conf.history turn conf.turn at (conf.cpu at).current moves.same)

  calls_stay : (at : ℕ) → CpuCalls conf.boot conf.history conf.index dead (calls_of conf.boot conf.history turn at (conf.cpu at)) at (conf.cpu at)
  calls_stay at = record {
    finished = subst (λ (calls : List Made). InTurn (CallIs conf.boot conf.history at) calls) (sym (calls_same at)) (sound.calls at).finished;
    numbered = subst (λ (calls : List Made). InTurn IsNumbered calls) (sym (calls_same at)) (sound.calls at).numbered;
    current = λ call is. current_stays at (conf.cpu at) call ((sound.calls at).current call is);
    next = (sound.calls at).next;
    idle = (sound.calls at).idle;
  }

  -- the holder that was there before
  was_holder : (old : Option Holder) (holder : Holder) → seat_of (Some holder) ≡ seat_of old
      → WasHolder old holder
  was_holder None holder same = absurd (let never : ⊥ = cc in never)
  was_holder (Some before) holder same =
      record { before = before; turn_was = refl; same = same_seats holder before same }

  held : (holder : Holder) → turn ≡ Some holder → WasHolder conf.turn holder
  held holder is =
      was_holder conf.turn holder (subst (λ (one : Option Holder). seat_of one ≡ seat_of conf.turn) is moves.same)

  acting_stays : (holder : Holder) → turn ≡ Some holder → IsActing conf.cpu holder
  acting_stays holder is =
      let was : WasHolder conf.turn holder = held holder is in
      let before : IsActing conf.cpu was.before = sound.entries.acting was.before was.turn_was in
      record {
        call = before.call;
        in_act = subst (λ (n : ℕ). IsIn (conf.cpu n) before.call AtAct) (sym (ap (λ (one : Seat). one.cpu) was.same)) before.in_act;
      }

  entry_stays : (n : ℕ) (event : history.Event) (entry : Entry)
      → EntryIs conf.boot conf.history (calls_in conf) n event entry
      → EntryIs conf.boot conf.history (calls_in (with_words conf turn count dead)) n event entry
  entry_stays n event (Acted of number) is =
      subst (λ (calls : List Made). IsEndOf calls number (n + 1)) (sym (calls_same of.0)) is
  entry_stays n event (Part of number space slot) is = is
  entry_stays n event (Retired serial seen) is = is
  entry_stays n event (Reclaimed serial seen) is = is

  -- the new holder in the place of the old one
  waits_by : (new : Option Holder) (n : ℕ) (event : history.Event)
      → seat_of new ≡ seat_of conf.turn → Waits conf.history conf.turn conf.cpu n event
      → Waits conf.history new conf.cpu n event
  waits_by None n event same waits =
      let old : conf.turn ≡ Some waits.holder = waits.has_turn in
      let none : seat_of None ≡ seat_of (Some waits.holder) = same ∙ ap seat_of old in
      absurd (let never : ⊥ = cc in never)
  waits_by (Some holder) n event same waits =
      let seats : seat holder ≡ seat waits.holder = same_seats holder waits.holder (same ∙ ap seat_of waits.has_turn) in
      record {
        last = waits.last;
        holder = holder;
        call = waits.call;
        has_turn = refl;
        in_act = subst (λ (n : ℕ). IsIn (conf.cpu n) waits.call AtAct) (sym (ap (λ (one : Seat). one.cpu) seats)) waits.in_act;
        not_acted = ap (λ (one : Seat). list_any is_acted one.entries) seats ∙ waits.not_acted;
        parts = ap (λ (one : Seat). list_any is_part one.entries) seats ∙ waits.parts;
        caller = waits.caller ∙ ap (λ (one : Seat). Some (one.cpu, waits.call.given.number)) (sym seats);
        is_its = waits.is_its;
      }

  part_stays : (n : ℕ) (event : history.Event)
      → GoesOn conf.boot conf.history n event ⊎ Waits conf.history conf.turn conf.cpu n event
      → GoesOn conf.boot conf.history n event ⊎ Waits conf.history turn conf.cpu n event
  part_stays n event (inl on) = inl on
  part_stays n event (inr waits) = inr (waits_by turn n event moves.same waits)

  open_same : (new old : Option Holder) → seat_of new ≡ seat_of old → stands_open new ≡ stands_open old
  open_same None None same = refl
  open_same None (Some holder) same = absurd (let never : ⊥ = cc in never)
  open_same (Some holder) None same = absurd (let never : ⊥ = cc in never)
  open_same (Some new) (Some old) same =
      ap (λ (one : Seat). list_any is_part one.entries && not (list_any is_acted one.entries)) (same_seats new old same)

  -- the calls stay sound
  pub words_sound : HasCalls (with_words conf turn count dead)
  words_sound = record {
    calls = calls_stay;
    counters = sound.counters;
    entries = record {
      acting = acting_stays;
      entries = λ n event is. entry_stays n event event.entry (sound.entries.entries n event is);
      parts = λ n event is part. part_stays n event (sound.entries.parts n event is part);
      untaken = λ closed. sound.entries.untaken (sym (open_same turn conf.turn moves.same) ∙ closed);
      unreferenced = sound.entries.unreferenced;
      deaths = λ cpu i made seen is end last. death_stays seen (sound.entries.deaths cpu i made seen is end last);
    };
  }
