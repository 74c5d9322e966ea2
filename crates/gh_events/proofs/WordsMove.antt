-- An event of the holder that moves words and what is owed there together keeps sound references.
use Rattle.std.proofs.Common.{◌≡◌, ◌+◌, ◌<◌, ℕ, Bool, true, false, Option, Some, slice_get, ap, arith}
use Rattle.gh_base.specs.declared.limits.TheConstants.{OBJECT_INDICES}
use Rattle.gh_model.specs.Marks.{Seen}
use Rattle.gh_model.specs.declared.rows.ObjectRow.{ObjectRow}
use Rattle.gh_events.specs.Config.{Config, Cpu, Current, DeadPin, Holder, IsIn, Pin, present, seen_index}
use Rattle.gh_events.specs.References.{AreCounted, ArePlaced, HasHome, HasReferences, HasGrant, HoldsSoundly, IsGranted, IsPinned, IsRow, grants_at, owed_at, pins_at}

-- the counts, the dead marks and what the holder keeps changed
abbrev pub with_words : Config → (ℕ → ℕ) → (ℕ → Bool) → Option Holder → Config
with_words conf count dead turn = record conf { count = count; dead = dead; turn = turn }

-- a word that isn't dead behind wasn't before, and moved with what is owed there
pub record MovesWith (conf : Config) (count : ℕ → ℕ) (turn : Option Holder) (at : ℕ) : Type 0 where
  pub alive : conf.dead at ≡ false
  pub moved : count at + owed_at conf.turn at ≡ conf.count at + owed_at turn at

-- what such a change needs of words and indices, and of pins
pub record WordsMove (conf : Config) (count : ℕ → ℕ) (dead : ℕ → Bool) (turn : Option Holder)
    : Type 0 where
  pub moves : (row : ObjectRow) → IsRow (present conf) row → dead (conf.index row.serial.0) ≡ false
      → MovesWith conf count turn (conf.index row.serial.0)
  pub homes : (at : ℕ) → at < OBJECT_INDICES → dead at ≡ false
      → HasHome (with_words conf count dead turn) at
  pub dead_counts : (at : ℕ) → at < OBJECT_INDICES → dead at ≡ true
      → count at ≡ pins_at conf.cpu at
  pub placed : ArePlaced (with_words conf count dead turn)
  pub pinned : (cpu i : ℕ) (pin : Pin) → slice_get (conf.cpu cpu).pins i ≡ Some pin
      → dead pin.index ≡ false
  pub dying : (seen : Seen) → conf.dead (seen_index seen) ≡ true → IsGranted conf seen
      → dead (seen_index seen) ≡ true

module _ (conf : Config) (count : ℕ → ℕ) (dead : ℕ → Bool) (turn : Option Holder)
    (move : WordsMove conf count dead turn) (sound : HasReferences conf) where
  words_counted : AreCounted (with_words conf count dead turn)
  words_counted = record {
    counts = λ row is alive. omega (arith, (move.moves row is alive).moved, sound.counted.counts row is (move.moves row is alive).alive);
    homes = move.homes;
    dead_counts = move.dead_counts;
  }

  grant_of : (cpu : Cpu) (call : Current) → IsIn cpu call DeadPin → HasGrant cpu call
  grant_of cpu call is = record { is_current = is.is_current; grants = ap grants_at is.at_stage }

  words_hold : (n : ℕ) → HoldsSoundly (with_words conf count dead turn) (conf.cpu n)
  words_hold n = record {
    pinned = λ i pin is. let before : IsPinned conf pin = (sound.holds n).pinned i pin is in record { row = before.row; lives_there = before.lives_there; is_that = before.is_that; alive = move.pinned n i pin is };
    granted = λ call seen now last. let before : IsGranted conf seen = (sound.holds n).granted call seen now last in record { row = before.row; lives_there = before.lives_there; is_that = before.is_that };
    dying = λ call seen now last. move.dying seen ((sound.holds n).dying call seen now last) ((sound.holds n).granted call seen (grant_of (conf.cpu n) call now) last);
  }

  -- the references stay sound
  pub words_sound : HasReferences (with_words conf count dead turn)
  words_sound = record {
    counted = words_counted;
    placed = move.placed;
    holds = words_hold;
    seats = sound.seats;
  }
