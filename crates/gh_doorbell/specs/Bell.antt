-- What callers see of a doorbell: three words of 64 bits.
use Rattle.std.specs.Prelude.{ℕ, bit_and}
use Rattle.std.specs.Int.{bit_not, w64}
use Rattle.gh_base.specs.declared.limits.TheConstants.{NEW_BELL_FLAGS}
use Rattle.gh_base.specs.declared.limits.TheConstants.{NEW_BELL_ENABLE, NEW_BELL_ACK}

-- the flags set, the mask of those that may interrupt, and of those that an interrupt clears
pub record BellWords : Type 0 where
  pub flags : ℕ
  pub enable : ℕ
  pub ack : ℕ

-- after creation and after a reset: no flag, all ones, and 0
abbrev pub new_words : BellWords
new_words = record { flags = NEW_BELL_FLAGS; enable = NEW_BELL_ENABLE; ack = NEW_BELL_ACK }

-- the flags but for those to clear
abbrev pub without : ℕ → ℕ → ℕ
without flags clear = bit_and flags (bit_not w64 clear)
