-- A value of so many digits has room for one more.
use Rattle.std.proofs.Common.{arith}
use Rattle.gh_model.proofs.NumeralLemmas.{room_for_digit}
use Rattle.gh_model.proofs.numeral.digits.Goals as goal

pub overflow_mul-number : goal.overflow_mul-number
overflow_mul-number c =
    omega (arith, room_for_digit c.loop-byte.number c.loop-byte.byte-index c.args.radix c.loop-byte.invariant.within (omega arith) c.requires.radix)

pub overflow_add-number : goal.overflow_add-number
overflow_add-number c =
    omega (arith, room_for_digit c.loop-byte.number c.loop-byte.byte-index c.args.radix c.loop-byte.invariant.within (omega arith) c.requires.radix)
