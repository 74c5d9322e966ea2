-- The value of digits, digit by digit.
use Rattle.std.proofs.Common.{ℕ, ◌+◌, ◌*◌, ◌^◌, ◌<◌, ◌≤◌, arith, lit<}
use Rattle.std.proofs.Math.Nat.{pow-le-pow_right, mul-le-mul_left}
use Rattle.std.proofs.lemmas.Grind.{pow_more}

-- a value of fewer than 16 digits leaves room for one digit more
pub room_for_digit : (value count radix : ℕ) → value < 16 ^ count → count < 16 → radix ≤ 16 → value * radix + 15 < 2 ^ 64
room_for_digit value count radix below few small =
    let most : 16 ^ count ≤ 16 ^ 15 = pow-le-pow_right {n = 16} (lit< tt) {i = count} {j = 15} (omega arith) in
    let bound : value * radix ≤ value * 16 = mul-le-mul_left {m = radix} {n = 16} value small in
    omega arith

-- a digit more multiplies the bound by 16
pub below_with_digit : (value count radix digit : ℕ) → value < 16 ^ count → digit < 16 → radix ≤ 16 → value * radix + digit < 16 ^ (count + 1)
below_with_digit value count radix digit below small few =
    let bound : value * radix ≤ value * 16 = mul-le-mul_left {m = radix} {n = 16} value few in
    rw (pow_more 16 count) (omega arith)
