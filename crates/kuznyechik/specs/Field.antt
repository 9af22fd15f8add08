-- Bytes as the field GF(2 ^ 8) modulo x ^ 8 + x ^ 7 + x ^ 6 + x + 1: bit i is the coefficient of x ^ i,
-- and the sum is the xor.
use Rattle.std.specs.Prelude.{ℕ, zero, suc, ◌*◌, ◌/◌, ◌%◌, bit_xor}

-- a byte times x: x ^ 8 is x ^ 7 + x ^ 6 + x + 1, which is 195
abbrev pub times_x : ℕ → ℕ
times_x a = bit_xor (a % 128 * 2) (a / 128 * 195)

-- the n lowest bits of c, times a
abbrev pub bits_times : ℕ → ℕ → ℕ → ℕ
bits_times zero c a = 0
bits_times (suc n) c a = bit_xor (c % 2 * a) (bits_times n (c / 2) (times_x a))

-- the product of two bytes
unfoldable pub product : ℕ → ℕ → ℕ
product c a = bits_times 8 c a
