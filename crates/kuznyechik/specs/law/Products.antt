-- Products of bytes.
use Rattle.std.proofs.Common.{◌≡◌, ℕ, zero, suc, ◌*◌, ◌/◌, ◌%◌, ◌<◌, sym, refl, ap, ◌∙◌, ap₂, arith}
use lib.Bits.{bit_xor, xor_assoc, xor_zero_r, xor_lt}
use Rattle.std.proofs.lemmas.Nat.{mul-le}
use Rattle.kuznyechik.specs.Field.{times_x, bits_times, product}

pub bit_times_lt : (c a : ℕ) → a < 256 → c % 2 * a < 256
bit_times_lt c a h = omega (arith, mul-le (c % 2) a 1 255 (omega arith) (omega arith))

pub times_x_lt : (a : ℕ) → a < 256 → times_x a < 256
times_x_lt a h = xor_lt 8 (a % 128 * 2) (a / 128 * 195) (omega arith) (omega arith)

bits_times_lt : (n c a : ℕ) → a < 256 → bits_times n c a < 256
bits_times_lt zero c a h = omega arith
bits_times_lt (suc n) c a h = xor_lt 8 (c % 2 * a) (bits_times n (c / 2) (times_x a)) (bit_times_lt c a h) (bits_times_lt n (c / 2) (times_x a) (times_x_lt a h))

pub product_lt : (c a : ℕ) → a < 256 → product c a < 256
unfolding product
product_lt c a h = bits_times_lt 8 c a h

bits_times_none : (n a : ℕ) → bits_times n 0 a ≡ 0
bits_times_none zero a = refl
bits_times_none (suc n) a = let e : 0 * a ≡ 0 = omega arith in ap₂ bit_xor e (bits_times_none n (times_x a))

pub product_one : (a : ℕ) → product 1 a ≡ a
unfolding product
product_one a = let e : 1 * a ≡ a = omega arith in ap₂ bit_xor e (bits_times_none 7 (times_x a)) ∙ xor_zero_r a

-- one turn of the loop that multiplies: n bits are left
pub bits_times_more : (sum n m c a : ℕ) → n ≡ suc m → bit_xor (bit_xor sum (c % 2 * a)) (bits_times m (c / 2) (times_x a)) ≡ bit_xor sum (bits_times n c a)
bits_times_more sum n m c a e =
    xor_assoc sum (c % 2 * a) (bits_times m (c / 2) (times_x a)) ∙ ap (λ (k : ℕ). bit_xor sum (bits_times k c a)) (sym e)
