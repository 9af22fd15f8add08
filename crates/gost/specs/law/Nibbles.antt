-- Substitution nibble by nibble, from the highest row down.
use Rattle.std.proofs.Common.{◌≡◌, ℕ, zero, suc, ◌+◌, ◌*◌, ◌/◌, ◌%◌, ◌^◌, ◌<◌, ◌≤◌, true, [], ◌∷◌, length, get_or, take, sym, ap, ◌∙◌, add-one, arith, pow-add}
use lib.Bits.{bit_and, bit_or}
use Rattle.std.proofs.Math.Nat.{mul-le-mul_left}
use Rattle.std.proofs.lemmas.Nat.{shr-shr, shl_whole, or_comm, or_shifted, shr_below, and_mask}
use Rattle.gost.specs.Tables.{Rows, narrow_rows, substituted}
use Rattle.gost.specs.Rounds.{rotated}
use Rattle.gost.specs.law.Narrow.{row_narrow, rows_narrow, first_row, next_rows}

-- one row more: the nibble at its place
substituted_more : (rows : Rows) (x i : ℕ) → i < length rows →
    substituted (take (suc i) rows) x ≡ substituted (take i rows) x + get_or (get_or rows i []) (x / 2 ^ (4 * i) % 16) 0 * 2 ^ (4 * i)
substituted_more [] x i h = absurd (omega arith)
substituted_more (row ∷ rows) x zero h = let whole : x / 2 ^ 0 ≡ x = omega arith in rw whole (omega arith)
substituted_more (row ∷ rows) x (suc i) h =
    let low = get_or row (x % 16) 0 in
    let part = substituted (take i rows) (x / 16) in
    let f : 4 + 4 * i ≡ 4 * suc i = omega arith in
    let place : x / 16 / 2 ^ (4 * i) ≡ x / 2 ^ (4 * suc i) = shr-shr x 4 (4 * i) ∙ ap (λ (n : ℕ). x / 2 ^ n) f in
    let e = get_or (get_or rows i []) (x / 2 ^ (4 * suc i) % 16) 0 in
    let above : substituted (take (suc i) rows) (x / 16) ≡ part + e * 2 ^ (4 * i)
    = substituted_more rows (x / 16) i (omega arith) ∙ ap (λ (n : ℕ). part + get_or (get_or rows i []) (n % 16) 0 * 2 ^ (4 * i)) place in
    let g : 2 ^ (4 * suc i) ≡ 2 ^ (4 * i) * 16 = ap (λ (n : ℕ). 2 ^ n) (sym f) ∙ (pow-add 2 4 (4 * i) ∙ omega arith) in
    let out : low + 16 * (part + e * 2 ^ (4 * i)) ≡ low + 16 * part + e * (2 ^ (4 * i) * 16) = omega arith in
    ap (λ (n : ℕ). low + 16 * n) above ∙ (out ∙ ap (λ (n : ℕ). low + 16 * part + e * n) (sym g))

-- y is made from the rows below i: one turn of the loop puts the nibble of row i above it
pub row_more : (rows : Rows) (x y e i : ℕ) → narrow_rows rows ≡ true → i < 8 → length rows ≡ 8 →
    (y ≡ substituted (take i rows) x) × (y < 2 ^ (4 * i)) →
    e ≡ get_or (get_or rows i []) (bit_and (x / 2 ^ (4 * i)) 15) 0 →
    (bit_or y ((e * 2 ^ (4 * i)) % 2 ^ 32) ≡ substituted (take (i + 1) rows) x) × (bit_or y ((e * 2 ^ (4 * i)) % 2 ^ 32) < 2 ^ (4 * (i + 1)))
row_more rows x y e i narrow h l inv at =
    let m : bit_and (x / 2 ^ (4 * i)) 15 ≡ x / 2 ^ (4 * i) % 16 = and_mask (x / 2 ^ (4 * i)) 4 in
    let at' : e ≡ get_or (get_or rows i []) (x / 2 ^ (4 * i) % 16) 0 = at ∙ ap (λ (n : ℕ). get_or (get_or rows i []) n 0) m in
    let small : e < 16 = rw at' (rows_narrow rows i (x / 2 ^ (4 * i) % 16) narrow) in
    let w : (e * 2 ^ (4 * i)) % 2 ^ 32 ≡ e * 2 ^ (4 * i) = shl_whole e 4 (4 * i) 32 small (omega arith) in
    let s : bit_or y ((e * 2 ^ (4 * i)) % 2 ^ 32) ≡ e * 2 ^ (4 * i) + y = ap (bit_or y) w ∙ (or_comm y (e * 2 ^ (4 * i)) ∙ or_shifted e (4 * i) y inv.1) in
    let more = substituted_more rows x i (omega arith) in
    let g : 2 ^ (4 * (i + 1)) ≡ 2 ^ (4 * i) * 2 ^ 4 = ap (λ (n : ℕ). 2 ^ n) (omega arith) ∙ pow-add 2 (4 * i) 4 in
    let most : 2 ^ (4 * i) * e ≤ 2 ^ (4 * i) * 15 = mul-le-mul_left (2 ^ (4 * i)) (omega arith) in
    let below : y < 2 ^ (4 * i) = inv.1 in (
      s ∙ (ap (λ (n : ℕ). n * 2 ^ (4 * i) + y) at' ∙ rw add-one (omega (arith, more, inv.0))),
      rw (s, g) (omega arith),
    )

-- what the rotation of a word by shifts gives
pub rotated_or : (v : ℕ) → v < 2 ^ 32 → bit_or ((v * 2 ^ 11) % 2 ^ 32) (v / 2 ^ 21) ≡ rotated v
rotated_or v h =
    let e : v * 2 ^ 11 % 2 ^ 32 ≡ v % 2 ^ 21 * 2 ^ 11 = omega arith in
    rw e (or_shifted (v % 2 ^ 21) 11 (v / 2 ^ 21) (shr_below v 11 21 h))

-- a table of m rows gives numbers of 4 * m bits
pub substituted_lt : (rows : Rows) (x : ℕ) → narrow_rows rows ≡ true → substituted rows x < 2 ^ (4 * length rows)
substituted_lt [] x narrow = omega arith
substituted_lt (row ∷ rows) x narrow =
    let h : get_or row (x % 16) 0 < 16 = row_narrow row (x % 16) (first_row row rows narrow) in
    let i : substituted rows (x / 16) < 2 ^ (4 * length rows) = substituted_lt rows (x / 16) (next_rows row rows narrow) in
    let e : 4 * suc (length rows) ≡ 4 * length rows + 4 = omega arith in
    let p : 2 ^ (4 * suc (length rows)) ≡ 2 ^ (4 * length rows) * 2 ^ 4 = ap (λ (n : ℕ). 2 ^ n) e ∙ pow-add 2 (4 * length rows) 4 in
    rw p (omega arith)
