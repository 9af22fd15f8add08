-- An imitovstavka of l bits is below 2 to the l.
use Rattle.std.proofs.Common.{◌≡◌, ℕ, zero, suc, ◌+◌, ◌-◌, ◌*◌, ◌/◌, ◌^◌, ◌<◌, ◌≤◌, List, length, sym, ap, ◌∙◌, subst, arith, pow_pos, pow-add}
use Rattle.std.proofs.lemmas.Nat.{div_below}
use Rattle.blocks.specs.Bytes.{bytes_of, block, filled, xored}
use Rattle.blocks.proofs.Words.{word_lt, bytes_of_bytes}
use Rattle.gost.specs.Tables.{Rows}
use Rattle.gost.specs.Rounds.{rounds, twice}
use Rattle.gost.specs.Cipher.{registers, block_of, sixteen}
use Rattle.imitovstavka.specs.Chain.{chained, absorbed, start, imitovstavka}

-- N1 of a block that came out of the rounds, or of zeros
n1_below : (rows : Rows) (key text : List ℕ) (m : ℕ) → (registers (chained (sixteen rows key) start text m)).n1 < 4294967296
unfolding registers sixteen block_of
n1_below rows key text zero = omega arith
n1_below rows key text (suc m) =
    let x : ℕ = (rounds rows (twice key) (registers (xored (chained (sixteen rows key) start text m) (filled 8 (block 8 m text))))).n1 in
    word_lt (bytes_of 4 x) (bytes_of_bytes 4 x)

pub tag_below : (rows : Rows) (key text : List ℕ) (l : ℕ) → l ≤ 32 → imitovstavka rows key l text < 2 ^ l
unfolding imitovstavka absorbed
tag_below rows key text l h =
    let x : ℕ = (registers (chained (sixteen rows key) start text ((length text + 7) / 8))).n1 in
    let e : l + (32 - l) ≡ 32 = omega arith in
    let whole : 2 ^ l * 2 ^ (32 - l) ≡ 4294967296 = sym (pow-add 2 l (32 - l)) ∙ ap (λ (n : ℕ). 2 ^ n) e in
    let low : x < 4294967296 = n1_below rows key text ((length text + 7) / 8) in
    div_below x (2 ^ (32 - l)) (2 ^ l) (pow_pos (32 - l)) (subst (λ (n : ℕ). x < n) (sym whole) low)
