-- Laws of the chain.
use Rattle.std.proofs.Common.{◌≡◌, ℕ, zero, suc, ◌+◌, ◌*◌, ◌/◌, ◌%◌, ◌<◌, ◌≤◌, min, List, [], ◌++◌, length, take, drop, sym, refl, ap, ◌∙◌, ap₂, inl, inr, arith, append-nil, length-append, length-drop}
use Rattle.std.proofs.lemmas.Bool.{cases_lt}
use Rattle.std.proofs.lemmas.List.{nil_from_length, take_all, drop-drop, drop_at, take-append-le, drop-append-le}
use Rattle.blocks.specs.Bytes.{block, filled, xored}
use Rattle.imitovstavka.specs.Chain.{chained, absorbed}

-- blocks of two texts, the first in whole blocks
block_first : (xs ys : List ℕ) (i : ℕ) → 8 * i + 8 ≤ length xs → block 8 i (xs ++ ys) ≡ block 8 i xs
block_first xs ys i h =
    let l : 8 * i ≤ length xs = omega arith in
    let k : 8 ≤ length (drop (8 * i) xs) = simp length-drop (omega arith) in
    ap (take 8) (drop-append-le (8 * i) xs ys l) ∙ take-append-le 8 (drop (8 * i) xs) ys k

block_second : (xs ys : List ℕ) (m j : ℕ) → length xs ≡ 8 * m → block 8 (m + j) (xs ++ ys) ≡ block 8 j ys
block_second xs ys m j h =
    let e : 8 * (m + j) ≡ 8 * m + 8 * j = omega arith in
    let d : drop (8 * j) (drop (8 * m) (xs ++ ys)) ≡ drop (8 * m + 8 * j) (xs ++ ys) = drop-drop (8 * j) (8 * m) (xs ++ ys) in
    ap (λ (k : ℕ). take 8 (drop k (xs ++ ys))) e ∙ (ap (take 8) (sym d) ∙ ap (λ (zs : List ℕ). take 8 (drop (8 * j) zs)) (drop_at xs ys (8 * m) h))

module _ (E : List ℕ → List ℕ) (state : List ℕ) (xs ys : List ℕ) where
  chained_first : (i : ℕ) → 8 * i ≤ length xs → chained E state (xs ++ ys) i ≡ chained E state xs i
  chained_first zero h = refl
  chained_first (suc i) h = ap₂ (λ (s b : List ℕ). E (xored s (filled 8 b))) (chained_first i (omega arith)) (block_first xs ys i (omega arith))

  chained_second : (m j : ℕ) → length xs ≡ 8 * m → chained E (chained E state xs m) ys j ≡ chained E state (xs ++ ys) (m + j)
  chained_second m zero h = sym (chained_first m (omega arith)) ∙ ap (chained E state (xs ++ ys)) (omega arith)
  chained_second m (suc j) h =
      let e : m + suc j ≡ suc (m + j) = omega arith in
      ap₂ (λ (s b : List ℕ). E (xored s (filled 8 b))) (chained_second m j h) (sym (block_second xs ys m j h)) ∙ ap (chained E state (xs ++ ys)) (sym e)

  -- a text in whole blocks, and then another
  pub absorbed-append : length xs % 8 ≡ 0 → absorbed E (absorbed E state xs) ys ≡ absorbed E state (xs ++ ys)
  unfolding absorbed
  absorbed-append h =
      let m : ℕ = length xs / 8 in
      let whole : length xs ≡ 8 * m = omega arith in
      let a : (length xs + 7) / 8 ≡ m = omega arith in
      let b : (length (xs ++ ys) + 7) / 8 ≡ m + (length ys + 7) / 8 = omega (arith, length-append xs ys) in
      ap (λ (n : ℕ). chained E (chained E state xs n) ys ((length ys + 7) / 8)) a
      ∙ (chained_second m ((length ys + 7) / 8) whole ∙ ap (chained E state (xs ++ ys)) (sym b))

-- a text of one block, and one of none
absorbed_one : (E : List ℕ → List ℕ) (state text : List ℕ) → 0 < length text → length text ≤ 8 → absorbed E state text ≡ E (xored state (filled 8 text))
unfolding absorbed
absorbed_one E state text some short =
    let one : (length text + 7) / 8 ≡ 1 = omega arith in
    rw one (ap (λ (b : List ℕ). E (xored state (filled 8 b))) (take_all 8 text short))

pub absorbed_none : (E : List ℕ → List ℕ) (state text : List ℕ) → length text ≡ 0 → absorbed E state text ≡ state
unfolding absorbed
absorbed_none E state text none =
    let e : (length text + 7) / 8 ≡ 0 = omega arith in ap (chained E state text) e

-- one block more, which is short only where the text ends
pub absorbed_step : (E F : List ℕ → List ℕ) (state after text b rest : List ℕ) → F ≡ E → after ≡ F (xored state (filled 8 b)) →
    text ≡ b ++ rest → length b ≡ min 8 (length text) → 0 < length text → absorbed E after rest ≡ absorbed E state text
absorbed_step E F state after text b rest f a parts size some =
    let sum = ap length parts ∙ length-append b rest in
    let one = absorbed_one E state b (omega arith) (omega arith) in
    let e : after ≡ absorbed E state b = a ∙ rw f (sym one) in
    elim (cases_lt (length text) 8) [
      | inl short ↦
          let none : rest ≡ [] = nil_from_length rest (omega arith) in
          absorbed_none E after rest (omega arith) ∙ (e ∙ rw (parts, none, append-nil))
      | inr long ↦
          let whole : length b % 8 ≡ 0 = omega arith in
          ap (λ (s : List ℕ). absorbed E s rest) e ∙ (absorbed-append E state b rest whole ∙ ap (absorbed E state) (sym parts))
    ]
