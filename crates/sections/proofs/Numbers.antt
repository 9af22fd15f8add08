-- Numbers read from bytes, and pages counted.
use Rattle.std.proofs.Common.{◌≡◌, ℕ, ◌+◌, ◌-◌, ◌*◌, ◌/◌, ◌<◌, ◌≤◌, List, [], ◌∷◌, length, take, drop, w16, w32, w64, ap, ◌∙◌, subst, arith, length-take, length-drop}
use Rattle.std.specs.Int.{from_le_bytes, div_ceil}
use Rattle.std.proofs.lemmas.Grind.{div_ceil_times}
use Rattle.std.proofs.Math.Nat.{lt-div-mul-add, div-mul-le_self, lt_of_mul-lt-mul_right}
use Rattle.blocks.specs.Bytes.{word}
use Rattle.blocks.proofs.Spelled.{spelled_all}
use Rattle.sections.specs.Entries.{number}

two : (a b : ℕ) → from_le_bytes w16 (a ∷ b ∷ []) ≡ word (a ∷ b ∷ [])
two a b = omega arith

four : (a b c d : ℕ) → from_le_bytes w32 (a ∷ b ∷ c ∷ d ∷ []) ≡ word (a ∷ b ∷ c ∷ d ∷ [])
four a b c d = omega arith

eight : (a b c d e f g h : ℕ) → from_le_bytes w64 (a ∷ b ∷ c ∷ d ∷ e ∷ f ∷ g ∷ h ∷ []) ≡ word (a ∷ b ∷ c ∷ d ∷ e ∷ f ∷ g ∷ h ∷ [])
eight a b c d e f g h = omega arith

pub two_at : (p bs : List ℕ) (i : ℕ) → i + 2 ≤ length bs → p ≡ take 2 (drop i bs) → from_le_bytes w16 p ≡ number 2 i bs
two_at p bs i h e =
    let long : length p ≡ 2 = omega (arith, ap length e, length-take 2 (drop i bs), length-drop i bs) in
    subst (λ (x : List ℕ). from_le_bytes w16 x ≡ word x) (spelled_all 2 p long) (two _ _) ∙ ap word e

pub four_at : (p bs : List ℕ) (i : ℕ) → i + 4 ≤ length bs → p ≡ take 4 (drop i bs) → from_le_bytes w32 p ≡ number 4 i bs
four_at p bs i h e =
    let long : length p ≡ 4 = omega (arith, ap length e, length-take 4 (drop i bs), length-drop i bs) in
    subst (λ (x : List ℕ). from_le_bytes w32 x ≡ word x) (spelled_all 4 p long) (four _ _ _ _) ∙ ap word e

pub eight_at : (p bs : List ℕ) (i : ℕ) → i + 8 ≤ length bs → p ≡ take 8 (drop i bs) → from_le_bytes w64 p ≡ number 8 i bs
eight_at p bs i h e =
    let long : length p ≡ 8 = omega (arith, ap length e, length-take 8 (drop i bs), length-drop i bs) in
    subst (λ (x : List ℕ). from_le_bytes w64 x ≡ word x) (spelled_all 8 p long) (eight _ _ _ _ _ _ _ _) ∙ ap word e

pub pages_are : (n p : ℕ) → 0 < p → div_ceil n p ≡ (n + p - 1) / p
pages_are n p h =
    let c : ℕ = div_ceil n p in
    let q : ℕ = (n + p - 1) / p in
    let b = div_ceil_times n p h in
    let low : n ≤ c * p = b.0 in
    let high : c * p < n + p = b.1 in
    let over : n + p - 1 < q * p + p = lt-div-mul-add h in
    let under : q * p ≤ n + p - 1 = div-mul-le_self (n + p - 1) p in
    let one : q < c + 1 = lt_of_mul-lt-mul_right p {m = q} {n = c + 1} (omega arith) in
    let two : c < q + 1 = lt_of_mul-lt-mul_right p {m = c} {n = q + 1} (omega arith) in
    omega arith
