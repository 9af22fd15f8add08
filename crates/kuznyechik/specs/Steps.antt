-- The transformations of GOST R 34.12-2015 for blocks of 128 bits, under the standard's letters.
-- A block is sixteen bytes a15, a14, .. a0, in that order: a15 is at place 0.
use Rattle.std.specs.Prelude.{ℕ, zero, suc, List, [], ◌∷◌, ◌++◌, map, take, drop, bit_xor, slice_index}
use Rattle.blocks.specs.Bytes.{xored}
use Rattle.kuznyechik.specs.Pi.{pi, pi⁻¹}
use Rattle.kuznyechik.specs.Field.{product}

-- X[k]
unfoldable pub X : List ℕ → List ℕ → List ℕ
X k a = xored a k

-- S puts each byte through Pi'
unfoldable pub S : List ℕ → List ℕ
S a = map (λ b. slice_index pi b) a

unfoldable pub S⁻¹ : List ℕ → List ℕ
S⁻¹ a = map (λ b. slice_index pi⁻¹ b) a

-- the factors of a15, a14, .. a0
unfoldable pub factors : List ℕ
factors = 148 ∷ 32 ∷ 133 ∷ 16 ∷ 194 ∷ 192 ∷ 1 ∷ 251 ∷ 1 ∷ 192 ∷ 194 ∷ 16 ∷ 133 ∷ 32 ∷ 148 ∷ 1 ∷ []

-- the sum of the products of factors and bytes
abbrev pub combined : List ℕ → List ℕ → ℕ
combined [] a = 0
combined (c ∷ cs) [] = 0
combined (c ∷ cs) (b ∷ bs) = bit_xor (product c b) (combined cs bs)

-- l(a15, .. a0)
unfoldable pub ℓ : List ℕ → ℕ
ℓ a = combined factors a

-- R(a) = l(a), a15, .. a1, and its inverse: a14, .. a0, l(a14, .. a0, a15)
unfoldable pub R : List ℕ → List ℕ
R a = ℓ a ∷ take 15 a

unfoldable pub R⁻¹ : List ℕ → List ℕ
R⁻¹ a = drop 1 a ++ ℓ (drop 1 a ++ take 1 a) ∷ []

-- n times
abbrev pub times : ℕ → (List ℕ → List ℕ) → List ℕ → List ℕ
times zero f a = a
times (suc n) f a = times n f (f a)

-- L is R sixteen times
unfoldable pub L : List ℕ → List ℕ
L a = times 16 R a

unfoldable pub L⁻¹ : List ℕ → List ℕ
L⁻¹ a = times 16 R⁻¹ a

-- LSX[k], a round, and what undoes it
unfoldable pub LSX : List ℕ → List ℕ → List ℕ
LSX k a = L (S (X k a))

unfoldable pub XS⁻¹L⁻¹ : List ℕ → List ℕ → List ℕ
XS⁻¹L⁻¹ k a = X k (S⁻¹ (L⁻¹ a))
