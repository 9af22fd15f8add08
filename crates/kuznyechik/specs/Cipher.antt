-- The cipher with the round keys K1 to K10.
use Rattle.std.specs.Prelude.{ℕ, ◌<◌, List, [], ◌∷◌, slice_index, slice_index_or}
use Rattle.blocks.specs.Ciphers.{BlockMap}
use Rattle.kuznyechik.specs.Steps.{X, LSX, XS⁻¹L⁻¹}

-- every number of every round key is a byte
abbrev pub OfBytes : List (List ℕ) → Type 0
OfBytes keys = (i j : ℕ) → slice_index (slice_index_or keys i []) j < 256

-- X[K10] LSX[K9] .. LSX[K1]
abbrev pub enciphered : List (List ℕ) → List ℕ → List ℕ
enciphered [] a = a
enciphered (k ∷ []) a = X k a
enciphered (k ∷ (l ∷ ls)) a = enciphered (l ∷ ls) (LSX k a)

-- X[K1] S⁻¹ L⁻¹ X[K2] .. S⁻¹ L⁻¹ X[K10]
abbrev pub deciphered : List (List ℕ) → List ℕ → List ℕ
deciphered [] a = a
deciphered (k ∷ []) a = X k a
deciphered (k ∷ (l ∷ ls)) a = XS⁻¹L⁻¹ k (deciphered (l ∷ ls) a)

-- the cipher of round keys
abbrev pub kuznyechik : List (List ℕ) → BlockMap
kuznyechik keys = record { size = 16; enciphered = enciphered keys; deciphered = deciphered keys }
