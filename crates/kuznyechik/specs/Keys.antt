-- Round keys K1 to K10 of a key of 32 bytes.
use Rattle.std.specs.Prelude.{ℕ, zero, suc, ◌+◌, ◌*◌, cond, List, [], ◌∷◌, ◌++◌, length, take, drop, replicate, ◌==◌}
use Rattle.kuznyechik.specs.Steps.{X, L, LSX}

-- the round constant C_i: L of the block whose last byte is i and whose other bytes are 0
unfoldable pub C : ℕ → List ℕ
C i = L (replicate 15 0 ++ i ∷ [])

abbrev pub Pair : Type 0
Pair = List ℕ × List ℕ

-- F[k](a1, a0) = (LSX[k](a1) xor a0, a1)
unfoldable pub F : List ℕ → Pair → Pair
F k (a1, a0) = (X a0 (LSX k a1), a1)

-- F[C_(i+n)] .. F[C_(i+1)]
abbrev pub steps : ℕ → ℕ → Pair → Pair
steps zero i p = p
steps (suc n) i p = steps n (i + 1) (F (C (i + 1)) p)

-- m pairs of round keys, the first given: pair i is followed by F[C_(8i+8)] .. F[C_(8i+1)] of it
abbrev pub pairs : ℕ → ℕ → Pair → List (List ℕ)
pairs zero i p = []
pairs (suc m) i p = p.0 ∷ (p.1 ∷ pairs m (i + 1) (steps 8 (8 * i) p))

-- (K1, K2) is the key, and four pairs follow
unfoldable pub round_keys : List ℕ → List (List ℕ)
round_keys key = pairs 5 0 (take 16 key, drop 16 key)

-- a key of another length than 32 bytes leaves the round keys as they were
abbrev pub spread : List ℕ → List (List ℕ) → List (List ℕ)
spread key was = cond (length key == 32) (round_keys key) was
