-- Bytes, words and blocks, as lists of numbers.
use Rattle.std.specs.Prelude.{◌≡◌, ℕ, zero, suc, ◌+◌, ◌*◌, ◌/◌, ◌%◌, ◌<◌, List, [], ◌∷◌, ◌++◌, length, take, drop, replicate, bit_xor}
use Rattle.std.specs.List.{AllByRecursion}

-- every number is a byte
abbrev pub Bytes : List ℕ → Type 0
Bytes bs = AllByRecursion (λ b. b < 256) bs

-- a block of n bytes
abbrev pub Block : ℕ → List ℕ → Type 0
Block n bs = (length bs ≡ n) × Bytes bs

-- the number that bytes write, the lowest first
abbrev pub word : List ℕ → ℕ
word [] = 0
word (b ∷ bs) = b + 256 * word bs

-- the n lowest bytes of a number, the lowest first
abbrev pub bytes_of : ℕ → ℕ → List ℕ
bytes_of zero x = []
bytes_of (suc n) x = x % 256 ∷ bytes_of n (x / 256)

-- m words of four bytes each, in turn
abbrev pub words : ℕ → List ℕ → List ℕ
words zero bs = []
words (suc m) bs = word (take 4 bs) ∷ words m (drop 4 bs)

-- block i of a text in blocks of n; the last one may be short
abbrev pub block : ℕ → ℕ → List ℕ → List ℕ
block n i text = take n (drop (n * i) text)

-- a block filled up with zeros to n bytes
abbrev pub filled : ℕ → List ℕ → List ℕ
filled n bs = take n (bs ++ replicate n 0)

-- byte by byte, as long as the first
abbrev pub xored : List ℕ → List ℕ → List ℕ
xored [] ys = []
xored (x ∷ xs) [] = x ∷ xs
xored (x ∷ xs) (y ∷ ys) = bit_xor x y ∷ xored xs ys
