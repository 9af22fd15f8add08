-- The three modes: cipher block i of an image, and plain block i of cipher blocks.
-- E is enciphering and D deciphering; the last block of counter and feedback may be short.
use Rattle.std.specs.Prelude.{◌≡◌, ℕ, zero, suc, ◌+◌, ◌-◌, ◌/◌, ◌⊎◌, List, [], ◌++◌, length}
use Rattle.blocks.specs.Bytes.{block, xored}
use Rattle.blocks.specs.Ciphers.{BlockMap}
use Rattle.modes.specs.declared.mode.Mode.{Mode}
use Rattle.modes.specs.declared.mode.Mode.TheVariants.{Codebook, Counter, Feedback}
use Rattle.modes.specs.Counters.{counters}

-- a cipher with its key, a mode, and a sync of a block's length, which codebook does not read
pub record Chaining : Type 0 where
  pub cipher : BlockMap
  pub mode : Mode
  pub sync : List ℕ

abbrev pub size : Chaining → ℕ
size w = w.cipher.size

-- gamma i of counter mode: (Y, Z) is the sync enciphered, and the counters of i are enciphered
unfoldable pub gamma : (List ℕ → List ℕ) → List ℕ → ℕ → List ℕ
gamma E sync i = E (counters (E sync) i)

-- what feedback enciphers for block i: the cipher block before it, for block 0 the sync
abbrev pub before : List ℕ → (ℕ → List ℕ) → ℕ → List ℕ
before sync blocks zero = sync
before sync blocks (suc i) = blocks i

-- cipher block i of an image in feedback
abbrev pub fed : BlockMap → List ℕ → List ℕ → ℕ → List ℕ
fed c sync image zero = xored (block c.size zero image) (c.enciphered sync)
fed c sync image (suc i) = xored (block c.size (suc i) image) (c.enciphered (fed c sync image i))

-- cipher block i of an image
abbrev pub cipher_by : Mode → BlockMap → List ℕ → List ℕ → ℕ → List ℕ
cipher_by Codebook c sync image i = c.enciphered (block c.size i image)
cipher_by Counter c sync image i = xored (block c.size i image) (gamma c.enciphered sync i)
cipher_by Feedback c sync image i = fed c sync image i

-- plain block i of cipher blocks
abbrev pub plain_by : Mode → BlockMap → List ℕ → (ℕ → List ℕ) → ℕ → List ℕ
plain_by Codebook c sync blocks i = c.deciphered (blocks i)
plain_by Counter c sync blocks i = xored (blocks i) (gamma c.enciphered sync i)
plain_by Feedback c sync blocks i = xored (blocks i) (c.enciphered (before sync blocks i))

-- plain block i depends on cipher block k
abbrev pub Depends : Mode → ℕ → ℕ → Type 0
Depends Codebook i k = k ≡ i
Depends Counter i k = k ≡ i
Depends Feedback i k = (k ≡ i) ⊎ (suc k ≡ i)

abbrev pub cipher_block : Chaining → List ℕ → ℕ → List ℕ
cipher_block w image i = cipher_by w.mode w.cipher w.sync image i

abbrev pub plain_block : Chaining → (ℕ → List ℕ) → ℕ → List ℕ
plain_block w blocks i = plain_by w.mode w.cipher w.sync blocks i

-- how many blocks a text of so many bytes has
abbrev pub block_count : ℕ → ℕ → ℕ
block_count n bytes = (bytes + n - 1) / n

-- m blocks from block k on, one after the other
abbrev pub joined : (ℕ → List ℕ) → ℕ → ℕ → List ℕ
joined f k zero = []
joined f k (suc m) = f k ++ joined f (suc k) m

-- the body made from an image, and the image made from a body
unfoldable pub enciphered : Chaining → List ℕ → List ℕ
enciphered w image = joined (cipher_block w image) 0 (block_count (size w) (length image))

unfoldable pub deciphered : Chaining → List ℕ → List ℕ
deciphered w body = joined (plain_block w (λ k. block (size w) k body)) 0 (block_count (size w) (length body))
