-- Laws of the modes, in the subject's words.
use Rattle.std.specs.Prelude.{◌≡◌, ℕ, suc, ◌+◌, ◌*◌, ◌/◌, ◌%◌, ◌^◌, ◌<◌, ◌≤◌, ◌≢◌, List, length, slice_index}
use Rattle.blocks.specs.Bytes.{Bytes, Block, block}
use Rattle.blocks.specs.Ciphers.{Lawful}
use Rattle.modes.specs.declared.mode.Mode.TheVariants.{Codebook, Counter, Feedback}
use Rattle.modes.specs.Modes.{Chaining, size, block_count, Depends, cipher_block, plain_block, enciphered, deciphered}

-- the cipher keeps its law, the sync is a block, counter has blocks of eight bytes, and codebook whole blocks only
pub record Sound (w : Chaining) (bytes : ℕ) : Type 0 where
  pub lawful : Lawful w.cipher
  pub start : Block (size w) w.sync
  pub eight : w.mode ≡ Counter → size w ≡ 8
  pub whole : w.mode ≡ Codebook → bytes % size w ≡ 0

abbrev pub Text : ℕ → List ℕ → Type 0
Text bytes text = (length text ≡ bytes) × Bytes text

-- deciphering undoes enciphering, block by block and whole, and enciphering undoes deciphering
pub record Undo (w : Chaining) (bytes : ℕ) : Type 0 where
  pub body : (image : List ℕ) → Text bytes image → Text bytes (enciphered w image)
  pub blocks : (image : List ℕ) → Text bytes image → (k : ℕ) → k < block_count (size w) bytes → block (size w) k (enciphered w image) ≡ cipher_block w image k
  pub back : (image : List ℕ) → Text bytes image → (i : ℕ) → i < block_count (size w) bytes → plain_block w (λ k. block (size w) k (enciphered w image)) i ≡ block (size w) i image
  pub opens : (image : List ℕ) → Text bytes image → deciphered w (enciphered w image) ≡ image
  pub seals : (body : List ℕ) → Text bytes body → enciphered w (deciphered w body) ≡ body

-- ---- how far an altered cipher block reaches

-- bit k of a byte
abbrev pub bit : ℕ → ℕ → ℕ
bit k x = x / 2 ^ k % 2

-- a and b differ in exactly the bits in which c and d do
pub record SameBits (a b c d : List ℕ) : Type 0 where
  pub only : (p k : ℕ) → bit k (slice_index a p) ≢ bit k (slice_index b p) → bit k (slice_index c p) ≢ bit k (slice_index d p)
  pub all : (p k : ℕ) → bit k (slice_index c p) ≢ bit k (slice_index d p) → bit k (slice_index a p) ≢ bit k (slice_index b p)
  pub long : (length a ≡ length b) × (length c ≡ length d)

-- what was received in place of a block that was sent: as many bytes
abbrev pub InPlace : List ℕ → List ℕ → Type 0
InPlace got sent = (length got ≡ length sent) × Bytes got

-- the image's blocks were sent, and the blocks `got` are deciphered in their place
pub record Reach (w : Chaining) (bytes : ℕ) (image : List ℕ) (got : ℕ → List ℕ) (i : ℕ) : Type 0 where
  -- a block that depends on unaltered ones only is the image's
  pub unaltered : ((k : ℕ) → Depends w.mode i k → got k ≡ cipher_block w image k) → plain_block w got i ≡ block (size w) i image
  -- codebook: an altered block differs
  pub codebook : w.mode ≡ Codebook → got i ≢ cipher_block w image i → plain_block w got i ≢ block (size w) i image
  -- counter: it differs in exactly the altered bits
  pub counter : w.mode ≡ Counter → SameBits (plain_block w got i) (block (size w) i image) (got i) (cipher_block w image i)
  -- feedback: in exactly the altered bits, if the block before is unaltered or there is none
  pub feedback : w.mode ≡ Feedback → ((k : ℕ) → suc k ≡ i → got k ≡ cipher_block w image k) → SameBits (plain_block w got i) (block (size w) i image) (got i) (cipher_block w image i)
  -- feedback: the block after an altered one differs, if it is whole and unaltered
  pub next : w.mode ≡ Feedback → (k : ℕ) → suc k ≡ i → got k ≢ cipher_block w image k → got i ≡ cipher_block w image i → size w * i + size w ≤ bytes → plain_block w got i ≢ block (size w) i image

abbrev pub Reaches : Chaining → ℕ → Type 0
Reaches w bytes =
    (image : List ℕ) → Text bytes image → (got : ℕ → List ℕ) (i : ℕ) → i < block_count (size w) bytes →
    ((k : ℕ) → Depends w.mode i k → InPlace (got k) (cipher_block w image k)) → Reach w bytes image got i
