-- Deciphering undoes enciphering, and enciphering undoes deciphering, in each mode.
use Rattle.std.proofs.Common.{◌≡◌, ℕ, zero, suc, ◌+◌, ◌-◌, ◌*◌, ◌%◌, ◌<◌, ◌≤◌, min, List, length, take, drop, sym, refl, ap, ◌∙◌, subst, ap₂, inl, inr, ⊎_elim, mul-zero, arith}
use Rattle.std.proofs.ByRecursion.{All-append}
use Rattle.blocks.specs.Bytes.{Bytes, Block, block, xored, bytes_of, word}
use Rattle.blocks.specs.Ciphers.{BlockMap, Lawful}
use Rattle.blocks.proofs.Words.{bytes_of_bytes}
use Rattle.blocks.proofs.Xors.{xored-length, xored_bytes, xored_undo}
use Rattle.modes.specs.declared.mode.Mode.{Mode}
use Rattle.modes.specs.declared.mode.Mode.TheVariants.{Codebook, Counter, Feedback}
use Rattle.modes.specs.Counters.{counters, third, fourth}
use Rattle.modes.specs.Modes.{Chaining, size, gamma, before, fed, cipher_by, plain_by, Depends, cipher_block, plain_block, block_count, joined, enciphered, deciphered}
use Rattle.modes.specs.Laws.{Sound, Text, Undo}
use Rattle.modes.proofs.Joined.{count_enough, count_tight, length-block, bytes_block, whole_before, whole_all, blocks_all, joined_same, joined_bytes, joined_long, joined_at}

pub depends_le : (mode : Mode) (i k : ℕ) → Depends mode i k → k ≤ i
depends_le Codebook i k d = omega arith
depends_le Counter i k d = omega arith
depends_le Feedback i k d = ⊎_elim (λ e. omega arith) (λ e. omega arith) d

before_same : (sync : List ℕ) (f g : ℕ → List ℕ) (i : ℕ) → ((k : ℕ) → suc k ≡ i → f k ≡ g k) → before sync f i ≡ before sync g i
before_same sync f g zero h = refl
before_same sync f g (suc i) h = h i refl

-- a plain block is made from the blocks that it depends on
pub plain_same : (mode : Mode) (c : BlockMap) (sync : List ℕ) (f g : ℕ → List ℕ) (i : ℕ) → ((k : ℕ) → Depends mode i k → f k ≡ g k) → plain_by mode c sync f i ≡ plain_by mode c sync g i
plain_same Codebook c sync f g i h = ap c.deciphered (h i refl)
plain_same Counter c sync f g i h = ap (λ (x : List ℕ). xored x (gamma c.enciphered sync i)) (h i refl)
plain_same Feedback c sync f g i h = ap₂ (λ (x y : List ℕ). xored x (c.enciphered y)) (h i (inl refl)) (before_same sync f g i (λ k e. h k (inr e)))

pub fed_is : (c : BlockMap) (sync image : List ℕ) (i : ℕ) → fed c sync image i ≡ xored (block c.size i image) (c.enciphered (before sync (fed c sync image) i))
fed_is c sync image zero = refl
fed_is c sync image (suc i) = refl

-- the counters are eight bytes
counters-block : (b : List ℕ) (i : ℕ) → Block 8 (counters b i)
counters-block b i =
    let y = third (word (take 4 b)) i in
    let z = fourth (word (drop 4 b)) i in
    (refl, All-append (λ x. x < 256) (bytes_of 4 y) (bytes_of 4 z) (bytes_of_bytes 4 y) (bytes_of_bytes 4 z))

pub gamma-block : (c : BlockMap) → Lawful c → c.size ≡ 8 → (sync : List ℕ) (i : ℕ) → Block c.size (gamma c.enciphered sync i)
unfolding gamma
gamma-block c law e sync i =
    law.forward.stays (counters (c.enciphered sync) i) (subst (λ (n : ℕ). Block n (counters (c.enciphered sync) i)) (sym e) (counters-block (c.enciphered sync) i))

-- a block has bytes
pub some_size : (c : BlockMap) → Lawful c → 0 < c.size
some_size c law = ⊎_elim (λ e. omega arith) (λ e. omega arith) law.sized

module _ (w : Chaining) (bytes : ℕ) (s : Sound w bytes) where
  abbrev n : ℕ
  n = size w

  abbrev count : ℕ
  count = block_count n bytes

  some : 0 < n
  some = some_size w.cipher s.lawful

  module _ (image : List ℕ) (im : Text bytes image) where
    whole_one : (i : ℕ) → suc i < count → length (block n i image) ≡ n
    whole_one i l = whole_before n image i some (subst (λ (x : ℕ). suc i < block_count n x) (sym im.0) l)

    code_block : bytes % n ≡ 0 → (i : ℕ) → i < count → Block n (block n i image)
    code_block e i l =
        (whole_all n image i some (subst (λ (x : ℕ). x % n ≡ 0) (sym im.0) e) (subst (λ (x : ℕ). i < block_count n x) (sym im.0) l), bytes_block n i image im.1)

    fed_long : (i : ℕ) → length (fed w.cipher w.sync image i) ≡ length (block n i image)
    fed_long i = ap length (fed_is w.cipher w.sync image i) ∙ xored-length (block n i image) _

    fed_bytes : (i : ℕ) → i < count → Bytes (fed w.cipher w.sync image i)
    fed_bytes zero l = xored_bytes (block n zero image) _ (bytes_block n zero image im.1) (s.lawful.forward.stays w.sync s.start).1
    fed_bytes (suc i) l =
        xored_bytes (block n (suc i) image) _ (bytes_block n (suc i) image im.1)
        (s.lawful.forward.stays (fed w.cipher w.sync image i) (fed_long i ∙ whole_one i l, fed_bytes i (omega arith))).1

    pub fed-block : (i : ℕ) → suc i < count → Block n (fed w.cipher w.sync image i)
    fed-block i l = (fed_long i ∙ whole_one i l, fed_bytes i (omega arith))

    -- ---- by the mode
    cipher_long : (mode : Mode) → (mode ≡ Codebook → bytes % n ≡ 0) → (i : ℕ) → i < count → length (cipher_by mode w.cipher w.sync image i) ≡ length (block n i image)
    cipher_long Codebook e i l = (s.lawful.forward.stays (block n i image) (code_block (e refl) i l)).0 ∙ sym (code_block (e refl) i l).0
    cipher_long Counter e i l = xored-length (block n i image) (gamma w.cipher.enciphered w.sync i)
    cipher_long Feedback e i l = fed_long i

    cipher_bytes : (mode : Mode) → (mode ≡ Codebook → bytes % n ≡ 0) → (mode ≡ Counter → n ≡ 8) → (i : ℕ) → i < count → Bytes (cipher_by mode w.cipher w.sync image i)
    cipher_bytes Codebook e g i l = (s.lawful.forward.stays (block n i image) (code_block (e refl) i l)).1
    cipher_bytes Counter e g i l =
        xored_bytes (block n i image) (gamma w.cipher.enciphered w.sync i) (bytes_block n i image im.1) (gamma-block w.cipher s.lawful (g refl) w.sync i).1
    cipher_bytes Feedback e g i l = fed_bytes i l

    plain-cipher : (mode : Mode) → (mode ≡ Codebook → bytes % n ≡ 0) → (i : ℕ) → i < count → plain_by mode w.cipher w.sync (cipher_by mode w.cipher w.sync image) i ≡ block n i image
    plain-cipher Codebook e i l = s.lawful.inverse.back (block n i image) (code_block (e refl) i l)
    plain-cipher Counter e i l = xored_undo (block n i image) (gamma w.cipher.enciphered w.sync i)
    plain-cipher Feedback e i l =
        ap (λ (x : List ℕ). xored x (w.cipher.enciphered (before w.sync (fed w.cipher w.sync image) i))) (fed_is w.cipher w.sync image i)
        ∙ xored_undo (block n i image) (w.cipher.enciphered (before w.sync (fed w.cipher w.sync image) i))

    -- ---- at the section's mode
    pub sent_long : (i : ℕ) → i < count → length (cipher_block w image i) ≡ length (block n i image)
    sent_long = cipher_long w.mode s.whole

    pub plain_sent : (i : ℕ) → i < count → plain_block w (cipher_block w image) i ≡ block n i image
    plain_sent = plain-cipher w.mode s.whole

    block_min : (i : ℕ) → length (block n i image) ≡ min n (bytes - n * i)
    block_min i = length-block n i image ∙ ap (λ (x : ℕ). min n (x - n * i)) im.0

    all_long : (f : ℕ → List ℕ) → ((i : ℕ) → i < count → length (f i) ≡ length (block n i image)) → length (joined f 0 count) ≡ bytes
    all_long f h =
        let e = joined_long n bytes f 0 count (λ i a b. h i (omega arith) ∙ block_min i) in
        omega (arith, e, count_enough n bytes some, mul-zero n)

    all_at : (f : ℕ → List ℕ) → ((i : ℕ) → i < count → length (f i) ≡ length (block n i image)) → (k : ℕ) → k < count → block n k (joined f 0 count) ≡ f k
    all_at f h k l =
        let z : k - 0 ≡ k = omega arith in
        let t : n * (0 + count) < bytes + n = let q : 0 + count ≡ count = omega arith in subst (λ (x : ℕ). n * x < bytes + n) (sym q) (count_tight n bytes some) in
        sym (ap (λ (x : ℕ). block n x (joined f 0 count)) z)
        ∙ joined_at n bytes f 0 count k (λ i a b. h i (omega arith) ∙ block_min i) t (omega arith) (omega arith)

    -- the body, with the count of its own bytes
    pub body_is : enciphered w image ≡ joined (cipher_block w image) 0 count
    unfolding enciphered
    body_is = ap (λ (x : ℕ). joined (cipher_block w image) 0 (block_count n x)) im.0

    body_text : Text bytes (enciphered w image)
    body_text =
        subst (Text bytes) (sym body_is)
        (all_long (cipher_block w image) sent_long, joined_bytes (cipher_block w image) 0 count (λ i a b. cipher_bytes w.mode s.whole s.eight i (omega arith)))

    pub body_block : (k : ℕ) → k < count → block n k (enciphered w image) ≡ cipher_block w image k
    body_block k l = ap (block n k) body_is ∙ all_at (cipher_block w image) sent_long k l

    back_one : (i : ℕ) → i < count → plain_block w (λ k. block n k (enciphered w image)) i ≡ block n i image
    back_one i l =
        plain_same w.mode w.cipher w.sync (λ k. block n k (enciphered w image)) (cipher_block w image) i (λ k d. body_block k (let e = depends_le w.mode i k d in omega arith))
        ∙ plain_sent i l

    opens_all : deciphered w (enciphered w image) ≡ image
    unfolding deciphered
    opens_all =
        ap (λ (x : ℕ). joined (plain_block w (λ k. block n k (enciphered w image))) 0 (block_count n x)) body_text.0
        ∙ (joined_same (plain_block w (λ k. block n k (enciphered w image))) (λ i. block n i image) 0 count (λ i a b. back_one i (omega arith))
        ∙ blocks_all n count image (omega (arith, im.0, count_enough n bytes some)))

    -- ---- enciphering what was deciphered
    abbrev cut : ℕ → List ℕ
    cut k = block n k image

    pub plain_long : (mode : Mode) → (mode ≡ Codebook → bytes % n ≡ 0) → (i : ℕ) → i < count → length (plain_by mode w.cipher w.sync cut i) ≡ length (block n i image)
    plain_long Codebook e i l = (s.lawful.inverse.stays (block n i image) (code_block (e refl) i l)).0 ∙ sym (code_block (e refl) i l).0
    plain_long Counter e i l = xored-length (block n i image) (gamma w.cipher.enciphered w.sync i)
    plain_long Feedback e i l = xored-length (block n i image) _

    fed-plain : (p : List ℕ) → ((i : ℕ) → i < count → block n i p ≡ plain_by Feedback w.cipher w.sync cut i) → (i : ℕ) → i < count → fed w.cipher w.sync p i ≡ block n i image
    fed-plain p h zero l = ap (λ (x : List ℕ). xored x (w.cipher.enciphered w.sync)) (h 0 l) ∙ xored_undo (block n zero image) _
    fed-plain p h (suc i) l =
        ap₂ (λ (x y : List ℕ). xored x (w.cipher.enciphered y)) (h (suc i) l) (fed-plain p h i (omega arith)) ∙ xored_undo (block n (suc i) image) _

    cipher-plain : (mode : Mode) → (mode ≡ Codebook → bytes % n ≡ 0) → (p : List ℕ) → ((i : ℕ) → i < count → block n i p ≡ plain_by mode w.cipher w.sync cut i) →
        (i : ℕ) → i < count → cipher_by mode w.cipher w.sync p i ≡ block n i image
    cipher-plain Codebook e p h i l = ap w.cipher.enciphered (h i l) ∙ s.lawful.inverse.forth (block n i image) (code_block (e refl) i l)
    cipher-plain Counter e p h i l = ap (λ (x : List ℕ). xored x (gamma w.cipher.enciphered w.sync i)) (h i l) ∙ xored_undo (block n i image) (gamma w.cipher.enciphered w.sync i)
    cipher-plain Feedback e p h i l = fed-plain p h i l

    plain_is : deciphered w image ≡ joined (plain_block w cut) 0 count
    unfolding deciphered
    plain_is = ap (λ (x : ℕ). joined (plain_block w cut) 0 (block_count n x)) im.0

    seals_all : enciphered w (deciphered w image) ≡ image
    unfolding enciphered
    seals_all =
        let at = all_at (plain_block w cut) (plain_long w.mode s.whole) in
        let long : length (deciphered w image) ≡ bytes = ap length plain_is ∙ all_long (plain_block w cut) (plain_long w.mode s.whole) in
        let cells : (i : ℕ) → i < count → block n i (deciphered w image) ≡ plain_block w cut i = λ i l. ap (block n i) plain_is ∙ at i l in
        ap (λ (x : ℕ). joined (cipher_block w (deciphered w image)) 0 (block_count n x)) long
        ∙ (joined_same (cipher_block w (deciphered w image)) cut 0 count (λ i a b. cipher-plain w.mode s.whole (deciphered w image) cells i (omega arith))
        ∙ blocks_all n count image (omega (arith, im.0, count_enough n bytes some)))

pub undo : (w : Chaining) (bytes : ℕ) → Sound w bytes → Undo w bytes
undo w bytes s = record { body = body_text w bytes s; blocks = body_block w bytes s; back = back_one w bytes s; opens = opens_all w bytes s; seals = seals_all w bytes s }
