-- How far an altered cipher block reaches.
use Rattle.std.proofs.Common.{◌≡◌, ℕ, zero, suc, ◌+◌, ◌*◌, ◌/◌, ◌%◌, ◌^◌, ◌<◌, ◌≤◌, ◌≢◌, List, length, get_or, sym, refl, ap, ◌∙◌, subst, ap₂, inl, inr, arith}
use lib.Bits.{bit_xor, xor_assoc, xor_self, xor_zero_l, xor_zero_r, xor_shr, xor_mod}
use Rattle.blocks.specs.Bytes.{Block, block, xored}
use Rattle.blocks.proofs.Xors.{xored-length, xored_undo, xored_back, xored_swap, get_or-xored}
use Rattle.modes.specs.declared.mode.Mode.{Mode}
use Rattle.modes.specs.declared.mode.Mode.TheVariants.{Codebook, Counter, Feedback}
use Rattle.modes.specs.Modes.{Chaining, size, gamma, before, fed, cipher_by, plain_by, Depends, cipher_block, plain_block, block_count}
use Rattle.modes.specs.Laws.{Sound, Text, bit, SameBits, InPlace, Reaches}
use Rattle.modes.proofs.Joined.{whole_at, whole_all}
use Rattle.modes.proofs.Undoing.{plain_same, fed_is, some_size, fed-block, sent_long, plain_sent}

bit-bit_xor : (k x y : ℕ) → bit k (bit_xor x y) ≡ bit_xor (bit k x) (bit k y)
bit-bit_xor k x y = ap (λ (z : ℕ). z % 2) (xor_shr x y k) ∙ xor_mod (x / 2 ^ k) (y / 2 ^ k) 1

-- where the xors are the same, the bits are alike or not together
bits_from : (k x y u v : ℕ) → bit_xor x y ≡ bit_xor u v → bit k x ≡ bit k y → bit k u ≡ bit k v
bits_from k x y u v e h =
    let z : bit_xor (bit k u) (bit k v) ≡ 0 = sym (bit-bit_xor k u v) ∙ (ap (bit k) (sym e) ∙ (bit-bit_xor k x y ∙ (ap (λ (q : ℕ). bit_xor q (bit k y)) h ∙ xor_self (bit k y)))) in
    let undo : bit_xor (bit_xor (bit k u) (bit k v)) (bit k v) ≡ bit k u = xor_assoc (bit k u) (bit k v) (bit k v) ∙ (ap (bit_xor (bit k u)) (xor_self (bit k v)) ∙ xor_zero_r (bit k u)) in
    sym undo ∙ (ap (λ (q : ℕ). bit_xor q (bit k v)) z ∙ xor_zero_l (bit k v))

same_bit : (a b c d : List ℕ) → length a ≡ length b → length c ≡ length d → xored a b ≡ xored c d → (p k : ℕ) → bit k (get_or a p 0) ≡ bit k (get_or b p 0) → bit k (get_or c p 0) ≡ bit k (get_or d p 0)
same_bit a b c d l m e p k h =
    bits_from k (get_or a p 0) (get_or b p 0) (get_or c p 0) (get_or d p 0) (sym (get_or-xored a b p l) ∙ (ap (λ (x : List ℕ). get_or x p 0) e ∙ get_or-xored c d p m)) h

-- what is masked by one mask differs as what it was made from
same_bits : (got mask plain sent : List ℕ) → length got ≡ length plain → sent ≡ xored plain mask → SameBits (xored got mask) plain got sent
same_bits got mask plain sent l e =
    let long : length (xored got mask) ≡ length plain = xored-length got mask ∙ l in
    let same : length got ≡ length sent = l ∙ sym (ap length e ∙ xored-length plain mask) in
    let bits : xored (xored got mask) plain ≡ xored got sent = xored_swap got mask plain (sym l) ∙ ap (xored got) (sym e) in
    record {
      only = λ p k ne q. ne (same_bit got sent (xored got mask) plain same long (sym bits) p k q);
      all = λ p k ne q. ne (same_bit (xored got mask) plain got sent long same bits p k q);
      long = (long, same);
    }

module _ (w : Chaining) (bytes : ℕ) (s : Sound w bytes) (image : List ℕ) (im : Text bytes image) (got : ℕ → List ℕ) (i : ℕ) (low : i < block_count (size w) bytes)
    (fits : (k : ℕ) → Depends w.mode i k → InPlace (got k) (cipher_block w image k)) where
  abbrev plain : List ℕ
  plain = block (size w) i image

  is_sent : ((k : ℕ) → Depends w.mode i k → got k ≡ cipher_block w image k) → plain_block w got i ≡ plain
  is_sent u = plain_same w.mode w.cipher w.sync got (cipher_block w image) i u ∙ plain_sent w bytes s image im i low

  -- at a mode that is known
  at_mode : (mode : Mode) → w.mode ≡ mode → (f : ℕ → List ℕ) → plain_block w f i ≡ plain_by mode w.cipher w.sync f i
  at_mode mode e f = ap (λ (x : Mode). plain_by x w.cipher w.sync f i) e

  sent_at_lem : (mode : Mode) → w.mode ≡ mode → (k : ℕ) → cipher_block w image k ≡ cipher_by mode w.cipher w.sync image k
  sent_at_lem mode e k = ap (λ (x : Mode). cipher_by x w.cipher w.sync image k) e

  as_long : Depends w.mode i i → length (got i) ≡ length plain
  as_long d = (fits i d).0 ∙ sent_long w bytes s image im i low

  codebook_differs : w.mode ≡ Codebook → got i ≢ cipher_block w image i → plain_block w got i ≢ plain
  codebook_differs e ne q =
      let d : Depends w.mode i i = subst (λ (x : Mode). Depends x i i) (sym e) refl in
      let whole : length plain ≡ size w =
      whole_all (size w) image i (some_size w.cipher s.lawful) (subst (λ (x : ℕ). x % size w ≡ 0) (sym im.0) (s.whole e)) (subst (λ (x : ℕ). i < block_count (size w) x) (sym im.0) low) in
      let b : Block (size w) (got i) = (as_long d ∙ whole, (fits i d).1) in
      let undone : w.cipher.deciphered (got i) ≡ plain = sym (at_mode Codebook e got) ∙ q in
      ne (sym (s.lawful.inverse.forth (got i) b) ∙ (ap w.cipher.enciphered undone ∙ sym (sent_at_lem Codebook e i)))

  counter_bits : w.mode ≡ Counter → SameBits (plain_block w got i) plain (got i) (cipher_block w image i)
  counter_bits e =
      let d : Depends w.mode i i = subst (λ (x : Mode). Depends x i i) (sym e) refl in
      let mask = gamma w.cipher.enciphered w.sync i in
      subst (λ (x : List ℕ). SameBits x plain (got i) (cipher_block w image i)) (sym (at_mode Counter e got))
      (same_bits (got i) mask plain (cipher_block w image i) (as_long d) (sent_at_lem Counter e i))

  -- ---- feedback
  own : w.mode ≡ Feedback → Depends w.mode i i
  own e = subst (λ (x : Mode). Depends x i i) (sym e) (inl refl)

  before_sent : w.mode ≡ Feedback → ((k : ℕ) → suc k ≡ i → got k ≡ cipher_block w image k) → (j : ℕ) → j ≡ i → before w.sync got j ≡ before w.sync (fed w.cipher w.sync image) j
  before_sent e u zero q = refl
  before_sent e u (suc j) q = u j q ∙ sent_at_lem Feedback e j

  feedback_bits : w.mode ≡ Feedback → ((k : ℕ) → suc k ≡ i → got k ≡ cipher_block w image k) → SameBits (plain_block w got i) plain (got i) (cipher_block w image i)
  feedback_bits e u =
      let mask = w.cipher.enciphered (before w.sync (fed w.cipher w.sync image) i) in
      let out : plain_block w got i ≡ xored (got i) mask = at_mode Feedback e got ∙ ap (λ (x : List ℕ). xored (got i) (w.cipher.enciphered x)) (before_sent e u i refl) in
      let sent : cipher_block w image i ≡ xored plain mask = sent_at_lem Feedback e i ∙ fed_is w.cipher w.sync image i in
      subst (λ (x : List ℕ). SameBits x plain (got i) (cipher_block w image i)) (sym out) (same_bits (got i) mask plain (cipher_block w image i) (as_long (own e)) sent)

  feedback_next : w.mode ≡ Feedback → (k : ℕ) → suc k ≡ i → got k ≢ cipher_block w image k → got i ≡ cipher_block w image i → size w * i + size w ≤ bytes → plain_block w got i ≢ plain
  feedback_next e k p ne u whole q =
      let E = w.cipher.enciphered in
      let f = fed w.cipher w.sync image in
      let l : suc k < block_count (size w) bytes = omega arith in
      let d : Depends w.mode i k = subst (λ (x : Mode). Depends x i k) (sym e) (inr p) in
      let F : Block (size w) (f k) = fed-block w bytes s image im k l in
      let g : length (got k) ≡ size w = (fits k d).0 ∙ (ap length (sent_at_lem Feedback e k) ∙ F.0) in
      let G : Block (size w) (got k) = (g, (fits k d).1) in
      let at : (h : ℕ → List ℕ) → before w.sync h i ≡ h k = λ h. ap (before w.sync h) (sym p) in
      let x = f i in
      let long : length x ≡ size w = ap length (fed_is w.cipher w.sync image i) ∙ (xored-length plain _ ∙ whole_at (size w) image i (omega (arith, im.0))) in
      let out : plain_block w got i ≡ xored x (E (got k)) = at_mode Feedback e got ∙ ap₂ (λ (y z : List ℕ). xored y (E z)) (u ∙ sent_at_lem Feedback e i) (at got) in
      let is : plain ≡ xored x (E (f k)) = sym (ap (λ (y : List ℕ). xored y (E (f k))) (fed_is w.cipher w.sync image i ∙ ap (λ (y : List ℕ). xored plain (E y)) (at f)) ∙ xored_undo plain (E (f k))) in
      let same : E (got k) ≡ E (f k) =
      sym (xored_back x (E (got k)) ((s.lawful.forward.stays (got k) G).0 ∙ sym long)) ∙ (ap (xored x) (sym out ∙ (q ∙ is)) ∙ xored_back x (E (f k)) ((s.lawful.forward.stays (f k) F).0 ∙ sym long)) in
      ne (s.lawful.forward.apart (got k) (f k) G F same ∙ sym (sent_at_lem Feedback e k))

pub reaches : (w : Chaining) (bytes : ℕ) → Sound w bytes → Reaches w bytes
reaches w bytes s image im got i low fits = record {
  unaltered = is_sent w bytes s image im got i low fits;
  codebook = codebook_differs w bytes s image im got i low fits;
  counter = counter_bits w bytes s image im got i low fits;
  feedback = feedback_bits w bytes s image im got i low fits;
  next = feedback_next w bytes s image im got i low fits;
}
