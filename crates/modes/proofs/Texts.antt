-- A text enciphered block by block.
use Rattle.std.proofs.Common.{◌≡◌, ℕ, suc, ◌+◌, ◌-◌, ◌*◌, ◌%◌, ◌<◌, ◌≤◌, min, true, List, ◌++◌, length, take, drop, sym, refl, ap, ◌∙◌, subst, ap₂, inl, inr, mul-zero, mul-one, mul-add, arith, length-drop}
use borrow.Rule.Slice.PartMut.{put_mid}
use Rattle.std.proofs.lemmas.List.{append_assoc, append-nil, drop-drop, drop_at, take_at, drop_all}
use Rattle.blocks.specs.Bytes.{Bytes, Block, block, xored}
use Rattle.blocks.specs.Ciphers.{BlockMap, Lawful}
use Rattle.modes.specs.declared.mode.Mode.{Mode}
use Rattle.modes.specs.declared.mode.Mode.TheVariants.{Codebook, Counter, Feedback}
use Rattle.modes.specs.Counters.{counters_from}
use Rattle.modes.specs.Modes.{Chaining, size, gamma, before, fed, cipher_block, cipher_by, joined, block_count, enciphered}
use Rattle.modes.specs.Steps.{cipher_step, Kept, FromSync}
use Rattle.modes.specs.Calls.{whole_in}
use Rattle.modes.specs.Laws.{Sound}
use Rattle.std.proofs.lemmas.Bool.{eqb-true, cases_lt}
use Rattle.modes.proofs.Joined.{length-block, joined_long, joined_more, count_enough, count_above, whole_at, cut_short}
use Rattle.modes.proofs.Undoing.{fed_is, sent_long, some_size}

-- the pad of feedback holds what is enciphered for block i
abbrev pub Padded : Mode → BlockMap → List ℕ → List ℕ → ℕ → List ℕ → Type 0
Padded Codebook c sync image i pad = Unit {0}
Padded Counter c sync image i pad = Unit {0}
Padded Feedback c sync image i pad = pad ≡ before sync (fed c sync image) i

-- a step of the code gives the cipher block
pub step_is : (mode : Mode) (c : BlockMap) (sync image pad : List ℕ) (y z i : ℕ) → FromSync mode (c.enciphered sync) y z → Padded mode c sync image i pad →
    cipher_step mode c y z i pad (block c.size i image) ≡ cipher_by mode c sync image i
unfolding gamma
step_is Codebook c sync image pad y z i from p = refl
step_is Counter c sync image pad y z i from p =
    ap₂ (λ (u v : ℕ). xored (block c.size i image) (c.enciphered (counters_from u v i))) (from refl).0 (from refl).1
step_is Feedback c sync image pad y z i from p =
    ap (λ (x : List ℕ). xored (block c.size i image) (c.enciphered x)) p ∙ sym (fed_is c sync image i)

-- and keeps the pad for the next
pub padded_next : (mode : Mode) (c : BlockMap) (sync image pad out : List ℕ) (i : ℕ) → Kept mode c.size out pad → out ≡ cipher_by mode c sync image i → length out ≡ c.size → Padded mode c sync image (i + 1) pad
padded_next Codebook c sync image pad out i k e l = tt
padded_next Counter c sync image pad out i k e l = tt
padded_next Feedback c sync image pad out i k e l =
    let n : suc i ≡ i + 1 = omega arith in
    k l ∙ (e ∙ ap (before sync (fed c sync image)) n)

module _ (w : Chaining) (image : List ℕ) (bytes : Bytes image) (s : Sound w (length image)) where
  abbrev n : ℕ
  n = size w

  some : 0 < n
  some = some_size w.cipher s.lawful

  -- so many whole blocks have as many bytes
  front_long : (i : ℕ) → n * i ≤ length image → length (joined (cipher_block w image) 0 i) ≡ n * i
  front_long i h =
      let all = count_above n (length image) i some h in
      joined_long n (length image) (cipher_block w image) 0 i (λ j a b. sent_long w (length image) s image (refl, bytes) j (omega arith) ∙ length-block n j image)
      ∙ omega (arith, mul-zero n)

  module _ (i : ℕ) (xs : List ℕ) (h : n * i ≤ length image) (inv : xs ≡ joined (cipher_block w image) 0 i ++ drop (n * i) image) where
    done : take (n * i) xs ≡ joined (cipher_block w image) 0 i
    done = ap (take (n * i)) inv ∙ take_at (joined (cipher_block w image) 0 i) (drop (n * i) image) (n * i) (front_long i h)

    pub left : drop (n * i) xs ≡ drop (n * i) image
    left = ap (drop (n * i)) inv ∙ drop_at (joined (cipher_block w image) 0 i) (drop (n * i) image) (n * i) (front_long i h)

    more : (out : List ℕ) → out ≡ cipher_block w image i → take (n * i) xs ++ out ≡ joined (cipher_block w image) 0 (i + 1)
    more out e =
        let one : suc i ≡ i + 1 = omega arith in
        let at : 0 + i ≡ i = omega arith in
        ap₂ (λ (x y : List ℕ). x ++ y) done (e ∙ ap (cipher_block w image) (sym at)) ∙ (sym (joined_more (cipher_block w image) 0 i) ∙ ap (joined (cipher_block w image) 0) one)

-- what the loop holds before block i: xs is the text so far, and the pad is ready for the block, if there is one
abbrev pub Held : Chaining → List ℕ → ℕ → List ℕ → List ℕ → Type 0
Held w image i xs pad = (xs ≡ joined (cipher_block w image) 0 i ++ drop (size w * i) image) × (size w * i < length image → Padded w.mode w.cipher w.sync image i pad)

-- a turn of the loop: block i of the text, k bytes from `at` on, is enciphered
module _ (w : Chaining) (image : List ℕ) (bytes : Bytes image) (s : Sound w (length image)) (i y z : ℕ) (xs pad : List ℕ)
    (l : size w * i < length image) (from : FromSync w.mode (w.cipher.enciphered w.sync) y z) (held : Held w image i xs pad) where
  abbrev m : ℕ
  m = size w

  below : m * i ≤ length image
  below = omega arith

  stepped : (out : List ℕ) (k : ℕ) → k ≡ min m (length image - m * i) → out ≡ cipher_step w.mode w.cipher y z i pad (take k (drop (m * i) xs)) → out ≡ cipher_block w image i
  stepped out k e o =
      o
      ∙ (ap (λ (b : List ℕ). cipher_step w.mode w.cipher y z i pad (take k b)) (left w image bytes s i xs below held.0)
      ∙ (ap (cipher_step w.mode w.cipher y z i pad) (cut_short m k (drop (m * i) image) (simp length-drop e))
      ∙ step_is w.mode w.cipher w.sync image pad y z i from (held.1 l)))

  after : (k : ℕ) → k ≡ min m (length image - m * i) → drop k (drop (m * i) image) ≡ drop (m * (i + 1)) image
  after k e =
      let next : m * (i + 1) ≡ m * i + m = omega (arith, mul-add m i 1, mul-one m) in
      drop-drop k (m * i) image
      ∙ elim (cases_lt (length image) (m * i + m)) [
        | inl short ↦ drop_all (m * i + k) image (omega arith) ∙ sym (drop_all (m * (i + 1)) image (omega arith))
        | inr whole ↦ ap (λ (j : ℕ). drop j image) (omega arith)
      ]

  ready : (out next : List ℕ) → Kept w.mode m out next → out ≡ cipher_block w image i → m * (i + 1) < length image → Padded w.mode w.cipher w.sync image (i + 1) next
  ready out next kept is more_left =
      let fits : m * i + m ≤ length image = omega (arith, mul-add m i 1, mul-one m) in
      let in_count = count_above m (length image) (i + 1) (some w image bytes s) (omega arith) in
      padded_next w.mode w.cipher w.sync image next out i kept is
      (ap length is ∙ (sent_long w (length image) s image (refl, bytes) i (omega arith) ∙ whole_at m image i fits))

  turn_at : (out next : List ℕ) (k : ℕ) → k ≡ min m (length image - m * i) → out ≡ cipher_step w.mode w.cipher y z i pad (take k (drop (m * i) xs)) → Kept w.mode m out next →
      Held w image (i + 1) (put_mid (m * i) k xs out) next
  turn_at out next k e o kept =
      let is = stepped out k e o in
      let rest : drop k (drop (m * i) xs) ≡ drop (m * (i + 1)) image = ap (drop k) (left w image bytes s i xs below held.0) ∙ after k e in (
        sym (append_assoc (take (m * i) xs) out (drop k (drop (m * i) xs))) ∙ ap₂ (λ (x y : List ℕ). x ++ y) (more w image bytes s i xs below held.0 out is) rest,
        ready out next kept is,
      )

  pub turn : (out next : List ℕ) (at k : ℕ) → at ≡ m * i → k ≡ min m (length image - m * i) → out ≡ cipher_step w.mode w.cipher y z i pad (take k (drop at xs)) → Kept w.mode m out next →
      Held w image (i + 1) (put_mid at k xs out) next
  turn out next at k a e o kept =
      subst (λ (p : ℕ). Held w image (i + 1) (put_mid p k xs out) next) (sym a)
      (turn_at out next k e (o ∙ ap (λ (p : ℕ). cipher_step w.mode w.cipher y z i pad (take k (drop p xs))) a) kept)

-- after the last block
pub all : (w : Chaining) (image : List ℕ) (bytes : Bytes image) → Sound w (length image) → (i : ℕ) (xs pad : List ℕ) → i ≡ block_count (size w) (length image) → Held w image i xs pad → xs ≡ enciphered w image
unfolding enciphered
all w image bytes s i xs pad e held =
    let exact : length image ≤ size w * i = omega (arith, count_enough (size w) (length image) (some w image bytes s), ap (λ (j : ℕ). size w * j) e) in
    held.0
    ∙ (ap (λ (zs : List ℕ). joined (cipher_block w image) 0 i ++ zs) (drop_all (size w * i) image exact)
    ∙ (append-nil (joined (cipher_block w image) 0 i) ∙ ap (joined (cipher_block w image) 0) e))

pub whole_code : (mode : Mode) (n bytes : ℕ) → whole_in mode n bytes ≡ true → mode ≡ Codebook → bytes % n ≡ 0
whole_code Codebook n bytes h e = eqb-true (bytes % n) 0 h
whole_code Counter n bytes h e = absurd (let z : ◌≡◌ {A = ℕ} 0 1 = cc in omega arith)
whole_code Feedback n bytes h e = absurd (let z : ◌≡◌ {A = ℕ} 0 1 = cc in omega arith)

pub sound : (w : Chaining) (bytes : ℕ) → Lawful w.cipher → Block (size w) w.sync → (w.mode ≡ Counter → size w ≡ 8) → whole_in w.mode (size w) bytes ≡ true → Sound w bytes
sound w bytes lawful start eight whole = record { lawful = lawful; start = start; eight = eight; whole = whole_code w.mode (size w) bytes whole }
