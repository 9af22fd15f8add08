-- Enciphering and deciphering on blocks of bytes undo each other, for every table and every key.
use Rattle.std.proofs.Common.{◌≡◌, ℕ, ◌+◌, ◌*◌, ◌%◌, ◌^◌, ◌<◌, List, [], ◌∷◌, ◌++◌, reverse, length, take, drop, sym, refl, ap, ◌∙◌, ap₂, inl, arith, length-drop, length-take}
use lib.Bits.{xor_lt}
use Rattle.std.proofs.ByRecursion.{All-append, All-take, All-drop}
use Rattle.std.proofs.lemmas.List.{take-append-drop}
use Rattle.blocks.specs.Bytes.{Block, word, bytes_of}
use Rattle.blocks.specs.Ciphers.{Lawful}
use Rattle.blocks.proofs.Words.{word_lt, word_bytes, bytes_word, bytes_of_bytes}
use Rattle.gost.specs.declared.rounds.Registers.{Registers}
use Rattle.gost.specs.Tables.{Rows, Checked, substituted}
use Rattle.gost.specs.Rounds.{mixed, round, rounds, closed_rounds, forward, backward, twice}
use Rattle.gost.specs.Cipher.{registers, block_of, enciphered, deciphered, sixteen, gost}
use Rattle.gost.specs.law.Nibbles.{substituted_lt}
use Rattle.gost.specs.law.Feistel.{closed_is, closed_back, backward_is, forward_is}

-- both registers hold 32 bits
abbrev pub Fits32 : Registers → Type 0
Fits32 s = (s.n1 < 2 ^ 32) × (s.n2 < 2 ^ 32)

module _ (rows : Rows) (checked : Checked rows) where
  mixed_lt : (x n1 : ℕ) → mixed rows x n1 < 2 ^ 32
  unfolding mixed
  mixed_lt x n1 =
      let e : 4 * length rows ≡ 32 = omega (arith, checked.0) in
      let h : substituted rows ((n1 + x) % 2 ^ 32) < 2 ^ 32 = rw e at (substituted_lt rows ((n1 + x) % 2 ^ 32) checked.1) in
      omega arith

  rounds_fit : (xs : List ℕ) (s : Registers) → Fits32 s → Fits32 (rounds rows xs s)
  unfolding round
  rounds_fit [] s w = w
  rounds_fit (x ∷ xs) s w = rounds_fit xs (round rows x s) (xor_lt 32 (mixed rows x s.n1) s.n2 (mixed_lt x s.n1) w.1, w.0)

  closed_fit : (xs : List ℕ) (s : Registers) → Fits32 s → Fits32 (closed_rounds rows xs s)
  closed_fit [] s w = w
  closed_fit (x ∷ xs) s w = let r = rounds_fit (x ∷ xs) s w in rw (closed_is rows x xs s) (r.1, r.0)

pub registers_fit : (block : List ℕ) → Block 8 block → Fits32 (registers block)
unfolding registers
registers_fit block b =
    let low : length (take 4 block) ≡ 4 = length-take 4 block ∙ omega arith in
    let high : length (drop 4 block) ≡ 4 = length-drop 4 block ∙ omega arith in
    (rw low at (word_lt (take 4 block) (All-take (λ x. x < 256) 4 block b.1)), rw high at (word_lt (drop 4 block) (All-drop (λ x. x < 256) 4 block b.1)))

pub block-block : (s : Registers) → Block 8 (block_of s)
unfolding block_of
block-block s = (refl, All-append (λ x. x < 256) (bytes_of 4 s.n1) (bytes_of 4 s.n2) (bytes_of_bytes 4 s.n1) (bytes_of_bytes 4 s.n2))

registers-block : (s : Registers) → Fits32 s → registers (block_of s) ≡ s
unfolding registers block_of
registers-block s w =
    let made : ℕ → ℕ → Registers = λ a b. record { n1 = a; n2 = b } in
    ap₂ made (word_bytes 4 s.n1 w.0) (word_bytes 4 s.n2 w.1)

block-registers : (block : List ℕ) → Block 8 block → block_of (registers block) ≡ block
unfolding registers block_of
block-registers block b =
    let low : length (take 4 block) ≡ 4 = length-take 4 block ∙ omega arith in
    let high : length (drop 4 block) ≡ 4 = length-drop 4 block ∙ omega arith in
    let p : bytes_of 4 (word (take 4 block)) ≡ take 4 block = ap (λ (n : ℕ). bytes_of n (word (take 4 block))) (sym low) ∙ bytes_word (take 4 block) (All-take (λ x. x < 256) 4 block b.1) in
    let q : bytes_of 4 (word (drop 4 block)) ≡ drop 4 block = ap (λ (n : ℕ). bytes_of n (word (drop 4 block))) (sym high) ∙ bytes_word (drop 4 block) (All-drop (λ x. x < 256) 4 block b.1) in
    ap₂ (λ (xs ys : List ℕ). xs ++ ys) p q ∙ take-append-drop 4 block

module _ (rows : Rows) (checked : Checked rows) where
  -- rounds with any words are undone by rounds with the same words in the other order
  run_back : (xs ys : List ℕ) → ys ≡ reverse xs → (block : List ℕ) → Block 8 block →
      block_of (closed_rounds rows ys (registers (block_of (closed_rounds rows xs (registers block))))) ≡ block
  run_back xs ys e block b =
      let inside : registers (block_of (closed_rounds rows xs (registers block))) ≡ closed_rounds rows xs (registers block)
      = registers-block (closed_rounds rows xs (registers block)) (closed_fit rows checked xs (registers block) (registers_fit block b)) in
      ap (λ (s : Registers). block_of (closed_rounds rows ys s)) inside
      ∙ (ap (λ (zs : List ℕ). block_of (closed_rounds rows zs (closed_rounds rows xs (registers block)))) e
      ∙ (ap block_of (closed_back rows xs (registers block)) ∙ block-registers block b))

  pub back : (key block : List ℕ) → Block 8 block → deciphered rows key (enciphered rows key block) ≡ block
  unfolding enciphered deciphered
  back key block b = run_back (forward key) (backward key) (backward_is key) block b

  pub forth : (key block : List ℕ) → Block 8 block → enciphered rows key (deciphered rows key block) ≡ block
  unfolding enciphered deciphered
  forth key block b = run_back (backward key) (forward key) (forward_is key) block b

pub enciphered-block : (rows : Rows) (key block : List ℕ) → Block 8 (enciphered rows key block)
unfolding enciphered
enciphered-block rows key block = block-block (closed_rounds rows (forward key) (registers block))

pub deciphered-block : (rows : Rows) (key block : List ℕ) → Block 8 (deciphered rows key block)
unfolding deciphered
deciphered-block rows key block = block-block (closed_rounds rows (backward key) (registers block))

pub sixteen-block : (rows : Rows) (key block : List ℕ) → Block 8 (sixteen rows key block)
unfolding sixteen
sixteen-block rows key block = block-block (rounds rows (twice key) (registers block))

pub gost_lawful : (rows : Rows) → Checked rows → (key : List ℕ) → Lawful (gost rows key)
gost_lawful rows checked key = record {
  sized = inl refl;
  forward = record {
    stays = λ b w. enciphered-block rows key b;
    apart = λ a b v w e. sym (back rows checked key a v) ∙ (ap (deciphered rows key) e ∙ back rows checked key b w);
  };
  inverse = record {
    stays = λ b w. deciphered-block rows key b;
    back = λ b w. back rows checked key b w;
    forth = λ b w. forth rows checked key b w;
  };
}
