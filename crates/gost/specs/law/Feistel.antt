-- Laws of the rounds: a round undone by the same round at the registers swapped.
use Rattle.std.proofs.Common.{◌≡◌, ℕ, ◌<◌, List, [], ◌∷◌, ◌++◌, reverse, length, sym, refl, ap, ◌∙◌, arith}
use lib.Bits.{bit_xor, xor_assoc, xor_self, xor_zero_l}
use Rattle.std.proofs.lemmas.List.{append_assoc, length-append, length-reverse, reverse-append, reverse-reverse}
use Rattle.std.proofs.lemmas.List.Sums.{fold-append}
use Rattle.gost.specs.declared.rounds.Registers.{Registers}
use Rattle.gost.specs.Tables.{Rows}
use Rattle.gost.specs.Rounds.{mixed, round, last_round, swapped, rounds, closed_rounds, forward, backward}

-- a word xored twice is gone
xor_gone : (a b : ℕ) → bit_xor a (bit_xor a b) ≡ b
xor_gone a b = sym (xor_assoc a a b) ∙ (ap (λ (n : ℕ). bit_xor n b) (xor_self a) ∙ xor_zero_l b)

module _ (rows : Rows) where
  round_back : (x : ℕ) (s : Registers) → round rows x (swapped (round rows x s)) ≡ swapped s
  unfolding round
  round_back x s =
      let with : ℕ → Registers = λ n. record { n1 = n; n2 = s.n1 } in
      ap with (xor_gone (mixed rows x s.n1) s.n2)

  rounds-append : (xs ys : List ℕ) (s : Registers) → rounds rows (xs ++ ys) s ≡ rounds rows ys (rounds rows xs s)
  rounds-append xs ys s = fold-append (λ (r : Registers) (x : ℕ). round rows x r) s xs ys

  rounds_back : (xs : List ℕ) (s : Registers) → rounds rows (reverse xs) (swapped (rounds rows xs s)) ≡ swapped s
  rounds_back [] s = refl
  rounds_back (x ∷ xs) s =
      let e : reverse (x ∷ xs) ≡ reverse xs ++ x ∷ [] = reverse-append (x ∷ []) xs in
      rw (e, rounds-append (reverse xs) (x ∷ []) (swapped (rounds rows xs (round rows x s))), rounds_back xs (round rows x s)) (round_back x s)

  -- the last round is an ordinary one with its results exchanged
  pub closed_is : (x : ℕ) (xs : List ℕ) (s : Registers) → closed_rounds rows (x ∷ xs) s ≡ swapped (rounds rows (x ∷ xs) s)
  unfolding round last_round
  closed_is x [] s = refl
  closed_is x (y ∷ ys) s = closed_is y ys (round rows x s)

  pub closed_some : (xs : List ℕ) → 0 < length xs → (s : Registers) → closed_rounds rows xs s ≡ swapped (rounds rows xs s)
  closed_some [] h s = absurd (omega arith)
  closed_some (x ∷ xs) h s = closed_is x xs s

  -- the same words in the other order undo them
  pub closed_back : (xs : List ℕ) (s : Registers) → closed_rounds rows (reverse xs) (closed_rounds rows xs s) ≡ s
  closed_back [] s = refl
  closed_back (x ∷ xs) s =
      let some : 0 < length (reverse (x ∷ xs)) = omega (arith, length-reverse (x ∷ xs)) in
      let e = closed_is x xs s in
      let f = closed_some (reverse (x ∷ xs)) some (swapped (rounds rows (x ∷ xs) s)) in
      let g = rounds_back (x ∷ xs) s in
      ap (closed_rounds rows (reverse (x ∷ xs))) e ∙ (f ∙ ap swapped g)

pub backward_is : (key : List ℕ) → backward key ≡ reverse (forward key)
unfolding forward backward
backward_is key = simp (reverse-append, reverse-reverse, append_assoc)

pub forward_is : (key : List ℕ) → forward key ≡ reverse (backward key)
forward_is key = sym (ap reverse (backward_is key) ∙ reverse-reverse (forward key))

-- the 32 rounds, eight words at a time
module _ (rows : Rows) (key : List ℕ) (s : Registers) (some : 0 < length key) where
  pub forward_closed : closed_rounds rows (forward key) s ≡ swapped (rounds rows (reverse key) (rounds rows key (rounds rows key (rounds rows key s))))
  unfolding forward
  forward_closed = closed_some rows (forward key) (omega (arith, length-append key (key ++ (key ++ reverse key)))) s ∙ ap swapped (simp rounds-append)

  pub backward_closed : closed_rounds rows (backward key) s ≡ swapped (rounds rows (reverse key) (rounds rows (reverse key) (rounds rows (reverse key) (rounds rows key s))))
  unfolding backward
  backward_closed = closed_some rows (backward key) (omega (arith, length-append key (reverse key ++ (reverse key ++ reverse key)))) s ∙ ap swapped (simp rounds-append)
