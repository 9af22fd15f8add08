-- The rounds of GOST 28147-89 on the registers N1 and N2, for any table and any key words.
use Rattle.std.specs.Prelude.{ℕ, ◌+◌, ◌*◌, ◌/◌, ◌%◌, ◌^◌, List, [], ◌∷◌, ◌++◌, reverse, bit_xor}
use Rattle.std.specs.List.{fold}
use Rattle.gost.specs.declared.rounds.Registers.{Registers}
use Rattle.gost.specs.Tables.{Rows, substituted}

-- a rotation by 11 toward the top, in 32 bits
abbrev pub rotated : ℕ → ℕ
rotated v = (v * 2 ^ 11) % 2 ^ 32 + v / 2 ^ 21

-- N1 plus the word modulo 2 ^ 32, substituted and rotated
unfoldable pub mixed : Rows → ℕ → ℕ → ℕ
mixed rows x n1 = rotated (substituted rows ((n1 + x) % 2 ^ 32))

-- an ordinary round: the result goes to N1, and the old N1 to N2
unfoldable pub round : Rows → ℕ → Registers → Registers
round rows x s = record { n1 = bit_xor (mixed rows x s.n1) s.n2; n2 = s.n1 }

-- the last of 32 rounds: the result goes to N2, and N1 stays
unfoldable pub last_round : Rows → ℕ → Registers → Registers
last_round rows x s = record { n1 = s.n1; n2 = bit_xor (mixed rows x s.n1) s.n2 }

abbrev pub swapped : Registers → Registers
swapped s = record { n1 = s.n2; n2 = s.n1 }

-- ordinary rounds, one for each word
abbrev pub rounds : Rows → List ℕ → Registers → Registers
rounds rows words s = fold (λ r x. round rows x r) s words

-- the same, but for the last word's round, which is the last
abbrev pub closed_rounds : Rows → List ℕ → Registers → Registers
closed_rounds rows [] s = s
closed_rounds rows (x ∷ []) s = last_round rows x s
closed_rounds rows (x ∷ (y ∷ ys)) s = closed_rounds rows (y ∷ ys) (round rows x s)

-- the words of enciphering: X0 to X7 three times, then X7 to X0
unfoldable pub forward : List ℕ → List ℕ
forward key = key ++ (key ++ (key ++ reverse key))

-- the words of deciphering: X0 to X7 once, then X7 to X0 three times
unfoldable pub backward : List ℕ → List ℕ
backward key = key ++ (reverse key ++ (reverse key ++ reverse key))

-- the words of the sixteen rounds of an imitovstavka: X0 to X7 twice
abbrev pub twice : List ℕ → List ℕ
twice key = key ++ key
