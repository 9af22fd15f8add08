-- The counters N3 and N4 of counter mode.
use Rattle.std.specs.Prelude.{ℕ, zero, suc, ◌+◌, ◌-◌, ◌*◌, ◌%◌, ◌^◌, cond, List, ◌++◌, take, drop, nat_lt}
use Rattle.blocks.specs.Bytes.{word, bytes_of}

-- one step: N3 gains C2 modulo 2 ^ 32; N4 gains C1, and a sum of 2 ^ 32 or more loses 2 ^ 32 and gains 1
unfoldable pub third_step : ℕ → ℕ
third_step y = (y + 0x01010101) % 2 ^ 32

unfoldable pub fourth_step : ℕ → ℕ
fourth_step z = cond (nat_lt (z + 0x01010104) (2 ^ 32)) (z + 0x01010104) (z + 0x01010104 - 2 ^ 32 + 1)

abbrev pub steps : (ℕ → ℕ) → ℕ → ℕ → ℕ
steps f zero x = x
steps f (suc k) x = f (steps f k x)

-- N3 and N4 of block i straight from i: what i + 1 steps give
abbrev pub third : ℕ → ℕ → ℕ
third y i = (y + (i + 1) * 0x01010101) % 2 ^ 32

abbrev pub fourth : ℕ → ℕ → ℕ
fourth z i = (z + (i + 1) * 0x01010104 - 1) % (2 ^ 32 - 1) + 1

-- the counters of block i as a block, from Y and Z
abbrev pub counters_from : ℕ → ℕ → ℕ → List ℕ
counters_from y z i = bytes_of 4 (third y i) ++ bytes_of 4 (fourth z i)

-- and from a block (Y, Z)
abbrev pub counters : List ℕ → ℕ → List ℕ
counters b i = counters_from (word (take 4 b)) (word (drop 4 b)) i
