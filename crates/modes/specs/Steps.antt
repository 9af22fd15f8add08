-- One block at a time, as the code goes: a pad holds what feedback enciphers for the next block.
use Rattle.std.specs.Prelude.{◌≡◌, ℕ, ◌≤◌, List, length, take, drop}
use Rattle.blocks.specs.Bytes.{xored, word}
use Rattle.blocks.specs.Ciphers.{BlockMap}
use Rattle.modes.specs.declared.mode.Mode.{Mode}
use Rattle.modes.specs.declared.mode.Mode.TheVariants.{Codebook, Counter, Feedback}
use Rattle.modes.specs.Counters.{counters_from}

-- what is xored to block i; y and z are Y and Z of counter mode
abbrev pub mask_by : Mode → BlockMap → ℕ → ℕ → ℕ → List ℕ → List ℕ
mask_by Codebook c y z i pad = pad
mask_by Counter c y z i pad = c.enciphered (counters_from y z i)
mask_by Feedback c y z i pad = c.enciphered pad

abbrev pub cipher_step : Mode → BlockMap → ℕ → ℕ → ℕ → List ℕ → List ℕ → List ℕ
cipher_step Codebook c y z i pad b = c.enciphered b
cipher_step Counter c y z i pad b = xored b (mask_by Counter c y z i pad)
cipher_step Feedback c y z i pad b = xored b (mask_by Feedback c y z i pad)

abbrev pub plain_step : Mode → BlockMap → ℕ → ℕ → ℕ → List ℕ → List ℕ → List ℕ
plain_step Codebook c y z i pad b = c.deciphered b
plain_step Counter c y z i pad b = xored b (mask_by Counter c y z i pad)
plain_step Feedback c y z i pad b = xored b (mask_by Feedback c y z i pad)

-- a pad has a block's length
abbrev pub Pad : BlockMap → List ℕ → Type 0
Pad c pad = length pad ≡ c.size

-- counter has blocks of eight bytes, and codebook whole blocks
abbrev pub Fits : Mode → ℕ → ℕ → Type 0
Fits Codebook n bytes = bytes ≡ n
Fits Counter n bytes = (n ≡ 8) × (bytes ≤ n)
Fits Feedback n bytes = bytes ≤ n

-- after a whole block the pad of feedback holds that block
abbrev pub Kept : Mode → ℕ → List ℕ → List ℕ → Type 0
Kept Codebook n b pad = Unit {0}
Kept Counter n b pad = Unit {0}
Kept Feedback n b pad = length b ≡ n → pad ≡ b

-- Y and Z are the halves of the sync enciphered
abbrev pub FromSync : Mode → List ℕ → ℕ → ℕ → Type 0
FromSync mode first y z = mode ≡ Counter → (y ≡ word (take 4 first)) × (z ≡ word (drop 4 first))
