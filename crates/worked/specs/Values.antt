-- Worked values of the definitions that the contracts use.
use Rattle.std.specs.Prelude.{◌≡◌, ℕ, List, [], ◌∷◌, ◌++◌, replicate}
use Rattle.gost.specs.declared.rounds.Registers.{Registers}
use Rattle.gost.specs.Tables.{Rows}
use Rattle.gost.specs.Rounds.{round}
use Rattle.gost.specs.Cipher.{enciphered, gost}
use Rattle.modes.specs.declared.mode.Mode.TheVariants.{Feedback}
use Rattle.modes.specs.Counters.{third_step, fourth_step}
use Rattle.modes.specs.Modes.{gamma, enciphered as body}
use Rattle.imitovstavka.specs.Chain.{imitovstavka}

-- a table whose rows leave each number as it is, and one of zeros
abbrev pub identity : Rows
identity = replicate 8 (0 ∷ 1 ∷ 2 ∷ 3 ∷ 4 ∷ 5 ∷ 6 ∷ 7 ∷ 8 ∷ 9 ∷ 10 ∷ 11 ∷ 12 ∷ 13 ∷ 14 ∷ 15 ∷ [])

abbrev pub zeros : Rows
zeros = replicate 8 (replicate 16 0)

abbrev pub zero_key : List ℕ
zero_key = replicate 8 0

abbrev pub zero_sync : List ℕ
zero_sync = replicate 8 0

abbrev pub both : ℕ → ℕ → Registers
both n1 n2 = record { n1 = n1; n2 = n2 }

-- an image of nine bytes, and a text of two blocks
abbrev pub nine : List ℕ
nine = 0x01 ∷ 0x02 ∷ 0x03 ∷ 0x04 ∷ 0x05 ∷ 0x06 ∷ 0x07 ∷ 0x08 ∷ 0x11 ∷ []

abbrev pub two : List ℕ
two = 0x01 ∷ 0x02 ∷ 0x03 ∷ 0x04 ∷ 0x05 ∷ 0x06 ∷ 0x07 ∷ 0x08 ∷ 0x10 ∷ 0x20 ∷ 0x30 ∷ 0x40 ∷ 0x50 ∷ 0x60 ∷ 0x70 ∷ 0x80 ∷ []

-- one ordinary round with the identity table
abbrev pub Rounds : Type 0
Rounds =
    (round identity 0 (both 1 0) ≡ both 0x800 1)
    × ((round identity 0 (both 0x00200000 0)).n1 ≡ 1)
    × ((round identity 1 (both 0xFFFFFFFF 5)).n1 ≡ 5)

-- a block enciphered with zeros for table and key
abbrev pub Enciphering : Type 0
Enciphering = enciphered zeros zero_key (1 ∷ 2 ∷ 3 ∷ 4 ∷ 5 ∷ 6 ∷ 7 ∷ 8 ∷ []) ≡ 5 ∷ 6 ∷ 7 ∷ 8 ∷ 1 ∷ 2 ∷ 3 ∷ 4 ∷ []

-- steps of the counters, and the first two gammas with zeros for table, key and sync
abbrev pub CounterMode : Type 0
CounterMode =
    (fourth_step 0xFEFEFEFB ≡ 0xFFFFFFFF)
    × (fourth_step 0xFEFEFEFC ≡ 1)
    × (third_step 0xFEFEFEFF ≡ 0)
    × (gamma (enciphered zeros zero_key) zero_sync 0 ≡ 4 ∷ replicate 7 1)
    × (gamma (enciphered zeros zero_key) zero_sync 1 ≡ 8 ∷ replicate 7 2)

-- the image of nine bytes in feedback, with zeros for table, key and sync
abbrev pub FeedbackMode : Type 0
FeedbackMode =
    body (record { cipher = gost zeros zero_key; mode = Feedback; sync = zero_sync }) nine
    ≡ 0x01 ∷ 0x02 ∷ 0x03 ∷ 0x04 ∷ 0x05 ∷ 0x06 ∷ 0x07 ∷ 0x08 ∷ 0x14 ∷ []

-- with zeros for table and key: two whole blocks at 32 and 16 bits, the image of nine bytes, and the
-- wrong reading of that image on a page of 16 bytes with fill 255
abbrev pub Imitovstavki : Type 0
Imitovstavki =
    (imitovstavka zeros zero_key 32 two ≡ 0x44332211)
    × (imitovstavka zeros zero_key 16 two ≡ 0x4433)
    × (imitovstavka zeros zero_key 32 nine ≡ 0x04030210)
    × (imitovstavka zeros zero_key 32 (nine ++ replicate 7 255) ≡ 0xFBFCFD10)

-- table CryptoPro-A and the key bytes 0 to 31: values of another implementation
abbrev pub table_a : Rows
table_a =
    (9 ∷ 6 ∷ 3 ∷ 2 ∷ 8 ∷ 11 ∷ 1 ∷ 7 ∷ 10 ∷ 4 ∷ 14 ∷ 15 ∷ 12 ∷ 0 ∷ 13 ∷ 5 ∷ [])
    ∷ (3 ∷ 7 ∷ 14 ∷ 9 ∷ 8 ∷ 10 ∷ 15 ∷ 0 ∷ 5 ∷ 2 ∷ 6 ∷ 12 ∷ 11 ∷ 4 ∷ 13 ∷ 1 ∷ [])
    ∷ (14 ∷ 4 ∷ 6 ∷ 2 ∷ 11 ∷ 3 ∷ 13 ∷ 8 ∷ 12 ∷ 15 ∷ 5 ∷ 10 ∷ 0 ∷ 7 ∷ 1 ∷ 9 ∷ [])
    ∷ (14 ∷ 7 ∷ 10 ∷ 12 ∷ 13 ∷ 1 ∷ 3 ∷ 9 ∷ 0 ∷ 2 ∷ 11 ∷ 4 ∷ 15 ∷ 8 ∷ 5 ∷ 6 ∷ [])
    ∷ (11 ∷ 5 ∷ 1 ∷ 9 ∷ 8 ∷ 13 ∷ 15 ∷ 0 ∷ 14 ∷ 4 ∷ 2 ∷ 3 ∷ 12 ∷ 7 ∷ 10 ∷ 6 ∷ [])
    ∷ (3 ∷ 10 ∷ 13 ∷ 12 ∷ 1 ∷ 2 ∷ 0 ∷ 11 ∷ 7 ∷ 5 ∷ 9 ∷ 4 ∷ 8 ∷ 15 ∷ 14 ∷ 6 ∷ [])
    ∷ (1 ∷ 13 ∷ 2 ∷ 9 ∷ 7 ∷ 10 ∷ 6 ∷ 0 ∷ 8 ∷ 12 ∷ 4 ∷ 5 ∷ 15 ∷ 3 ∷ 11 ∷ 14 ∷ [])
    ∷ (11 ∷ 10 ∷ 15 ∷ 5 ∷ 0 ∷ 12 ∷ 14 ∷ 8 ∷ 6 ∷ 2 ∷ 3 ∷ 9 ∷ 1 ∷ 7 ∷ 13 ∷ 4 ∷ [])
    ∷ []

abbrev pub key_a : List ℕ
key_a = 0x03020100 ∷ 0x07060504 ∷ 0x0b0a0908 ∷ 0x0f0e0d0c ∷ 0x13121110 ∷ 0x17161514 ∷ 0x1b1a1918 ∷ 0x1f1e1d1c ∷ []

abbrev pub text_a : List ℕ
text_a = 0x03 ∷ 0x0a ∷ 0x11 ∷ 0x18 ∷ 0x1f ∷ 0x26 ∷ 0x2d ∷ 0x34 ∷ 0x3b ∷ []

abbrev pub Elsewhere : Type 0
Elsewhere =
    (imitovstavka table_a key_a 32 text_a ≡ 0x6d5b99d7)
    × (body (record { cipher = gost table_a key_a; mode = Feedback; sync = 1 ∷ 2 ∷ 3 ∷ 4 ∷ 5 ∷ 6 ∷ 7 ∷ 8 ∷ [] }) text_a
    ≡ 0x24 ∷ 0xc0 ∷ 0x84 ∷ 0x67 ∷ 0x7b ∷ 0x00 ∷ 0x8c ∷ 0xd0 ∷ 0x56 ∷ [])

abbrev pub WorkedValues : Type 0
WorkedValues = Rounds × Enciphering × CounterMode × FeedbackMode × Imitovstavki × Elsewhere
