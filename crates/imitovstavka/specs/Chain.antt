-- The imitovstavka of a text: its blocks of eight bytes, the last filled up with zeros, go one after
-- the other through a map of blocks, each xored to what came before.
use Rattle.std.specs.Prelude.{ℕ, zero, suc, ◌+◌, ◌-◌, ◌/◌, ◌^◌, cond, List, length, replicate, Ok, Err, Result, nat_le}
use Rattle.refusals.specs.declared.Reason.TheVariants.{BadLength}
use Rattle.refusals.specs.declared.Layer.TheVariants.{File}
use Rattle.refusals.specs.Codes.{Code, refuse}
use Rattle.blocks.specs.Bytes.{block, filled, xored}
use Rattle.gost.specs.Tables.{Rows}
use Rattle.gost.specs.Cipher.{registers, sixteen}

-- the first m blocks of a text, from a state on
abbrev pub chained : (List ℕ → List ℕ) → List ℕ → List ℕ → ℕ → List ℕ
chained E state text zero = state
chained E state text (suc m) = E (xored (chained E state text m) (filled 8 (block 8 m text)))

-- all of them
unfoldable pub absorbed : (List ℕ → List ℕ) → List ℕ → List ℕ → List ℕ
absorbed E state text = chained E state text ((length text + 7) / 8)

-- block 0 is xored to zeros, so it goes through the map as it is
abbrev pub start : List ℕ
start = replicate 8 0

-- the l-bit value of a state: N1 shifted right by 32 - l
abbrev pub value_of : ℕ → List ℕ → ℕ
value_of l state = (registers state).n1 / 2 ^ (32 - l)

-- GOST 28147-89 with the sixteen rounds X0 to X7 twice
unfoldable pub imitovstavka : Rows → List ℕ → ℕ → List ℕ → ℕ
imitovstavka rows key l text = value_of l (absorbed (sixteen rows key) start text)

-- a text has at least nine bytes
abbrev pub imitovstavka_answer : Rows → List ℕ → ℕ → List ℕ → Result ℕ Code
imitovstavka_answer rows key l text = cond (nat_le 9 (length text)) (Ok (imitovstavka rows key l text)) (Err (refuse BadLength 0 File))
