-- What the values of this crate mean.
use Rattle.std.specs.Prelude.{ℕ, cond, ◌&&◌, List, Ok, Err, Result, nat_le}
use Rattle.refusals.specs.declared.Reason.TheVariants.{BadField}
use Rattle.refusals.specs.declared.Layer.TheVariants.{File}
use Rattle.refusals.specs.Codes.{Code, refuse}
use Rattle.gost.specs.Keyed.{rows_in, words_in}
use Rattle.gost.specs.Cipher.{sixteen}
use Rattle.imitovstavka.specs.declared.length.TagLength.{TagLength}
use Rattle.imitovstavka.specs.declared.chain.Chain.{Chain}

abbrev pub bits_of : TagLength → ℕ
bits_of l = l.bits

-- a value has 1 to 32 bits
abbrev pub length_answer : ℕ → Result ℕ Code
length_answer bits = cond (nat_le 1 bits && nat_le bits 32) (Ok bits) (Err (refuse BadField 0 File))

-- the map of a chain, and the block that it has come to
abbrev pub map_in : Chain → List ℕ → List ℕ
map_in c = sixteen (rows_in c.cipher) (words_in c.cipher)

abbrev pub state_in : Chain → List ℕ
state_in c = c.state
