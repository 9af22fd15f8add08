-- The block cipher: bytes 0 to 3 are N1 and bytes 4 to 7 are N2, the lowest byte first.
use Rattle.std.specs.Prelude.{ℕ, cond, List, ◌++◌, take, drop, Ok, Err, Result}
use Rattle.refusals.specs.declared.Reason.TheVariants.{BadField}
use Rattle.refusals.specs.declared.Layer.TheVariants.{File}
use Rattle.refusals.specs.Codes.{Code, refuse}
use Rattle.blocks.specs.Bytes.{word, bytes_of}
use Rattle.blocks.specs.Ciphers.{BlockMap}
use Rattle.gost.specs.declared.rounds.Registers.{Registers}
use Rattle.gost.specs.declared.table.SubstitutionTable.{SubstitutionTable}
use Rattle.gost.specs.Tables.{Rows, narrow_rows}
use Rattle.gost.specs.Rounds.{rounds, closed_rounds, forward, backward, twice}

abbrev pub rows_of : SubstitutionTable → Rows
rows_of table = table.rows

-- making a table: a number over 15 is refused
abbrev pub table_answer : Rows → Result Rows Code
table_answer rows = cond (narrow_rows rows) (Ok rows) (Err (refuse BadField 0 File))

unfoldable pub registers : List ℕ → Registers
registers block = record { n1 = word (take 4 block); n2 = word (drop 4 block) }

unfoldable pub block_of : Registers → List ℕ
block_of s = bytes_of 4 s.n1 ++ bytes_of 4 s.n2

-- the 32 rounds forward, the 32 rounds backward, and the sixteen rounds of an imitovstavka
unfoldable pub enciphered : Rows → List ℕ → List ℕ → List ℕ
enciphered rows key block = block_of (closed_rounds rows (forward key) (registers block))

unfoldable pub deciphered : Rows → List ℕ → List ℕ → List ℕ
deciphered rows key block = block_of (closed_rounds rows (backward key) (registers block))

unfoldable pub sixteen : Rows → List ℕ → List ℕ → List ℕ
sixteen rows key block = block_of (rounds rows (twice key) (registers block))

-- the cipher of a table and key words
abbrev pub gost : Rows → List ℕ → BlockMap
gost rows key = record { size = 8; enciphered = enciphered rows key; deciphered = deciphered rows key }
