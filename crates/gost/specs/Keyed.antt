-- What a cipher value borrows.
use Rattle.std.specs.Prelude.{ℕ, List}
use Rattle.gost.specs.declared.cipher.Gost.{Gost}
use Rattle.gost.specs.Tables.{Rows}

abbrev pub rows_in : Gost → Rows
rows_in c = c.table.now.rows

abbrev pub words_in : Gost → List ℕ
words_in c = c.key.now
