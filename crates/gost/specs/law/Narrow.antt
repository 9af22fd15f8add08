-- What the test of a table says of each of its numbers.
use Rattle.std.proofs.Common.{◌≡◌, ℕ, zero, suc, ◌<◌, true, ltb, List, [], ◌∷◌, get_or, arith}
use Rattle.std.proofs.lemmas.Bool.{ltb-true, and_parts}
use Rattle.gost.specs.Tables.{Rows, narrow_row, narrow_rows}

pub row_narrow : (row : List ℕ) (v : ℕ) → narrow_row row ≡ true → get_or row v 0 < 16
row_narrow [] v h = omega arith
row_narrow (x ∷ xs) zero h = ltb-true x 16 (and_parts (ltb x 16) (narrow_row xs) h).0
row_narrow (x ∷ xs) (suc v) h = row_narrow xs v (and_parts (ltb x 16) (narrow_row xs) h).1

pub first_row : (row : List ℕ) (rows : Rows) → narrow_rows (row ∷ rows) ≡ true → narrow_row row ≡ true
first_row row rows h = (and_parts (narrow_row row) (narrow_rows rows) h).0

pub next_rows : (row : List ℕ) (rows : Rows) → narrow_rows (row ∷ rows) ≡ true → narrow_rows rows ≡ true
next_rows row rows h = (and_parts (narrow_row row) (narrow_rows rows) h).1

pub rows_narrow : (rows : Rows) (k v : ℕ) → narrow_rows rows ≡ true → get_or (get_or rows k []) v 0 < 16
rows_narrow [] k v h = omega arith
rows_narrow (row ∷ rows) zero v h = row_narrow row v (first_row row rows h)
rows_narrow (row ∷ rows) (suc k) v h = rows_narrow rows k v (next_rows row rows h)
