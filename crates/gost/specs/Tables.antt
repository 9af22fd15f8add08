-- Substitution tables: eight rows of sixteen numbers from 0 to 15, the row of the lowest nibble first.
-- A row need not be a permutation.
use Rattle.std.specs.Prelude.{◌≡◌, ℕ, ◌+◌, ◌*◌, ◌/◌, ◌%◌, Bool, true, List, [], ◌∷◌, length, nat_lt, slice_index}
use Rattle.std.specs.List.{list_all}

abbrev pub Rows : Type 0
Rows = List (List ℕ)

-- whether every number of a row, and of a table, is from 0 to 15
abbrev pub narrow_row : List ℕ → Bool
narrow_row row = list_all (λ x. nat_lt x 16) row

abbrev pub narrow_rows : Rows → Bool
narrow_rows rows = list_all narrow_row rows

-- what a table that was made keeps
abbrev pub Checked : Rows → Type 0
Checked rows = (length rows ≡ 8) × (narrow_rows rows ≡ true)

-- each nibble of x replaced, the lowest by the first row: the nibble is the column
abbrev pub substituted : Rows → ℕ → ℕ
substituted [] x = 0
substituted (row ∷ rows) x = slice_index row (x % 16) + 16 * substituted rows (x / 16)
