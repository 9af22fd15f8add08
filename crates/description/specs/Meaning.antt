-- What the code's values say.
use Rattle.std.specs.Prelude.{◌≡◌, ℕ, List, [], ◌∷◌, Some, None, Ok, Err, Option, Result}
use Rattle.refusals.specs.declared.Reason.{Reason}
use Rattle.refusals.specs.declared.Reason.TheVariants.{MalformedLine}
use Rattle.gost.specs.Cipher.{rows_of}
use Rattle.description.specs.declared.draft.Draft.{Draft as Lines}
use Rattle.description.specs.declared.finish.Part.{Part}
use Rattle.description.specs.declared.finish.Part.TheVariants as part
use Rattle.description.specs.declared.parts.Description.{Description}
use Rattle.description.specs.declared.row.TableRow.{TableRow}
use Rattle.description.specs.declared.scanner.Scanner.{Scanner}
use Rattle.description.specs.Words.{Token, keyword, number, other}
use Rattle.description.specs.Scan.{rest_of, ahead, Ended}
use Rattle.description.specs.Judge.{Described, Draft, box_line}

abbrev pub meaning_of : Description → Described
meaning_of d = record { kind = d.kind; page_length = d.page_length; page_count = d.page_count; fill = d.fill; locked = d.locked; rows = rows_of d.table }

abbrev pub parts_of : Lines → Draft
parts_of d = record { kind = d.kind; page_length = d.page_length; page_count = d.page_count; fill = d.fill; locked = d.locked; locks = d.locks; rows = d.rows }

-- the number by which a part is known to be missing
abbrev pub part_number : Part → ℕ
part_number part.Kind = 1
part_number part.PageLength = 2
part_number part.PageCount = 3
part_number part.Fill = 4
part_number part.BoxRow = 5

-- what a line led to, where it was taken or refused
abbrev pub taken : Result Unit Reason → Draft → Result Draft Reason
taken (Ok u) d = Ok d
taken (Err why) d = Err why

-- ---- what is read of a line after its first word

abbrev pub words_of : Scanner → List Token
words_of s = ahead (rest_of s)

-- the number that the line begins with, and whether it ends here
abbrev pub first_number : List Token → Option ℕ
first_number [] = None
first_number (keyword k ∷ ts) = None
first_number (number n ∷ ts) = Some n
first_number (other bytes ∷ ts) = None

abbrev pub end_answer : List Token → Result Unit Reason
end_answer [] = Ok tt
end_answer (t ∷ ts) = Err MalformedLine

-- numbers that are no row of a table, whatever was given before
abbrev pub NoRow : Option (List ℕ) → Type 0
NoRow numbers = (d : Draft) → box_line d numbers ≡ Err MalformedLine

abbrev pub ReadRow : Option (List ℕ) → Result TableRow Reason → Scanner → Scanner → Type 0
ReadRow numbers (Ok row) s t = (numbers ≡ Some (row.place ∷ row.numbers)) × Ended s t
ReadRow numbers (Err why) s t = (why ≡ MalformedLine) × NoRow numbers
