-- How a description is judged: line by line, within a line a malformed or disallowed one before a
-- repeated one, and at the end the lowest part that is missing.
use Rattle.std.specs.Prelude.{ℕ, ◌+◌, ◌-◌, Bool, true, false, cond, ◌&&◌, ◌||◌, List, [], ◌∷◌, length, replicate, is_some, Some, None, Ok, Err, Option, Result, ◌==◌, nat_le, nat_lt, slice_index_or, slice_set}
use Rattle.std.specs.Option.{option_map}
use Rattle.refusals.specs.declared.Reason.{Reason}
use Rattle.refusals.specs.declared.Reason.TheVariants.{MalformedLine, RepeatedLine, MissingPart, WrongSize}
use Rattle.refusals.specs.declared.Layer.TheVariants.{Description}
use Rattle.refusals.specs.Codes.{Code, refuse}
use Rattle.gost.specs.Tables.{Rows, narrow_row}
use Rattle.description.specs.declared.keywords.Keyword.{Keyword}
use Rattle.description.specs.declared.keywords.Keyword.TheVariants as key
use Rattle.description.specs.declared.parts.TargetKind.{TargetKind}
use Rattle.description.specs.declared.parts.TargetKind.TheVariants.{Flash, Ram}
use Rattle.description.specs.Text.{lines}
use Rattle.description.specs.Limits.{allowed_length, allowed_count, fits_count, fits_length, below}
use Rattle.description.specs.Words.{Token, keyword, number, other, tokens}

-- what a description says
pub record Described : Type 0 where
  pub kind : TargetKind
  pub page_length : ℕ
  pub page_count : ℕ
  pub fill : ℕ
  -- one mark for each page that a target can have
  pub locked : List Bool
  pub rows : Rows

-- what the lines so far have given
pub record Draft : Type 0 where
  pub kind : Option TargetKind
  pub page_length : Option ℕ
  pub page_count : Option ℕ
  pub fill : Option ℕ
  pub locked : List Bool
  -- how many pages are locked
  pub locks : ℕ
  -- the rows that were given
  pub rows : List (Option (List ℕ))

abbrev pub blank : Draft
blank = record { kind = None; page_length = None; page_count = None; fill = None; locked = replicate 1024 false; locks = 0; rows = replicate 8 None }

-- ---- the words after the first

abbrev pub kind_part : Keyword → Option TargetKind
kind_part key.Kind = None
kind_part key.Page = None
kind_part key.Pages = None
kind_part key.Fill = None
kind_part key.Lock = None
kind_part key.Box = None
kind_part key.Flash = Some Flash
kind_part key.Ram = Some Ram

abbrev pub sole_kind : List Token → Option TargetKind
sole_kind [] = None
sole_kind (keyword k ∷ []) = kind_part k
sole_kind (number n ∷ []) = None
sole_kind (other bytes ∷ []) = None
sole_kind (t ∷ (u ∷ ts)) = None

abbrev pub sole_number : List Token → Option ℕ
sole_number [] = None
sole_number (keyword k ∷ []) = None
sole_number (number n ∷ []) = Some n
sole_number (other bytes ∷ []) = None
sole_number (t ∷ (u ∷ ts)) = None

abbrev pub added : ℕ → Option (List ℕ) → Option (List ℕ)
added n None = None
added n (Some ns) = Some (n ∷ ns)

abbrev pub all_numbers : List Token → Option (List ℕ)
all_numbers [] = Some []
all_numbers (keyword k ∷ ts) = None
all_numbers (number n ∷ ts) = added n (all_numbers ts)
all_numbers (other bytes ∷ ts) = None

-- ---- lines

-- a value that is not allowed comes before one that was given already
abbrev pub ruled : Bool → Bool → Draft → Result Draft Reason
ruled allowed again next = cond allowed (cond again (Err RepeatedLine) (Ok next)) (Err MalformedLine)

abbrev pub kind_line : Draft → Option TargetKind → Result Draft Reason
kind_line d None = Err MalformedLine
kind_line d (Some k) =
    ruled true (is_some d.kind)
    (record { kind = Some k; page_length = d.page_length; page_count = d.page_count; fill = d.fill; locked = d.locked; locks = d.locks; rows = d.rows })

-- the product is judged at the first line to give both of its factors
abbrev pub page_line : Draft → Option ℕ → Result Draft Reason
page_line d None = Err MalformedLine
page_line d (Some n) =
    ruled (allowed_length n && (is_some d.page_length || fits_count n d.page_count)) (is_some d.page_length)
    (record { kind = d.kind; page_length = Some n; page_count = d.page_count; fill = d.fill; locked = d.locked; locks = d.locks; rows = d.rows })

abbrev pub pages_line : Draft → Option ℕ → Result Draft Reason
pages_line d None = Err MalformedLine
pages_line d (Some n) =
    ruled (allowed_count n && (is_some d.page_count || fits_length n d.page_length)) (is_some d.page_count)
    (record { kind = d.kind; page_length = d.page_length; page_count = Some n; fill = d.fill; locked = d.locked; locks = d.locks; rows = d.rows })

abbrev pub fill_line : Draft → Option ℕ → Result Draft Reason
fill_line d None = Err MalformedLine
fill_line d (Some n) =
    ruled (nat_le n 255) (is_some d.fill)
    (record { kind = d.kind; page_length = d.page_length; page_count = d.page_count; fill = Some n; locked = d.locked; locks = d.locks; rows = d.rows })

-- the page count comes earlier, and sixteen pages at most are locked
abbrev pub lock_line : Draft → Option ℕ → Result Draft Reason
lock_line d None = Err MalformedLine
lock_line d (Some page) =
    ruled (nat_lt d.locks 16 && below page d.page_count) (slice_index_or d.locked page false)
    (record { kind = d.kind; page_length = d.page_length; page_count = d.page_count; fill = d.fill; locked = slice_set d.locked page true; locks = d.locks + 1; rows = d.rows })

-- a row from 1 to 8 and sixteen numbers from 0 to 15
abbrev pub box_line : Draft → Option (List ℕ) → Result Draft Reason
box_line d None = Err MalformedLine
box_line d (Some []) = Err MalformedLine
box_line d (Some (row ∷ ns)) =
    ruled (nat_le 1 row && (nat_le row 8 && (length ns == 16 && narrow_row ns))) (is_some (slice_index_or d.rows (row - 1) None))
    (record { kind = d.kind; page_length = d.page_length; page_count = d.page_count; fill = d.fill; locked = d.locked; locks = d.locks; rows = slice_set d.rows (row - 1) (Some ns) })

-- the first word decides
abbrev pub keyword_line : Draft → Keyword → List Token → Result Draft Reason
keyword_line d key.Kind ts = kind_line d (sole_kind ts)
keyword_line d key.Page ts = page_line d (sole_number ts)
keyword_line d key.Pages ts = pages_line d (sole_number ts)
keyword_line d key.Fill ts = fill_line d (sole_number ts)
keyword_line d key.Lock ts = lock_line d (sole_number ts)
keyword_line d key.Box ts = box_line d (all_numbers ts)
keyword_line d key.Flash ts = Err MalformedLine
keyword_line d key.Ram ts = Err MalformedLine

-- a line without words is skipped
abbrev pub judged_line : Draft → List Token → Result Draft Reason
judged_line d [] = Ok d
judged_line d (keyword k ∷ ts) = keyword_line d k ts
judged_line d (number n ∷ ts) = Err MalformedLine
judged_line d (other bytes ∷ ts) = Err MalformedLine

-- ---- refusals

-- every refusal is by the layer of descriptions
abbrev pub refused : Reason → ℕ → Code
refused why place = refuse why place Description

-- ---- the end of the text

-- the part, or that it is missing: 1 kind, 2 page, 3 pages, 4 fill, 5 a box row
abbrev pub needed : {X Y : Type 0} → ℕ → Option X → (X → Result Y Code) → Result Y Code
needed which None next = Err (refused MissingPart which)
needed which (Some x) next = next x

-- the rows, if each of them was given
abbrev pub all_rows : List (Option (List ℕ)) → Option Rows
all_rows [] = Some []
all_rows (None ∷ rows) = None
all_rows (Some row ∷ rows) = option_map (λ rs. row ∷ rs) (all_rows rows)

unfoldable pub completed : Draft → Result Described Code
completed d =
    needed 1 d.kind (λ kind. needed 2 d.page_length (λ page_length. needed 3 d.page_count (λ page_count. needed 4 d.fill (λ fill. needed 5 (all_rows d.rows) (λ rows.
    Ok (record { kind = kind; page_length = page_length; page_count = page_count; fill = fill; locked = d.locked; rows = rows }))))))

-- ---- the whole text, whose lines are counted from 1

-- the first line that is refused decides
abbrev pub onward : ℕ → Result Draft Reason → (Draft → Result Described Code) → Result Described Code
onward line (Ok next) rest = rest next
onward line (Err why) rest = Err (refused why line)

abbrev pub judged_lines : ℕ → Draft → List (List ℕ) → Result Described Code
judged_lines line d [] = completed d
judged_lines line d (l ∷ ls) = onward line (judged_line d (tokens l)) (λ next. judged_lines (line + 1) next ls)

unfoldable pub judged : List ℕ → Result Described Code
judged text = cond (nat_le (length text) 4096) (judged_lines 1 blank (lines text)) (Err (refused WrongSize 0))
