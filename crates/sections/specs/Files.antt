-- A download file: a header of four bytes, one entry of 32 bytes for each section, and the bodies in
-- order, without gaps, to the file's end. The first refusal is the answer.
use Rattle.std.specs.Prelude.{ℕ, zero, suc, ◌+◌, ◌*◌, Bool, cond, not, ◌&&◌, List, [], ◌∷◌, ◌++◌, length, take, drop, Some, None, Ok, Err, Option, Result, ◌==◌, nat_le, nat_lt, slice_index}
use Rattle.std.specs.List.{list_any, slice_get}
use Rattle.refusals.specs.declared.Reason.TheVariants.{WrongSize, BadField, BadPages, BodiesEnd, WrongBuffer}
use Rattle.refusals.specs.declared.Layer.TheVariants.{File}
use Rattle.refusals.specs.Codes.{Code, refuse, then}
use Rattle.sections.specs.Images.{pages_for}
use Rattle.sections.specs.Entries.{Described, fields_of, judged_fields}

-- the page after the last one of a section
abbrev pub pages_end : ℕ → Described → ℕ
pages_end page_length s = s.first_page + pages_for page_length s.length

-- two sections share a page
abbrev pub shares : ℕ → Described → Described → Bool
shares page_length s t = nat_lt s.first_page (pages_end page_length t) && nat_lt t.first_page (pages_end page_length s)

abbrev pub shares_any : ℕ → Described → List Described → Bool
shares_any page_length s earlier = list_any (shares page_length s) earlier

-- its pages are on the target, and shared with no earlier section
abbrev pub paged : ℕ → ℕ → ℕ → List Described → Described → Result Described Code
paged page_length page_count place earlier s =
    cond (nat_le (pages_end page_length s) page_count && not (shares_any page_length s earlier)) (Ok s) (Err (refuse BadPages place File))

-- entry i from 0, which is at place i + 1
abbrev pub entry_of : ℕ → List ℕ → List ℕ
entry_of i file = take 32 (drop (4 + 32 * i) file)

unfoldable pub next_section : ℕ → ℕ → List ℕ → ℕ → ℕ → List Described → Result Described Code
next_section page_length page_count file i offset earlier =
    cond (nat_le (4 + 32 * i + 32) (length file))
    (then (judged_fields (i + 1) offset (fields_of (entry_of i file))) (paged page_length page_count (i + 1) earlier))
    (Err (refuse BadField (i + 1) File))

-- m entries from entry i on, the next body at an offset: at the end the bodies have reached the file's end
abbrev pub listed_from : ℕ → ℕ → List ℕ → ℕ → ℕ → ℕ → List Described → Result (List Described) Code
listed_from page_length page_count file zero i offset earlier = cond (offset == length file) (Ok earlier) (Err (refuse BodiesEnd 0 File))
listed_from page_length page_count file (suc m) i offset earlier =
    then (next_section page_length page_count file i offset earlier)
    (λ s. listed_from page_length page_count file m (suc i) (offset + s.length) (earlier ++ s ∷ []))

-- edition 1, then 1 to 8 sections, then two zeros
abbrev pub good_header : List ℕ → Bool
good_header file =
    (slice_index file 0 == 1) && (nat_le 1 (slice_index file 1) && (nat_le (slice_index file 1) 8 && (slice_index file 2 == 0 && slice_index file 3 == 0)))

-- the bodies begin after the table
abbrev pub bodies_from : ℕ → ℕ
bodies_from count = 4 + 32 * count

-- every section of a file for a target; a target whose pages have no length has none
unfoldable pub listed : ℕ → ℕ → List ℕ → Result (List Described) Code
listed page_length page_count file =
    cond (page_length == 0)
    (Err (refuse WrongBuffer 0 File))
    (cond (nat_le 4 (length file) && nat_le (length file) 65536)
    (cond (good_header file)
    (listed_from page_length page_count file (slice_index file 1) 0 (bodies_from (slice_index file 1)) [])
    (Err (refuse BadField 0 File)))
    (Err (refuse WrongSize 0 File)))

-- section n from 1
abbrev pub section_at : ℕ → List Described → Option Described
section_at zero ss = None
section_at (suc i) ss = slice_get ss i

-- a number that is not listed is refused at that number
abbrev pub asked : ℕ → Option Described → Result Described Code
asked n None = Err (refuse BadField n File)
asked n (Some s) = Ok s
