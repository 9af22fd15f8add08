-- Opening, frames and closing: what they answer, and which copies there are then.
use Rattle.std.specs.Prelude.{ℕ, ◌+◌, ◌-◌, ◌*◌, ◌%◌, Bool, false, cond, not, ◌&&◌, ◌||◌, List, length, Some, None, Ok, Err, Option, Result, ◌==◌, nat_le, nat_lt}
use Rattle.std.specs.Str.{bytes_eq}
use Rattle.refusals.specs.declared.Reason.TheVariants.{BadBlock, Conflict, MissingBlock}
use Rattle.refusals.specs.declared.Layer.TheVariants.{Download}
use Rattle.refusals.specs.Codes.{Code, refuse, then}
use Rattle.blocks.specs.Bytes.{block}
use Rattle.modes.specs.Modes.{block_count}
use Rattle.sections.specs.Images.{block_length}
use Rattle.sections.specs.Entries.{Described}
use Rattle.sections.specs.Files.{section_at, asked}
use Rattle.downloads.specs.declared.arrivals.Arrival.{Arrival}
use Rattle.downloads.specs.Marks.{lowest, put_at, marked_from}
use Rattle.downloads.specs.Copies.{Copies, lacks, refused_at, sized}

-- the block length and the number of blocks of a section
abbrev pub block_of : Described → ℕ
block_of s = block_length s.cipher

abbrev pub blocks_of : Described → ℕ
blocks_of s = block_count (block_of s) s.length

-- a body of the section's length, and a record of one mark a block
abbrev pub good_store : Described → ℕ → ℕ → Bool
good_store s body marks = body == s.length && marks == blocks_of s

-- ---- opening section `number` with a cipher whose blocks have n bytes

abbrev pub open_answer : List Described → ℕ → ℕ → ℕ → ℕ → Result Described Code
open_answer listing number n body marks =
    then (asked number (section_at number listing)) (λ s. sized (n == block_of s && good_store s body marks) (Ok s))

-- ---- a frame of so many bytes from block f on, in blocks of n bytes

-- it covers block k
abbrev pub covers : ℕ → ℕ → ℕ → ℕ → Bool
covers n f bytes k = nat_le f k && nat_lt (n * (k - f)) bytes

-- not empty, not past a body of L bytes, and whole blocks unless it ends where the body ends
abbrev pub good_frame : ℕ → ℕ → ℕ → ℕ → Bool
good_frame n L f bytes = nat_lt 0 bytes && (nat_le (n * f + bytes) L && (bytes % n == 0 || n * f + bytes == L))

-- its copy of block k
abbrev pub block_in : ℕ → ℕ → List ℕ → ℕ → List ℕ
block_in n f frame k = block n (k - f) frame

abbrev pub differs : Option (List ℕ) → List ℕ → Bool
differs None b = false
differs (Some a) b = not (bytes_eq a b)

-- block k has a copy with other bytes
abbrev pub conflicts : ℕ → Copies → ℕ → List ℕ → ℕ → Bool
conflicts n copies f frame k = covers n f (length frame) k && differs (copies k) (block_in n f frame k)

-- where every buffer is right
abbrev pub frame_judged : Described → Copies → ℕ → List ℕ → Result Unit Code
frame_judged s copies f frame =
    cond (good_frame (block_of s) s.length f (length frame))
    (refused_at Conflict (lowest (conflicts (block_of s) copies f frame) 0 (blocks_of s)))
    (Err (refuse BadBlock f Download))

unfoldable pub frame_answer : Described → ℕ → ℕ → Copies → ℕ → List ℕ → Result Unit Code
frame_answer s body marks copies f frame = sized (good_store s body marks) (frame_judged s copies f frame)

-- its copy is put in for each block that it covers
unfoldable pub with_frame : ℕ → Copies → ℕ → List ℕ → Copies
with_frame n copies f frame k = cond (covers n f (length frame) k) (Some (block_in n f frame k)) (copies k)

-- its bytes go into the middle of the body, its blocks are marked, and nothing else changes
abbrev pub body_after : ℕ → ℕ → List ℕ → List ℕ → List ℕ
body_after n f frame body = put_at (n * f) frame body

abbrev pub marks_after : ℕ → ℕ → List ℕ → List Arrival → List Arrival
marks_after n f frame marks = marked_from f (block_count n (length frame)) marks

-- ---- closing: every block has arrived

abbrev pub close_judged : Described → Copies → Result Unit Code
close_judged s copies = refused_at MissingBlock (lowest (lacks copies) 0 (blocks_of s))

unfoldable pub close_answer : Described → ℕ → ℕ → Copies → Result Unit Code
close_answer s body marks copies = sized (good_store s body marks) (close_judged s copies)
