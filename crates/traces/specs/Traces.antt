-- A trace: the calls of one download, one after the other, refused ones among them. What each call
-- answers and does, by the definitions of downloads.
use Rattle.std.specs.Prelude.{ℕ, ◌+◌, Bool, true, false, cond, not, List, [], ◌∷◌, replicate, Ok, Err, Result, ◌==◌}
use Rattle.std.specs.List.{AllByRecursion}
use Rattle.refusals.specs.Codes.{Code, then, unless}
use Rattle.blocks.specs.Bytes.{Bytes}
use Rattle.blocks.specs.Ciphers.{BlockMap}
use Rattle.gost.specs.Tables.{Rows}
use Rattle.sections.specs.Entries.{Described}
use Rattle.targets.specs.State.{TargetState}
use Rattle.targets.specs.Calls.{with_page, erase_answer, program_answer}
use Rattle.downloads.specs.Copies.{Copies, no_copies, sized}
use Rattle.downloads.specs.Frames.{block_of, frame_judged, with_frame, close_judged}
use Rattle.downloads.specs.Blocks.{give_judged, plain_from}
use Rattle.downloads.specs.Pages.{page_judged, prepared_on}
use Rattle.downloads.specs.Verdicts.{verify_judged, good_on}

-- what all calls of a download share
pub record Setting : Type 0 where
  -- the cipher with its key, and the section
  pub cipher : BlockMap
  pub section : Described
  -- the table, and the words of the tag key
  pub rows : Rows
  pub key : List ℕ
  -- the length of the page buffer that is lent to programming and verifying
  pub room : ℕ

pub data Call : Type 0 where
  -- a frame of bytes from a block on
  frame : ℕ → List ℕ → Call
  -- give a plain block
  give : ℕ → Call
  -- erase a page of the target
  erase : ℕ → Call
  -- program an image page
  program : ℕ → Call
  close : Call
  reopen : Call
  verify : Call

pub data Answer : Type 0 where
  done : Answer
  -- the block that is handed over
  plain : List ℕ → Answer
  -- good or not
  verdict : Bool → Answer
  refused : Code → Answer
  -- the call cannot be made in this state, and does nothing
  not_built : Answer

abbrev pub is_refused : Answer → Bool
is_refused done = false
is_refused (plain out) = false
is_refused (verdict good) = false
is_refused (refused e) = true
is_refused not_built = false

-- where a trace stands: the received copies, whether the download is closed, and the target
pub record Standing : Type 0 where
  pub copies : Copies
  pub closed : Bool
  pub target : TargetState

abbrev pub standing : Copies → Bool → TargetState → Standing
standing copies closed target = record { copies = copies; closed = closed; target = target }

-- a trace begins with no copy, receiving
abbrev pub begun : TargetState → Standing
begun t = standing no_copies false t

-- ---- one call

-- a closed download takes no frame and is not closed again; only a closed one is reopened or verified
abbrev pub built : Bool → Call → Bool
built closed (frame f bytes) = not closed
built closed (give i) = true
built closed (erase p) = true
built closed (program j) = true
built closed close = not closed
built closed reopen = closed
built closed verify = closed

-- by what a call is refused, if it is
abbrev pub judged : Setting → Standing → Call → Result Unit Code
judged w s (frame f bytes) = frame_judged w.section s.copies f bytes
judged w s (give i) = give_judged w.section s.copies i
judged w s (erase p) = erase_answer s.target p
judged w s (program j) =
    then (sized (w.room == s.target.page_length) (page_judged w.section s.target s.copies j))
    (λ _. program_answer s.target (w.section.first_page + j) s.target.page_length)
judged w s close = close_judged w.section s.copies
judged w s reopen = Ok tt
judged w s verify = sized (w.room == s.target.page_length) (verify_judged w.section s.target)

-- the target with page p erased, and with image page j as it is made from the copies
abbrev pub with_erased : TargetState → ℕ → TargetState
with_erased t p = with_page t p (replicate t.page_length t.fill) true

abbrev pub with_programmed : Setting → TargetState → Copies → ℕ → TargetState
with_programmed w t copies j = with_page t (w.section.first_page + j) (prepared_on w.cipher w.section t copies j) t.rewritable

-- what a call that is not refused does
abbrev pub effect : Setting → Standing → Call → Standing
effect w s (frame f bytes) = standing (with_frame (block_of w.section) s.copies f bytes) s.closed s.target
effect w s (give i) = s
effect w s (erase p) = standing s.copies s.closed (with_erased s.target p)
effect w s (program j) = standing s.copies s.closed (with_programmed w s.target s.copies j)
effect w s close = standing s.copies true s.target
effect w s reopen = standing s.copies false s.target
effect w s verify = s

-- and answers
abbrev pub says : Setting → Standing → Call → Answer
says w s (frame f bytes) = done
says w s (give i) = plain (plain_from w.cipher w.section s.copies i)
says w s (erase p) = done
says w s (program j) = done
says w s close = done
says w s reopen = done
says w s verify = verdict (good_on w.rows w.key w.section s.target)

abbrev pub answered : Result Unit Code → Answer → Answer
answered (Ok u) a = a
answered (Err e) a = refused e

-- a call that is refused, or cannot be made, changes nothing
unfoldable pub step : Setting → Standing → Call → Standing
step w s c = cond (built s.closed c) (unless (judged w s c) s (effect w s c)) s

unfoldable pub answer_to : Setting → Standing → Call → Answer
answer_to w s c = cond (built s.closed c) (answered (judged w s c) (says w s c)) not_built

-- ---- one call after the other

abbrev pub run : Setting → Standing → List Call → Standing
run w s [] = s
run w s (c ∷ calls) = run w (step w s c) calls

abbrev pub answers_of : Setting → Standing → List Call → List Answer
answers_of w s [] = []
answers_of w s (c ∷ calls) = answer_to w s c ∷ answers_of w (step w s c) calls

-- a frame is made of bytes
abbrev pub OfBytes : Call → Type 0
OfBytes (frame f bytes) = Bytes bytes
OfBytes (give i) = Unit {0}
OfBytes (erase p) = Unit {0}
OfBytes (program j) = Unit {0}
OfBytes close = Unit {0}
OfBytes reopen = Unit {0}
OfBytes verify = Unit {0}

abbrev pub AllOfBytes : List Call → Type 0
AllOfBytes calls = AllByRecursion OfBytes calls
