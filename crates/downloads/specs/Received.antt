-- What is lent of a download: what a body buffer and an arrival record hold, and what the calls say of it.
use Rattle.std.specs.Prelude.{◌≡◌, ℕ, Bool, List, length, Result}
use Rattle.refusals.specs.Codes.{Code}
use Rattle.blocks.specs.Ciphers.{BlockMap}
use Rattle.sections.specs.Entries.{Described}
use Rattle.targets.specs.State.{TargetState}
use Rattle.downloads.specs.declared.arrivals.Arrival.{Arrival}
use Rattle.downloads.specs.declared.received.Received.{Received}
use Rattle.downloads.specs.declared.received.ReceivedRef.{ReceivedRef}
use Rattle.downloads.specs.Marks.{marks_in}
use Rattle.downloads.specs.Copies.{Copies, copies_in}
use Rattle.downloads.specs.Frames.{block_of, good_store, open_answer, frame_answer, close_answer}
use Rattle.downloads.specs.Blocks.{give_answer, out_after}
use Rattle.downloads.specs.Pages.{program_page_answer, target_programmed, buffer_after}

-- the bytes of the body
abbrev pub body_in : Received → List ℕ
body_in r = r.body.now

-- the marks of the record, one for each block
abbrev pub marks_of : Received → List Arrival
marks_of r = marks_in r.arrivals.now

-- both, lent to be written or only to be read
pub record Held : Type 0 where
  pub body : List ℕ
  pub marks : List Arrival

abbrev pub held_in : Received → Held
held_in r = record { body = body_in r; marks = marks_of r }

abbrev pub held_by : ReceivedRef → Held
held_by r = record { body = r.body.now; marks = marks_in r.arrivals.now }

-- the copies that they hold, in blocks of n bytes
abbrev pub copies_of : ℕ → Held → Copies
copies_of n h = copies_in n h.body h.marks

-- they are as long as a section's must be
abbrev pub stores : Described → Held → Bool
stores s h = good_store s (length h.body) (length h.marks)

-- the same body and record are lent
pub record SameLoans (r r' : Received) : Type 0 where
  pub body : r'.body.ghost_name ≡ r.body.ghost_name
  pub arrivals : r'.arrivals.ghost_name ≡ r.arrivals.ghost_name

-- ---- what the calls answer and leave

abbrev pub open_said : List Described → ℕ → ℕ → Held → Result Described Code
open_said listing number n h = open_answer listing number n (length h.body) (length h.marks)

abbrev pub frame_said : Described → Held → ℕ → List ℕ → Result Unit Code
frame_said s h f frame = frame_answer s (length h.body) (length h.marks) (copies_of (block_of s) h) f frame

abbrev pub close_said : Described → Held → Result Unit Code
close_said s h = close_answer s (length h.body) (length h.marks) (copies_of (block_of s) h)

abbrev pub give_said : BlockMap → Described → Held → ℕ → ℕ → Result ℕ Code
give_said c s h i room = give_answer c s (length h.body) (length h.marks) (copies_of (block_of s) h) i room

abbrev pub out_given : BlockMap → Described → Held → ℕ → List ℕ → List ℕ
out_given c s h i out = out_after c s (length h.body) (length h.marks) (copies_of (block_of s) h) i out

abbrev pub program_said : BlockMap → Described → Held → TargetState → ℕ → ℕ → Result Unit Code
program_said c s h t room j = program_page_answer c s (length h.body) (length h.marks) t (copies_of (block_of s) h) room j

abbrev pub target_left : BlockMap → Described → Held → TargetState → ℕ → ℕ → TargetState
target_left c s h t room j = target_programmed c s (length h.body) (length h.marks) t (copies_of (block_of s) h) room j

abbrev pub page_left : BlockMap → Described → Held → TargetState → ℕ → List ℕ → List ℕ
page_left c s h t j out = buffer_after c s (length h.body) (length h.marks) t (copies_of (block_of s) h) j out
