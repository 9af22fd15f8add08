-- A bench: what the calls of a trace on it share, where the trace stands, and what its buffers hold.
use Rattle.std.specs.Prelude.{◌≡◌, ℕ, Bool, true, cond, List, length, replicate}
use Rattle.refusals.specs.Codes.{unless}
use Rattle.blocks.specs.Ciphers.{BlockMap}
use Rattle.gost.specs.Keyed.{rows_in, words_in}
use Rattle.sections.specs.Entries.{Described}
use Rattle.targets.specs.State.{TargetState}
use Rattle.downloads.specs.declared.arrivals.Arrival.{Arrival}
use Rattle.downloads.specs.declared.arrivals.Arrival.TheVariants.{Missing}
use Rattle.downloads.specs.Copies.{Copies}
use Rattle.downloads.specs.Frames.{block_of, blocks_of, with_frame, body_after, marks_after}
use Rattle.downloads.specs.declared.received.Received.{Received}
use Rattle.traces.specs.declared.call.Bench.{Bench}
use Rattle.downloads.specs.Received.{Held, held_in, body_in, marks_of, copies_of, stores, SameLoans, frame_said}
use Rattle.traces.specs.Traces.{Setting, Call, Answer, Standing, step, answer_to, run, answers_of}
use Rattle.traces.specs.Answers.{given_by}
use Rattle.traces.specs.Buffers.{Buffers, buffers, after, buffers_after}
use Rattle.traces.specs.Runs.{setting, stands_by, Runs}

-- ---- what has been received

-- what giving a block is answered
abbrev pub given_from : BlockMap → Described → Held → ℕ → Answer
given_from c s h i = given_by c s (length h.body) (length h.marks) (copies_of (block_of s) h) i

-- what a frame leaves of it, unless the download is closed
abbrev pub body_framed : Described → Bool → Received → ℕ → List ℕ → List ℕ
body_framed s closed r f bytes = cond closed (body_in r) (unless (frame_said s (held_in r) f bytes) (body_in r) (body_after (block_of s) f bytes (body_in r)))

abbrev pub marks_framed : Described → Bool → Received → ℕ → List ℕ → List Arrival
marks_framed s closed r f bytes = cond closed (marks_of r) (unless (frame_said s (held_in r) f bytes) (marks_of r) (marks_after (block_of s) f bytes (marks_of r)))

abbrev pub copies_framed : Described → Bool → Received → ℕ → List ℕ → Copies
copies_framed s closed r f bytes =
    cond closed (copies_of (block_of s) (held_in r)) (unless (frame_said s (held_in r) f bytes) (copies_of (block_of s) (held_in r)) (with_frame (block_of s) (copies_of (block_of s) (held_in r)) f bytes))

-- ---- a bench, with the meaning of its cipher and of its target

-- the same cipher and keys, and the same target and buffers, as long as they were
pub record SameBench {C T : Type 0} (b b' : Bench C T) : Type 0 where
  pub cipher : b'.cipher.now ≡ b.cipher.now
  pub tag : b'.tag ≡ b.tag
  pub target : b'.target.ghost_name ≡ b.target.ghost_name
  pub received : SameLoans b.received b'.received
  pub page : b'.page.ghost_name ≡ b.page.ghost_name
  pub body_long : length (body_in b'.received) ≡ length (body_in b.received)
  pub marks_long : length (marks_of b'.received) ≡ length (marks_of b.received)
  pub page_long : length b'.page.now ≡ length b.page.now

abbrev pub setting_on : {C T : Type 0} → (C → BlockMap) → Described → Bench C T → Setting
setting_on map s b = setting (map b.cipher.now) s (rows_in b.tag) (words_in b.tag) (length b.page.now)

abbrev pub stands_on : {C T : Type 0} → (T → TargetState) → Described → Bool → Bench C T → Standing
stands_on state s closed b = stands_by s (body_in b.received) (marks_of b.received) closed (state b.target.now)

abbrev pub buffers_on : {C T : Type 0} → Bench C T → Buffers
buffers_on b = buffers (body_in b.received) (marks_of b.received) b.page.now

-- what the buffers hold once a section is opened: no block has arrived
abbrev pub cleared_on : {C T : Type 0} → Described → Bench C T → Buffers
cleared_on s b = buffers (body_in b.received) (replicate (blocks_of s) Missing) b.page.now

-- the cipher, the body and the record are a section's
pub record Serves {C T : Type 0} (map : C → BlockMap) (s : Described) (b : Bench C T) : Type 0 where
  pub sized : (map b.cipher.now).size ≡ block_of s
  pub stored : stores s (held_in b.received) ≡ true

-- ---- calls that are made at s on buffers b, and lead to u and v

pub record Performs (w : Setting) (s u : Standing) (b v : Buffers) (c : Call) (a : Answer) : Type 0 where
  pub answer : a ≡ answer_to w s c
  pub stands : u ≡ step w s c
  pub holds : v ≡ after w s b c

-- one after the other
pub record PerformsAll (w : Setting) (s u : Standing) (b v : Buffers) (calls : List Call) (answers : List Answer) : Type 0 where
  pub answers_are : answers ≡ answers_of w s calls
  pub stands : u ≡ run w s calls
  pub holds : v ≡ buffers_after w s b calls

-- ---- the same on a bench, which leads from b to b' and from closed to closed'

abbrev pub PerformsOn : {C T : Type 0} → (C → BlockMap) → (T → TargetState) → Described → Bool → Bool → Bench C T → Bench C T → Call → Answer → Type 0
PerformsOn map state s closed closed' b b' c a = Performs (setting_on map s b) (stands_on state s closed b) (stands_on state s closed' b') (buffers_on b) (buffers_on b') c a

abbrev pub PerformsAllOn : {C T : Type 0} → (C → BlockMap) → (T → TargetState) → Described → Bool → Bool → Bench C T → Bench C T → List Call → List Answer → Type 0
PerformsAllOn map state s closed closed' b b' calls answers = PerformsAll (setting_on map s b) (stands_on state s closed b) (stands_on state s closed' b') (buffers_on b) (buffers_on b') calls answers

-- from the opening of section s on
abbrev pub RunsOn : {C T : Type 0} → (C → BlockMap) → (T → TargetState) → Described → Bool → Bench C T → Bench C T → List Call → List Answer → Type 0
RunsOn map state s closed b b' calls answers = Runs (setting_on map s b) (state b.target.now) (cleared_on s b) calls answers (state b'.target.now) closed (buffers_on b')
