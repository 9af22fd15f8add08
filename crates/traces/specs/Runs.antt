-- A trace as the code runs it.
use Rattle.std.specs.Prelude.{◌≡◌, ℕ, suc, ◌<◌, ◌≤◌, Bool, true, false, ◌⊎◌, List, Ok, Err, Result, ◌==◌, slice_index_or}
use Rattle.refusals.specs.declared.Refusal.{Refusal}
use Rattle.refusals.specs.Codes.{Code}
use Rattle.blocks.specs.Ciphers.{BlockMap}
use Rattle.gost.specs.Tables.{Rows}
use Rattle.sections.specs.Entries.{Described}
use Rattle.targets.specs.State.{TargetState}
use Rattle.downloads.specs.declared.arrivals.Arrival.{Arrival}
use Rattle.downloads.specs.Copies.{copies_in, sized}
use Rattle.downloads.specs.Frames.{block_of, open_answer}
use Rattle.traces.specs.declared.call.Answer.{Answer as CodeAnswer}
use Rattle.traces.specs.declared.call.Progress.{Progress}
use Rattle.traces.specs.Traces.{Setting, Call, Answer, not_built, is_refused, Standing, standing, begun, answers_of}
use Rattle.traces.specs.Meaning.{closed_in}
use Rattle.traces.specs.Promise.{Promise, target_after, closed_after}
use Rattle.traces.specs.Buffers.{Buffers, buffers_after}

abbrev pub setting : BlockMap → Described → Rows → List ℕ → ℕ → Setting
setting cipher section rows key room = record { cipher = cipher; section = section; rows = rows; key = key; room = room }

-- where a trace stands by its buffers
abbrev pub stands_by : Described → List ℕ → List Arrival → Bool → TargetState → Standing
stands_by s body marks closed t = standing (copies_in (block_of s) body marks) closed t

-- as many answers as calls, and then what opening says
abbrev pub run_answer : ℕ → ℕ → List Described → ℕ → ℕ → ℕ → ℕ → Result Described Code
run_answer calls answers listing number n body marks = sized (answers == calls) (open_answer listing number n body marks)

-- a refusal changes nothing that was handed over
pub record Unchanged (b b' : Buffers) (answers answers' : List CodeAnswer) (t t' : TargetState) : Type 0 where
  pub same_body : b'.body ≡ b.body
  pub same_marks : b'.marks ≡ b.marks
  pub same_page : b'.page ≡ b.page
  pub same_answers : answers' ≡ answers
  pub same_target : t' ≡ t

-- how many calls were made, and whether the download is closed
abbrev pub made_in : Result Progress Refusal → ℕ
made_in (Ok p) = p.made
made_in (Err e) = 0

abbrev pub closed_to : Result Progress Refusal → Bool
closed_to (Ok p) = closed_in p.phase
closed_to (Err e) = false

-- a trace that was run on a target t and buffers b, to the target, state and buffers that it left
pub record Runs (w : Setting) (t : TargetState) (b : Buffers) (calls : List Call) (answers : List Answer) (end : TargetState) (closed : Bool) (left : Buffers) : Type 0 where
  -- the answers are those of the definitions
  pub answers_are : answers ≡ answers_of w (begun t) calls
  -- the target, the state and the buffers are as the calls and their answers tell
  pub target_is : end ≡ target_after w t calls answers
  pub closed_is : closed ≡ closed_after calls answers
  pub buffers_are : left ≡ buffers_after w (begun t) b calls
  -- the whole promise
  pub promise : Promise w t calls answers

-- how many calls of a trace are made: all of them, or, if it stops at a refusal, up to the first that is
-- refused
pub record Ends (stops : Bool) (calls : ℕ) (answers : List Answer) (made : ℕ) : Type 0 where
  pub within : made ≤ calls
  pub all : stops ≡ false → made ≡ calls
  pub before : stops ≡ true → (k : ℕ) → suc k < made → is_refused (slice_index_or answers k not_built) ≡ false
  pub end : stops ≡ true → (made ≡ calls) ⊎ ((k : ℕ) × (suc k ≡ made) × (is_refused (slice_index_or answers k not_built) ≡ true))
