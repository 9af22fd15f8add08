-- What the calls on a target answer and do. A call that is refused changes nothing.
use Rattle.std.specs.Prelude.{ℕ, Bool, true, cond, not, List, length, replicate, Ok, Err, Result, ◌==◌, nat_le, slice_set}
use Rattle.refusals.specs.declared.Reason.{Reason}
use Rattle.refusals.specs.declared.Reason.TheVariants.{WrongBuffer, NoSuchPage, LockedPage, NotReady}
use Rattle.refusals.specs.declared.Layer.TheVariants.{Target}
use Rattle.refusals.specs.Codes.{Code, refuse}
use Rattle.targets.specs.State.{TargetState, page_of, is_locked, is_ready}

-- refused if so, else as what follows says
abbrev pub refused_if : Bool → Reason → ℕ → Result Unit Code → Result Unit Code
refused_if so why place rest = cond so (Err (refuse why place Target)) rest

-- what holds after a call: what it makes, or, if it is refused, what was
abbrev pub after : {X : Type 0} → Result Unit Code → X → X → X
after (Ok u) was made = made
after (Err e) was made = was

-- page p holds the bytes, and is ready or not
abbrev pub with_page : TargetState → ℕ → List ℕ → Bool → TargetState
with_page t p bytes ready = record {
  page_length = t.page_length;
  page_count = t.page_count;
  fill = t.fill;
  pages = slice_set t.pages p bytes;
  locked = t.locked;
  ready = slice_set t.ready p ready;
  rewritable = t.rewritable;
}

-- ---- erasing page p

abbrev pub erase_answer : TargetState → ℕ → Result Unit Code
erase_answer t p = refused_if (nat_le t.page_count p) NoSuchPage p (refused_if (is_locked t p) LockedPage p (Ok tt))

abbrev pub erased : TargetState → ℕ → TargetState
erased t p = after (erase_answer t p) t (with_page t p (replicate t.page_length t.fill) true)

-- ---- reading page p into a buffer of n bytes

-- what reading and programming both ask: a page that is there, and a buffer as long as a page
abbrev pub reading : TargetState → ℕ → ℕ → Result Unit Code → Result Unit Code
reading t p n rest = refused_if (nat_le t.page_count p) NoSuchPage p (refused_if (not (n == t.page_length)) WrongBuffer 0 rest)

abbrev pub read_answer : TargetState → ℕ → ℕ → Result Unit Code
read_answer t p n = reading t p n (Ok tt)

-- what the buffer then holds
abbrev pub read_out : TargetState → ℕ → List ℕ → List ℕ
read_out t p out = after (read_answer t p (length out)) out (page_of t p)

-- ---- programming page p with n bytes

abbrev pub program_answer : TargetState → ℕ → ℕ → Result Unit Code
program_answer t p n = reading t p n (refused_if (is_locked t p) LockedPage p (refused_if (not (is_ready t p)) NotReady p (Ok tt)))

abbrev pub programmed : TargetState → ℕ → List ℕ → TargetState
programmed t p bytes = after (program_answer t p (length bytes)) t (with_page t p bytes t.rewritable)
