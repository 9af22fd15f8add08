-- What holds over every sequence of calls.
use Rattle.std.specs.Prelude.{◌≡◌, ℕ, true, List, [], ◌∷◌, length, replicate, Ok}
use Rattle.targets.specs.State.{TargetState, page_of, is_locked}
use Rattle.targets.specs.Calls.{erase_answer, erased, program_answer, programmed, read_out}

-- a call, granted or refused
pub data Step : Type 0 where
  erase : ℕ → Step
  program : ℕ → List ℕ → Step
  read : ℕ → Step

abbrev pub step : TargetState → Step → TargetState
step t (erase p) = erased t p
step t (program p bytes) = programmed t p bytes
step t (read p) = t

-- one call after the other
abbrev pub run : TargetState → List Step → TargetState
run t [] = t
run t (s ∷ steps) = run (step t s) steps

-- the call erases or programs page p
abbrev pub Alters : TargetState → ℕ → Step → Type 0
Alters t p (erase q) = (q ≡ p) × (erase_answer t q ≡ Ok tt)
Alters t p (program q bytes) = (q ≡ p) × (program_answer t q (length bytes) ≡ Ok tt)
Alters t p (read q) = ⊥

-- none of the calls does
abbrev pub Untouched : TargetState → ℕ → List Step → Type 0
Untouched t p [] = Unit {0}
Untouched t p (s ∷ steps) = (Alters t p s → ⊥) × Untouched (step t s) p steps

-- a page reads back as it was programmed until it is erased or programmed again, whatever happens to
-- other pages
abbrev pub ReadsBack : TargetState → ℕ → List ℕ → Type 0
ReadsBack t p bytes =
    program_answer t p (length bytes) ≡ Ok tt → (steps : List Step) → Untouched (programmed t p bytes) p steps →
    (out : List ℕ) → length out ≡ t.page_length → read_out (run (programmed t p bytes) steps) p out ≡ bytes

-- a locked page keeps its bytes through every sequence of calls
abbrev pub LocksKeep : TargetState → Type 0
LocksKeep t = (p : ℕ) → is_locked t p ≡ true → (steps : List Step) → page_of (run t steps) p ≡ page_of t p

-- every page is ready, and stays so through every sequence of calls
abbrev pub AlwaysReady : TargetState → Type 0
AlwaysReady t = (steps : List Step) → (run t steps).ready ≡ replicate t.page_count true
