-- Targets over lent memory.
use Rattle.std.specs.Prelude.{ℕ, zero, suc, ◌*◌, Bool, cond, ◌&&◌, List, [], ◌∷◌, length, take, drop, replicate, Ok, Err, Result, ◌==◌}
use Rattle.refusals.specs.declared.Reason.TheVariants.{WrongBuffer}
use Rattle.refusals.specs.declared.Layer.TheVariants.{Target}
use Rattle.refusals.specs.Codes.{Code, refuse}
use Rattle.description.specs.Limits.{allowed_length, allowed_count}
use Rattle.targets.specs.declared.paged.Paged.{Paged}
use Rattle.targets.specs.State.{TargetState}

-- pages of n bytes each that lie in memory in turn
abbrev pub pages_in : ℕ → ℕ → List ℕ → List (List ℕ)
pages_in n zero memory = []
pages_in n (suc count) memory = take n memory ∷ pages_in n count (drop n memory)

-- a target of that many pages of n bytes in memory; of the marks, those of its pages
abbrev pub laid_out : Bool → ℕ → ℕ → ℕ → List ℕ → List Bool → List Bool → TargetState
laid_out rewritable n count fill memory locked ready = record {
  page_length = n;
  page_count = count;
  fill = fill;
  pages = pages_in n count memory;
  locked = take count locked;
  ready = take count ready;
  rewritable = rewritable;
}

abbrev pub state_of : {K : Type 0} → Bool → Paged K → TargetState
state_of rewritable t = laid_out rewritable t.page_length t.page_count t.fill t.memory.now t.locked t.ready

-- building one: the memory has to be of exactly its pages. If it is rewritable, every page is ready,
-- else none
abbrev pub built : Bool → List ℕ → ℕ → ℕ → ℕ → List Bool → Result TargetState Code
built rewritable memory n count fill locked =
    cond (allowed_length n && (allowed_count count && length memory == n * count)) (Ok (laid_out rewritable n count fill memory locked (replicate 1024 rewritable))) (Err (refuse WrongBuffer 0 Target))
