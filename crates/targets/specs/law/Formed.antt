-- A target over lent memory keeps the law of the interface.
use Rattle.std.proofs.Common.{◌≡◌, ℕ, zero, suc, ◌*◌, ◌<◌, ◌≤◌, Bool, true, List, [], length, take, drop, refl, arith, rules}
use Rattle.std.specs.List.{AllByRecursion}
use Rattle.std.proofs.ByRecursion.{All-take, All-drop}
use Rattle.std.proofs.lemmas.List.{length-take-le, length-drop}
use Rattle.blocks.specs.Bytes.{Bytes, Block}
use Rattle.description.specs.Limits.{allowed_length}
use Rattle.targets.specs.State.{WellFormed}
use Rattle.targets.specs.Paged.{laid_out, pages_in}

pub pages_length : (n count : ℕ) (memory : List ℕ) → length (pages_in n count memory) ≡ count
pages_length n zero memory = refl
pages_length n (suc count) memory = omega (arith, pages_length n count (drop n memory))

-- each holds n bytes
pub pages_held : (n count : ℕ) (memory : List ℕ) → count * n ≤ length memory → Bytes memory → AllByRecursion (Block n) (pages_in n count memory)
pages_held n zero memory h bytes = tt
pages_held n (suc count) memory h bytes = search (rules, length-take-le, length-drop, All-take, All-drop, pages_held n count (drop n memory))

pub formed : (rewritable : Bool) (n count fill : ℕ) (memory : List ℕ) (locked ready : List Bool) →
    allowed_length n ≡ true → count ≤ 1024 → length memory ≡ n * count → fill < 256 → Bytes memory → length locked ≡ 1024 → length ready ≡ 1024 →
    WellFormed (laid_out rewritable n count fill memory locked ready)
formed rewritable n count fill memory locked ready sized few exact byte bytes a b =
    record {
      sized = sized;
      counted = few;
      filled = byte;
      paged = pages_length n count memory;
      held = pages_held n count memory (omega arith) bytes;
      lock_marks = length-take-le count locked (omega arith);
      ready_marks = length-take-le count ready (omega arith);
    }
