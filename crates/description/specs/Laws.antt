-- What holds of every description.
use Rattle.std.specs.Prelude.{◌≡◌, ℕ, ◌≤◌, ◌⊎◌, List, ◌∷◌, ◌++◌, length, Err}
use Rattle.refusals.specs.Codes.{Code}
use Rattle.description.specs.Judge.{judged}

-- what stands after the first line that is malformed or repeated never changes the answer
abbrev pub FirstBadLineDecides : Type 0
FirstBadLineDecides =
    (text more : List ℕ) (e : Code) → judged text ≡ Err e → (e.number ≡ 1) ⊎ (e.number ≡ 2) → length (text ++ 10 ∷ more) ≤ 4096 →
    judged (text ++ 10 ∷ more) ≡ Err e
