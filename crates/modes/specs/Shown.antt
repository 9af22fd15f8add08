-- A mode in words.
use Rattle.std.specs.Prelude.{ℕ, List, codes}
use Rattle.modes.specs.declared.mode.Mode.{Mode}
use Rattle.modes.specs.declared.mode.Mode.TheVariants.{Codebook, Counter, Feedback}

-- the printed form
abbrev pub mode_text : Mode → List ℕ
mode_text Codebook = codes "codebook"
mode_text Counter = codes "counter"
mode_text Feedback = codes "feedback"
