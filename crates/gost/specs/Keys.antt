-- Key words: X0 to X7 are the 32 key bytes in turn, the lowest byte of each word first.
use Rattle.std.specs.Prelude.{ℕ, cond, List, length, ◌==◌}
use Rattle.blocks.specs.Bytes.{words}

-- a key of another length than 32 bytes leaves the words as they were
abbrev pub spread : List ℕ → List ℕ → List ℕ
spread key was = cond (length key == 32) (words 8 key) was
