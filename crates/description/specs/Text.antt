-- The lines of a text and the words of a line, on lists of bytes.
use Rattle.std.specs.Prelude.{ℕ, cond, List, [], ◌∷◌, ◌==◌}

-- x put in front of the first part
abbrev pub grown : ℕ → List (List ℕ) → List (List ℕ)
grown x [] = (x ∷ []) ∷ []
grown x (part ∷ parts) = (x ∷ part) ∷ parts

-- the parts of a text between the bytes of one value
abbrev pub split : ℕ → List ℕ → List (List ℕ)
split at [] = [] ∷ []
split at (x ∷ xs) = cond (x == at) ([] ∷ split at xs) (grown x (split at xs))

-- the parts that are not empty
abbrev pub kept : List (List ℕ) → List (List ℕ)
kept [] = []
kept ([] ∷ parts) = kept parts
kept ((x ∷ xs) ∷ parts) = (x ∷ xs) ∷ kept parts

-- a line ends at byte 10 or where the text ends
unfoldable pub lines : List ℕ → List (List ℕ)
lines text = split 10 text

-- words are split by spaces, byte 32 alone
unfoldable pub words : List ℕ → List (List ℕ)
words line = kept (split 32 line)
