-- How the words of a text are read one after another.
use Rattle.std.specs.Prelude.{◌≡◌, ℕ, ◌+◌, ◌<◌, cond, List, [], ◌∷◌, length, Some, None, Option, ◌==◌}
use Rattle.std.specs.Option.{option_map}
use Rattle.description.specs.declared.scanner.Scanner.{Scanner}
use Rattle.description.specs.declared.words.Word.{Word}
use Rattle.description.specs.declared.words.Word.TheVariants as word
use Rattle.description.specs.Words.{Token, keyword, number, other, tokens}

-- how many of the first bytes are spaces
abbrev pub blank_len : List ℕ → ℕ
blank_len [] = 0
blank_len (x ∷ xs) = cond (x == 32) (blank_len xs + 1) 0

-- how many of the first bytes are neither a space nor the end of a line
abbrev pub word_len : List ℕ → ℕ
word_len [] = 0
word_len (x ∷ xs) = cond (x == 32) 0 (cond (x == 10) 0 (word_len xs + 1))

-- a word as it was read: what it is, or none where the line ended
abbrev pub token_in : Word → Token
token_in (word.Keyword k) = keyword k
token_in (word.Number n) = number n
token_in (word.Other bytes) = other bytes.now

abbrev pub seen : Option Word → Option Token
seen = option_map token_in

-- what a scanner has yet to read, and the line that it is at
abbrev pub rest_of : Scanner → List ℕ
rest_of s = s.rest.now

abbrev pub line_at : Scanner → ℕ
line_at s = s.line

-- the first line of a text, and what follows it
abbrev pub line_of : List ℕ → List ℕ
line_of [] = []
line_of (x ∷ xs) = cond (x == 10) [] (x ∷ line_of xs)

unfoldable pub after_line : List ℕ → List ℕ
after_line [] = []
after_line (x ∷ xs) = cond (x == 10) xs (after_line xs)

-- the words ahead on the line
unfoldable pub ahead : List ℕ → List Token
ahead xs = tokens (line_of xs)

-- one word on, from xs at line m to ys at line n; a line's end is counted where text is left
abbrev pub Next : Option Token → List ℕ → ℕ → List ℕ → ℕ → Type 0
Next (Some t) xs m ys n = (ahead xs ≡ t ∷ ahead ys) × (after_line ys ≡ after_line xs) × (n ≡ m)
Next None xs m ys n = (ahead xs ≡ []) × (ys ≡ after_line xs) × (0 < length ys → n ≡ m + 1)

-- the line was read to its end
abbrev pub Ended : Scanner → Scanner → Type 0
Ended s t = (rest_of t ≡ after_line (rest_of s)) × (0 < length (rest_of t) → line_at t ≡ line_at s + 1)
