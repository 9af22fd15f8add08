-- What a word is: a keyword, a number of one to five digits, or anything else.
use Rattle.std.specs.Prelude.{ℕ, ◌+◌, ◌-◌, ◌*◌, cond, ◌&&◌, List, [], ◌∷◌, map, length, Some, None, codes, Option, nat_le}
use Rattle.std.specs.Str.{bytes_eq}
use Rattle.description.specs.declared.keywords.Keyword.{Keyword}
use Rattle.description.specs.declared.keywords.Keyword.TheVariants.{Kind, Page, Pages, Fill, Lock, Box, Flash, Ram}
use Rattle.description.specs.Text.{words}

-- the number that decimal digits write after n, if all are digits
abbrev pub digits_after : ℕ → List ℕ → Option ℕ
digits_after n [] = Some n
digits_after n (x ∷ xs) = cond (nat_le 48 x && nat_le x 57) (digits_after (n * 10 + (x - 48)) xs) None

abbrev pub number_of : List ℕ → Option ℕ
number_of word = cond (nat_le 1 (length word) && nat_le (length word) 5) (digits_after 0 word) None

abbrev pub keyword_of : List ℕ → Option Keyword
keyword_of word =
    cond (bytes_eq word (codes "kind")) (Some Kind)
    (cond (bytes_eq word (codes "page")) (Some Page)
    (cond (bytes_eq word (codes "pages")) (Some Pages)
    (cond (bytes_eq word (codes "fill")) (Some Fill)
    (cond (bytes_eq word (codes "lock")) (Some Lock)
    (cond (bytes_eq word (codes "box")) (Some Box)
    (cond (bytes_eq word (codes "flash")) (Some Flash)
    (cond (bytes_eq word (codes "ram")) (Some Ram) None)))))))

pub data Token : Type 0 where
  keyword : Keyword → Token
  number : ℕ → Token
  other : List ℕ → Token

abbrev pub by_number : List ℕ → Option ℕ → Token
by_number word (Some n) = number n
by_number word None = other word

abbrev pub by_keyword : List ℕ → Option Keyword → Token
by_keyword word (Some k) = keyword k
by_keyword word None = by_number word (number_of word)

abbrev pub token_of : List ℕ → Token
token_of word = by_keyword word (keyword_of word)

-- the words of a line, each by what it is
unfoldable pub tokens : List ℕ → List Token
tokens line = map token_of (words line)
