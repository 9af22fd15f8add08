-- The words ahead, as the scanner finds them.
use Rattle.std.proofs.Common.{◌≡◌, ℕ, ◌+◌, cond, eqb, List, [], ◌∷◌, length, take, drop, sym, refl, ◌∙◌, inl, inr, add-one, arith}
use Rattle.std.proofs.lemmas.Bool.{eq-eqb, ne_eqb, cases_eq}
use Rattle.description.specs.Text.{split, kept, words}
use Rattle.description.specs.Words.{token_of, tokens}
use Rattle.description.specs.Scan.{blank_len, word_len, line_of, after_line, ahead}

-- the parts of the line after its first
later : List ℕ → List (List ℕ)
later [] = []
later (x ∷ xs) = cond (eqb x 32) (split 32 (line_of xs)) (cond (eqb x 10) [] (later xs))

first_part : (ys : List ℕ) → split 32 (line_of ys) ≡ take (word_len ys) ys ∷ later ys
unfolding later
first_part [] = refl
first_part (x ∷ xs) =
    elim (cases_eq x 32) [
      | inl e ↦ rw (eq-eqb x 32 e, e)
      | inr n ↦ elim (cases_eq x 10) [
        | inl e ↦ rw (ne_eqb x 32 n, eq-eqb x 10 e)
        | inr m ↦ rw (ne_eqb x 32 n, ne_eqb x 10 m, ne_eqb x 32 n, first_part xs, add-one)
      ]
    ]

rest_parts : (ys : List ℕ) → split 32 (line_of (drop (word_len ys) ys)) ≡ [] ∷ later ys
unfolding later
rest_parts [] = refl
rest_parts (x ∷ xs) =
    elim (cases_eq x 32) [
      | inl e ↦ rw (eq-eqb x 32 e, e)
      | inr n ↦ elim (cases_eq x 10) [
        | inl e ↦ rw (ne_eqb x 32 n, eq-eqb x 10 e, eq-eqb x 10 e)
        | inr m ↦ rw (ne_eqb x 32 n, ne_eqb x 10 m, add-one, rest_parts xs)
      ]
    ]

word_after : (ys : List ℕ) → after_line (drop (word_len ys) ys) ≡ after_line ys
unfolding after_line
word_after [] = refl
word_after (x ∷ xs) =
    elim (cases_eq x 32) [
      | inl e ↦ rw (eq-eqb x 32 e)
      | inr n ↦ elim (cases_eq x 10) [
        | inl e ↦ rw (ne_eqb x 32 n, eq-eqb x 10 e, eq-eqb x 10 e)
        | inr m ↦ rw (ne_eqb x 32 n, ne_eqb x 10 m, add-one, word_after xs)
      ]
    ]

kept_word : (ys : List ℕ) (ps : List (List ℕ)) → (word_len ys ≡ 0 → ⊥) → kept (take (word_len ys) ys ∷ ps) ≡ take (word_len ys) ys ∷ kept ps
kept_word [] ps h = absurd (h refl)
kept_word (x ∷ xs) ps h =
    elim (cases_eq x 32) [
      | inl e ↦ absurd (h (rw (eq-eqb x 32 e)))
      | inr n ↦ elim (cases_eq x 10) [
        | inl e ↦ absurd (h (rw (ne_eqb x 32 n, eq-eqb x 10 e)))
        | inr m ↦ rw (ne_eqb x 32 n, ne_eqb x 10 m, add-one)
      ]
    ]

word-ahead : (ys : List ℕ) → (word_len ys ≡ 0 → ⊥) → ahead ys ≡ token_of (take (word_len ys) ys) ∷ ahead (drop (word_len ys) ys)
unfolding ahead tokens words
word-ahead ys h = rw (first_part ys, rest_parts ys, kept_word ys (later ys) h)

blanks_ahead : (xs : List ℕ) → ahead (drop (blank_len xs) xs) ≡ ahead xs
unfolding ahead tokens words
blanks_ahead [] = refl
blanks_ahead (x ∷ xs) =
    elim (cases_eq x 32) [
      | inl e ↦ rw (eq-eqb x 32 e, add-one, blanks_ahead xs, e)
      | inr n ↦ rw (ne_eqb x 32 n)
    ]

blanks_after : (xs : List ℕ) → after_line (drop (blank_len xs) xs) ≡ after_line xs
unfolding after_line
blanks_after [] = refl
blanks_after (x ∷ xs) =
    elim (cases_eq x 32) [
      | inl e ↦ rw (eq-eqb x 32 e, add-one, blanks_after xs, e)
      | inr n ↦ rw (ne_eqb x 32 n)
    ]

no_blank : (xs : List ℕ) → blank_len (drop (blank_len xs) xs) ≡ 0
no_blank [] = refl
no_blank (x ∷ xs) =
    elim (cases_eq x 32) [
      | inl e ↦ rw (eq-eqb x 32 e, add-one, no_blank xs)
      | inr n ↦ rw (ne_eqb x 32 n, ne_eqb x 32 n)
    ]

at_end : (ys : List ℕ) → blank_len ys ≡ 0 → word_len ys ≡ 0 → (ahead ys ≡ []) × (drop 1 ys ≡ after_line ys)
unfolding ahead tokens words after_line
at_end [] b w = (refl, refl)
at_end (x ∷ xs) b w =
    elim (cases_eq x 32) [
      | inl e ↦ absurd (let more : blank_len xs + 1 ≡ 0 = rw (eq-eqb x 32 e) at b in omega arith)
      | inr n ↦ elim (cases_eq x 10) [
        | inl e ↦ (rw e, rw (eq-eqb x 10 e))
        | inr m ↦ absurd (let more : word_len xs + 1 ≡ 0 = rw (ne_eqb x 32 n, ne_eqb x 10 m) at w in omega arith)
      ]
    ]

-- no word is left on the line
pub line_end : (xs : List ℕ) → word_len (drop (blank_len xs) xs) ≡ 0 → (ahead xs ≡ []) × (drop 1 (drop (blank_len xs) xs) ≡ after_line xs)
line_end xs h =
    let at = at_end (drop (blank_len xs) xs) (no_blank xs) h in (sym (blanks_ahead xs) ∙ at.0, at.1 ∙ blanks_after xs)

-- one word on
pub word_next : (xs : List ℕ) → (word_len (drop (blank_len xs) xs) ≡ 0 → ⊥) →
    (ahead xs ≡ token_of (take (word_len (drop (blank_len xs) xs)) (drop (blank_len xs) xs)) ∷ ahead (drop (word_len (drop (blank_len xs) xs)) (drop (blank_len xs) xs)))
    × (after_line (drop (word_len (drop (blank_len xs) xs)) (drop (blank_len xs) xs)) ≡ after_line xs)
word_next xs h = (sym (blanks_ahead xs) ∙ word-ahead (drop (blank_len xs) xs) h, word_after (drop (blank_len xs) xs) ∙ blanks_after xs)

pub drop_none : (ys : List ℕ) → length ys ≡ 0 → drop 1 ys ≡ ys
drop_none [] e = refl
drop_none (y ∷ ys) e = absurd (omega arith)
