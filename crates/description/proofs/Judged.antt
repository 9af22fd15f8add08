-- Judging a text line by line.
use Rattle.std.proofs.Common.{◌≡◌, ℕ, ◌+◌, ◌<◌, ◌≤◌, true, ◌⊎◌, List, [], ◌∷◌, length, is_ok, OnOk, Ok, Err, Result, sym, refl, ap, ◌∙◌, subst, inl, inr, arith}
use Rattle.std.proofs.lemmas.Bool.{eq-eqb, ne_eqb, cases_eq, le-leb, lt-leb}
use Rattle.std.specs.Result.{MatchResult, IsErrAnd}
use Rattle.refusals.specs.declared.Reason.{Reason}
use Rattle.refusals.specs.declared.Refusal.{Refusal}
use Rattle.refusals.specs.declared.Reason.TheVariants.{WrongSize}
use Rattle.refusals.specs.Codes.{Code, code_of}
use Rattle.description.specs.Text.{lines, words}
use Rattle.description.specs.Words.{tokens}
use Rattle.description.specs.Judge.{Described, Draft, blank, judged_line, judged_lines, judged, completed, refused}
use Rattle.description.specs.Meaning.{taken}
use Rattle.description.specs.Scan.{line_of, after_line, ahead}

-- what is left of a text, from line n on
unfoldable pub judged_from : ℕ → Draft → List ℕ → Result Described Code
judged_from n d xs = judged_lines n d (lines xs)

-- the first line, and those of what follows it
pub lines_step : (xs : List ℕ) → (lines xs ≡ line_of xs ∷ lines (after_line xs)) ⊎ ((lines xs ≡ line_of xs ∷ []) × (after_line xs ≡ []))
unfolding lines after_line
lines_step [] = inr (refl, refl)
lines_step (x ∷ xs) =
    elim (cases_eq x 10) [
      | inl e ↦ inl (rw (eq-eqb x 10 e))
      | inr n ↦ elim (lines_step xs) [
        | inl e ↦ inl (rw (ne_eqb x 10 n, e))
        | inr p ↦ inr (rw (ne_eqb x 10 n, p.0), rw (ne_eqb x 10 n, p.1))
      ]
    ]

pub after_less : (xs : List ℕ) → 0 < length xs → length (after_line xs) < length xs
unfolding after_line
after_less [] h = absurd (omega arith)
after_less (x ∷ []) h =
    elim (cases_eq x 10) [
      | inl e ↦ rw (eq-eqb x 10 e) (omega arith)
      | inr n ↦ rw (ne_eqb x 10 n) (omega arith)
    ]
after_less (x ∷ (y ∷ ys)) h =
    elim (cases_eq x 10) [
      | inl e ↦ rw (eq-eqb x 10 e) (omega arith)
      | inr n ↦ rw (ne_eqb x 10 n) (omega (arith, after_less (y ∷ ys) (omega arith)))
    ]

pub at_end : (n : ℕ) (d : Draft) (xs : List ℕ) → length xs ≡ 0 → judged_from n d xs ≡ completed d
unfolding judged_from lines tokens words
at_end n d [] h = refl
at_end n d (x ∷ xs) h = absurd (omega arith)

-- a line that is refused
pub refused_line : (n : ℕ) (d : Draft) (xs : List ℕ) (why : Reason) → judged_line d (ahead xs) ≡ Err why → judged_from n d xs ≡ Err (refused why n)
unfolding judged_from ahead
refused_line n d xs why h =
    elim (lines_step xs) [
      | inl e ↦ rw (e, h)
      | inr p ↦ rw (p.0, h)
    ]

next_line : (n : ℕ) (d d' : Draft) (xs : List ℕ) → judged_line d (ahead xs) ≡ Ok d' → judged_from n d xs ≡ judged_from (n + 1) d' (after_line xs)
unfolding judged_from ahead
next_line n d d' xs h =
    elim (lines_step xs) [
      | inl e ↦ rw (e, h)
      | inr p ↦ rw (p.0, h) (sym (at_end (n + 1) d' (after_line xs) (ap length p.1)))
    ]

-- a line that is taken; no line is counted at the end of the text
pub taken_line : (n m : ℕ) (d d' : Draft) (xs ys : List ℕ) → judged_line d (ahead xs) ≡ Ok d' → ys ≡ after_line xs → (0 < length ys → m ≡ n + 1) → judged_from n d xs ≡ judged_from m d' ys
taken_line n m d d' xs ys h e count =
    elim (cases_eq (length ys) 0) [
      | inl z ↦ next_line n d d' xs h ∙ (at_end (n + 1) d' (after_line xs) (sym (ap length e) ∙ z) ∙ sym (at_end m d' ys z))
      | inr some ↦ let c : m ≡ n + 1 = count (omega arith) in rw (e, c) (next_line n d d' xs h)
    ]

-- a line as it was read: where the reading goes on, and where it ends
pub went_on : (r : Result Unit Reason) (d : Draft) (x : Result Draft Reason) (P : Type 0) → true ≡ is_ok r → taken r d ≡ x → OnOk r P → (x ≡ Ok d) × P
went_on (Ok u) d x P e t h = (sym t, h)
went_on (Err why) d x P e t h = absurd (let f : ◌≡◌ {A = ℕ} 0 1 = cc e in omega arith)

pub stopped_at : (r : Result Unit Reason) (m : Result Unit Refusal) (Q : Reason → Refusal → Type 0) (n : ℕ) (d d' : Draft) (xs : List ℕ) (y : Refusal) →
    m ≡ Err y → taken r d' ≡ judged_line d (ahead xs) → MatchResult r (λ x. m ≡ Ok x) (λ e. IsErrAnd m (Q e)) →
    ((e : Reason) (z : Refusal) → Q e z → code_of z ≡ refused e n) → judged_from n d xs ≡ Err (code_of y)
stopped_at (Ok u) m Q n d d' xs y is t h q = absurd (let f : ◌≡◌ {A = ℕ} 0 1 = cc (is, h) in omega arith)
stopped_at (Err why) m Q n d d' xs y is t h q =
    refused_line n d xs why (sym t) ∙ ap Err (sym (q why y (subst (λ r. IsErrAnd r (Q why)) is h)))

-- ---- the whole text

pub too_long : (text : List ℕ) → 4096 < length text → judged text ≡ Err (refused WrongSize 0)
unfolding judged
too_long text h = rw (lt-leb (length text) 4096 h)

pub from_first : (text : List ℕ) → length text ≤ 4096 → judged text ≡ judged_from 1 blank text
unfolding judged judged_from
from_first text h = rw (le-leb (length text) 4096 h)
