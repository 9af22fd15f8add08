-- The blocks that are needed lie together.
use Rattle.std.proofs.Common.{◌≡◌, ℕ, zero, suc, ◌+◌, ◌-◌, ◌<◌, ◌≤◌, Bool, true, false, ◌&&◌, eqb, ltb, leb, ◌⊎◌, is_some, Some, None, Option, sym, refl, ap, ◌∙◌, inl, inr, arith}
use Rattle.std.proofs.lemmas.Bool.{cases_lt, and_left, and_right, or_left, or_right, lt-leb, le-leb, lt-ltb, le-ltb, eq-eqb}
use Rattle.std.proofs.lemmas.Bool.Decides.{nat_tests}
use Rattle.modes.specs.declared.mode.Mode.{Mode}
use Rattle.modes.specs.declared.mode.Mode.TheVariants.{Codebook, Counter, Feedback}
use Rattle.modes.specs.Modes.{Depends}
use Rattle.downloads.specs.Marks.{lowest}
use Rattle.downloads.specs.Blocks.{depends, first_needed}
use Rattle.downloads.proofs.Lowest.{lowest_is, lowest_none, found, none_found, some_found}

-- k is from lo on and before hi
abbrev pub in_window : ℕ → ℕ → ℕ → Bool
in_window lo hi k = leb lo k && ltb k hi

-- a test that only numbers of a window can pass
module _ (lo hi m : ℕ) (wide narrow : ℕ → Bool) (fits : hi ≤ m) (inside : (k : ℕ) → lo ≤ k → k < hi → wide k ≡ narrow k) (outside : (k : ℕ) → in_window lo hi k ≡ false → wide k ≡ false) where
  below : (k : ℕ) → (k < lo) ⊎ (hi ≤ k) → wide k ≡ false
  below k (inl l) = outside k (and_left (leb lo k) (ltb k hi) (lt-leb lo k l))
  below k (inr h) = outside k (elim (cases_lt k lo) [ inl l ↦ and_left (leb lo k) (ltb k hi) (lt-leb lo k l) | inr g ↦ rw (le-leb lo k g, le-ltb k hi h) ])

  by_answer : (o : Option ℕ) → lowest narrow lo (hi - lo) ≡ o → lowest wide 0 m ≡ o
  by_answer (Some k) e =
      let f = found narrow (hi - lo) lo k e in
      let high : k < hi = omega (arith, f.from, f.to) in
      lowest_is wide m 0 k (omega arith) (omega arith) (inside k f.from high ∙ f.passes)
      (λ i a b. elim (cases_lt i lo) [ inl l ↦ below i (inl l) | inr g ↦ inside i g (omega arith) ∙ f.first i g b ])
  by_answer None e =
      lowest_none wide m 0
      (λ i a b. elim (cases_lt i lo) [
        | inl l ↦ below i (inl l)
        | inr g ↦ elim (cases_lt i hi) [ inl h ↦ inside i g h ∙ none_found narrow (hi - lo) lo e i g (omega arith) | inr h ↦ below i (inr h) ]
      ])

  pub window : lowest narrow lo (hi - lo) ≡ lowest wide 0 m
  window = sym (by_answer (lowest narrow lo (hi - lo)) refl)

-- block i depends on the blocks of a window
pub depends_is : (mode : Mode) (i k : ℕ) → depends mode i k ≡ in_window (first_needed mode i) (i + 1) k
depends_is Codebook i k = grind (arith, nat_tests)
depends_is Counter i k = grind (arith, nat_tests)
depends_is Feedback zero k = grind (arith, nat_tests)
depends_is Feedback (suc i) k = grind (arith, nat_tests)

pub needed_le : (mode : Mode) (i : ℕ) → first_needed mode i ≤ i
needed_le Codebook i = omega arith
needed_le Counter i = omega arith
needed_le Feedback zero = omega arith
needed_le Feedback (suc i) = omega arith

pub depends_test : (mode : Mode) (i k : ℕ) → Depends mode i k → depends mode i k ≡ true
depends_test Codebook i k e = eq-eqb k i e
depends_test Counter i k e = eq-eqb k i e
depends_test Feedback i k (inl e) = or_left (eqb k i) (eqb (suc k) i) (eq-eqb k i e)
depends_test Feedback i k (inr e) = or_right (eqb k i) (eqb (suc k) i) (eq-eqb (suc k) i e)

-- ---- a run of blocks
needed_up : (mode : Mode) (a b : ℕ) → a ≤ b → first_needed mode a ≤ first_needed mode b
needed_up Codebook a b h = h
needed_up Counter a b h = h
needed_up Feedback zero b h = omega arith
needed_up Feedback (suc a) zero h = absurd (omega arith)
needed_up Feedback (suc a) (suc b) h = omega arith

in_window_lem : (lo hi k : ℕ) → lo ≤ k → k < hi → in_window lo hi k ≡ true
in_window_lem lo hi k a b = rw (le-leb lo k a, lt-ltb k hi b)

not_in : (lo hi k : ℕ) → (k < lo) ⊎ (hi ≤ k) → in_window lo hi k ≡ false
not_in lo hi k (inl l) = and_left (leb lo k) (ltb k hi) (lt-leb lo k l)
not_in lo hi k (inr h) = and_right (leb lo k) (ltb k hi) (le-ltb k hi h)

-- some block of a run depends on the blocks of a window
pub run-needs : (mode : Mode) (from m k : ℕ) → 0 < m → is_some (lowest (λ i. depends mode i k) from m) ≡ in_window (first_needed mode from) (from + m) k
run-needs mode from m k some =
    elim (cases_lt k (first_needed mode from)) [
      | inl low ↦ ap is_some (lowest_none (λ i. depends mode i k) m from (λ i a b. depends_is mode i k ∙ not_in (first_needed mode i) (i + 1) k (inl (omega (arith, needed_up mode from i a)))))
          ∙ sym (not_in (first_needed mode from) (from + m) k (inl low))
      | inr high ↦ elim (cases_lt k (from + m)) [
        | inl under ↦
            elim (cases_lt k from) [
              | inl before ↦ some_found (λ i. depends mode i k) m from from (omega arith) (omega arith) (depends_is mode from k ∙ in_window_lem (first_needed mode from) (from + 1) k high (omega arith))
              | inr at ↦ some_found (λ i. depends mode i k) m from k at under (depends_is mode k k ∙ in_window_lem (first_needed mode k) (k + 1) k (needed_le mode k) (omega arith))
            ]
            ∙ sym (in_window_lem (first_needed mode from) (from + m) k high under)
        | inr past ↦ ap is_some (lowest_none (λ i. depends mode i k) m from (λ i a b. depends_is mode i k ∙ not_in (first_needed mode i) (i + 1) k (inr (omega arith))))
            ∙ sym (not_in (first_needed mode from) (from + m) k (inr past))
      ]
    ]
