-- The lowest number that passes a test.
use Rattle.std.proofs.Common.{◌≡◌, ℕ, zero, suc, ◌+◌, ◌-◌, ◌<◌, ◌≤◌, Bool, true, false, is_some, Some, None, Option, sym, refl, ap, ◌∙◌, inl, inr, arith}
use Rattle.std.proofs.lemmas.Bool.{cond-true, cond-false, cases_Bool, cases_eq, false≢true}
use Rattle.std.specs.Option.{MatchOption}
use Rattle.downloads.specs.Marks.{lowest}

pub lowest_is : (test : ℕ → Bool) (m j k : ℕ) → j ≤ k → k < j + m → test k ≡ true → ((i : ℕ) → j ≤ i → i < k → test i ≡ false) → lowest test j m ≡ Some k
lowest_is test zero j k a b t f = absurd (omega arith)
lowest_is test (suc m) j k a b t f =
    elim (cases_eq j k) [
      | inl e ↦ cond-true (test j) (Some j) (lowest test (suc j) m) (ap test e ∙ t) ∙ ap Some e
      | inr ne ↦ let lt : j < k = omega arith in
          cond-false (test j) (Some j) (lowest test (suc j) m) (f j (omega arith) lt) ∙ lowest_is test m (suc j) k (omega arith) (omega arith) t (λ i x y. f i (omega arith) y)
    ]

pub lowest_none : (test : ℕ → Bool) (m j : ℕ) → ((i : ℕ) → j ≤ i → i < j + m → test i ≡ false) → lowest test j m ≡ None
lowest_none test zero j f = refl
lowest_none test (suc m) j f =
    cond-false (test j) (Some j) (lowest test (suc j) m) (f j (omega arith) (omega arith)) ∙ lowest_none test m (suc j) (λ i x y. f i (omega arith) (omega arith))

-- what is known of one that was found
pub record Found (test : ℕ → Bool) (j m k : ℕ) : Type 0 where
  pub from : j ≤ k
  pub to : k < j + m
  pub passes : test k ≡ true
  pub first : (i : ℕ) → j ≤ i → i < k → test i ≡ false

pub found : (test : ℕ → Bool) (m j k : ℕ) → lowest test j m ≡ Some k → Found test j m k
found test zero j k e = let z : ◌≡◌ {A = ℕ} 0 1 = cc in absurd (omega arith)
found test (suc m) j k e =
    elim (cases_Bool (test j)) [
      | inl t ↦ let s : Some k ≡ Some j = sym e ∙ cond-true (test j) (Some j) (lowest test (suc j) m) t in
          let q : k ≡ j = cc in record { from = omega arith; to = omega arith; passes = ap test q ∙ t; first = λ i x y. absurd (omega arith) }
      | inr t ↦ let f = found test m (suc j) k (sym (cond-false (test j) (Some j) (lowest test (suc j) m) t) ∙ e) in
          record { from = omega (arith, f.from); to = omega (arith, f.to); passes = f.passes; first = λ i x y. elim (cases_eq i j) [ inl q ↦ ap test q ∙ t | inr q ↦ f.first i (omega arith) y ] }
    ]

pub none_found : (test : ℕ → Bool) (m j : ℕ) → lowest test j m ≡ None → (i : ℕ) → j ≤ i → i < j + m → test i ≡ false
none_found test zero j e i a b = absurd (omega arith)
none_found test (suc m) j e i a b =
    elim (cases_Bool (test j)) [
      | inl t ↦ let s : Some j ≡ None = sym (cond-true (test j) (Some j) (lowest test (suc j) m) t) ∙ e in let z : ◌≡◌ {A = ℕ} 0 1 = cc in absurd (omega arith)
      | inr t ↦ elim (cases_eq i j) [
        | inl q ↦ ap test q ∙ t
        | inr q ↦ none_found test m (suc j) (sym (cond-false (test j) (Some j) (lowest test (suc j) m) t) ∙ e) i (omega arith) (omega arith)
      ]
    ]

-- one that passes is found, or a lower one
pub some_found : (test : ℕ → Bool) (m j i : ℕ) → j ≤ i → i < j + m → test i ≡ true → is_some (lowest test j m) ≡ true
some_found test m j i a b t = by_answer (lowest test j m) refl
  where
    by_answer : (o : Option ℕ) → lowest test j m ≡ o → is_some o ≡ true
    by_answer (Some k) e = refl
    by_answer None e = absurd (false≢true (sym (none_found test m j e i a b) ∙ t))

-- what a search over the numbers from lo on and before hi finds
pub searched : (test : ℕ → Bool) (lo hi : ℕ) (r : Option ℕ) →
    MatchOption r ((k : ℕ) → lo ≤ k → k < hi → test k ≡ false) (λ i. (lo ≤ i) × (i < hi) × (test i ≡ true) × ((k : ℕ) → lo ≤ k → k < i → test k ≡ false)) → r ≡ lowest test lo (hi - lo)
searched test lo hi (Some i) h = sym (lowest_is test (hi - lo) lo i h.0 (omega (arith, h.0, h.1)) h.2 h.3)
searched test lo hi None h = sym (lowest_none test (hi - lo) lo (λ k a b. h k a (omega arith)))
