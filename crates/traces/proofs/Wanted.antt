-- Wanted blocks that have no copy.
use Rattle.std.proofs.Common.{◌≡◌, ℕ, suc, ◌<◌, ◌≤◌, Bool, true, false, not, ◌&&◌, eqb, List, [], is_some, Some, None, Option, unwrap_or, sym, refl, ap, ◌∙◌, inl, inr, ⊎_elim, arith}
use Rattle.std.proofs.lemmas.Bool.{cases_lt, and_parts, and_from, or_cases, eqb-true, eq-eqb, or_left, or_right, not-true, not-false, both_ways}
use Rattle.modes.specs.declared.mode.Mode.{Mode}
use Rattle.modes.specs.declared.mode.Mode.TheVariants.{Codebook, Counter, Feedback}
use Rattle.modes.specs.Modes.{Depends}
use Rattle.downloads.specs.Marks.{lowest}
use Rattle.downloads.specs.Copies.{Copies, Has, lacks, copy_at}
use Rattle.downloads.specs.Blocks.{depends}
use Rattle.traces.specs.Promise.{Lowest, Missing}
use Rattle.downloads.proofs.Lowest.{found, none_found}

pub depends_true : (mode : Mode) (i k : ℕ) → Depends mode i k → depends mode i k ≡ true
depends_true Codebook i k h = eq-eqb k i h
depends_true Counter i k h = eq-eqb k i h
depends_true Feedback i k h = ⊎_elim (λ e. or_left (eqb k i) (eqb (suc k) i) (eq-eqb k i e)) (λ e. or_right (eqb k i) (eqb (suc k) i) (eq-eqb (suc k) i e)) h

pub depends_back : (mode : Mode) (i k : ℕ) → depends mode i k ≡ true → Depends mode i k
depends_back Codebook i k h = eqb-true k i h
depends_back Counter i k h = eqb-true k i h
depends_back Feedback i k h = ⊎_elim (λ e. inl (eqb-true k i e)) (λ e. inr (eqb-true (suc k) i e)) (or_cases (eqb k i) (eqb (suc k) i) h)

-- ---- a copy is there, or not
pub has_of : (copies : Copies) (k : ℕ) (o : Option (List ℕ)) → copies k ≡ o → is_some o ≡ true → Has copies k
has_of copies k None q e = absurd (both_ways false refl e)
has_of copies k (Some b) q e = (b, q)

pub none_of : (o : Option (List ℕ)) → is_some o ≡ false → o ≡ None
none_of None e = refl
none_of (Some b) e = absurd (both_ways true e refl)

pub copy_is : (copies : Copies) (k : ℕ) (b : List ℕ) → copies k ≡ Some b → copy_at copies k ≡ b
copy_is copies k b e = ap (λ (o : Option (List ℕ)). unwrap_or o []) e

-- a test for what is wanted, with what it says, below m
module _ (Want : ℕ → Type 0) (want : ℕ → Bool) (copies : Copies) (m : ℕ) (yes : (k : ℕ) → Want k → want k ≡ true) (back : (k : ℕ) → want k ≡ true → Want k) (low : (k : ℕ) → Want k → k < m) where
  abbrev lacking : ℕ → Bool
  lacking k = want k && lacks copies k

  -- none is found: each that is wanted has a copy
  pub wanted_has : lowest lacking 0 m ≡ None → (k : ℕ) → Want k → Has copies k
  wanted_has e k h =
      let f = none_found lacking m 0 e k (omega arith) (omega (arith, low k h)) in
      has_of copies k (copies k) refl (not-false (is_some (copies k)) (sym (ap (λ (b : Bool). b && lacks copies k) (yes k h)) ∙ f))

  -- one is found: it is the lowest that has none
  pub wanted_lacks : (k : ℕ) → lowest lacking 0 m ≡ Some k → Lowest (Missing Want copies) k
  wanted_lacks k e =
      let p = found lacking m 0 k e in
      let t = and_parts (want k) (lacks copies k) p.passes in
      record {
        holds = (back k t.0, none_of (copies k) (not-true (is_some (copies k)) t.1));
        least = λ j h. ⊎_elim (λ (b : j < k).
            let f : lacking j ≡ true = and_from (want j) (lacks copies j) (yes j h.0) (ap (λ (o : Option (List ℕ)). not (is_some o)) h.1) in
            absurd (both_ways (lacking j) (p.first j (omega arith) b) f)) (λ (b : k ≤ j). b) (cases_lt j k);
      }
