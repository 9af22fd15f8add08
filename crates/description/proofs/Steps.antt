-- The recursions over bytes, as the code counts them.
use Rattle.std.proofs.Common.{◌≡◌, ℕ, not, ◌&&◌, eqb, List, [], ◌∷◌, refl, inl, inr, arith}
use Rattle.std.specs.List.{prefix_len}
use Rattle.std.proofs.lemmas.Bool.{eq-eqb, ne_eqb, cases_eq}
use Rattle.description.specs.Scan.{blank_len, word_len}

pub blank_prefix : (xs : List ℕ) → prefix_len (λ x. eqb x 32) xs ≡ blank_len xs
blank_prefix [] = refl
blank_prefix (x ∷ xs) =
    elim (cases_eq x 32) [
      | inl e ↦ rw (eq-eqb x 32 e) (omega (arith, blank_prefix xs))
      | inr n ↦ rw (ne_eqb x 32 n)
    ]

pub word_prefix : (xs : List ℕ) → prefix_len (λ x. not (eqb x 32) && not (eqb x 10)) xs ≡ word_len xs
word_prefix [] = refl
word_prefix (x ∷ xs) =
    elim (cases_eq x 32) [
      | inl e ↦ rw (eq-eqb x 32 e)
      | inr n ↦ elim (cases_eq x 10) [
        | inl e ↦ rw (ne_eqb x 32 n, eq-eqb x 10 e)
        | inr m ↦ rw (ne_eqb x 32 n, ne_eqb x 10 m) (omega (arith, word_prefix xs))
      ]
    ]
