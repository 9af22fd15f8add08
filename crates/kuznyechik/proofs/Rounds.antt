-- One round more of the loops over the round keys.
use Rattle.std.proofs.Common.{◌≡◌, ℕ, zero, suc, ◌+◌, ◌<◌, List, [], ◌∷◌, ◌++◌, length, get_or, take, drop, refl, ap₂, arith}
use Rattle.std.proofs.lemmas.List.{drop_more, drop_all}
use Rattle.kuznyechik.specs.Steps.{X, XS⁻¹L⁻¹}
use Rattle.kuznyechik.specs.Cipher.{enciphered, deciphered}

module _ (keys : List (List ℕ)) (i : ℕ) (a : List ℕ) where
  pub enciphered_last : i + 1 ≡ length keys → enciphered (drop i keys) a ≡ X (get_or keys i []) a
  enciphered_last h = rw (drop_more keys i [] (omega arith), drop_all (i + 1) keys (omega arith))

  pub deciphered_more : i + 1 < length keys → deciphered (drop i keys) a ≡ XS⁻¹L⁻¹ (get_or keys i []) (deciphered (drop (i + 1) keys) a)
  deciphered_more h = rw (drop_more keys i [] (omega arith), drop_more keys (i + 1) [] h)

  pub deciphered_last : i + 1 ≡ length keys → deciphered (drop i keys) a ≡ X (get_or keys i []) a
  deciphered_last h = rw (drop_more keys i [] (omega arith), drop_all (i + 1) keys (omega arith))

-- the keys from the last down: without the last of those that are left, the first ones are left
pub left_less : (before keys : List (List ℕ)) (k : List ℕ) (n : ℕ) → before ++ k ∷ [] ≡ take n keys → (before ≡ take (length before) keys) × (k ≡ get_or keys (length before) [])
left_less [] keys k zero e = absurd (cc)
left_less [] [] k (suc n) e = absurd (cc)
left_less [] (x ∷ xs) k (suc n) e = (refl, cc)
left_less (b ∷ bs) keys k zero e = absurd (cc)
left_less (b ∷ bs) [] k (suc n) e = absurd (cc)
left_less (b ∷ bs) (x ∷ xs) k (suc n) e =
    let head : b ≡ x = cc in
    let tail : bs ++ k ∷ [] ≡ take n xs = cc in
    let rest = left_less bs xs k n tail in
    (ap₂ (λ (y : List ℕ) (ys : List (List ℕ)). y ∷ ys) head rest.0, rest.1)
