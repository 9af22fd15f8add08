-- Lists of a known length, element by element.
use Rattle.std.proofs.Common.{◌≡◌, ℕ, zero, suc, ◌+◌, ◌<◌, List, [], ◌∷◌, length, get_or, drop, sym, ap, arith}
use Rattle.std.proofs.lemmas.List.{drop_more, drop_all}

-- n elements from i on: at numerals it computes to get_or xs i 0 ∷ get_or xs (i + 1) 0 ∷ ..
abbrev pub spelled : ℕ → ℕ → List ℕ → List ℕ
spelled zero i xs = []
spelled (suc n) i xs = get_or xs i 0 ∷ spelled n (suc i) xs

spelled_is : (n i : ℕ) (xs : List ℕ) → length xs ≡ i + n → spelled n i xs ≡ drop i xs
spelled_is zero i xs h = sym (drop_all i xs (omega arith))
spelled_is (suc n) i xs h =
    let l : i < length xs = omega arith in
    let e : suc i ≡ i + 1 = omega arith in
    rw (drop_more xs i 0 l, ← e) (ap (λ (ys : List ℕ). get_or xs i 0 ∷ ys) (spelled_is n (suc i) xs (omega arith)))

pub spelled_all : (n : ℕ) (xs : List ℕ) → length xs ≡ n → spelled n 0 xs ≡ xs
spelled_all n xs h = spelled_is n 0 xs (omega arith)
