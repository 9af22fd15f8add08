-- Xor of byte lists.
use Rattle.std.proofs.Common.{◌≡◌, ℕ, zero, suc, ◌+◌, ◌<◌, ◌≤◌, min, List, [], ◌∷◌, ◌++◌, length, get_or, take, set, replicate, sym, refl, ap, ◌∙◌, ap₂, inl, inr, add-one, arith}
use lib.Bits.{bit_xor, xor_assoc, xor_self, xor_comm, xor_lt, xor_zero_l, xor_zero_r}
use Rattle.std.proofs.lemmas.List.{take_all}
use Rattle.std.proofs.lemmas.Bool.{cases_lt}
use Rattle.blocks.specs.Bytes.{Bytes, xored, filled}

pub xored-length : (xs ys : List ℕ) → length (xored xs ys) ≡ length xs
xored-length [] ys = refl
xored-length (x ∷ xs) [] = refl
xored-length (x ∷ xs) (y ∷ ys) = ap suc (xored-length xs ys)

pub xored_bytes : (xs ys : List ℕ) → Bytes xs → Bytes ys → Bytes (xored xs ys)
xored_bytes [] ys a b = tt
xored_bytes (x ∷ xs) [] a b = a
xored_bytes (x ∷ xs) (y ∷ ys) a b = (xor_lt 8 x y a.0 b.0, xored_bytes xs ys a.1 b.1)

-- what a place past the second list holds
pub xored_none : (xs : List ℕ) → xored xs [] ≡ xs
xored_none [] = refl
xored_none (x ∷ xs) = refl

-- one more byte
xored_suc : (i : ℕ) (xs ys : List ℕ) → i < length xs → i < length ys →
    set (xored xs (take i ys)) i (bit_xor (get_or (xored xs (take i ys)) i 0) (get_or ys i 0)) ≡ xored xs (take (suc i) ys)
xored_suc i [] ys h k = absurd (omega arith)
xored_suc i (x ∷ xs) [] h k = absurd (omega arith)
xored_suc zero (x ∷ xs) (y ∷ ys) h k = ap (λ (zs : List ℕ). bit_xor x y ∷ zs) (sym (xored_none xs))
xored_suc (suc i) (x ∷ xs) (y ∷ ys) h k = ap (λ (zs : List ℕ). bit_xor x y ∷ zs) (xored_suc i xs ys (omega arith) (omega arith))

pub xored_more : (i : ℕ) (xs ys zs : List ℕ) → i < length xs → i < length ys → zs ≡ xored xs (take i ys) →
    set zs i (bit_xor (get_or zs i 0) (get_or ys i 0)) ≡ xored xs (take (i + 1) ys)
xored_more i xs ys zs h k e = rw (e, add-one) (xored_suc i xs ys h k)

-- all of them
xored-front : (i : ℕ) (xs ys : List ℕ) → length xs ≤ i → xored xs (take i ys) ≡ xored xs ys
xored-front i [] ys h = refl
xored-front zero (x ∷ xs) ys h = absurd (omega arith)
xored-front (suc i) (x ∷ xs) [] h = refl
xored-front (suc i) (x ∷ xs) (y ∷ ys) h = ap (λ (zs : List ℕ). bit_xor x y ∷ zs) (xored-front i xs ys (omega arith))

pub xored_all : (i : ℕ) (xs ys : List ℕ) → min (length xs) (length ys) ≤ i → xored xs (take i ys) ≡ xored xs ys
xored_all i xs ys h =
    elim (cases_lt i (length xs)) [
      | inl long ↦ ap (xored xs) (take_all i ys (omega arith))
      | inr short ↦ xored-front i xs ys short
    ]

-- zeros change nothing
xored-zeros : (n : ℕ) (xs : List ℕ) → xored xs (replicate n 0) ≡ xs
xored-zeros n [] = refl
xored-zeros zero (x ∷ xs) = refl
xored-zeros (suc n) (x ∷ xs) = ap₂ (λ (z : ℕ) (zs : List ℕ). z ∷ zs) (xor_zero_r x) (xored-zeros n xs)

xored_padded : (n : ℕ) (xs ys : List ℕ) → xored xs (ys ++ replicate n 0) ≡ xored xs ys
xored_padded n xs [] = xored-zeros n xs ∙ sym (xored_none xs)
xored_padded n [] (y ∷ ys) = refl
xored_padded n (x ∷ xs) (y ∷ ys) = ap (λ (zs : List ℕ). bit_xor x y ∷ zs) (xored_padded n xs ys)

-- a part filled up with zeros is xored in as the part itself
pub xored-filled : (n : ℕ) (xs ys : List ℕ) → length xs ≤ n → xored xs (filled n ys) ≡ xored xs ys
xored-filled n xs ys h = xored-front n xs (ys ++ replicate n 0) h ∙ xored_padded n xs ys

-- ---- what is xored twice is gone
xor_undo : (x k : ℕ) → bit_xor (bit_xor x k) k ≡ x
xor_undo x k = xor_assoc x k k ∙ (ap (bit_xor x) (xor_self k) ∙ xor_zero_r x)

xor_back : (x y : ℕ) → bit_xor x (bit_xor x y) ≡ y
xor_back x y = sym (xor_assoc x x y) ∙ (ap (λ (z : ℕ). bit_xor z y) (xor_self x) ∙ xor_zero_l y)

xor_swap : (x y z : ℕ) → bit_xor (bit_xor x y) z ≡ bit_xor x (bit_xor z y)
xor_swap x y z = xor_assoc x y z ∙ ap (bit_xor x) (xor_comm y z)

abbrev cons : ℕ → List ℕ → List ℕ
cons h t = h ∷ t

pub xored_undo : (xs ys : List ℕ) → xored (xored xs ys) ys ≡ xs
xored_undo [] ys = refl
xored_undo (x ∷ xs) [] = refl
xored_undo (x ∷ xs) (y ∷ ys) = ap₂ cons (xor_undo x y) (xored_undo xs ys)

pub xored_back : (xs ys : List ℕ) → length ys ≡ length xs → xored xs (xored xs ys) ≡ ys
xored_back [] [] h = refl
xored_back [] (y ∷ ys) h = absurd (omega arith)
xored_back (x ∷ xs) [] h = absurd (omega arith)
xored_back (x ∷ xs) (y ∷ ys) h = ap₂ cons (xor_back x y) (xored_back xs ys (omega arith))

pub xored_swap : (xs ys zs : List ℕ) → length zs ≡ length xs → xored (xored xs ys) zs ≡ xored xs (xored zs ys)
xored_swap [] ys zs h = refl
xored_swap (x ∷ xs) ys [] h = absurd (omega arith)
xored_swap (x ∷ xs) [] (z ∷ zs) h = refl
xored_swap (x ∷ xs) (y ∷ ys) (z ∷ zs) h = ap₂ cons (xor_swap x y z) (xored_swap xs ys zs (omega arith))

pub get_or-xored : (xs ys : List ℕ) (p : ℕ) → length xs ≡ length ys → get_or (xored xs ys) p 0 ≡ bit_xor (get_or xs p 0) (get_or ys p 0)
get_or-xored [] [] p h = refl
get_or-xored [] (y ∷ ys) p h = absurd (omega arith)
get_or-xored (x ∷ xs) [] p h = absurd (omega arith)
get_or-xored (x ∷ xs) (y ∷ ys) zero h = refl
get_or-xored (x ∷ xs) (y ∷ ys) (suc p) h = get_or-xored xs ys p (omega arith)
