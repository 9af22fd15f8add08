-- Turns of the loops that apply the transformations.
use Rattle.std.proofs.Common.{◌≡◌, ℕ, suc, ◌+◌, ◌-◌, ◌<◌, List, [], ◌∷◌, ◌++◌, map, length, get_or, take, drop, set, sym, refl, ap, ◌∙◌, arith}
use Rattle.std.proofs.lemmas.List.Edits.{map_over_more}
use Rattle.std.proofs.lemmas.List.{drop_more, drop_all, get_or_default, set_at}
use Rattle.kuznyechik.specs.Steps.{combined, ℓ, R, R⁻¹, times}

-- a table put over the bytes of a block: those before place i are done
abbrev pub over : List ℕ → ℕ → List ℕ → List ℕ
over table i a = map (λ b. get_or table b 0) (take i a) ++ drop i a

pub over_more : (table a now : List ℕ) (i x : ℕ) → i < length a → length now ≡ length a → now ≡ over table i a → x ≡ get_or table (get_or now i 0) 0 → set now i x ≡ over table (i + 1) a
over_more table a now i x h k e y =
    ap (set now i) y ∙ map_over_more (λ b. get_or table b 0) a now i (get_or now i 0) h e (get_or_default now i 0 (get_or now i 0) (omega arith))

-- the sum of no products
pub combined_no_factor : (cs bs : List ℕ) → length cs ≡ 0 → combined cs bs ≡ 0
combined_no_factor [] bs h = refl
combined_no_factor (c ∷ cs) bs h = absurd (omega arith)

pub combined_no_byte : (cs bs : List ℕ) → length bs ≡ 0 → combined cs bs ≡ 0
combined_no_byte [] bs h = refl
combined_no_byte (c ∷ cs) [] h = refl
combined_no_byte (c ∷ cs) (b ∷ bs) h = absurd (omega arith)

-- one time less is left
pub times_more : (f : List ℕ → List ℕ) (n i : ℕ) (a b : List ℕ) → i < n → b ≡ f a → times (n - (i + 1)) f b ≡ times (n - i) f a
times_more f n i a b h e =
    let s : n - i ≡ suc (n - (i + 1)) = omega arith in
    ap (times (n - (i + 1)) f) e ∙ ap (λ (k : ℕ). times k f a) (sym s)

-- a block turned by one place, and l put in
pub shifted : (a turned : List ℕ) (first : ℕ) → length a ≡ 16 → turned ≡ drop (length a - 1) a ++ take (length a - 1) a → first ≡ ℓ a → set turned 0 first ≡ R a
unfolding R
shifted a turned first h e y =
    let n : length a - 1 ≡ 15 = omega arith in
    let k : 15 < length a = omega arith in
    rw (e, n, drop_more a 15 0 k, drop_all 16 a (omega arith), y)

pub unshifted : (a turned : List ℕ) (last : ℕ) → length a ≡ 16 → turned ≡ drop 1 a ++ take 1 a → last ≡ ℓ turned → set turned 15 last ≡ R⁻¹ a
unfolding R⁻¹
unshifted [] turned last h e y = absurd (omega arith)
unshifted (x ∷ xs) turned last h e y = rw (y, e) (set_at xs x [] (ℓ (xs ++ x ∷ [])) 15 (omega arith))
