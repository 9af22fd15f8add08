-- Each transformation is undone by its inverse, and so is the cipher, for all round keys.
use Rattle.std.proofs.Common.{◌≡◌, ℕ, zero, suc, ◌<◌, List, [], ◌∷◌, ◌++◌, map, length, get_or, take, drop, sym, refl, ap, ◌∙◌, ap₂, inr, arith}
use lib.Bits.{bit_xor, xor_assoc, xor_comm, xor_self, xor_zero_r, xor_lt}
use Rattle.std.specs.List.{AllByRecursion}
use Rattle.std.proofs.ByRecursion.{All-map, All-weaker, All-take, All-append, All-from_get_or}
use Rattle.std.proofs.lemmas.List.{length-map, length-take, length-append, take-append-drop, take_at, drop_more, drop_all}
use Rattle.blocks.specs.Bytes.{Bytes, Block, xored}
use Rattle.blocks.specs.Ciphers.{Lawful}
use Rattle.blocks.proofs.Words.{bytes_from}
use Rattle.blocks.proofs.Xors.{xored-length, xored_bytes}
use Rattle.kuznyechik.specs.Pi.{pi, pi⁻¹}
use Rattle.kuznyechik.specs.Field.{product}
use Rattle.kuznyechik.specs.Steps.{X, S, S⁻¹, factors, combined, ℓ, R, R⁻¹, times, L, L⁻¹, LSX, XS⁻¹L⁻¹}
use Rattle.kuznyechik.specs.Cipher.{OfBytes, enciphered, deciphered, kuznyechik}
use Rattle.kuznyechik.specs.law.Entries.{Entry, replaced, put_back}
use Rattle.kuznyechik.specs.law.Products.{product_lt, product_one}

-- f takes blocks to blocks, and g undoes it
pub record Undoes (g f : List ℕ → List ℕ) : Type 0 where
  pub stays : (a : List ℕ) → Block 16 a → Block 16 (f a)
  pub back : (a : List ℕ) → Block 16 a → g (f a) ≡ a

then : (f g h k : List ℕ → List ℕ) → Undoes g f → Undoes k h → Undoes (λ a. g (k a)) (λ a. h (f a))
then f g h k p q = record {
  stays = λ a b. q.stays (f a) (p.stays a b);
  back = λ a b. ap g (q.back (f a) (p.stays a b)) ∙ p.back a b;
}

-- X
xor_gone : (a b : ℕ) → bit_xor (bit_xor a b) b ≡ a
xor_gone a b = xor_assoc a b b ∙ (ap (bit_xor a) (xor_self b) ∙ xor_zero_r a)

xored_back : (a k : List ℕ) → xored (xored a k) k ≡ a
xored_back [] k = refl
xored_back (x ∷ xs) [] = refl
xored_back (x ∷ xs) (y ∷ ys) = ap₂ (λ (z : ℕ) (zs : List ℕ). z ∷ zs) (xor_gone x y) (xored_back xs ys)

X_undone : (k : List ℕ) → Bytes k → Undoes (X k) (X k)
unfolding X
X_undone k w = record { stays = λ a b. (xored-length a k ∙ b.0, xored_bytes a k b.1 w); back = λ a b. xored_back a k }

-- S, by what holds of the tables
module _ (xs ys : List ℕ) (entries : (b : ℕ) → b < 256 → Entry xs ys b) where
  map_back : (a : List ℕ) → Bytes a → map (λ b. get_or ys b 0) (map (λ b. get_or xs b 0) a) ≡ a
  map_back [] w = refl
  map_back (b ∷ bs) w = ap₂ (λ (z : ℕ) (zs : List ℕ). z ∷ zs) (entries b w.0).back (map_back bs w.1)

  map_undone : Undoes (λ a. map (λ b. get_or ys b 0) a) (λ a. map (λ b. get_or xs b 0) a)
  map_undone = record {
    stays = λ a b. (
      length-map a (λ x. get_or xs x 0) ∙ b.0,
      All-map (λ x. x < 256) (λ x. get_or xs x 0) a (All-weaker (λ x. x < 256) (λ x. get_or xs x 0 < 256) (λ x h. (entries x h).byte) a b.1),
    );
    back = λ a b. map_back a b.1;
  }

S_undone : Undoes S⁻¹ S
unfolding S S⁻¹
S_undone = map_undone pi pi⁻¹ replaced

S⁻¹_undone : Undoes S S⁻¹
unfolding S S⁻¹
S⁻¹_undone = map_undone pi⁻¹ pi put_back

-- l: the factor of a0 is 1
combined_lt : (cs bs : List ℕ) → Bytes bs → combined cs bs < 256
combined_lt [] bs w = omega arith
combined_lt (c ∷ cs) [] w = omega arith
combined_lt (c ∷ cs) (b ∷ bs) w = xor_lt 8 (product c b) (combined cs bs) (product_lt c b w.0) (combined_lt cs bs w.1)

combined_last : (cs bs : List ℕ) (x : ℕ) → length cs ≡ length bs → combined (cs ++ 1 ∷ []) (bs ++ x ∷ []) ≡ bit_xor x (combined cs bs)
combined_last [] [] x h = ap (λ (n : ℕ). bit_xor n 0) (product_one x)
combined_last [] (b ∷ bs) x h = absurd (omega arith)
combined_last (c ∷ cs) [] x h = absurd (omega arith)
combined_last (c ∷ cs) (b ∷ bs) x h =
    let p = product c b in
    let n = combined cs bs in
    ap (bit_xor p) (combined_last cs bs x (omega arith)) ∙ (sym (xor_assoc p x n) ∙ (ap (λ (m : ℕ). bit_xor m n) (xor_comm p x) ∙ xor_assoc x p n))

front : List ℕ → ℕ
front bs = combined (take 15 factors) bs

ℓ_last : (bs : List ℕ) (x : ℕ) → length bs ≡ 15 → ℓ (bs ++ x ∷ []) ≡ bit_xor x (front bs)
unfolding factors ℓ front
ℓ_last bs x h = combined_last (take 15 factors) bs x (sym h)

ℓ_lt : (a : List ℕ) → Bytes a → ℓ a < 256
unfolding ℓ
ℓ_lt a w = combined_lt factors a w

-- what l makes of the last byte, it takes back
ℓ_back : (bs : List ℕ) (x : ℕ) → length bs ≡ 15 → ℓ (bs ++ ℓ (bs ++ x ∷ []) ∷ []) ≡ x
ℓ_back bs x h = ℓ_last bs (ℓ (bs ++ x ∷ [])) h ∙ (ap (λ (n : ℕ). bit_xor n (front bs)) (ℓ_last bs x h) ∙ xor_gone x (front bs))

-- R
split_last : (a : List ℕ) → length a ≡ 16 → take 15 a ++ get_or a 15 0 ∷ [] ≡ a
split_last a h =
    let k : 15 < length a = omega arith in
    let e : drop 15 a ≡ get_or a 15 0 ∷ [] = drop_more a 15 0 k ∙ ap (λ (xs : List ℕ). get_or a 15 0 ∷ xs) (drop_all 16 a (omega arith)) in
    ap (λ (xs : List ℕ). take 15 a ++ xs) (sym e) ∙ take-append-drop 15 a

R_back : (a : List ℕ) → Block 16 a → R⁻¹ (R a) ≡ a
unfolding R R⁻¹
R_back a b =
    let e = split_last a b.0 in
    let n : length (take 15 a) ≡ 15 = length-take 15 a ∙ omega arith in
    ap (λ (x : ℕ). take 15 a ++ x ∷ []) (ap (λ (zs : List ℕ). ℓ (take 15 a ++ ℓ zs ∷ [])) (sym e) ∙ ℓ_back (take 15 a) (get_or a 15 0) n) ∙ e

R_forth : (a : List ℕ) → Block 16 a → R (R⁻¹ a) ≡ a
unfolding R R⁻¹
R_forth [] b = absurd (omega (arith, b.0))
R_forth (x ∷ xs) b =
    let n : length xs ≡ 15 = omega (arith, b.0) in
    ap₂ (λ (z : ℕ) (zs : List ℕ). z ∷ zs) (ℓ_back xs x n) (take_at xs (ℓ (xs ++ x ∷ []) ∷ []) 15 n)

R_undone : Undoes R⁻¹ R
unfolding R
R_undone = record {
  stays = λ a b. (ap suc (length-take 15 a) ∙ omega (arith, b.0), (ℓ_lt a b.1, All-take (λ x. x < 256) 15 a b.1));
  back = R_back;
}

R⁻¹-stays : (a : List ℕ) → Block 16 a → Block 16 (R⁻¹ a)
unfolding R⁻¹
R⁻¹-stays [] b = absurd (omega (arith, b.0))
R⁻¹-stays (x ∷ xs) b =
    let turned : Bytes (xs ++ x ∷ []) = All-append (λ y. y < 256) xs (x ∷ []) b.1.1 (b.1.0, tt) in (
      length-append xs (ℓ (xs ++ x ∷ []) ∷ []) ∙ omega (arith, b.0),
      All-append (λ y. y < 256) xs (ℓ (xs ++ x ∷ []) ∷ []) b.1.1 (ℓ_lt (xs ++ x ∷ []) turned, tt),
    )

R⁻¹_undone : Undoes R R⁻¹
R⁻¹_undone = record { stays = R⁻¹-stays; back = R_forth }

-- L
times_last : (n : ℕ) (f : List ℕ → List ℕ) (a : List ℕ) → times (suc n) f a ≡ f (times n f a)
times_last zero f a = refl
times_last (suc n) f a = times_last n f (f a)

times_undone : (n : ℕ) (f g : List ℕ → List ℕ) → Undoes g f → Undoes (times n g) (times n f)
times_undone zero f g u = record { stays = λ a b. b; back = λ a b. refl }
times_undone (suc n) f g u =
    let rest = times_undone n f g u in
    let both = then f g (times n f) (times n g) u rest in
    record { stays = both.stays; back = λ a b. times_last n g (times n f (f a)) ∙ both.back a b }

L_undone : Undoes L⁻¹ L
unfolding L L⁻¹
L_undone = times_undone 16 R R⁻¹ R_undone

L⁻¹_undone : Undoes L L⁻¹
unfolding L L⁻¹
L⁻¹_undone = times_undone 16 R⁻¹ R R⁻¹_undone

-- a round
LSX_undone : (k : List ℕ) → Bytes k → Undoes (XS⁻¹L⁻¹ k) (LSX k)
unfolding LSX XS⁻¹L⁻¹
LSX_undone k w = then (λ a. S (X k a)) (λ a. X k (S⁻¹ a)) L L⁻¹ (then (X k) (X k) S S⁻¹ (X_undone k w) S_undone) L_undone

XS⁻¹L⁻¹_undone : (k : List ℕ) → Bytes k → Undoes (LSX k) (XS⁻¹L⁻¹ k)
unfolding LSX XS⁻¹L⁻¹
XS⁻¹L⁻¹_undone k w = then L⁻¹ L (λ a. X k (S⁻¹ a)) (λ a. S (X k a)) L⁻¹_undone (then S⁻¹ S (X k) (X k) S⁻¹_undone (X_undone k w))

-- all rounds
there : (keys : List (List ℕ)) → AllByRecursion Bytes keys → Undoes (deciphered keys) (enciphered keys)
there [] w = record { stays = λ a b. b; back = λ a b. refl }
there (k ∷ []) w = X_undone k w.0
there (k ∷ (l ∷ ls)) w = then (LSX k) (XS⁻¹L⁻¹ k) (enciphered (l ∷ ls)) (deciphered (l ∷ ls)) (LSX_undone k w.0) (there (l ∷ ls) w.1)

back : (keys : List (List ℕ)) → AllByRecursion Bytes keys → Undoes (enciphered keys) (deciphered keys)
back [] w = record { stays = λ a b. b; back = λ a b. refl }
back (k ∷ []) w = X_undone k w.0
back (k ∷ (l ∷ ls)) w = then (deciphered (l ∷ ls)) (enciphered (l ∷ ls)) (XS⁻¹L⁻¹ k) (LSX k) (back (l ∷ ls) w.1) (XS⁻¹L⁻¹_undone k w.0)

-- the round keys hold bytes, place by place
bytes_in : (bs : List ℕ) → Bytes bs → (j : ℕ) → get_or bs j 0 < 256
bytes_in [] w j = omega arith
bytes_in (b ∷ bs) w zero = w.0
bytes_in (b ∷ bs) w (suc j) = bytes_in bs w.1 j

pub bytes_at : (keys : List (List ℕ)) → ((i : ℕ) → i < length keys → Bytes (get_or keys i [])) → OfBytes keys
bytes_at [] w i j = omega arith
bytes_at (k ∷ ks) w zero j = bytes_in k (w 0 (omega arith)) j
bytes_at (k ∷ ks) w (suc i) j = bytes_at ks (λ n h. w (suc n) (omega arith)) i j

module _ (keys : List (List ℕ)) (small : OfBytes keys) where
  all_bytes : AllByRecursion Bytes keys
  all_bytes = All-from_get_or Bytes keys [] (λ i h. bytes_from (get_or keys i []) (small i))

  pub enciphered_undone : Undoes (deciphered keys) (enciphered keys)
  enciphered_undone = there keys all_bytes

  pub deciphered_undone : Undoes (enciphered keys) (deciphered keys)
  deciphered_undone = back keys all_bytes

  pub kuznyechik_lawful : Lawful (kuznyechik keys)
  kuznyechik_lawful = record {
    sized = inr refl;
    forward = record {
      stays = enciphered_undone.stays;
      apart = λ a b v w e. sym (enciphered_undone.back a v) ∙ (ap (deciphered keys) e ∙ enciphered_undone.back b w);
    };
    inverse = record { stays = deciphered_undone.stays; back = enciphered_undone.back; forth = deciphered_undone.back };
  }
