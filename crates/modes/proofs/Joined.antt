-- Blocks of a text, one after the other.
use Rattle.std.proofs.Common.{◌≡◌, ℕ, zero, suc, ◌+◌, ◌-◌, ◌*◌, ◌/◌, ◌%◌, ◌<◌, ◌≤◌, min, List, ◌++◌, length, take, drop, sym, refl, ap, ◌∙◌, subst, ap₂, inl, inr, ⊎_elim, mul_comm, add-mul, mul-le-mul_left, one-mul, mul-zero, mul-one, mul-suc, mul-add, arith, take-add}
use Rattle.std.proofs.lemmas.Nat.{div-add-mod', mod_below, div-mul-add, le-div}
use Rattle.std.proofs.ByRecursion.{All-append, All-take, All-drop}
use Rattle.std.proofs.lemmas.List.{append-nil, append_assoc, drop-drop, drop_at, take_at, take_all, length-append, length-take, length-drop}
use Rattle.std.proofs.lemmas.Bool.{cases_eq, cases_lt}
use Rattle.blocks.specs.Bytes.{Bytes, block}
use Rattle.modes.specs.Modes.{joined, block_count}

-- ---- the blocks of a text of some bytes
pub count_enough : (n bytes : ℕ) → 0 < n → bytes ≤ n * block_count n bytes
count_enough n bytes h =
    let x : ℕ = bytes + n - 1 in
    omega (arith, div-add-mod' x n, mod_below x n h, mul_comm n (x / n))

pub count_tight : (n bytes : ℕ) → 0 < n → n * block_count n bytes < bytes + n
count_tight n bytes h =
    let x : ℕ = bytes + n - 1 in
    omega (arith, div-add-mod' x n, mul_comm n (x / n))

-- whole blocks, and what is left
pub count_whole : (n bytes : ℕ) → 0 < n → bytes % n ≡ 0 → block_count n bytes ≡ bytes / n
count_whole n bytes h e =
    let q : ℕ = bytes / n in
    let x : bytes + n - 1 ≡ q * n + (n - 1) = omega (arith, div-add-mod' bytes n) in
    ap (λ (k : ℕ). k / n) x ∙ div-mul-add q n (n - 1) (omega arith)

pub count_rest : (n bytes : ℕ) → 0 < n → (bytes % n ≡ 0 → ⊥) → block_count n bytes ≡ bytes / n + 1
count_rest n bytes h e =
    let q : ℕ = bytes / n in
    let r : ℕ = bytes % n in
    let x : bytes + n - 1 ≡ (q + 1) * n + (r - 1) = omega (arith, div-add-mod' bytes n, add-mul q 1 n, one-mul n) in
    ap (λ (k : ℕ). k / n) x ∙ div-mul-add (q + 1) n (r - 1) (omega (arith, mod_below bytes n h))

-- the same by a division that rounds up
pub count_ceil : (n m bytes : ℕ) → n ≡ m → 0 < m → bytes / n + min 1 (bytes % n) ≡ block_count m bytes
count_ceil n m bytes e h =
    rw e
    (elim (cases_eq (bytes % m) 0) [
      | inl whole ↦ omega (arith, count_whole m bytes h whole)
      | inr rest ↦ omega (arith, count_rest m bytes h rest)
    ])

-- each of them begins in the text
pub begins_in : (n bytes i : ℕ) → 0 < n → i < block_count n bytes → n * i < bytes
begins_in n bytes i h l =
    let le : i + 1 ≤ block_count n bytes = omega arith in
    omega (arith, count_tight n bytes h, mul-le-mul_left n le, mul-add n i 1, mul-one n)

-- so many whole blocks are among them
pub count_above : (n bytes i : ℕ) → 0 < n → n * i ≤ bytes → i ≤ block_count n bytes
count_above n bytes i h l = le-div i (bytes + n - 1) n h (omega (arith, mul_comm i n))

-- as many bytes as there are, up to a block's length
pub cut_short : (n k : ℕ) (xs : List ℕ) → k ≡ min n (length xs) → take k xs ≡ take n xs
cut_short n k xs e =
    elim (cases_lt n (length xs)) [
      | inl more ↦ ap (λ (j : ℕ). take j xs) (omega arith)
      | inr all ↦ take_all k xs (omega arith) ∙ sym (take_all n xs all)
    ]

pub length-block : (n i : ℕ) (text : List ℕ) → length (block n i text) ≡ min n (length text - n * i)
length-block n i text = simp (length-take, length-drop) refl

pub bytes_block : (n i : ℕ) (text : List ℕ) → Bytes text → Bytes (block n i text)
bytes_block n i text h = All-take (λ x. x < 256) n (drop (n * i) text) (All-drop (λ x. x < 256) (n * i) text h)

-- a block that does not pass the end is whole, and so is any but the last
pub whole_at : (n : ℕ) (text : List ℕ) (i : ℕ) → n * i + n ≤ length text → length (block n i text) ≡ n
whole_at n text i l = length-block n i text ∙ omega arith

pub whole_before : (n : ℕ) (text : List ℕ) (i : ℕ) → 0 < n → suc i < block_count n (length text) → length (block n i text) ≡ n
whole_before n text i h l =
    let le : i + 2 ≤ block_count n (length text) = omega arith in
    whole_at n text i (omega (arith, count_tight n (length text) h, mul-le-mul_left n le, mul-add n i 2))

pub whole_all : (n : ℕ) (text : List ℕ) (i : ℕ) → 0 < n → length text % n ≡ 0 → i < block_count n (length text) → length (block n i text) ≡ n
whole_all n text i h e l =
    let q : ℕ = length text / n in
    let c : ℕ = block_count n (length text) in
    let exact : length text ≡ n * q = omega (arith, div-add-mod' (length text) n, mul_comm n q) in
    let low : c ≤ q = elim (cases_lt c (q + 1)) [
      | inl small ↦ omega arith
      | inr large ↦ absurd (omega (arith, exact, count_tight n (length text) h, mul-le-mul_left n large, mul-add n q 1, mul-one n))
    ] in
    let le : i + 1 ≤ q = omega (arith, l, low) in
    whole_at n text i (omega (arith, exact, mul-le-mul_left n le, mul-add n i 1, mul-one n))

-- ---- blocks put together
-- a run of blocks of a text
blocks_some : (n c k : ℕ) (text : List ℕ) → joined (λ i. block n i text) k c ≡ take (n * c) (drop (n * k) text)
blocks_some n zero k text = sym (ap (λ (x : ℕ). take x (drop (n * k) text)) (mul-zero n))
blocks_some n (suc c) k text =
    let e : n * suc c ≡ n + n * c = omega (arith, mul-suc n c) in
    let d : drop (n * suc k) text ≡ drop n (drop (n * k) text) = ap (λ (x : ℕ). drop x text) (mul-suc n k) ∙ sym (drop-drop n (n * k) text) in
    ap (λ (x : List ℕ). block n k text ++ x) (blocks_some n c (suc k) text ∙ ap (take (n * c)) d)
    ∙ sym (ap (λ (x : ℕ). take x (drop (n * k) text)) e ∙ take-add n (n * c) (drop (n * k) text))

pub blocks_all : (n m : ℕ) (text : List ℕ) → length text ≤ n * m → joined (λ i. block n i text) 0 m ≡ text
blocks_all n m text h = blocks_some n m 0 text ∙ (ap (λ (x : ℕ). take (n * m) (drop x text)) (mul-zero n) ∙ take_all (n * m) text h)

pub joined_same : (f g : ℕ → List ℕ) (k m : ℕ) → ((i : ℕ) → k ≤ i → i < k + m → f i ≡ g i) → joined f k m ≡ joined g k m
joined_same f g k zero h = refl
joined_same f g k (suc m) h = ap₂ (λ (x y : List ℕ). x ++ y) (h k (omega arith) (omega arith)) (joined_same f g (suc k) m (λ i a b. h i (omega arith) (omega arith)))

pub joined_bytes : (f : ℕ → List ℕ) (k m : ℕ) → ((i : ℕ) → k ≤ i → i < k + m → Bytes (f i)) → Bytes (joined f k m)
joined_bytes f k zero h = tt
joined_bytes f k (suc m) h = All-append (λ x. x < 256) (f k) (joined f (suc k) m) (h k (omega arith) (omega arith)) (joined_bytes f (suc k) m (λ i a b. h i (omega arith) (omega arith)))

-- one block more at the end
pub joined_more : (f : ℕ → List ℕ) (k m : ℕ) → joined f k (suc m) ≡ joined f k m ++ f (k + m)
joined_more f k zero = append-nil (f k) ∙ ap f (omega arith)
joined_more f k (suc m) =
    let e : suc k + m ≡ k + suc m = omega arith in
    ap (λ (x : List ℕ). f k ++ x) (joined_more f (suc k) m ∙ ap (λ (j : ℕ). joined f (suc k) m ++ f j) e) ∙ sym (append_assoc (f k) (joined f (suc k) m) (f (k + suc m)))

-- blocks as long as those of a text of so many bytes
module _ (n bytes : ℕ) (f : ℕ → List ℕ) where
  pub joined_long : (k m : ℕ) → ((i : ℕ) → k ≤ i → i < k + m → length (f i) ≡ min n (bytes - n * i)) → length (joined f k m) ≡ min (n * m) (bytes - n * k)
  joined_long k zero h = omega (arith, mul-zero n)
  joined_long k (suc m) h =
      length-append (f k) (joined f (suc k) m)
      ∙ (let a = h k (omega arith) (omega arith) in
      let b = joined_long (suc k) m (λ i a b. h i (omega arith) (omega arith)) in
      omega (arith, mul-suc n m, mul-suc n k))

  -- the block that stands at its place
  pub joined_at : (k m i : ℕ) → ((j : ℕ) → k ≤ j → j < k + m → length (f j) ≡ min n (bytes - n * j)) → n * (k + m) < bytes + n → k ≤ i → i < k + m → block n (i - k) (joined f k m) ≡ f i
  joined_at k zero i h t a b = absurd (omega arith)
  joined_at k (suc m) i h t a b =
      ⊎_elim
      (λ (e : i ≡ k).
      let z : n * (i - k) ≡ 0 = let q : i - k ≡ 0 = omega arith in ap (λ (x : ℕ). n * x) q ∙ mul-zero n in
      ap (λ (x : ℕ). take n (drop x (joined f k (suc m)))) z ∙ (front m h t ∙ ap f (sym e)))
      (λ (ne : i ≡ k → ⊥).
      let lt : suc k ≤ i = omega arith in
      let w : k + 2 ≤ k + suc m = omega arith in
      let long : length (f k) ≡ n = omega (arith, h k (omega arith) (omega arith), mul-le-mul_left n w, mul-add n k 2) in
      let q : n * (i - k) ≡ n + n * (i - suc k) = let r : i - k ≡ suc (i - suc k) = omega arith in omega (arith, ap (λ (x : ℕ). n * x) r, mul-suc n (i - suc k)) in
      ap (λ (x : ℕ). take n (drop x (joined f k (suc m)))) q
      ∙ (ap (take n) (sym (drop-drop (n * (i - suc k)) n (joined f k (suc m))) ∙ ap (drop (n * (i - suc k))) (drop_at (f k) (joined f (suc k) m) n long))
      ∙ joined_at (suc k) m i (λ j a b. h j (omega arith) (omega arith)) (let r : suc k + m ≡ k + suc m = omega arith in subst (λ (x : ℕ). n * x < bytes + n) (sym r) t) lt (omega arith)))
      (cases_eq i k)
    where
      front : (m : ℕ) → ((j : ℕ) → k ≤ j → j < k + suc m → length (f j) ≡ min n (bytes - n * j)) → n * (k + suc m) < bytes + n → take n (f k ++ joined f (suc k) m) ≡ f k
      front zero h t = ap (take n) (append-nil (f k)) ∙ take_all n (f k) (omega (arith, h k (omega arith) (omega arith)))
      front (suc m) h t =
          let w : k + 2 ≤ k + suc (suc m) = omega arith in
          let long : length (f k) ≡ n = omega (arith, h k (omega arith) (omega arith), mul-le-mul_left n w, mul-add n k 2) in
          take_at (f k) (joined f (suc k) (suc m)) n long
