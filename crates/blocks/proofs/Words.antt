-- Words of four bytes, and blocks as words.
use Rattle.std.proofs.Common.{◌≡◌, ℕ, zero, suc, ◌+◌, ◌*◌, ◌/◌, ◌%◌, ◌^◌, ◌<◌, ◌≤◌, List, [], ◌∷◌, ◌++◌, length, get_or, take, drop, sym, refl, ap, ◌∙◌, pow-suc, arith}
use Rattle.std.proofs.lemmas.Nat.{div_below, shr-shr}
use Rattle.std.proofs.ByRecursion.{All-from_get_or}
use Rattle.std.proofs.lemmas.List.{drop-drop, drop_more}
use Rattle.blocks.specs.Bytes.{Bytes, word, bytes_of, words}

pub words_more : (n : ℕ) (bs : List ℕ) → words (suc n) bs ≡ words n bs ++ word (take 4 (drop (4 * n) bs)) ∷ []
words_more zero bs = refl
words_more (suc n) bs =
    let e : 4 + 4 * n ≡ 4 * suc n = omega arith in
    ap (λ (xs : List ℕ). word (take 4 bs) ∷ xs) (words_more n (drop 4 bs)
    ∙ ap (λ (xs : List ℕ). words n (drop 4 bs) ++ word (take 4 xs) ∷ []) (drop-drop (4 * n) 4 bs ∙ ap (λ (k : ℕ). drop k bs) e))

-- four elements of a list from a place on
four : (xs : List ℕ) (i : ℕ) → i + 4 ≤ length xs → take 4 (drop i xs) ≡ get_or xs i 0 ∷ get_or xs (i + 1) 0 ∷ get_or xs (i + 2) 0 ∷ get_or xs (i + 3) 0 ∷ []
four xs i h =
    let a : drop i xs ≡ get_or xs i 0 ∷ drop (i + 1) xs = drop_more xs i 0 (omega arith) in
    let b : drop (i + 1) xs ≡ get_or xs (i + 1) 0 ∷ drop (i + 1 + 1) xs = drop_more xs (i + 1) 0 (omega arith) in
    let p : i + 1 + 1 ≡ i + 2 = omega arith in
    let c : drop (i + 2) xs ≡ get_or xs (i + 2) 0 ∷ drop (i + 2 + 1) xs = drop_more xs (i + 2) 0 (omega arith) in
    let q : i + 2 + 1 ≡ i + 3 = omega arith in
    let d : drop (i + 3) xs ≡ get_or xs (i + 3) 0 ∷ drop (i + 3 + 1) xs = drop_more xs (i + 3) 0 (omega arith) in
    rw (a, b, p, c, q, d)

-- a word as u32::from_le_bytes reads it
pub word_read : (a b c d : ℕ) → a + b * 256 + c * 65536 + d * 16777216 ≡ word (a ∷ b ∷ c ∷ d ∷ [])
word_read a b c d = omega arith

-- the word from place i on
pub word_at : (bs : List ℕ) (i : ℕ) → i + 4 ≤ length bs →
    get_or bs i 0 + get_or bs (i + 1) 0 * 256 + get_or bs (i + 2) 0 * 65536 + get_or bs (i + 3) 0 * 16777216 ≡ word (take 4 (drop i bs))
word_at bs i h = word_read (get_or bs i 0) (get_or bs (i + 1) 0) (get_or bs (i + 2) 0) (get_or bs (i + 3) 0) ∙ sym (ap word (four bs i h))

pub word_lt : (bs : List ℕ) → Bytes bs → word bs < 256 ^ length bs
word_lt [] h = omega arith
word_lt (b ∷ bs) h =
    let below : word bs < 256 ^ length bs = word_lt bs h.1 in
    let byte : b < 256 = h.0 in
    rw (pow-suc 256 (length bs)) (omega arith)

pub word_bytes : (n x : ℕ) → x < 256 ^ n → word (bytes_of n x) ≡ x
word_bytes zero x h = omega arith
word_bytes (suc n) x h =
    let high : x / 256 < 256 ^ n = div_below x 256 (256 ^ n) (omega arith) (rw (pow-suc 256 n) at h) in
    rw (word_bytes n (x / 256) high) (omega arith)

pub bytes_word : (bs : List ℕ) → Bytes bs → bytes_of (length bs) (word bs) ≡ bs
bytes_word [] h = refl
bytes_word (b ∷ bs) h =
    let byte : b < 256 = h.0 in
    let low : (b + 256 * word bs) % 256 ≡ b = omega arith in
    let high : (b + 256 * word bs) / 256 ≡ word bs = omega arith in
    rw (low, high) (ap (λ (xs : List ℕ). b ∷ xs) (bytes_word bs h.1))

pub bytes_of-length : (n x : ℕ) → length (bytes_of n x) ≡ n
bytes_of-length zero x = refl
bytes_of-length (suc n) x = ap suc (bytes_of-length n (x / 256))

pub bytes_of_bytes : (n x : ℕ) → Bytes (bytes_of n x)
bytes_of_bytes zero x = tt
bytes_of_bytes (suc n) x = (omega arith, bytes_of_bytes n (x / 256))

-- a word as u32::to_le_bytes writes it
pub word-written : (x : ℕ) → x % 256 ∷ x / 256 % 256 ∷ x / 65536 % 256 ∷ x / 16777216 % 256 ∷ [] ≡ bytes_of 4 x
word-written x =
    let p : x / 65536 ≡ x / 256 / 256 = omega arith in
    let q : x / 16777216 ≡ x / 256 / 256 / 256 = omega (arith, p) in
    rw (p, q)

-- a list of bytes is known by its elements
pub bytes_from : (bs : List ℕ) → ((i : ℕ) → get_or bs i 0 < 256) → Bytes bs
bytes_from bs h = All-from_get_or (λ b. b < 256) bs 0 (λ i l. h i)

-- a number of eight bytes as u64::to_le_bytes writes it
pub long_written : (x : ℕ) →
    x % 256 ∷ x / 256 % 256 ∷ x / 65536 % 256 ∷ x / 16777216 % 256 ∷ x / 4294967296 % 256 ∷ x / 1099511627776 % 256 ∷ x / 281474976710656 % 256 ∷ x / 72057594037927936 % 256 ∷ [] ≡ bytes_of 8 x
long_written x =
    let cut : ℕ → ℕ = λ n. n / 256 in
    let two : x / 65536 ≡ x / 256 / 256 = sym (shr-shr x 8 8) in
    let three : x / 16777216 ≡ x / 256 / 256 / 256 = sym (shr-shr x 16 8) ∙ ap cut two in
    let four : x / 4294967296 ≡ x / 256 / 256 / 256 / 256 = sym (shr-shr x 24 8) ∙ ap cut three in
    let five : x / 1099511627776 ≡ x / 256 / 256 / 256 / 256 / 256 = sym (shr-shr x 32 8) ∙ ap cut four in
    let six : x / 281474976710656 ≡ x / 256 / 256 / 256 / 256 / 256 / 256 = sym (shr-shr x 40 8) ∙ ap cut five in
    let seven : x / 72057594037927936 ≡ x / 256 / 256 / 256 / 256 / 256 / 256 / 256 = sym (shr-shr x 48 8) ∙ ap cut six in
    rw (seven, six, five, four, three, two)
