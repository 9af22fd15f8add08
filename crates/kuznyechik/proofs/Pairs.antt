-- Round keys written pair by pair.
use Rattle.std.proofs.Common.{◌≡◌, ℕ, suc, ◌+◌, ◌-◌, ◌*◌, ◌<◌, List, [], ◌∷◌, ◌++◌, length, take, drop, set, sym, ap, ◌∙◌, arith}
use Rattle.std.proofs.lemmas.List.{take_more_set, take_all, length-set, append_assoc, append-nil}
use Rattle.kuznyechik.specs.Keys.{Pair, steps, pairs, round_keys}

-- the pair with number i, put after those before it
pair_more : (keys : List (List ℕ)) (i : ℕ) (a b : List ℕ) → 2 * i + 1 < length keys → take (2 * (i + 1)) (set (set keys (2 * i) a) (2 * i + 1) b) ≡ take (2 * i) keys ++ a ∷ (b ∷ [])
pair_more keys i a b h =
    let n : 2 * (i + 1) ≡ 2 * i + 1 + 1 = omega arith in
    let k : 2 * i + 1 < length (set keys (2 * i) a) = omega (arith, length-set keys (2 * i) a) in
    ap (λ (m : ℕ). take m (set (set keys (2 * i) a) (2 * i + 1) b)) n
    ∙ (take_more_set (set keys (2 * i) a) (2 * i + 1) b k
    ∙ (ap (λ (xs : List (List ℕ)). xs ++ b ∷ []) (take_more_set keys (2 * i) a (omega arith)) ∙ append_assoc (take (2 * i) keys) (a ∷ []) (b ∷ [])))

-- the pairs below number i, and those that are still to come after the pair p
abbrev pub filled : List (List ℕ) → ℕ → Pair → List (List ℕ)
filled keys i p = take (2 * i) keys ++ pairs (5 - i) i (steps 8 (8 * (i - 1)) p)

pub filled_more : (keys all : List (List ℕ)) (i : ℕ) (p q : Pair) → length keys ≡ 10 → i < 5 → q ≡ steps 8 (8 * (i - 1)) p → filled keys i p ≡ all →
    filled (set (set keys (2 * i) q.0) (2 * i + 1) q.1) (i + 1) q ≡ all
filled_more keys all i p q l h e was =
    let n : (i + 1) - 1 ≡ i = omega arith in
    let m : suc (5 - (i + 1)) ≡ 5 - i = omega arith in
    let next = pairs (5 - (i + 1)) (i + 1) (steps 8 (8 * i) q) in
    rw (n, pair_more keys i q.0 q.1 (omega arith))
    (append_assoc (take (2 * i) keys) (q.0 ∷ (q.1 ∷ [])) next
    ∙ (ap (λ (k : ℕ). take (2 * i) keys ++ pairs k i q) m
    ∙ (ap (λ (r : Pair). take (2 * i) keys ++ pairs (5 - i) i r) e ∙ was)))

pub filled_all : (keys : List (List ℕ)) (i : ℕ) (p : Pair) → length keys ≡ 10 → i ≡ 5 → keys ≡ filled keys i p
filled_all keys i p l e = rw (e, take_all 10 keys (omega arith)) (sym (append-nil keys))

-- the first pair is the key
pub filled_first : (keys : List (List ℕ)) (key a1 a0 : List ℕ) → length keys ≡ 10 → a1 ≡ take 16 key → a0 ≡ drop 16 key →
    filled (set (set keys 0 a1) 1 a0) 1 (a1, a0) ≡ round_keys key
unfolding round_keys
filled_first keys key a1 a0 l e f =
    let first = pair_more keys 0 a1 a0 (omega arith) in
    rw (first, e, f)
