use Rattle.std.proofs.Common.{◌≡◌, ◌≤◌, ℕ, List, drop, take, length}
use Rattle.kuznyechik.specs.Cipher.{deciphered}
use Rattle.kuznyechik.proofs.cipher.decipher_block.Given as goal

-- the keys that are left are the first ones; what begins as K10 leaves a block goes on as the rounds
-- before it
abbrev pub invariant-loop-key : goal.invariant-loop-key
invariant-loop-key l =
    let left = l.key-iterator.iter.rest.now in
    (left ≡ take (length left) l.keys)
    × ((a : List ℕ) → l.initial.block ≡ deciphered (drop 9 l.keys) a → l.block ≡ deciphered (drop (length left) l.keys) a)
    × (length left ≤ 9)
