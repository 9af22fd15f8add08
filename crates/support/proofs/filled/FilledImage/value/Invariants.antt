use Rattle.std.proofs.Common.{◌≡◌, ℕ, ◌+◌, ◌*◌, ◌++◌, length, take, replicate}
use Rattle.gost.specs.Cipher.{sixteen}
use Rattle.gost.specs.Keyed.{rows_in, words_in}
use Rattle.imitovstavka.specs.Chain.{absorbed, start}
use Rattle.imitovstavka.specs.Parts.{map_in, state_in}
use Rattle.support.specs.Filled.{image_in, fill_in}
use Rattle.support.proofs.filled.FilledImage.value.Given as goal

abbrev pub invariant-loop-i : goal.invariant-loop-i
invariant-loop-i l =
    (map_in l.chain ≡ sixteen (rows_in l.cipher) (words_in l.cipher))
    × ((more : ℕ) → 8 * l.blocks ≡ length (image_in l.self) + more →
    state_in l.chain ≡ absorbed (sixteen (rows_in l.cipher) (words_in l.cipher)) start (take (8 * l.i) (image_in l.self ++ replicate more (fill_in l.self))))
