use Rattle.std.proofs.Common.{◌≡◌, ℕ, drop, sym, ap, ◌∙◌, arith}
use Rattle.kuznyechik.specs.Steps.{X}
use Rattle.kuznyechik.specs.Cipher.{enciphered}
use Rattle.kuznyechik.proofs.Rounds.{enciphered_last}
use Rattle.kuznyechik.proofs.cipher.encipher_block.Goals as goal

pub returns : goal.returns
unfolding X
returns c =
    let keys = c.args.keys.now in
    let n : c.loop-key.key-index ≡ 9 = omega arith in
    let last = enciphered_last keys 9 c.loop-key.block (omega arith) in
    c.xor_into.ensures ∙ (sym last ∙ (ap (λ (k : ℕ). enciphered (drop k keys) c.loop-key.block) (sym n) ∙ c.loop-key.invariant))
