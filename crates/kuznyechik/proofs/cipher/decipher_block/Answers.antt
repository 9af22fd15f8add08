use Rattle.std.proofs.Common.{◌≡◌, ℕ, ◌+◌, [], ◌∷◌, ◌++◌, length, take, drop, sym, ap, ◌∙◌, ap₂, arith, length-take}
use Rattle.std.proofs.lemmas.List.{length_push}
use Rattle.kuznyechik.specs.Steps.{X, XS⁻¹L⁻¹}
use Rattle.kuznyechik.specs.Cipher.{deciphered}
use Rattle.kuznyechik.proofs.Rounds.{left_less, deciphered_more, deciphered_last}
use Rattle.kuznyechik.proofs.cipher.decipher_block.Goals as goal

pub loop-key-init : goal.loop-key-init
loop-key-init c =
    let keys = c.args.keys.now in
    let left = c.into_iter-key-iterator.result.iter.rest.now in
    let is : left ≡ take 9 keys = cc in
    let n : length left ≡ 9 = ap length is ∙ (length-take 9 keys ∙ omega arith) in
    (is ∙ ap (λ (k : ℕ). take k keys) (sym n), λ a e. e ∙ ap (λ (k : ℕ). deciphered (drop k keys) a) (sym n), omega arith)

pub loop-key-preserved : goal.loop-key-preserved
loop-key-preserved c =
    let keys = c.args.keys.now in
    let key = c.in-Some.key.now in
    let left = c.loop-key.key-iterator.iter.rest.now in
    let before = c.next.new.self.iter.rest.now in
    let cut : left ≡ before ++ key ∷ [] = c.in-Some.ensures.steps in
    let less = left_less before keys key (length left) (sym cut ∙ c.loop-key.invariant.0) in
    let n : length left ≡ length before + 1 = ap length cut ∙ length_push before key in
    (less.0, λ a e. c.unround.ensures ∙ (ap₂ XS⁻¹L⁻¹ less.1 (c.loop-key.invariant.1 a e ∙ ap (λ (k : ℕ). deciphered (drop k keys) a) n) ∙ sym (deciphered_more keys (length before) a (omega arith))), omega arith)

pub returns : goal.returns
unfolding X
returns c =
    let keys = c.args.keys.now in
    let block = c.args.block.now in
    c.loop-key.invariant.1 block (c.xor_into.ensures ∙ sym (deciphered_last keys 9 block (omega arith))) ∙ ap (λ (k : ℕ). deciphered (drop k keys) block) c.in-None.ensures.steps.0
