use Rattle.std.proofs.Common.{◌≡◌, ℕ, take, drop, ap, ◌∙◌, ap₂, arith, length-drop}
use Rattle.std.proofs.lemmas.List.{take_all}
use Rattle.blocks.specs.Bytes.{word}
use Rattle.blocks.proofs.Words.{word_at}
use Rattle.gost.specs.declared.rounds.Registers.{Registers}
use Rattle.gost.specs.Cipher.{registers}
use Rattle.gost.proofs.rounds.Registers.read.Goals as goal

pub returns : goal.returns
unfolding registers
returns c =
    let block = c.args.block.now in
    let made : ℕ → ℕ → Registers = λ a b. record { n1 = a; n2 = b } in
    let low : c.from_le_bytes.result ≡ word (take 4 block) = c.from_le_bytes.ensures ∙ word_at block 0 (omega arith) in
    let high : c.from_le_bytes-2.result ≡ word (drop 4 block) =
    c.from_le_bytes-2.ensures ∙ (word_at block 4 (omega arith) ∙ ap word (take_all 4 (drop 4 block) (simp length-drop (omega arith)))) in
    ap₂ made low high
