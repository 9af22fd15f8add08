use Rattle.std.proofs.Common.{ℕ, ◌-◌, ◌/◌, ◌^◌, ◌∙◌, ap₂, arith}
use Rattle.blocks.proofs.Words.{word_at}
use Rattle.gost.specs.Cipher.{registers}
use Rattle.imitovstavka.proofs.chain.Chain.value.Goals as goal

pub returns : goal.returns
unfolding registers
returns c =
    ap₂ (λ (n l : ℕ). n / 2 ^ (32 - l)) (c.from_le_bytes.ensures ∙ word_at c.args.self.now.state 0 (omega arith)) c.from.ensures
