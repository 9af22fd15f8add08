use Rattle.std.proofs.Common.{ℕ, List, ◌++◌, ◌∙◌, ap₂}
use Rattle.blocks.proofs.Spelled.{spelled}
use Rattle.blocks.proofs.Words.{word-written}
use Rattle.gost.specs.Cipher.{block_of}
use Rattle.gost.proofs.rounds.Registers.write.Goals as goal

pub returns : goal.returns
unfolding block_of
returns c =
    c.copy_from_slice.ensures.after
    ∙ ap₂ (λ (u v : List ℕ). spelled 4 0 u ++ spelled 4 0 v) (c.to_le_bytes.ensures ∙ word-written c.args.self.n1) (c.to_le_bytes-2.ensures ∙ word-written c.args.self.n2)
