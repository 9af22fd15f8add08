use Rattle.std.proofs.Common.{sym, ap, ◌∙◌, arith}
use Rattle.blocks.proofs.Xors.{xored-filled}
use Rattle.imitovstavka.specs.Parts.{map_in}
use Rattle.imitovstavka.proofs.chain.Chain.take_in.Goals as goal

pub returns-clause-state : goal.returns-clause-state
returns-clause-state c =
    c.sixteen_rounds.ensures ∙ ap (map_in c.args.self.now) (c.xor_into.ensures ∙ sym (xored-filled 8 c.args.self.now.state c.args.block.now (omega arith)))
