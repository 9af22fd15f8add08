use Rattle.std.proofs.Common.{sym, ◌∙◌, arith}
use Rattle.blocks.proofs.Xors.{xored_more, xored_all, xored_none}
use Rattle.blocks.proofs.xor_into.Goals as goal

pub loop-i-init : goal.loop-i-init
loop-i-init c = sym (xored_none c.args.block.now)

pub loop-i-preserved : goal.loop-i-preserved
loop-i-preserved c = xored_more c.loop-i.i c.args.block.now c.args.with.now c.loop-i.block (omega arith) (omega arith) c.loop-i.invariant

pub returns : goal.returns
returns c = c.loop-i.invariant ∙ xored_all c.loop-i.i c.args.block.now c.args.with.now (omega arith)
