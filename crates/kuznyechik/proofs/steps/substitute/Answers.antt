use Rattle.std.proofs.Common.{get_or, refl, arith}
use Rattle.kuznyechik.proofs.Turns.{over_more}
use Rattle.kuznyechik.proofs.steps.substitute.Goals as goal

pub loop-b-preserved : goal.loop-b-preserved
loop-b-preserved c =
    let table = c.args.table.now in
    let block = c.loop-b.block in
    let i = c.loop-b.b-index in
    over_more table c.args.block.now block i (get_or table (get_or block i 0) 0) (omega arith) (omega arith) c.loop-b.invariant refl
