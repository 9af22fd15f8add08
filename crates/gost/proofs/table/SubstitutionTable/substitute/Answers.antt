use Rattle.std.proofs.Common.{arith}
use Rattle.gost.specs.law.Nibbles.{row_more}
use Rattle.gost.proofs.table.SubstitutionTable.substitute.Goals as goal

pub loop-place-preserved : goal.loop-place-preserved
loop-place-preserved c =
    let table = c.args.self.now in
    row_more table.rows c.args.x c.loop-place.y c.from.result c.loop-place.place table.checked.1 (omega arith) table.checked.0 c.loop-place.invariant c.from.ensures
