use Rattle.kuznyechik.proofs.Turns.{shifted}
use Rattle.kuznyechik.proofs.steps.shift.Goals as goal

pub returns : goal.returns
returns c = shifted c.args.block.now c.rotate_right.new.self c.combine-first.result c.requires c.rotate_right.ensures.after c.combine-first.ensures
