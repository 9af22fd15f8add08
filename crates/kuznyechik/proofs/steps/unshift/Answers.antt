use Rattle.kuznyechik.proofs.Turns.{unshifted}
use Rattle.kuznyechik.proofs.steps.unshift.Goals as goal

pub returns : goal.returns
returns c = unshifted c.args.block.now c.rotate_left.new.self c.combine.result c.requires c.rotate_left.ensures.after c.combine.ensures
