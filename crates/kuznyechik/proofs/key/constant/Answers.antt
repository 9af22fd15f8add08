use Rattle.kuznyechik.specs.Keys.{C}
use Rattle.kuznyechik.proofs.key.constant.Goals as goal

pub returns : goal.returns
unfolding C
returns c = c.mix.ensures
