use Rattle.kuznyechik.specs.Steps.{X}
use Rattle.kuznyechik.specs.Keys.{F}
use Rattle.kuznyechik.proofs.key.Pair.step.Goals as goal

pub returns : goal.returns
unfolding F X
returns c = cc
