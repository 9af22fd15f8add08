use Rattle.kuznyechik.specs.Pi.{pi}
use Rattle.kuznyechik.specs.Steps.{X, S, LSX}
use Rattle.kuznyechik.proofs.steps.round.Goals as goal

pub returns : goal.returns
unfolding pi X S LSX
returns c = cc
