use Rattle.kuznyechik.specs.Pi.{pi⁻¹}
use Rattle.kuznyechik.specs.Steps.{X, S⁻¹, XS⁻¹L⁻¹}
use Rattle.kuznyechik.proofs.steps.unround.Goals as goal

pub returns : goal.returns
unfolding pi⁻¹ X S⁻¹ XS⁻¹L⁻¹
returns c = cc
