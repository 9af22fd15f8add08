use Rattle.gost.specs.Cipher.{sixteen}
use Rattle.gost.proofs.cipher.Gost.sixteen_rounds.Goals as goal

pub returns : goal.returns
unfolding sixteen
returns c = cc
