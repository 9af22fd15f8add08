use Rattle.std.proofs.Common.{arith}
use Rattle.gost.specs.law.Feistel.{backward_closed}
use Rattle.gost.proofs.cipher.Gost.backward.Goals as goal

pub returns : goal.returns
returns c = let gost = c.args.self.now in cc (backward_closed gost.table.now.rows gost.key.now c.args.s (omega arith))
