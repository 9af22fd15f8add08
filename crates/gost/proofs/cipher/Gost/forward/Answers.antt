use Rattle.std.proofs.Common.{arith}
use Rattle.gost.specs.law.Feistel.{forward_closed}
use Rattle.gost.proofs.cipher.Gost.forward.Goals as goal

pub returns : goal.returns
returns c = let gost = c.args.self.now in cc (forward_closed gost.table.now.rows gost.key.now c.args.s (omega arith))
