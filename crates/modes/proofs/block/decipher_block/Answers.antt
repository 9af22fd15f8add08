use Rattle.std.proofs.Common.{length}
use Rattle.modes.proofs.Plain.{reach_judged}
use Rattle.modes.proofs.block.decipher_block.Goals as goal

pub returns-then-out-n-clause-reach : goal.returns-then-out-n-clause-reach
returns-then-out-n-clause-reach g c =
    reach_judged (g.C.BlockCipher.map c.args.cipher.now) c.args.mode c.args.sync (length c.args.body.now) (g.met.C.BlockCipher.lawful c.args.cipher.now)

pub returns-then-at-body-clause-reach : goal.returns-then-at-body-clause-reach
returns-then-at-body-clause-reach g c =
    reach_judged (g.C.BlockCipher.map c.args.cipher.now) c.args.mode c.args.sync (length c.args.body.now) (g.met.C.BlockCipher.lawful c.args.cipher.now)

pub returns-clause-reach : goal.returns-clause-reach
returns-clause-reach g c =
    reach_judged (g.C.BlockCipher.map c.args.cipher.now) c.args.mode c.args.sync (length c.args.body.now) (g.met.C.BlockCipher.lawful c.args.cipher.now)
