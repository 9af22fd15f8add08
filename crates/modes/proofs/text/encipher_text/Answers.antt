use Rattle.std.proofs.Common.{length}
use Rattle.modes.proofs.Plain.{undo_judged}
use Rattle.modes.proofs.text.encipher_text.Goals as goal

pub returns-clause-undo : goal.returns-clause-undo
returns-clause-undo g c =
    undo_judged (g.C.BlockCipher.map c.args.cipher.now) c.args.mode c.args.sync (length c.args.text.now) (g.met.C.BlockCipher.lawful c.args.cipher.now)
