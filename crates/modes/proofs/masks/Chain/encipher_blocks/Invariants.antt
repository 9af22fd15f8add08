use Rattle.modes.specs.Calls.{chaining}
use Rattle.modes.proofs.Texts.{Held}
use Rattle.modes.proofs.masks.Chain.encipher_blocks.Given as goal

abbrev pub invariant-loop-i : goal.invariant-loop-i
invariant-loop-i g l = Held (chaining (g.C.BlockCipher.map l.self.cipher.now) l.self.mode l.self.sync) l.initial.text l.i l.text l.pad
