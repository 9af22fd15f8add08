use Rattle.std.proofs.Common.{◌≡◌}
use Rattle.modes.specs.Modes.{joined}
use Rattle.modes.specs.Calls.{plain_of, front}
use Rattle.downloads.proofs.pages.decipher_blocks.Given as goal

abbrev pub invariant-loop-b : goal.invariant-loop-b
invariant-loop-b g l = l.page ≡ front (joined (plain_of (g.C.BlockCipher.map l.cipher) l.section.mode l.section.sync l.body) l.from l.b) l.initial.page
