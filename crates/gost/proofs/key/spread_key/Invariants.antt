use Rattle.std.proofs.Common.{◌≡◌, length, take}
use Rattle.blocks.specs.Bytes.{words}
use Rattle.gost.proofs.key.spread_key.Given as goal

abbrev pub invariant-loop-i : goal.invariant-loop-i
invariant-loop-i l = (take l.i l.words ≡ words l.i l.key) × (length l.words ≡ 8)
