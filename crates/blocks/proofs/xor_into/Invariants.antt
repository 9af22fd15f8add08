use Rattle.std.proofs.Common.{◌≡◌, take}
use Rattle.blocks.specs.Bytes.{xored}
use Rattle.blocks.proofs.xor_into.Given as goal

abbrev pub invariant-loop-i : goal.invariant-loop-i
invariant-loop-i l = l.block ≡ xored l.initial.block (take l.i l.with)
