use Rattle.std.proofs.Common.{◌≡◌}
use lib.Bits.{bit_xor}
use Rattle.kuznyechik.specs.Steps.{combined, ℓ}
use Rattle.kuznyechik.proofs.steps.combine.Given as goal

abbrev pub invariant-loop-c : goal.invariant-loop-c
invariant-loop-c l = bit_xor l.sum (combined l.c-iterator.a.rest.now l.c-iterator.b.rest.now) ≡ ℓ l.block
