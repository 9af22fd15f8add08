use Rattle.std.proofs.Common.{◌≡◌, ◌-◌}
use lib.Bits.{bit_xor}
use Rattle.kuznyechik.specs.Field.{bits_times}
use Rattle.kuznyechik.proofs.field.multiply.Given as goal

abbrev pub invariant-loop-i : goal.invariant-loop-i
invariant-loop-i l = bit_xor l.sum (bits_times (8 - l._i) l.bits l.power) ≡ bits_times 8 l.initial.bits l.initial.power
