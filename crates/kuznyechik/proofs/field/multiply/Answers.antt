use Rattle.std.proofs.Common.{◌≡◌, ◌+◌, ◌-◌, sym, ◌∙◌, arith}
use lib.Bits.{xor_zero_r}
use Rattle.kuznyechik.specs.Field.{product}
use Rattle.kuznyechik.specs.law.Products.{bits_times_more}
use Rattle.kuznyechik.proofs.field.multiply.Goals as goal

pub loop-i-preserved : goal.loop-i-preserved
loop-i-preserved c =
    bits_times_more c.loop-i.sum (8 - c.loop-i._i) (8 - (c.loop-i._i + 1)) c.loop-i.bits c.loop-i.power (omega arith) ∙ c.loop-i.invariant

pub returns : goal.returns
unfolding product
returns c =
    let e : 8 - c.loop-i._i ≡ 0 = omega arith in
    sym (rw e (xor_zero_r c.loop-i.sum)) ∙ c.loop-i.invariant
