use Rattle.std.proofs.Common.{arith, below_more}
use Rattle.kuznyechik.specs.law.Undoing.{bytes_at}
use Rattle.kuznyechik.proofs.cipher.Kuznyechik.new.Goals as goal

pub loop-key-preserved : goal.loop-key-preserved
loop-key-preserved c = below_more _ _ c.loop-key.invariant c.byte_count.ensures.bytes

pub invariant_of-result : goal.invariant_of-result
invariant_of-result c = record { bytes = bytes_at c.args.keys.now (λ i h. c.loop-key.invariant i (omega arith)) }
