use Rattle.std.proofs.Common.{ℕ, ◌<◌, [], get_or}
use Rattle.blocks.specs.Bytes.{Bytes}
use Rattle.kuznyechik.proofs.cipher.Kuznyechik.new.Given as goal

abbrev pub invariant-loop-key : goal.invariant-loop-key
invariant-loop-key l = (i : ℕ) → i < l.key-index → Bytes (get_or l.keys i [])
