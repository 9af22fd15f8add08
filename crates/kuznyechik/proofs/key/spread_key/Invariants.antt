use Rattle.std.proofs.Common.{◌≡◌, length}
use Rattle.kuznyechik.specs.Keys.{round_keys}
use Rattle.kuznyechik.proofs.Pairs.{filled}
use Rattle.kuznyechik.proofs.key.spread_key.Given as goal

abbrev pub invariant-loop-i : goal.invariant-loop-i
invariant-loop-i l = (filled l.keys l.i (l.pair.0, l.pair.1.0) ≡ round_keys l.key) × (length l.keys ≡ 10) × (length l.pair.0 ≡ 16) × (length l.pair.1.0 ≡ 16)
