use Rattle.std.proofs.Common.{◌≡◌, ◌+◌, ◌-◌}
use Rattle.kuznyechik.specs.Keys.{steps}
use Rattle.kuznyechik.proofs.key.Pair.next.Given as goal

abbrev pub invariant-loop-j : goal.invariant-loop-j
invariant-loop-j l = steps (8 - l.j) (l.i + l.j) (l.pair.a1, l.pair.a0) ≡ steps 8 l.i (l.initial.pair.a1, l.initial.pair.a0)
