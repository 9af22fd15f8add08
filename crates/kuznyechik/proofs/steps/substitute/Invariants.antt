use Rattle.std.proofs.Common.{◌≡◌}
use Rattle.kuznyechik.proofs.Turns.{over}
use Rattle.kuznyechik.proofs.steps.substitute.Given as goal

abbrev pub invariant-loop-b : goal.invariant-loop-b
invariant-loop-b l = l.block ≡ over l.table l.b-index l.initial.block
