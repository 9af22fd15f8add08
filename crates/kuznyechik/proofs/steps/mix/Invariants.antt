use Rattle.std.proofs.Common.{◌≡◌, ◌-◌}
use Rattle.kuznyechik.specs.Steps.{R, times}
use Rattle.kuznyechik.proofs.steps.mix.Given as goal

abbrev pub invariant-loop-i : goal.invariant-loop-i
invariant-loop-i l = times (16 - l._i) R l.block ≡ times 16 R l.initial.block
