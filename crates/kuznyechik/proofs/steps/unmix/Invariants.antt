use Rattle.std.proofs.Common.{◌≡◌, ◌-◌}
use Rattle.kuznyechik.specs.Steps.{R⁻¹, times}
use Rattle.kuznyechik.proofs.steps.unmix.Given as goal

abbrev pub invariant-loop-i : goal.invariant-loop-i
invariant-loop-i l = times (16 - l._i) R⁻¹ l.block ≡ times 16 R⁻¹ l.initial.block
