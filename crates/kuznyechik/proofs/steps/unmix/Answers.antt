use Rattle.std.proofs.Common.{◌≡◌, ℕ, ◌-◌, sym, ap, ◌∙◌, arith}
use Rattle.kuznyechik.specs.Steps.{R⁻¹, times, L⁻¹}
use Rattle.kuznyechik.proofs.Turns.{times_more}
use Rattle.kuznyechik.proofs.steps.unmix.Goals as goal

pub loop-i-preserved : goal.loop-i-preserved
loop-i-preserved c = times_more R⁻¹ 16 c.loop-i._i c.loop-i.block c.unshift.new.block (omega arith) c.unshift.ensures ∙ c.loop-i.invariant

pub returns : goal.returns
unfolding L⁻¹
returns c =
    let e : 16 - c.loop-i._i ≡ 0 = omega arith in
    sym (ap (λ (k : ℕ). times k R⁻¹ c.loop-i.block) e) ∙ c.loop-i.invariant
