use Rattle.std.proofs.Common.{◌≡◌, ℕ, ◌-◌, sym, ap, ◌∙◌, arith}
use Rattle.kuznyechik.specs.Steps.{R, times, L}
use Rattle.kuznyechik.proofs.Turns.{times_more}
use Rattle.kuznyechik.proofs.steps.mix.Goals as goal

pub loop-i-preserved : goal.loop-i-preserved
loop-i-preserved c = times_more R 16 c.loop-i._i c.loop-i.block c.shift.new.block (omega arith) c.shift.ensures ∙ c.loop-i.invariant

pub returns : goal.returns
unfolding L
returns c =
    let e : 16 - c.loop-i._i ≡ 0 = omega arith in
    sym (ap (λ (k : ℕ). times k R c.loop-i.block) e) ∙ c.loop-i.invariant
