use Rattle.std.proofs.Common.{◌≡◌, ℕ, sym, ap, ◌∙◌, ap₂, inl, inr}
use lib.Bits.{bit_xor, xor_assoc, xor_zero_l, xor_zero_r}
use Rattle.kuznyechik.specs.Field.{product}
use Rattle.kuznyechik.specs.Steps.{factors, combined, ℓ}
use Rattle.kuznyechik.proofs.Turns.{combined_no_factor, combined_no_byte}
use Rattle.kuznyechik.proofs.steps.combine.Goals as goal

pub loop-c-init : goal.loop-c-init
unfolding factors ℓ
loop-c-init c =
    let it = c.into_iter-c-iterator.result in
    let a : it.a.rest.now ≡ factors = cc in
    let b : it.b.rest.now ≡ c.args.block.now = cc in
    xor_zero_l (combined it.a.rest.now it.b.rest.now) ∙ ap₂ combined a b

pub loop-c-preserved : goal.loop-c-preserved
loop-c-preserved c =
    let sum = c.loop-c.sum in
    let it = c.loop-c.c-iterator in
    let left = c.next.new.self in
    let step = c.in-Some.ensures.steps in
    let rest = combined left.a.rest.now left.b.rest.now in
    let one = product c.in-Some.c.now c.in-Some.b.now in
    let now : combined it.a.rest.now it.b.rest.now ≡ bit_xor one rest = ap₂ combined step.0 step.1 in
    ap (λ (n : ℕ). bit_xor (bit_xor sum n) rest) c.multiply-sum.ensures ∙ (xor_assoc sum one rest ∙ (ap (bit_xor sum) (sym now) ∙ c.loop-c.invariant))

pub returns : goal.returns
returns c =
    let sum = c.loop-c.sum in
    let a = c.loop-c.c-iterator.a.rest.now in
    let b = c.loop-c.c-iterator.b.rest.now in
    let none : combined a b ≡ 0 = elim c.in-None.ensures.steps [ inl w ↦ combined_no_factor a b w.1.0 | inr w ↦ combined_no_byte a b w.1.0 ] in
    sym (ap (bit_xor sum) none ∙ xor_zero_r sum) ∙ c.loop-c.invariant
