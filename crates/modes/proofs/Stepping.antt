-- The counters straight from i are those that steps give.
use Rattle.std.proofs.Common.{◌≡◌, ℕ, zero, suc, ◌+◌, ◌-◌, ◌%◌, ◌^◌, ◌<◌, ◌≤◌, Bool, true, false, cond, ltb, sym, refl, ap, ◌∙◌, arith}
use Rattle.std.proofs.lemmas.Bool.{ltb-true, ltb-false}
use Rattle.modes.specs.Counters.{third_step, fourth_step, steps, third, fourth}

step_by : (z : ℕ) → z < 2 ^ 32 → (b : Bool) → ltb (z + 0x01010104) (2 ^ 32) ≡ b →
    cond b (z + 0x01010104) (z + 0x01010104 - 2 ^ 32 + 1) ≡ (z + 0x01010104 - 1) % (2 ^ 32 - 1) + 1
step_by z h true e = let k : z + 0x01010104 < 2 ^ 32 = ltb-true (z + 0x01010104) (2 ^ 32) e in omega arith
step_by z h false e = let k : 2 ^ 32 ≤ z + 0x01010104 = ltb-false (z + 0x01010104) (2 ^ 32) e in omega arith

step_is : (z : ℕ) → z < 2 ^ 32 → fourth_step z ≡ (z + 0x01010104 - 1) % (2 ^ 32 - 1) + 1
unfolding fourth_step
step_is z h = step_by z h (ltb (z + 0x01010104) (2 ^ 32)) refl

pub fourth_stepped : (z i : ℕ) → z < 2 ^ 32 → fourth z i ≡ steps fourth_step (suc i) z
fourth_stepped z zero h = sym (step_is z h ∙ omega arith)
fourth_stepped z (suc i) h =
    let e = fourth_stepped z i h in
    let l : fourth z i < 2 ^ 32 = omega arith in
    sym (ap fourth_step (sym e) ∙ (step_is (fourth z i) l ∙ omega arith))

pub third_stepped : (y i : ℕ) → y < 2 ^ 32 → third y i ≡ steps third_step (suc i) y
unfolding third_step
third_stepped y zero h = omega arith
third_stepped y (suc i) h = sym (ap third_step (sym (third_stepped y i h)) ∙ omega arith)
