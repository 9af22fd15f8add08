-- What follows from how a call is answered.
use Rattle.std.proofs.Common.{◌≡◌, ℕ, Bool, true, false, cond, Some, None, Ok, Err, Option, Result, refl, ap, ◌∙◌}
use Rattle.refusals.specs.declared.Reason.{Reason}
use Rattle.refusals.specs.Codes.{Code, then, unless}
use Rattle.downloads.specs.Copies.{refused_at}
use Rattle.traces.specs.Traces.{Setting, Call, Answer, refused, not_built, Standing, built, judged, effect, says, answered, step, answer_to}

-- ---- parts of an answer

pub cond_ok : {X : Type 0} (b : Bool) (r : Result X Code) (e : Code) (x : X) → cond b r (Err e) ≡ Ok x → (b ≡ true) × (r ≡ Ok x)
cond_ok true r e x h = (refl, h)
cond_ok false r e x h = cc

pub at_ok : (why : Reason) (o : Option ℕ) → refused_at why o ≡ Ok tt → o ≡ None
at_ok why None h = refl
at_ok why (Some k) h = cc

pub then_ok : (r : Result Unit Code) (next : Result Unit Code) → then r (λ _. next) ≡ Ok tt → (r ≡ Ok tt) × (next ≡ Ok tt)
then_ok (Ok u) next h = (refl, h)
then_ok (Err e) next h = cc

-- ---- a call cannot be made, is refused, or does what it does

by_both : (P : Standing → Answer → Type 0) (b : Bool) (r : Result Unit Code) (s u : Standing) (a : Answer) →
    (b ≡ false → P s not_built) → ((e : Code) → b ≡ true → r ≡ Err e → P s (refused e)) → (b ≡ true → r ≡ Ok tt → P u a) →
    P (cond b (unless r s u) s) (cond b (answered r a) not_built)
by_both P false r s u a x y z = x refl
by_both P true (Ok v) s u a x y z = z refl refl
by_both P true (Err e) s u a x y z = y e refl refl

pub by_outcome : (w : Setting) (s : Standing) (c : Call) (P : Standing → Answer → Type 0) →
    (built s.closed c ≡ false → P s not_built) →
    ((e : Code) → built s.closed c ≡ true → judged w s c ≡ Err e → P s (refused e)) →
    (built s.closed c ≡ true → judged w s c ≡ Ok tt → P (effect w s c) (says w s c)) → P (step w s c) (answer_to w s c)
unfolding step answer_to
by_outcome w s c P x y z = by_both P (built s.closed c) (judged w s c) s (effect w s c) (says w s c) x y z

-- what holds however it is answered
pub by_effect : (w : Setting) (s : Standing) (c : Call) (P : Standing → Type 0) → P s → (judged w s c ≡ Ok tt → P (effect w s c)) → P (step w s c)
by_effect w s c P x y = by_outcome w s c (λ u a. P u) (λ b. x) (λ e b q. x) (λ b q. y q)

-- what it answers where it can be made
pub answer-built : (w : Setting) (s : Standing) (c : Call) → built s.closed c ≡ true → answer_to w s c ≡ answered (judged w s c) (says w s c)
unfolding answer_to
answer-built w s c e = ap (λ (b : Bool). cond b (answered (judged w s c) (says w s c)) not_built) e

pub answer_not : (w : Setting) (s : Standing) (c : Call) → built s.closed c ≡ false → answer_to w s c ≡ not_built
unfolding answer_to
answer_not w s c e = ap (λ (b : Bool). cond b (answered (judged w s c) (says w s c)) not_built) e

pub answer_is : (w : Setting) (s : Standing) (c : Call) (r : Result Unit Code) → built s.closed c ≡ true → judged w s c ≡ r → answer_to w s c ≡ answered r (says w s c)
answer_is w s c r e q = answer-built w s c e ∙ ap (λ (x : Result Unit Code). answered x (says w s c)) q
