-- What lasts over a trace: copies fit and stay, and the target keeps its shape.
use Rattle.std.proofs.Common.{◌≡◌, ℕ, zero, suc, ◌+◌, Bool, true, List, [], ◌∷◌, ◌++◌, length, take, drop, Ok, sym, refl, ap, ◌∙◌}
use Rattle.std.proofs.lemmas.List.{length-set}
use Rattle.targets.specs.State.{TargetState}
use Rattle.targets.specs.Calls.{with_page}
use Rattle.traces.specs.Traces.{Setting, Call, frame, give, erase, program, close, reopen, verify, Answer, done, Standing, standing, judged, effect, step, answer_to, run, answers_of, OfBytes, AllOfBytes}
use Rattle.traces.specs.Promise.{Asked}
use Rattle.traces.proofs.Outcomes.{by_outcome, by_effect}
use Rattle.traces.proofs.Framing.{Fitting, Grows, put_fits, put_grows}

-- ---- lists of calls

-- one call more
pub run_push : (w : Setting) (s : Standing) (calls : List Call) (c : Call) → run w s (calls ++ c ∷ []) ≡ step w (run w s calls) c
run_push w s [] c = refl
run_push w s (x ∷ calls) c = run_push w (step w s x) calls c

pub answers_push : (w : Setting) (s : Standing) (calls : List Call) (c : Call) → answers_of w s (calls ++ c ∷ []) ≡ answers_of w s calls ++ answer_to w (run w s calls) c ∷ []
answers_push w s [] c = refl
answers_push w s (x ∷ calls) c = ap (λ (l : List Answer). answer_to w s x ∷ l) (answers_push w (step w s x) calls c)

pub answers_long : (w : Setting) (s : Standing) (calls : List Call) → length (answers_of w s calls) ≡ length calls
answers_long w s [] = refl
answers_long w s (c ∷ calls) = ap suc (answers_long w (step w s c) calls)

pub answers_take : (w : Setting) (s : Standing) (k : ℕ) (calls : List Call) → take k (answers_of w s calls) ≡ answers_of w s (take k calls)
answers_take w s zero calls = refl
answers_take w s (suc k) [] = refl
answers_take w s (suc k) (c ∷ calls) = ap (λ (l : List Answer). answer_to w s c ∷ l) (answers_take w (step w s c) k calls)

-- the first k calls, then the others
pub run-split : (w : Setting) (s : Standing) (k : ℕ) (calls : List Call) → run w (run w s (take k calls)) (drop k calls) ≡ run w s calls
run-split w s zero calls = refl
run-split w s (suc k) [] = refl
run-split w s (suc k) (c ∷ calls) = run-split w (step w s c) k calls

-- the answer at place k is that of its call where the first k calls lead
pub asked_is : (w : Setting) (s : Standing) (k : ℕ) (calls : List Call) (c : Call) (a : Answer) → Asked k calls (answers_of w s calls) c a → answer_to w (run w s (take k calls)) c ≡ a
asked_is w s k [] c a h = absurd h
asked_is w s zero (x ∷ calls) c a h = ap (answer_to w s) (sym h.0) ∙ h.1
asked_is w s (suc k) (x ∷ calls) c a h = asked_is w (step w s x) k calls c a h

-- ---- what lasts

pub record Lasting (w : Setting) (t : TargetState) (s : Standing) : Type 0 where
  pub fits : Fitting w.section s.copies
  pub pages : length s.target.pages ≡ s.target.page_count
  pub size : s.target.page_length ≡ t.page_length
  pub fill : s.target.fill ≡ t.fill

module _ (w : Setting) (t : TargetState) where
  page_lasts : (s : Standing) (p : ℕ) (bytes : List ℕ) (ready : Bool) → Lasting w t s → Lasting w t (standing s.copies s.closed (with_page s.target p bytes ready))
  page_lasts s p bytes ready h = record { fits = h.fits; pages = length-set s.target.pages p bytes ∙ h.pages; size = h.size; fill = h.fill }

  effect_lasts : (s : Standing) (c : Call) → OfBytes c → Lasting w t s → judged w s c ≡ Ok tt → Lasting w t (effect w s c)
  effect_lasts s (frame f bytes) b h ok = record { fits = put_fits w f bytes s.copies h.fits ok b; pages = h.pages; size = h.size; fill = h.fill }
  effect_lasts s (give i) b h ok = h
  effect_lasts s (erase p) b h ok = page_lasts s p _ true h
  effect_lasts s (program j) b h ok = page_lasts s (w.section.first_page + j) _ s.target.rewritable h
  effect_lasts s close b h ok = record { fits = h.fits; pages = h.pages; size = h.size; fill = h.fill }
  effect_lasts s reopen b h ok = record { fits = h.fits; pages = h.pages; size = h.size; fill = h.fill }
  effect_lasts s verify b h ok = h

  pub step_lasts : (s : Standing) (c : Call) → OfBytes c → Lasting w t s → Lasting w t (step w s c)
  step_lasts s c b h = by_effect w s c (Lasting w t) h (effect_lasts s c b h)

  pub run_lasts : (s : Standing) (calls : List Call) → AllOfBytes calls → Lasting w t s → Lasting w t (run w s calls)
  run_lasts s [] b h = h
  run_lasts s (c ∷ calls) b h = run_lasts (step w s c) calls b.1 (step_lasts s c b.0 h)

  -- ---- a copy once there never changes

  effect_grows : (s : Standing) (c : Call) → Lasting w t s → judged w s c ≡ Ok tt → Grows s.copies (effect w s c).copies
  effect_grows s (frame f bytes) l ok = put_grows w f bytes s.copies l.fits ok
  effect_grows s (give i) l ok = λ k b x. x
  effect_grows s (erase p) l ok = λ k b x. x
  effect_grows s (program j) l ok = λ k b x. x
  effect_grows s close l ok = λ k b x. x
  effect_grows s reopen l ok = λ k b x. x
  effect_grows s verify l ok = λ k b x. x

  pub step_grows : (s : Standing) (c : Call) → Lasting w t s → Grows s.copies (step w s c).copies
  step_grows s c l = by_effect w s c (λ u. Grows s.copies u.copies) (λ k b x. x) (effect_grows s c l)

  pub run_grows : (s : Standing) (calls : List Call) → AllOfBytes calls → Lasting w t s → Grows s.copies (run w s calls).copies
  run_grows s [] b l = λ k b x. x
  run_grows s (c ∷ calls) b l = λ k x h. run_grows (step w s c) calls b.1 (step_lasts s c b.0 l) k x (step_grows s c l k x h)

-- ---- a call answered `done` does what it does

pub done_does : (w : Setting) (s : Standing) (c : Call) → answer_to w s c ≡ done → (judged w s c ≡ Ok tt) × (step w s c ≡ effect w s c)
done_does w s c =
    by_outcome w s c (λ u a. a ≡ done → (judged w s c ≡ Ok tt) × (u ≡ effect w s c)) (λ b e. cc)
    (λ x b q e. cc) (λ b q e. (q, refl))
