-- Where a trace stands is told by its calls and answers.
use Rattle.std.proofs.Common.{◌≡◌, ℕ, zero, suc, ◌⊎◌, List, [], ◌∷◌, length, take, Some, sym, refl, ap, ◌∙◌, inl, inr, ⊎_elim}
use Rattle.refusals.specs.Codes.{Code}
use Rattle.targets.specs.State.{TargetState}
use Rattle.downloads.specs.Copies.{no_copies}
use Rattle.downloads.specs.Frames.{block_of, block_in}
use Rattle.traces.specs.Traces.{Setting, Call, frame, give, erase, program, close, reopen, verify, Answer, done, refused, not_built, Standing, standing, begun, effect, says, step, answer_to, run, answers_of, AllOfBytes}
use Rattle.traces.specs.Promise.{Asked, copies_by, closed_by, target_by, received_from, closed_from, target_from, copies_at, closed_at, target_at, Covers, CopiesOf, StandsAsTold}
use Rattle.traces.proofs.Outcomes.{by_outcome}
use Rattle.traces.proofs.Framing.{put_in, put_from}
use Rattle.traces.proofs.Running.{Lasting, answers_take, done_does, step_lasts, run_grows}

-- one call, as its answer tells
abbrev told : Setting → Standing → Call → Answer → Standing
told w s c a = standing (copies_by w s.copies c a) (closed_by s.closed c a) (target_by w s.copies s.target c a)

told_not : (w : Setting) (s : Standing) (c : Call) → told w s c not_built ≡ s
told_not w s (frame f bytes) = refl
told_not w s (give i) = refl
told_not w s (erase p) = refl
told_not w s (program j) = refl
told_not w s close = refl
told_not w s reopen = refl
told_not w s verify = refl

told_refused : (w : Setting) (s : Standing) (c : Call) (e : Code) → told w s c (refused e) ≡ s
told_refused w s (frame f bytes) e = refl
told_refused w s (give i) e = refl
told_refused w s (erase p) e = refl
told_refused w s (program j) e = refl
told_refused w s close e = refl
told_refused w s reopen e = refl
told_refused w s verify e = refl

told_says : (w : Setting) (s : Standing) (c : Call) → told w s c (says w s c) ≡ effect w s c
told_says w s (frame f bytes) = refl
told_says w s (give i) = refl
told_says w s (erase p) = refl
told_says w s (program j) = refl
told_says w s close = refl
told_says w s reopen = refl
told_says w s verify = refl

told_step : (w : Setting) (s : Standing) (c : Call) → told w s c (answer_to w s c) ≡ step w s c
told_step w s c = by_outcome w s c (λ u a. told w s c a ≡ u) (λ b. told_not w s c) (λ e b q. told_refused w s c e) (λ b q. told_says w s c)

abbrev told_all : Setting → Standing → List Call → List Answer → Standing
told_all w s calls answers = standing (received_from w s.copies calls answers) (closed_from s.closed calls answers) (target_from w s.copies s.target calls answers)

pub told_run : (w : Setting) (s : Standing) (calls : List Call) → told_all w s calls (answers_of w s calls) ≡ run w s calls
told_run w s [] = refl
told_run w s (c ∷ calls) = ap (λ (u : Standing). told_all w u calls (answers_of w (step w s c) calls)) (told_step w s c) ∙ told_run w (step w s c) calls

pub stands_as_told : StandsAsTold
stands_as_told w t calls = sym (told_run w (begun t) calls)

-- before place k
pub stands_at : (w : Setting) (t : TargetState) (calls : List Call) (k : ℕ) →
    run w (begun t) (take k calls)
    ≡ standing (copies_at w calls (answers_of w (begun t) calls) k) (closed_at calls (answers_of w (begun t) calls) k) (target_at w t calls (answers_of w (begun t) calls) k)
stands_at w t calls k = stands_as_told w t (take k calls) ∙ ap (told_all w (begun t) (take k calls)) (sym (answers_take w (begun t) k calls))

-- ---- the copies are those of the accepted frames

module _ (w : Setting) where
  abbrev n : ℕ
  n = block_of w.section

  -- an accepted frame has this copy of block i
  abbrev Came : List Call → List Answer → ℕ → List ℕ → Type 0
  Came calls answers i b = (k f : ℕ) × (bytes : List ℕ) × Asked k calls answers (frame f bytes) done × Covers n f (length bytes) i × (b ≡ block_in n f bytes i)

  came_later : (c : Call) (a : Answer) (calls : List Call) (answers : List Answer) (i : ℕ) (b : List ℕ) → Came calls answers i b → Came (c ∷ calls) (a ∷ answers) i b
  came_later c a calls answers i b h = (suc h.0, h.1, h.2, h.3, h.4, h.5)

  from_effect : (s : Standing) (c : Call) (calls : List Call) (answers : List Answer) (i : ℕ) (b : List ℕ) → (effect w s c).copies i ≡ Some b → (s.copies i ≡ Some b) ⊎ Came (c ∷ calls) (says w s c ∷ answers) i b
  from_effect s (frame f bytes) calls answers i b h =
      ⊎_elim (λ (e : s.copies i ≡ Some b). inl e) (λ (e : Covers n f (length bytes) i × (b ≡ block_in n f bytes i)). inr (0, f, bytes, (refl, refl), e.0, e.1)) (put_from n s.copies f bytes i b h)
  from_effect s (give j) calls answers i b h = inl h
  from_effect s (erase p) calls answers i b h = inl h
  from_effect s (program j) calls answers i b h = inl h
  from_effect s close calls answers i b h = inl h
  from_effect s reopen calls answers i b h = inl h
  from_effect s verify calls answers i b h = inl h

  from_step : (s : Standing) (c : Call) (calls : List Call) (answers : List Answer) (i : ℕ) (b : List ℕ) → (step w s c).copies i ≡ Some b → (s.copies i ≡ Some b) ⊎ Came (c ∷ calls) (answer_to w s c ∷ answers) i b
  from_step s c calls answers i b =
      by_outcome w s c (λ u a. u.copies i ≡ Some b → (s.copies i ≡ Some b) ⊎ Came (c ∷ calls) (a ∷ answers) i b) (λ _ h. inl h) (λ e _ _ h. inl h) (λ _ _ h. from_effect s c calls answers i b h)

  from_run : (s : Standing) (calls : List Call) (i : ℕ) (b : List ℕ) → (run w s calls).copies i ≡ Some b → (s.copies i ≡ Some b) ⊎ Came calls (answers_of w s calls) i b
  from_run s [] i b h = inl h
  from_run s (c ∷ calls) i b h =
      ⊎_elim (λ (e : (step w s c).copies i ≡ Some b). from_step s c calls (answers_of w (step w s c) calls) i b e)
      (λ (e : Came calls (answers_of w (step w s c) calls) i b). inr (came_later c (answer_to w s c) calls (answers_of w (step w s c) calls) i b e))
      (from_run (step w s c) calls i b h)

  puts_step : (s : Standing) (x : Call) (f : ℕ) (bytes : List ℕ) → x ≡ frame f bytes → answer_to w s x ≡ done → (i : ℕ) → Covers n f (length bytes) i → (step w s x).copies i ≡ Some (block_in n f bytes i)
  puts_step s x f bytes e a i c =
      ap (λ (u : Standing). u.copies i) (done_does w s x a).1 ∙ (ap (λ (y : Call). (effect w s y).copies i) e ∙ put_in n s.copies f bytes i c)

  module _ (t : TargetState) where
    puts_run : (s : Standing) (calls : List Call) → AllOfBytes calls → Lasting w t s → (k f : ℕ) (bytes : List ℕ) → Asked k calls (answers_of w s calls) (frame f bytes) done →
        (i : ℕ) → Covers n f (length bytes) i → (run w s calls).copies i ≡ Some (block_in n f bytes i)
    puts_run s [] b l k f bytes h i c = absurd h
    puts_run s (x ∷ calls) b l zero f bytes h i c = run_grows w t (step w s x) calls b.1 (step_lasts w t s x b.0 l) i (block_in n f bytes i) (puts_step s x f bytes h.0 h.1 i c)
    puts_run s (x ∷ calls) b l (suc k) f bytes h i c = puts_run (step w s x) calls b.1 (step_lasts w t s x b.0 l) k f bytes h i c

    pub copies_of : (calls : List Call) → AllOfBytes calls → Lasting w t (begun t) → CopiesOf w calls (answers_of w (begun t) calls) (run w (begun t) calls).copies
    copies_of calls b l =
        record {
          from = λ i x h. ⊎_elim (λ (e : no_copies i ≡ Some x). cc) (λ (e : Came calls (answers_of w (begun t) calls) i x). e) (from_run (begun t) calls i x h);
          all = puts_run (begun t) calls b l;
        }
