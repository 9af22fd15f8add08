-- A page that was last programmed holds the page made from the copies.
use Rattle.std.proofs.Common.{◌≡◌, ℕ, zero, suc, ◌+◌, ◌%◌, ◌<◌, true, List, [], ◌∷◌, length, take, drop, sym, refl, ap, ◌∙◌, subst, ap₂, arith}
use Rattle.std.proofs.ByRecursion.{All-take, All-drop}
use Rattle.std.proofs.lemmas.List.{get_or-set_same, get_or-set_other}
use Rattle.targets.specs.State.{TargetState, page_of}
use Rattle.downloads.specs.Copies.{Has}
use Rattle.downloads.specs.Frames.{block_of}
use Rattle.downloads.specs.Pages.{needs, prepared, prepared_on}
use Rattle.traces.specs.Traces.{Setting, Call, frame, give, erase, program, close, reopen, verify, done, Standing, effect, says, judged, step, answer_to, run, answers_of, OfBytes, AllOfBytes}
use Rattle.traces.specs.Promise.{Asked, Alters, LastProgrammed}
use Rattle.traces.proofs.Outcomes.{by_outcome}
use Rattle.traces.proofs.Framing.{Grows}
use Rattle.traces.proofs.Running.{Lasting, run-split, done_does, step_lasts, run_lasts, run_grows}
use Rattle.traces.proofs.Paging.{page_parts, program_parts, needed_has, needs_back, prepared-stays}

-- ---- a page that no call alters keeps its bytes

effect_spares : (w : Setting) (s : Standing) (p : ℕ) (c : Call) → (says w s c ≡ done → Alters w p c → ⊥) → page_of (effect w s c).target p ≡ page_of s.target p
effect_spares w s p (frame f bytes) other = refl
effect_spares w s p (give i) other = refl
effect_spares w s p (erase q) other = get_or-set_other s.target.pages q p _ [] (λ e. other refl (sym e))
effect_spares w s p (program j) other = get_or-set_other s.target.pages (w.section.first_page + j) p _ [] (λ e. other refl (sym e))
effect_spares w s p close other = refl
effect_spares w s p reopen other = refl
effect_spares w s p verify other = refl

step_spares : (w : Setting) (s : Standing) (p : ℕ) (c : Call) → (answer_to w s c ≡ done → Alters w p c → ⊥) → page_of (step w s c).target p ≡ page_of s.target p
step_spares w s p c =
    by_outcome w s c (λ u a. (a ≡ done → Alters w p c → ⊥) → page_of u.target p ≡ page_of s.target p) (λ b other. refl) (λ e b q other. refl) (λ b q other. effect_spares w s p c other)

pub run_spares : (w : Setting) (s : Standing) (p : ℕ) (calls : List Call) → ((m : ℕ) (c : Call) → Asked m calls (answers_of w s calls) c done → Alters w p c → ⊥) →
    page_of (run w s calls).target p ≡ page_of s.target p
run_spares w s p [] other = refl
run_spares w s p (c ∷ calls) other =
    run_spares w (step w s c) p calls (λ m x h. other (suc m) x h) ∙ step_spares w s p c (λ e. other 0 c (refl, e))

-- ---- a page that was last programmed holds the page made from the copies at that moment

-- what programming image page j at s leaves, for target page p
pub record Held (w : Setting) (s : Standing) (j : ℕ) (page : List ℕ) : Type 0 where
  pub made : page ≡ prepared_on w.cipher w.section s.target s.copies j
  pub has : (k : ℕ) → needs s.target.page_length w.section j k ≡ true → Has s.copies k

module _ (w : Setting) (t : TargetState) (whole : t.page_length % block_of w.section ≡ 0) where
  step_held : (s : Standing) (x : Call) (j : ℕ) → Lasting w t s → x ≡ program j → answer_to w s x ≡ done → Held w s j (page_of (step w s x).target (w.section.first_page + j))
  step_held s x j l e a =
      let p = w.section.first_page + j in
      let d = done_does w s x a in
      let parts = page_parts w s.target s.copies j (program_parts w s j (sym (ap (judged w s) e) ∙ d.0)) in
      let room : p < length s.target.pages = omega (arith, parts.0, l.pages) in
      let wh : s.target.page_length % block_of w.section ≡ 0 = ap (λ (P : ℕ). P % block_of w.section) l.size ∙ whole in
      record {
        made = ap (λ (u : Standing). page_of u.target p) (d.1 ∙ ap (effect w s) e) ∙ get_or-set_same s.target.pages p (prepared_on w.cipher w.section s.target s.copies j) [] room;
        has = λ k h. needed_has w s.target.page_length wh j s.copies parts.1 k (needs_back w s.target.page_length wh j k h);
      }

  pub last_held : (s : Standing) (calls : List Call) → AllOfBytes calls → Lasting w t s → (k j : ℕ) → Asked k calls (answers_of w s calls) (program j) done →
      ((m : ℕ) (c : Call) → k < m → Asked m calls (answers_of w s calls) c done → Alters w (w.section.first_page + j) c → ⊥) →
      Held w (run w s (take k calls)) j (page_of (run w s calls).target (w.section.first_page + j))
  last_held s [] b l k j h last = absurd h
  last_held s (x ∷ calls) b l zero j h last =
      subst (Held w s j) (sym (run_spares w (step w s x) (w.section.first_page + j) calls (λ m c q. last (suc m) c (omega arith) q))) (step_held s x j l h.0 h.1)
  last_held s (x ∷ calls) b l (suc k) j h last = last_held (step w s x) calls b.1 (step_lasts w t s x b.0 l) k j h (λ m c q. last (suc m) c (omega arith))

  -- ---- and so the page made from the copies now

  pub holds_now : (s : Standing) (calls : List Call) → AllOfBytes calls → Lasting w t s → (j : ℕ) → LastProgrammed w calls (answers_of w s calls) (w.section.first_page + j) →
      page_of (run w s calls).target (w.section.first_page + j) ≡ prepared w.cipher w.section t.page_length t.fill (run w s calls).copies j
  holds_now s calls b l j h =
      let same : h.page ≡ j = omega (arith, h.here) in
      let k = h.place in
      let then = run w s (take k calls) in
      let lt = run_lasts w t s (take k calls) (All-take OfBytes k calls b) l in
      let held : Held w then j (page_of (run w s calls).target (w.section.first_page + j)) =
      last_held s calls b l k j (subst (λ (x : ℕ). Asked k calls (answers_of w s calls) (program x) done) same h.programmed) h.last in
      let grows : Grows then.copies (run w s calls).copies =
      subst (λ (u : Standing). Grows then.copies u.copies) (run-split w s k calls) (run_grows w t then (drop k calls) (All-drop OfBytes k calls b) lt) in
      held.made
      ∙ (ap₂ (λ (P fill : ℕ). prepared w.cipher w.section P fill then.copies j) lt.size lt.fill
      ∙ sym (prepared-stays w t.page_length t.fill whole j then.copies (run w s calls).copies grows
      (λ i q. held.has i (ap (λ (P : ℕ). needs P w.section j i) lt.size ∙ q))))
