-- What stays over every sequence of calls.
use Rattle.std.proofs.Common.{◌≡◌, ℕ, zero, suc, Bool, true, List, [], ◌∷◌, length, set, replicate, Ok, Err, Result, sym, refl, ap, ◌∙◌, arith, rules}
use Rattle.std.proofs.lemmas.List.{get_or-set_other, get_or-set_same}
use Rattle.refusals.specs.Codes.{Code}
use Rattle.targets.specs.State.{TargetState, page_of, is_locked}
use Rattle.targets.specs.Calls.{after, with_page, erase_answer, program_answer, programmed}
use Rattle.targets.specs.Laws.{Step, erase, program, read, step, run, Alters, Untouched, ReadsBack, LocksKeep, AlwaysReady}
use Rattle.targets.proofs.Answered.{erase_granted, program_granted, reading_is}

-- a call that puts bytes into page q, or is refused, spares any page that is not q
spared : (t : TargetState) (p q : ℕ) (bytes : List ℕ) (ready : Bool) (r : Result Unit Code) → ((q ≡ p) × (r ≡ Ok tt) → ⊥) →
    page_of (after r t (with_page t q bytes ready)) p ≡ page_of t p
spared t p q bytes ready (Ok u) other = get_or-set_other t.pages q p bytes [] (λ e. other (sym e, refl))
spared t p q bytes ready (Err e) other = refl

step_spares : (t : TargetState) (p : ℕ) (s : Step) → (Alters t p s → ⊥) → page_of (step t s) p ≡ page_of t p
step_spares t p (erase q) other = search (rules, spared)
step_spares t p (program q bytes) other = search (rules, spared)
step_spares t p (read q) other = refl

run_spares : (t : TargetState) (p : ℕ) (steps : List Step) → Untouched t p steps → page_of (run t steps) p ≡ page_of t p
run_spares t p [] h = refl
run_spares t p (s ∷ steps) h = run_spares (step t s) p steps h.1 ∙ step_spares t p s h.0

-- what no page put in changes stays as it is
same_after : {X : Type 0} (f : TargetState → X) (t u : TargetState) (r : Result Unit Code) → f u ≡ f t → f (after r t u) ≡ f t
same_after f t u (Ok v) e = e
same_after f t u (Err v) e = refl

same_step : {X : Type 0} (f : TargetState → X) → ((t : TargetState) (q : ℕ) (bytes : List ℕ) (ready : Bool) → f (with_page t q bytes ready) ≡ f t) → (t : TargetState) (s : Step) → f (step t s) ≡ f t
same_step f same t (erase q) = same_after f t _ (erase_answer t q) (same t q _ true)
same_step f same t (program q bytes) = same_after f t _ (program_answer t q (length bytes)) (same t q bytes t.rewritable)
same_step f same t (read q) = refl

same_run : {X : Type 0} (f : TargetState → X) → ((t : TargetState) (q : ℕ) (bytes : List ℕ) (ready : Bool) → f (with_page t q bytes ready) ≡ f t) → (t : TargetState) (steps : List Step) → f (run t steps) ≡ f t
same_run f same t [] = refl
same_run f same t (s ∷ steps) = same_run f same (step t s) steps ∙ same_step f same t s

pub reads_back : (t : TargetState) (p : ℕ) (bytes : List ℕ) → length t.pages ≡ t.page_count → ReadsBack t p bytes
reads_back t p bytes long granted steps untouched out room =
    let g = program_granted t p (length bytes) granted in
    let first = program p bytes in
    let end = run t (first ∷ steps) in
    let count = same_run (λ (u : TargetState). u.page_count) (λ u q bytes ready. refl) t (first ∷ steps) in
    let size = same_run (λ (u : TargetState). u.page_length) (λ u q bytes ready. refl) t (first ∷ steps) in
    let says = reading_is end p (omega (arith, g.0, count)) (length out) (Ok tt) (room ∙ sym size) in
    ap (λ (r : Result Unit Code). after r out (page_of end p)) says
    ∙ (run_spares (programmed t p bytes) p steps untouched
    ∙ (ap (λ (r : Result Unit Code). page_of (after r t (with_page t p bytes t.rewritable)) p) granted ∙ get_or-set_same t.pages p bytes [] (omega (arith, g.0))))

-- no call alters a locked page
barred : (t : TargetState) (p : ℕ) (s : Step) → is_locked t p ≡ true → Alters t p s → ⊥
barred t p (erase q) e h = grind (arith, erase_granted)
barred t p (program q bytes) e h = grind (arith, program_granted)
barred t p (read q) e h = h

pub locks_keep : (t : TargetState) → LocksKeep t
locks_keep t p e [] = refl
locks_keep t p e (s ∷ steps) =
    locks_keep (step t s) p (same_step (λ (u : TargetState). is_locked u p) (λ u q bytes ready. refl) t s ∙ e) steps ∙ step_spares t p s (barred t p s e)

-- every page is ready
set_same : (count q : ℕ) → set (replicate count true) q true ≡ replicate count true
set_same zero q = refl
set_same (suc count) zero = refl
set_same (suc count) (suc q) = grind (arith, set_same count q)

ready_after : (t : TargetState) (q : ℕ) (bytes : List ℕ) (ready : Bool) (r : Result Unit Code) → ready ≡ true → t.ready ≡ replicate t.page_count true → (after r t (with_page t q bytes ready)).ready ≡ replicate t.page_count true
ready_after t q bytes ready (Ok u) e all = search (rules, set_same)
ready_after t q bytes ready (Err u) e all = all

ready_step : (t : TargetState) (s : Step) → t.rewritable ≡ true → t.ready ≡ replicate t.page_count true → (step t s).ready ≡ replicate t.page_count true
ready_step t (erase q) e all = search (rules, ready_after)
ready_step t (program q bytes) e all = search (rules, ready_after)
ready_step t (read q) e all = all

pub always_ready : (t : TargetState) → t.rewritable ≡ true → t.ready ≡ replicate t.page_count true → AlwaysReady t
always_ready t e all [] = all
always_ready t e all (s ∷ steps) =
    let count = same_step (λ (u : TargetState). u.page_count) (λ u q bytes ready. refl) t s in
    let marks : ℕ → List Bool = λ n. replicate n true in
    always_ready (step t s) (same_step (λ (u : TargetState). u.rewritable) (λ u q bytes ready. refl) t s ∙ e) (ready_step t s e all ∙ sym (ap marks count)) steps ∙ ap marks count
