-- What each call answers and does, by the definitions that the contracts of downloads and targets cite:
-- one lemma for the answer and one for the step.
use Rattle.std.proofs.Common.{◌≡◌, ℕ, zero, suc, ◌+◌, ◌%◌, ◌<◌, Bool, true, false, cond, not, ◌&&◌, eqb, ltb, List, length, replicate, Some, None, Ok, Err, Result, sym, refl, ap, ◌∙◌, ap₂}
use Rattle.std.proofs.lemmas.List.{take_at}
use Rattle.std.proofs.lemmas.Bool.{cond-true, cond-false, and_from, eq-eqb, ltb-true}
use Rattle.refusals.specs.declared.Reason.TheVariants.{WrongBuffer, BadBlock}
use Rattle.refusals.specs.declared.Layer.TheVariants.{Download}
use Rattle.refusals.specs.Codes.{Code, refuse, then, unless}
use Rattle.blocks.specs.Bytes.{block}
use Rattle.modes.specs.Calls.{front}
use Rattle.targets.specs.State.{TargetState}
use Rattle.targets.specs.Calls.{with_page, erase_answer, erased, program_answer}
use Rattle.downloads.specs.declared.arrivals.Arrival.TheVariants.{Missing}
use Rattle.downloads.specs.Marks.{arrived_at}
use Rattle.downloads.specs.Copies.{Copies, no_copies, copies_in, sized}
use Rattle.downloads.specs.Frames.{block_of, blocks_of, good_store, frame_judged, frame_answer, with_frame, close_judged, close_answer}
use Rattle.downloads.specs.Blocks.{block_bytes, plain_from, give_judged, give_answer, out_after}
use Rattle.downloads.specs.Pages.{prepared_on, page_judged, page_answer, program_page_answer, target_programmed}
use Rattle.downloads.specs.Verdicts.{verify_judged, good_on, verify_answer}
use Rattle.traces.specs.Traces.{Setting, Call, frame, give, erase, program, close, reopen, verify, done, plain, verdict, Standing, standing, built, judged, effect, answered, step, answer_to}
use Rattle.traces.specs.Answers.{given_as, verdict_as}
use Rattle.traces.specs.Promise.{Fit}
use Rattle.traces.proofs.Outcomes.{by_effect, answer-built, answer_is, cond_ok}
use Rattle.traces.proofs.Framing.{Fitting}
use Rattle.traces.proofs.Giving.{block-answered}
use Rattle.traces.proofs.Paging.{page_parts, needed_has, needs_back}
use Rattle.traces.proofs.Lengths.{own, plain_long, prepared_long}

-- ---- opening: no block has arrived

none_arrived : (m k : ℕ) → arrived_at (replicate m Missing) k ≡ false
none_arrived zero k = refl
none_arrived (suc m) zero = refl
none_arrived (suc m) (suc k) = none_arrived m k

pub cleared : (n m : ℕ) (body : List ℕ) → copies_in n body (replicate m Missing) ≡ no_copies
unfolding copies_in
cleared n m body = λ i k. cond-false (arrived_at (replicate m Missing) k) (Some (block n k body)) None (none_arrived m k) i

-- ---- a call that cannot be made

pub step_not : (w : Setting) (s : Standing) (c : Call) → built s.closed c ≡ false → step w s c ≡ s
unfolding step
step_not w s c e = ap (λ (b : Bool). cond b (unless (judged w s c) s (effect w s c)) s) e

pub step-built : (w : Setting) (s : Standing) (c : Call) (r : Result Unit Code) → built s.closed c ≡ true → judged w s c ≡ r → step w s c ≡ unless r s (effect w s c)
unfolding step
step-built w s c r e q = ap₂ (λ (b : Bool) (x : Result Unit Code). cond b (unless x s (effect w s c)) s) e q

-- ---- what a refusal leaves of each part

copies_part : (r : Result Unit Code) (s : Standing) (copies : Copies) → unless r s (standing copies s.closed s.target) ≡ standing (unless r s.copies copies) s.closed s.target
copies_part (Ok u) s copies = refl
copies_part (Err e) s copies = refl

closed_part : (r : Result Unit Code) (s : Standing) (closed : Bool) → unless r s (standing s.copies closed s.target) ≡ standing s.copies (unless r s.closed closed) s.target
closed_part (Ok u) s closed = refl
closed_part (Err e) s closed = refl

target_part : (r : Result Unit Code) (s : Standing) (t : TargetState) → unless r s (standing s.copies s.closed t) ≡ standing s.copies s.closed (unless r s.target t)
target_part (Ok u) s t = refl
target_part (Err e) s t = refl

module _ (w : Setting) (s : Standing) where
  -- ---- reopening

  pub answer_reopen : s.closed ≡ true → answer_to w s reopen ≡ done
  answer_reopen o = answer_is w s reopen (Ok tt) o refl

  pub step_reopen : s.closed ≡ true → step w s reopen ≡ standing s.copies false s.target
  step_reopen o = step-built w s reopen (Ok tt) o refl

  -- ---- erasing

  pub answer_erase : (p : ℕ) → answer_to w s (erase p) ≡ answered (erase_answer s.target p) done
  answer_erase p = answer-built w s (erase p) refl

  pub step_erase : (p : ℕ) → step w s (erase p) ≡ standing s.copies s.closed (erased s.target p)
  step_erase p = step-built w s (erase p) (erase_answer s.target p) refl refl ∙ target_part (erase_answer s.target p) s _

  -- ---- verifying

  verdict_by : (b : Bool) (r : Result Unit Code) (good : Bool) → answered (sized b r) (verdict good) ≡ verdict_as (sized b (then r (λ _. Ok good)))
  verdict_by true (Ok u) good = refl
  verdict_by true (Err e) good = refl
  verdict_by false r good = refl

  pub answer_verify : s.closed ≡ true → answer_to w s verify ≡ verdict_as (verify_answer w.rows w.key w.section s.target w.room)
  unfolding verify_answer
  answer_verify o =
      answer_is w s verify (judged w s verify) o refl
      ∙ verdict_by (eqb w.room s.target.page_length) (verify_judged w.section s.target) (good_on w.rows w.key w.section s.target)

  pub step_verify : step w s verify ≡ s
  step_verify = by_effect w s verify (λ u. u ≡ s) refl (λ q. refl)

  -- ---- giving changes nothing

  pub step_give : (i : ℕ) → step w s (give i) ≡ s
  step_give i = by_effect w s (give i) (λ u. u ≡ s) refl (λ q. refl)

-- the body and the record are the section's
module _ (w : Setting) (s : Standing) (body marks : ℕ) (store : good_store w.section body marks ≡ true) where
  -- ---- a frame

  frame_sized : (f : ℕ) (bytes : List ℕ) → frame_judged w.section s.copies f bytes ≡ frame_answer w.section body marks s.copies f bytes
  unfolding frame_answer
  frame_sized f bytes = sym (cond-true (good_store w.section body marks) _ _ store)

  pub answer_frame : (f : ℕ) (bytes : List ℕ) → s.closed ≡ false → answer_to w s (frame f bytes) ≡ answered (frame_answer w.section body marks s.copies f bytes) done
  answer_frame f bytes o = answer_is w s (frame f bytes) (frame_answer w.section body marks s.copies f bytes) (ap not o) (frame_sized f bytes)

  pub step_frame : (f : ℕ) (bytes : List ℕ) → s.closed ≡ false →
      step w s (frame f bytes) ≡ standing (unless (frame_answer w.section body marks s.copies f bytes) s.copies (with_frame (block_of w.section) s.copies f bytes)) s.closed s.target
  step_frame f bytes o =
      step-built w s (frame f bytes) (frame_answer w.section body marks s.copies f bytes) (ap not o) (frame_sized f bytes)
      ∙ copies_part (frame_answer w.section body marks s.copies f bytes) s (with_frame (block_of w.section) s.copies f bytes)

  -- ---- closing

  close_sized : close_judged w.section s.copies ≡ close_answer w.section body marks s.copies
  unfolding close_answer
  close_sized = sym (cond-true (good_store w.section body marks) _ _ store)

  pub answer_close : s.closed ≡ false → answer_to w s close ≡ answered (close_answer w.section body marks s.copies) done
  answer_close o = answer_is w s close (close_answer w.section body marks s.copies) (ap not o) close_sized

  pub step_close : s.closed ≡ false → step w s close ≡ standing s.copies (unless (close_answer w.section body marks s.copies) s.closed true) s.target
  step_close o =
      step-built w s close (close_answer w.section body marks s.copies) (ap not o) close_sized ∙ closed_part (close_answer w.section body marks s.copies) s true

  -- ---- giving

  module _ (t : TargetState) (fit : Fit w t) (ft : Fitting w.section s.copies) where
    right : (room : ℕ) (want : ℕ) → room ≡ want → (eqb w.cipher.size (block_of w.section) && (good_store w.section body marks && eqb room want)) ≡ true
    right room want e = and_from (eqb w.cipher.size (block_of w.section)) _ (eq-eqb w.cipher.size (block_of w.section) fit.sized) (and_from (good_store w.section body marks) _ store (eq-eqb room want e))

    given_by_lem : (i : ℕ) (out : List ℕ) (r : Result Unit Code) (m : ℕ) → (r ≡ Ok tt → length (plain_from w.cipher w.section s.copies i) ≡ m) →
        answered r (plain (plain_from w.cipher w.section s.copies i)) ≡ given_as (then r (λ _. Ok m)) (unless (then r (λ _. Ok m)) out (front (plain_from w.cipher w.section s.copies i) out))
    given_by_lem i out (Ok u) m long = ap plain (sym (take_at (plain_from w.cipher w.section s.copies i) _ m (long refl)))
    given_by_lem i out (Err e) m long = refl

    give_sized : (i room : ℕ) → room ≡ block_of w.section → give_answer w.cipher w.section body marks s.copies i room ≡ then (give_judged w.section s.copies i) (λ _. Ok (block_bytes w.section i))
    unfolding give_answer
    give_sized i room e = cond-true (eqb w.cipher.size (block_of w.section) && (good_store w.section body marks && eqb room (block_of w.section))) _ _ (right room (block_of w.section) e)

    given_long : (i : ℕ) → give_judged w.section s.copies i ≡ Ok tt → length (plain_from w.cipher w.section s.copies i) ≡ block_bytes w.section i
    given_long i ok =
        let low : i < blocks_of w.section = ltb-true i (blocks_of w.section) (cond_ok (ltb i (blocks_of w.section)) _ (refuse BadBlock i Download) tt ok).0 in
        plain_long w t fit s.copies ft i low ((block-answered w s i low).only (plain_from w.cipher w.section s.copies i) (answer_is w s (give i) (Ok tt) refl ok) i (own w.section.mode i))

    pub answer_give : (i : ℕ) (out : List ℕ) → length out ≡ block_of w.section →
        answer_to w s (give i) ≡ given_as (give_answer w.cipher w.section body marks s.copies i (length out)) (out_after w.cipher w.section body marks s.copies i out)
    unfolding out_after
    answer_give i out e =
        let p = plain_from w.cipher w.section s.copies i in
        answer-built w s (give i) refl
        ∙ (given_by_lem i out (give_judged w.section s.copies i) (block_bytes w.section i) (given_long i)
        ∙ sym (ap (λ (r : Result ℕ Code). given_as r (unless r out (front p out))) (give_sized i (length out) e)))

    -- ---- programming

    page_sized : (j : ℕ) → judged w s (program j) ≡ program_page_answer w.cipher w.section body marks s.target s.copies w.room j
    unfolding page_answer
    page_sized j =
        let b = eqb w.room s.target.page_length in
        let all : (eqb w.cipher.size (block_of w.section) && (good_store w.section body marks && b)) ≡ b =
        ap₂ (λ (x y : Bool). x && (y && b)) (eq-eqb w.cipher.size (block_of w.section) fit.sized) store in
        sym (ap (λ (x : Bool). then (sized x (page_judged w.section s.target s.copies j)) (λ _. program_answer s.target (w.section.first_page + j) s.target.page_length)) all)

    page_granted : (j : ℕ) → page_answer w.cipher w.section body marks s.target s.copies w.room j ≡ Ok tt → page_judged w.section s.target s.copies j ≡ Ok tt
    unfolding page_answer
    page_granted j ok = (cond_ok (eqb w.cipher.size (block_of w.section) && (good_store w.section body marks && eqb w.room s.target.page_length)) (page_judged w.section s.target s.copies j) (refuse WrongBuffer 0 Download) tt ok).1

    program_by : (a q q' : Result Unit Code) (u : TargetState) → (a ≡ Ok tt → q ≡ q') →
        unless (then a (λ _. q)) s (standing s.copies s.closed u) ≡ standing s.copies s.closed (unless a s.target (unless q' s.target u))
    program_by (Ok v) q q' u h = ap (λ (r : Result Unit Code). unless r s (standing s.copies s.closed u)) (h refl) ∙ target_part q' s u
    program_by (Err e) q q' u h = refl

    pub answer_program : (j : ℕ) → answer_to w s (program j) ≡ answered (program_page_answer w.cipher w.section body marks s.target s.copies w.room j) done
    answer_program j = answer_is w s (program j) (program_page_answer w.cipher w.section body marks s.target s.copies w.room j) refl (page_sized j)

    pub step_program : (j : ℕ) → s.target.page_length % block_of w.section ≡ 0 →
        step w s (program j) ≡ standing s.copies s.closed (target_programmed w.cipher w.section body marks s.target s.copies w.room j)
    step_program j whole =
        let p = w.section.first_page + j in
        let P = s.target.page_length in
        let page = prepared_on w.cipher w.section s.target s.copies j in
        let long : page_judged w.section s.target s.copies j ≡ Ok tt → length page ≡ P =
        λ ok. prepared_long w t fit s.copies ft P s.target.fill whole j (λ k h. needed_has w P whole j s.copies (page_parts w s.target s.copies j ok).1 k (needs_back w P whole j k h)) in
        step-built w s (program j) (program_page_answer w.cipher w.section body marks s.target s.copies w.room j) refl (page_sized j)
        ∙ program_by (page_answer w.cipher w.section body marks s.target s.copies w.room j) (program_answer s.target p P) (program_answer s.target p (length page)) (with_page s.target p page s.target.rewritable)
        (λ ok. ap (program_answer s.target p) (sym (long (page_granted j ok))))
