-- Every trace keeps the promise.
use Rattle.std.proofs.Common.{◌≡◌, ℕ, ◌+◌, ◌*◌, ◌%◌, ◌<◌, Bool, true, List, take, sym, refl, ap, ◌∙◌, subst}
use Rattle.std.proofs.ByRecursion.{All-take}
use Rattle.std.proofs.lemmas.Bool.{eq-eqb}
use Rattle.targets.specs.State.{TargetState}
use Rattle.downloads.specs.Frames.{block_of, blocks_of}
use Rattle.downloads.specs.Verdicts.{image_on, value_of_image}
use Rattle.traces.specs.Traces.{Setting, Call, frame, give, program, verify, Answer, plain, verdict, Standing, standing, begun, answer_to, run, answers_of, OfBytes, AllOfBytes, erase, close, reopen}
use Rattle.traces.proofs.States.{erase_answered, close_answered, reopen_answered}
use Rattle.traces.specs.Promise.{Asked, copies_at, closed_at, target_at, LastProgrammed, CopiesOf, FrameAnswer, BlockAnswer, PageAnswer, VerifyAnswer, Reach, refused_with, Sent, Unaltered, value_on, Fit, Promise, PromiseHolds, EraseAnswer, CloseAnswer, ReopenAnswer}
use Rattle.traces.proofs.Framing.{frame_answered}
use Rattle.traces.proofs.Giving.{block-answered, no_block_lem, given_reaches}
use Rattle.traces.proofs.Running.{Lasting, answers_long, answers_take, asked_is, run_lasts}
use Rattle.traces.proofs.Told.{stands_at, copies_of}
use Rattle.traces.proofs.Paging.{whole_page, some_page, page_answered}
use Rattle.traces.proofs.Holding.{holds_now}
use Rattle.traces.proofs.Imaging.{image_is}
use Rattle.traces.proofs.Verifying.{verdict_is, verify_answered, same_verdict}

module _ (w : Setting) (t : TargetState) (fit : Fit w t) where
  begun_lasts : Lasting w t (begun t)
  begun_lasts = record { fits = λ k b e. cc; pages = fit.target.paged; size = refl; fill = refl }

  pub lasting : (calls : List Call) → AllOfBytes calls → Lasting w t (run w (begun t) calls)
  lasting calls b = run_lasts w t (begun t) calls b begun_lasts

  -- a page stays some whole blocks
  pub whole_now : (calls : List Call) → AllOfBytes calls → (run w (begun t) calls).target.page_length % block_of w.section ≡ 0
  whole_now calls b = ap (λ (P : ℕ). P % block_of w.section) (lasting calls b).size ∙ whole_page w t fit.target

  -- all unaltered and last programmed: the target holds the sent image
  pub image_there : (calls : List Call) → AllOfBytes calls → (image : List ℕ) → Sent w image →
      ((i : ℕ) → i < blocks_of w.section → Unaltered w image (run w (begun t) calls).copies i) →
      ((j : ℕ) → j * t.page_length < w.section.length → LastProgrammed w calls (answers_of w (begun t) calls) (w.section.first_page + j)) →
      image_on w.section (run w (begun t) calls).target ≡ image
  image_there calls b image im all last =
      let whole = whole_page w t fit.target in
      image_is w t fit (run w (begun t) calls).copies (lasting calls b).fits image im all t.page_length whole (some_page t fit.target) t.fill (run w (begun t) calls).target
      (λ j l. holds_now w t whole (begun t) calls b begun_lasts j (last j l))

  module _ (calls : List Call) (bs : AllOfBytes calls) where
    abbrev answers : List Answer
    answers = answers_of w (begun t) calls

    abbrev at : ℕ → Standing
    at k = run w (begun t) (take k calls)

    bytes_at : (k : ℕ) → AllOfBytes (take k calls)
    bytes_at k = All-take OfBytes k calls bs

    there : (k : ℕ) → at k ≡ standing (copies_at w calls answers k) (closed_at calls answers k) (target_at w t calls answers k)
    there k = stands_at w t calls k

    -- what holds of where the trace stands, and of the answer there, holds of what was told
    carried : (P : Standing → Answer → Type 0) (k : ℕ) (c : Call) (a : Answer) → Asked k calls answers c a → P (at k) (answer_to w (at k) c) → P (standing (copies_at w calls answers k) (closed_at calls answers k) (target_at w t calls answers k)) a
    carried P k c a h p = subst (λ (s : Standing). P s a) (there k) (subst (P (at k)) (asked_is w (begun t) k calls c a h) p)

    copies_told : (k : ℕ) → CopiesOf w (take k calls) (take k answers) (copies_at w calls answers k)
    copies_told k =
        subst (λ (s : Standing). CopiesOf w (take k calls) (take k answers) s.copies) (there k)
        (subst (λ (x : List Answer). CopiesOf w (take k calls) x (at k).copies) (sym (answers_take w (begun t) k calls)) (copies_of w t (take k calls) (bytes_at k) begun_lasts))

    page_told : (k j : ℕ) → PageAnswer w t.page_length (at k).copies (at k).target j (answer_to w (at k) (program j))
    page_told k j = subst (λ (P : ℕ). PageAnswer w P (at k).copies (at k).target j (answer_to w (at k) (program j))) (lasting (take k calls) (bytes_at k)).size (page_answered w (at k) j (whole_now (take k calls) (bytes_at k)))

    alike : (k : ℕ) (good : Bool) → Asked k calls answers verify (verdict good) →
        (w' : Setting) (t' : TargetState) (calls' : List Call) (k' : ℕ) (good' : Bool) →
        w'.section ≡ w.section → w'.rows ≡ w.rows → w'.key ≡ w.key →
        Asked k' calls' (answers_of w' (begun t') calls') verify (verdict good') →
        image_on w.section (target_at w' t' calls' (answers_of w' (begun t') calls') k') ≡ image_on w.section (target_at w t calls answers k) → good' ≡ good
    alike k good h w' t' calls' k' good' es er ek h' e =
        let u' = run w' (begun t') (take k' calls') in
        let v = verdict_is w (at k) good (asked_is w (begun t) k calls verify (verdict good) h) in
        let v' = verdict_is w' u' good' (asked_is w' (begun t') k' calls' verify (verdict good') h') in
        let image : image_on w.section u'.target ≡ image_on w.section (at k).target =
        ap (λ (s : Standing). image_on w.section s.target) (stands_at w' t' calls' k') ∙ (e ∙ sym (ap (λ (s : Standing). image_on w.section s.target) (there k))) in
        sym v'.2 ∙ (same_verdict w w' (at k).target u'.target es er ek image ∙ v.2)

    sound : (k : ℕ) (good : Bool) → Asked k calls answers verify (verdict good) → (image : List ℕ) → Sent w image →
        ((i : ℕ) → i < blocks_of w.section → Unaltered w image (copies_at w calls answers k) i) →
        ((j : ℕ) → j * t.page_length < w.section.length → LastProgrammed w (take k calls) (take k answers) (w.section.first_page + j)) →
        w.section.tag ≡ value_of_image w.rows w.key w.section image → good ≡ true
    sound k good h image im all last tag =
        let v = verdict_is w (at k) good (asked_is w (begun t) k calls verify (verdict good) h) in
        let held : image_on w.section (at k).target ≡ image =
        image_there (take k calls) (bytes_at k) image im
        (λ i l. subst (λ (s : Standing). Unaltered w image s.copies i) (sym (there k)) (all i l))
        (λ j l. subst (λ (x : List Answer). LastProgrammed w (take k calls) x (w.section.first_page + j)) (answers_take w (begun t) k calls) (last j l)) in
        sym v.2 ∙ eq-eqb (value_on w (at k).target) w.section.tag (ap (value_of_image w.rows w.key w.section) held ∙ sym tag)

    pub promised : Promise w t calls answers
    promised =
        record {
          each = answers_long w (begun t) calls;
          copies = copies_told;
          frames = λ k f bytes a h. carried (λ s x. FrameAnswer w s.copies s.closed f bytes x) k (frame f bytes) a h (frame_answered w (at k) f bytes (lasting (take k calls) (bytes_at k)).fits);
          blocks = λ k i a h low. carried (λ s x. BlockAnswer w s.copies i x) k (give i) a h (block-answered w (at k) i low);
          no_block = λ k i a h high. carried (λ s x. x ≡ refused_with 10 i) k (give i) a h (no_block_lem w (at k) i high);
          reach = λ k i out h image im.
              carried (λ s x. Reach w image s.copies i out) k (give i) (plain out) h
              (given_reaches w t fit (at k) (lasting (take k calls) (bytes_at k)).fits i out (asked_is w (begun t) k calls (give i) (plain out) h) image im);
          pages = λ k j a h. carried (λ s x. PageAnswer w t.page_length s.copies s.target j x) k (program j) a h (page_told k j);
          erasing = λ k p a h. carried (λ s x. EraseAnswer s.target p x) k (erase p) a h (erase_answered w (at k) p);
          closing = λ k a h. carried (λ s x. CloseAnswer w s.copies s.closed x) k close a h (close_answered w (at k));
          reopening = λ k a h. carried (λ s x. ReopenAnswer s.closed x) k reopen a h (reopen_answered w (at k));
          verdicts = λ k a h. carried (λ s x. VerifyAnswer w s.target s.closed x) k verify a h (verify_answered w (at k));
          alike = alike;
          sound = sound;
        }

pub promise_holds : PromiseHolds
promise_holds w t calls fit bs = promised w t fit calls bs
