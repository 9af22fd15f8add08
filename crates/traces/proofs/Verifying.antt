-- Verifying: when there is a verdict, and what it says.
use Rattle.std.proofs.Common.{◌≡◌, ℕ, Bool, true, false, eqb, leb, List, Ok, Err, Result, ap, ◌∙◌}
use Rattle.std.proofs.lemmas.Bool.{cond-true, cond-false, eqb-true, eqb-false, eq-eqb, ne_eqb, leb-true, le-leb, lt-leb}
use Rattle.refusals.specs.declared.Reason.TheVariants.{WrongBuffer, NoSuchPage}
use Rattle.refusals.specs.declared.Layer.TheVariants.{Download}
use Rattle.refusals.specs.Codes.{Code, refuse}
use Rattle.gost.specs.Tables.{Rows}
use Rattle.sections.specs.Entries.{Described}
use Rattle.sections.specs.Files.{pages_end}
use Rattle.targets.specs.State.{TargetState}
use Rattle.downloads.specs.Verdicts.{image_on, value_of_image, first_off, verify_judged, good_on}
use Rattle.traces.specs.Traces.{Setting, verify, verdict, Standing, judged, answer_to}
use Rattle.traces.specs.Promise.{VerifyAnswer, value_on}
use Rattle.traces.proofs.Outcomes.{cond_ok, by_outcome, answer_is, answer_not}

-- a verdict is given by a call that is not refused, and says what it says
pub verdict_is : (w : Setting) (s : Standing) (good : Bool) → answer_to w s verify ≡ verdict good → (s.closed ≡ true) × (judged w s verify ≡ Ok tt) × (good_on w.rows w.key w.section s.target ≡ good)
verdict_is w s good =
    by_outcome w s verify (λ u a. a ≡ verdict good → (s.closed ≡ true) × (judged w s verify ≡ Ok tt) × (good_on w.rows w.key w.section s.target ≡ good))
    (λ b e. cc) (λ x b q e. cc) (λ b q e. (b, q, cc))

pub verify_answered : (w : Setting) (s : Standing) → VerifyAnswer w s.target s.closed (answer_to w s verify)
verify_answered w s =
    let t = s.target in
    let P = t.page_length in
    let value = value_on w t in
    let on = verify_judged w.section t in
    let fits = leb (pages_end P w.section) t.page_count in
    let off : Result Unit Code = Err (refuse NoSuchPage (first_off w.section t) Download) in
    record {
      good = λ e. eqb-true value w.section.tag (verdict_is w s true e).2;
      bad = λ e. eqb-false value w.section.tag (verdict_is w s false e).2;
      only = λ good e.
          let v = verdict_is w s good e in
          let a = cond_ok (eqb w.room P) on (refuse WrongBuffer 0 Download) tt v.1 in
          let b = cond_ok fits (Ok tt) (refuse NoSuchPage (first_off w.section t) Download) tt a.1 in
          (v.0, eqb-true w.room P a.0, leb-true (pages_end P w.section) t.page_count b.0);
      judges = λ c r l. (
        good_on w.rows w.key w.section t,
        answer_is w s verify (Ok tt) c (cond-true (eqb w.room P) _ _ (eq-eqb w.room P r) ∙ cond-true fits (Ok tt) off (le-leb (pages_end P w.section) t.page_count l)),
      );
      buffer = λ c r. answer_is w s verify (Err (refuse WrongBuffer 0 Download)) c (cond-false (eqb w.room P) _ _ (ne_eqb w.room P r));
      off = λ c r l. answer_is w s verify off c (cond-true (eqb w.room P) _ _ (eq-eqb w.room P r) ∙ cond-false fits (Ok tt) off (lt-leb (pages_end P w.section) t.page_count l));
      early = λ c. answer_not w s verify c;
    }

-- the same section, table and key, and the same image bytes: the same verdict
pub same_verdict : (w w' : Setting) (t t' : TargetState) → w'.section ≡ w.section → w'.rows ≡ w.rows → w'.key ≡ w.key → image_on w.section t' ≡ image_on w.section t →
    good_on w'.rows w'.key w'.section t' ≡ good_on w.rows w.key w.section t
same_verdict w w' t t' es er ek e =
    ap (λ (s : Described). good_on w'.rows w'.key s t') es
    ∙ (ap (λ (rows : Rows). good_on rows w'.key w.section t') er
    ∙ (ap (λ (key : List ℕ). good_on w.rows key w.section t') ek
    ∙ ap (λ (image : List ℕ). eqb (value_of_image w.rows w.key w.section image) w.section.tag) e))
