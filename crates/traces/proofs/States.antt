-- Erasing, closing and reopening.
use Rattle.std.proofs.Common.{◌≡◌, ℕ, ◌<◌, false, not, List, is_some, Some, None, Ok, Err, Option, sym, refl, ap, ◌∙◌, inl, inr, arith}
use Rattle.std.proofs.lemmas.Bool.{cases_lt, cases_Bool, lt-leb, le-leb, not-true, not-false, both_ways, false≢true}
use Rattle.refusals.specs.declared.Reason.TheVariants.{MissingBlock, NoSuchPage, LockedPage}
use Rattle.refusals.specs.declared.Layer.TheVariants.{Download, Target}
use Rattle.refusals.specs.Codes.{Code, refuse}
use Rattle.targets.specs.State.{TargetState, is_locked}
use Rattle.targets.specs.Calls.{erase_answer}
use Rattle.downloads.specs.Marks.{lowest}
use Rattle.downloads.specs.Copies.{Copies, Has, lacks, refused_at}
use Rattle.downloads.specs.Frames.{blocks_of}
use Rattle.downloads.proofs.Lowest.{found, none_found}
use Rattle.traces.specs.Traces.{Setting, erase, close, reopen, Answer, done, refused, Standing, answered, answer_to}
use Rattle.traces.specs.Promise.{refused_with, EraseAnswer, CloseAnswer, ReopenAnswer}
use Rattle.traces.proofs.Outcomes.{answer-built, answer_is, answer_not}
use Rattle.traces.proofs.Wanted.{has_of, none_of}

refused_not : (a : Answer) (e : Code) → a ≡ refused e → a ≡ done → ⊥
refused_not a e p q = let r : refused e ≡ done = sym p ∙ q in cc

erase_by : (t : TargetState) (p : ℕ) (a : Answer) → a ≡ answered (erase_answer t p) done → EraseAnswer t p a
erase_by t p a e =
    elim (cases_lt p t.page_count) [
      | inl low ↦ elim (cases_Bool (is_locked t p)) [
        | inl locked ↦
            let said : a ≡ refused (refuse LockedPage p Target) = e ∙ rw (lt-leb t.page_count p low, locked) in
            record { only = λ q. absurd (refused_not a _ said q); accepted = λ l n. absurd (both_ways (is_locked t p) n locked) }
        | inr free ↦
            let said : a ≡ done = e ∙ rw (lt-leb t.page_count p low, free) in
            record { only = λ q. (low, free); accepted = λ l n. said }
      ]
      | inr high ↦
          let said : a ≡ refused (refuse NoSuchPage p Target) = e ∙ rw (le-leb t.page_count p high) in
          record { only = λ q. absurd (refused_not a _ said q); accepted = λ l n. absurd (omega arith) }
    ]

pub erase_answered : (w : Setting) (s : Standing) (p : ℕ) → EraseAnswer s.target p (answer_to w s (erase p))
erase_answered w s p = erase_by s.target p (answer_to w s (erase p)) (answer-built w s (erase p) refl)

pub reopen_answered : (w : Setting) (s : Standing) → ReopenAnswer s.closed (answer_to w s reopen)
reopen_answered w s = record { accepted = λ c. answer_is w s reopen (Ok tt) c refl; early = λ c. answer_not w s reopen c }

module _ (w : Setting) (s : Standing) where
  abbrev copies : Copies
  copies = s.copies

  abbrev m : ℕ
  m = blocks_of w.section

  receiving : s.closed ≡ false → (o : Option ℕ) → lowest (lacks copies) 0 m ≡ o → CloseAnswer w copies s.closed (answer_to w s close)
  receiving c None e =
      let said : answer_to w s close ≡ done = answer_is w s close (Ok tt) (ap not c) (ap (refused_at MissingBlock) e) in
      let have : (k : ℕ) → k < m → Has copies k = λ k l. has_of copies k (copies k) refl (not-false (is_some (copies k)) (none_found (lacks copies) m 0 e k (omega arith) (omega arith))) in
      record { only = λ q. (c, have); accepted = λ x h. said; missing = λ x n. absurd (n said); late = λ x. absurd (false≢true (sym c ∙ x)) }
  receiving c (Some k) e =
      let said : answer_to w s close ≡ refused_with 12 k = answer_is w s close (Err (refuse MissingBlock k Download)) (ap not c) (ap (refused_at MissingBlock) e) in
      let p = found (lacks copies) m 0 k e in
      let none : copies k ≡ None = none_of (copies k) (not-true (is_some (copies k)) p.passes) in
      let gap : ((i : ℕ) → i < m → Has copies i) → ⊥ = λ h. let b = h k (omega (arith, p.to)) in both_ways (is_some (copies k)) (ap is_some none) (ap is_some b.1) in
      record {
        only = λ q. absurd (refused_not (answer_to w s close) _ said q);
        accepted = λ x h. absurd (gap h);
        missing = λ x n. (
          k,
          said,
          record {
            holds = (omega (arith, p.to), none);
            least = λ j h. elim (cases_lt j k) [
              | inl low ↦ absurd (both_ways (lacks copies j) (p.first j (omega arith) low) (ap (λ (o : Option (List ℕ)). not (is_some o)) h.1))
              | inr high ↦ high
            ];
          },
        );
        late = λ x. absurd (false≢true (sym c ∙ x));
      }

  pub close_answered : CloseAnswer w copies s.closed (answer_to w s close)
  close_answered =
      elim (cases_Bool s.closed) [
        | inl shut ↦
            let said = answer_not w s close (ap not shut) in
            record {
              only = λ q. let r = sym said ∙ q in cc;
              accepted = λ c h. absurd (false≢true (sym c ∙ shut));
              missing = λ c n. absurd (false≢true (sym c ∙ shut));
              late = λ c. said;
            }
        | inr free ↦ receiving free (lowest (lacks copies) 0 m) refl
      ]
