-- Giving a block: when it is handed over, and what it is.
use Rattle.std.proofs.Common.{◌≡◌, ℕ, suc, ◌+◌, ◌-◌, ◌*◌, ◌<◌, ◌≤◌, min, true, false, ◌&&◌, ltb, ◌≢◌, ◌⊎◌, List, length, Some, None, Ok, Option, Result, sym, refl, ap, ◌∙◌, subst, inl, inr, ⊎_elim, arith}
use Rattle.std.proofs.lemmas.Bool.{cond-true, cond-false, cases_Bool, cases_lt, lt-ltb, le-ltb, both_ways}
use Rattle.std.proofs.lemmas.Slice.Eq.{bytes_eq-Decides}
use Rattle.std.specs.Str.{bytes_eq}
use Rattle.refusals.specs.declared.Reason.TheVariants.{MissingBlock}
use Rattle.refusals.specs.Codes.{Code}
use Rattle.blocks.specs.Bytes.{Bytes, block}
use Rattle.modes.specs.declared.mode.Mode.{Mode}
use Rattle.modes.specs.Modes.{Chaining, Depends, block_count}
use Rattle.modes.specs.Calls.{mode_answer}
use Rattle.modes.specs.Laws as laws
use Rattle.modes.specs.Laws.{InPlace, Reaches, Sound, SameBits}
use Rattle.modes.proofs.Joined.{length-block}
use Rattle.modes.proofs.Undoing.{depends_le, sent_long}
use Rattle.modes.proofs.Judged.{judged_sound}
use Rattle.modes.proofs.Plain.{reach_judged}
use Rattle.sections.specs.Seals.{chaining_of}
use Rattle.targets.specs.State.{TargetState}
use Rattle.downloads.specs.Marks.{lowest}
use Rattle.downloads.specs.Copies.{Copies, Has, lacks, copy_at, refused_at}
use Rattle.downloads.specs.Frames.{block_of, blocks_of}
use Rattle.downloads.specs.Blocks.{depends, give_judged, plain_from}
use Rattle.traces.specs.Traces.{Setting, give, plain, Standing, answered, answer_to}
use Rattle.traces.specs.Promise.{Fit, BlockAnswer, refused_with, Sent, sent_block, sent_plain, Unaltered, Altered, Reach}
use Rattle.traces.proofs.Wanted.{depends_true, depends_back, copy_is, wanted_has, wanted_lacks}
use Rattle.traces.proofs.Outcomes.{answer-built}
use Rattle.traces.proofs.Framing.{Fitting}

-- ---- when a block is handed over

module _ (w : Setting) (copies : Copies) (i : ℕ) (low : i < blocks_of w.section) where
  abbrev mode : Mode
  mode = w.section.mode

  below : (k : ℕ) → Depends mode i k → k < blocks_of w.section
  below k d = omega (arith, low, depends_le mode i k d)

  abbrev found : Option ℕ
  found = lowest (λ k. depends mode i k && lacks copies k) 0 (blocks_of w.section)

  give_is : give_judged w.section copies i ≡ refused_at MissingBlock found
  give_is = cond-true (ltb i (blocks_of w.section)) _ _ (lt-ltb i (blocks_of w.section) low)

  handed_by : (o : Option ℕ) → found ≡ o → BlockAnswer w copies i (answered (refused_at MissingBlock o) (plain (plain_from w.cipher w.section copies i)))
  handed_by None e =
      record {
        only = λ out q. wanted_has (Depends mode i) (depends mode i) copies (blocks_of w.section) (depends_true mode i) (depends_back mode i) below e;
        handed = λ h. (plain_from w.cipher w.section copies i, refl);
        is = λ out q. cc;
        missing = λ never. absurd (never (plain_from w.cipher w.section copies i) refl);
      }
  handed_by (Some k) e =
      let l = wanted_lacks (Depends mode i) (depends mode i) copies (blocks_of w.section) (depends_true mode i) (depends_back mode i) below k e in
      record {
        only = λ out q. cc;
        handed = λ h. let b = h k l.holds.0 in let q = b.1 in let r = l.holds.1 in cc;
        is = λ out q. cc;
        missing = λ never. (k, refl, l);
      }

pub block-answered : (w : Setting) (s : Standing) (i : ℕ) → i < blocks_of w.section → BlockAnswer w s.copies i (answer_to w s (give i))
block-answered w s i low =
    let out = plain (plain_from w.cipher w.section s.copies i) in
    subst (BlockAnswer w s.copies i)
    (sym (answer-built w s (give i) refl ∙ ap (λ (r : Result Unit Code). answered r out) (give_is w s.copies i low)))
    (handed_by w s.copies i low (found w s.copies i low) refl)

pub no_block_lem : (w : Setting) (s : Standing) (i : ℕ) → blocks_of w.section ≤ i → answer_to w s (give i) ≡ refused_with 10 i
no_block_lem w s i h =
    let out = plain (plain_from w.cipher w.section s.copies i) in
    answer-built w s (give i) refl ∙ ap (λ (r : Result Unit Code). answered r out) (cond-false (ltb i (blocks_of w.section)) _ _ (le-ltb i (blocks_of w.section) h))

-- ---- what a block that is handed over is

-- lists are equal or not
cases_list : (xs ys : List ℕ) → (xs ≡ ys) ⊎ (xs ≢ ys)
cases_list xs ys =
    ⊎_elim (λ (e : bytes_eq xs ys ≡ true). inl ((bytes_eq-Decides xs ys).0 e)) (λ (e : bytes_eq xs ys ≡ false). inr (λ q. both_ways (bytes_eq xs ys) e ((bytes_eq-Decides xs ys).1 q)))
    (cases_Bool (bytes_eq xs ys))

module _ (w : Setting) (t : TargetState) (fit : Fit w t) where
  abbrev chain : Chaining
  chain = chaining_of w.cipher w.section

  judged_mode : mode_answer w.cipher.size w.section.mode w.section.sync w.section.length ≡ Ok tt
  judged_mode = ap (λ (n : ℕ). mode_answer n w.section.mode w.section.sync w.section.length) fit.sized ∙ fit.mode

  pub sound_chain : Sound chain w.section.length
  sound_chain = judged_sound w.cipher w.section.mode w.section.sync w.section.length fit.lawful judged_mode

  reach_all : Reaches chain w.section.length
  reach_all = reach_judged w.cipher w.section.mode w.section.sync w.section.length fit.lawful judged_mode

  module _ (copies : Copies) (ft : Fitting w.section copies) (image : List ℕ) (im : Sent w image) where
    low_size : (k : ℕ) → k < blocks_of w.section → k < block_count w.cipher.size w.section.length
    low_size k l = subst (λ (n : ℕ). k < block_count n w.section.length) (sym fit.sized) l

    plain_size : (i : ℕ) → block w.cipher.size i image ≡ sent_plain w image i
    plain_size i = ap (λ (n : ℕ). block n i image) fit.sized

    -- a copy is as long as the sent block
    pub in_place : (k : ℕ) → Has copies k → InPlace (copy_at copies k) (sent_block w image k)
    in_place k h =
        let f = ft k h.0 h.1 in
        let c = copy_is copies k h.0 h.1 in
        let sent : length (sent_block w image k) ≡ min (block_of w.section) (w.section.length - block_of w.section * k) =
        sent_long chain w.section.length sound_chain image im k (low_size k f.0) ∙ (ap length (plain_size k) ∙ (length-block (block_of w.section) k image
        ∙ ap (λ (x : ℕ). min (block_of w.section) (x - block_of w.section * k)) im.0)) in
        (ap length c ∙ (f.1 ∙ sym sent), subst Bytes (sym c) f.2)

    -- a copy that is not altered is unaltered
    not_altered : (k : ℕ) → Has copies k → (Altered w image copies k → ⊥) → Unaltered w image copies k
    not_altered k h never =
        ⊎_elim (λ (e : h.0 ≡ sent_block w image k). h.1 ∙ ap Some e) (λ (ne : h.0 ≢ sent_block w image k). absurd (never (h.0, h.1, ne))) (cases_list h.0 (sent_block w image k))

    same : (k : ℕ) → Unaltered w image copies k → copy_at copies k ≡ sent_block w image k
    same k u = copy_is copies k (sent_block w image k) u

    other : (k : ℕ) → Altered w image copies k → copy_at copies k ≢ sent_block w image k
    other k a q = a.2 (sym (copy_is copies k a.0 a.1) ∙ q)

    module _ (i : ℕ) (low : i < blocks_of w.section) (has : (k : ℕ) → Depends w.section.mode i k → Has copies k) where
      abbrev out : List ℕ
      out = plain_from w.cipher w.section copies i

      law : laws.Reach chain w.section.length image (copy_at copies) i
      law = reach_all image im (copy_at copies) i (low_size i low) (λ k d. in_place k (has k d))

      unaltered : ((k : ℕ) → Depends w.section.mode i k → Unaltered w image copies k) → out ≡ sent_plain w image i
      unaltered u = law.unaltered (λ k d. same k (u k d)) ∙ plain_size i

      bits : SameBits out (block w.cipher.size i image) (copy_at copies i) (sent_block w image i) → SameBits out (sent_plain w image i) (copy_at copies i) (sent_block w image i)
      bits h = subst (λ (x : List ℕ). SameBits out x (copy_at copies i) (sent_block w image i)) (plain_size i) h

      pub reaches : Reach w image copies i out
      reaches =
          record {
            unaltered = unaltered;
            codebook = λ m a q. law.codebook m (other i a) (q ∙ sym (plain_size i));
            counter = λ m. bits (law.counter m);
            feedback = λ m u. bits (law.feedback m (λ k e. same k (u k e)));
            next = λ m k e a u whole q.
                law.next m k e (other k a) (same i u) (subst (λ (n : ℕ). n * i + n ≤ w.section.length) (sym fit.sized) whole) (q ∙ sym (plain_size i));
            alone = λ m k alone ni nsi.
                unaltered (λ j d. not_altered j (has j d) (λ a.
                let jk = alone j a in
                ⊎_elim (λ (e : j ≡ i). ni (sym e ∙ jk)) (λ (e : suc j ≡ i). nsi (sym e ∙ ap suc jk)) (subst (λ (x : Mode). Depends x i j) m d)));
          }

  -- unaltered blocks give the sent ones
  pub sent_back : (copies : Copies) → Fitting w.section copies → (image : List ℕ) → Sent w image → (i : ℕ) → i < blocks_of w.section →
      ((k : ℕ) → Depends w.section.mode i k → Unaltered w image copies k) → plain_from w.cipher w.section copies i ≡ sent_plain w image i
  sent_back copies ft image im i low u = (reaches copies ft image im i low (λ k d. (sent_block w image k, u k d))).unaltered u

  -- of a block that was handed over
  pub given_reaches : (s : Standing) → Fitting w.section s.copies → (i : ℕ) (out : List ℕ) → answer_to w s (give i) ≡ plain out → (image : List ℕ) → Sent w image → Reach w image s.copies i out
  given_reaches s ft i out e image im =
      ⊎_elim
      (λ (low : i < blocks_of w.section).
      let a = block-answered w s i low in
      subst (Reach w image s.copies i) (sym (a.is out e)) (reaches s.copies ft image im i low (a.only out e)))
      (λ (high : blocks_of w.section ≤ i). let q = sym (no_block_lem w s i high) ∙ e in cc)
      (cases_lt i (blocks_of w.section))
