-- Programming an image page: what it needs, and what it is made from.
use Rattle.std.proofs.Common.{◌≡◌, ℕ, ◌+◌, ◌*◌, ◌/◌, ◌%◌, ◌<◌, ◌≤◌, Bool, true, false, cond, not, ◌&&◌, eqb, ltb, leb, ◌⊎◌, List, is_some, Some, None, Ok, Err, Option, Result, sym, refl, ap, ◌∙◌, subst, inl, inr, ⊎_elim, mul_assoc, mul_comm, mul-le-mul_left, mul-one, mul-add, arith}
use native.Mathlib.Nat.{lt_of_mul-lt-mul_left}
use Rattle.std.proofs.lemmas.Nat.{div-add-mod'}
use Rattle.std.proofs.lemmas.Bool.{cases_lt, cases_Bool, and_parts, and_left, and_right, eqb-true, leb-true, ltb-true, eq-eqb, lt-ltb, lt-leb}
use Rattle.downloads.proofs.Lowest.{lowest_none}
use Rattle.refusals.specs.declared.Reason.{Reason}
use Rattle.refusals.specs.declared.Reason.TheVariants.{WrongBuffer, MissingBlock, NoSuchPage, LockedPage, NotReady}
use Rattle.refusals.specs.declared.Layer.TheVariants.{Download}
use Rattle.refusals.specs.Codes.{Code, refuse, number, then}
use Rattle.modes.proofs.Joined.{joined_same}
use Rattle.modes.proofs.Undoing.{depends_le, plain_same}
use Rattle.sections.specs.declared.kind.CipherKind.{CipherKind}
use Rattle.sections.specs.declared.kind.CipherKind.TheVariants.{Gost, Kuznyechik}
use Rattle.sections.specs.Images.{block_length}
use Rattle.sections.specs.Seals.{chaining_of}
use Rattle.targets.specs.State.{TargetState, is_locked, is_ready, WellFormed}
use Rattle.targets.specs.Calls.{refused_if, program_answer}
use Rattle.downloads.specs.Marks.{lowest}
use Rattle.downloads.specs.Copies.{Copies, Has, lacks, copy_at, refused_at, sized}
use Rattle.downloads.specs.Frames.{block_of, blocks_of}
use Rattle.downloads.specs.Blocks.{depends, plain_from}
use Rattle.downloads.specs.Pages.{place_of, first_in, count_in, needs, filled_up, prepared, on_target, page_judged}
use Rattle.traces.specs.Traces.{Setting, program, done, refused, Standing, judged, answered, answer_to}
use Rattle.traces.specs.Promise.{Missing, Lowest, Needs, PageAnswer}
use Rattle.traces.proofs.Lowest.{lowest_found, lowest_which}
use Rattle.traces.proofs.Wanted.{depends_true, depends_back, copy_is, wanted_has, wanted_lacks}
use Rattle.traces.proofs.Outcomes.{cond_ok, at_ok, then_ok, answer-built}
use Rattle.traces.proofs.Framing.{Grows, some_block}

-- ---- a page is some whole blocks

whole_kind : (kind : CipherKind) (P : ℕ) → P % 16 ≡ 0 → P % block_length kind ≡ 0
whole_kind Gost P e = omega arith
whole_kind Kuznyechik P e = e

pub whole_page : (w : Setting) (t : TargetState) → WellFormed t → t.page_length % block_of w.section ≡ 0
whole_page w t formed =
    let P = t.page_length in
    let a = and_parts (leb 16 P) (leb P 4096 && eqb (P % 16) 0) formed.sized in
    let b = and_parts (leb P 4096) (eqb (P % 16) 0) a.1 in
    whole_kind w.section.cipher P (eqb-true (P % 16) 0 b.1)

pub some_page : (t : TargetState) → WellFormed t → 0 < t.page_length
some_page t formed =
    let P = t.page_length in
    let a = and_parts (leb 16 P) (leb P 4096 && eqb (P % 16) 0) formed.sized in
    omega (arith, leb-true 16 P a.0)

module _ (w : Setting) (P : ℕ) (whole : P % block_of w.section ≡ 0) (j : ℕ) where
  abbrev n : ℕ
  n = block_of w.section

  abbrev first : ℕ
  first = first_in P w.section j

  abbrev count : ℕ
  count = count_in P w.section j

  pub per_page : n * (P / n) ≡ P
  per_page = omega (arith, div-add-mod' P n, mul_comm n (P / n), whole)

  -- where its first block lies
  pub at_page : n * first ≡ j * P
  at_page = mul_comm n first ∙ (mul_assoc j (P / n) n ∙ ap (λ (x : ℕ). j * x) (mul_comm (P / n) n ∙ per_page))

  -- ---- the test for a needed block

  pub needs_true : (k : ℕ) → Needs w P j k → needs P w.section j k ≡ true
  needs_true k h =
      let i = h.0 in
      let some = some_block w.section in
      let lo : first ≤ i = ⊎_elim (λ (b : i < first). let le : i + 1 ≤ first = omega arith in absurd (omega (arith, mul-le-mul_left n le, mul-add n i 1, mul-one n, at_page, h.2, some))) (λ (b : first ≤ i). b) (cases_lt i first) in
      let hi : i < first + P / n = lt_of_mul-lt-mul_left n (omega (arith, mul-add n first (P / n), at_page, per_page, h.3)) in
      let up : i < first + count = omega (arith, h.1) in
      lowest_found (λ i. depends w.section.mode i k) count first i lo up (depends_true w.section.mode i k h.4)

  pub needs_back : (k : ℕ) → needs P w.section j k ≡ true → Needs w P j k
  needs_back k h =
      let r = lowest_which (λ i. depends w.section.mode i k) count first h in
      let some = some_block w.section in
      let i = r.0 in
      let lo = r.1 in
      let hi : i + 1 ≤ first + P / n = omega (arith, r.2) in (
        i,
        omega (arith, r.1, r.2),
        omega (arith, mul-le-mul_left n lo, at_page),
        omega (arith, mul-le-mul_left n hi, mul-add n i 1, mul-one n, mul-add n first (P / n), at_page, per_page, some),
        depends_back w.section.mode i k r.3,
      )

  pub needs_low : (k : ℕ) → Needs w P j k → k < blocks_of w.section
  needs_low k h = omega (arith, h.1, depends_le w.section.mode h.0 k h.4)

  -- ---- the answer

  module _ (copies : Copies) where
    abbrev found : Option ℕ
    found = lowest (λ k. needs P w.section j k && lacks copies k) 0 (blocks_of w.section)

    pub needed_has : found ≡ None → (k : ℕ) → Needs w P j k → Has copies k
    needed_has e = wanted_has (Needs w P j) (needs P w.section j) copies (blocks_of w.section) needs_true needs_back needs_low e

    -- a refusal with the number 12
    abbrev Twelve : Code → Type 0
    Twelve e = e.number ≡ 12 → (e.layer ≡ 3) × Lowest (Missing (Needs w P j) copies) e.place

    abbrev Only : Result Unit Code → Type 0
    Only (Ok u) = Unit {0}
    Only (Err e) = Twelve e

    only_cond : (b : Bool) (r : Result Unit Code) (e : Code) → (e.number ≡ 12 → ⊥) → Only r → Only (cond b r (Err e))
    only_cond true r e ne h = h
    only_cond false r e ne h = λ q. absurd (ne q)

    only_if : (so : Bool) (why : Reason) (place : ℕ) (rest : Result Unit Code) → (number why ≡ 12 → ⊥) → Only rest → Only (refused_if so why place rest)
    only_if true why place rest ne h = λ q. absurd (ne q)
    only_if false why place rest ne h = h

    only_then : (r next : Result Unit Code) → Only r → Only next → Only (then r (λ _. next))
    only_then (Ok u) next h g = g
    only_then (Err e) next h g = h

    only_found : (o : Option ℕ) → found ≡ o → Only (refused_at MissingBlock o)
    only_found None e = tt
    only_found (Some k) e = λ q. (refl, wanted_lacks (Needs w P j) (needs P w.section j) copies (blocks_of w.section) needs_true needs_back needs_low k e)

    only_target : (t : TargetState) (p m : ℕ) → Only (program_answer t p m)
    only_target t p m =
        let r₄ = refused_if (not (is_ready t p)) NotReady p (Ok tt) in
        let r₃ = refused_if (is_locked t p) LockedPage p r₄ in
        let r₂ = refused_if (not (eqb m t.page_length)) WrongBuffer 0 r₃ in
        only_if (leb t.page_count p) NoSuchPage p r₂ (λ x. omega arith)
        (only_if (not (eqb m t.page_length)) WrongBuffer 0 r₃ (λ x. omega arith)
        (only_if (is_locked t p) LockedPage p r₄ (λ x. omega arith) (only_if (not (is_ready t p)) NotReady p (Ok tt) (λ x. omega arith) tt)))

    only_err : (r : Result Unit Code) → Only r → (e : Code) → answered r done ≡ refused e → Twelve e
    only_err (Ok u) h e q = cc
    only_err (Err x) h e q = let r : x ≡ e = cc in subst Twelve r h

  done_ok : (r : Result Unit Code) → answered r done ≡ done → r ≡ Ok tt
  done_ok (Ok u) q = refl
  done_ok (Err x) q = cc

  either_way : (r : Result Unit Code) → (answered r done ≡ done) ⊎ ((e : Code) × (answered r done ≡ refused e))
  either_way (Ok u) = inl refl
  either_way (Err e) = inr (e, refl)

-- a page that can be prepared is on the target, and each block that it needs has a copy
pub page_parts : (w : Setting) (t : TargetState) (copies : Copies) (j : ℕ) → page_judged w.section t copies j ≡ Ok tt →
    (w.section.first_page + j < t.page_count) × (lowest (λ k. needs t.page_length w.section j k && lacks copies k) 0 (blocks_of w.section) ≡ None)
page_parts w t copies j ok =
    let lacking = lowest (λ k. needs t.page_length w.section j k && lacks copies k) 0 (blocks_of w.section) in
    let c = cond_ok (on_target w.section t j) (refused_at MissingBlock lacking) (refuse NoSuchPage (place_of (w.section.first_page + j)) Download) tt ok in
    let d = and_parts (ltb (j * t.page_length) w.section.length) (ltb (w.section.first_page + j) t.page_count) c.0 in
    (ltb-true (w.section.first_page + j) t.page_count d.1, at_ok MissingBlock lacking c.1)

pub program_parts : (w : Setting) (s : Standing) (j : ℕ) → judged w s (program j) ≡ Ok tt → page_judged w.section s.target s.copies j ≡ Ok tt
program_parts w s j ok =
    let a = then_ok (sized (eqb w.room s.target.page_length) (page_judged w.section s.target s.copies j)) _ ok in
    (cond_ok (eqb w.room s.target.page_length) (page_judged w.section s.target s.copies j) (refuse WrongBuffer 0 Download) tt a.0).1

-- a page that can be prepared, free and ready, is programmed
program_ok : (w : Setting) (s : Standing) (j : ℕ) (whole : s.target.page_length % block_of w.section ≡ 0) → w.room ≡ s.target.page_length → j * s.target.page_length < w.section.length →
    w.section.first_page + j < s.target.page_count → ((k : ℕ) → Needs w s.target.page_length j k → Has s.copies k) →
    is_locked s.target (w.section.first_page + j) ≡ false → is_ready s.target (w.section.first_page + j) ≡ true → judged w s (program j) ≡ Ok tt
program_ok w s j whole room inside there have free ready =
    let P = s.target.page_length in
    let p = w.section.first_page + j in
    let test : ℕ → Bool = λ k. needs P w.section j k && lacks s.copies k in
    let none : lowest test 0 (blocks_of w.section) ≡ None =
    lowest_none test (blocks_of w.section) 0
    (λ k x y. elim (cases_Bool (needs P w.section j k)) [
      | inl n ↦ let h = have k (needs_back w P whole j k n) in and_right (needs P w.section j k) (lacks s.copies k) (ap (λ (o : Option (List ℕ)). not (is_some o)) h.1)
      | inr n ↦ and_left (needs P w.section j k) (lacks s.copies k) n
    ]) in
    rw (eq-eqb w.room P room, lt-ltb (j * P) w.section.length inside, lt-ltb p s.target.page_count there, none, lt-leb s.target.page_count p there, eq-eqb P P refl, free, ready)

pub page_answered : (w : Setting) (s : Standing) (j : ℕ) → s.target.page_length % block_of w.section ≡ 0 → PageAnswer w s.target.page_length s.copies s.target j (answer_to w s (program j))
page_answered w s j whole =
    let P = s.target.page_length in
    let lacking = lowest (λ k. needs P w.section j k && lacks s.copies k) 0 (blocks_of w.section) in
    let r = judged w s (program j) in
    let only : Only w P whole j s.copies r =
    only_then w P whole j s.copies (sized (eqb w.room P) (page_judged w.section s.target s.copies j)) (program_answer s.target (w.section.first_page + j) P)
    (only_cond w P whole j s.copies (eqb w.room P) (page_judged w.section s.target s.copies j) (refuse WrongBuffer 0 Download) (λ x. omega arith)
    (only_cond w P whole j s.copies (on_target w.section s.target j) (refused_at MissingBlock lacking) (refuse NoSuchPage (place_of (w.section.first_page + j)) Download) (λ x. omega arith) (only_found w P whole j s.copies lacking refl)))
    (only_target w P whole j s.copies s.target (w.section.first_page + j) P) in
    subst (PageAnswer w P s.copies s.target j) (sym (answer-built w s (program j) refl))
    (record {
      either = either_way w P whole j r;
      accepted = λ room inside there have free ready. ap (λ (x : Result Unit Code). answered x done) (program_ok w s j whole room inside there have free ready);
      only = λ e. needed_has w P whole j s.copies (page_parts w s.target s.copies j (program_parts w s j (done_ok w P whole j r e))).1;
      missing = only_err w P whole j s.copies r only;
    })

-- ---- a page is made only from what it needs

pub prepared-stays : (w : Setting) (P fill : ℕ) → P % block_of w.section ≡ 0 → (j : ℕ) (copies later : Copies) → Grows copies later → ((k : ℕ) → needs P w.section j k ≡ true → Has copies k) →
    prepared w.cipher w.section P fill later j ≡ prepared w.cipher w.section P fill copies j
unfolding prepared
prepared-stays w P fill whole j copies later g has =
    let chain = chaining_of w.cipher w.section in
    ap (filled_up P fill)
    (joined_same (plain_from w.cipher w.section later) (plain_from w.cipher w.section copies) (first_in P w.section j) (count_in P w.section j)
    (λ i a b. plain_same w.section.mode w.cipher chain.sync (copy_at later) (copy_at copies) i
    (λ k d. let h = has k (lowest_found (λ i. depends w.section.mode i k) (count_in P w.section j) (first_in P w.section j) i a b (depends_true w.section.mode i k d)) in
    copy_is later k h.0 (g k h.0 h.1) ∙ sym (copy_is copies k h.0 h.1))))
