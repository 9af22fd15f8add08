-- Frames: when one is accepted, and that a copy once there never changes.
use Rattle.std.proofs.Common.{◌≡◌, ℕ, ◌+◌, ◌-◌, ◌*◌, ◌%◌, ◌<◌, ◌≤◌, min, Bool, true, false, not, eqb, ltb, leb, ◌≢◌, ◌⊎◌, List, length, Some, None, Ok, Err, Option, Result, sym, refl, ap, ◌∙◌, subst, inl, inr, ⊎_elim, arith}
use native.Mathlib.Nat.{lt_of_mul-lt-mul_left}
use Rattle.std.proofs.lemmas.Slice.Eq.{bytes_eq-Decides}
use Rattle.std.proofs.lemmas.Bool.{cond-true, cond-false, cases_Bool, cases_lt, and_parts, and_from, or_cases, or_left, or_right, eqb-true, eq-eqb, leb-true, le-leb, ltb-true, lt-ltb, not-true, both_ways}
use Rattle.std.specs.Str.{bytes_eq}
use Rattle.refusals.specs.declared.Reason.TheVariants.{BadBlock, Conflict}
use Rattle.refusals.specs.declared.Layer.TheVariants.{Download}
use Rattle.refusals.specs.Codes.{Code, refuse}
use Rattle.blocks.specs.Bytes.{Bytes}
use Rattle.modes.proofs.Joined.{length-block, bytes_block, count_enough}
use Rattle.sections.specs.Entries.{Described}
use Rattle.downloads.specs.Marks.{lowest}
use Rattle.downloads.specs.Copies.{Copies, refused_at}
use Rattle.downloads.specs.Frames.{block_of, blocks_of, covers, good_frame, block_in, differs, conflicts, frame_judged, with_frame}
use Rattle.downloads.proofs.Lowest.{lowest_none, found as lowest_found, none_found}
use Rattle.downloads.proofs.Framing.{place, whole_next}
use Rattle.downloads.proofs.Answered.{block_some}
use Rattle.traces.specs.Traces.{Setting, frame, done, Standing, answer_to, answered}
use Rattle.traces.specs.Promise.{Covers, GoodFrame, Conflicts, Lowest, FrameAnswer, refused_with}
use Rattle.traces.proofs.Outcomes.{cond_ok, at_ok, answer-built, answer_not, answer_is}

-- a block has bytes
pub some_block : (s : Described) → 0 < block_of s
some_block s = block_some s.cipher

-- a copy is of a block of the body, as long as that, and made of bytes
abbrev pub Fitting : Described → Copies → Type 0
Fitting s copies = (k : ℕ) (b : List ℕ) → copies k ≡ Some b → (k < blocks_of s) × (length b ≡ min (block_of s) (s.length - block_of s * k)) × Bytes b

-- every copy of the first is in the second
abbrev pub Grows : Copies → Copies → Type 0
Grows copies later = (k : ℕ) (b : List ℕ) → copies k ≡ Some b → later k ≡ Some b

pub covers_true : (n f bytes i : ℕ) → Covers n f bytes i → covers n f bytes i ≡ true
covers_true n f bytes i h = and_from (leb f i) _ (le-leb f i h.0) (lt-ltb (n * (i - f)) bytes h.1)

pub covers_back : (n f bytes i : ℕ) → covers n f bytes i ≡ true → Covers n f bytes i
covers_back n f bytes i e = let a = and_parts (leb f i) (ltb (n * (i - f)) bytes) e in (leb-true f i a.0, ltb-true (n * (i - f)) bytes a.1)

-- ---- a block that has another copy

differs_back : (o : Option (List ℕ)) (b : List ℕ) → differs o b ≡ true → (a : List ℕ) × (o ≡ Some a) × (a ≢ b)
differs_back None b e = absurd (both_ways false refl e)
differs_back (Some a) b e = (a, refl, λ q. both_ways (bytes_eq a b) (not-true (bytes_eq a b) e) ((bytes_eq-Decides a b).1 q))

differs_true : (o : Option (List ℕ)) (a b : List ℕ) → o ≡ Some a → a ≢ b → differs o b ≡ true
differs_true o a b q ne =
    ap (λ (x : Option (List ℕ)). differs x b) q
    ∙ ⊎_elim (λ (e : bytes_eq a b ≡ true). absurd (ne ((bytes_eq-Decides a b).0 e))) (λ (e : bytes_eq a b ≡ false). ap not e) (cases_Bool (bytes_eq a b))

module _ (w : Setting) (f : ℕ) (bytes : List ℕ) where
  abbrev n : ℕ
  n = block_of w.section

  good_true : GoodFrame w f (length bytes) → good_frame n w.section.length f (length bytes) ≡ true
  good_true h =
      and_from (ltb 0 (length bytes)) _ (lt-ltb 0 (length bytes) h.0)
      (and_from (leb (n * f + length bytes) w.section.length) _ (le-leb (n * f + length bytes) w.section.length h.1)
      (⊎_elim (λ (e : length bytes % n ≡ 0). or_left (eqb (length bytes % n) 0) _ (eq-eqb (length bytes % n) 0 e))
      (λ (e : n * f + length bytes ≡ w.section.length). or_right (eqb (length bytes % n) 0) _ (eq-eqb (n * f + length bytes) w.section.length e)) h.2))

  good_back : good_frame n w.section.length f (length bytes) ≡ true → GoodFrame w f (length bytes)
  good_back h =
      let a = and_parts (ltb 0 (length bytes)) _ h in
      let b = and_parts (leb (n * f + length bytes) w.section.length) _ a.1 in (
        ltb-true 0 (length bytes) a.0,
        leb-true (n * f + length bytes) w.section.length b.0,
        ⊎_elim (λ e. inl (eqb-true (length bytes % n) 0 e)) (λ e. inr (eqb-true (n * f + length bytes) w.section.length e)) (or_cases (eqb (length bytes % n) 0) _ b.1),
      )

  module _ (copies : Copies) where
    abbrev other : ℕ → Bool
    other i = conflicts n copies f bytes i

    other_true : (i : ℕ) → Conflicts w copies f bytes i → other i ≡ true
    other_true i h = and_from (covers n f (length bytes) i) _ (covers_true n f (length bytes) i h.0) (differs_true (copies i) h.1 (block_in n f bytes i) h.2 h.3)

    other_back : (i : ℕ) → other i ≡ true → Conflicts w copies f bytes i
    other_back i e =
        let a = and_parts (covers n f (length bytes) i) (differs (copies i) (block_in n f bytes i)) e in
        let d = differs_back (copies i) (block_in n f bytes i) a.1 in
        (covers_back n f (length bytes) i a.0, d.0, d.1, d.2)

    other_false : (i : ℕ) → (Conflicts w copies f bytes i → ⊥) → other i ≡ false
    other_false i h = ⊎_elim (λ (e : other i ≡ true). absurd (h (other_back i e))) (λ (e : other i ≡ false). e) (cases_Bool (other i))

    abbrev found : Option ℕ
    found = lowest (conflicts n copies f bytes) 0 (blocks_of w.section)

    -- accepted: the shape is good, and no test finds a conflict
    pub frame_parts : frame_judged w.section copies f bytes ≡ Ok tt → GoodFrame w f (length bytes) × (found ≡ None)
    frame_parts ok =
        let a = cond_ok (good_frame n w.section.length f (length bytes)) (refused_at Conflict found) (refuse BadBlock f Download) tt ok in
        (good_back a.0, at_ok Conflict found a.1)

    frame_good : GoodFrame w f (length bytes) → (o : Option ℕ) → found ≡ o → frame_judged w.section copies f bytes ≡ refused_at Conflict o
    frame_good g o e = cond-true (good_frame n w.section.length f (length bytes)) _ _ (good_true g) ∙ ap (refused_at Conflict) e

    frame_bad : (GoodFrame w f (length bytes) → ⊥) → frame_judged w.section copies f bytes ≡ Err (refuse BadBlock f Download)
    frame_bad h =
        ⊎_elim (λ (e : good_frame n w.section.length f (length bytes) ≡ true). absurd (h (good_back e)))
        (λ (e : good_frame n w.section.length f (length bytes) ≡ false). cond-false (good_frame n w.section.length f (length bytes)) _ _ e) (cases_Bool (good_frame n w.section.length f (length bytes)))

    found_lowest : (i : ℕ) → found ≡ Some i → Lowest (Conflicts w copies f bytes) i
    found_lowest i e =
        let p = lowest_found (conflicts n copies f bytes) (blocks_of w.section) 0 i e in
        record {
          holds = other_back i p.passes;
          least = λ j c. ⊎_elim (λ (b : j < i). absurd (both_ways (other j) (p.first j (omega arith) b) (other_true j c))) (λ (b : i ≤ j). b) (cases_lt j i);
        }

    module _ (fit : Fitting w.section copies) where
      found_none : found ≡ None → (i : ℕ) → Conflicts w copies f bytes i → ⊥
      found_none e i h = both_ways (other i) (none_found (conflicts n copies f bytes) (blocks_of w.section) 0 e i (omega arith) (omega (arith, (fit i h.1 h.2).0))) (other_true i h)

      -- a copy once there stays
      pub put_grows : frame_judged w.section copies f bytes ≡ Ok tt → Grows copies (with_frame n copies f bytes)
      unfolding with_frame
      put_grows ok k b e =
          ⊎_elim
          (λ (c : covers n f (length bytes) k ≡ true).
          let same : b ≡ block_in n f bytes k = ⊎_elim (λ (q : bytes_eq b (block_in n f bytes k) ≡ true). (bytes_eq-Decides b (block_in n f bytes k)).0 q)
          (λ (q : bytes_eq b (block_in n f bytes k) ≡ false). absurd (found_none (frame_parts ok).1 k
          (covers_back n f (length bytes) k c, b, e, λ r. both_ways (bytes_eq b (block_in n f bytes k)) q ((bytes_eq-Decides b (block_in n f bytes k)).1 r)))) (cases_Bool (bytes_eq b (block_in n f bytes k))) in
          cond-true (covers n f (length bytes) k) _ _ c ∙ ap Some (sym same))
          (λ (c : covers n f (length bytes) k ≡ false). cond-false (covers n f (length bytes) k) _ _ c ∙ e)
          (cases_Bool (covers n f (length bytes) k))

      pub put_fits : frame_judged w.section copies f bytes ≡ Ok tt → Bytes bytes → Fitting w.section (with_frame n copies f bytes)
      unfolding with_frame
      put_fits ok bs k b e =
          ⊎_elim
          (λ (c : covers n f (length bytes) k ≡ true).
          let L : ℕ = w.section.length in
          let q : block_in n f bytes k ≡ b = let r = sym (cond-true (covers n f (length bytes) k) (Some (block_in n f bytes k)) (copies k) c) ∙ e in cc in
          let a = covers_back n f (length bytes) k c in
          let g = (frame_parts ok).0 in
          let some = some_block w.section in
          let pl = place n f k a.0 in
          let km : k < blocks_of w.section = lt_of_mul-lt-mul_left n (omega (arith, count_enough n L some, a.1, g.1)) in
          let size : length (block_in n f bytes k) ≡ min n (L - n * k) =
          ⊎_elim
          (λ (x : length bytes % n ≡ 0). let room = whole_next n (k - f) (length bytes) some x a.1 in omega (arith, length-block n (k - f) bytes, g.1))
          (λ (x : n * f + length bytes ≡ L). omega (arith, length-block n (k - f) bytes)) g.2 in
          (km, ap length (sym q) ∙ size, subst Bytes q (bytes_block n (k - f) bytes bs)))
          (λ (c : covers n f (length bytes) k ≡ false). fit k b (sym (cond-false (covers n f (length bytes) k) _ _ c) ∙ e))
          (cases_Bool (covers n f (length bytes) k))

-- a frame's copy is in
pub put_in : (n : ℕ) (copies : Copies) (f : ℕ) (bytes : List ℕ) (i : ℕ) → Covers n f (length bytes) i → with_frame n copies f bytes i ≡ Some (block_in n f bytes i)
unfolding with_frame
put_in n copies f bytes i c = cond-true (covers n f (length bytes) i) _ _ (covers_true n f (length bytes) i c)

-- and no other
pub put_from : (n : ℕ) (copies : Copies) (f : ℕ) (bytes : List ℕ) (i : ℕ) (b : List ℕ) → with_frame n copies f bytes i ≡ Some b → (copies i ≡ Some b) ⊎ (Covers n f (length bytes) i × (b ≡ block_in n f bytes i))
unfolding with_frame
put_from n copies f bytes i b h =
    ⊎_elim
    (λ (c : covers n f (length bytes) i ≡ true).
    let q : b ≡ block_in n f bytes i = let r = sym h ∙ cond-true (covers n f (length bytes) i) (Some (block_in n f bytes i)) (copies i) c in cc in
    inr (covers_back n f (length bytes) i c, q))
    (λ (c : covers n f (length bytes) i ≡ false). inl (sym (cond-false (covers n f (length bytes) i) _ _ c) ∙ h))
    (cases_Bool (covers n f (length bytes) i))

-- ---- the answer to a frame

made_done : (r : Result Unit Code) → answered r done ≡ done → r ≡ Ok tt
made_done (Ok u) e = refl
made_done (Err x) e = cc

conflict_by : (w : Setting) (s : Standing) (f : ℕ) (bytes : List ℕ) → s.closed ≡ false → GoodFrame w f (length bytes) → answer_to w s (frame f bytes) ≢ done → (o : Option ℕ) → found w f bytes s.copies ≡ o →
    (i : ℕ) × (answer_to w s (frame f bytes) ≡ refused_with 11 i) × Lowest (Conflicts w s.copies f bytes) i
conflict_by w s f bytes c g ne None e = absurd (ne (answer_is w s (frame f bytes) (Ok tt) (ap not c) (frame_good w f bytes s.copies g None e)))
conflict_by w s f bytes c g ne (Some i) e = (i, answer_is w s (frame f bytes) (Err (refuse Conflict i Download)) (ap not c) (frame_good w f bytes s.copies g (Some i) e), found_lowest w f bytes s.copies i e)

pub frame_answered : (w : Setting) (s : Standing) (f : ℕ) (bytes : List ℕ) → Fitting w.section s.copies → FrameAnswer w s.copies s.closed f bytes (answer_to w s (frame f bytes))
frame_answered w s f bytes fit =
    let c = frame f bytes in
    let is : (r : Result Unit Code) → s.closed ≡ false → frame_judged w.section s.copies f bytes ≡ r → answer_to w s c ≡ answered r done = λ r o q. answer_is w s c r (ap not o) q in
    record {
      only = λ e.
          ⊎_elim
          (λ (o : s.closed ≡ true). let q = sym (answer_not w s c (ap not o)) ∙ e in cc)
          (λ (o : s.closed ≡ false).
          let p = frame_parts w f bytes s.copies (made_done (frame_judged w.section s.copies f bytes) (sym (answer-built w s c (ap not o)) ∙ e)) in
          (o, p.0, found_none w f bytes s.copies fit p.1))
          (cases_Bool s.closed);
      accepted = λ o g h.
          is (Ok tt) o (frame_good w f bytes s.copies g None (lowest_none (conflicts (block_of w.section) s.copies f bytes) (blocks_of w.section) 0 (λ i _ _. other_false w f bytes s.copies i (h i))));
      shape = λ o h. is (Err (refuse BadBlock f Download)) o (frame_bad w f bytes s.copies h);
      conflict = λ o g ne. conflict_by w s f bytes o g ne (found w f bytes s.copies) refl;
      late = λ o. answer_not w s c (ap not o);
    }
