-- Pages made from unaltered copies hold the image: the image bytes on the target are the sent image.
use Rattle.std.proofs.Common.{◌≡◌, ℕ, zero, suc, ◌+◌, ◌-◌, ◌*◌, ◌/◌, ◌%◌, ◌<◌, ◌≤◌, ◌⊎◌, List, [], ◌∷◌, ◌++◌, length, get_or, take, drop, replicate, sym, refl, ap, ◌∙◌, ap₂, inl, inr, ⊎_elim, suc-mul, mul-le-mul_left, mul-zero, zero-mul, mul-suc, mul-add, arith, take-add}
use native.Mathlib.Nat.{lt_of_mul-lt-mul_left}
use Rattle.std.proofs.lemmas.List.{take-append-drop, append_assoc, append-nil, take_all, take_at, drop-drop, length-take, length-drop, length-append, length-replicate, nil_from_length, get_or-drop}
use Rattle.std.proofs.Math.Seq.{take-append-add}
use Rattle.std.proofs.lemmas.Bool.{cases_lt}
use Rattle.blocks.specs.Bytes.{block}
use Rattle.modes.specs.Modes.{joined}
use Rattle.modes.proofs.Joined.{joined_same, count_enough}
use Rattle.modes.proofs.Undoing.{depends_le}
use Rattle.targets.specs.State.{TargetState, page_of}
use Rattle.downloads.specs.Copies.{Copies}
use Rattle.downloads.specs.Frames.{block_of, blocks_of}
use Rattle.downloads.specs.Blocks.{plain_from}
use Rattle.downloads.specs.Pages.{first_in, count_in, filled_up, prepared}
use Rattle.downloads.specs.Verdicts.{flat, image_on}
use Rattle.traces.specs.Traces.{Setting}
use Rattle.traces.specs.Promise.{Fit, Sent, Unaltered}
use Rattle.traces.proofs.Framing.{Fitting, some_block}
use Rattle.traces.proofs.Giving.{sent_back}
use Rattle.traces.proofs.Paging.{per_page, at_page}

-- ---- bytes with fill after them

filled_full : (P fill : ℕ) (bytes : List ℕ) → length bytes ≡ P → filled_up P fill bytes ≡ bytes
filled_full P fill bytes h =
    let z : P - length bytes ≡ 0 = omega arith in
    ap (λ (x : ℕ). bytes ++ replicate x fill) z ∙ append-nil bytes

filled_long : (P fill : ℕ) (bytes : List ℕ) → P ≤ length (filled_up P fill bytes)
filled_long P fill bytes = omega (arith, length-append bytes (replicate (P - length bytes) fill), length-replicate (P - length bytes) fill)

-- ---- pages that hold an image, one after the other

pub pages_join : (P fill : ℕ) → 0 < P → (pages : List (List ℕ)) (image : List ℕ) →
    ((j : ℕ) → j * P < length image → get_or pages j [] ≡ filled_up P fill (take P (drop (j * P) image))) → take (length image) (flat pages) ≡ image
pages_join P fill some [] image h =
    ⊎_elim
    (λ (l : 0 < length image).
    let e = h 0 (omega (arith, zero-mul P)) in
    absurd (omega (arith, ap length e, filled_long P fill (take P (drop (0 * P) image)))))
    (λ (l : length image ≤ 0). let z : length image ≡ 0 = omega arith in ap (λ (x : ℕ). take {A = ℕ} x []) z ∙ sym (nil_from_length image z))
    (cases_lt 0 (length image))
pages_join P fill some (page ∷ pages) image h =
    ⊎_elim
    (λ (l : P < length image).
    let long : length (take P image) ≡ P = omega (arith, length-take P image) in
    let front : page ≡ take P image = h 0 (omega (arith, zero-mul P)) ∙ (ap (λ (x : ℕ). filled_up P fill (take P (drop x image))) (zero-mul P) ∙ filled_full P fill (take P image) long) in
    let rest : length (drop P image) ≡ length image - P = length-drop P image in
    let sum : length image ≡ P + length (drop P image) = omega arith in
    let next : (j : ℕ) → j * P < length (drop P image) → get_or pages j [] ≡ filled_up P fill (take P (drop (j * P) (drop P image))) =
    λ j b. h (suc j) (omega (arith, suc-mul j P)) ∙ ap (λ (x : List ℕ). filled_up P fill (take P x)) (let e : suc j * P ≡ P + j * P = omega (arith, suc-mul j P) in ap (λ (x : ℕ). drop x image) e ∙ sym (drop-drop (j * P) P image)) in
    ap₂ (λ (x : ℕ) (y : List ℕ). take x (y ++ flat pages)) sum front
    ∙ (ap (λ (x : ℕ). take (x + length (drop P image)) (take P image ++ flat pages)) (sym long) ∙ take-append-add (take P image) (flat pages) (length (drop P image))
    ∙ (ap (λ (x : List ℕ). take P image ++ x) (pages_join P fill some pages (drop P image) next)
    ∙ take-append-drop P image)))
    (λ (l : length image ≤ P).
    ⊎_elim
    (λ (b : 0 < length image).
    let front : page ≡ image ++ replicate (P - length image) fill =
    h 0 (omega (arith, zero-mul P)) ∙ (ap (λ (x : ℕ). filled_up P fill (take P (drop x image))) (zero-mul P) ∙ ap (filled_up P fill) (take_all P image l)) in
    ap (λ (x : List ℕ). take (length image) (x ++ flat pages)) front
    ∙ (ap (take (length image)) (append_assoc image (replicate (P - length image) fill) (flat pages))
    ∙ take_at image (replicate (P - length image) fill ++ flat pages) (length image) refl))
    (λ (none : length image ≤ 0). let z : length image ≡ 0 = omega arith in ap (λ (x : ℕ). take x (page ++ flat pages)) z ∙ sym (nil_from_length image z))
    (cases_lt 0 (length image)))
    (cases_lt P (length image))

-- ---- the blocks of a page

-- a run of blocks of a text
blocks_some : (n c k : ℕ) (text : List ℕ) → joined (λ i. block n i text) k c ≡ take (n * c) (drop (n * k) text)
blocks_some n zero k text = sym (ap (λ (x : ℕ). take x (drop (n * k) text)) (mul-zero n))
blocks_some n (suc c) k text =
    let e : n * suc c ≡ n + n * c = omega (arith, mul-suc n c) in
    let d : drop (n * suc k) text ≡ drop n (drop (n * k) text) = ap (λ (x : ℕ). drop x text) (mul-suc n k) ∙ sym (drop-drop n (n * k) text) in
    ap (λ (x : List ℕ). block n k text ++ x) (blocks_some n c (suc k) text ∙ ap (take (n * c)) d)
    ∙ sym (ap (λ (x : ℕ). take x (drop (n * k) text)) e ∙ take-add n (n * c) (drop (n * k) text))

-- as much is taken, or all
take_same : (a b : ℕ) (xs : List ℕ) → (a ≡ b) ⊎ ((length xs ≤ a) × (length xs ≤ b)) → take a xs ≡ take b xs
take_same a b xs h = ⊎_elim (λ (e : a ≡ b). ap (λ (x : ℕ). take x xs) e) (λ (e : (length xs ≤ a) × (length xs ≤ b)). take_all a xs e.0 ∙ sym (take_all b xs e.1)) h

module _ (w : Setting) (t : TargetState) (fit : Fit w t) (copies : Copies) (ft : Fitting w.section copies) (image : List ℕ) (im : Sent w image) (all : (k : ℕ) → k < blocks_of w.section → Unaltered w image copies k) (P : ℕ) (whole : P % block_of w.section ≡ 0) where
  abbrev n : ℕ
  n = block_of w.section

  abbrev m : ℕ
  m = blocks_of w.section

  -- a page made from unaltered copies holds the image's bytes
  pub prepared_is : (fill j : ℕ) → j * P < w.section.length → prepared w.cipher w.section P fill copies j ≡ filled_up P fill (take P (drop (j * P) image))
  unfolding prepared
  prepared_is fill j l =
      let q : ℕ = first_in P w.section j in
      let c : ℕ = count_in P w.section j in
      let x = drop (j * P) image in
      let at = at_page w P whole j in
      let per = per_page w P whole j in
      let enough = count_enough n w.section.length (some_block w.section) in
      let low : q < m = lt_of_mul-lt-mul_left n (omega (arith, at, enough)) in
      let e : q + (m - q) ≡ m = omega arith in
      let rest : n * (m - q) + j * P ≡ n * m = omega (arith, mul-add n q (m - q), ap (λ (y : ℕ). n * y) e, at) in
      let room : length x ≤ n * (m - q) = omega (arith, length-drop (j * P) image, im.0, enough) in
      ap (filled_up P fill)
      (joined_same (plain_from w.cipher w.section copies) (λ i. block n i image) q c
      (λ i a b. let lt : i < m = omega arith in sent_back w t fit copies ft image im i lt (λ k d. all k (omega (arith, lt, depends_le w.section.mode i k d))))
      ∙ (blocks_some n c q image
      ∙ (ap (λ (y : ℕ). take (n * c) (drop y image)) at
      ∙ take_same (n * c) P x
      (⊎_elim
      (λ (b : P / n < m - q). let f : c ≡ P / n = omega arith in inl (ap (λ (y : ℕ). n * y) f ∙ per))
      (λ (b : m - q ≤ P / n).
      let f : c ≡ m - q = omega arith in
      let g = ap (λ (y : ℕ). n * y) f in
      inr (omega arith, omega (arith, mul-le-mul_left n b, per)))
      (cases_lt (P / n) (m - q))))))

  -- pages that hold what the copies give hold the image
  pub image_is : 0 < P → (fill : ℕ) (u : TargetState) → ((j : ℕ) → j * P < w.section.length → page_of u (w.section.first_page + j) ≡ prepared w.cipher w.section P fill copies j) → image_on w.section u ≡ image
  unfolding image_on
  image_is some fill u h =
      ap (λ (x : ℕ). take x (flat (drop w.section.first_page u.pages))) (sym im.0)
      ∙ pages_join P fill some (drop w.section.first_page u.pages) image
      (λ j b. let l : j * P < w.section.length = omega (arith, im.0) in get_or-drop w.section.first_page u.pages j [] ∙ (h j l ∙ prepared_is fill j l))
