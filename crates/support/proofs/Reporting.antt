-- What the parts of a report come to.
use Rattle.std.proofs.Common.{◌≡◌, ℕ, ◌+◌, ◌-◌, ◌*◌, ◌/◌, ◌%◌, ◌<◌, ◌≤◌, leb, List, length, Ok, Result, sym, ap, ◌∙◌, inl, inr, mul_assoc, mul_comm, arith}
use Rattle.std.proofs.lemmas.Nat.{div-add-mod', mod_below}
use Rattle.std.proofs.lemmas.Bool.{and_parts, leb-true, le-leb, cases_Bool}
use Rattle.std.specs.Int.{div_ceil}
use Rattle.std.proofs.Math.Nat.{div-eq_of_lt-le, add-mul}
use Rattle.std.proofs.lemmas.Grind.{div_ceil_times}
use Rattle.refusals.specs.Codes.{Code}
use Rattle.imitovstavka.specs.Chain.{imitovstavka, imitovstavka_answer}
use Rattle.imitovstavka.specs.Parts.{length_answer}
use Rattle.description.specs.Judge.{Described, judged}
use Rattle.support.specs.Images.{allowed_image, pages_for, paged}
use Rattle.support.specs.Reports.{Reported, report, key_answer, pages_answer, support_answer}

-- a quotient rounded up
pub rounded_up : (page_length n : ℕ) → 0 < page_length → div_ceil n page_length ≡ pages_for page_length n
rounded_up page_length n some =
    let k : ℕ = div_ceil n page_length in
    let times = div_ceil_times n page_length some in
    let more : (k + 1) * page_length ≡ k * page_length + page_length = add-mul k 1 page_length ∙ omega arith in
    sym (div-eq_of_lt-le page_length (omega arith) (omega arith))

-- pages that were counted, and of which length of image
pub pages_counted : (page_length page_count n pages : ℕ) → Ok pages ≡ pages_answer page_length page_count n →
    (pages ≡ pages_for page_length n) × (9 ≤ n)
pages_counted page_length page_count n pages e =
    elim (cases_Bool (allowed_image n)) [
      | inl yes' ↦ elim (cases_Bool (leb (pages_for page_length n) page_count)) [
        | inl fit ↦ (let f = rw (yes', fit) at e in (cc), leb-true 9 n (and_parts (leb 9 n) (leb n 16384) yes').0)
        | inr not' ↦ absurd (let f = rw (yes', not') at e in let z : ◌≡◌ {A = ℕ} 0 1 = cc in omega arith)
      ]
      | inr not' ↦ absurd (let f = rw not' at e in let z : ◌≡◌ {A = ℕ} 0 1 = cc in omega arith)
    ]

-- the pages hold the image
pub image_fits : (page_length n : ℕ) → 0 < page_length → n ≤ page_length * pages_for page_length n
image_fits page_length n h =
    let x : ℕ = n + page_length - 1 in
    omega (arith, div-add-mod' x page_length, mod_below x page_length h, mul_comm page_length (x / page_length))

-- in blocks of eight
pub blocks_are : (page_length pages : ℕ) → page_length % 16 ≡ 0 → 8 * (pages * (page_length / 8)) ≡ page_length * pages
blocks_are page_length pages h =
    let q : ℕ = page_length / 8 in
    let e : page_length ≡ 8 * q = omega arith in
    ap (λ (n : ℕ). 8 * n) (mul_comm pages q) ∙ (sym (mul_assoc 8 q pages) ∙ ap (λ (n : ℕ). n * pages) (sym e))

-- a report is put together from the parts that the calls gave
pub reported : (text keys image key : List ℕ) (d : Described) (pages bits value wrong : ℕ) →
    Ok d ≡ judged text → Ok key ≡ key_answer keys → Ok pages ≡ pages_answer d.page_length d.page_count (length image) →
    Ok bits ≡ length_answer 32 → Ok value ≡ imitovstavka_answer d.rows key bits image →
    wrong ≡ imitovstavka d.rows key bits (paged d.page_length d.fill image) →
    ◌≡◌ {A = Result Reported Code} (Ok (record { target = d; image_length = length image; image_pages = pages; value = value; wrong = wrong })) (support_answer text keys image)
reported text keys image key d pages bits value wrong a k p b v w =
    let count = pages_counted d.page_length d.page_count (length image) pages p in
    let long : 9 ≤ length image = count.1 in
    let thirty : bits ≡ 32 = cc b in
    let right : value ≡ imitovstavka d.rows key bits image = let f = rw (le-leb 9 (length image) long) at v in (cc) in
    let made : ℕ → ℕ → ℕ → Reported = λ n x y. record { target = d; image_length = length image; image_pages = n; value = x; wrong = y } in
    let e : made pages value wrong ≡ report d key image =
    ap (λ (n : ℕ). made n value wrong) count.0
    ∙ (ap (λ (x : ℕ). made (pages_for d.page_length (length image)) x wrong) (right ∙ ap (λ (l : ℕ). imitovstavka d.rows key l image) thirty)
    ∙ ap (λ (y : ℕ). made (pages_for d.page_length (length image)) (imitovstavka d.rows key 32 image) y)
    (w ∙ ap (λ (l : ℕ). imitovstavka d.rows key l (paged d.page_length d.fill image)) thirty)) in
    rw (← a, ← k, ← p) (ap (λ (r : Reported). Ok r) e)
