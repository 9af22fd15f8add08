-- The image on a target, taken in page by page.
use Rattle.std.proofs.Common.{◌≡◌, ℕ, suc, ◌+◌, ◌-◌, ◌*◌, ◌/◌, ◌%◌, ◌<◌, ◌≤◌, min, List, [], ◌++◌, length, take, drop, sym, ap, ◌∙◌, ap₂, inl, inr, mul_assoc, mul-le-mul_left, mul-zero, mul-one, mul-add, arith, length-drop, length-take, get_or-drop, take-take, take-add}
use Rattle.std.proofs.ByRecursion.{All-drop, All-weaker}
use Rattle.std.proofs.lemmas.List.{take_all, length-take-le}
use Rattle.std.proofs.lemmas.Bool.{lt-leb, eq-eqb, cases_lt}
use Rattle.std.specs.List.{AllByRecursion}
use Rattle.blocks.specs.Bytes.{Block}
use Rattle.gost.specs.Tables.{Rows}
use Rattle.gost.specs.Cipher.{sixteen}
use Rattle.imitovstavka.specs.Chain.{absorbed, start, value_of, imitovstavka}
use Rattle.modes.proofs.Joined.{begins_in, count_enough}
use Rattle.modes.proofs.Plain.{index_in}
use Rattle.sections.specs.Images.{pages_for}
use Rattle.sections.specs.Entries.{Described}
use Rattle.sections.specs.Files.{pages_end}
use Rattle.targets.specs.State.{TargetState, WellFormed, page_of}
use Rattle.targets.specs.Calls.{read_out}
use Rattle.downloads.specs.Verdicts.{flat, image_on, value_of_image, last_page}
use Rattle.downloads.proofs.Answered.{page_parts}
use Rattle.downloads.proofs.Flat.{Long, flat-length, flat_page}

eights : (P k : ℕ) → P % 16 ≡ 0 → P * k % 8 ≡ 0
eights P k h =
    let q : ℕ = P / 8 in
    let e : P ≡ 8 * q = omega arith in
    let f : P * k ≡ 8 * (q * k) = ap (λ (n : ℕ). n * k) e ∙ mul_assoc 8 q k in
    omega (arith, f)

-- after k pages: what was taken in, and which page was read last
pub record Summed (s : Described) (t : TargetState) (E : List ℕ → List ℕ) (k : ℕ) (state page : List ℕ) : Type 0 where
  pub state_is : state ≡ absorbed E start (take (t.page_length * k) (image_on s t))
  pub page_is : (m : ℕ) → suc m ≡ k → page ≡ page_of t (s.first_page + m)

module _ (s : Described) (t : TargetState) (E : List ℕ → List ℕ) (formed : WellFormed t) (there : pages_end t.page_length s ≤ t.page_count) where
  abbrev P : ℕ
  P = t.page_length

  abbrev L : ℕ
  L = s.length

  abbrev F : List ℕ
  F = flat (drop s.first_page t.pages)

  some_page : 0 < P
  some_page = omega (arith, (page_parts P formed.sized).0)

  held : AllByRecursion (Long P) (drop s.first_page t.pages)
  held = All-drop (Long P) s.first_page t.pages (All-weaker (Block P) (Long P) (λ page h. h.0) t.pages formed.held)

  pages_there : pages_for P L ≤ length (drop s.first_page t.pages)
  pages_there = simp length-drop (omega (arith, formed.paged, there))

  pub image_length_lem : length (image_on s t) ≡ L
  unfolding image_on
  image_length_lem =
      let l : length F ≡ P * length (drop s.first_page t.pages) = flat-length P (drop s.first_page t.pages) held in
      length-take-le L F (omega (arith, l, count_enough P L some_page, mul-le-mul_left P pages_there))

  pub summed_first : (page : List ℕ) → Summed s t E 0 start page
  unfolding absorbed
  summed_first page = record {
    state_is = sym (ap (λ (n : ℕ). absorbed E start (take n (image_on s t))) (mul-zero P));
    page_is = λ m e. absurd (omega arith);
  }

  -- one page more of the image
  more : (k count : ℕ) → k < pages_for P L → count ≡ min (L - P * k) P → take (P * k) (image_on s t) ++ take count (page_of t (s.first_page + k)) ≡ take (P * (k + 1)) (image_on s t)
  unfolding image_on
  more k count h e =
      let low : P * k < L = begins_in P L k some_page h in
      let next : P * (k + 1) ≡ P * k + P = mul-add P k 1 ∙ ap (λ (n : ℕ). P * k + n) (mul-one P) in
      let page : take P (drop (P * k) F) ≡ page_of t (s.first_page + k) = flat_page P k (drop s.first_page t.pages) held (omega (arith, pages_there)) ∙ get_or-drop s.first_page t.pages k [] in
      let part : take count (drop (P * k) F) ≡ take count (page_of t (s.first_page + k)) = sym (take-take count P (drop (P * k) F) (omega arith)) ∙ ap (take count) page in
      let joined : take (P * k + count) F ≡ take (P * k) (image_on s t) ++ take count (page_of t (s.first_page + k)) =
      take-add (P * k) count F ∙ ap₂ (λ (x y : List ℕ). x ++ y) (sym (take-take (P * k) L F (omega arith))) part in
      let end : take (P * k + count) F ≡ take (P * (k + 1)) (take L F) = elim (cases_lt L (P * (k + 1))) [
        | inl last ↦
            let all : P * k + count ≡ L = omega arith in
            ap (λ (n : ℕ). take n F) all ∙ sym (take_all (P * (k + 1)) (take L F) (simp length-take (omega arith)))
        | inr whole ↦
            let page-end : P * k + count ≡ P * (k + 1) = omega arith in
            ap (λ (n : ℕ). take n F) page-end ∙ sym (take-take (P * (k + 1)) L F whole)
      ] in
      sym joined ∙ end

  pub summed_next : (k count : ℕ) (state state' page page' : List ℕ) → k < pages_for P L → Summed s t E k state page → page' ≡ page_of t (s.first_page + k) → count ≡ min (L - P * k) P →
      ((before : List ℕ) → length before % 8 ≡ 0 → state ≡ absorbed E start before → state' ≡ absorbed E start (before ++ take count page')) → Summed s t E (k + 1) state' page'
  summed_next k count state state' page page' h was read counted together =
      let low : P * k < L = begins_in P L k some_page h in
      let before : List ℕ = take (P * k) (image_on s t) in
      let long : length before ≡ P * k = length-take-le (P * k) (image_on s t) (omega (arith, image_length_lem)) in
      record {
        state_is = together before (ap (λ (n : ℕ). n % 8) long ∙ eights P k (page_parts P formed.sized).1.1) was.state_is ∙ ap (absorbed E start) (ap (λ (x : List ℕ). before ++ take count x) read ∙ more k count h counted);
        page_is = λ m e. let q : m ≡ k = omega arith in read ∙ ap (λ (x : ℕ). page_of t (s.first_page + x)) (sym q);
      }

  -- all of it
  pub summed_all : (k : ℕ) (state page : List ℕ) → k ≡ pages_for P L → Summed s t E k state page → state ≡ absorbed E start (image_on s t)
  summed_all k state page e was =
      was.state_is ∙ ap (absorbed E start) (take_all (P * k) (image_on s t) (omega (arith, image_length_lem, count_enough P L some_page, ap (λ (n : ℕ). P * n) e)))

  pub last_read : (k : ℕ) (state page : List ℕ) → k ≡ pages_for P L → 0 < L → Summed s t E k state page → page ≡ page_of t (last_page s t)
  last_read k state page e some was =
      let one : 0 < pages_for P L = index_in P 0 L some_page (omega (arith, mul-zero P)) in
      let q : suc (k - 1) ≡ k = omega arith in
      let r : s.first_page + (k - 1) ≡ last_page s t = omega arith in
      was.page_is (k - 1) q ∙ ap (page_of t) r

-- the value of what was taken in
pub value_is : (rows : Rows) (key : List ℕ) (s : Described) (image state : List ℕ) (bits value : ℕ) → state ≡ absorbed (sixteen rows key) start image → bits ≡ s.bits → value ≡ value_of bits state → value ≡ value_of_image rows key s image
unfolding imitovstavka
value_is rows key s image state bits value e b v = v ∙ ap₂ (λ (x : ℕ) (y : List ℕ). value_of x y) b e

-- a page that is there is read
pub read_is : (t : TargetState) (p : ℕ) (out : List ℕ) → p < t.page_count → length out ≡ t.page_length → read_out t p out ≡ page_of t p
read_is t p out h e = rw (lt-leb t.page_count p h, eq-eqb (length out) t.page_length e)
