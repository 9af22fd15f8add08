-- An image page made block by block.
use Rattle.std.proofs.Common.{◌≡◌, ℕ, suc, ◌+◌, ◌-◌, ◌*◌, ◌/◌, ◌%◌, ◌<◌, ◌≤◌, min, true, List, ◌++◌, length, take, drop, replicate, Ok, Result, sym, refl, ap, ◌∙◌, subst, ap₂, inl, inr, mul_assoc, mul_comm, mul-le-mul_left, mul-add, arith, length-append, length-drop, take-append-drop, length-take}
use borrow.Rule.Slice.PartMut.{put_mid}
use Rattle.std.proofs.lemmas.List.{append_assoc, append-nil, drop-drop, drop_at, take_at, drop-append-le, drop_all}
use Rattle.std.proofs.lemmas.Bool.{eq-eqb, lt-ltb, cases_lt}
use Rattle.std.specs.Int.{div_ceil}
use Rattle.refusals.specs.Codes.{Code, unless}
use Rattle.blocks.specs.Bytes.{Bytes, block}
use Rattle.blocks.specs.Ciphers.{BlockMap, Lawful}
use Rattle.modes.specs.Modes.{block_count, joined}
use Rattle.modes.specs.Calls.{agrees, whole_in, chaining, mode_answer, plain_of, block_answer, buffer_after, front}
use Rattle.modes.proofs.Judged.{judged_sound}
use Rattle.modes.proofs.Joined.{begins_in, count_enough, length-block, joined_long, joined_more, count_ceil}
use Rattle.modes.proofs.Plain.{index_in}
use Rattle.modes.proofs.Undoing.{plain_long}
use Rattle.description.specs.Limits.{allowed_length}
use Rattle.sections.specs.declared.kind.CipherKind.{CipherKind}
use Rattle.sections.specs.declared.kind.CipherKind.TheVariants.{Gost, Kuznyechik}
use Rattle.sections.specs.Images.{block_length}
use Rattle.sections.specs.Entries.{Described}
use Rattle.downloads.specs.Frames.{block_of, blocks_of}
use Rattle.downloads.specs.Pages.{first_in, count_in, filled_up}
use Rattle.downloads.proofs.Answered.{block_some, page_parts}
use Rattle.downloads.proofs.Given.{section-judged}

-- one part more at the front of a page
pub front_more : (J plain page part : List ℕ) (a n : ℕ) → length J ≡ a → a + n ≤ length page → length plain ≤ n →
    part ≡ front plain (take (a + n - a) (drop a (front J page))) → put_mid a (a + n - a) (front J page) part ≡ front (J ++ plain) page
front_more J plain page part a n e room small is =
    let X : List ℕ = front J page in
    let R : List ℕ = drop a page in
    let size : a + n - a ≡ n = omega arith in
    let rest : drop a X ≡ R = drop_at J (drop (length J) page) a e ∙ ap (λ (k : ℕ). drop k page) e in
    let long : length (take n R) ≡ n = simp (length-take, length-drop) (omega arith) in
    let cut : take (a + n - a) (drop a X) ≡ take n R = ap₂ (λ (k : ℕ) (xs : List ℕ). take k xs) size rest in
    let made : part ≡ plain ++ drop (length plain) (take n R) = is ∙ ap (front plain) cut in
    let tail : drop (length plain) (take n R) ++ drop n R ≡ drop (length plain) R = sym (drop-append-le (length plain) (take n R) (drop n R) (omega arith)) ∙ ap (drop (length plain)) (take-append-drop n R) in
    let ends : a + length plain ≡ length (J ++ plain) = sym (length-append J plain ∙ ap (λ (k : ℕ). k + length plain) e) in
    ap₂ (λ (x y : List ℕ). x ++ (part ++ y)) (take_at J (drop (length J) page) a e) (ap₂ (λ (k : ℕ) (xs : List ℕ). drop k xs) size rest)
    ∙ (ap (λ (x : List ℕ). J ++ (x ++ drop n R)) made
    ∙ (ap (λ (x : List ℕ). J ++ x) (append_assoc plain (drop (length plain) (take n R)) (drop n R) ∙ ap (λ (x : List ℕ). plain ++ x) (tail ∙ drop-drop (length plain) a page))
    ∙ (sym (append_assoc J plain (drop (a + length plain) page)) ∙ ap (λ (k : ℕ). (J ++ plain) ++ drop k page) ends)))

module _ (c : BlockMap) (s : Described) (body : List ℕ) (law : Lawful c) (size : c.size ≡ block_of s) (long : length body ≡ s.length) (held : Bytes body)
    (agreed : agrees (block_of s) s.mode s.sync ≡ true) (whole : whole_in s.mode (block_of s) s.length ≡ true) where
  abbrev plain : ℕ → List ℕ
  plain i = plain_of c s.mode s.sync body i

  abbrev n : ℕ
  n = c.size

  judged : mode_answer n s.mode s.sync (length body) ≡ Ok tt
  judged = section-judged s n (length body) size long agreed whole

  some : 0 < n
  some = subst (λ (k : ℕ). 0 < k) (sym size) (block_some s.cipher)

  pub plain-length : (i : ℕ) → i < block_count n (length body) → length (plain i) ≡ min n (length body - n * i)
  plain-length i l =
      let sound = judged_sound c s.mode s.sync (length body) law judged in
      plain_long (chaining c s.mode s.sync) (length body) sound body (refl, held) s.mode sound.whole i l ∙ length-block n i body

  pub run_length : (from b : ℕ) → from + b ≤ block_count n (length body) → length (joined plain from b) ≡ min (n * b) (length body - n * from)
  run_length from b h = joined_long n (length body) plain from b (λ i x y. plain-length i (omega arith))

  -- one block more of a page
  pub one_more : (from b : ℕ) (page was part : List ℕ) → from + b < block_count n (length body) → page ≡ front (joined plain from b) was → n * b + n ≤ length was →
      part ≡ buffer_after c s.mode s.sync body (from + b) (take (n * b + n - n * b) (drop (n * b) page)) →
      put_mid (n * b) (n * b + n - n * b) page part ≡ front (joined plain from (b + 1)) was
  one_more from b page was part l e room is =
      let here : n * (from + b) < length body = begins_in n (length body) (from + b) some l in
      let J : List ℕ = joined plain from b in
      let run : length J ≡ n * b = run_length from b (omega arith) ∙ omega (arith, mul-add n from b, here) in
      let small : length (plain (from + b)) ≤ n = omega (arith, plain-length (from + b) l) in
      let slot : List ℕ = take (n * b + n - n * b) (drop (n * b) page) in
      let fits : length page ≡ length was = ap length e ∙ simp (length-append, length-drop) (omega arith) in
      let wide : length slot ≡ n = simp (length-take, length-drop) (omega arith) in
      let ok : block_answer n s.mode s.sync body (from + b) (length slot) ≡ Ok (length (block n (from + b) body)) =
      rw (eq-eqb (length slot) n wide, judged, lt-ltb (from + b) (block_count n (length body)) l) in
      let put : part ≡ front (plain (from + b)) slot = is ∙ ap (λ (r : Result ℕ Code). unless r slot (front (plain (from + b)) slot)) ok in
      let next : suc b ≡ b + 1 = omega arith in
      ap (λ (xs : List ℕ). put_mid (n * b) (n * b + n - n * b) xs part) e
      ∙ (front_more J (plain (from + b)) was part (n * b) n run room small (put ∙ ap (λ (xs : List ℕ). front (plain (from + b)) (take (n * b + n - n * b) (drop (n * b) xs))) e)
      ∙ (ap (λ (xs : List ℕ). front xs was) (sym (joined_more plain from b)) ∙ ap (λ (k : ℕ). front (joined plain from k) was) next))

-- fill to the end of a page
pub fill_rest : (J was page part : List ℕ) (end fill : ℕ) → page ≡ front J was → length J ≡ end → end ≤ length was → part ≡ replicate (length page - end) fill →
    put_mid end (length page - end) page part ≡ filled_up (length was) fill J
fill_rest J was page part end fill e l h is =
    let fits : length page ≡ length was = ap length e ∙ simp (length-append, length-drop) (omega arith) in
    let none : length (drop end page) ≤ length page - end = simp length-drop (omega arith) in
    let size : length page - end ≡ length was - length J = omega (arith, fits, l) in
    ap₂ (λ (x y : List ℕ). x ++ (part ++ y)) (ap (take end) e ∙ take_at J (drop (length J) was) end l) (drop_all (length page - end) (drop end page) none)
    ∙ ap (λ (x : List ℕ). J ++ x) (append-nil part ∙ (is ∙ ap (λ (k : ℕ). replicate k fill) size))

-- ---- the blocks of a page
page_whole : (k : CipherKind) (P : ℕ) → P % 16 ≡ 0 → block_length k * (P / block_length k) ≡ P
page_whole Gost P h = omega arith
page_whole Kuznyechik P h = omega arith

module _ (s : Described) (P j : ℕ) (allowed : allowed_length P ≡ true) where
  whole_blocks : block_of s * (P / block_of s) ≡ P
  whole_blocks = page_whole s.cipher P (page_parts P allowed).1.1

  -- it begins where the pages before it end
  pub page_starts : block_of s * first_in P s j ≡ j * P
  page_starts =
      sym (mul_assoc (block_of s) j (P / block_of s))
      ∙ (ap (λ (k : ℕ). k * (P / block_of s)) (mul_comm (block_of s) j) ∙ (mul_assoc j (block_of s) (P / block_of s) ∙ ap (λ (k : ℕ). j * k) whole_blocks))

  module _ (inside : j * P < s.length) where
    pub page_low : first_in P s j < blocks_of s
    page_low = index_in (block_of s) (first_in P s j) s.length (block_some s.cipher) (omega (arith, page_starts))

    pub page_ends : first_in P s j + count_in P s j ≤ blocks_of s
    page_ends = omega (arith, page_low)

    pub page_some_blocks : 0 < count_in P s j
    page_some_blocks =
        let one : 0 < P / block_of s = some_blocks s.cipher (page_parts P allowed).0 in omega (arith, page_low)
      where
        some_blocks : (k : CipherKind) → 16 ≤ P → 0 < P / block_length k
        some_blocks Gost h = omega arith
        some_blocks Kuznyechik h = omega arith

    pub page_fits : block_of s * count_in P s j ≤ P
    page_fits =
        let le : count_in P s j ≤ P / block_of s = omega arith in
        omega (arith, mul-le-mul_left (block_of s) le, whole_blocks)

    -- as many bytes of the image as there are in the page
    pub page_holds : min (block_of s * count_in P s j) (s.length - block_of s * first_in P s j) ≡ min P (s.length - block_of s * first_in P s j)
    page_holds =
        elim (cases_lt (P / block_of s) (blocks_of s - first_in P s j)) [
          | inl more ↦ let e : count_in P s j ≡ P / block_of s = omega arith in omega (arith, ap (λ (k : ℕ). block_of s * k) e, whole_blocks)
          | inr last ↦
              let e : first_in P s j + count_in P s j ≡ blocks_of s = omega (arith, page_low) in
              omega (arith, mul-add (block_of s) (first_in P s j) (count_in P s j), ap (λ (k : ℕ). block_of s * k) e, count_enough (block_of s) s.length (block_some s.cipher), page_fits)
        ]

-- the same as a call counts them, with blocks of n bytes, m of them, and a body of L bytes
module _ (s : Described) (n L P j m : ℕ) (size : n ≡ block_of s) (long : L ≡ s.length) (rounded : m ≡ div_ceil L n) (small : s.length ≤ 16384) (allowed : allowed_length P ≡ true) (inside : j * P < s.length) where
  pub first_is : j * (P / n) ≡ first_in P s j
  first_is = ap (λ (k : ℕ). j * (P / k)) size

  counted : m ≡ blocks_of s
  counted = rounded ∙ (count_ceil n (block_of s) L size (block_some s.cipher) ∙ ap (block_count (block_of s)) long)

  pub first_low : j * (P / n) ≤ m
  first_low = omega (arith, first_is, counted, page_low s P j allowed inside)

  pub count_is : min (P / n) (m - j * (P / n)) ≡ count_in P s j
  count_is = ap₂ (λ (a b : ℕ). min (P / a) b) size (ap₂ (λ (a b : ℕ). a - b) counted first_is)

  pub begin_is : n * (j * (P / n)) ≡ j * P
  begin_is = ap₂ (λ (a b : ℕ). a * b) size first_is ∙ page_starts s P j allowed
