-- A frame on the blocks of a body.
use Rattle.std.proofs.Common.{◌≡◌, ℕ, ◌+◌, ◌-◌, ◌*◌, ◌/◌, ◌%◌, ◌<◌, ◌≤◌, min, Bool, true, false, cond, not, ◌&&◌, ◌||◌, eqb, ltb, leb, ◌⊎◌, List, ◌++◌, length, take, drop, Some, None, Option, sym, refl, ap, ◌∙◌, ap₂, inl, inr, mul_comm, lt_of_mul-lt-mul_right, mul-le-mul_left, mul-one, mul-add, arith, length-drop}
use borrow.Rule.Slice.PartMut.{put_mid}
use Rattle.std.proofs.lemmas.Nat.{div-add-mod'}
use Rattle.std.proofs.lemmas.List.{append-nil, take-append-le, drop-append-le, drop-drop, drop_at, drop_all, drop-take, length-take-le, take_all}
use Rattle.std.proofs.lemmas.Slice.{take-put_mid_below, drop-put_mid}
use Rattle.std.proofs.lemmas.Bool.{and_parts, and_cases, and_left, and_right, or_cases, eqb-true, leb-true, leb-false, ltb-true, ltb-false, le-leb, lt-leb, lt-ltb, le-ltb, cases_Bool, cases_lt, cond-true, cond-false}
use Rattle.std.specs.Str.{bytes_eq}
use Rattle.blocks.specs.Bytes.{block}
use Rattle.modes.specs.Modes.{block_count}
use Rattle.modes.proofs.Plain.{index_in, index_out}
use Rattle.modes.proofs.Joined.{count_tight}
use Rattle.downloads.specs.declared.arrivals.Arrival.{Arrival}
use Rattle.downloads.specs.Marks.{arrived_at}
use Rattle.downloads.specs.Copies.{Copies, copies_in}
use Rattle.downloads.specs.Frames.{covers, good_frame, block_in, differs, conflicts, with_frame, body_after, marks_after}
use Rattle.downloads.proofs.Parts.{put_mid_lem}
use Rattle.downloads.proofs.Marks.{marked_at}

-- what a good frame keeps
pub record Framed (n L f bytes : ℕ) : Type 0 where
  pub some : 0 < bytes
  pub within : n * f + bytes ≤ L
  pub shape : (bytes % n ≡ 0) ⊎ (n * f + bytes ≡ L)

pub framed : (n L f bytes : ℕ) → good_frame n L f bytes ≡ true → Framed n L f bytes
framed n L f bytes h =
    let s = and_parts (ltb 0 bytes) _ h in
    let t = and_parts (leb (n * f + bytes) L) _ s.1 in
    record {
      some = ltb-true 0 bytes s.0;
      within = leb-true (n * f + bytes) L t.0;
      shape = elim (or_cases (eqb (bytes % n) 0) _ t.1) [ inl a ↦ inl (eqb-true (bytes % n) 0 a) | inr a ↦ inr (eqb-true (n * f + bytes) L a) ];
    }

-- ---- places
pub place : (n f k : ℕ) → f ≤ k → n * f + n * (k - f) ≡ n * k
place n f k h = let e : f + (k - f) ≡ k = omega arith in sym (mul-add n f (k - f)) ∙ ap (λ (x : ℕ). n * x) e

-- a block that begins in whole blocks lies in them
pub whole_next : (n j bytes : ℕ) → 0 < n → bytes % n ≡ 0 → n * j < bytes → n * j + n ≤ bytes
whole_next n j bytes pos e l =
    let q : n * (bytes / n) ≡ bytes = omega (arith, div-add-mod' bytes n, mul_comm n (bytes / n)) in
    let lt : j < bytes / n = lt_of_mul-lt-mul_right n (omega (arith, mul_comm n j, mul_comm n (bytes / n))) in
    let le : j + 1 ≤ bytes / n = omega arith in
    omega (arith, mul-le-mul_left n le, mul-add n j 1, mul-one n)

-- the blocks that are covered are those from f on, as many as the frame has
pub covers_is : (n f bytes k : ℕ) → 0 < n → covers n f bytes k ≡ (leb f k && ltb k (f + block_count n bytes))
covers_is n f bytes k pos =
    elim (cases_lt k f) [
      | inl low ↦ rw (lt-leb f k low)
      | inr high ↦ elim (cases_lt (n * (k - f)) bytes) [
        | inl i ↦ let l = index_in n (k - f) bytes pos i in rw (le-leb f k high, lt-ltb (n * (k - f)) bytes i, lt-ltb k (f + block_count n bytes) (omega arith))
        | inr o ↦ let l = index_out n (k - f) bytes pos o in rw (le-leb f k high, le-ltb (n * (k - f)) bytes o, le-ltb k (f + block_count n bytes) (omega arith))
      ]
    ]

-- as many marks as blocks
pub blocks_within : (n L f bytes : ℕ) → 0 < n → n * f + bytes ≤ L → 0 < bytes → f + block_count n bytes ≤ block_count n L
blocks_within n L f bytes pos h some =
    let m : ℕ = block_count n bytes in
    let k : ℕ = f + (m - 1) in
    let one : 0 < m = index_in n 0 bytes pos (omega arith) in
    let e : m - 1 + 1 ≡ m = omega arith in
    let last : n * (m - 1) < bytes = omega (arith, count_tight n bytes pos, mul-add n (m - 1) 1, mul-one n, ap (λ (x : ℕ). n * x) e) in
    let in' = index_in n k L pos (omega (arith, mul-add n f (m - 1))) in
    omega arith

-- ---- a frame's bytes in the body
module _ (n f : ℕ) (body frame : List ℕ) (pos : 0 < n) (within : n * f + length frame ≤ length body) where
  abbrev after : List ℕ
  after = body_after n f frame body

  mid : after ≡ put_mid (n * f) (length frame) body frame
  mid = sym (put_mid_lem (n * f) (length frame) body frame refl)

  drop_in : (d : ℕ) → d ≤ length frame → drop (n * f + d) after ≡ drop d frame ++ drop (n * f + length frame) body
  drop_in d h =
      let front : length (take (n * f) body) ≡ n * f = length-take-le (n * f) body (omega arith) in
      let rest = frame ++ drop (n * f + length frame) body in
      sym (drop-drop d (n * f) after)
      ∙ (ap (drop d) (drop_at (take (n * f) body) rest (n * f) front) ∙ drop-append-le d frame (drop (n * f + length frame) body) h)

  pub block_in_lem : (k : ℕ) → f ≤ k → n * (k - f) < length frame → (length frame % n ≡ 0) ⊎ (n * f + length frame ≡ length body) → block n k after ≡ block_in n f frame k
  block_in_lem k h l shape =
      let rest = drop (n * f + length frame) body in
      ap (λ (x : ℕ). take n (drop x after)) (sym (place n f k h))
      ∙ (ap (take n) (drop_in (n * (k - f)) (omega arith))
      ∙ elim shape [
        | inl w ↦
            let room = whole_next n (k - f) (length frame) pos w l in
            let long : n ≤ length (drop (n * (k - f)) frame) = simp length-drop (omega arith) in
            take-append-le n (drop (n * (k - f)) frame) rest long
        | inr w ↦
            ap (λ (x : List ℕ). take n (drop (n * (k - f)) frame ++ x)) (drop_all (n * f + length frame) body (omega arith)) ∙ ap (take n) (append-nil (drop (n * (k - f)) frame))
      ])

  block-below : (k : ℕ) → k < f → block n k after ≡ block n k body
  block-below k h =
      let le : k + 1 ≤ f = omega arith in
      let room : n * k + n ≤ n * f = omega (arith, mul-le-mul_left n le, mul-add n k 1, mul-one n) in
      let p = take-put_mid_below (n * f) (length frame) body frame (n * k + n) room (omega arith) in
      let t : (xs : List ℕ) → block n k xs ≡ drop (n * k) (take (n * k + n) xs) = λ xs. sym (drop-take (n * k) n xs) in
      t after ∙ (ap (drop (n * k)) (ap (take (n * k + n)) mid ∙ p) ∙ sym (t body))

  block_above : (k : ℕ) → f ≤ k → length frame ≤ n * (k - f) → block n k after ≡ block n k body
  block_above k h l =
      let p = place n f k h in
      ap (take n) (ap (drop (n * k)) mid ∙ drop-put_mid (n * f) (length frame) body frame (n * k) (omega arith) (omega arith) refl)

  pub block_out : (k : ℕ) → covers n f (length frame) k ≡ false → block n k after ≡ block n k body
  block_out k e =
      elim (cases_lt k f) [
        | inl low ↦ block-below k low
        | inr high ↦ elim (and_cases (leb f k) (ltb (n * (k - f)) (length frame)) e) [
          | inl a ↦ block-below k (leb-false f k a)
          | inr a ↦ block_above k high (ltb-false (n * (k - f)) (length frame) a)
        ]
      ]

-- the copies that a frame leaves
pub copies_taken : (n f : ℕ) (body frame : List ℕ) (marks : List Arrival) → 0 < n → length marks ≡ block_count n (length body) → Framed n (length body) f (length frame) →
    copies_in n (body_after n f frame body) (marks_after n f frame marks) ≡ with_frame n (copies_in n body marks) f frame
unfolding copies_in with_frame
copies_taken n f body frame marks pos size fr =
    let room = blocks_within n (length body) f (length frame) pos fr.within fr.some in
    let marked : (k : ℕ) → arrived_at (marks_after n f frame marks) k ≡ (covers n f (length frame) k || arrived_at marks k) =
    λ k. marked_at f (block_count n (length frame)) marks (omega arith) k ∙ ap (λ (b : Bool). b || arrived_at marks k) (sym (covers_is n f (length frame) k pos)) in
    let here : (k : ℕ) → copies_in n (body_after n f frame body) (marks_after n f frame marks) k ≡ with_frame n (copies_in n body marks) f frame k =
    λ k. elim (cases_Bool (covers n f (length frame) k)) [
      | inl c ↦
          let a = and_parts (leb f k) (ltb (n * (k - f)) (length frame)) c in
          let m : arrived_at (marks_after n f frame marks) k ≡ true = marked k ∙ ap (λ (b : Bool). b || arrived_at marks k) c in
          cond-true (arrived_at (marks_after n f frame marks) k) _ _ m
          ∙ (ap Some (block_in_lem n f body frame pos fr.within k (leb-true f k a.0) (ltb-true (n * (k - f)) (length frame) a.1) fr.shape)
          ∙ sym (cond-true (covers n f (length frame) k) _ _ c))
      | inr c ↦
          let m : arrived_at (marks_after n f frame marks) k ≡ arrived_at marks k = marked k ∙ ap (λ (b : Bool). b || arrived_at marks k) c in
          ap₂ (λ (b : Bool) (x : List ℕ). cond b (Some x) None) m (block_out n f body frame pos fr.within k c)
          ∙ sym (cond-false (covers n f (length frame) k) _ _ c)
    ] in
    λ i k. here k i

-- ---- conflicts
pub conflicts_in : (n : ℕ) (copies : Copies) (f : ℕ) (frame : List ℕ) (k : ℕ) → f ≤ k → n * (k - f) < length frame → conflicts n copies f frame k ≡ differs (copies k) (block_in n f frame k)
conflicts_in n copies f frame k h l = rw (le-leb f k h, lt-ltb (n * (k - f)) (length frame) l)

-- no block that is not covered
pub conflicts_past : (n : ℕ) (copies : Copies) (f : ℕ) (frame : List ℕ) (k : ℕ) → 0 < n → (leb f k && ltb k (f + block_count n (length frame))) ≡ false → conflicts n copies f frame k ≡ false
conflicts_past n copies f frame k pos h = and_left (covers n f (length frame) k) (differs (copies k) (block_in n f frame k)) (covers_is n f (length frame) k pos ∙ h)

pub conflict_missing : (n : ℕ) (body : List ℕ) (marks : List Arrival) (f : ℕ) (frame : List ℕ) (k : ℕ) → arrived_at marks k ≡ false → conflicts n (copies_in n body marks) f frame k ≡ false
unfolding copies_in
conflict_missing n body marks f frame k t =
    and_right (covers n f (length frame) k) _ (ap (λ (o : Option (List ℕ)). differs o (block_in n f frame k)) (cond-false (arrived_at marks k) (Some (block n k body)) None t))

pub conflict_arrived : (n : ℕ) (body : List ℕ) (marks : List Arrival) (f : ℕ) (frame : List ℕ) (k : ℕ) → f ≤ k → n * (k - f) < length frame → arrived_at marks k ≡ true → conflicts n (copies_in n body marks) f frame k ≡ not (bytes_eq (block n k body) (block_in n f frame k))
unfolding copies_in
conflict_arrived n body marks f frame k h l t =
    conflicts_in n (copies_in n body marks) f frame k h l ∙ ap (λ (o : Option (List ℕ)). differs o (block_in n f frame k)) (cond-true (arrived_at marks k) (Some (block n k body)) None t)

-- a part that is cut at the end of what it is cut from
cut : (n : ℕ) (xs : List ℕ) (a w : ℕ) → (w ≡ n) ⊎ ((w ≤ n) × (length xs ≤ a + w)) → take w (drop a xs) ≡ take n (drop a xs)
cut n xs a w (inl e) = ap (λ (x : ℕ). take x (drop a xs)) e
cut n xs a w (inr e) =
    let s : length (drop a xs) ≤ w = simp length-drop (omega (arith, e.1)) in
    let t : length (drop a xs) ≤ n = omega (arith, e.0) in
    take_all w (drop a xs) s ∙ sym (take_all n (drop a xs) t)

-- the two parts that are compared are the blocks
module _ (n f k e : ℕ) (body frame : List ℕ) (pos : 0 < n) (low : f ≤ k) (l : n * (k - f) < length frame) (fr : Framed n (length body) f (length frame)) (end : e ≡ min (n * (k - f) + n) (length frame)) where
  pub cut_frame : take (e - n * (k - f)) (drop (n * (k - f)) frame) ≡ block_in n f frame k
  cut_frame =
      cut n frame (n * (k - f)) (e - n * (k - f))
      (elim (cases_lt (n * (k - f) + n) (length frame)) [ inl a ↦ inl (omega arith) | inr a ↦ inr (omega arith, omega arith) ])

  pub cut_body : take (n * k + (e - n * (k - f)) - n * k) (drop (n * k) body) ≡ block n k body
  cut_body =
      let p = place n f k low in
      cut n body (n * k) (n * k + (e - n * (k - f)) - n * k)
      (elim fr.shape [
        | inl w ↦ let room = whole_next n (k - f) (length frame) pos w l in inl (omega arith)
        | inr w ↦ elim (cases_lt (n * (k - f) + n) (length frame)) [ inl a ↦ inl (omega arith) | inr a ↦ inr (omega arith, omega (arith, p)) ]
      ])
