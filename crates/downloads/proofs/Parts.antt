-- Parts of lists that are replaced.
use Rattle.std.proofs.Common.{◌≡◌, ℕ, ◌+◌, ◌-◌, ◌<◌, ◌≤◌, List, ◌++◌, length, get_or, take, drop, sym, refl, ap, ◌∙◌, ap₂, arith, length-append, length-drop, length-take, length-take-le, get_or-drop, get_or-take, take-take, drop-drop}
use lib.Seq.{take-append-add}
use borrow.Rule.Slice.PartMut.{put_mid}
use Rattle.std.proofs.lemmas.List.{append_assoc, drop-take, get_or_append_left, get_or-append_right}
use Rattle.downloads.specs.Marks.{put_at}

module _ {A : Type 0} where
  -- as what a write to a part leaves
  pub put_mid_lem : (a k : ℕ) (xs ys : List A) → k ≡ length ys → put_mid a k xs ys ≡ put_at a ys xs
  put_mid_lem a k xs ys e = ap (λ (zs : List A). take a xs ++ (ys ++ zs)) (drop-drop k a xs ∙ ap (λ (m : ℕ). drop (a + m) xs) e)

  pub put_length : (a : ℕ) (ys xs : List A) → a + length ys ≤ length xs → length (put_at a ys xs) ≡ length xs
  put_length a ys xs h = simp (length-append, length-take, length-drop) (omega arith)

  -- the front of a list with a part replaced in that front
  pub put_within : (c a : ℕ) (ys xs : List A) → a + length ys ≤ c → c ≤ length xs → take c (put_at a ys xs) ≡ put_at a ys (take c xs)
  put_within c a ys xs h k =
      let m : ℕ = a + length ys in
      let r : ℕ = c - m in
      let front : length (take a xs ++ ys) ≡ m = length-append (take a xs) ys ∙ ap (λ (n : ℕ). n + length ys) (length-take-le a xs (omega arith)) in
      let e : length (take a xs ++ ys) + r ≡ c = omega arith in
      let f : m + r ≡ c = omega arith in
      ap (take c) (sym (append_assoc (take a xs) ys (drop m xs)))
      ∙ (ap (λ (n : ℕ). take n ((take a xs ++ ys) ++ drop m xs)) (sym e)
      ∙ (take-append-add (take a xs ++ ys) (drop m xs) r
      ∙ (append_assoc (take a xs) ys (take r (drop m xs))
      ∙ ap₂ (λ (x y : List A). x ++ (ys ++ y)) (sym (take-take a c xs (omega arith)))
      (sym (drop-take m r xs) ∙ ap (λ (n : ℕ). drop m (take n xs)) f))))

  -- what stands where
  pub put_below : (a : ℕ) (ys xs : List A) (i : ℕ) (d : A) → i < a → a ≤ length xs → get_or (put_at a ys xs) i d ≡ get_or xs i d
  put_below a ys xs i d h k =
      get_or_append_left (take a xs) (ys ++ drop (a + length ys) xs) d i (simp length-take (omega arith)) ∙ get_or-take a xs i d h

  pub put_in : (a : ℕ) (ys xs : List A) (i : ℕ) (d : A) → a ≤ i → i < a + length ys → a ≤ length xs → get_or (put_at a ys xs) i d ≡ get_or ys (i - a) d
  put_in a ys xs i d h k l =
      get_or-append_right (take a xs) (ys ++ drop (a + length ys) xs) a i d (length-take-le a xs l) h
      ∙ get_or_append_left ys (drop (a + length ys) xs) d (i - a) (omega arith)

  pub put_above : (a : ℕ) (ys xs : List A) (i : ℕ) (d : A) → a + length ys ≤ i → a ≤ length xs → get_or (put_at a ys xs) i d ≡ get_or xs i d
  put_above a ys xs i d h l =
      let e : a + length ys + (i - a - length ys) ≡ i = omega arith in
      get_or-append_right (take a xs) (ys ++ drop (a + length ys) xs) a i d (length-take-le a xs l) (omega arith)
      ∙ (get_or-append_right ys (drop (a + length ys) xs) (length ys) (i - a) d refl (omega arith)
      ∙ (get_or-drop (a + length ys) xs (i - a - length ys) d ∙ ap (λ (k : ℕ). get_or xs k d) e))
