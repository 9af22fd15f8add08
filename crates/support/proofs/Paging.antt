-- Images followed by fill.
use Rattle.std.proofs.Common.{◌≡◌, ℕ, zero, suc, ◌+◌, ◌-◌, ◌*◌, ◌<◌, ◌≤◌, cond, ltb, List, ◌++◌, length, get_or, take, drop, replicate, sym, refl, ap, ◌∙◌, subst, inl, inr, arith, length-drop, length-take, take-add}
use Rattle.std.proofs.lemmas.List.{length-append, length-replicate, get_or_append_left, get_or-append_right, get_or-replicate, get_or-take, get_or-drop, same_lists, get_or_default}
use Rattle.std.proofs.lemmas.Bool.{cases_eq, cases_lt, lt-ltb, le-ltb}
use denote.Param.Members.{Mut, Called}
use Rattle.std.specs.Array.{IsFromFnResultFrom}
use Rattle.blocks.specs.Bytes.{block}

abbrev pub byte_at : List ℕ → ℕ → ℕ → ℕ
byte_at image fill k = cond (ltb k (length image)) (get_or image k 0) fill

byte_is : (image : List ℕ) (fill more k d : ℕ) → k < length image + more → get_or (image ++ replicate more fill) k d ≡ byte_at image fill k
byte_is image fill more k d h =
    elim (cases_lt k (length image)) [
      | inl low ↦ rw (lt-ltb k (length image) low) (get_or_append_left image (replicate more fill) d k low ∙ get_or_default image k d 0 low)
      | inr high ↦ rw (le-ltb k (length image) high) (get_or-append_right image (replicate more fill) (length image) k d refl high ∙ get_or-replicate more (k - length image) fill d (omega arith))
    ]

pub filled-length : (image : List ℕ) (fill more : ℕ) → length (image ++ replicate more fill) ≡ length image + more
filled-length image fill more = length-append image (replicate more fill) ∙ ap (λ (n : ℕ). length image + n) (length-replicate more fill)

-- one more block of a text
pub taken_more : (text : List ℕ) (i : ℕ) → take (8 * i) text ++ block 8 i text ≡ take (8 * (i + 1)) text
taken_more text i =
    let e : 8 * i + 8 ≡ 8 * (i + 1) = omega arith in
    sym (take-add (8 * i) 8 text) ∙ ap (λ (n : ℕ). take n text) e

pub block_is : (image : List ℕ) (fill more i : ℕ) (bytes : List ℕ) → length bytes ≡ 8 → 8 * i + 8 ≤ length image + more →
    ((k : ℕ) → k < 8 → get_or bytes k 0 ≡ byte_at image fill (8 * i + k)) → bytes ≡ block 8 i (image ++ replicate more fill)
block_is image fill more i bytes l h at =
    let text = image ++ replicate more fill in
    let long : length text ≡ length image + more = filled-length image fill more in
    let whole : length (block 8 i text) ≡ 8 = simp (length-take, length-drop) (omega (arith, long)) in
    same_lists bytes (block 8 i text) (l ∙ sym whole)
    (λ k d s. get_or_default bytes k d 0 s
    ∙ (at k (omega arith)
    ∙ (sym (byte_is image fill more (8 * i + k) d (omega arith))
    ∙ (sym (get_or-drop (8 * i) text k d) ∙ sym (get_or-take 8 (drop (8 * i) text) k d (omega arith))))))

-- an array that calls made, of which each gives h of its index
module _ {F : Type 0} (g : Mut F (ℕ × Unit {0}) ℕ) (f : F) (h : ℕ → ℕ) (learnt : (x y : ℕ) (q : F) → Called g f (x, tt) y q → (q ≡ f) × (y ≡ h x)) where
  pub made_from : (ys : List ℕ) (i n : ℕ) → IsFromFnResultFrom g f ys i n → (k d : ℕ) → i ≤ k → k < i + n → get_or ys k d ≡ h k
  made_from ys i zero each k d low high = absurd (omega arith)
  made_from ys i (suc n) each k d low high =
      let on = learnt i each.1 each.0 each.3 in
      elim (cases_eq k i) [
        | inl e ↦ rw e (each.2.1 d ∙ on.1)
        | inr later ↦ made_from ys (i + 1) n (subst (λ (p : F). IsFromFnResultFrom g p ys (i + 1) n) on.0 each.4) k d (omega arith) (omega arith)
      ]
