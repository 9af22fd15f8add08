-- The numbers of a box line, taken in one after another.
use Rattle.std.proofs.Common.{◌≡◌, ℕ, ◌<◌, ◌≤◌, true, false, ◌&&◌, eqb, ltb, leb, List, [], ◌∷◌, ◌++◌, length, Some, None, Ok, Err, Option, refl, ap, arith}
use Rattle.std.specs.Option.{ok_or}
use Rattle.std.proofs.lemmas.Bool.{lt-ltb, le-ltb, ne_eqb, and_left, and_right, and_from, and_parts}
use Rattle.refusals.specs.declared.Reason.{Reason}
use Rattle.refusals.specs.declared.Reason.TheVariants.{MalformedLine}
use Rattle.gost.specs.Tables.{narrow_row}
use Rattle.description.specs.Words.{Token, keyword, number, other}
use Rattle.description.specs.Judge.{added, all_numbers}
use Rattle.description.specs.Meaning.{NoRow, first_number, end_answer}

-- the numbers ns in front of those that follow
abbrev pub prefixed : List ℕ → Option (List ℕ) → Option (List ℕ)
prefixed [] o = o
prefixed (n ∷ ns) o = added n (prefixed ns o)

pub prefixed_more : (ns : List ℕ) (n : ℕ) (o : Option (List ℕ)) → prefixed (ns ++ n ∷ []) o ≡ prefixed ns (added n o)
prefixed_more [] n o = refl
prefixed_more (m ∷ ns) n o = ap (added m) (prefixed_more ns n o)

prefixed_none : (ns : List ℕ) → prefixed ns None ≡ None
prefixed_none [] = refl
prefixed_none (n ∷ ns) = ap (added n) (prefixed_none ns)

prefixed_some : (ns ms : List ℕ) → prefixed ns (Some ms) ≡ Some (ns ++ ms)
prefixed_some [] ms = refl
prefixed_some (n ∷ ns) ms = ap (added n) (prefixed_some ns ms)

pub prefixed_all : (ns : List ℕ) → prefixed ns (Some []) ≡ Some ns
prefixed_all [] = refl
prefixed_all (n ∷ ns) = ap (added n) (prefixed_all ns)

pub narrow_more : (ns : List ℕ) (n : ℕ) → narrow_row ns ≡ true → n ≤ 15 → narrow_row (ns ++ n ∷ []) ≡ true
narrow_more [] n h small = rw (lt-ltb n 16 (omega arith))
narrow_more (m ∷ ns) n h small =
    let parts = and_parts (ltb m 16) (narrow_row ns) h in
    and_from (ltb m 16) (narrow_row (ns ++ n ∷ [])) parts.0 (narrow_more ns n parts.1 small)

wide : (ns : List ℕ) (n : ℕ) (ms : List ℕ) → 15 < n → narrow_row (ns ++ n ∷ ms) ≡ false
wide [] n ms h = rw (le-ltb n 16 (omega arith))
wide (m ∷ ns) n ms h = and_right (ltb m 16) (narrow_row (ns ++ n ∷ ms)) (wide ns n ms h)

-- ---- what is no row

no_count : (row : ℕ) (ns : List ℕ) → (length ns ≡ 16 → ⊥) → NoRow (Some (row ∷ ns))
no_count row ns h d =
    let off = and_right (leb 1 row) (leb row 8 && (eqb (length ns) 16 && narrow_row ns)) (and_right (leb row 8) (eqb (length ns) 16 && narrow_row ns) (and_left (eqb (length ns) 16) (narrow_row ns) (ne_eqb (length ns) 16 h))) in
    rw off

no_wide : (row : ℕ) (ns : List ℕ) → narrow_row ns ≡ false → NoRow (Some (row ∷ ns))
no_wide row ns h d =
    let off = and_right (leb 1 row) (leb row 8 && (eqb (length ns) 16 && narrow_row ns)) (and_right (leb row 8) (eqb (length ns) 16 && narrow_row ns) (and_right (eqb (length ns) 16) (narrow_row ns) h)) in
    rw off

no_number : (row : ℕ) (ns : List ℕ) → NoRow (added row (prefixed ns None))
no_number row ns d = rw (prefixed_none ns)

-- a word that is no number, before the sixteenth
pub stopped : (ts : List Token) (row : ℕ) (ns : List ℕ) → first_number ts ≡ None → length ns < 16 → NoRow (added row (prefixed ns (all_numbers ts)))
stopped [] row ns none h = rw (prefixed_all ns) (no_count row ns (λ e. omega arith))
stopped (keyword k ∷ ts) row ns none h = no_number row ns
stopped (number x ∷ ts) row ns none h = λ d. cc none
stopped (other bytes ∷ ts) row ns none h = no_number row ns

-- a number over 15
pub too_wide : (row : ℕ) (ns : List ℕ) (n : ℕ) (o : Option (List ℕ)) → 15 < n → NoRow (added row (prefixed ns (added n o)))
too_wide row ns n None h = no_number row ns
too_wide row ns n (Some ms) h = rw (prefixed_some ns (n ∷ ms)) (no_wide row (ns ++ n ∷ ms) (wide ns n ms h))

-- ---- what was read

-- what could not be read
pub unread : {X : Type 0} (o : Option X) (why : Reason) → Err why ≡ ok_or o MalformedLine → (why ≡ MalformedLine) × (o ≡ None)
unread None why e = (cc e, refl)
unread (Some x) why e = (cc e, cc e)

-- the end of a line
pub ended : (ts : List Token) (u : Unit) → Ok u ≡ end_answer ts → ts ≡ []
ended [] u e = refl
ended (t ∷ ts) u e = absurd (let f : ◌≡◌ {A = ℕ} 0 1 = cc e in omega arith)
