-- The first bad line decides.
use Rattle.std.proofs.Common.{◌≡◌, ℕ, ◌+◌, ◌≤◌, ◌⊎◌, List, [], ◌∷◌, ◌++◌, length, Some, None, Ok, Err, Option, Result, sym, refl, ap, ◌∙◌, inl, inr, arith, length-append}
use Rattle.std.proofs.lemmas.Bool.{eq-eqb, ne_eqb, cases_eq}
use Rattle.refusals.specs.declared.Reason.{Reason}
use Rattle.refusals.specs.declared.Reason.TheVariants.{MissingPart}
use Rattle.refusals.specs.Codes.{Code}
use Rattle.description.specs.Text.{lines}
use Rattle.description.specs.Words.{tokens}
use Rattle.description.specs.Judge.{Described, Draft, blank, needed, completed, refused, onward, judged_line, judged_lines, all_rows}
use Rattle.description.specs.Laws.{FirstBadLineDecides}
use Rattle.description.proofs.Judged.{lines_step, judged_from, from_first}

-- ---- the lines of two texts that are joined by a line's end

joined-lines : (a b : List ℕ) → lines (a ++ 10 ∷ b) ≡ lines a ++ lines b
unfolding lines
joined-lines [] b = refl
joined-lines (x ∷ xs) b =
    elim (cases_eq x 10) [
      | inl e ↦ rw (eq-eqb x 10 e, joined-lines xs b)
      | inr n ↦ elim (lines_step xs) [
        | inl e ↦ rw (ne_eqb x 10 n, joined-lines xs b, e)
        | inr p ↦ rw (ne_eqb x 10 n, joined-lines xs b, p.0)
      ]
    ]

-- ---- at the end of a text only a missing part is refused

missing_3 : {X : Type 0} (which : ℕ) (o : Option X) (next : X → Result Described Code) (e : Code) → ((x : X) → next x ≡ Err e → e.number ≡ 3) → needed which o next ≡ Err e → e.number ≡ 3
missing_3 which None next e h q = let p : refused MissingPart which ≡ e = cc in sym (ap (λ c. c.number) p)
missing_3 which (Some x) next e h q = h x q

completed_3 : (d : Draft) (e : Code) → completed d ≡ Err e → e.number ≡ 3
unfolding completed
completed_3 d e q =
    missing_3 1 d.kind _ e (λ kind. missing_3 2 d.page_length _ e (λ page_length. missing_3 3 d.page_count _ e (λ page_count. missing_3 4 d.fill _ e (λ fill. missing_3 5 (all_rows d.rows) _ e (λ rows p. cc p))))) q

-- ---- the law

onward_same : (n : ℕ) (r : Result Draft Reason) (f g : Draft → Result Described Code) (e : Code) → ((d : Draft) → f d ≡ Err e → g d ≡ Err e) → onward n r f ≡ Err e → onward n r g ≡ Err e
onward_same n (Ok next) f g e same h = same next h
onward_same n (Err why) f g e same h = h

more_lines : (n : ℕ) (d : Draft) (ls ms : List (List ℕ)) (e : Code) → (e.number ≡ 1) ⊎ (e.number ≡ 2) → judged_lines n d ls ≡ Err e → judged_lines n d (ls ++ ms) ≡ Err e
more_lines n d [] ms e bad q = absurd (omega (arith, completed_3 d e q, bad))
more_lines n d (l ∷ ls) ms e bad q = onward_same n (judged_line d (tokens l)) _ _ e (λ next. more_lines (n + 1) next ls ms e bad) q

pub first_bad : FirstBadLineDecides
unfolding judged_from
first_bad text more e q bad h =
    let short : length text ≤ 4096 = omega (arith, length-append text (10 ∷ more)) in
    let whole : judged_lines 1 blank (lines text) ≡ Err e = sym (from_first text short) ∙ q in
    from_first (text ++ 10 ∷ more) h ∙ (ap (judged_lines 1 blank) (joined-lines text more) ∙ more_lines 1 blank (lines text) (lines more) e bad whole)
