-- Pages one after the other.
use Rattle.std.proofs.Common.{◌≡◌, ℕ, zero, suc, ◌+◌, ◌*◌, ◌<◌, ◌≤◌, List, [], ◌∷◌, ◌++◌, length, get_or, take, drop, sym, ap, ◌∙◌, mul-zero, mul-suc, arith, length-append, drop-cons}
use Rattle.std.proofs.ByRecursion.{All-get_or}
use Rattle.std.proofs.lemmas.List.{drop-drop, drop_at, take_at}
use Rattle.std.specs.List.{AllByRecursion}
use Rattle.downloads.specs.Verdicts.{flat}

abbrev pub Long : ℕ → List ℕ → Type 0
Long P page = length page ≡ P

pub flat-length : (P : ℕ) (pages : List (List ℕ)) → AllByRecursion (Long P) pages → length (flat pages) ≡ P * length pages
flat-length P [] h = sym (mul-zero P)
flat-length P (page ∷ pages) h =
    length-append page (flat pages) ∙ (let a = h.0 in let b = flat-length P pages h.1 in omega (arith, mul-suc P (length pages)))

flat-drop : (P k : ℕ) (pages : List (List ℕ)) → AllByRecursion (Long P) pages → k ≤ length pages → drop (P * k) (flat pages) ≡ flat (drop k pages)
flat-drop P zero pages h l = ap (λ (n : ℕ). drop n (flat pages)) (mul-zero P)
flat-drop P (suc k) [] h l = absurd (omega arith)
flat-drop P (suc k) (page ∷ pages) h l =
    let e : P * suc k ≡ P + P * k = omega (arith, mul-suc P k) in
    ap (λ (n : ℕ). drop n (page ++ flat pages)) e
    ∙ (sym (drop-drop (P * k) P (page ++ flat pages)) ∙ (ap (drop (P * k)) (drop_at page (flat pages) P h.0) ∙ flat-drop P k pages h.1 (omega arith)))

-- page k is where it lies
pub flat_page : (P k : ℕ) (pages : List (List ℕ)) → AllByRecursion (Long P) pages → k < length pages → take P (drop (P * k) (flat pages)) ≡ get_or pages k []
flat_page P k pages h l =
    ap (take P) (flat-drop P k pages h (omega arith) ∙ ap flat (drop-cons pages k [] l)) ∙ take_at (get_or pages k []) (flat (drop (suc k) pages)) P (All-get_or (Long P) pages k [] l h)
