-- Marks of pages, and rows of a table.
use Rattle.std.proofs.Common.{◌≡◌, ℕ, zero, suc, ◌<◌, true, false, List, [], ◌∷◌, length, map, get_or, set, replicate, is_some, IfSome, Some, None, Ok, Option, refl, ap, arith}
use Rattle.std.proofs.lemmas.Bool.{and_parts, and_from}
use Rattle.std.proofs.lemmas.List.Elements.{All-set}
use Rattle.std.proofs.lemmas.List.Sums.{AllPass-from_list_all, list_all-from_AllPass}
use Rattle.std.specs.List.{list_all}
use Rattle.std.specs.Option.{option_map, option_or}
use Rattle.gost.specs.Tables.{Rows, narrow_row, narrow_rows}
use Rattle.description.specs.Limits.{sound_row}
use Rattle.description.specs.Judge.{all_rows, needed}

pub none_marked : (n i : ℕ) → get_or (replicate n false) i false ≡ false
none_marked zero i = refl
none_marked (suc n) zero = refl
none_marked (suc n) (suc i) = none_marked n i

-- a row that is sound in the place of another
pub sound_set : (rows : List (Option (List ℕ))) (i : ℕ) (row : Option (List ℕ)) → sound_row row ≡ true → list_all sound_row rows ≡ true → list_all sound_row (set rows i row) ≡ true
sound_set rows i row h k = list_all-from_AllPass sound_row (set rows i row) (All-set (λ r. sound_row r ≡ true) rows i row h (AllPass-from_list_all sound_row rows k))

-- a row that is given to a place, where none or one was given before
pub sound_given : (rows : List (Option (List ℕ))) (i : ℕ) (row : List ℕ) → list_all sound_row rows ≡ true → narrow_row row ≡ true → sound_row (option_or (get_or rows i None) (Some row)) ≡ true
sound_given [] i row all h = h
sound_given (None ∷ rows) zero row all h = h
sound_given (Some r ∷ rows) zero row all h = (and_parts (narrow_row r) (list_all sound_row rows) all).0
sound_given (r ∷ rows) (suc i) row all h = sound_given rows i row (and_parts (sound_row r) (list_all sound_row rows) all).1 h

-- the rows, where one was not given
pub one_missing : (rows : List (Option (List ℕ))) (i : ℕ) → i < length rows → is_some (get_or rows i None) ≡ false → all_rows rows ≡ None
one_missing [] i l e = absurd (omega arith)
one_missing (None ∷ rows) i l e = refl
one_missing (Some row ∷ rows) zero l e = cc e
one_missing (Some row ∷ rows) (suc i) l e = ap (option_map (λ rs. row ∷ rs)) (one_missing rows i (omega arith) e)

-- rows that were all given are narrow
pub all_narrow : (given : List (Option (List ℕ))) → list_all sound_row given ≡ true → IfSome (all_rows given) (λ rows. narrow_rows rows ≡ true)
all_narrow [] h = refl
all_narrow (None ∷ given) h = tt
all_narrow (Some row ∷ given) h =
    let parts = and_parts (narrow_row row) (list_all sound_row given) h in
    joined (all_rows given) parts.0 (all_narrow given parts.1)
  where
    joined : (o : Option Rows) → narrow_row row ≡ true → IfSome o (λ rows. narrow_rows rows ≡ true) → IfSome (option_map (λ rs. row ∷ rs) o) (λ rows. narrow_rows rows ≡ true)
    joined None h more = tt
    joined (Some rows) h more = and_from (narrow_row row) (narrow_rows rows) h more

-- what was needed and given
pub needed_given : {X : Type 0} (which : ℕ) (o : Option X) (x : X) → Ok x ≡ needed which o (λ y. Ok y) → o ≡ Some x
needed_given which None x e = absurd (let f : ◌≡◌ {A = ℕ} 0 1 = cc e in omega arith)
needed_given which (Some y) x e = cc e
