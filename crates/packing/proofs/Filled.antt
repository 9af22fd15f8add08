-- From section to section while a file is filled.
use Rattle.std.proofs.Common.{◌≡◌, ℕ, suc, ◌+◌, ◌<◌, ◌≤◌, List, [], ◌∷◌, ◌++◌, map, length, get_or, drop, Ok, Err, sym, refl, ap, ◌∙◌, subst, ap₂, append_assoc, append-nil}
use Rattle.std.proofs.lemmas.List.{length-map, get_or-map, drop_more, drop_all}
use Rattle.std.specs.List.{AllByRecursion}
use Rattle.refusals.specs.Codes.{Code, code_of}
use Rattle.sections.specs.Files.{bodies_from}
use Rattle.sections.specs.Written.{entry_bytes, entries, bodies}
use Rattle.packing.specs.declared.fault.Fault.{Fault}
use Rattle.packing.specs.declared.fault.Fault.TheVariants.{Refused, Memory}
use Rattle.packing.specs.declared.plan.Planned.{Planned}
use Rattle.packing.specs.Plans.{Work, work_of}
use Rattle.packing.specs.Sealing.{Means, fitting, sealed_section, sealed_body}
use Rattle.packing.specs.Packed.{parts, fitting_all, packed_file}
use Rattle.packing.specs.Steps.{Kept, Sealing, FilledAs, Filled}

-- the entries and the bodies, which do not depend on where the bodies lie
abbrev pub entries_of : Means → List Work → List ℕ
entries_of m [] = []
entries_of m (w ∷ ws) = entry_bytes (sealed_section m 0 w) ++ entries_of m ws

abbrev pub bodies_of : Means → List Work → List ℕ
bodies_of m [] = []
bodies_of m (w ∷ ws) = sealed_body m w ++ bodies_of m ws

pub entry_any : (m : Means) (offset : ℕ) (w : Work) → entry_bytes (sealed_section m offset w) ≡ entry_bytes (sealed_section m 0 w)
unfolding sealed_section
entry_any m offset w = refl

pub entries_are : (m : Means) (offset : ℕ) (ws : List Work) → entries (parts m offset ws) ≡ entries_of m ws
entries_are m offset [] = refl
entries_are m offset (w ∷ ws) = ap₂ (λ (a b : List ℕ). a ++ b) (entry_any m offset w) (entries_are m (offset + length w.image) ws)

pub bodies_are : (m : Means) (offset : ℕ) (ws : List Work) → bodies (parts m offset ws) ≡ bodies_of m ws
bodies_are m offset [] = refl
bodies_are m offset (w ∷ ws) = ap (λ (b : List ℕ). sealed_body m w ++ b) (bodies_are m (offset + length w.image) ws)

pub parts_many : (m : Means) (offset : ℕ) (ws : List Work) → length (parts m offset ws) ≡ length ws
parts_many m offset [] = refl
parts_many m offset (w ∷ ws) = ap suc (parts_many m (offset + length w.image) ws)

pub file_parts : (m : Means) (ws : List Work) → packed_file m ws ≡ 1 ∷ length ws ∷ 0 ∷ 0 ∷ (entries_of m ws ++ bodies_of m ws)
unfolding packed_file
file_parts m ws =
    let o : ℕ = bodies_from (length ws) in
    rw (parts_many m o ws, entries_are m o ws, bodies_are m o ws)

-- what is left of the sections, from a place on, gives what all of them give
pub record Held (m : Means) (ws rest : List Work) (place : ℕ) (file text : List ℕ) : Type 0 where
  pub fits : fitting_all 1 ws ≡ fitting_all place rest
  pub table : file ++ entries_of m rest ≡ 1 ∷ length ws ∷ 0 ∷ 0 ∷ entries_of m ws
  pub body : text ++ bodies_of m rest ≡ bodies_of m ws
  pub kept : AllByRecursion (λ w. Kept m w) rest → AllByRecursion (λ w. Kept m w) ws

pub held_first : (m : Means) (ws : List Work) (file text : List ℕ) → file ≡ 1 ∷ length ws ∷ 0 ∷ 0 ∷ [] → text ≡ [] → Held m ws ws 1 file text
held_first m ws file text f t = record {
  fits = refl;
  table = ap (λ (x : List ℕ). x ++ entries_of m ws) f;
  body = ap (λ (x : List ℕ). x ++ bodies_of m ws) t;
  kept = λ k. k;
}

pub held_more : (m : Means) (ws rest more : List Work) (w : Work) (place : ℕ) (file text file' text' entry body : List ℕ) → Held m ws rest place file text → rest ≡ w ∷ more →
    fitting place w ≡ Ok tt → Kept m w → entry ≡ entry_bytes (sealed_section m 0 w) → body ≡ sealed_body m w → file' ≡ file ++ entry → text' ≡ text ++ body →
    Held m ws more (suc place) file' text'
held_more m ws rest more w place file text file' text' entry body h r f k e b g t = record {
  fits = h.fits ∙ (ap (λ (x : List Work). fitting_all place x) r ∙ rw f);
  table = ap (λ (x : List ℕ). x ++ entries_of m more) (g ∙ ap (λ (x : List ℕ). file ++ x) e)
      ∙ (append_assoc file (entry_bytes (sealed_section m 0 w)) (entries_of m more) ∙ (ap (λ (x : List Work). file ++ entries_of m x) (sym r) ∙ h.table));
  body = ap (λ (x : List ℕ). x ++ bodies_of m more) (t ∙ ap (λ (x : List ℕ). text ++ x) b)
      ∙ (append_assoc text (sealed_body m w) (bodies_of m more) ∙ (ap (λ (x : List Work). text ++ bodies_of m x) (sym r) ∙ h.body));
  kept = λ a. h.kept (subst (λ (x : List Work). AllByRecursion (λ w. Kept m w) x) (sym r) (k, a));
}

pub held_bad : (m : Means) (ws rest more : List Work) (w : Work) (place : ℕ) (file text : List ℕ) (e : Code) → Held m ws rest place file text → rest ≡ w ∷ more →
    fitting place w ≡ Err e → fitting_all 1 ws ≡ Err e
held_bad m ws rest more w place file text e h r f = h.fits ∙ (ap (λ (x : List Work). fitting_all place x) r ∙ rw f)

pub held_last : (m : Means) (ws rest : List Work) (place : ℕ) (file text whole : List ℕ) → Held m ws rest place file text → rest ≡ [] → whole ≡ file ++ text → FilledAs m ws whole
held_last m ws rest place file text whole h r e =
    let table : file ≡ 1 ∷ length ws ∷ 0 ∷ 0 ∷ entries_of m ws = sym (append-nil file) ∙ (ap (λ (x : List Work). file ++ entries_of m x) (sym r) ∙ h.table) in
    let body : text ≡ bodies_of m ws = sym (append-nil text) ∙ (ap (λ (x : List Work). text ++ bodies_of m x) (sym r) ∙ h.body) in
    record {
      fits = h.fits ∙ ap (λ (x : List Work). fitting_all place x) r;
      file_is = e ∙ (ap₂ (λ (a b : List ℕ). a ++ b) table body ∙ sym (file_parts m ws));
      kept = h.kept (subst (λ (x : List Work). AllByRecursion (λ w. Kept m w) x) (sym r) tt);
    }

-- a section that is not sealed
pub held_fault : {X : Type 0} (meaning : X → List ℕ) (m : Means) (ws rest more : List Work) (w : Work) (place : ℕ) (file text : List ℕ) (f : Fault) → Held m ws rest place file text → rest ≡ w ∷ more →
    Sealing m place w (Err f) → Filled meaning m ws (Err f)
held_fault meaning m ws rest more w place file text (Refused e) h r s = held_bad m ws rest more w place file text (code_of e) h r s
held_fault meaning m ws rest more w place file text Memory h r s = tt

-- the next section
pub next_work : (xs : List Planned) (i : ℕ) (p : Planned) → i < length xs → p ≡ get_or xs i p → drop i (map work_of xs) ≡ work_of p ∷ drop (i + 1) (map work_of xs)
next_work xs i p l e =
    let long : i < length (map work_of xs) = rw (length-map xs work_of) l in
    drop_more (map work_of xs) i (work_of p) long
    ∙ ap (λ (w : Work). w ∷ drop (i + 1) (map work_of xs)) (get_or-map work_of xs i p (work_of p) l ∙ ap work_of (sym e))

pub no_more : (xs : List Planned) (i : ℕ) → length xs ≤ i → drop i (map work_of xs) ≡ []
no_more xs i l = drop_all i (map work_of xs) (rw (length-map xs work_of) l)
