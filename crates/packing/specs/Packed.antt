-- A download file packed for a target, or the first refusal.
use Rattle.std.specs.Prelude.{◌≡◌, ℕ, suc, ◌+◌, cond, ◌&&◌, List, [], ◌∷◌, ◌++◌, length, Ok, Err, Result, nat_le}
use Rattle.refusals.specs.declared.Reason.TheVariants.{WrongSize, BadField}
use Rattle.refusals.specs.declared.Layer.TheVariants.{File}
use Rattle.refusals.specs.Codes.{Code, refuse, code_of, then}
use Rattle.description.specs.Judge.{Described as Target}
use Rattle.sections.specs.Entries.{Described}
use Rattle.sections.specs.Files.{paged, bodies_from}
use Rattle.sections.specs.Written.{Part, written}
use Rattle.packing.specs.declared.fault.Fault.{Fault}
use Rattle.packing.specs.declared.fault.Fault.TheVariants.{Refused, Memory}
use Rattle.packing.specs.Plans.{Work}
use Rattle.keys.specs.Keys.{Spread, keys_answer}
use Rattle.packing.specs.Sealing.{Means, fitting, part_of}

-- the sections with their bodies, one after the other from an offset on
abbrev pub parts : Means → ℕ → List Work → List Part
parts m offset [] = []
parts m offset (w ∷ ws) = part_of m offset w ∷ parts m (offset + length w.image) ws

-- every section is judged, from a place on
abbrev pub fitting_all : ℕ → List Work → Result Unit Code
fitting_all place [] = Ok tt
fitting_all place (w ∷ ws) = then (fitting place w) (λ u. fitting_all (suc place) ws)

-- the header, the entries, the bodies
unfoldable pub packed_file : Means → List Work → List ℕ
packed_file m ws = written (parts m (bodies_from (length ws)) ws)

-- the pages of each section are on the target, and shared with no earlier section
abbrev pub paged_all : ℕ → ℕ → ℕ → List Described → List Part → Result Unit Code
paged_all page_length page_count place earlier [] = Ok tt
paged_all page_length page_count place earlier (p ∷ ps) =
    then (paged page_length page_count place earlier p.section) (λ s. paged_all page_length page_count (suc place) (earlier ++ s ∷ []) ps)

abbrev pub means_of : Target → Spread → Means
means_of target keys = record { rows = target.rows; keys = keys }

-- 1 to 8 sections, each judged by itself; then the size of the file; then the pages
abbrev pub packed_with : ℕ → ℕ → Means → List Work → Result (List ℕ) Code
packed_with page_length page_count m ws =
    cond (nat_le 1 (length ws) && nat_le (length ws) 8)
    (then (fitting_all 1 ws) (λ u.
    cond (nat_le (length (packed_file m ws)) 65536)
    (then (paged_all page_length page_count 1 [] (parts m (bodies_from (length ws)) ws)) (λ v. Ok (packed_file m ws)))
    (Err (refuse WrongSize 0 File))))
    (Err (refuse BadField 0 File))

-- the keys come first
abbrev pub packed : Target → List ℕ → List Work → Result (List ℕ) Code
packed target keys ws = then (keys_answer keys) (λ k. packed_with target.page_length target.page_count (means_of target k) ws)

-- the answer of a call, unless there is no memory
abbrev pub Answers : {X Y : Type 0} → (X → Y) → Result X Fault → Result Y Code → Type 0
Answers meaning (Ok x) expected = Ok (meaning x) ≡ expected
Answers meaning (Err (Refused e)) expected = Err (code_of e) ≡ expected
Answers meaning (Err Memory) expected = Unit {0}

-- what is known where there is no memory
abbrev pub fault_knows : Fault → Type 0 → Type 0
fault_knows (Refused e) known = Unit {0}
fault_knows Memory known = known

abbrev pub Wanting : {X : Type 0} → Result X Fault → Type 0 → Type 0
Wanting (Ok x) known = Unit {0}
Wanting (Err f) known = fault_knows f known
