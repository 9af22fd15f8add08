-- How a file is judged, by cases, and what a packed file is listed as.
use Rattle.std.proofs.Common.{◌≡◌, ℕ, suc, ◌+◌, ◌*◌, ◌<◌, ◌≤◌, Bool, true, false, cond, not, ◌&&◌, eqb, leb, List, [], ◌∷◌, ◌++◌, map, length, get_or, take, drop, Ok, Err, Result, sym, refl, ap, ◌∙◌, ap₂, inl, inr, append_assoc, append-nil, arith, length-append}
use Rattle.std.proofs.lemmas.Bool.{and_from, le-leb, leb-true, leb-false, eq-eqb, cases_Bool}
use Rattle.std.specs.List.{AllByRecursion}
use Rattle.refusals.specs.declared.Reason.TheVariants.{WrongSize, BadPages}
use Rattle.refusals.specs.declared.Layer.TheVariants.{File}
use Rattle.refusals.specs.Codes.{Code, refuse, then}
use Rattle.modes.specs.Modes.{Chaining, deciphered}
use Rattle.description.specs.Judge.{Described as Target}
use Rattle.sections.specs.Entries.{Described, fields_of, judged_fields}
use Rattle.sections.specs.Files.{pages_end, shares_any, paged, entry_of, next_section, listed_from, good_header, bodies_from, listed}
use Rattle.sections.specs.Seals.{chaining_of}
use Rattle.sections.specs.Written.{entry_bytes, body_of}
use Rattle.sections.proofs.Listed.{next_is, table_is, too_long}
use Rattle.sections.proofs.Written.{past, fore, entry_length}
use Rattle.packing.specs.Plans.{Work}
use Rattle.keys.specs.Keys.{Spread, spread, keys_answer}
use Rattle.packing.specs.Sealing.{Means, sealed_section, sealed_body, map_of}
use Rattle.packing.specs.Packed.{parts, packed_file, paged_all, means_of, packed_with, packed}
use Rattle.packing.specs.Laws.{Opened, HoldsFor}
use Rattle.packing.specs.Steps.{Kept, FilledAs}
use Rattle.packing.proofs.Filled.{entries_of, bodies_of, entry_any, file_parts}

-- ---- how a file is judged

pub with_keys : (target : Target) (keys : List ℕ) (ws : List Work) (k : Spread) → Ok k ≡ keys_answer keys → packed target keys ws ≡ packed_with target.page_length target.page_count (means_of target k) ws
with_keys target keys ws k h = rw (← h)

pub keys_are : (keys : List ℕ) (k : Spread) → Ok k ≡ keys_answer keys → k ≡ spread keys
keys_are keys k h =
    elim (cases_Bool (eqb (length keys) 64)) [
      | inl l ↦ (let e = rw l at h in cc)
      | inr l ↦ absurd (let e = rw l at h in cc)
    ]

enough : (ws : List Work) → 1 ≤ length ws → length ws ≤ 8 → (leb 1 (length ws) && leb (length ws) 8) ≡ true
enough ws a b = and_from (leb 1 (length ws)) (leb (length ws) 8) (le-leb 1 (length ws) a) (le-leb (length ws) 8 b)

-- ---- a file that is listed

section_long : (m : Means) (offset : ℕ) (w : Work) → (sealed_section m offset w).length ≡ length w.image
unfolding sealed_section
section_long m offset w = refl

section_at_lem : (m : Means) (offset : ℕ) (w : Work) → (sealed_section m offset w).offset ≡ offset
unfolding sealed_section
section_at_lem m offset w = refl

chain_any : (m : Means) (offset : ℕ) (w : Work) → chaining_of (map_of m w) (sealed_section m offset w) ≡ chaining_of (map_of m w) (sealed_section m 0 w)
unfolding sealed_section
chain_any m offset w = refl

entries_long : (m : Means) (ws : List Work) → length (entries_of m ws) ≡ 32 * length ws
entries_long m [] = refl
entries_long m (w ∷ ws) = omega (arith, length-append (entry_bytes (sealed_section m 0 w)) (entries_of m ws), entry_length (sealed_section m 0 w), entries_long m ws)

abbrev total : List Work → ℕ
total [] = 0
total (w ∷ ws) = length w.image + total ws

bodies_long : (m : Means) (ws : List Work) → AllByRecursion (λ w. Kept m w) ws → length (bodies_of m ws) ≡ total ws
bodies_long m [] k = refl
bodies_long m (w ∷ ws) k = omega (arith, length-append (sealed_body m w) (bodies_of m ws), k.0.long, bodies_long m ws k.1)

-- ---- listing looks at the pages alone

step-paged : (fits : Bool) (s : Described) (e : Code) (rest : Described → Result (List Described) Code) (on : Described → Result Unit Code) (out : List Described) →
    rest s ≡ then (on s) (λ u. Ok out) → then (cond fits (Ok s) (Err e)) rest ≡ then (then (cond fits (Ok s) (Err e)) on) (λ u. Ok out)
step-paged true s e rest on out h = h
step-paged false s e rest on out h = refl

paged_from : (page_length page_count : ℕ) (m : Means) (file front tail : List ℕ) (i offset : ℕ) (earlier : List Described) (ws : List Work) →
    file ≡ front ++ (entries_of m ws ++ tail) → length front ≡ 4 + 32 * i → offset + total ws ≡ length file → AllByRecursion (λ w. Kept m w) ws →
    listed_from page_length page_count file (length ws) i offset earlier
    ≡ then (paged_all page_length page_count (i + 1) earlier (parts m offset ws)) (λ u. Ok (earlier ++ map (λ p. p.section) (parts m offset ws)))
paged_from page_length page_count m file front tail i offset earlier [] e l t k =
    let end : offset ≡ length file = omega arith in
    rw (eq-eqb offset (length file) end, append-nil earlier)
paged_from page_length page_count m file front tail i offset earlier (w ∷ ws) e l t k =
    let s = sealed_section m offset w in
    let n : ℕ = length w.image in
    let own : List ℕ = entry_bytes (sealed_section m 0 w) in
    let wide : length own ≡ 32 = entry_length (sealed_section m 0 w) in
    let split : file ≡ front ++ (own ++ (entries_of m ws ++ tail)) = e ∙ ap (λ (x : List ℕ). front ++ x) (append_assoc own (entries_of m ws) tail) in
    let at : entry_of i file ≡ entry_bytes s =
    ap (λ (x : List ℕ). take 32 (drop (4 + 32 * i) x)) split
    ∙ (ap (λ (x : List ℕ). take 32 x) (past front (own ++ (entries_of m ws ++ tail)) (4 + 32 * i) l)
    ∙ (fore own (entries_of m ws ++ tail) 32 wide ∙ sym (entry_any m offset w))) in
    let room : 4 + 32 * i + 32 ≤ length file = omega (arith, ap length split, length-append front (own ++ (entries_of m ws ++ tail)), length-append own (entries_of m ws ++ tail), wide) in
    let next : next_section page_length page_count file i offset earlier ≡ paged page_length page_count (i + 1) earlier s =
    next_is page_length page_count file i offset earlier room
    ∙ (ap (λ (x : List ℕ). then (judged_fields (i + 1) offset (fields_of x)) (paged page_length page_count (i + 1) earlier)) at
    ∙ ap (λ (r : Result Described Code). then r (paged page_length page_count (i + 1) earlier)) (k.0.judged (i + 1) offset)) in
    let fits : Bool = leb (pages_end page_length s) page_count && not (shares_any page_length s earlier) in
    let rest : Described → Result (List Described) Code = λ d. listed_from page_length page_count file (length ws) (suc i) (offset + d.length) (earlier ++ d ∷ []) in
    let more = parts m (offset + n) ws in
    let on : Described → Result Unit Code = λ d. paged_all page_length page_count (suc (i + 1)) (earlier ++ d ∷ []) more in
    let again : file ≡ (front ++ own) ++ (entries_of m ws ++ tail) = split ∙ sym (append_assoc front own (entries_of m ws ++ tail)) in
    let long : length (front ++ own) ≡ 4 + 32 * suc i = omega (arith, length-append front own, wide) in
    let place : suc i + 1 ≡ suc (i + 1) = omega arith in
    let go : rest s ≡ then (on s) (λ u. Ok (earlier ++ s ∷ map (λ p. p.section) more)) =
    ap (λ (x : ℕ). listed_from page_length page_count file (length ws) (suc i) (offset + x) (earlier ++ s ∷ [])) (section_long m offset w)
    ∙ (paged_from page_length page_count m file (front ++ own) tail (suc i) (offset + n) (earlier ++ s ∷ []) ws again long (omega arith) k.1
    ∙ (ap (λ (x : ℕ). then (paged_all page_length page_count x (earlier ++ s ∷ []) more) (λ u. Ok ((earlier ++ s ∷ []) ++ map (λ p. p.section) more))) place
    ∙ ap (λ (x : List Described). then (on s) (λ u. Ok x)) (append_assoc earlier (s ∷ []) (map (λ p. p.section) more)))) in
    ap (λ (r : Result Described Code). then r rest) next ∙ step-paged fits s (refuse BadPages (i + 1) File) rest on (earlier ++ s ∷ map (λ p. p.section) more) go

listed_is : (page_length page_count : ℕ) (m : Means) (ws : List Work) → 0 < page_length → 1 ≤ length ws → length ws ≤ 8 → AllByRecursion (λ w. Kept m w) ws →
    listed page_length page_count (packed_file m ws)
    ≡ cond (leb (length (packed_file m ws)) 65536)
    (then (paged_all page_length page_count 1 [] (parts m (bodies_from (length ws)) ws)) (λ u. Ok (map (λ p. p.section) (parts m (bodies_from (length ws)) ws))))
    (Err (refuse WrongSize 0 File))
listed_is page_length page_count m ws p a b k =
    let file : List ℕ = packed_file m ws in
    let o : ℕ = bodies_from (length ws) in
    let n : ℕ = length ws in
    let is = file_parts m ws in
    let big : 4 ≤ length file = omega (arith, ap length is) in
    let header : good_header file ≡ true = ap good_header is ∙ and_from (leb 1 n) (leb n 8 && true) (le-leb 1 n a) (and_from (leb n 8) true (le-leb n 8 b) refl) in
    let count : get_or file 1 0 ≡ n = ap (λ (x : List ℕ). get_or x 1 0) is in
    let all : o + total ws ≡ length file = omega (arith, ap length is, length-append (entries_of m ws) (bodies_of m ws), entries_long m ws, bodies_long m ws k) in
    elim (cases_Bool (leb (length file) 65536)) [
      | inl s ↦ rw s (table_is page_length page_count file (λ z. omega arith) big (leb-true (length file) 65536 s) (sym header)
          ∙ (ap (λ (x : ℕ). listed_from page_length page_count file x 0 (bodies_from x) []) count
          ∙ paged_from page_length page_count m file (1 ∷ n ∷ 0 ∷ 0 ∷ []) (bodies_of m ws) 0 o [] ws is refl all k))
      | inr s ↦ rw s (too_long page_length page_count file (λ z. omega arith) big (leb-false (length file) 65536 s))
    ]

-- a file that is listed is granted
abbrev pub granted : Result (List Described) Code → List ℕ → Result (List ℕ) Code
granted (Ok ss) file = Ok file
granted (Err e) file = Err e

regrant : (b : Bool) (r : Result Unit Code) (e : Code) (ss : List Described) (file : List ℕ) →
    granted (cond b (then r (λ u. Ok ss)) (Err e)) file ≡ cond b (then r (λ u. Ok file)) (Err e)
regrant true (Ok u) e ss file = refl
regrant true (Err x) e ss file = refl
regrant false (Ok u) e ss file = refl
regrant false (Err x) e ss file = refl

pub as_listed : (page_length page_count : ℕ) (m : Means) (ws : List Work) (file : List ℕ) (r : Result (List Described) Code) → 0 < page_length → 1 ≤ length ws → length ws ≤ 8 → FilledAs m ws file →
    r ≡ listed page_length page_count file → packed_with page_length page_count m ws ≡ granted r file
as_listed page_length page_count m ws file r p a b f h =
    let made : List ℕ = packed_file m ws in
    let ps = parts m (bodies_from (length ws)) ws in
    let fits = f.fits in
    let got : r ≡ cond (leb (length made) 65536) (then (paged_all page_length page_count 1 [] ps) (λ u. Ok (map (λ p. p.section) ps))) (Err (refuse WrongSize 0 File))
    = h ∙ (ap (λ (x : List ℕ). listed page_length page_count x) f.file_is ∙ listed_is page_length page_count m ws p a b f.kept) in
    rw (enough ws a b, fits)
    (sym (ap₂ (λ (x : Result (List Described) Code) (y : List ℕ). granted x y) got f.file_is
    ∙ regrant (leb (length made) 65536) (paged_all page_length page_count 1 [] ps) (refuse WrongSize 0 File) (map (λ p. p.section) ps) made))

same_listed : (b : Bool) (r : Result Unit Code) (e : Code) (ss got : List Described) → Ok got ≡ cond b (then r (λ u. Ok ss)) (Err e) → got ≡ ss
same_listed true (Ok u) e ss got h = cc
same_listed true (Err x) e ss got h = absurd (cc)
same_listed false r e ss got h = absurd (cc)

-- the body of each section opens to its image
opened : (m : Means) (offset : ℕ) (file front : List ℕ) (ws : List Work) → file ≡ front ++ bodies_of m ws → length front ≡ offset → AllByRecursion (λ w. Kept m w) ws → Opened m offset file ws
opened m offset file front [] e l k = tt
opened m offset file front (w ∷ ws) e l k =
    let s = sealed_section m offset w in
    let body : List ℕ = sealed_body m w in
    let n : ℕ = length w.image in
    let here : body_of s file ≡ body =
    ap₂ (λ (a b : ℕ). take a (drop b file)) (section_long m offset w) (section_at_lem m offset w)
    ∙ (ap (λ (x : List ℕ). take n (drop offset x)) e
    ∙ (ap (λ (x : List ℕ). take n x) (past front (body ++ bodies_of m ws) offset l) ∙ fore body (bodies_of m ws) n k.0.long)) in
    let again : file ≡ (front ++ body) ++ bodies_of m ws = e ∙ sym (append_assoc front body (bodies_of m ws)) in
    let long : length (front ++ body) ≡ offset + n = omega (arith, length-append front body, k.0.long) in
    (ap₂ (λ (c : Chaining) (x : List ℕ). deciphered c x) (chain_any m offset w) here ∙ k.0.opens, opened m (offset + n) file (front ++ body) ws again long k.1)

pub holds_for : (page_length page_count : ℕ) (m : Means) (ws : List Work) (file : List ℕ) (ss : List Described) → 0 < page_length → 1 ≤ length ws → length ws ≤ 8 → FilledAs m ws file →
    Ok ss ≡ listed page_length page_count file → HoldsFor page_length page_count m ws file
holds_for page_length page_count m ws file ss p a b f h =
    let o : ℕ = bodies_from (length ws) in
    let is = f.file_is in
    let planned = map (λ p. p.section) (parts m o ws) in
    let same : ss ≡ planned
    = same_listed (leb (length (packed_file m ws)) 65536) (paged_all page_length page_count 1 [] (parts m o ws)) (refuse WrongSize 0 File) planned ss
    (h ∙ (ap (λ (x : List ℕ). listed page_length page_count x) is ∙ listed_is page_length page_count m ws p a b f.kept)) in
    record {
      lists = sym h ∙ ap (λ (x : List Described). Ok x) same;
      opens = opened m o file (1 ∷ length ws ∷ 0 ∷ 0 ∷ entries_of m ws) ws (is ∙ file_parts m ws) (omega (arith, entries_long m ws)) f.kept;
    }
