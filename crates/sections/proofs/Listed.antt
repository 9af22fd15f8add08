-- Steps of listing a file.
use Rattle.std.proofs.Common.{◌≡◌, ℕ, suc, ◌+◌, ◌-◌, ◌*◌, ◌<◌, ◌≤◌, true, false, leb, List, [], ◌∷◌, ◌++◌, length, get_or, Ok, Err, arith}
use Rattle.std.proofs.lemmas.Bool.{and_parts, leb-true, le-leb, lt-leb, ne_eqb}
use Rattle.refusals.specs.declared.Reason.TheVariants.{WrongSize}
use Rattle.refusals.specs.declared.Layer.TheVariants.{File}
use Rattle.refusals.specs.Codes.{Code, refuse, then}
use Rattle.sections.specs.Images.{allowed_image}
use Rattle.sections.specs.Entries.{Described, fields_of, judged_fields}
use Rattle.sections.specs.Files.{pages_end, shares_any, paged, entry_of, next_section, listed_from, good_header, bodies_from, listed}

-- ---- the next section

pub next_is : (page_length page_count : ℕ) (file : List ℕ) (i offset : ℕ) (earlier : List Described) → 4 + 32 * i + 32 ≤ length file →
    next_section page_length page_count file i offset earlier ≡ then (judged_fields (i + 1) offset (fields_of (entry_of i file))) (paged page_length page_count (i + 1) earlier)
unfolding next_section
next_is page_length page_count file i offset earlier h = rw (le-leb (4 + 32 * i + 32) (length file) h)

-- a section that its fields give, with its pages on the target and its own
pub next_good : (page_length page_count : ℕ) (file : List ℕ) (i offset : ℕ) (earlier : List Described) (s : Described) → 4 + 32 * i + 32 ≤ length file →
    judged_fields (i + 1) offset (fields_of (entry_of i file)) ≡ Ok s → pages_end page_length s ≤ page_count → shares_any page_length s earlier ≡ false →
    next_section page_length page_count file i offset earlier ≡ Ok s
next_good page_length page_count file i offset earlier s h j p a =
    rw (next_is page_length page_count file i offset earlier h, j, le-leb (pages_end page_length s) page_count p, a)

-- ---- from entry to entry

pub one_more : (page_length page_count : ℕ) (file : List ℕ) (count i offset : ℕ) (earlier : List Described) (s : Described) → i < count →
    Ok s ≡ next_section page_length page_count file i offset earlier →
    listed_from page_length page_count file (count - i) i offset earlier ≡ listed_from page_length page_count file (count - (i + 1)) (i + 1) (offset + s.length) (earlier ++ s ∷ [])
one_more page_length page_count file count i offset earlier s l h =
    let e : count - i ≡ suc (count - (i + 1)) = omega arith in
    let f : suc i ≡ i + 1 = omega arith in
    rw (e, ← h, f)

pub one_bad : (page_length page_count : ℕ) (file : List ℕ) (count i offset : ℕ) (earlier : List Described) (e : Code) → i < count →
    Err e ≡ next_section page_length page_count file i offset earlier →
    listed_from page_length page_count file (count - i) i offset earlier ≡ Err e
one_bad page_length page_count file count i offset earlier e l h =
    let f : count - i ≡ suc (count - (i + 1)) = omega arith in
    rw (f, ← h)

pub short_enough : (n : ℕ) → allowed_image n ≡ true → n ≤ 16384
short_enough n h = leb-true n 16384 (and_parts (leb 9 n) (leb n 16384) h).1

-- ---- the whole file

pub too_long : (page_length page_count : ℕ) (file : List ℕ) → (page_length ≡ 0 → ⊥) → 4 ≤ length file → 65536 < length file → listed page_length page_count file ≡ Err (refuse WrongSize 0 File)
unfolding listed
too_long page_length page_count file p h k = rw (ne_eqb page_length 0 p, le-leb 4 (length file) h, lt-leb (length file) 65536 k)

pub table_is : (page_length page_count : ℕ) (file : List ℕ) → (page_length ≡ 0 → ⊥) → 4 ≤ length file → length file ≤ 65536 → true ≡ good_header file →
    listed page_length page_count file ≡ listed_from page_length page_count file (get_or file 1 0) 0 (bodies_from (get_or file 1 0)) []
unfolding listed
table_is page_length page_count file p h k g = rw (ne_eqb page_length 0 p, le-leb 4 (length file) h, le-leb (length file) 65536 k, ← g)
