-- Listing what was written.
use Rattle.std.proofs.Common.{◌≡◌, ℕ, suc, ◌+◌, ◌*◌, ◌^◌, ◌<◌, ◌≤◌, true, false, ◌&&◌, ltb, leb, List, [], ◌∷◌, ◌++◌, map, length, take, drop, Some, None, Ok, Option, Result, sym, refl, ap, ◌∙◌, subst, ap₂, inl, inr, append_assoc, append-nil, arith, length-append, pow_mono}
use Rattle.std.specs.List.{AllByRecursion}
use Rattle.std.proofs.Math.Seq.{take-append_seam, drop-append_seam}
use Rattle.std.proofs.lemmas.Bool.{and_from, and_left, and_right, or_from, lt-ltb, le-ltb, le-leb, eq-eqb, false≢true}
use Rattle.refusals.specs.Codes.{Code, then}
use Rattle.blocks.specs.Bytes.{word, bytes_of}
use Rattle.blocks.proofs.Words.{word_bytes}
use Rattle.modes.specs.declared.mode.Mode.{Mode}
use Rattle.modes.specs.declared.mode.Mode.TheVariants.{Codebook, Counter, Feedback}
use Rattle.modes.specs.declared.mode.Sync.{Sync}
use Rattle.modes.specs.Calls.{agrees, whole_in}
use Rattle.sections.specs.declared.kind.CipherKind.{CipherKind}
use Rattle.sections.specs.declared.kind.CipherKind.TheVariants.{Gost, Kuznyechik}
use Rattle.sections.specs.declared.fields.Fields.{Fields}
use Rattle.sections.specs.Images.{block_length, allowed_image}
use Rattle.sections.specs.Entries.{Described, fields_of, cipher_named, mode_named, good_tag, good_sync, sync_in, good_fields, good_length, described, judged_fields}
use Rattle.sections.specs.Files.{pages_end, shares, shares_any, entry_of, next_section, listed_from, good_header, bodies_from}
use Rattle.sections.specs.Written.{Part, cipher_byte, mode_byte, sync_field, entry_bytes, entries, bodies, written, SyncFits, Apart, Good, Laid, body_of, ListsWritten}
use Rattle.sections.proofs.Judged.{as_named, good}
use Rattle.sections.proofs.Listed.{next_good, table_is}

-- ---- an entry is read back

abbrev first_in : Option Sync → ℕ
first_in None = 0
first_in (Some s) = s.first

abbrev second_in : Option Sync → ℕ
second_in None = 0
second_in (Some s) = s.second

pub cipher_back : (c : CipherKind) → Some c ≡ cipher_named (cipher_byte c)
cipher_back Gost = refl
cipher_back Kuznyechik = refl

pub mode_back : (m : Mode) → Some m ≡ mode_named (mode_byte m)
mode_back Codebook = refl
mode_back Counter = refl
mode_back Feedback = refl

sync_back : (n : ℕ) (m : Mode) (sync : Option Sync) → agrees n m sync ≡ true → sync_in m (first_in sync) (second_in sync) ≡ sync
sync_back n Codebook None h = refl
sync_back n Codebook (Some s) h = absurd (false≢true h)
sync_back n Counter None h = absurd (false≢true h)
sync_back n Counter (Some s) h = refl
sync_back n Feedback None h = absurd (false≢true h)
sync_back n Feedback (Some s) h = refl

sync_good : (c : CipherKind) (m : Mode) (sync : Option Sync) → agrees (block_length c) m sync ≡ true → SyncFits c sync → good_sync c m (first_in sync) (second_in sync) ≡ true
sync_good Gost Codebook None h f = refl
sync_good Gost Codebook (Some s) h f = absurd (false≢true h)
sync_good Gost Counter None h f = absurd (false≢true h)
sync_good Gost Counter (Some s) h f = eq-eqb s.second 0 (f.2 refl)
sync_good Gost Feedback None h f = absurd (false≢true h)
sync_good Gost Feedback (Some s) h f = eq-eqb s.second 0 (f.2 refl)
sync_good Kuznyechik Codebook None h f = refl
sync_good Kuznyechik Codebook (Some s) h f = absurd (false≢true h)
sync_good Kuznyechik Counter None h f = absurd (false≢true h)
sync_good Kuznyechik Counter (Some s) h f = absurd (false≢true h)
sync_good Kuznyechik Feedback None h f = absurd (false≢true h)
sync_good Kuznyechik Feedback (Some s) h f = refl

-- the entry and the fields with another sync
abbrev bytes_with : Described → Option Sync → List ℕ
bytes_with s sync =
    cipher_byte s.cipher ∷ mode_byte s.mode ∷ s.bits ∷ 0
    ∷ (bytes_of 2 s.first_page ++ (0 ∷ 0 ∷ (bytes_of 4 s.length ++ (sync_field sync ++ bytes_of 4 s.tag))))

abbrev fields_by : Described → ℕ → ℕ → ℕ → ℕ → ℕ → Fields
fields_by s page long first second tag = record {
  cipher = cipher_byte s.cipher;
  mode = mode_byte s.mode;
  bits = s.bits;
  zero = 0;
  first_page = page;
  zeros = 0;
  length = long;
  first = first;
  second = second;
  tag = tag;
}

abbrev fields_in : Described → Option Sync → Fields
fields_in s sync = fields_by s s.first_page s.length (first_in sync) (second_in sync) s.tag

pub five : (mk : ℕ → ℕ → ℕ → ℕ → ℕ → Fields) (a b c d e u v w x y : ℕ) → a ≡ u → b ≡ v → c ≡ w → d ≡ x → e ≡ y → mk a b c d e ≡ mk u v w x y
five mk a b c d e u v w x y p q r s t = rw (p, q, r, s, t)

fields_back : (s : Described) (sync : Option Sync) → s.first_page < 65536 → s.length < 4294967296 → s.tag < 4294967296 → SyncFits s.cipher sync → fields_of (bytes_with s sync) ≡ fields_in s sync
unfolding fields_of
fields_back s None p l t f =
    five (fields_by s) (word (bytes_of 2 s.first_page)) (word (bytes_of 4 s.length)) 0 0 (word (bytes_of 4 s.tag)) s.first_page s.length 0 0 s.tag
    (word_bytes 2 s.first_page p) (word_bytes 4 s.length l) refl refl (word_bytes 4 s.tag t)
fields_back s (Some y) p l t f =
    five (fields_by s) (word (bytes_of 2 s.first_page)) (word (bytes_of 4 s.length)) (word (bytes_of 8 y.first)) (word (bytes_of 8 y.second)) (word (bytes_of 4 s.tag)) s.first_page s.length y.first y.second s.tag
    (word_bytes 2 s.first_page p) (word_bytes 4 s.length l) (word_bytes 8 y.first f.0) (word_bytes 8 y.second f.1) (word_bytes 4 s.tag t)

judged_back : (page_length page_count offset : ℕ) (earlier : List Described) (p : Part) (place : ℕ) → Good page_length page_count offset earlier p →
    judged_fields place p.section.offset (fields_of (entry_bytes p.section)) ≡ Ok p.section
judged_back page_length page_count offset earlier p place g =
    let s = p.section in
    let f = fields_in s s.sync in
    let wide = pow_mono {i = s.bits} {j = 32} g.bits.1 in
    let low : s.tag < 4294967296 = omega (arith, g.tag, wide) in
    let short : s.length < 4294967296 = omega (arith, g.allowed.1) in
    let tag : good_tag s.bits s.tag ≡ true =
    and_from (leb 1 s.bits) (leb s.bits 32 && ltb s.tag (2 ^ s.bits)) (le-leb 1 s.bits g.bits.0)
    (and_from (leb s.bits 32) (ltb s.tag (2 ^ s.bits)) (le-leb s.bits 32 g.bits.1) (lt-ltb s.tag (2 ^ s.bits) g.tag)) in
    let fields : good_fields s.cipher s.mode f ≡ true =
    and_from (good_tag s.bits s.tag) (good_sync s.cipher s.mode (first_in s.sync) (second_in s.sync)) tag (sync_good s.cipher s.mode s.sync g.agreed g.sync) in
    let long : good_length s.cipher s.mode s.length ≡ true =
    and_from (allowed_image s.length) (whole_in s.mode (block_length s.cipher) s.length)
    (and_from (leb 9 s.length) (leb s.length 16384) (le-leb 9 s.length g.allowed.0) (le-leb s.length 16384 g.allowed.1)) g.whole in
    let by : Option Sync → Described = λ y. record { cipher = s.cipher; mode = s.mode; bits = s.bits; first_page = s.first_page; length = s.length; sync = y; tag = s.tag; offset = s.offset } in
    let same : described s.cipher s.mode f s.offset ≡ s = ap by (sync_back (block_length s.cipher) s.mode s.sync g.agreed) in
    ap (λ (x : Fields). judged_fields place s.offset x) (fields_back s s.sync g.page short low g.sync)
    ∙ (as_named place s.offset f s.cipher s.mode (cipher_back s.cipher) (mode_back s.mode)
    ∙ (good place s.offset f s.cipher s.mode (sym fields) (sym long) ∙ ap (λ (d : Described). Ok d) same))

-- ---- its pages

apart_false : (page_length : ℕ) (s t : Described) → Apart page_length s t → shares page_length s t ≡ false
apart_false page_length s t (inl h) = and_right (ltb s.first_page (pages_end page_length t)) (ltb t.first_page (pages_end page_length s)) (le-ltb t.first_page (pages_end page_length s) h)
apart_false page_length s t (inr h) = and_left (ltb s.first_page (pages_end page_length t)) (ltb t.first_page (pages_end page_length s)) (le-ltb s.first_page (pages_end page_length t) h)

all_apart : (page_length : ℕ) (s : Described) (ts : List Described) → AllByRecursion (λ t. Apart page_length s t) ts → shares_any page_length s ts ≡ false
all_apart page_length s [] h = refl
all_apart page_length s (t ∷ ts) h = or_from (shares page_length s t) (shares_any page_length s ts) (apart_false page_length s t h.0) (all_apart page_length s ts h.1)

-- ---- from entry to entry

with_length : (s : Described) (sync : Option Sync) → length (bytes_with s sync) ≡ 32
with_length s None = refl
with_length s (Some y) = refl

pub entry_length : (s : Described) → length (entry_bytes s) ≡ 32
entry_length s = with_length s s.sync

pub past : (front rest : List ℕ) (n : ℕ) → length front ≡ n → drop n (front ++ rest) ≡ rest
past front rest n h = subst (λ (k : ℕ). drop k (front ++ rest) ≡ rest) h (drop-append_seam front rest)

pub fore : (front rest : List ℕ) (n : ℕ) → length front ≡ n → take n (front ++ rest) ≡ front
fore front rest n h = subst (λ (k : ℕ). take k (front ++ rest) ≡ front) h (take-append_seam front rest)

next_written : (page_length page_count : ℕ) (file front tail : List ℕ) (i offset : ℕ) (earlier : List Described) (p : Part) →
    file ≡ front ++ (entry_bytes p.section ++ tail) → length front ≡ 4 + 32 * i → Good page_length page_count offset earlier p →
    next_section page_length page_count file i offset earlier ≡ Ok p.section
next_written page_length page_count file front tail i offset earlier p e l g =
    let s = p.section in
    let entry : entry_of i file ≡ entry_bytes s =
    ap (λ (x : List ℕ). take 32 (drop (4 + 32 * i) x)) e
    ∙ (ap (λ (x : List ℕ). take 32 x) (past front (entry_bytes s ++ tail) (4 + 32 * i) l) ∙ fore (entry_bytes s) tail 32 (entry_length s)) in
    let room : 4 + 32 * i + 32 ≤ length file = omega (arith, ap length e, length-append front (entry_bytes s ++ tail), length-append (entry_bytes s) tail, entry_length s) in
    let judged : judged_fields (i + 1) offset (fields_of (entry_of i file)) ≡ Ok s =
    ap (λ (x : List ℕ). judged_fields (i + 1) offset (fields_of x)) entry
    ∙ (ap (λ (o : ℕ). judged_fields (i + 1) o (fields_of (entry_bytes s))) (sym g.place) ∙ judged_back page_length page_count offset earlier p (i + 1) g) in
    next_good page_length page_count file i offset earlier s room judged g.target (all_apart page_length s earlier g.apart)

abbrev total : List Part → ℕ
total [] = 0
total (p ∷ ps) = p.section.length + total ps

listed_rest : (page_length page_count : ℕ) (file front tail : List ℕ) (i offset : ℕ) (earlier : List Described) (ps : List Part) →
    file ≡ front ++ (entries ps ++ tail) → length front ≡ 4 + 32 * i → offset + total ps ≡ length file → Laid page_length page_count offset earlier ps →
    listed_from page_length page_count file (length ps) i offset earlier ≡ Ok (earlier ++ map (λ p. p.section) ps)
listed_rest page_length page_count file front tail i offset earlier [] e l t h =
    let end : offset ≡ length file = omega arith in
    rw (eq-eqb offset (length file) end, append-nil earlier)
listed_rest page_length page_count file front tail i offset earlier (p ∷ ps) e l t h =
    let s = p.section in
    let split : file ≡ front ++ (entry_bytes s ++ (entries ps ++ tail)) = e ∙ ap (λ (x : List ℕ). front ++ x) (append_assoc (entry_bytes s) (entries ps) tail) in
    let next = next_written page_length page_count file front (entries ps ++ tail) i offset earlier p split l h.0 in
    let again : file ≡ (front ++ entry_bytes s) ++ (entries ps ++ tail) = split ∙ sym (append_assoc front (entry_bytes s) (entries ps ++ tail)) in
    let long : length (front ++ entry_bytes s) ≡ 4 + 32 * suc i = omega (arith, length-append front (entry_bytes s), entry_length s) in
    let rest = listed_rest page_length page_count file (front ++ entry_bytes s) tail (suc i) (offset + s.length) (earlier ++ s ∷ []) ps again long (omega arith) h.1 in
    ap (λ (r : Result Described Code). then r (λ d. listed_from page_length page_count file (length ps) (suc i) (offset + d.length) (earlier ++ d ∷ []))) next
    ∙ (rest ∙ ap (λ (ds : List Described). Ok ds) (append_assoc earlier (s ∷ []) (map (λ q. q.section) ps)))

-- ---- the whole file

entries-length : (ps : List Part) → length (entries ps) ≡ 32 * length ps
entries-length [] = refl
entries-length (p ∷ ps) = omega (arith, length-append (entry_bytes p.section) (entries ps), entry_length p.section, entries-length ps)

bodies-length : (page_length page_count offset : ℕ) (earlier : List Described) (ps : List Part) → Laid page_length page_count offset earlier ps → length (bodies ps) ≡ total ps
bodies-length page_length page_count offset earlier [] h = refl
bodies-length page_length page_count offset earlier (p ∷ ps) h =
    omega (arith, length-append p.body (bodies ps), h.0.body, bodies-length page_length page_count (offset + p.section.length) (earlier ++ p.section ∷ []) ps h.1)

-- each body lies where its section says
found : (page_length page_count offset : ℕ) (earlier : List Described) (file front : List ℕ) (ps : List Part) → file ≡ front ++ bodies ps → length front ≡ offset →
    Laid page_length page_count offset earlier ps → AllByRecursion (λ p. body_of p.section file ≡ p.body) ps
found page_length page_count offset earlier file front [] e l h = tt
found page_length page_count offset earlier file front (p ∷ ps) e l h =
    let g = h.0 in
    let n : ℕ = length p.body in
    let here : body_of p.section file ≡ p.body =
    ap₂ (λ (k o : ℕ). take k (drop o file)) (sym g.body) g.place
    ∙ (ap (λ (x : List ℕ). take n (drop offset x)) e
    ∙ (ap (λ (x : List ℕ). take n x) (past front (p.body ++ bodies ps) offset l) ∙ fore p.body (bodies ps) n refl)) in
    let again : file ≡ (front ++ p.body) ++ bodies ps = e ∙ sym (append_assoc front p.body (bodies ps)) in
    let long : length (front ++ p.body) ≡ offset + p.section.length = omega (arith, length-append front p.body, g.body) in
    (here, found page_length page_count (offset + p.section.length) (earlier ++ p.section ∷ []) file (front ++ p.body) ps again long h.1)

pub lists_written : ListsWritten
lists_written page_length page_count ps long some few small laid =
    let file = written ps in
    let n : ℕ = length ps in
    let all : length (entries ps ++ bodies ps) ≡ 32 * n + total ps = omega (arith, length-append (entries ps) (bodies ps), entries-length ps, bodies-length page_length page_count (bodies_from n) [] ps laid) in
    let header : good_header file ≡ true = and_from (leb 1 n) (leb n 8 && true) (le-leb 1 n some) (and_from (leb n 8) true (le-leb n 8 few) refl) in (
      table_is page_length page_count file (λ z. omega arith) (omega arith) small (sym header)
          ∙ listed_rest page_length page_count file (1 ∷ n ∷ 0 ∷ 0 ∷ []) (bodies ps) 0 (bodies_from n) [] ps refl refl (omega arith) laid,
      found page_length page_count (bodies_from n) [] file (1 ∷ n ∷ 0 ∷ 0 ∷ entries ps) ps refl (omega (arith, entries-length ps)) laid,
    )
