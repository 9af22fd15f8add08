-- The entry of a plan, as listing and sealing judge it.
use Rattle.std.proofs.Common.{◌≡◌, ℕ, ◌^◌, ◌<◌, ◌≤◌, Bool, true, cond, ◌&&◌, ltb, leb, length, Ok, Err, Result, refl, ap, ◌∙◌, arith, pow_mono}
use Rattle.std.proofs.lemmas.Bool.{and_parts, and_from, eq-eqb, lt-ltb, leb-true}
use Rattle.refusals.specs.declared.Reason.TheVariants.{BadField, BadLength}
use Rattle.refusals.specs.declared.Layer.TheVariants.{File}
use Rattle.refusals.specs.Codes.{Code, refuse}
use Rattle.blocks.specs.Bytes.{word, bytes_of}
use Rattle.blocks.proofs.Words.{word_bytes}
use Rattle.sections.specs.declared.kind.CipherKind.{CipherKind}
use Rattle.sections.specs.declared.kind.CipherKind.TheVariants.{Gost, Kuznyechik}
use Rattle.sections.specs.declared.fields.Fields.{Fields}
use Rattle.sections.specs.Images.{block_length}
use Rattle.sections.specs.Entries.{Described, fields_of, cipher_named, good_tag, good_sync, good_length, described, judged_fields}
use Rattle.sections.specs.Seals.{sized, seal_answer, tagged}
use Rattle.sections.specs.Written.{cipher_byte, mode_byte, entry_bytes}
use Rattle.sections.proofs.Judged.{as_named}
use Rattle.sections.proofs.Written.{five, cipher_back, mode_back}
use Rattle.packing.specs.declared.plan.PlannedMode.{PlannedMode}
use Rattle.packing.specs.declared.plan.PlannedMode.TheVariants.{Codebook, Counter, Feedback}
use Rattle.packing.specs.declared.plan.Plan.{Plan}
use Rattle.packing.specs.Plans.{mode_in, sync_words, section_of}
use Rattle.packing.specs.Steps.{PlanFits}
use Rattle.packing.specs.Sealing.{good_plan}

-- the fields of a plan's entry
abbrev pub fields_for : Plan → ℕ → ℕ → Fields
fields_for plan n tag = record {
  cipher = cipher_byte plan.cipher;
  mode = mode_byte (mode_in plan.mode);
  bits = plan.bits;
  zero = 0;
  first_page = plan.first_page;
  zeros = 0;
  length = n;
  first = (sync_words plan.mode).first;
  second = (sync_words plan.mode).second;
  tag = tag;
}

abbrev plan_of : CipherKind → PlannedMode → ℕ → ℕ → Plan
plan_of cipher mode bits page = record { cipher = cipher; mode = mode; bits = bits; first_page = page }

abbrev fields_by : CipherKind → PlannedMode → ℕ → ℕ → ℕ → ℕ → ℕ → ℕ → Fields
fields_by cipher mode bits page long first second tag = record {
  cipher = cipher_byte cipher;
  mode = mode_byte (mode_in mode);
  bits = bits;
  zero = 0;
  first_page = page;
  zeros = 0;
  length = long;
  first = first;
  second = second;
  tag = tag;
}

by_mode : (cipher : CipherKind) (mode : PlannedMode) (bits page n tag offset : ℕ) → page < 65536 → n < 4294967296 → tag < 4294967296 →
    (sync_words mode).first < 256 ^ 8 → (sync_words mode).second < 256 ^ 8 →
    fields_of (entry_bytes (section_of (plan_of cipher mode bits page) n tag offset)) ≡ fields_for (plan_of cipher mode bits page) n tag
unfolding fields_of
by_mode cipher Codebook bits page n tag offset p l t f s =
    five (fields_by cipher Codebook bits) (word (bytes_of 2 page)) (word (bytes_of 4 n)) 0 0 (word (bytes_of 4 tag)) page n 0 0 tag
    (word_bytes 2 page p) (word_bytes 4 n l) refl refl (word_bytes 4 tag t)
by_mode cipher (Counter y) bits page n tag offset p l t f s =
    five (fields_by cipher (Counter y) bits) (word (bytes_of 2 page)) (word (bytes_of 4 n)) (word (bytes_of 8 y.first)) (word (bytes_of 8 y.second)) (word (bytes_of 4 tag)) page n y.first y.second tag
    (word_bytes 2 page p) (word_bytes 4 n l) (word_bytes 8 y.first f) (word_bytes 8 y.second s) (word_bytes 4 tag t)
by_mode cipher (Feedback y) bits page n tag offset p l t f s =
    five (fields_by cipher (Feedback y) bits) (word (bytes_of 2 page)) (word (bytes_of 4 n)) (word (bytes_of 8 y.first)) (word (bytes_of 8 y.second)) (word (bytes_of 4 tag)) page n y.first y.second tag
    (word_bytes 2 page p) (word_bytes 4 n l) (word_bytes 8 y.first f) (word_bytes 8 y.second s) (word_bytes 4 tag t)

fields_back : (plan : Plan) (n tag offset : ℕ) → PlanFits plan → n < 4294967296 → tag < 4294967296 → fields_of (entry_bytes (section_of plan n tag offset)) ≡ fields_for plan n tag
fields_back plan n tag offset f l t = by_mode plan.cipher plan.mode plan.bits plan.first_page n tag offset f.page l t f.first f.second

same_mode : (cipher : CipherKind) (mode : PlannedMode) (bits page n tag offset : ℕ) →
    described cipher (mode_in mode) (fields_for (plan_of cipher mode bits page) n tag) offset ≡ section_of (plan_of cipher mode bits page) n tag offset
same_mode cipher Codebook bits page n tag offset = refl
same_mode cipher (Counter s) bits page n tag offset = refl
same_mode cipher (Feedback s) bits page n tag offset = refl

as_planned : (plan : Plan) (n tag place offset : ℕ) → judged_fields place offset (fields_for plan n tag)
    ≡ cond (good_tag plan.bits tag && good_sync plan.cipher (mode_in plan.mode) (sync_words plan.mode).first (sync_words plan.mode).second)
    (cond (good_length plan.cipher (mode_in plan.mode) n) (Ok (section_of plan n tag offset)) (Err (refuse BadLength place File)))
    (Err (refuse BadField place File))
as_planned plan n tag place offset =
    let fields : Bool = good_tag plan.bits tag && good_sync plan.cipher (mode_in plan.mode) (sync_words plan.mode).first (sync_words plan.mode).second in
    let long : Bool = good_length plan.cipher (mode_in plan.mode) n in
    as_named place offset (fields_for plan n tag) plan.cipher (mode_in plan.mode) (cipher_back plan.cipher) (mode_back (mode_in plan.mode))
    ∙ ap (λ (s : Described). cond fields (cond long (Ok s) (Err (refuse BadLength place File))) (Err (refuse BadField place File)))
    (same_mode plan.cipher plan.mode plan.bits plan.first_page n tag offset)

-- ---- as sealing judges it

abbrev pub drafted : Plan → ℕ → Result Described Code
drafted plan n =
    cond (good_plan plan)
    (cond (good_length plan.cipher (mode_in plan.mode) n) (Ok (section_of plan n 0 0)) (Err (refuse BadLength 0 File)))
    (Err (refuse BadField 0 File))

sized_own : (c : CipherKind) → sized (block_length c) (cipher_named (cipher_byte c)) ≡ true
sized_own Gost = refl
sized_own Kuznyechik = refl

long_mode : (cipher : CipherKind) (mode : PlannedMode) (bits page n : ℕ) → length (entry_bytes (section_of (plan_of cipher mode bits page) n 0 0)) ≡ 32
long_mode cipher Codebook bits page n = refl
long_mode cipher (Counter s) bits page n = refl
long_mode cipher (Feedback s) bits page n = refl

pub sealing_is : (plan : Plan) (n : ℕ) → PlanFits plan → n < 4294967296 → seal_answer (block_length plan.cipher) (entry_bytes (section_of plan n 0 0)) n n ≡ drafted plan n
unfolding seal_answer
sealing_is plan n f l =
    rw (
      eq-eqb (length (entry_bytes (section_of plan n 0 0))) 32 (long_mode plan.cipher plan.mode plan.bits plan.first_page n),
      fields_back plan n 0 0 f l (omega arith),
      eq-eqb n n refl,
      sized_own plan.cipher,
    ) (as_planned plan n 0 0 0)

-- ---- as listing judges it

pub judged_back : (plan : Plan) (n tag : ℕ) → PlanFits plan → n < 4294967296 → tag < 2 ^ plan.bits → good_plan plan ≡ true → good_length plan.cipher (mode_in plan.mode) n ≡ true → (place offset : ℕ) →
    judged_fields place offset (fields_of (entry_bytes (section_of plan n tag offset))) ≡ Ok (section_of plan n tag offset)
judged_back plan n tag f l t g h place offset =
    let bits : ℕ = plan.bits in
    let sync : Bool = good_sync plan.cipher (mode_in plan.mode) (sync_words plan.mode).first (sync_words plan.mode).second in
    let a = and_parts (good_tag bits 0) sync g in
    let b = and_parts (leb 1 bits) (leb bits 32 && ltb 0 (2 ^ bits)) a.0 in
    let c = and_parts (leb bits 32) (ltb 0 (2 ^ bits)) b.1 in
    let wide = pow_mono {i = bits} {j = 32} (leb-true bits 32 c.0) in
    let low : tag < 4294967296 = omega (arith, t, wide) in
    let tagged-well : good_tag bits tag ≡ true = and_from (leb 1 bits) (leb bits 32 && ltb tag (2 ^ bits)) b.0 (and_from (leb bits 32) (ltb tag (2 ^ bits)) c.0 (lt-ltb tag (2 ^ bits) t)) in
    ap (λ (x : Fields). judged_fields place offset x) (fields_back plan n tag offset f l low)
    ∙ (as_planned plan n tag place offset ∙ rw (tagged-well, a.1, h))

-- 1 to 32 bits
pub narrow : (plan : Plan) → good_plan plan ≡ true → plan.bits ≤ 32
narrow plan g =
    let bits : ℕ = plan.bits in
    let sync : Bool = good_sync plan.cipher (mode_in plan.mode) (sync_words plan.mode).first (sync_words plan.mode).second in
    let a = and_parts (good_tag bits 0) sync g in
    let b = and_parts (leb 1 bits) (leb bits 32 && ltb 0 (2 ^ bits)) a.0 in
    leb-true bits 32 (and_parts (leb bits 32) (ltb 0 (2 ^ bits)) b.1).0

tag_mode : (cipher : CipherKind) (mode : PlannedMode) (bits page n tag : ℕ) →
    tagged tag (entry_bytes (section_of (plan_of cipher mode bits page) n 0 0)) ≡ entry_bytes (section_of (plan_of cipher mode bits page) n tag 0)
tag_mode cipher Codebook bits page n tag = refl
tag_mode cipher (Counter s) bits page n tag = refl
tag_mode cipher (Feedback s) bits page n tag = refl

-- the tag in its place
pub tag_put : (plan : Plan) (n tag : ℕ) → tagged tag (entry_bytes (section_of plan n 0 0)) ≡ entry_bytes (section_of plan n tag 0)
tag_put plan n tag = tag_mode plan.cipher plan.mode plan.bits plan.first_page n tag
