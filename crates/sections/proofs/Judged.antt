-- What fields that were accepted keep.
use Rattle.std.proofs.Common.{◌≡◌, ℕ, ◌^◌, ◌≤◌, true, ◌&&◌, eqb, ltb, leb, Some, Ok, Option, refl}
use Rattle.std.proofs.lemmas.Bool.{and_parts, leb-true}
use Rattle.modes.specs.declared.mode.Mode.{Mode}
use Rattle.modes.specs.declared.mode.Mode.TheVariants.{Codebook, Counter, Feedback}
use Rattle.modes.specs.declared.mode.Sync.{Sync}
use Rattle.modes.specs.Calls.{agrees, whole_in, mode_answer}
use Rattle.sections.specs.declared.kind.CipherKind.{CipherKind}
use Rattle.sections.specs.declared.kind.CipherKind.TheVariants.{Gost, Kuznyechik}
use Rattle.sections.specs.declared.fields.Fields.{Fields}
use Rattle.sections.specs.Images.{block_length}
use Rattle.sections.specs.Entries.{good_tag, good_sync, sync_in, good_fields, good_length, cipher_named, mode_named, described, judged_as, judged_fields}

-- a sync that is as stated agrees with its mode
pub agreed : (cipher : CipherKind) (mode : Mode) (first second : ℕ) → good_sync cipher mode first second ≡ true → agrees (block_length cipher) mode (sync_in mode first second) ≡ true
agreed Gost Codebook first second h = refl
agreed Gost Counter first second h = refl
agreed Gost Feedback first second h = refl
agreed Kuznyechik Codebook first second h = refl
agreed Kuznyechik Counter first second h = h
agreed Kuznyechik Feedback first second h = refl

-- the parts of good fields
pub record Kept (cipher : CipherKind) (mode : Mode) (f : Fields) : Type 0 where
  pub narrow : (1 ≤ f.bits) × (f.bits ≤ 32)
  pub sync : good_sync cipher mode f.first f.second ≡ true
  pub agrees_with : agrees (block_length cipher) mode (sync_in mode f.first f.second) ≡ true

pub kept_from : (cipher : CipherKind) (mode : Mode) (f : Fields) → good_fields cipher mode f ≡ true → Kept cipher mode f
kept_from cipher mode f h =
    let a = (and_parts (eqb f.zero 0) (eqb f.zeros 0 && (good_tag f.bits f.tag && good_sync cipher mode f.first f.second)) h).1 in
    let b = (and_parts (eqb f.zeros 0) (good_tag f.bits f.tag && good_sync cipher mode f.first f.second) a).1 in
    let c = and_parts (good_tag f.bits f.tag) (good_sync cipher mode f.first f.second) b in
    let t = and_parts (leb 1 f.bits) (leb f.bits 32 && ltb f.tag (2 ^ f.bits)) c.0 in
    let u = and_parts (leb f.bits 32) (ltb f.tag (2 ^ f.bits)) t.1 in record {
      narrow = (leb-true 1 f.bits t.0, leb-true f.bits 32 u.0);
      sync = c.1;
      agrees_with = agreed cipher mode f.first f.second c.1;
    }

-- a mode that agrees with its sync, at whole blocks, is accepted
pub mode_ok : (n : ℕ) (mode : Mode) (sync : Option Sync) (bytes : ℕ) → agrees n mode sync ≡ true → whole_in mode n bytes ≡ true → mode_answer n mode sync bytes ≡ Ok tt
mode_ok n mode sync bytes a w = rw (a, w)

-- ---- how fields are judged, by cases

pub as_named : (place offset : ℕ) (f : Fields) (cipher : CipherKind) (mode : Mode) → Some cipher ≡ cipher_named f.cipher → Some mode ≡ mode_named f.mode → judged_fields place offset f ≡ judged_as cipher mode place offset f
unfolding judged_fields
as_named place offset f cipher mode h k = rw (← h, ← k)

pub good : (place offset : ℕ) (f : Fields) (cipher : CipherKind) (mode : Mode) → true ≡ good_fields cipher mode f → true ≡ good_length cipher mode f.length → judged_as cipher mode place offset f ≡ Ok (described cipher mode f offset)
good place offset f cipher mode h k = rw (← h, ← k)
