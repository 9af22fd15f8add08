-- An entry of the contents table: 32 bytes that say what a section is.
use Rattle.std.specs.Prelude.{ℕ, ◌^◌, Bool, true, false, cond, ◌&&◌, List, take, drop, Some, None, Ok, Err, Option, Result, ◌==◌, nat_le, nat_lt, slice_index}
use Rattle.refusals.specs.declared.Reason.TheVariants.{BadField, BadLength}
use Rattle.refusals.specs.declared.Layer.TheVariants.{File}
use Rattle.refusals.specs.Codes.{Code, refuse}
use Rattle.blocks.specs.Bytes.{word}
use Rattle.modes.specs.declared.mode.Mode.{Mode}
use Rattle.modes.specs.declared.mode.Mode.TheVariants.{Codebook, Counter, Feedback}
use Rattle.modes.specs.declared.mode.Sync.{Sync}
use Rattle.modes.specs.Calls.{whole_in}
use Rattle.sections.specs.declared.kind.CipherKind.{CipherKind}
use Rattle.sections.specs.declared.kind.CipherKind.TheVariants.{Gost, Kuznyechik}
use Rattle.sections.specs.declared.fields.Fields.{Fields}
use Rattle.sections.specs.Images.{block_length, allowed_image}

-- what an entry says, and where in the file its body begins
pub record Described : Type 0 where
  pub cipher : CipherKind
  pub mode : Mode
  pub bits : ℕ
  pub first_page : ℕ
  pub length : ℕ
  pub sync : Option Sync
  pub tag : ℕ
  pub offset : ℕ

-- the number in n bytes from a place on, the lowest byte first
abbrev pub number : ℕ → ℕ → List ℕ → ℕ
number n from bytes = word (take n (drop from bytes))

-- the fields of an entry
unfoldable pub fields_of : List ℕ → Fields
fields_of e = record {
  cipher = slice_index e 0;
  mode = slice_index e 1;
  bits = slice_index e 2;
  zero = slice_index e 3;
  first_page = number 2 4 e;
  zeros = number 2 6 e;
  length = number 4 8 e;
  first = number 8 12 e;
  second = number 8 20 e;
  tag = number 4 28 e;
}

abbrev pub cipher_named : ℕ → Option CipherKind
cipher_named n = cond (n == 1) (Some Gost) (cond (n == 2) (Some Kuznyechik) None)

abbrev pub mode_named : ℕ → Option Mode
mode_named n = cond (n == 1) (Some Codebook) (cond (n == 2) (Some Counter) (cond (n == 3) (Some Feedback) None))

-- a tag of 1 to 32 bits is below 2^bits
abbrev pub good_tag : ℕ → ℕ → Bool
good_tag bits tag = nat_le 1 bits && (nat_le bits 32 && nat_lt tag (2 ^ bits))

-- codebook has no sync, and its bytes are zero; blocks of eight bytes leave the last eight zero;
-- counter is for blocks of eight bytes alone
abbrev pub good_sync : CipherKind → Mode → ℕ → ℕ → Bool
good_sync Gost Codebook first second = first == 0 && second == 0
good_sync Gost Counter first second = second == 0
good_sync Gost Feedback first second = second == 0
good_sync Kuznyechik Codebook first second = first == 0 && second == 0
good_sync Kuznyechik Counter first second = false
good_sync Kuznyechik Feedback first second = true

abbrev pub sync_in : Mode → ℕ → ℕ → Option Sync
sync_in Codebook first second = None
sync_in Counter first second = Some (record { first = first; second = second })
sync_in Feedback first second = Some (record { first = first; second = second })

-- every field is as stated
abbrev pub good_fields : CipherKind → Mode → Fields → Bool
good_fields cipher mode f =
    (f.zero == 0) && (f.zeros == 0 && (good_tag f.bits f.tag && good_sync cipher mode f.first f.second))

-- an allowed length, and whole blocks in codebook
abbrev pub good_length : CipherKind → Mode → ℕ → Bool
good_length cipher mode length = allowed_image length && whole_in mode (block_length cipher) length

abbrev pub described : CipherKind → Mode → Fields → ℕ → Described
described cipher mode f offset = record {
  cipher = cipher;
  mode = mode;
  bits = f.bits;
  first_page = f.first_page;
  length = f.length;
  sync = sync_in mode f.first f.second;
  tag = f.tag;
  offset = offset;
}

abbrev pub named : {X Y : Type 0} → ℕ → Option X → (X → Result Y Code) → Result Y Code
named place None next = Err (refuse BadField place File)
named place (Some x) next = next x

-- the fields at a place of the table, with where the body begins: fields come before lengths
abbrev pub judged_as : CipherKind → Mode → ℕ → ℕ → Fields → Result Described Code
judged_as cipher mode place offset f =
    cond (good_fields cipher mode f)
    (cond (good_length cipher mode f.length) (Ok (described cipher mode f offset)) (Err (refuse BadLength place File)))
    (Err (refuse BadField place File))

unfoldable pub judged_fields : ℕ → ℕ → Fields → Result Described Code
judged_fields place offset f =
    named place (cipher_named f.cipher) (λ cipher. named place (mode_named f.mode) (λ mode. judged_as cipher mode place offset f))
