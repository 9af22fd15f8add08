-- Sealing a section: the image is enciphered into the body, and its imitovstavka goes into the entry.
use Rattle.std.specs.Prelude.{◌≡◌, ℕ, Bool, true, cond, ◌&&◌, List, ◌++◌, length, take, Some, None, Ok, Err, Option, Result, ◌==◌}
use Rattle.refusals.specs.declared.Reason.TheVariants.{WrongBuffer}
use Rattle.refusals.specs.declared.Layer.TheVariants.{File}
use Rattle.refusals.specs.Codes.{Code, refuse}
use Rattle.blocks.specs.Bytes.{bytes_of}
use Rattle.blocks.specs.Ciphers.{BlockMap}
use Rattle.modes.specs.Modes.{Chaining, enciphered, deciphered}
use Rattle.modes.specs.Calls.{chaining}
use Rattle.sections.specs.declared.kind.CipherKind.{CipherKind}
use Rattle.sections.specs.declared.fields.Fields.{Fields}
use Rattle.sections.specs.Images.{block_length}
use Rattle.sections.specs.Entries.{Described, fields_of, cipher_named, judged_fields}

-- the tag is not read
abbrev pub untagged : Fields → Fields
untagged f = record {
  cipher = f.cipher;
  mode = f.mode;
  bits = f.bits;
  zero = f.zero;
  first_page = f.first_page;
  zeros = f.zeros;
  length = f.length;
  first = f.first;
  second = f.second;
  tag = 0;
}

-- a cipher with blocks of n bytes is the one that the entry names, if it names one
abbrev pub sized : ℕ → Option CipherKind → Bool
sized n None = true
sized n (Some cipher) = n == block_length cipher

-- the image and the body are as long as the entry says
abbrev pub good_buffers : ℕ → Fields → ℕ → ℕ → Bool
good_buffers n f image body = image == f.length && (body == f.length && sized n (cipher_named f.cipher))

-- the section that is sealed, from the entry and the lengths of the image and the body
unfoldable pub seal_answer : ℕ → List ℕ → ℕ → ℕ → Result Described Code
seal_answer n entry image body =
    cond (length entry == 32)
    (cond (good_buffers n (fields_of entry) image body) (judged_fields 0 0 (untagged (fields_of entry))) (Err (refuse WrongBuffer 0 File)))
    (Err (refuse WrongBuffer 0 File))

abbrev pub done : Result Described Code → Result Unit Code
done (Ok s) = Ok tt
done (Err e) = Err e

-- a refusal changes nothing
abbrev pub after : Result Described Code → (Described → List ℕ) → List ℕ → List ℕ
after (Ok s) made was = made s
after (Err e) made was = was

-- the entry with its tag
abbrev pub tagged : ℕ → List ℕ → List ℕ
tagged tag entry = take 28 entry ++ bytes_of 4 tag

abbrev pub chaining_of : BlockMap → Described → Chaining
chaining_of map s = chaining map s.mode s.sync

-- the sealed body opens to the image, which seals to the same body again
pub record Opens (w : Chaining) (image body : List ℕ) : Type 0 where
  pub opens : deciphered w body ≡ image
  pub seals : enciphered w (deciphered w body) ≡ body
