-- What a block cipher means: a block length and a one-to-one map of blocks with its inverse.
use Rattle.std.specs.Prelude.{◌≡◌, ℕ, cond, ◌⊎◌, List, length, Ok, Err, Result, ◌==◌}
use Rattle.refusals.specs.declared.Reason.TheVariants.{WrongBuffer}
use Rattle.refusals.specs.declared.Layer.{Layer}
use Rattle.refusals.specs.declared.Layer.TheVariants.{File, Download}
use Rattle.refusals.specs.Codes.{Code, refuse}
use Rattle.blocks.specs.Bytes.{Block}

pub record BlockMap : Type 0 where
  -- the block length, in bytes
  pub size : ℕ
  pub enciphered : List ℕ → List ℕ
  pub deciphered : List ℕ → List ℕ

-- a map of blocks of n bytes to such blocks, no two of them to one
pub record OneToOne (n : ℕ) (E : List ℕ → List ℕ) : Type 0 where
  pub stays : (b : List ℕ) → Block n b → Block n (E b)
  pub apart : (a b : List ℕ) → Block n a → Block n b → E a ≡ E b → a ≡ b

-- two maps of blocks of n bytes that undo each other
pub record Undone (n : ℕ) (E D : List ℕ → List ℕ) : Type 0 where
  pub stays : (b : List ℕ) → Block n b → Block n (D b)
  pub back : (b : List ℕ) → Block n b → D (E b) ≡ b
  pub forth : (b : List ℕ) → Block n b → E (D b) ≡ b

-- what every cipher keeps
pub record Lawful (c : BlockMap) : Type 0 where
  pub sized : (c.size ≡ 8) ⊎ (c.size ≡ 16)
  pub forward : OneToOne c.size c.enciphered
  pub inverse : Undone c.size c.enciphered c.deciphered

-- bytes of another length than n are refused
abbrev pub length_judged : ℕ → Layer → List ℕ → Result Unit Code
length_judged n layer bytes = cond (length bytes == n) (Ok tt) (Err (refuse WrongBuffer 0 layer))

-- a key of another length than 32 bytes
abbrev pub key_answer : List ℕ → Result Unit Code
key_answer key = length_judged 32 File key

-- a part of another length than n
abbrev pub length_answer : ℕ → List ℕ → Result Unit Code
length_answer n part = length_judged n Download part

-- and left as it was; a part of n bytes is replaced by its image under the map
abbrev pub replaced : ℕ → (List ℕ → List ℕ) → List ℕ → List ℕ
replaced n map part = cond (length part == n) (map part) part
