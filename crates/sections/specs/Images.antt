-- Block lengths, image lengths and pages.
use Rattle.std.specs.Prelude.{ℕ, ◌+◌, ◌-◌, ◌/◌, Bool, ◌&&◌, List, nat_le, codes}
use Rattle.sections.specs.declared.kind.CipherKind.{CipherKind}
use Rattle.sections.specs.declared.kind.CipherKind.TheVariants.{Gost, Kuznyechik}

-- the block length of a cipher
abbrev pub block_length : CipherKind → ℕ
block_length Gost = 8
block_length Kuznyechik = 16

-- the name of a cipher as it is written
abbrev pub cipher_text : CipherKind → List ℕ
cipher_text Gost = codes "gost"
cipher_text Kuznyechik = codes "kuznyechik"

-- an image has 9 to 16,384 bytes
abbrev pub allowed_image : ℕ → Bool
allowed_image n = nat_le 9 n && nat_le n 16384

-- how many pages an image of n bytes takes
abbrev pub pages_for : ℕ → ℕ → ℕ
pages_for page_length n = (n + page_length - 1) / page_length
