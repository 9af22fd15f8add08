-- The cipher of a body.
use Rattle.blocks.specs.Ciphers.{BlockMap}
use Rattle.gost.specs.Tables.{Rows}
use Rattle.gost.specs.Cipher.{gost}
use Rattle.kuznyechik.specs.Cipher.{kuznyechik}
use Rattle.keys.specs.Keys.{Spread}
use Rattle.sections.specs.declared.kind.CipherKind.{CipherKind}
use Rattle.sections.specs.declared.kind.CipherKind.TheVariants.{Gost, Kuznyechik}

-- the cipher of a body, with the table of the target
abbrev pub cipher_of : Rows → Spread → CipherKind → BlockMap
cipher_of rows keys Gost = gost rows keys.words
cipher_of rows keys Kuznyechik = kuznyechik keys.rounds
