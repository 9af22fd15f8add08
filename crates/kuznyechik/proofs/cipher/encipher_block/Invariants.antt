use Rattle.std.proofs.Common.{◌≡◌, drop}
use Rattle.kuznyechik.specs.Cipher.{enciphered}
use Rattle.kuznyechik.proofs.cipher.encipher_block.Given as goal

abbrev pub invariant-loop-key : goal.invariant-loop-key
invariant-loop-key l = enciphered (drop l.key-index l.keys) l.block ≡ enciphered l.keys l.initial.block
