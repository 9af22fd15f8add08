use Rattle.std.proofs.Common.{◌≡◌, rules}
use Rattle.blocks.proofs.Lengths.{back}
use Rattle.gost.specs.Cipher.{deciphered, gost}
use Rattle.gost.specs.law.Undoing.{gost_lawful}
use Rattle.gost.proofs.enciphering.GostBlockCipher.decipher.Goals as goal

pub returns : goal.returns
unfolding deciphered
returns c =
    let cipher = c.args.self.now in
    let rows = cipher.table.now.rows in
    let key = cipher.key.now in
    let judged = c.in_ok-judge_length.ensures in
    let made : c.write.new.block ≡ deciphered rows key c.args.block.now = cc in
    let law = back (gost rows key) (gost_lawful rows cipher.table.now.checked key) c.args.block.now (judged.sized, judged.bytes) in
    record { answer = search rules; block = cc (made, law.0); undone = cc (made, law.1) }
