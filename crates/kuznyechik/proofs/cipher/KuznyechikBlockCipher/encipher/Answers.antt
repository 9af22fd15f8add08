use Rattle.blocks.proofs.Lengths.{there}
use Rattle.kuznyechik.specs.Cipher.{kuznyechik}
use Rattle.kuznyechik.specs.law.Undoing.{kuznyechik_lawful}
use Rattle.kuznyechik.proofs.cipher.KuznyechikBlockCipher.encipher.Goals as goal

pub returns-clause-undone : goal.returns-clause-undone
returns-clause-undone c =
    let keys = c.args.self.now.keys.now in
    let judged = c.in_ok-judge_length.ensures in
    let law = there (kuznyechik keys) (kuznyechik_lawful keys c.args.self.now.bytes) c.args.block.now (judged.sized, judged.bytes) in
    cc law.1
