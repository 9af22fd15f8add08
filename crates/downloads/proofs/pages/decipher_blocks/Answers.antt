use Rattle.std.proofs.Common.{◌≡◌, ℕ, ◌+◌, ◌-◌, ◌*◌, ◌<◌, ◌≤◌, length, take, drop, sym, subst, ap₂, mul-le-mul_left, mul-one, mul-add, arith}
use borrow.Rule.Slice.PartMut.{put_mid}
use Rattle.blocks.proofs.Words.{bytes_from}
use Rattle.modes.specs.Modes.{block_count, joined}
use Rattle.modes.specs.Calls.{plain_of, buffer_after, front}
use Rattle.sections.specs.Meaning.{meaning_of}
use Rattle.downloads.specs.Frames.{block_of}
use Rattle.downloads.proofs.Prepared.{one_more}
use Rattle.downloads.proofs.pages.decipher_blocks.Goals as goal

pub loop-b-preserved : goal.loop-b-preserved
loop-b-preserved g c =
    let s = meaning_of c.args.section.now in
    let map = g.C.BlockCipher.map c.args.cipher.now in
    let body = c.args.body.now in
    let was = c.args.page.now in
    let page = c.loop-b.page in
    let part = c.decipher_block.new.out in
    let from = c.args.from in
    let b = c.loop-b.b in
    let e = c.block_length-n.ensures.value in
    let size : map.size ≡ block_of s = c.requires.parts.0 in
    let long : length body ≡ s.length = c.requires.parts.1 in
    let le : b + 1 ≤ c.args.count = omega (arith, c.loop-b-test.true) in
    let fits : from + b < block_count map.size (length body) =
    subst (λ (m : ℕ). from + b < m) (ap₂ (λ (x y : ℕ). block_count x y) (sym size) (sym long)) (omega (arith, c.requires.blocks, le)) in
    let room : map.size * b + map.size ≤ length was =
    subst (λ (m : ℕ). m * b + m ≤ length was) (sym size) (omega (arith, c.requires.room.0, mul-le-mul_left (block_of s) le, mul-add (block_of s) b 1, mul-one (block_of s))) in
    subst (λ (k : ℕ). put_mid (k * b) (k * b + k - k * b) page part ≡ front (joined (plain_of map s.mode s.sync body) from (b + 1)) was) (sym e)
    (one_more map s body (g.met.C.BlockCipher.lawful c.args.cipher.now) size long (bytes_from body (λ i. omega (arith, c.type_inv.body i))) c.args.section.now.agreed c.args.section.now.whole from b page was part fits c.loop-b.invariant room
    (subst (λ (k : ℕ). part ≡ buffer_after map s.mode s.sync body (from + b) (take (k * b + k - k * b) (drop (k * b) page))) e c.decipher_block.ensures.out))
