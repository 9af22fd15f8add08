use Rattle.std.proofs.Common.{◌≡◌, ℕ, length, sym, ap, ◌∙◌}
use Rattle.blocks.specs.Bytes.{block}
use Rattle.modes.specs.Calls.{sync_bytes}
use Rattle.modes.proofs.Plain.{plain_step_lem, cut_is}
use Rattle.modes.proofs.masks.Chain.decipher_into.Goals as goal

pub returns : goal.returns
returns g c =
    let s = c.args.self.now in
    let map = g.C.BlockCipher.map s.cipher.now in
    let body = c.args.body.now in
    let i = c.args.i in
    let y = s.from.third in
    let z = s.from.fourth in
    let n = c.block_length.result in
    let size : n ≡ map.size = c.block_length.ensures.value in
    let long : length c.args.part.now ≡ length (block n i body) = c.requires.part ∙ ap (λ (m : ℕ). length (block m i body)) (sym size) in
    let part : c.copy_from_slice.new.self ≡ block map.size i body
    = c.copy_from_slice.ensures.after ∙ (cut_is n i (length c.args.part.now) body long ∙ ap (λ (m : ℕ). block m i body) size) in
    rw (c.decipher.ensures, part)
    (plain_step_lem s.mode map (sync_bytes map.size s.sync) c.feed.new.pad (λ k. block map.size k body) y z i s.counted (λ q. c.feed.ensures))
