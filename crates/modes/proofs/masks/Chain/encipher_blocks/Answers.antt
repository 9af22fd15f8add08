use Rattle.std.proofs.Common.{◌≡◌, ℕ, ◌+◌, ◌-◌, ◌*◌, min, length, ap, ◌∙◌, subst, arith}
use Rattle.modes.specs.Modes.{block_count}
use Rattle.modes.specs.Steps.{Kept}
use Rattle.modes.specs.Calls.{chaining}
use Rattle.modes.proofs.Joined.{count_ceil, begins_in}
use Rattle.modes.proofs.Judged.{agreed_sound}
use Rattle.modes.proofs.Texts.{turn, all}
use Rattle.modes.proofs.Undoing.{some_size}
use Rattle.modes.proofs.masks.Chain.encipher_blocks.Goals as goal

pub loop-i-preserved : goal.loop-i-preserved
loop-i-preserved g c =
    let s = c.args.self.now in
    let map = g.C.BlockCipher.map s.cipher.now in
    let image = c.args.text.now in
    let law = g.met.C.BlockCipher.lawful s.cipher.now in
    let size = c.block_length-n.ensures.value in
    let i = c.loop-i.i in
    let at : c.block_length-n.result * i ≡ map.size * i = ap (λ (m : ℕ). m * i) size in
    let count = c.div_ceil-i-end.ensures ∙ count_ceil c.block_length-n.result map.size (length image) size (some_size map law) in
    let k : c.block_length-n.result * i + c.min-count.result - c.block_length-n.result * i ≡ min map.size (length image - map.size * i) = omega (arith, c.min-count.ensures, size, at) in
    let pad : length c.loop-i.pad ≡ map.size = c.loop-i.auto.pad ∙ (c.start.auto.pad ∙ c.requires.pad) in
    turn (chaining map s.mode s.sync) image c.requires.bytes (agreed_sound map s.mode s.sync (length image) law s.agreed c.requires.whole) i s.from.third s.from.fourth c.loop-i.text c.loop-i.pad
    (begins_in map.size (length image) i (some_size map law) (omega (arith, c.loop-i-test.true, count))) s.counted c.loop-i.invariant c.encipher.new.block c.encipher.new.pad
    (c.block_length-n.result * i) (c.block_length-n.result * i + c.min-count.result - c.block_length-n.result * i) at k c.encipher.ensures.block
    (subst (λ (m : ℕ). Kept s.mode m c.encipher.new.block c.encipher.new.pad) pad c.encipher.ensures.pad)

pub returns : goal.returns
returns g c =
    let s = c.args.self.now in
    let map = g.C.BlockCipher.map s.cipher.now in
    let image = c.args.text.now in
    let law = g.met.C.BlockCipher.lawful s.cipher.now in
    let count = c.div_ceil-i-end.ensures ∙ count_ceil c.block_length-n.result map.size (length image) c.block_length-n.ensures.value (some_size map law) in
    let ends : c.loop-i.i ≡ block_count map.size (length image) = omega (arith, c.loop-i-test.false, c.loop-i.auto.i-end, count) in
    all (chaining map s.mode s.sync) image c.requires.bytes (agreed_sound map s.mode s.sync (length image) law s.agreed c.requires.whole) c.loop-i.i c.loop-i.text c.loop-i.pad ends c.loop-i.invariant
