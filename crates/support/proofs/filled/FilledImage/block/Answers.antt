use Rattle.std.proofs.Common.{rules, tests, ◌+◌, ◌*◌, arith}
use Rattle.support.specs.Filled.{image_in, fill_in}
use Rattle.support.proofs.Paging.{byte_at, block_is, made_from}
use Rattle.support.proofs.filled.FilledImage.block.Goals as goal

pub returns : goal.returns
returns c more h =
    let image = image_in c.args.self.now in
    let fill = fill_in c.args.self.now in
    let items = c.from_fn.ensures.items in
    let at = made_from _ _ (λ k. byte_at image fill (8 * c.args.i + k)) (λ x y q k. search (rules, tests)) c.from_fn.result 0 8 items.each in
    block_is image fill more c.args.i c.from_fn.result items.long h (λ k l. at k 0 (omega arith) l)
