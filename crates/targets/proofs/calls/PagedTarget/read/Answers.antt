use Rattle.std.proofs.Common.{◌<◌, ◌∙◌, rules}
use Rattle.targets.proofs.Put.{read_out_lem}
use Rattle.targets.proofs.calls.PagedTarget.read.Goals as goal

pub returns-clause-out : goal.returns-clause-out
returns-clause-out g c =
    let t = c.args.self.now in
    let there : c.args.page < t.page_count = search rules in
    c.copy_from_slice.ensures.after ∙ read_out_lem t.page_length t.page_count c.args.page c.place.result.start c.place.result.end t.memory.now c.args.out.now c.place.ensures.start c.place.ensures.end there c.in_ok-may_read.ensures
