use Rattle.std.proofs.Common.{◌≡◌, ◌<◌, true, replicate, arith, rules, ◌∙◌}
use Rattle.std.proofs.lemmas.List.{length-set, length-replicate}
use Rattle.blocks.proofs.Words.{bytes_from}
use Rattle.targets.proofs.Kept.{locks_keep}
use Rattle.targets.proofs.Put.{written}
use Rattle.targets.proofs.calls.PagedTarget.erase.Goals as goal

pub invariant_of-self-clause-ready_marks : goal.invariant_of-self-clause-ready_marks
invariant_of-self-clause-ready_marks g c = length-set c.args.self.now.ready c.args.page true ∙ c.args.self.now.ready_marks

pub returns-in_err-may_erase-clause-locks : goal.returns-in_err-may_erase-clause-locks
returns-in_err-may_erase-clause-locks g c = locks_keep _

pub invariant_of-self-clause-held : goal.invariant_of-self-clause-held
invariant_of-self-clause-held g c = bytes_from _ (λ i. grind arith)

pub returns-clause-after : goal.returns-clause-after
returns-clause-after g c =
    let t = c.args.self.now in
    let place = c.place-place in
    let there : c.args.page < t.page_count = search rules in
    let held : c.fill.new.self ≡ replicate t.page_length t.fill = grind arith in
    rw held (written g.K.Kind.REWRITABLE t.page_length t.page_count t.fill c.args.page place.result.start place.result.end t.memory.now (replicate t.page_length t.fill) t.locked t.ready true place.ensures.start place.ensures.end there t.exact (length-replicate t.page_length t.fill) c.in_ok-may_erase.ensures)

pub returns-clause-locks : goal.returns-clause-locks
returns-clause-locks g c = locks_keep _
