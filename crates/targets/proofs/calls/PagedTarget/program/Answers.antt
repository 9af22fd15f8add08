use Rattle.std.proofs.Common.{◌<◌, rules, ◌∙◌, arith}
use Rattle.std.proofs.lemmas.List.{length-set}
use Rattle.blocks.proofs.Words.{bytes_from}
use Rattle.targets.proofs.Kept.{reads_back}
use Rattle.targets.specs.law.Formed.{pages_length}
use Rattle.targets.proofs.Put.{written}
use Rattle.targets.proofs.calls.PagedTarget.program.Goals as goal

pub invariant_of-self-clause-held : goal.invariant_of-self-clause-held
invariant_of-self-clause-held g c = bytes_from _ (λ i. grind arith)

pub invariant_of-self-clause-ready_marks : goal.invariant_of-self-clause-ready_marks
invariant_of-self-clause-ready_marks g c = length-set c.args.self.now.ready c.args.page _ ∙ c.args.self.now.ready_marks

pub returns-clause-after : goal.returns-clause-after
returns-clause-after g c =
    let t = c.args.self.now in
    let place = c.place-place in
    let there : c.args.page < t.page_count = search rules in
    rw (c.copy_from_slice.ensures.after, c.REWRITABLE.ensures) (written g.K.Kind.REWRITABLE t.page_length t.page_count t.fill c.args.page place.result.start place.result.end t.memory.now c.args.bytes.now t.locked t.ready _ place.ensures.start place.ensures.end there t.exact (search rules) c.in_ok-may_program.ensures)

pub returns-clause-kept : goal.returns-clause-kept
returns-clause-kept g c = reads_back _ c.args.page c.args.bytes.now (pages_length _ _ _)
