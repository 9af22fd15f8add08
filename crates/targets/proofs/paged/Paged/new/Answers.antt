use Rattle.std.proofs.Common.{Bool, true, take, replicate, ap, ◌∙◌, arith}
use Rattle.std.proofs.lemmas.List.{take-replicate}
use Rattle.blocks.proofs.Words.{bytes_from}
use Rattle.targets.proofs.Kept.{always_ready}
use Rattle.targets.proofs.paged.Paged.new.Goals as goal

pub invariant_of-result-clause-held : goal.invariant_of-result-clause-held
invariant_of-result-clause-held g c = bytes_from c.args.memory.now (λ i. grind arith)

pub returns-clause-ready : goal.returns-clause-ready
returns-clause-ready g c e =
    let count = c.args.page_count in
    always_ready _ e (ap (λ (b : Bool). take count (replicate 1024 b)) (c.REWRITABLE.ensures ∙ e) ∙ take-replicate count 1024 true (omega arith))
