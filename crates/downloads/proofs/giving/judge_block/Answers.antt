use Rattle.std.proofs.Common.{ℕ, ◌+◌, ◌-◌, ◌<◌, ap, ◌∙◌, subst}
use Rattle.sections.specs.Meaning.{meaning_of}
use Rattle.downloads.specs.Marks.{missing_from}
use Rattle.downloads.specs.Received.{held_by}
use Rattle.downloads.proofs.Given.{give_found}
use Rattle.downloads.proofs.giving.judge_block.Goals as goal

pub returns : goal.returns
returns c =
    let r = held_by c.args.received in
    let i = c.args.i in
    c.refused_at.ensures
    ∙ give_found (meaning_of c.args.section.now) r.body r.marks i c.requires c.first_missing-missing.result (subst (λ (m : ℕ). i < m) c.blocks-2.ensures c.if-i-blocks.false)
    (c.first_missing-missing.ensures ∙ ap (λ (k : ℕ). missing_from r.marks k (i + 1 - k)) c.first_needed-from.ensures)
