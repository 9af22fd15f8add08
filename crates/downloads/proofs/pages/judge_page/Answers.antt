use Rattle.std.proofs.Common.{◌≡◌, ℕ, ◌+◌, ◌*◌, ◌/◌, ◌<◌, min, sym, ap, ◌∙◌, subst, arith}
use Rattle.description.specs.Limits.{allowed_length}
use Rattle.sections.specs.Meaning.{meaning_of}
use Rattle.downloads.specs.Blocks.{first_needed}
use Rattle.downloads.specs.Received.{held_by}
use Rattle.downloads.proofs.PageNeeds.{page_found}
use Rattle.downloads.proofs.pages.judge_page.Goals as goal

pub returns : goal.returns
returns g c =
    let s = meaning_of c.args.section.now in
    let r = held_by c.args.received in
    let t = g.T.Target.state c.args.target.now in
    let P = c.page_length-long.result in
    let value = c.page_length-long.ensures.value in
    let n = c.block_length.result in
    let j = c.args.j in
    let same : c.from-j.result ≡ j = c.from-j.ensures in
    c.refused_at.ensures
    ∙ page_found s r.body r.marks P j (ap allowed_length value ∙ (g.met.T.Target.formed c.args.target.now).sized) (subst (λ (k : ℕ). k * P < s.length) same c.if-j-long.false)
    n c.blocks-2.result c.page_count.result c.block_length.ensures c.requires c.blocks-2.ensures (omega arith)
    c.first_missing-missing.result c.first_needed-needed.result c.min-end.result
    (c.first_needed-needed.ensures ∙ ap (λ (k : ℕ). first_needed s.mode (k * (P / n))) same) (c.min-end.ensures ∙ ap (λ (k : ℕ). min (k * (P / n) + P / n) c.blocks-2.result) same)
    c.first_missing-missing.ensures t (sym value) (sym c.page_count.ensures)
