use Rattle.std.proofs.Common.{◌≡◌, max, eqb, sym, ap, ◌∙◌, arith}
use Rattle.refusals.specs.declared.Reason.TheVariants.{NoSuchPage}
use Rattle.refusals.specs.declared.Layer.TheVariants.{Download}
use Rattle.sections.specs.Images.{pages_for}
use Rattle.sections.specs.Meaning.{meaning_of}
use Rattle.modes.proofs.Joined.{count_ceil}
use Rattle.downloads.proofs.Answered.{told, passed_first, page_parts}
use Rattle.downloads.proofs.Verified.{verify_past, verify_there}
use Rattle.downloads.proofs.verifying.judge_verifying.Goals as goal

pub returns-then-from : goal.returns-then-from
returns-then-from g c =
    let s = meaning_of c.args.section.now in
    let t = g.T.Target.state c.args.target.now in
    let value = c.page_length-long.ensures.value in
    let right = ap (eqb c.args.room) (sym value) ∙ passed_first (eqb c.args.room c.page_length-long.result) c.in_ok-sized.ensures in
    let pages : c.div_ceil-pages.result ≡ pages_for t.page_length s.length = c.div_ceil-pages.ensures ∙ count_ceil c.page_length-long.result t.page_length s.length value (omega (arith, (page_parts t.page_length (g.met.T.Target.formed c.args.target.now).sized).0)) in
    told c.new.result NoSuchPage c.max.result Download c.new.ensures
    ∙ verify_past s t c.args.room right c.max.result (omega (arith, c.if-from.true, pages, c.from.ensures, c.from-2.ensures, c.from-3.ensures, c.page_count-count.ensures))
    (c.max.ensures ∙ ap (max s.first_page) c.page_count-count.ensures)

pub returns : goal.returns
returns g c =
    let s = meaning_of c.args.section.now in
    let t = g.T.Target.state c.args.target.now in
    let value = c.page_length-long.ensures.value in
    let right = ap (eqb c.args.room) (sym value) ∙ passed_first (eqb c.args.room c.page_length-long.result) c.in_ok-sized.ensures in
    let pages : c.div_ceil-pages.result ≡ pages_for t.page_length s.length = c.div_ceil-pages.ensures ∙ count_ceil c.page_length-long.result t.page_length s.length value (omega (arith, (page_parts t.page_length (g.met.T.Target.formed c.args.target.now).sized).0)) in
    verify_there s t c.args.room right (omega (arith, c.if-from.false, pages, c.from.ensures, c.from-2.ensures, c.from-3.ensures, c.page_count-count.ensures))
