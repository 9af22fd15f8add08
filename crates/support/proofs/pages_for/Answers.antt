use Rattle.std.proofs.Common.{rules, ◌≡◌, true, false, leb, Ok, Err, ap, ◌∙◌, arith}
use Rattle.std.proofs.lemmas.Bool.{le-leb, lt-leb}
use Rattle.refusals.specs.Codes.{code_of}
use Rattle.support.specs.Images.{allowed_image, pages_for}
use Rattle.support.proofs.Reporting.{rounded_up}
use Rattle.support.proofs.pages_for.Goals as goal

pub returns-then-pages-target : goal.returns-then-pages-target
returns-then-pages-target c =
    let target = c.args.target.now in
    let pages = pages_for target.page_length c.args.image_length in
    let count : c.div_ceil-pages.result ≡ pages = c.div_ceil-pages.ensures ∙ rounded_up target.page_length c.args.image_length (omega (arith, target.allowed.0)) in
    let within : allowed_image c.args.image_length ≡ true = search rules in
    let many : leb pages target.page_count ≡ false = lt-leb pages target.page_count (omega arith) in
    rw (within, many) (ap (λ r. Err (code_of r)) c.new-then-pages-target.ensures)

pub returns : goal.returns
returns c =
    let target = c.args.target.now in
    let pages = pages_for target.page_length c.args.image_length in
    let count : c.div_ceil-pages.result ≡ pages = c.div_ceil-pages.ensures ∙ rounded_up target.page_length c.args.image_length (omega (arith, target.allowed.0)) in
    let within : allowed_image c.args.image_length ≡ true = search rules in
    let fit : leb pages target.page_count ≡ true = le-leb pages target.page_count (omega arith) in
    rw (within, fit) (ap Ok count)
