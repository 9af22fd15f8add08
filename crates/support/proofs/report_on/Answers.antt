use Rattle.std.proofs.Common.{◌≡◌, ℕ, ◌+◌, ◌-◌, ◌*◌, ◌/◌, length, ap, ◌∙◌, arith}
use Rattle.description.specs.Meaning.{meaning_of}
use Rattle.support.specs.Images.{pages_for}
use Rattle.support.proofs.Reporting.{pages_counted, image_fits, blocks_are, reported}
use Rattle.support.proofs.report_on.Goals as goal

pub returns : goal.returns
returns c =
    let target = c.in_ok-target.target in
    let image = c.args.image.now in
    let n : ℕ = length image in
    let pages = c.in_ok-image_pages.image_pages in
    let p = c.in_ok-image_pages.ensures in
    let count : pages ≡ pages_for target.page_length n = (pages_counted target.page_length target.page_count n pages p).0 in
    let fits = image_fits target.page_length n (omega (arith, target.allowed.0)) in
    let blocks = blocks_are target.page_length pages target.allowed.2 in
    let more : ℕ = target.page_length * pages_for target.page_length n - n in
    let all : 8 * (pages * (target.page_length / 8)) ≡ n + more = blocks ∙ (ap (λ (k : ℕ). target.page_length * k) count ∙ omega arith) in
    let rows = c.new-cipher.ensures.table in
    let key = c.new-cipher.ensures.key in
    reported c.args.text.now c.args.keys.now image c.in_ok-key.key (meaning_of target) pages c.in_ok-bits.bits.bits c.in_ok-value.value c.value-wrong.result
    c.in_ok-target.ensures.value c.in_ok-key.ensures p c.in_ok-bits.ensures (rw (rows, key) at c.in_ok-value.ensures) (rw (rows, key) at c.value-wrong.ensures more all)
