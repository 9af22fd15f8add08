use Rattle.std.proofs.Common.{rules, ◌≡◌, ◌+◌, ◌<◌, length, take, Err, sym, refl, ap, ◌∙◌, subst, arith, length-set}
use Rattle.std.proofs.lemmas.List.{take_all, take_more_set, length-take-le}
use Rattle.description.specs.Judge.{all_numbers, added}
use Rattle.description.specs.Meaning.{NoRow, words_of, first_number}
use Rattle.description.proofs.Numbers.{prefixed, prefixed_more, prefixed_all, narrow_more, stopped, too_wide, unread, ended}
use Rattle.description.proofs.reading.box_row.Goals as goal

pub returns-in_err-n : goal.returns-in_err-n
returns-in_err-n c =
    let ns = take c.loop-i.i c.loop-i.numbers in
    let why = c.in_err-n.field-0.0 in
    let read = unread (first_number (words_of c.loop-i.scanner)) why c.in_err-n.ensures.value in
    let short : length ns < 16 = omega (arith, length-take-le c.loop-i.i c.loop-i.numbers (omega arith)) in
    let e = ap all_numbers c.in_ok-place.ensures.next.0 ∙ ap (added c.in_ok-place.place) c.loop-i.invariant.2 in
    let is : c.from_residual-in_err-n.result ≡ Err why = search rules in
    rw is (read.0, subst NoRow (sym e) (stopped (words_of c.loop-i.scanner) c.in_ok-place.place ns read.1 short))

pub returns-then-n-gt-LARGEST : goal.returns-then-n-gt-LARGEST
returns-then-n-gt-LARGEST c =
    let ns = take c.loop-i.i c.loop-i.numbers in
    let e = ap all_numbers c.in_ok-place.ensures.next.0
    ∙ ap (added c.in_ok-place.place) (c.loop-i.invariant.2 ∙ ap (λ ts. prefixed ns (all_numbers ts)) c.in_ok-n.ensures.next.0) in
    (refl, subst NoRow (sym e) (too_wide c.in_ok-place.place ns c.in_ok-n.n _ c.if-n-gt-LARGEST.true))

pub loop-i-preserved : goal.loop-i-preserved
loop-i-preserved c =
    let i = c.loop-i.i in
    let ns = take i c.loop-i.numbers in
    let n = c.in_ok-n.n in
    let inv = c.loop-i.invariant in
    let next = c.in_ok-n.ensures.next in
    let more = take_more_set c.loop-i.numbers i n (omega arith) in (
      length-set c.loop-i.numbers i n ∙ inv.0,
      rw more (narrow_more ns n inv.1 (omega arith)),
      inv.2 ∙ (ap (λ ts. prefixed ns (all_numbers ts)) next.0 ∙ sym (rw more (prefixed_more ns n _))),
      next.1 ∙ inv.3,
      next.2 ∙ inv.4,
    )

pub returns : goal.returns
returns c =
    let ns = c.loop-i.numbers in
    let inv = c.loop-i.invariant in
    let first = c.in_ok-place.ensures.next in
    let last = c.in_ok-end_of_line.ensures.ended in
    let none = ended (words_of c.loop-i.scanner) _ c.in_ok-end_of_line.ensures.value in
    let all : take c.loop-i.i ns ≡ ns = take_all c.loop-i.i ns (omega arith) in
    let e = ap all_numbers first.0 ∙ ap (added c.in_ok-place.place) (inv.2 ∙ ap (λ ts. prefixed (take c.loop-i.i ns) (all_numbers ts)) none) in
    (e ∙ rw (all, prefixed_all ns), (last.0 ∙ (inv.3 ∙ first.1), λ h. last.1 h ∙ ap (λ m. m + 1) (inv.4 ∙ first.2)))
