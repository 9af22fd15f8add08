use Rattle.std.proofs.Common.{rules, ◌≡◌, length, Err, sym, ap, ◌∙◌, arith}
use Rattle.std.proofs.lemmas.Bool.{eqb-true, eqb-false}
use Rattle.description.specs.Scan.{rest_of, line_at}
use Rattle.description.specs.Meaning.{parts_of}
use Rattle.description.proofs.Judged.{after_less, at_end, stopped_at, taken_line, too_long, went_on, from_first}
use Rattle.description.proofs.describe.Goals as goal

pub returns-then-text-gt-LONGEST-clause-value : goal.returns-then-text-gt-LONGEST-clause-value
returns-then-text-gt-LONGEST-clause-value c = ap Err c.refusal.ensures ∙ sym (too_long c.args.text.now (omega arith))

pub loop-scanner-init : goal.loop-scanner-init
loop-scanner-init c =
    let first = from_first c.args.text.now (omega arith) in
    let l = c.new-scanner.ensures.line in
    let r = c.new-scanner.ensures.rest in
    let d = c.new-draft.ensures in cc

pub returns-in_err-map_err-clause-value : goal.returns-in_err-map_err-clause-value
returns-in_err-map_err-clause-value c =
    let s = c.loop-scanner.scanner in
    let y = c.in_err-map_err.field-0.0 in
    let is : c.from_residual.result ≡ Err y = search rules in
    let stop = stopped_at c.read_line.result c.map_err.result _ (line_at s) (parts_of c.loop-scanner.draft) (parts_of c.read_line.new.draft) (rest_of s) y
    c.in_err-map_err.was c.read_line.ensures.value c.map_err.ensures.cases (λ e z q. search rules) in
    rw is (sym stop ∙ sym c.loop-scanner.invariant)

pub loop-scanner-smaller : goal.loop-scanner-smaller
loop-scanner-smaller c =
    let some = eqb-false (length (rest_of c.loop-scanner.scanner)) 0 (sym c.loop-scanner-test.ensures) in
    let on = went_on c.read_line.result (parts_of c.read_line.new.draft) _ _ c.in_ok-map_err.ensures.variant c.read_line.ensures.value c.read_line.ensures.ended in
    omega (arith, after_less (rest_of c.loop-scanner.scanner) (omega arith), ap length on.1.0)

pub loop-scanner-preserved : goal.loop-scanner-preserved
loop-scanner-preserved c =
    let s = c.loop-scanner.scanner in
    let t = c.read_line.new.scanner in
    let on = went_on c.read_line.result (parts_of c.read_line.new.draft) _ _ c.in_ok-map_err.ensures.variant c.read_line.ensures.value c.read_line.ensures.ended in
    c.loop-scanner.invariant
    ∙ taken_line (line_at s) (line_at t) (parts_of c.loop-scanner.draft) (parts_of c.read_line.new.draft) (rest_of s) (rest_of t) on.0 on.1.0 on.1.1

pub returns-clause-value : goal.returns-clause-value
returns-clause-value c =
    let s = c.loop-scanner.scanner in
    let empty = eqb-true (length (rest_of s)) 0 (sym c.loop-scanner-test.ensures) in
    let end = at_end (line_at s) (parts_of c.loop-scanner.draft) (rest_of s) empty in
    c.finish.ensures ∙ (sym end ∙ sym c.loop-scanner.invariant)
