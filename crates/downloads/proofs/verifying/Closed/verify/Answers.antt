use Rattle.std.proofs.Common.{true, false, refl, sym, ◌∙◌}
use Rattle.std.proofs.lemmas.Bool.{eq-eqb, ne_eqb}
use Rattle.refusals.specs.Codes.{code_of}
use Rattle.gost.specs.Keyed.{rows_in, words_in}
use Rattle.downloads.specs.States.{section_in}
use Rattle.downloads.proofs.Verified.{verify_refused, verify_done}
use Rattle.downloads.proofs.verifying.Closed.verify.Goals as goal

pub returns-in-Err : goal.returns-in-Err
returns-in-Err g c =
    let w = verify_refused (rows_in c.args.tag) (words_in c.args.tag) (section_in c.args.self) (g.T.Target.state c.args.target.now) c.args.page.now (code_of c.in-Err.refusal) c.in-Err.ensures in
    record { answer = w.0; state = refl; page = w.1 }

pub returns-then-value-self : goal.returns-then-value-self
returns-then-value-self g c =
    let s = section_in c.args.self in
    let w = verify_done (rows_in c.args.tag) (words_in c.args.tag) s (g.T.Target.state c.args.target.now) c.args.page.now true c.value_on-value.new.page
    c.in_default.ensures (sym (eq-eqb _ s.tag (sym c.value_on-value.ensures.value ∙ c.if-value-self.true))) c.value_on-value.ensures.page in
    record { answer = w.0; state = refl; page = w.1 }

pub returns-else-value-self : goal.returns-else-value-self
returns-else-value-self g c =
    let s = section_in c.args.self in
    let w = verify_done (rows_in c.args.tag) (words_in c.args.tag) s (g.T.Target.state c.args.target.now) c.args.page.now false c.value_on-value.new.page
    c.in_default.ensures (sym (ne_eqb _ s.tag (λ e. c.if-value-self.false (c.value_on-value.ensures.value ∙ e)))) c.value_on-value.ensures.page in
    record { answer = w.0; state = refl; page = w.1 }
