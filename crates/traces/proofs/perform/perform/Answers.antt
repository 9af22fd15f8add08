use Rattle.std.proofs.Common.{true, false, cond, length, refl, ap, ◌∙◌}
use Rattle.refusals.specs.Codes.{unless}
use Rattle.sections.specs.Meaning.{meaning_of}
use Rattle.downloads.specs.Received.{Held, body_in, marks_of, close_said, program_said, target_left, page_left}
use Rattle.traces.specs.Traces.{answered, done, not_built}
use Rattle.traces.specs.Bench.{given_from}
use Rattle.traces.specs.Meaning.{call_of, section_of, closed_in}
use Rattle.traces.proofs.Performed.{as_came, marks_kept, body_kept, performs_frame, performs_erase, performs_close, performs_reopen, performs_verify, performs_give, performs_program}
use Rattle.traces.proofs.perform.perform.Goals as goal

pub returns-in-Frame-clause-same : goal.returns-in-Frame-clause-same
returns-in-Frame-clause-same g c =
    let s = section_of c.args.phase in
    let body = body_in c.args.bench.now.received in
    let marks = marks_of c.args.bench.now.received in
    let e = c.on_frame.ensures in
    record {
      cipher = refl;
      tag = refl;
      target = refl;
      received = e.same;
      page = refl;
      body_long = ap length e.body ∙ body_kept s body marks c.in-Frame.first c.in-Frame.bytes.now (closed_in c.args.phase);
      marks_long = ap length e.arrivals ∙ marks_kept s body marks c.in-Frame.first c.in-Frame.bytes.now (closed_in c.args.phase);
      page_long = refl;
    }

pub returns-in-Frame-clause-performs : goal.returns-in-Frame-clause-performs
returns-in-Frame-clause-performs g c =
    let e = c.on_frame.ensures in
    as_came (ap call_of c.in-Frame.is)
    (performs_frame g.C.BlockCipher.map g.T.Target.state (section_of c.args.phase) c.args.bench.now c.requires (closed_in c.args.phase) _ c.in-Frame.first c.in-Frame.bytes.now _ c.on_frame.new.received e.phase.1 e.answer e.body e.arrivals e.copies)

pub returns-in-Give-clause-performs : goal.returns-in-Give-clause-performs
returns-in-Give-clause-performs g c =
    let bench = c.args.bench.now in
    let given = c.on_give-answer.ensures ∙ ap (λ (h : Held). given_from (g.C.BlockCipher.map bench.cipher.now) (meaning_of c.section-section.result) h c.in-Give.block) c.shared.ensures in
    as_came (ap call_of c.in-Give.is)
    (performs_give g.C.BlockCipher.map g.T.Target.state (section_of c.args.phase) c.args.bench.now c.requires c.section-section.result c.section-section.ensures (g.met.C.BlockCipher.lawful c.args.bench.now.cipher.now) (g.met.T.Target.formed c.args.bench.now.target.now)
    c.bring_bytes.ensures (closed_in c.args.phase) c.in-Give.block _ given)

pub returns-in-Erase-clause-performs : goal.returns-in-Erase-clause-performs
returns-in-Erase-clause-performs g c =
    as_came (ap call_of c.in-Erase.is)
    (performs_erase g.C.BlockCipher.map g.T.Target.state (section_of c.args.phase) c.args.bench.now c.requires (closed_in c.args.phase) c.in-Erase.erased _ (g.T.Target.state c.erase.new.self)
    (c.into-answer.ensures ∙ ap (λ r. answered r done) c.erase.ensures.answer) c.erase.ensures.after)

pub returns-in-Program-clause-performs : goal.returns-in-Program-clause-performs
returns-in-Program-clause-performs g c =
    let e = c.program-said.ensures in
    let bench = c.args.bench.now in
    let map = g.C.BlockCipher.map bench.cipher.now in
    let t = g.T.Target.state bench.target.now in
    let s = meaning_of c.section-section.result in
    let j = c.in-Program.j in
    let same = c.shared-in-Program.ensures in
    let answer = e.answer ∙ ap (λ (h : Held). program_said map s h t (length bench.page.now) j) same in
    let target = e.target ∙ ap (λ (h : Held). target_left map s h t (length bench.page.now) j) same in
    let page = e.page ∙ ap (λ (h : Held). page_left map s h t j bench.page.now) same in
    as_came (ap call_of c.in-Program.is)
    (performs_program g.C.BlockCipher.map g.T.Target.state (section_of c.args.phase) c.args.bench.now c.requires c.section-section.result c.section-section.ensures (g.met.C.BlockCipher.lawful c.args.bench.now.cipher.now) (g.met.T.Target.formed c.args.bench.now.target.now)
    c.bring_bytes.ensures (closed_in c.args.phase) c.in-Program.j _ (g.T.Target.state c.program-said.new.target) c.program-said.new.page
    (c.into-answer-in-Program.ensures ∙ ap (λ r. answered r done) answer) target page)

pub returns-in-Close-clause-performs : goal.returns-in-Close-clause-performs
returns-in-Close-clause-performs g c =
    let s = section_of c.args.phase in
    let closed = closed_in c.args.phase in
    let same = c.shared-in-Close.ensures in
    let answer = c.on_close.ensures.answer ∙ ap (λ (h : Held). cond closed not_built (answered (close_said s h) done)) same in
    let after = c.on_close.ensures.closed ∙ ap (λ (h : Held). cond closed true (unless (close_said s h) false true)) same in
    as_came (ap call_of c.in-Close.is) (performs_close g.C.BlockCipher.map g.T.Target.state (section_of c.args.phase) c.args.bench.now c.requires (closed_in c.args.phase) _ _ answer after)

pub returns-in-Reopen-clause-performs : goal.returns-in-Reopen-clause-performs
returns-in-Reopen-clause-performs g c =
    as_came (ap call_of c.in-Reopen.is) (performs_reopen g.C.BlockCipher.map g.T.Target.state (section_of c.args.phase) c.args.bench.now c.requires (closed_in c.args.phase) _ _ c.on_reopen.ensures.answer c.on_reopen.ensures.closed)

pub returns-in-Verify-clause-performs : goal.returns-in-Verify-clause-performs
returns-in-Verify-clause-performs g c =
    let e = c.on_verify.ensures in
    as_came (ap call_of c.in-Verify.is)
    (performs_verify g.C.BlockCipher.map g.T.Target.state (section_of c.args.phase) c.args.bench.now c.requires (closed_in c.args.phase) _ _ c.on_verify.new.page e.closed e.answer e.page)
