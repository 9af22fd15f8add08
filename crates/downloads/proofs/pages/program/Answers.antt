use Rattle.std.proofs.Common.{◌≡◌, ℕ, ◌+◌, ◌*◌, ◌<◌, Err, eqb, length, sym, ap, ◌∙◌, subst, ap₂, arith}
use Rattle.std.proofs.lemmas.Result.{err_from_is_err_and}
use Rattle.refusals.specs.Codes.{code_of}
use Rattle.description.specs.Limits.{allowed_length}
use Rattle.modes.specs.Modes.{joined}
use Rattle.modes.specs.Calls.{plain_of}
use Rattle.sections.specs.Meaning.{meaning_of}
use Rattle.targets.specs.Calls.{program_answer, programmed}
use Rattle.downloads.specs.Frames.{block_of}
use Rattle.downloads.specs.Received.{held_by, copies_of, stores}
use Rattle.downloads.specs.Pages.{first_in, count_in, filled_up}
use Rattle.downloads.proofs.Answered.{refused_first, passed_first, store_parts}
use Rattle.downloads.proofs.Given.{parts_unlike, room_unlike, parts_right, parts_from}
use Rattle.downloads.proofs.Programmed.{page_granted, program_unsized, program_refused, program_done, made_is}
use Rattle.downloads.proofs.pages.program.Goals as goal

pub returns-in_err-sized : goal.returns-in_err-sized
returns-in_err-sized g c =
    let s = meaning_of c.args.section.now in
    let map = g.C.BlockCipher.map c.args.cipher.now in
    let t = g.T.Target.state c.args.target.now in
    let r = held_by c.args.received in
    let page = c.args.page.now in
    let q = refused_first c.belongs.result _ c.in_err-sized.ensures in
    let w = program_unsized map s r.body r.marks t c.args.j page (parts_unlike (eqb map.size (block_of s)) (stores s r) (eqb (length page) t.page_length) (sym q.0 ∙ c.belongs.ensures)) in
    let p = err_from_is_err_and c.from_residual.result c.from_residual.ensures.1 in
    record { answer = rw (p.1, p.2) (ap Err q.1 ∙ w.answer); target = w.target; page = w.page_is }

pub returns-in_err-sized-2 : goal.returns-in_err-sized-2
returns-in_err-sized-2 g c =
    let s = meaning_of c.args.section.now in
    let map = g.C.BlockCipher.map c.args.cipher.now in
    let t = g.T.Target.state c.args.target.now in
    let r = held_by c.args.received in
    let page = c.args.page.now in
    let belongs = sym (passed_first c.belongs.result c.in_ok-sized.ensures) ∙ c.belongs.ensures in
    let q = refused_first (eqb (length page) c.page_length-long.result) _ c.in_err-sized-2.ensures in
    let w = program_unsized map s r.body r.marks t c.args.j page (room_unlike _ _ _ belongs (sym q.0 ∙ ap (eqb (length page)) c.page_length-long.ensures.value)) in
    let p = err_from_is_err_and c.from_residual-in_err-sized-2.result c.from_residual-in_err-sized-2.ensures.1 in
    record { answer = rw (p.1, p.2) (ap Err q.1 ∙ w.answer); target = w.target; page = w.page_is }

pub returns-in_err-judge_page : goal.returns-in_err-judge_page
returns-in_err-judge_page g c =
    let s = meaning_of c.args.section.now in
    let map = g.C.BlockCipher.map c.args.cipher.now in
    let t = g.T.Target.state c.args.target.now in
    let r = held_by c.args.received in
    let page = c.args.page.now in
    let right = parts_right _ _ _ (sym (passed_first c.belongs.result c.in_ok-sized.ensures) ∙ c.belongs.ensures)
    (sym (passed_first (eqb (length page) c.page_length-long.result) c.in_ok-sized-2.ensures) ∙ ap (eqb (length page)) c.page_length-long.ensures.value) in
    let w = program_refused map s r.body r.marks t c.args.j page (code_of c.in_err-judge_page.field-0.0) right c.in_err-judge_page.ensures in
    let p = err_from_is_err_and c.from_residual-in_err-judge_page.result c.from_residual-in_err-judge_page.ensures.1 in
    record { answer = rw (p.1, p.2) w.answer; target = w.target; page = w.page_is }

pub prepare-requires : goal.prepare-requires
prepare-requires g c =
    let s = meaning_of c.args.section.now in
    let map = g.C.BlockCipher.map c.args.cipher.now in
    let t = g.T.Target.state c.args.target.now in
    let r = held_by c.args.received in
    let page = c.args.page.now in
    let right = parts_right _ _ _ (sym (passed_first c.belongs.result c.in_ok-sized.ensures) ∙ c.belongs.ensures)
    (sym (passed_first (eqb (length page) c.page_length-long.result) c.in_ok-sized-2.ensures) ∙ ap (eqb (length page)) c.page_length-long.ensures.value) in
    let parts = parts_from s map.size (length r.body) (length r.marks) (length page) t.page_length (sym right) in
    let ok = page_granted s t (copies_of (block_of s) r) c.args.j (sym c.in_ok-judge_page.ensures) in
    record {
      parts = (parts.size, (store_parts s (length r.body) (length r.marks) parts.store).0);
      page = ap allowed_length parts.room_is ∙ (g.met.T.Target.formed c.args.target.now).sized;
      inside = subst (λ (k : ℕ). k < s.length) (ap₂ (λ (a b : ℕ). a * b) (sym c.from.ensures) (sym parts.room_is)) ok.inside;
    }

pub returns : goal.returns
returns g c =
    let s = meaning_of c.args.section.now in
    let map = g.C.BlockCipher.map c.args.cipher.now in
    let t = g.T.Target.state c.args.target.now in
    let r = held_by c.args.received in
    let page = c.args.page.now in
    let right = parts_right _ _ _ (sym (passed_first c.belongs.result c.in_ok-sized.ensures) ∙ c.belongs.ensures)
    (sym (passed_first (eqb (length page) c.page_length-long.result) c.in_ok-sized-2.ensures) ∙ ap (eqb (length page)) c.page_length-long.ensures.value) in
    let j = c.args.j in
    let parts = parts_from s map.size (length r.body) (length r.marks) (length page) t.page_length (sym right) in
    let judged = c.in_ok-judge_page.ensures in
    let ok = page_granted s t (copies_of (block_of s) r) j (sym judged) in
    let buffer = c.prepare.new.page in
    let made = made_is map s r.body r.marks t j page parts.size (g.met.T.Target.formed c.args.target.now).sized ok (length page) c.fill.result buffer parts.room_is c.fill.ensures
    (c.prepare.ensures ∙ ap (λ (k : ℕ). filled_up (length page) c.fill.result (joined (plain_of map s.mode s.sync r.body) (first_in (length page) s k) (count_in (length page) s k))) c.from.ensures) in
    let place : s.first_page + c.from-2.result ≡ s.first_page + j = ap (λ (b : ℕ). s.first_page + b) c.from-2.ensures in
    let w = program_done map s r.body r.marks t j page right judged _ _ buffer made (c.prepare.auto.page ∙ parts.room_is)
    (c.program.ensures.answer ∙ ap (λ (p : ℕ). program_answer t p (length buffer)) place) (c.program.ensures.after ∙ ap (λ (p : ℕ). programmed t p buffer) place) in
    record { answer = w.answer; target = w.target; page = w.page_is }

pub overflow_add-place : goal.overflow_add-place
overflow_add-place g c =
    let s = meaning_of c.args.section.now in
    let t = g.T.Target.state c.args.target.now in
    let ok = page_granted s t (copies_of (block_of s) (held_by c.args.received)) c.args.j (sym c.in_ok-judge_page.ensures) in
    omega (arith, ok.there, (g.met.T.Target.formed c.args.target.now).counted)
