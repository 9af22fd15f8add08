use Rattle.std.proofs.Common.{Err, eqb, length, sym, ap, ◌∙◌}
use Rattle.std.proofs.lemmas.Result.{err_from_is_err_and}
use Rattle.refusals.specs.Codes.{code_of}
use Rattle.sections.specs.Meaning.{meaning_of}
use Rattle.downloads.specs.Frames.{block_of}
use Rattle.downloads.specs.Received.{held_by, copies_of, stores}
use Rattle.downloads.proofs.Answered.{refused_first, passed_first}
use Rattle.downloads.proofs.Given.{parts_unlike, room_unlike, parts_right, give_unsized, give_refused, given_is}
use Rattle.downloads.proofs.giving.give.Goals as goal

pub returns-in_err-sized : goal.returns-in_err-sized
returns-in_err-sized g c =
    let s = meaning_of c.args.section.now in
    let map = g.C.BlockCipher.map c.args.cipher.now in
    let r = held_by c.args.received in
    let q = refused_first c.belongs.result _ c.in_err-sized.ensures in
    let w = give_unsized map s (length r.body) (length r.marks) (copies_of (block_of s) r) c.args.i c.args.out.now (parts_unlike (eqb map.size (block_of s)) (stores s r) (eqb (length c.args.out.now) (block_of s)) (sym q.0 ∙ c.belongs.ensures)) in
    let p = err_from_is_err_and c.from_residual.result c.from_residual.ensures.1 in
    record { answer = rw (p.1, p.2) (ap Err q.1 ∙ w.0); out = w.1 }

pub returns-in_err-sized-2 : goal.returns-in_err-sized-2
returns-in_err-sized-2 g c =
    let s = meaning_of c.args.section.now in
    let map = g.C.BlockCipher.map c.args.cipher.now in
    let r = held_by c.args.received in
    let out = c.args.out.now in
    let belongs = sym (passed_first c.belongs.result c.in_ok-sized.ensures) ∙ c.belongs.ensures in
    let q = refused_first (eqb (length out) c.block_length.result) _ c.in_err-sized-2.ensures in
    let w = give_unsized map s (length r.body) (length r.marks) (copies_of (block_of s) r) c.args.i out (room_unlike _ _ _ belongs (sym q.0 ∙ ap (eqb (length out)) c.block_length.ensures)) in
    let p = err_from_is_err_and c.from_residual-in_err-sized-2.result c.from_residual-in_err-sized-2.ensures.1 in
    record { answer = rw (p.1, p.2) (ap Err q.1 ∙ w.0); out = w.1 }

pub returns-in_err-judge_block : goal.returns-in_err-judge_block
returns-in_err-judge_block g c =
    let s = meaning_of c.args.section.now in
    let map = g.C.BlockCipher.map c.args.cipher.now in
    let r = held_by c.args.received in
    let out = c.args.out.now in
    let right = parts_right _ _ _ (sym (passed_first c.belongs.result c.in_ok-sized.ensures) ∙ c.belongs.ensures)
    (sym (passed_first (eqb (length out) c.block_length.result) c.in_ok-sized-2.ensures) ∙ ap (eqb (length out)) c.block_length.ensures) in
    let w = give_refused map s (length r.body) (length r.marks) (copies_of (block_of s) r) c.args.i out (code_of c.in_err-judge_block.field-0.0) right c.in_err-judge_block.ensures in
    let p = err_from_is_err_and c.from_residual-in_err-judge_block.result c.from_residual-in_err-judge_block.ensures.1 in
    record { answer = rw (p.1, p.2) w.0; out = w.1 }

pub returns : goal.returns
returns g c =
    let s = meaning_of c.args.section.now in
    let map = g.C.BlockCipher.map c.args.cipher.now in
    let r = held_by c.args.received in
    let out = c.args.out.now in
    let right = parts_right _ _ _ (sym (passed_first c.belongs.result c.in_ok-sized.ensures) ∙ c.belongs.ensures)
    (sym (passed_first (eqb (length out) c.block_length.result) c.in_ok-sized-2.ensures) ∙ ap (eqb (length out)) c.block_length.ensures) in
    let w = given_is map s r.body r.marks c.args.i out right
    c.args.section.now.agreed c.args.section.now.whole c.in_ok-judge_block.ensures _ c.decipher_block.new.out c.decipher_block.ensures.answer c.decipher_block.ensures.out in
    record { answer = w.0; out = w.1 }
