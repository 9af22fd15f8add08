use Rattle.std.proofs.Common.{ℕ, ◌≤◌, length, sym, subst}
use Rattle.sections.specs.Meaning.{meaning_of}
use Rattle.downloads.specs.Received.{held_by}
use Rattle.downloads.specs.Copies.{copies_in}
use Rattle.downloads.specs.Frames.{block_of}
use Rattle.downloads.proofs.Answered.{block_small}
use Rattle.traces.proofs.GivenOut.{given_out}
use Rattle.traces.proofs.answers.on_give.Goals as goal

pub returns-in-Ok : goal.returns-in-Ok
returns-in-Ok g c =
    let s = meaning_of c.args.section.now in
    let body = (held_by c.args.received).body in
    let marks = (held_by c.args.received).marks in
    let size = c.block_length-n.ensures in
    given_out (g.C.BlockCipher.map c.args.cipher.now) s (length body) (length marks) (copies_in (block_of s) body marks) c.args.i c.block_length-n.result c.in-Ok.count c.give.new.out _ size
    (subst (λ (n : ℕ). n ≤ 16) (sym size) (block_small s.cipher)) c.give.auto.out c.in-Ok.ensures.answer c.give.ensures.out
