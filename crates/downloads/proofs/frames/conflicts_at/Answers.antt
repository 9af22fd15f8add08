use Rattle.std.proofs.Common.{ℕ, not, List, length, sym, ◌∙◌, ap₂}
use Rattle.std.specs.Str.{bytes_eq}
use Rattle.downloads.specs.Received.{held_by}
use Rattle.downloads.proofs.Framing.{framed, conflict_missing, conflict_arrived, cut_frame, cut_body}
use Rattle.downloads.proofs.frames.conflicts_at.Goals as goal

pub returns-then-not-has : goal.returns-then-not-has
returns-then-not-has c =
    let r = held_by c.args.received in
    sym (conflict_missing c.args.n r.body r.marks c.args.first c.args.frame.now c.args.k (sym c.if-not-has.ensures))

pub returns : goal.returns
returns c =
    let n = c.args.n in
    let f = c.args.first in
    let k = c.args.k in
    let body = (held_by c.args.received).body in
    let frame = c.args.frame.now in
    let fr = framed n (length body) f (length frame) c.requires.frame in
    c.ne.ensures
    ∙ (ap₂ (λ (x y : List ℕ). not (bytes_eq x y))
    (cut_body n f k c.min-end.result body frame c.requires.small.0 c.requires.within.0 c.requires.within.1 fr c.min-end.ensures)
    (cut_frame n f k c.min-end.result body frame c.requires.small.0 c.requires.within.0 c.requires.within.1 fr c.min-end.ensures)
    ∙ sym (conflict_arrived n body (held_by c.args.received).marks f frame k c.requires.within.0 c.requires.within.1 (sym c.if-not-has.ensures)))
