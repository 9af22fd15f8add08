use Rattle.std.proofs.Common.{◌≡◌, ℕ, ◌+◌, ◌-◌, ◌≤◌, List, length, take, drop, replicate, sym, ap, ◌∙◌, arith, length-drop, length-take, length-take-le}
use lib.ListN.{length-replicate}
use Rattle.downloads.specs.declared.arrivals.Arrival.{Arrival}
use Rattle.downloads.specs.declared.arrivals.Arrival.TheVariants.{Arrived}
use Rattle.downloads.specs.Marks.{put_at}
use Rattle.downloads.proofs.Parts.{put_mid_lem, put_within}
use Rattle.downloads.proofs.arrivals.ArrivalRecord.mark.Goals as goal

pub returns : goal.returns
returns c =
    let r = c.args.self.now in
    let first = c.args.first in
    let blocks = c.args.blocks in
    let held : r.count ≤ length r.marks = omega (arith, r.full, r.within) in
    let within : first + blocks ≤ r.count = omega (arith, c.requires, length-take-le r.count r.marks held) in
    let size : first + blocks - first ≡ blocks = omega arith in
    let part : length (take (first + blocks - first) (drop first r.marks)) ≡ blocks = simp (length-take, length-drop) (omega arith) in
    let filled : c.fill.new.self ≡ replicate blocks Arrived = c.fill.ensures.after (λ y e. e) ∙ ap (λ (n : ℕ). replicate n Arrived) part in
    let long : length (replicate blocks Arrived) ≡ blocks = length-replicate blocks Arrived in
    ap (take r.count)
    (put_mid_lem first (first + blocks - first) r.marks c.fill.new.self (size ∙ sym (ap length filled ∙ long)) ∙ ap (λ (ys : List Arrival). put_at first ys r.marks) filled)
    ∙ put_within r.count first (replicate blocks Arrived) r.marks (omega arith) held
