use Rattle.std.proofs.Common.{ap, ◌∙◌, arith, length-drop, length-take, rules}
use Rattle.downloads.specs.Received.{Held, held_in, frame_said}
use Rattle.downloads.specs.States.{section_in}
use Rattle.downloads.proofs.Taken.{lies, room, taken}
use Rattle.downloads.proofs.frames.Receiving.take_frame.Goals as goal

pub slice_bounds-write_front-count : goal.slice_bounds-write_front-count
slice_bounds-write_front-count c =
    let r = held_in c.args.received.now in
    let granted = c.in_default.ensures ∙ ap (λ (h : Held). frame_said (section_in c.args.self) h c.args.first c.args.frame.now) c.shared.ensures in
    omega (arith, lies (section_in c.args.self) r.body r.marks c.args.first c.args.frame.now c.block_length-n.result c.block_length-n.ensures granted)

pub slice_bounds-write_front-start : goal.slice_bounds-write_front-start
slice_bounds-write_front-start c =
    let r = held_in c.args.received.now in
    let granted = c.in_default.ensures ∙ ap (λ (h : Held). frame_said (section_in c.args.self) h c.args.first c.args.frame.now) c.shared.ensures in
    let h = lies (section_in c.args.self) r.body r.marks c.args.first c.args.frame.now c.block_length-n.result c.block_length-n.ensures granted in
    search rules

pub write_front-requires : goal.write_front-requires
write_front-requires c =
    let r = held_in c.args.received.now in
    let granted = c.in_default.ensures ∙ ap (λ (h : Held). frame_said (section_in c.args.self) h c.args.first c.args.frame.now) c.shared.ensures in
    let h = lies (section_in c.args.self) r.body r.marks c.args.first c.args.frame.now c.block_length-n.result c.block_length-n.ensures granted in
    simp (length-take, length-drop) (omega (arith, h))

pub mark-requires : goal.mark-requires
mark-requires c =
    let r = held_in c.args.received.now in
    let granted = c.in_default.ensures ∙ ap (λ (h : Held). frame_said (section_in c.args.self) h c.args.first c.args.frame.now) c.shared.ensures in
    room (section_in c.args.self) r.body r.marks c.args.first c.args.frame.now c.block_length-n.result c.block_length-n.ensures granted c.div_ceil.result c.div_ceil.ensures

pub returns-clause-copies : goal.returns-clause-copies
returns-clause-copies c =
    let r = held_in c.args.received.now in
    let granted = c.in_default.ensures ∙ ap (λ (h : Held). frame_said (section_in c.args.self) h c.args.first c.args.frame.now) c.shared.ensures in
    taken (section_in c.args.self) r.body r.marks c.args.first c.args.frame.now c.block_length-n.result c.block_length-n.ensures granted c.div_ceil.result c.div_ceil.ensures
    c.write_front.new.part _ c.write_front.ensures c.mark.ensures
