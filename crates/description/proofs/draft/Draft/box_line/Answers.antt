use Rattle.std.proofs.Common.{◌-◌, ◌∙◌, ap, length-set}
use Rattle.description.specs.Limits.{sound_row}
use Rattle.description.proofs.Marks.{sound_set, sound_given}
use Rattle.description.proofs.draft.Draft.box_line.Goals as goal

pub invariant_of-self : goal.invariant_of-self
invariant_of-self c =
    let old = c.args.self.now.sound in
    let rows = c.args.self.now.rows in
    let i = c.args.row.place - 1 in
    let row = ap sound_row c.give.ensures.slot ∙ sound_given rows i c.args.row.numbers old.4 c.args.row.narrow in
    record { sound = (old.0, old.1, old.2, length-set rows i c.give.new.slot ∙ old.3, sound_set rows i c.give.new.slot row old.4) }
