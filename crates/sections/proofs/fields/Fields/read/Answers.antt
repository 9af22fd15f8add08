use Rattle.std.proofs.Common.{◌∙◌, arith}
use Rattle.sections.specs.Entries.{fields_of}
use Rattle.sections.proofs.Numbers.{two_at, four_at, eight_at}
use Rattle.sections.proofs.fields.Fields.read.Goals as goal

pub returns : goal.returns
unfolding fields_of
returns c =
    let e = c.args.entry.now in
    let page = c.from_le_bytes.ensures ∙ two_at c.part.result e 4 (omega arith) c.part.ensures in
    let zeros = c.from_le_bytes-2.ensures ∙ two_at c.part-2.result e 6 (omega arith) c.part-2.ensures in
    let long = c.from_le_bytes-3.ensures ∙ four_at c.part-3.result e 8 (omega arith) c.part-3.ensures in
    let first = c.from_le_bytes-4.ensures ∙ eight_at c.part-4.result e 12 (omega arith) c.part-4.ensures in
    let second = c.from_le_bytes-5.ensures ∙ eight_at c.part-5.result e 20 (omega arith) c.part-5.ensures in
    let tag = c.from_le_bytes-6.ensures ∙ four_at c.part-6.result e 28 (omega arith) c.part-6.ensures in cc
