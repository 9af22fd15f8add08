use Rattle.std.proofs.Common.{◌∙◌}
use Rattle.blocks.proofs.Words.{word-written, long_written}
use Rattle.packing.proofs.Entered.{entry_is}
use Rattle.packing.proofs.plan.Plan.entry.Goals as goal

pub returns-clause-value : goal.returns-clause-value
returns-clause-value c =
    entry_is c.args.self c.args.length c.from.result c.number.result c.sync-sync.result
    c.copy_from_slice.new.self c.copy_from_slice-2.new.self c.copy_from_slice-3.new.self c.copy_from_slice-4.new.self
    c.from.ensures c.number.ensures c.sync-sync.ensures
    (c.copy_from_slice.ensures.after ∙ c.to_le_bytes.ensures)
    (c.copy_from_slice-2.ensures.after ∙ (c.to_le_bytes-2.ensures ∙ word-written c.args.length))
    (c.copy_from_slice-3.ensures.after ∙ (c.to_le_bytes-3.ensures ∙ long_written c.sync-sync.result.first))
    (c.copy_from_slice-4.ensures.after ∙ (c.to_le_bytes-4.ensures ∙ long_written c.sync-sync.result.second))
