use Rattle.std.proofs.Common.{rules, sym, arith}
use Rattle.description.proofs.Marks.{one_missing}
use Rattle.description.proofs.finish.all_rows.Goals as goal

pub returns-in_err-rows : goal.returns-in_err-rows
returns-in_err-rows c =
    rw (one_missing c.args.given.now c.loop-place.place (omega arith) (sym c.in_err-rows.ensures.variant)) (search rules)
