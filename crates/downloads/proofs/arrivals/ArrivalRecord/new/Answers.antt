use Rattle.std.proofs.Common.{Ok, ap}
use Rattle.std.proofs.lemmas.Bool.{le-leb}
use Rattle.downloads.specs.declared.arrivals.Arrival.TheVariants.{Missing}
use Rattle.downloads.proofs.Marks.{take_equal}
use Rattle.downloads.proofs.arrivals.ArrivalRecord.new.Goals as goal

pub returns : goal.returns
returns c =
    let small = c.if-blocks-gt-MOST_BLOCKS.false in
    rw (le-leb c.args.blocks 2048 small) (ap Ok (take_equal c.args.blocks 2048 Missing small))
