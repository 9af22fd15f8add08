use Rattle.std.proofs.Common.{ℕ, replicate, sym, ap, ◌∙◌, arith, length-take-le}
use Rattle.downloads.specs.declared.arrivals.Arrival.TheVariants.{Missing}
use Rattle.downloads.proofs.Marks.{take_equal}
use Rattle.downloads.proofs.arrivals.ArrivalRecord.clear.Goals as goal

pub returns : goal.returns
returns c =
    let r = c.args.self.now in
    take_equal r.count 2048 Missing r.within
    ∙ ap (λ (n : ℕ). replicate n Missing) (sym (length-take-le r.count r.marks (omega (arith, r.full, r.within))))
