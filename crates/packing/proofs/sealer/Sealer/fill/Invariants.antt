use Rattle.std.proofs.Common.{◌+◌, map, drop, vec_items}
use Rattle.packing.specs.Plans.{work_of}
use Rattle.packing.specs.Sealing.{means_in}
use Rattle.packing.proofs.Filled.{Held}
use Rattle.packing.proofs.sealer.Sealer.fill.Given as goal

abbrev pub invariant-loop-i : goal.invariant-loop-i
invariant-loop-i l =
    Held (means_in l.self) (map work_of l.planned) (drop l.i (map work_of l.planned)) (l.i + 1) (vec_items l.file) (vec_items l.bodies)
