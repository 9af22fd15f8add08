use Rattle.std.proofs.Common.{◌^◌, ◌<◌, arith}
use Rattle.modes.proofs.Stepping.{third_stepped, fourth_stepped}
use Rattle.modes.proofs.masks.Counters.of_block.Goals as goal

pub returns-clause-stepped : goal.returns-clause-stepped
returns-clause-stepped c =
    let y = c.args.self.third in
    let z = c.args.self.fourth in
    let i = c.args.i in
    let small : y < 2 ^ 32 = omega arith in
    let low : z < 2 ^ 32 = omega arith in
    rw (c.from.ensures, c.from-2.ensures, c.from-3.ensures, c.from-4.ensures) (third_stepped y i small, fourth_stepped z i low)
