use Rattle.std.proofs.Common.{ℕ, ap, ◌∙◌}
use lib.Bits.{bit_xor}
use Rattle.gost.specs.declared.rounds.Registers.{Registers}
use Rattle.gost.specs.Rounds.{rotated, mixed, round}
use Rattle.gost.proofs.cipher.Gost.round.Goals as goal

pub returns : goal.returns
unfolding mixed round
returns c =
    let with : ℕ → Registers = λ m. record { n1 = bit_xor m c.args.s.n2; n2 = c.args.s.n1 } in
    ap with (c.rotate-mixed.ensures ∙ ap rotated c.substitute.ensures)
