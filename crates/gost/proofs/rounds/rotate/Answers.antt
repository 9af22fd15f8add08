use Rattle.std.proofs.Common.{◌∙◌, rules}
use Rattle.gost.specs.law.Nibbles.{rotated_or}
use Rattle.gost.proofs.rounds.rotate.Goals as goal

pub returns : goal.returns
returns c = c.rotate_left.ensures ∙ rotated_or c.args.v (search rules)
