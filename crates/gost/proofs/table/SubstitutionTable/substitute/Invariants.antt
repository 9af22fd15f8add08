use Rattle.std.proofs.Common.{◌≡◌, ◌*◌, ◌^◌, ◌<◌, take}
use Rattle.gost.specs.Tables.{substituted}
use Rattle.gost.specs.Cipher.{rows_of}
use Rattle.gost.proofs.table.SubstitutionTable.substitute.Given as goal

abbrev pub invariant-loop-place : goal.invariant-loop-place
invariant-loop-place l = (l.y ≡ substituted (take l.place (rows_of l.self)) l.x) × (l.y < 2 ^ (4 * l.place))
