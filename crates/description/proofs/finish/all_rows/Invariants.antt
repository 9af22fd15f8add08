use Rattle.std.proofs.Common.{◌≡◌, length, map, take, Some}
use Rattle.description.proofs.finish.all_rows.Given as goal

abbrev pub invariant-loop-place : goal.invariant-loop-place
invariant-loop-place l = (length l.rows ≡ 8) × (map Some (take l.place l.rows) ≡ take l.place l.given)
