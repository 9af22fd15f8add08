use Rattle.std.proofs.Common.{◌≡◌, true, length, take}
use Rattle.gost.specs.Tables.{narrow_row}
use Rattle.description.specs.Judge.{all_numbers}
use Rattle.description.specs.Scan.{rest_of, line_at, ahead, after_line}
use Rattle.description.proofs.Numbers.{prefixed}
use Rattle.description.proofs.reading.box_row.Given as goal

abbrev pub invariant-loop-i : goal.invariant-loop-i
invariant-loop-i l =
    (length l.numbers ≡ 16) × (narrow_row (take l.i l.numbers) ≡ true)
    × (all_numbers (ahead (rest_of l.initial.scanner)) ≡ prefixed (take l.i l.numbers) (all_numbers (ahead (rest_of l.scanner))))
    × (after_line (rest_of l.scanner) ≡ after_line (rest_of l.initial.scanner)) × (line_at l.scanner ≡ line_at l.initial.scanner)
