use Rattle.std.proofs.Common.{◌≡◌, length}
use Rattle.description.specs.Judge.{judged}
use Rattle.description.specs.Meaning.{parts_of}
use Rattle.description.specs.Scan.{rest_of, line_at}
use Rattle.description.proofs.Judged.{judged_from}
use Rattle.description.proofs.describe.Given as goal

abbrev pub invariant-loop-scanner : goal.invariant-loop-scanner
invariant-loop-scanner l = judged l.text ≡ judged_from (line_at l.scanner) (parts_of l.draft) (rest_of l.scanner)

abbrev pub decreases-loop-scanner : goal.decreases-loop-scanner
decreases-loop-scanner l = length (rest_of l.scanner)
