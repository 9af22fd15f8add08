use Rattle.std.proofs.Common.{◌≡◌}
use Rattle.gost.specs.Cipher.{sixteen}
use Rattle.gost.specs.Keyed.{rows_in, words_in}
use Rattle.imitovstavka.specs.Parts.{map_in, state_in}
use Rattle.sections.specs.Meaning.{meaning_of}
use Rattle.downloads.proofs.Summed.{Summed}
use Rattle.downloads.proofs.verifying.value_on.Given as goal

abbrev pub invariant-loop-k : goal.invariant-loop-k
invariant-loop-k g l =
    (map_in l.chain ≡ sixteen (rows_in l.tag) (words_in l.tag))
    × Summed (meaning_of l.section) (g.T.Target.state l.target) (sixteen (rows_in l.tag) (words_in l.tag)) l.k (state_in l.chain) l.page
