use Rattle.std.proofs.Common.{◌≡◌, ◌^◌, ◌<◌, drop}
use Rattle.description.specs.Words.{digits_after}
use Rattle.description.proofs.words.number.Given as goal

abbrev pub invariant-loop-b : goal.invariant-loop-b
invariant-loop-b l = (l.n < 10 ^ l.b-index) × (digits_after l.n (drop l.b-index l.word) ≡ digits_after 0 l.word)
