use Rattle.std.proofs.Common.{◌≡◌, ℕ, Bool, true, false, not, rules}
use Rattle.std.proofs.lemmas.Iterator.{first_from_Range}
use Rattle.downloads.specs.Marks.{arrived_at, marks_in}
use Rattle.downloads.proofs.Lowest.{searched}
use Rattle.downloads.proofs.arrivals.ArrivalRecord.first_missing.Goals as goal

pub returns : goal.returns
returns c =
    let test : ℕ → Bool = λ k. not (arrived_at (marks_in c.args.self.now) k) in
    searched test c.args.from c.args.end c.find.result (first_from_Range _ _ _ _ (λ k. test k ≡ true) (λ k. test k ≡ false) c.find.ensures.ran (λ x q k. search rules) (λ x q k. (search rules, search rules)))
