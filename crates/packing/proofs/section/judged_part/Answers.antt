use Rattle.std.proofs.Common.{◌≡◌, ℕ, length, take, sym, ap, ◌∙◌, inl, inr, arith}
use Rattle.std.proofs.lemmas.List.{take_all}
use Rattle.std.proofs.lemmas.Bool.{cases_lt}
use Rattle.packing.proofs.section.judged_part.Goals as goal

pub returns : goal.returns
returns c =
    let xs = c.args.image.now in
    elim (cases_lt 16385 (length xs)) [
      | inl long ↦ (let e : c.min.result ≡ 16385 = omega arith in ap (λ (k : ℕ). take k xs) e)
      | inr short ↦ take_all c.min.result xs (omega arith) ∙ sym (take_all 16385 xs short)
    ]
