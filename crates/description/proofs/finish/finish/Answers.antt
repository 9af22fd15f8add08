use Rattle.std.proofs.Common.{◌≡◌, ℕ, true, IfSome, subst, arith}
use Rattle.gost.specs.Tables.{narrow_rows}
use Rattle.description.proofs.Marks.{all_narrow, needed_given}
use Rattle.description.proofs.finish.finish.Goals as goal

-- the rows that were given make a table
pub returns-in_err-table : goal.returns-in_err-table
returns-in_err-table c =
    let draft = c.args.draft.now in
    let rows = c.in_ok-rows.rows in
    let narrow : narrow_rows rows ≡ true
    = subst (λ o. IfSome o (λ rs. narrow_rows rs ≡ true)) (needed_given 5 _ rows c.in_ok-rows.ensures) (all_narrow draft.rows draft.sound.4) in
    let e = rw narrow at c.in_err-table.ensures in
    absurd (let f : ◌≡◌ {A = ℕ} 0 1 = cc e in omega arith)
