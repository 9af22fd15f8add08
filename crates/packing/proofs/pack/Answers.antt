use Rattle.std.proofs.Common.{◌≡◌, ℕ, ◌≤◌, List, map, length, Ok, Err, vec_items, sym, ap, ◌∙◌, subst, arith}
use Rattle.std.proofs.lemmas.List.{length-map}
use Rattle.std.proofs.lemmas.Grind.{common_steps}
use Rattle.std.proofs.lemmas.Result.{err_from_is_err_and}
use Rattle.refusals.specs.Codes.{code_of}
use Rattle.description.specs.Meaning.{meaning_of}
use Rattle.sections.specs.Files.{listed}
use Rattle.sections.specs.Meaning.{sections_in}
use Rattle.packing.specs.Plans.{work_of}
use Rattle.keys.specs.Keys.{Spread, spread_in}
use Rattle.packing.specs.Packed.{means_of}
use Rattle.packing.specs.Laws.{HoldsFor}
use Rattle.packing.proofs.Granted.{with_keys, keys_are, as_listed, holds_for}
use Rattle.packing.proofs.pack.Goals as goal

pub returns-in_err-list-clause-answer : goal.returns-in_err-list-clause-answer
returns-in_err-list-clause-answer c =
    let target = meaning_of c.args.target.now in
    let xs = c.args.planned.now in
    let k = spread_in c.in_ok-keys.keys in
    let n = length-map xs work_of in
    let some : 1 ≤ length xs = grind (arith, common_steps) in
    let few : length xs ≤ 8 = grind (arith, common_steps) in
    let got : Err (code_of c.in_err-list.field-0.0) ≡ listed target.page_length target.page_count (vec_items c.in_ok-file.file)
    = c.in_err-list.ensures.value ∙ ap (λ (x : List ℕ). listed target.page_length target.page_count x) c.as_slice.ensures.value in
    let p = err_from_is_err_and c.from_residual-in_err-list.result c.from_residual-in_err-list.ensures.1 in
    rw (p.1, p.2) (sym (with_keys target c.args.keys.now (map work_of xs) k c.in_ok-keys.ensures
    ∙ as_listed target.page_length target.page_count (means_of target k) (map work_of xs) (vec_items c.in_ok-file.file) (Err (code_of c.in_err-list.field-0.0)) (omega (arith, c.args.target.now.allowed.0)) (omega arith) (omega arith) c.in_ok-file.ensures got))

pub returns-clause-answer : goal.returns-clause-answer
returns-clause-answer c =
    let target = meaning_of c.args.target.now in
    let xs = c.args.planned.now in
    let k = spread_in c.in_ok-keys.keys in
    let n = length-map xs work_of in
    let some : 1 ≤ length xs = grind (arith, common_steps) in
    let few : length xs ≤ 8 = grind (arith, common_steps) in
    let file = vec_items c.in_ok-file.file in
    let ss = sections_in c.in_ok-list.field-0 in
    let got : Ok ss ≡ listed target.page_length target.page_count file
    = c.in_ok-list.ensures.value ∙ ap (λ (x : List ℕ). listed target.page_length target.page_count x) c.as_slice.ensures.value in
    sym (with_keys target c.args.keys.now (map work_of xs) k c.in_ok-keys.ensures
    ∙ as_listed target.page_length target.page_count (means_of target k) (map work_of xs) file (Ok ss) (omega (arith, c.args.target.now.allowed.0)) (omega arith) (omega arith) c.in_ok-file.ensures got)

pub returns-clause-holds : goal.returns-clause-holds
returns-clause-holds c =
    let target = meaning_of c.args.target.now in
    let xs = c.args.planned.now in
    let k = spread_in c.in_ok-keys.keys in
    let n = length-map xs work_of in
    let some : 1 ≤ length xs = grind (arith, common_steps) in
    let few : length xs ≤ 8 = grind (arith, common_steps) in
    let file = vec_items c.in_ok-file.file in
    let ss = sections_in c.in_ok-list.field-0 in
    let got : Ok ss ≡ listed target.page_length target.page_count file
    = c.in_ok-list.ensures.value ∙ ap (λ (x : List ℕ). listed target.page_length target.page_count x) c.as_slice.ensures.value in
    subst (λ (s : Spread). HoldsFor target.page_length target.page_count (means_of target s) (map work_of xs) file) (keys_are c.args.keys.now k c.in_ok-keys.ensures)
    (holds_for target.page_length target.page_count (means_of target k) (map work_of xs) file ss (omega (arith, c.args.target.now.allowed.0)) (omega arith) (omega arith) c.in_ok-file.ensures got)
