use Rattle.std.proofs.Common.{◌≡◌, ℕ, suc, ◌+◌, List, [], ◌∷◌, ◌++◌, map, length, drop, vec_items, sym, ap, ◌∙◌, subst, arith}
use Rattle.std.proofs.lemmas.List.{length-map}
use Rattle.std.proofs.lemmas.Result.{err_from_is_err_and}
use Rattle.std.specs.declared.alloc.Global.{Global}
use Rattle.packing.specs.Plans.{work_of}
use Rattle.packing.specs.Sealing.{means_in}
use Rattle.packing.proofs.Filled.{Held, held_first, held_more, held_fault, held_last, next_work, no_more}
use Rattle.packing.proofs.sealer.Sealer.fill.Goals as goal

pub loop-i-init : goal.loop-i-init
loop-i-init c =
    let xs = c.args.planned.now in
    let many : length xs ≡ length (map work_of xs) = sym (length-map xs work_of) in
    held_first (means_in c.args.self)
    (map work_of xs) (vec_items c.in_ok-file.file) (vec_items c.new-bodies.result)
    (c.in_ok-file.ensures.items ∙ ap (λ (n : ℕ). 1 ∷ n ∷ 0 ∷ 0 ∷ []) many) c.new-bodies.ensures.items

pub returns-in_err-sealed : goal.returns-in_err-sealed
returns-in_err-sealed c =
    let m = means_in c.args.self in
    let xs = c.args.planned.now in
    let i : ℕ = c.loop-i.i in
    let p = err_from_is_err_and c.from_residual-in_err-sealed.result c.from_residual-in_err-sealed.ensures.1 in
    rw (p.1, p.2) (held_fault (vec_items {Z = Global}) m (map work_of xs) (drop i (map work_of xs)) (drop (i + 1) (map work_of xs)) (work_of c.index-planned-i.result) (i + 1) (vec_items c.loop-i.file) (vec_items c.loop-i.bodies) c.in_err-sealed.field-0.0
    c.loop-i.invariant (next_work xs i c.index-planned-i.result (omega arith) c.index-planned-i.is) c.in_err-sealed.ensures)

pub loop-i-preserved : goal.loop-i-preserved
loop-i-preserved c =
    let m = means_in c.args.self in
    let xs = c.args.planned.now in
    let i : ℕ = c.loop-i.i in
    let s = c.in_ok-sealed.ensures in
    let file : vec_items c.extend_from_slice.new.self ≡ vec_items c.loop-i.file ++ c.in_ok-sealed.sealed.entry = c.in_ok-extend_from_slice.ensures.items in
    let text : vec_items c.extend_from_slice-in-loop-i.new.self ≡ vec_items c.loop-i.bodies ++ c.as_slice.result.now = c.in_ok-extend_from_slice-2.ensures.items in
    let e : suc (i + 1) ≡ i + 1 + 1 = omega arith in
    subst (λ (n : ℕ). Held m (map work_of xs) (drop (i + 1) (map work_of xs)) n (vec_items c.extend_from_slice.new.self) (vec_items c.extend_from_slice-in-loop-i.new.self)) e
    (held_more m (map work_of xs) (drop i (map work_of xs)) (drop (i + 1) (map work_of xs)) (work_of c.index-planned-i.result) (i + 1) (vec_items c.loop-i.file) (vec_items c.loop-i.bodies)
    (vec_items c.extend_from_slice.new.self) (vec_items c.extend_from_slice-in-loop-i.new.self) c.in_ok-sealed.sealed.entry c.as_slice.result.now
    c.loop-i.invariant (next_work xs i c.index-planned-i.result (omega arith) c.index-planned-i.is) s.fits s.kept s.entry (c.as_slice.ensures.value ∙ s.body) file text)

pub returns : goal.returns
returns c =
    let m = means_in c.args.self in
    let xs = c.args.planned.now in
    let i : ℕ = c.loop-i.i in
    let whole : vec_items c.extend_from_slice-2.new.self ≡ vec_items c.loop-i.file ++ c.as_slice-2.result.now = c.in_ok-extend_from_slice-3.ensures.items in
    held_last m (map work_of xs) (drop i (map work_of xs)) (i + 1) (vec_items c.loop-i.file) (vec_items c.loop-i.bodies) (vec_items c.extend_from_slice-2.new.self)
    c.loop-i.invariant (no_more xs i (omega arith)) (whole ∙ ap (λ (x : List ℕ). vec_items c.loop-i.file ++ x) c.as_slice-2.ensures.value)
