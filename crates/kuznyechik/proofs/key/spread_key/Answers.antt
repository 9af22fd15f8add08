use Rattle.std.proofs.Common.{length, drop, ◌∙◌, arith, length-drop}
use Rattle.std.proofs.lemmas.List.{take_all, length-set}
use Rattle.std.proofs.lemmas.Bool.{eq-eqb}
use Rattle.kuznyechik.proofs.Pairs.{filled_first, filled_more, filled_all}
use Rattle.kuznyechik.proofs.key.spread_key.Goals as goal

pub loop-i-init : goal.loop-i-init
loop-i-init c =
    let key = c.args.key.now in
    let keys = c.args.keys.now in
    let a1 = c.copy_from_slice.new.self in
    let a0 = c.copy_from_slice-2.new.self in
    let rest = take_all 16 (drop 16 key) (simp length-drop (omega (arith, c.in_ok-judge_length.ensures.sized))) in (
      filled_first keys key a1 a0 (omega arith) c.copy_from_slice.ensures.after (c.copy_from_slice-2.ensures.after ∙ rest),
      simp length-set (omega arith),
      omega arith,
      omega arith,
    )

pub invariant_of-pair : goal.invariant_of-pair
invariant_of-pair c = record { sixteen = (omega arith, omega arith) }

pub loop-i-preserved : goal.loop-i-preserved
loop-i-preserved c =
    let p = c.loop-i.pair in
    let q = c.next-pair.result in (
      filled_more c.loop-i.keys _ c.loop-i.i (p.0, p.1.0) (q.a1, q.a0) c.loop-i.invariant.1 (omega arith) c.next-pair.ensures c.loop-i.invariant.0,
      simp length-set c.loop-i.invariant.1,
      q.sixteen.0,
      q.sixteen.1,
    )

pub returns-clause-keys : goal.returns-clause-keys
returns-clause-keys c =
    let p = c.loop-i.pair in
    let all = filled_all c.loop-i.keys c.loop-i.i (p.0, p.1.0) c.loop-i.invariant.1 (omega arith) ∙ c.loop-i.invariant.0 in
    let long = eq-eqb (length c.args.key.now) 32 c.in_ok-judge_length.ensures.sized in
    all ∙ rw long
