use Rattle.std.proofs.Common.{◌≡◌, ℕ, ◌-◌, Bool, Err, length, sym, ap, ◌∙◌, ap₂, arith}
use Rattle.std.proofs.lemmas.Result.{err_from_is_err_and}
use Rattle.sections.specs.Meaning.{meaning_of}
use Rattle.downloads.specs.Marks.{lowest}
use Rattle.downloads.specs.Frames.{block_of, blocks_of}
use Rattle.downloads.specs.Received.{held_by, copies_of}
use Rattle.downloads.proofs.Marks.{lacks_are}
use Rattle.downloads.proofs.Answered.{refused_first, passed_first, store_parts, close_unsized, close_found}
use Rattle.downloads.proofs.frames.judge_closing.Goals as goal

pub returns-in_err-sized : goal.returns-in_err-sized
returns-in_err-sized c =
    let s = meaning_of c.args.section.now in
    let r = held_by c.args.received in
    let w = refused_first c.stores.result _ c.in_err-sized.ensures in
    let p = err_from_is_err_and c.from_residual.result c.from_residual.ensures.1 in
    rw (p.1, p.2) (ap Err w.1 ∙ close_unsized s (length r.body) (length r.marks) (copies_of (block_of s) r) 0 r.body (sym w.0 ∙ c.stores.ensures))

pub returns : goal.returns
returns c =
    let s = meaning_of c.args.section.now in
    let r = held_by c.args.received in
    let right = sym c.stores.ensures ∙ passed_first c.stores.result c.in_ok-sized.ensures in
    let many : c.blocks-blocks.result - 0 ≡ blocks_of s = omega (arith, c.blocks-blocks.ensures, (store_parts s (length r.body) (length r.marks) right).1) in
    c.refused_at.ensures
    ∙ close_found s (length r.body) (length r.marks) (copies_of (block_of s) r) 0 r.body c.first_missing-missing.result (sym right)
    (c.first_missing-missing.ensures ∙ ap₂ (λ (test : ℕ → Bool) (k : ℕ). lowest test 0 k) (sym (lacks_are (block_of s) r.body r.marks)) many)
