use Rattle.std.proofs.Common.{ℕ, Err, length, sym, ap, ◌∙◌, ap₂}
use Rattle.std.proofs.lemmas.Result.{err_from_is_err_and}
use Rattle.refusals.specs.declared.Reason.TheVariants.{BadBlock}
use Rattle.refusals.specs.declared.Layer.TheVariants.{Download}
use Rattle.modes.specs.Modes.{block_count}
use Rattle.sections.specs.Meaning.{meaning_of}
use Rattle.downloads.specs.Marks.{lowest}
use Rattle.downloads.specs.Frames.{block_of, good_frame, conflicts}
use Rattle.downloads.specs.Received.{held_by, copies_of}
use Rattle.downloads.proofs.Answered.{told, refused_first, passed_first, store_parts, frame_unsized, frame_bad, frame_found}
use Rattle.downloads.proofs.frames.judge_frame.Goals as goal

pub returns-in_err-sized : goal.returns-in_err-sized
returns-in_err-sized c =
    let s = meaning_of c.args.section.now in
    let r = held_by c.args.received in
    let w = refused_first c.stores.result _ c.in_err-sized.ensures in
    let p = err_from_is_err_and c.from_residual.result c.from_residual.ensures.1 in
    rw (p.1, p.2) (ap Err w.1 ∙ frame_unsized s (length r.body) (length r.marks) (copies_of (block_of s) r) c.args.first c.args.frame.now (sym w.0 ∙ c.stores.ensures))

pub returns-then-not-good_frame : goal.returns-then-not-good_frame
returns-then-not-good_frame c =
    let s = meaning_of c.args.section.now in
    let r = held_by c.args.received in
    told c.new.result BadBlock c.args.first Download c.new.ensures
    ∙ frame_bad s (length r.body) (length r.marks) (copies_of (block_of s) r) c.args.first c.args.frame.now (sym (passed_first c.stores.result c.in_ok-sized.ensures) ∙ c.stores.ensures)
    (c.if-not-good_frame.ensures ∙ ap (λ (n : ℕ). good_frame n s.length c.args.first (length c.args.frame.now)) c.block_length-n.ensures)

pub returns : goal.returns
returns c =
    let s = meaning_of c.args.section.now in
    let r = held_by c.args.received in
    let f = c.args.first in
    let frame = c.args.frame.now in
    let size = c.block_length-n.ensures in
    let right = sym (passed_first c.stores.result c.in_ok-sized.ensures) ∙ c.stores.ensures in
    c.refused_at.ensures
    ∙ frame_found s (length r.body) (length r.marks) (copies_of (block_of s) r) f frame c.first_conflict.result right (c.if-not-good_frame.ensures ∙ ap (λ (n : ℕ). good_frame n s.length f (length frame)) size)
    (c.first_conflict.ensures
    ∙ ap₂ (λ (k L : ℕ). lowest (conflicts k (copies_of k r) f frame) 0 (block_count k L)) size (store_parts s (length r.body) (length r.marks) (sym right)).0)
