use Rattle.std.proofs.Common.{rules, ◌≡◌, length, take, refl, sym, ap, ◌∙◌, arith, length-take}
use Rattle.std.proofs.lemmas.List.{with_items_is}
use Rattle.std.proofs.lemmas.Result.{err_from_is_err_and}
use Rattle.std.specs.Vec.{with_items}
use Rattle.refusals.specs.Codes.{outcome}
use Rattle.packing.specs.Plans.{work_of}
use Rattle.packing.specs.Sealing.{means_in}
use Rattle.packing.proofs.Sectioned.{Given, placed_from, unrefused, sealed_as, refused_as}
use Rattle.packing.proofs.sealer.Sealer.seal_section.Goals as goal

pub overflow_cast-image : goal.overflow_cast-image
overflow_cast-image c = omega (arith, simp length-take at (ap length c.judged_part-image.ensures))

pub returns : goal.returns
returns c =
    let image = c.judged_part-image.result.now in
    let given : Given (work_of c.args.planned.now) image c.entry-entry.result c.as_mut_slice.result.now
    = record {
      image_is = c.judged_part-image.ensures ∙ ap (take 16385) c.as_slice.ensures.value;
      entry_is = c.entry-entry.ensures.value;
      body_is = c.as_mut_slice.ensures.value ∙ c.in_ok-body.ensures.items;
      fits = c.entry-entry.ensures.fits;
    } in
    let v = c.in_ok-body.body in
    let ws = c.seal_with.new.body in
    let kept : length ws ≡ length c.as_mut_slice.result.now = c.seal_with.auto.body in
    let long : length ws ≡ v.len = kept ∙ c.as_mut_slice.ensures.len in
    sealed_as (means_in c.args.self) c.args.place (work_of c.args.planned.now) image c.entry-entry.result c.as_mut_slice.result.now c.seal_with.result c.seal_with.new.entry ws
    (record { entry = c.seal_with.new.entry; body = with_items v ws }) given (unrefused c.seal_with.result c.in_ok-map_err.ensures.variant) c.seal_with.ensures kept refl (with_items_is v ws long)

pub returns-in_err-map_err : goal.returns-in_err-map_err
returns-in_err-map_err c =
    let image = c.judged_part-image.result.now in
    let given : Given (work_of c.args.planned.now) image c.entry-entry.result c.as_mut_slice.result.now
    = record {
      image_is = c.judged_part-image.ensures ∙ ap (take 16385) c.as_slice.ensures.value;
      entry_is = c.entry-entry.ensures.value;
      body_is = c.as_mut_slice.ensures.value ∙ c.in_ok-body.ensures.items;
      fits = c.entry-entry.ensures.fits;
    } in
    let f = c.in_err-map_err.field-0.0 in
    let p = placed_from c.seal_with.result c.map_err.result _ c.args.place f c.in_err-map_err.was c.map_err.ensures.cases (λ e z q. search rules) in
    let r = err_from_is_err_and c.from_residual-in_err-map_err.result c.from_residual-in_err-map_err.ensures.1 in
    rw (r.1, r.2) (refused_as c.args.place (work_of c.args.planned.now) image c.entry-entry.result c.as_mut_slice.result.now p.0 f given (sym (ap outcome p.1) ∙ c.seal_with.ensures.answer) p.2)
