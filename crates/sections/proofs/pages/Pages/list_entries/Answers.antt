use Rattle.std.proofs.Common.{◌≡◌, ℕ, ◌+◌, ◌-◌, ◌∷◌, List, [], length, Ok, Err, sym, ap, ◌∙◌, ap₂, arith, length-append}
use Rattle.std.proofs.lemmas.List.{length-map}
use Rattle.std.proofs.lemmas.Result.{err_from_is_err_and}
use Rattle.refusals.specs.Codes.{code_of}
use Rattle.sections.specs.Entries.{Described}
use Rattle.sections.specs.Files.{listed_from, next_section}
use Rattle.sections.specs.Meaning.{meaning_of, sections_in}
use Rattle.sections.proofs.Listed.{one_more, one_bad, short_enough}
use Rattle.sections.proofs.pages.Pages.list_entries.Goals as goal

pub returns-in_err-section : goal.returns-in_err-section
returns-in_err-section c =
    let p = c.args.self in
    let file = c.args.file.now in
    let ss = sections_in c.loop-i.listing in
    let many : length c.sections.result.now ≡ c.loop-i._i = sym (length-map c.sections.result.now meaning_of) ∙ (ap length c.sections.ensures ∙ c.loop-i.invariant.many) in
    let step : Err (code_of c.in_err-section.field-0.0) ≡ next_section p.length p.count file c.loop-i._i c.loop-i.offset ss
    = c.in_err-section.ensures ∙ ap₂ (λ (k : ℕ) (ds : List Described). next_section p.length p.count file k c.loop-i.offset ds) many c.sections.ensures in
    let bad = one_bad p.length p.count file c.args.count c.loop-i._i c.loop-i.offset ss (code_of c.in_err-section.field-0.0) (omega arith) step in
    let r = err_from_is_err_and c.from_residual.result c.from_residual.ensures.1 in
    rw (r.1, r.2) (sym (c.loop-i.invariant.same ∙ bad))

pub loop-i-preserved : goal.loop-i-preserved
loop-i-preserved c =
    let p = c.args.self in
    let file = c.args.file.now in
    let i : ℕ = c.loop-i._i in
    let ss = sections_in c.loop-i.listing in
    let s = c.in_ok-section.section in
    let low = short_enough s.length s.allowed in
    let many : length c.sections.result.now ≡ i = sym (length-map c.sections.result.now meaning_of) ∙ (ap length c.sections.ensures ∙ c.loop-i.invariant.many) in
    let step : Ok (meaning_of s) ≡ next_section p.length p.count file i c.loop-i.offset ss
    = c.in_ok-section.ensures ∙ ap₂ (λ (k : ℕ) (ds : List Described). next_section p.length p.count file k c.loop-i.offset ds) many c.sections.ensures in
    record {
      many = omega (arith, ap length c.push.ensures, length-append ss (meaning_of s ∷ []));
      low = omega arith;
      same = c.loop-i.invariant.same
          ∙ (one_more p.length p.count file c.args.count i c.loop-i.offset ss (meaning_of s) (omega arith) step
          ∙ ap (λ (ds : List Described). listed_from p.length p.count file (c.args.count - (i + 1)) (i + 1) (c.loop-i.offset + s.length) ds) (sym c.push.ensures));
    }
