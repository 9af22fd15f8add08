use Rattle.std.proofs.Common.{◌≡◌, ℕ, ◌+◌, ◌*◌, ◌≤◌, length, map, Ok, sym, ap, ◌∙◌, arith}
use Rattle.std.proofs.lemmas.Grind.{common_steps}
use Rattle.sections.specs.declared.fields.Fields.{Fields}
use Rattle.sections.specs.Entries.{fields_of, judged_fields}
use Rattle.sections.specs.Files.{entry_of}
use Rattle.sections.specs.Meaning.{meaning_of}
use Rattle.sections.proofs.Listed.{next_good}
use Rattle.sections.proofs.pages.Pages.next_section.Goals as goal

pub returns : goal.returns
returns c =
    let p = c.args.self in
    let file = c.args.file.now in
    let i : ℕ = length c.args.earlier.now in
    let s = meaning_of c.in_ok-section.section in
    let entry : c.in_ok-entry.entry.now ≡ entry_of i file = grind (arith, common_steps) in
    let room : 4 + 32 * i + 32 ≤ length file = grind (arith, common_steps) in
    let judged : judged_fields (i + 1) c.args.offset (fields_of (entry_of i file)) ≡ Ok s
    = sym (c.in_ok-section.ensures ∙ ap (λ (f : Fields). judged_fields (i + 1) c.args.offset f) (c.read.ensures ∙ ap fields_of entry)) in
    sym (next_good p.length p.count file i c.args.offset (map meaning_of c.args.earlier.now) s room judged (omega arith) (sym c.if-shared_any.ensures))
