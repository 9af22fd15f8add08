use Rattle.std.proofs.Common.{◌≡◌, ℕ, List, length, Ok, Result, ap, ◌∙◌, subst, ap₂}
use Rattle.refusals.specs.Codes.{Code}
use Rattle.modes.specs.Modes.{enciphered}
use Rattle.modes.specs.Calls.{mode_answer}
use Rattle.modes.specs.Laws.{Undo}
use Rattle.sections.specs.Entries.{Described}
use Rattle.sections.specs.Meaning.{meaning_of}
use Rattle.sections.specs.Seals.{seal_answer, after, chaining_of, Opens}
use Rattle.sections.proofs.Sealed.{ready, made_is, opened, one_section}
use Rattle.sections.proofs.sealing.seal.Goals as goal

pub copy_from_slice-requires : goal.copy_from_slice-requires
copy_from_slice-requires g c =
    (ready c.block_length-n.result c.args.entry.now c.byte_count-long.result (length c.args.body.now) (meaning_of c.in_ok-section.section) c.in_ok-section.ensures).body_long
    ∙ c.byte_count-long.ensures.value

pub write_tag-requires : goal.write_tag-requires
write_tag-requires g c =
    (ready c.block_length-n.result c.args.entry.now c.byte_count-long.result (length c.args.body.now) (meaning_of c.in_ok-section.section) c.in_ok-section.ensures).entry_long

pub returns-clause-body : goal.returns-clause-body
returns-clause-body g c =
    let map = g.C.BlockCipher.map c.args.cipher.now in
    let image = c.args.image.now in
    let entry = c.args.entry.now in
    let was = c.args.body.now in
    let s = meaning_of c.in_ok-section.section in
    let ok : Ok s ≡ seal_answer map.size entry (length image) (length was)
    = c.in_ok-section.ensures ∙ ap₂ (λ (n k : ℕ). seal_answer n entry k (length was)) c.block_length-n.ensures.value c.byte_count-long.ensures.value in
    made_is map entry image was s c.copy_from_slice.new.self c.encipher_text.new.text ok c.copy_from_slice.ensures.after c.encipher_text.ensures.text
    ∙ ap (λ (r : Result Described Code). after r (λ t. enciphered (chaining_of map t) image) was) ok

pub returns-clause-undo : goal.returns-clause-undo
returns-clause-undo g c =
    let map = g.C.BlockCipher.map c.args.cipher.now in
    let image = c.args.image.now in
    let entry = c.args.entry.now in
    let was = c.args.body.now in
    let s = meaning_of c.in_ok-section.section in
    let ok : Ok s ≡ seal_answer map.size entry (length image) (length was)
    = c.in_ok-section.ensures ∙ ap₂ (λ (n k : ℕ). seal_answer n entry k (length was)) c.block_length-n.ensures.value c.byte_count-long.ensures.value in
    let copied : c.copy_from_slice.new.self ≡ image = c.copy_from_slice.ensures.after in
    let made = made_is map entry image was s c.copy_from_slice.new.self c.encipher_text.new.text ok copied c.encipher_text.ensures.text in
    let law : Undo (chaining_of map s) (length image)
    = subst (λ (x : List ℕ). mode_answer map.size s.mode s.sync (length x) ≡ Ok tt → Undo (chaining_of map s) (length x)) copied c.encipher_text.ensures.undo (ready map.size entry (length image) (length was) s ok).agreed in
    λ t h. subst (λ (u : Described). Opens (chaining_of map u) image c.encipher_text.new.text) (one_section (seal_answer map.size entry (length image) (length was)) s t ok h) (opened map s image c.byte_count-long.ensures.bytes law c.encipher_text.new.text made)
