use Rattle.std.proofs.Common.{◌≡◌, ℕ, ◌+◌, ◌-◌, ◌*◌, ◌≤◌, min, List, length, take, drop, replicate, sym, ap, ◌∙◌, subst, ap₂, arith, length-drop, length-take}
use Rattle.blocks.proofs.Words.{bytes_from}
use Rattle.modes.specs.Modes.{block_count, joined}
use Rattle.modes.specs.Calls.{plain_of, front}
use Rattle.sections.specs.Meaning.{meaning_of}
use Rattle.downloads.specs.Frames.{block_of, blocks_of}
use Rattle.downloads.specs.Pages.{first_in, count_in}
use Rattle.downloads.proofs.Answered.{image_small}
use Rattle.downloads.proofs.Prepared.{run_length, fill_rest, page_ends, page_holds, first_is, first_low, count_is, begin_is}
use Rattle.downloads.proofs.pages.prepare.Goals as goal

pub overflow_sub-div_ceil : goal.overflow_sub-div_ceil
overflow_sub-div_ceil g c =
    let s = meaning_of c.args.section.now in
    first_low s c.block_length-n.result (length c.args.body.now) (length c.args.page.now) c.args.j c.div_ceil.result (c.block_length-n.ensures.value ∙ c.requires.parts.0) c.requires.parts.1 c.div_ceil.ensures (image_small s.length c.args.section.now.allowed) c.requires.page c.requires.inside

pub decipher_blocks-requires-clause-blocks : goal.decipher_blocks-requires-clause-blocks
decipher_blocks-requires-clause-blocks g c =
    let s = meaning_of c.args.section.now in
    let first = first_is s c.block_length-n.result (length c.args.body.now) (length c.args.page.now) c.args.j c.div_ceil.result (c.block_length-n.ensures.value ∙ c.requires.parts.0) c.requires.parts.1 c.div_ceil.ensures (image_small s.length c.args.section.now.allowed) c.requires.page c.requires.inside in
    let count : c.min-count.result ≡ count_in (length c.args.page.now) s c.args.j = c.min-count.ensures ∙ count_is s c.block_length-n.result (length c.args.body.now) (length c.args.page.now) c.args.j c.div_ceil.result (c.block_length-n.ensures.value ∙ c.requires.parts.0) c.requires.parts.1 c.div_ceil.ensures (image_small s.length c.args.section.now.allowed) c.requires.page c.requires.inside in
    subst (λ (k : ℕ). k ≤ blocks_of s) (ap₂ (λ (a b : ℕ). a + b) (sym first) (sym count)) (page_ends s (length c.args.page.now) c.args.j c.requires.page c.requires.inside)

pub overflow_sub-body : goal.overflow_sub-body
overflow_sub-body g c =
    let s = meaning_of c.args.section.now in
    omega (arith, c.requires.inside, c.requires.parts.1, begin_is s c.block_length-n.result (length c.args.body.now) (length c.args.page.now) c.args.j c.div_ceil.result (c.block_length-n.ensures.value ∙ c.requires.parts.0) c.requires.parts.1 c.div_ceil.ensures (image_small s.length c.args.section.now.allowed) c.requires.page c.requires.inside)

pub returns : goal.returns
returns g c =
    let s = meaning_of c.args.section.now in
    let map = g.C.BlockCipher.map c.args.cipher.now in
    let body = c.args.body.now in
    let was = c.args.page.now in
    let P = length was in
    let j = c.args.j in
    let n = c.block_length-n.result in
    let size = c.block_length-n.ensures.value ∙ c.requires.parts.0 in
    let long = c.requires.parts.1 in
    let small = image_small s.length c.args.section.now.allowed in
    let plain : ℕ → List ℕ = plain_of map s.mode s.sync body in
    let first = first_is s n (length body) P j c.div_ceil.result size long c.div_ceil.ensures small c.requires.page c.requires.inside in
    let count : c.min-count.result ≡ count_in P s j = c.min-count.ensures ∙ count_is s n (length body) P j c.div_ceil.result size long c.div_ceil.ensures small c.requires.page c.requires.inside in
    let J : List ℕ = joined plain (first_in P s j) (count_in P s j) in
    let page = c.decipher_blocks.new.page in
    let made : page ≡ front J was = c.decipher_blocks.ensures ∙ ap₂ (λ (a b : ℕ). front (joined plain a b) was) first count in
    let ends : first_in P s j + count_in P s j ≤ block_count map.size (length body) =
    subst (λ (k : ℕ). first_in P s j + count_in P s j ≤ k) (ap₂ (λ (a b : ℕ). block_count a b) (sym c.requires.parts.0) (sym long)) (page_ends s P j c.requires.page c.requires.inside) in
    let run : length J ≡ min (block_of s * count_in P s j) (s.length - block_of s * first_in P s j) =
    run_length map s body (g.met.C.BlockCipher.lawful c.args.cipher.now) c.requires.parts.0 long (bytes_from body (λ i. omega (arith, c.type_inv.body i))) c.args.section.now.agreed c.args.section.now.whole (first_in P s j) (count_in P s j) ends
    ∙ ap₂ (λ (a b : ℕ). min (a * count_in P s j) (b - a * first_in P s j)) c.requires.parts.0 long in
    let fits : length page ≡ P = c.decipher_blocks.auto.page in
    let end : c.min-end.result ≡ length J =
    c.min-end.ensures
    ∙ (ap₂ (λ (a b : ℕ). min a b) fits (ap₂ (λ (a b : ℕ). a - b) long (ap₂ (λ (a b : ℕ). a * b) size first)) ∙ (sym (page_holds s P j c.requires.page c.requires.inside) ∙ sym run)) in
    let most : c.min-end.result ≤ P = omega (arith, c.min-end.ensures, fits) in
    let rest : length (take (length page - c.min-end.result) (drop c.min-end.result page)) ≡ length page - c.min-end.result = simp (length-take, length-drop) (omega arith) in
    fill_rest J was page c.fill.new.self c.min-end.result c.args.fill made (sym end) most (c.fill.ensures.after (λ y e. e) ∙ ap (λ (k : ℕ). replicate k c.args.fill) rest)
