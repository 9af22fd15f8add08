use Rattle.std.proofs.Common.{◌≡◌, ℕ, ◌+◌, ◌*◌, ◌%◌, ◌≤◌, List, ◌++◌, length, take, replicate, sym, ap, ◌∙◌, ap₂, arith, length-take}
use Rattle.std.proofs.lemmas.List.{take_all}
use Rattle.blocks.specs.Bytes.{block}
use Rattle.gost.specs.Cipher.{sixteen}
use Rattle.gost.specs.Keyed.{rows_in, words_in}
use Rattle.imitovstavka.specs.Chain.{absorbed, start, value_of, imitovstavka}
use Rattle.imitovstavka.specs.Parts.{map_in, state_in}
use Rattle.support.specs.Filled.{image_in, fill_in}
use Rattle.support.proofs.Paging.{filled-length, taken_more}
use Rattle.support.proofs.filled.FilledImage.value.Goals as goal

pub loop-i-init : goal.loop-i-init
unfolding absorbed
loop-i-init c = (c.new-chain.ensures.map, λ more h. c.new-chain.ensures.state)

pub loop-i-preserved : goal.loop-i-preserved
loop-i-preserved c =
    let E = sixteen (rows_in c.args.cipher) (words_in c.args.cipher) in
    let i = c.loop-i.i in
    let image = image_in c.args.self.now in
    let fill = fill_in c.args.self.now in
    let map = c.loop-i.invariant.0 in (
      c.absorb.ensures.map ∙ map,
      (λ more h.
          let text : List ℕ = image ++ replicate more fill in
          let long : length text ≡ length image + more = filled-length image fill more in
          let room : 8 * i + 8 ≤ length image + more = omega arith in
          let whole : length (take (8 * i) text) % 8 ≡ 0 = simp length-take (omega arith) in
          let at : c.block.result ≡ block 8 i text = c.block.ensures more room in
          let before : state_in c.loop-i.chain ≡ absorbed (map_in c.loop-i.chain) start (take (8 * i) text)
          = c.loop-i.invariant.1 more h ∙ ap (λ (F : List ℕ → List ℕ). absorbed F start (take (8 * i) text)) (sym map) in
          c.absorb.ensures.together (take (8 * i) text) whole before
          ∙ ap₂ (λ (F : List ℕ → List ℕ) (xs : List ℕ). absorbed F start xs) map
          (ap (λ (b : List ℕ). take (8 * i) text ++ b) at ∙ taken_more text i)),
    )

pub returns : goal.returns
unfolding imitovstavka
returns c more h =
    let E = sixteen (rows_in c.args.cipher) (words_in c.args.cipher) in
    let image = image_in c.args.self.now in
    let fill = fill_in c.args.self.now in
    let text : List ℕ = image ++ replicate more fill in
    let long : length text ≡ length image + more = filled-length image fill more in
    let all : take (8 * c.loop-i.i) text ≡ text = take_all (8 * c.loop-i.i) text (omega arith) in
    c.value.ensures ∙ ap (value_of c.args.bits.bits) (c.loop-i.invariant.1 more h ∙ ap (absorbed E start) all)
