use Rattle.std.proofs.Common.{◌≡◌, ℕ, ◌+◌, ◌-◌, ◌*◌, ◌<◌, min, List, ◌++◌, length, take, sym, ap, ◌∙◌, subst, arith}
use Rattle.gost.specs.Cipher.{sixteen}
use Rattle.gost.specs.Keyed.{rows_in, words_in}
use Rattle.imitovstavka.specs.Chain.{absorbed, start}
use Rattle.imitovstavka.specs.Parts.{state_in}
use Rattle.sections.specs.Images.{pages_for}
use Rattle.sections.specs.Meaning.{meaning_of}
use Rattle.targets.specs.State.{page_of}
use Rattle.modes.proofs.Joined.{count_ceil}
use Rattle.downloads.specs.Verdicts.{image_on}
use Rattle.downloads.proofs.Answered.{image_some, page_parts}
use Rattle.downloads.proofs.Summed.{Summed, summed_first, summed_next, summed_all, last_read, read_is, value_is}
use Rattle.downloads.proofs.verifying.value_on.Goals as goal

pub loop-k-init : goal.loop-k-init
loop-k-init g c =
    let s = meaning_of c.args.section.now in
    let t = g.T.Target.state c.args.target.now in
    let E = sixteen (rows_in c.args.tag) (words_in c.args.tag) in
    (c.new-chain.ensures.map, subst (λ (x : List ℕ). Summed s t E 0 x c.args.page.now) (sym c.new-chain.ensures.state) (summed_first s t E (g.met.T.Target.formed c.args.target.now) c.requires.there c.args.page.now))

pub loop-k-preserved : goal.loop-k-preserved
loop-k-preserved g c =
    let s = meaning_of c.args.section.now in
    let t = g.T.Target.state c.args.target.now in
    let E = sixteen (rows_in c.args.tag) (words_in c.args.tag) in
    let k = c.loop-k.k in
    let count = c.min-count.result in
    let was = c.loop-k.invariant in
    let page = c.read.new.out in
    let many : c.div_ceil-k-end.result ≡ pages_for t.page_length s.length =
    c.div_ceil-k-end.ensures ∙ count_ceil (length c.args.page.now) t.page_length s.length c.requires.room (omega (arith, (page_parts t.page_length (g.met.T.Target.formed c.args.target.now).sized).0)) in
    let within : k < pages_for t.page_length s.length = omega (arith, many, c.loop-k-test.true) in
    let read : page ≡ page_of t (s.first_page + k) =
    c.read.ensures.out ∙ read_is t (s.first_page + k) c.loop-k.page (omega (arith, c.requires.there, within)) (c.loop-k.auto.page ∙ c.requires.room) in (
      c.absorb.ensures.map ∙ was.0,
      summed_next s t E (g.met.T.Target.formed c.args.target.now) c.requires.there k count (state_in c.loop-k.chain) (state_in c.absorb.new.self) c.loop-k.page page within was.1 read
          (c.min-count.ensures ∙ ap (λ (n : ℕ). min (s.length - n * k) n) c.requires.room)
          (λ before whole e.
          c.absorb.ensures.together before whole (e ∙ ap (λ (F : List ℕ → List ℕ). absorbed F start before) (sym was.0))
          ∙ ap (λ (F : List ℕ → List ℕ). absorbed F start (before ++ take count page)) was.0),
    )

pub returns : goal.returns
returns g c =
    let s = meaning_of c.args.section.now in
    let t = g.T.Target.state c.args.target.now in
    let E = sixteen (rows_in c.args.tag) (words_in c.args.tag) in
    let was = c.loop-k.invariant.1 in
    let many : c.div_ceil-k-end.result ≡ pages_for t.page_length s.length =
    c.div_ceil-k-end.ensures ∙ count_ceil (length c.args.page.now) t.page_length s.length c.requires.room (omega (arith, (page_parts t.page_length (g.met.T.Target.formed c.args.target.now).sized).0)) in
    let all : c.loop-k.k ≡ pages_for t.page_length s.length = omega (arith, many, c.loop-k-test.false, c.loop-k.auto.k-end) in
    record {
      value = value_is (rows_in c.args.tag) (words_in c.args.tag) s (image_on s t) (state_in c.loop-k.chain) _ c.value.result
          (summed_all s t E (g.met.T.Target.formed c.args.target.now) c.requires.there c.loop-k.k (state_in c.loop-k.chain) c.loop-k.page all was) c.tag_length.ensures c.value.ensures;
      page = last_read s t E (g.met.T.Target.formed c.args.target.now) c.requires.there c.loop-k.k (state_in c.loop-k.chain) c.loop-k.page all (image_some s.length c.args.section.now.allowed) was;
    }
