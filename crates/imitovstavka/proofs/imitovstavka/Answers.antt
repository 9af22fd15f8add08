use Rattle.std.proofs.Common.{◌≡◌, ℕ, List, length, Ok, ap, ◌∙◌, ap₂, arith}
use Rattle.std.proofs.lemmas.Bool.{le-leb}
use Rattle.gost.specs.Cipher.{sixteen}
use Rattle.gost.specs.Keyed.{rows_in, words_in}
use Rattle.imitovstavka.specs.Chain.{imitovstavka, absorbed, value_of, start}
use Rattle.imitovstavka.proofs.imitovstavka.Goals as goal

pub returns : goal.returns
unfolding imitovstavka
returns c =
    let text = c.args.text.now in
    let l = c.args.length.bits in
    let E = sixteen (rows_in c.args.cipher) (words_in c.args.cipher) in
    let made : c.absorb.new.self.state ≡ absorbed E start text
    = c.absorb.ensures.state ∙ ap₂ (λ (F : List ℕ → List ℕ) (s : List ℕ). absorbed F s text) c.new-chain.ensures.map c.new-chain.ensures.state in
    let value : c.value.result ≡ value_of l (absorbed E start text) = c.value.ensures ∙ ap (value_of l) made in
    rw (le-leb 9 (length text) (omega arith)) (ap (λ (n : ℕ). Ok n) value)
