use Rattle.std.proofs.Common.{◌≡◌, ℕ, suc, ◌+◌, ◌*◌, List, [], ◌∷◌, ◌++◌, take, drop, sym, ap, ◌∙◌, ap₂, arith}
use Rattle.std.proofs.lemmas.List.{take_more_set, length-set}
use Rattle.blocks.specs.Bytes.{word, words}
use Rattle.blocks.proofs.Words.{words_more, word_at}
use Rattle.gost.proofs.key.spread_key.Goals as goal

pub loop-i-preserved : goal.loop-i-preserved
loop-i-preserved c =
    let i = c.loop-i.i in
    let key = c.args.key.now in
    let s : suc i ≡ i + 1 = omega arith in
    let m : words (i + 1) key ≡ words i key ++ word (take 4 (drop (4 * i) key)) ∷ [] = ap (λ (n : ℕ). words n key) (sym s) ∙ words_more i key in
    let y : c.from_le_bytes.result ≡ word (take 4 (drop (4 * i) key)) = c.from_le_bytes.ensures ∙ word_at key (4 * i) (omega (arith, c.in_ok-judge_length.ensures.sized)) in (
      take_more_set c.loop-i.words i c.from_le_bytes.result (omega arith)
          ∙ (ap₂ (λ (xs : List ℕ) (n : ℕ). xs ++ n ∷ []) c.loop-i.invariant.0 y ∙ sym m),
      length-set c.loop-i.words i c.from_le_bytes.result ∙ c.loop-i.invariant.1,
    )
