use Rattle.std.proofs.Common.{◌≡◌, ℕ, ◌-◌, List, length, take, drop, Ok, ap, ◌∙◌, arith, length-drop}
use Rattle.std.proofs.lemmas.List.{take_rest}
use Rattle.std.proofs.lemmas.Bool.{eq-eqb}
use Rattle.blocks.specs.Bytes.{words}
use Rattle.support.proofs.tag_key.Goals as goal

pub returns : goal.returns
returns c =
    let keys = c.args.keys.now in
    let half : length (drop 32 keys) ≡ 32 = simp length-drop (omega arith) in
    let rest : take (length keys - 32) (drop 32 keys) ≡ drop 32 keys = take_rest keys 32 in
    let made : c.spread_key.new.words ≡ words 8 (drop 32 keys) = c.spread_key.ensures.words ∙ rw (rest, eq-eqb (length (drop 32 keys)) 32 half) in
    rw (eq-eqb (length keys) 64 c.if-keys-ne64.false) (ap (λ (ws : List ℕ). Ok ws) made)
