use Rattle.imitovstavka.specs.Chain.{imitovstavka}
use Rattle.sections.proofs.section.Section.tag_of.Goals as goal

pub returns : goal.returns
unfolding imitovstavka
returns c =
    let a = c.absorb.ensures.state in
    let b = c.absorb.ensures.map in
    let n = c.new-chain.ensures.state in
    let m = c.new-chain.ensures.map in
    let v = c.value.ensures in
    let t = c.tag_length.ensures in cc
