use Rattle.std.proofs.Common.{ℕ, List, sym, ap, ◌∙◌}
use Rattle.std.specs.Slice.Iter.{chunks_rest}
use Rattle.imitovstavka.specs.Chain.{absorbed, start}
use Rattle.imitovstavka.specs.Parts.{map_in, state_in}
use Rattle.imitovstavka.proofs.Chains.{absorbed-append, absorbed_none, absorbed_step}
use Rattle.imitovstavka.proofs.chain.Chain.absorb.Goals as goal

pub loop-block-preserved : goal.loop-block-preserved
loop-block-preserved c =
    let s = c.loop-block.self in
    let inv = c.loop-block.invariant in
    let steps = c.in-Some.ensures.steps in (
      c.take_in.ensures.map ∙ inv.0,
      steps.0 ∙ inv.1,
      absorbed_step (map_in c.args.self.now) (map_in s) (state_in s) (state_in c.take_in.new.self) (chunks_rest c.loop-block.block-iterator) c.in-Some.block.now (chunks_rest c.next.new.self)
          inv.0 c.take_in.ensures.state steps.1.0 (rw inv.1 at steps.1.1) steps.1.2
          ∙ inv.2,
    )

pub returns-clause-state : goal.returns-clause-state
returns-clause-state c =
    sym (absorbed_none (map_in c.args.self.now) (state_in c.loop-block.self) (chunks_rest c.loop-block.block-iterator) c.in-None.ensures.steps.1.0) ∙ c.loop-block.invariant.2

pub returns-clause-together : goal.returns-clause-together
returns-clause-together c = λ before whole h.
    let E = map_in c.args.self.now in
    returns-clause-state c ∙ (ap (λ (s : List ℕ). absorbed E s c.args.part.now) h ∙ absorbed-append E start before c.args.part.now whole)
