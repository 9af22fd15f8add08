use Rattle.std.proofs.Common.{◌≡◌}
use Rattle.std.specs.Slice.Iter.{chunks_rest, chunks_size}
use Rattle.imitovstavka.specs.Chain.{absorbed}
use Rattle.imitovstavka.specs.Parts.{map_in, state_in}
use Rattle.imitovstavka.proofs.chain.Chain.absorb.Given as goal

-- what is left of the part gives from here what the whole of it gives from the start
abbrev pub invariant-loop-block : goal.invariant-loop-block
invariant-loop-block l =
    (map_in l.self ≡ map_in l.initial.self) × (chunks_size l.block-iterator ≡ 8)
    × (absorbed (map_in l.initial.self) (state_in l.self) (chunks_rest l.block-iterator) ≡ absorbed (map_in l.initial.self) (state_in l.initial.self) l.part)
