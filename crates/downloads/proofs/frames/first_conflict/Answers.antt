use Rattle.std.proofs.Common.{◌≡◌, ℕ, ◌+◌, ◌-◌, ◌*◌, ◌<◌, Bool, true, false, length, refl, ap, ◌∙◌, arith, rules, tests}
use Rattle.std.proofs.lemmas.Iterator.{first_from_Range, serves_from_Range}
use Rattle.modes.specs.Modes.{block_count}
use Rattle.modes.proofs.Joined.{count_ceil, begins_in}
use Rattle.downloads.specs.Marks.{lowest}
use Rattle.downloads.specs.Frames.{conflicts}
use Rattle.downloads.specs.Received.{held_by, copies_of}
use Rattle.downloads.proofs.Framing.{framed, blocks_within, conflicts_past}
use Rattle.downloads.proofs.Lowest.{searched}
use Rattle.downloads.proofs.Windows.{window}
use Rattle.downloads.proofs.frames.first_conflict.Goals as goal

pub find-requires : goal.find-requires
find-requires c =
    let n = c.args.n in
    let f = c.args.first in
    let bytes = length c.args.frame.now in
    let many : c.div_ceil-blocks.result ≡ block_count n bytes = c.div_ceil-blocks.ensures ∙ count_ceil n n bytes refl c.requires.small.0 in
    record {
      can = tt;
      finite = tt;
      callable = serves_from_Range (λ x q k. search (rules, tests)) (λ x low high. let l : n * (x - f) < bytes = begins_in n bytes (x - f) c.requires.small.0 (omega (arith, many, low, high)) in search rules);
    }

pub returns : goal.returns
returns c =
    let n = c.args.n in
    let f = c.args.first in
    let frame = c.args.frame.now in
    let L = length (held_by c.args.received).body in
    let m = block_count n (length frame) in
    let test : ℕ → Bool = conflicts n (copies_of n (held_by c.args.received)) f frame in
    let many : c.div_ceil-blocks.result ≡ m = c.div_ceil-blocks.ensures ∙ count_ceil n n (length frame) refl c.requires.small.0 in
    let fr = framed n L f (length frame) c.requires.frame in
    searched test f (f + c.div_ceil-blocks.result) c.find.result
    (first_from_Range _ _ _ _ (λ k. test k ≡ true) (λ k. test k ≡ false) c.find.ensures.ran (λ x q k. search rules) (λ x q k. (search rules, search rules)))
    ∙ (ap (λ (x : ℕ). lowest test f (f + x - f)) many
    ∙ window f (f + m) (block_count n L) test test (blocks_within n L f (length frame) c.requires.small.0 fr.within fr.some) (λ k a b. refl)
    (λ k o. conflicts_past n (copies_of n (held_by c.args.received)) f frame k c.requires.small.0 o))
