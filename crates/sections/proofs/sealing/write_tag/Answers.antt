use Rattle.std.proofs.Common.{ℕ, List, ◌++◌, take, ap, ◌∙◌}
use Rattle.blocks.proofs.Words.{word-written}
use Rattle.sections.proofs.Sealed.{tag_put}
use Rattle.sections.proofs.sealing.write_tag.Goals as goal

pub returns : goal.returns
returns c =
    let e = c.args.entry.now in
    tag_put e c.copy_from_slice.new.self c.requires ∙ ap (λ (bs : List ℕ). take 28 e ++ bs) (c.copy_from_slice.ensures.after ∙ (c.to_le_bytes.ensures ∙ word-written c.args.tag))
