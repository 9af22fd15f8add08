use Rattle.std.proofs.Common.{sym, refl, ◌∙◌}
use Rattle.description.proofs.Marks.{none_marked}
use Rattle.description.proofs.draft.Draft.new.Goals as goal

pub invariant_of-result : goal.invariant_of-result
invariant_of-result c = record { sound = (refl, refl, λ page e. sym (none_marked 1024 page) ∙ e, refl, refl) }
