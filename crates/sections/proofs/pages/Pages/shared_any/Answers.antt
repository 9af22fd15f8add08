use Rattle.std.proofs.Common.{◌≡◌, Bool, List, [], ◌∷◌, ◌||◌, map, refl, ap, ◌∙◌, rules, tests}
use Rattle.std.specs.List.{list_any}
use Rattle.std.proofs.lemmas.Iterator.{YieldsList-from_slice}
use Rattle.std.proofs.lemmas.Iterator.Search.{any_from_yields_List}
use Rattle.sections.specs.declared.section.Section.{Section}
use Rattle.sections.specs.Entries.{Described}
use Rattle.sections.specs.Files.{shares}
use Rattle.sections.specs.Meaning.{meaning_of}
use Rattle.sections.proofs.pages.Pages.shared_any.Goals as goal

any_meant : (test : Described → Bool) (xs : List Section) → list_any (λ s. test (meaning_of s)) xs ≡ list_any test (map meaning_of xs)
any_meant test [] = refl
any_meant test (x ∷ xs) = ap (λ (b : Bool). test (meaning_of x) || b) (any_meant test xs)

pub returns : goal.returns
returns c =
    let test : Described → Bool = shares c.args.self.length (meaning_of c.args.s.now) in
    any_from_yields_List (λ s. test (meaning_of s)) _ _ c.any.result c.any.ensures.ran (YieldsList-from_slice c.args.earlier.now cc) (λ x b q k. search (rules, tests))
    ∙ any_meant test c.args.earlier.now
