-- Verifying the image on a target.
use Rattle.std.specs.Prelude.{ℕ, ◌-◌, Bool, cond, List, [], ◌∷◌, ◌++◌, length, take, drop, Ok, Err, Result, ◌==◌, nat_le}
use Rattle.refusals.specs.declared.Reason.TheVariants.{NoSuchPage}
use Rattle.refusals.specs.declared.Layer.TheVariants.{Download}
use Rattle.refusals.specs.Codes.{Code, refuse, then, unless}
use Rattle.gost.specs.Tables.{Rows}
use Rattle.imitovstavka.specs.Chain.{imitovstavka}
use Rattle.sections.specs.Entries.{Described}
use Rattle.sections.specs.Files.{pages_end}
use Rattle.targets.specs.State.{TargetState, page_of}
use Rattle.downloads.specs.Copies.{sized}

-- pages one after the other
abbrev pub flat : List (List ℕ) → List ℕ
flat [] = []
flat (page ∷ pages) = page ++ flat pages

-- the image bytes on a target: the first L from the section's first page on, never the fill after them
unfoldable pub image_on : Described → TargetState → List ℕ
image_on s t = take s.length (flat (drop s.first_page t.pages))

-- the imitovstavka of a section's image
abbrev pub value_of_image : Rows → List ℕ → Described → List ℕ → ℕ
value_of_image rows key s image = imitovstavka rows key s.bits image

-- the lowest image page that is not on the target, if the image does not end on it
abbrev pub first_off : Described → TargetState → ℕ
first_off s t = cond (nat_le t.page_count s.first_page) s.first_page t.page_count

abbrev pub verify_judged : Described → TargetState → Result Unit Code
verify_judged s t = cond (nat_le (pages_end t.page_length s) t.page_count) (Ok tt) (Err (refuse NoSuchPage (first_off s t) Download))

abbrev pub good_on : Rows → List ℕ → Described → TargetState → Bool
good_on rows key s t = value_of_image rows key s (image_on s t) == s.tag

unfoldable pub verify_answer : Rows → List ℕ → Described → TargetState → ℕ → Result Bool Code
verify_answer rows key s t room = sized (room == t.page_length) (then (verify_judged s t) (λ _. Ok (good_on rows key s t)))

-- the page buffer keeps the image's last page
abbrev pub last_page : Described → TargetState → ℕ
last_page s t = pages_end t.page_length s - 1

unfoldable pub read_after : Rows → List ℕ → Described → TargetState → List ℕ → List ℕ
read_after rows key s t out = unless (verify_answer rows key s t (length out)) out (page_of t (last_page s t))
