-- Programming an image page.
use Rattle.std.specs.Prelude.{ℕ, ◌+◌, ◌-◌, ◌*◌, ◌/◌, min, Bool, cond, ◌&&◌, List, ◌++◌, length, replicate, is_some, Err, Result, ◌==◌, nat_lt}
use Rattle.refusals.specs.declared.Reason.TheVariants.{MissingBlock, NoSuchPage}
use Rattle.refusals.specs.declared.Layer.TheVariants.{Download}
use Rattle.refusals.specs.Codes.{Code, refuse, then, unless}
use Rattle.blocks.specs.Ciphers.{BlockMap}
use Rattle.modes.specs.Modes.{joined}
use Rattle.sections.specs.Entries.{Described}
use Rattle.targets.specs.State.{TargetState}
use Rattle.targets.specs.Calls.{program_answer, programmed}
use Rattle.downloads.specs.Marks.{lowest}
use Rattle.downloads.specs.Copies.{Copies, lacks, refused_at, sized}
use Rattle.downloads.specs.Frames.{block_of, blocks_of, good_store}
use Rattle.downloads.specs.Blocks.{depends, plain_from}

-- ---- image page j on pages of P bytes: P / n blocks, the last page perhaps fewer

abbrev pub first_in : ℕ → Described → ℕ → ℕ
first_in P s j = j * (P / block_of s)

abbrev pub count_in : ℕ → Described → ℕ → ℕ
count_in P s j = min (P / block_of s) (blocks_of s - first_in P s j)

-- one of its blocks depends on cipher block k
abbrev pub needs : ℕ → Described → ℕ → ℕ → Bool
needs P s j k = is_some (lowest (λ i. depends s.mode i k) (first_in P s j) (count_in P s j))

-- bytes with fill after them to a length
abbrev pub filled_up : ℕ → ℕ → List ℕ → List ℕ
filled_up P fill bytes = bytes ++ replicate (P - length bytes) fill

-- the page as it is made from what was received, with fill after the image's end
unfoldable pub prepared : BlockMap → Described → ℕ → ℕ → Copies → ℕ → List ℕ
prepared c s P fill copies j = filled_up P fill (joined (plain_from c s copies) (first_in P s j) (count_in P s j))

-- ---- the call

-- the image has such a page, and it lies on the target
abbrev pub on_target : Described → TargetState → ℕ → Bool
on_target s t j = nat_lt (j * t.page_length) s.length && nat_lt (s.first_page + j) t.page_count

-- a target page as the place of a refusal: a page past what 32 bits can number is told as the last number
abbrev pub place_of : ℕ → ℕ
place_of page = min page 4294967295

-- whether the page can be prepared
abbrev pub page_judged : Described → TargetState → Copies → ℕ → Result Unit Code
page_judged s t copies j =
    cond (on_target s t j)
    (refused_at MissingBlock (lowest (λ k. needs t.page_length s j k && lacks copies k) 0 (blocks_of s)))
    (Err (refuse NoSuchPage (place_of (s.first_page + j)) Download))

unfoldable pub page_answer : BlockMap → Described → ℕ → ℕ → TargetState → Copies → ℕ → ℕ → Result Unit Code
page_answer c s body marks t copies room j =
    sized (c.size == block_of s && (good_store s body marks && room == t.page_length)) (page_judged s t copies j)

abbrev pub prepared_on : BlockMap → Described → TargetState → Copies → ℕ → List ℕ
prepared_on c s t copies j = prepared c s t.page_length t.fill copies j

-- then the target is asked
abbrev pub program_page_answer : BlockMap → Described → ℕ → ℕ → TargetState → Copies → ℕ → ℕ → Result Unit Code
program_page_answer c s body marks t copies room j =
    then (page_answer c s body marks t copies room j) (λ _. program_answer t (s.first_page + j) t.page_length)

-- the page buffer keeps the prepared page, also where the target refuses it
abbrev pub buffer_after : BlockMap → Described → ℕ → ℕ → TargetState → Copies → ℕ → List ℕ → List ℕ
buffer_after c s body marks t copies j out =
    unless (page_answer c s body marks t copies (length out) j) out (prepared_on c s t copies j)

abbrev pub target_programmed : BlockMap → Described → ℕ → ℕ → TargetState → Copies → ℕ → ℕ → TargetState
target_programmed c s body marks t copies room j =
    unless (page_answer c s body marks t copies room j) t (programmed t (s.first_page + j) (prepared_on c s t copies j))
