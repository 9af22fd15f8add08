-- Giving a plain block.
use Rattle.std.specs.Prelude.{ℕ, zero, suc, ◌-◌, ◌*◌, min, Bool, cond, ◌&&◌, ◌||◌, List, length, Ok, Err, Result, ◌==◌, nat_lt}
use Rattle.refusals.specs.declared.Reason.TheVariants.{BadBlock, MissingBlock}
use Rattle.refusals.specs.declared.Layer.TheVariants.{Download}
use Rattle.refusals.specs.Codes.{Code, refuse, then, unless}
use Rattle.blocks.specs.Ciphers.{BlockMap}
use Rattle.modes.specs.declared.mode.Mode.{Mode}
use Rattle.modes.specs.declared.mode.Mode.TheVariants.{Codebook, Counter, Feedback}
use Rattle.modes.specs.Modes.{plain_block}
use Rattle.modes.specs.Calls.{front}
use Rattle.sections.specs.Entries.{Described}
use Rattle.sections.specs.Seals.{chaining_of}
use Rattle.downloads.specs.Marks.{lowest}
use Rattle.downloads.specs.Copies.{Copies, lacks, copy_at, refused_at, sized}
use Rattle.downloads.specs.Frames.{block_of, blocks_of, good_store}

-- plain block i depends on cipher block k, as a test
abbrev pub depends : Mode → ℕ → ℕ → Bool
depends Codebook i k = k == i
depends Counter i k = k == i
depends Feedback i k = k == i || suc k == i

-- the first cipher block that it depends on; it depends on that one and those up to i
abbrev pub first_needed : Mode → ℕ → ℕ
first_needed Codebook i = i
first_needed Counter i = i
first_needed Feedback zero = zero
first_needed Feedback (suc i) = i

-- how many bytes block i has
abbrev pub block_bytes : Described → ℕ → ℕ
block_bytes s i = min (block_of s) (s.length - block_of s * i)

-- plain block i of what was received
abbrev pub plain_from : BlockMap → Described → Copies → ℕ → List ℕ
plain_from c s copies i = plain_block (chaining_of c s) (copy_at copies) i

-- a block that there is, all of whose cipher blocks have arrived
abbrev pub give_judged : Described → Copies → ℕ → Result Unit Code
give_judged s copies i =
    cond (nat_lt i (blocks_of s))
    (refused_at MissingBlock (lowest (λ k. depends s.mode i k && lacks copies k) 0 (blocks_of s)))
    (Err (refuse BadBlock i Download))

-- into a buffer of so many bytes: how many bytes the block has
unfoldable pub give_answer : BlockMap → Described → ℕ → ℕ → Copies → ℕ → ℕ → Result ℕ Code
give_answer c s body marks copies i room =
    sized (c.size == block_of s && (good_store s body marks && room == block_of s))
    (then (give_judged s copies i) (λ _. Ok (block_bytes s i)))

-- the block goes to the front of the buffer, whose rest stays
unfoldable pub out_after : BlockMap → Described → ℕ → ℕ → Copies → ℕ → List ℕ → List ℕ
out_after c s body marks copies i out =
    unless (give_answer c s body marks copies i (length out)) out (front (plain_from c s copies i) out)
