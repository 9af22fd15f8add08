-- The answers that bring a value.
use Rattle.std.specs.Prelude.{ℕ, Bool, List, length, take, replicate, Ok, Err, Result}
use Rattle.refusals.specs.Codes.{Code}
use Rattle.blocks.specs.Ciphers.{BlockMap}
use Rattle.sections.specs.Entries.{Described}
use Rattle.downloads.specs.Copies.{Copies}
use Rattle.downloads.specs.Frames.{block_of}
use Rattle.downloads.specs.Blocks.{give_answer, out_after}
use Rattle.traces.specs.Traces.{Answer, plain, verdict, refused}

-- a block of so many bytes at the front of a buffer
abbrev pub given_as : Result ℕ Code → List ℕ → Answer
given_as (Ok m) out = plain (take m out)
given_as (Err e) out = refused e

abbrev pub verdict_as : Result Bool Code → Answer
verdict_as (Ok good) = verdict good
verdict_as (Err e) = refused e

-- giving a block into a buffer of a block's length, zero at first
abbrev pub blank : ℕ → List ℕ
blank n = replicate n 0

abbrev pub given_by : BlockMap → Described → ℕ → ℕ → Copies → ℕ → Answer
given_by c s body marks copies i =
    given_as (give_answer c s body marks copies i (length (blank (block_of s)))) (out_after c s body marks copies i (blank (block_of s)))
