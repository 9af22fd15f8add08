-- A block that was given, taken from its buffer.
use Rattle.std.proofs.Common.{◌≡◌, ℕ, ◌-◌, ◌≤◌, List, ◌++◌, length, take, replicate, Ok, Err, Result, sym, ap, ◌∙◌, ap₂, arith}
use lib.ListN.{length-replicate}
use lib.Seq.{take-append-le}
use Rattle.refusals.specs.Codes.{Code, then}
use Rattle.blocks.specs.Ciphers.{BlockMap}
use Rattle.sections.specs.Entries.{Described}
use Rattle.downloads.specs.Copies.{Copies}
use Rattle.downloads.specs.Frames.{block_of}
use Rattle.downloads.specs.Blocks.{block_bytes, give_judged, give_answer, out_after}
use Rattle.downloads.proofs.Answered.{ok_sized}
use Rattle.downloads.proofs.Marks.{take_equal}
use Rattle.traces.specs.Traces.{plain}
use Rattle.traces.specs.Answers.{given_as, blank, given_by}

given_then : (r : Result Unit Code) (m k : ℕ) → then r (λ _. Ok m) ≡ Ok k → m ≡ k
given_then (Ok u) m k e = cc e
given_then (Err x) m k e = cc

module _ (c : BlockMap) (s : Described) (body marks : ℕ) (copies : Copies) (i : ℕ) where
  few : (room k : ℕ) → give_answer c s body marks copies i room ≡ Ok k → k ≤ block_of s
  unfolding give_answer
  few room k e = let q = given_then (give_judged s copies i) (block_bytes s i) k (ok_sized _ _ k e).1 in omega arith

  pub given_out : (n k : ℕ) (out rest : List ℕ) → n ≡ block_of s → n ≤ 16 → length out ≡ length {A = ℕ} (take (n - 0) (replicate 16 0)) → Ok k ≡ give_answer c s body marks copies i (length {A = ℕ} (take (n - 0) (replicate 16 0))) →
      out ≡ out_after c s body marks copies i (take (n - 0) (replicate 16 0)) → plain (take k (out ++ rest)) ≡ given_by c s body marks copies i
  given_out n k out rest size small long e o =
      let same : n - 0 ≡ n = omega arith in
      let slot : take (n - 0) (replicate 16 0) ≡ blank (block_of s) = take_equal (n - 0) 16 0 (omega arith) ∙ ap blank (same ∙ size) in
      let e' : Ok k ≡ give_answer c s body marks copies i (length (blank (block_of s))) = e ∙ ap (λ (xs : List ℕ). give_answer c s body marks copies i (length xs)) slot in
      let o' : out ≡ out_after c s body marks copies i (blank (block_of s)) = o ∙ ap (out_after c s body marks copies i) slot in
      let wide : length out ≡ block_of s = long ∙ (ap length slot ∙ length-replicate (block_of s) 0) in
      ap plain (take-append-le k out rest (omega (arith, wide, few (length (blank (block_of s))) k (sym e'))))
      ∙ ap₂ (λ (r : Result ℕ Code) (xs : List ℕ). given_as r xs) e' o'
