-- The blocks that an image page needs.
use Rattle.std.proofs.Common.{◌≡◌, ℕ, ◌+◌, ◌-◌, ◌*◌, ◌/◌, ◌<◌, min, true, cond, ◌&&◌, ltb, List, length, Err, Option, Result, sym, ap, ◌∙◌, ap₂, arith}
use Rattle.std.proofs.lemmas.Bool.{lt-ltb}
use Rattle.refusals.specs.declared.Reason.TheVariants.{MissingBlock, NoSuchPage}
use Rattle.refusals.specs.declared.Layer.TheVariants.{Download}
use Rattle.refusals.specs.Codes.{Code, refuse}
use Rattle.description.specs.Limits.{allowed_length}
use Rattle.sections.specs.Entries.{Described}
use Rattle.targets.specs.State.{TargetState}
use Rattle.downloads.specs.declared.arrivals.Arrival.{Arrival}
use Rattle.downloads.specs.Marks.{missing_from, lowest}
use Rattle.downloads.specs.Copies.{Copies, lacks, copies_in, refused_at}
use Rattle.downloads.specs.Frames.{block_of, blocks_of, good_store}
use Rattle.downloads.specs.Blocks.{first_needed}
use Rattle.downloads.specs.Pages.{place_of, first_in, count_in, needs, page_judged}
use Rattle.downloads.proofs.Answered.{store_parts}
use Rattle.downloads.proofs.Given.{missing_in}
use Rattle.downloads.proofs.Windows.{run-needs}
use Rattle.downloads.proofs.Prepared.{page_low, page_ends, page_some_blocks}

module _ (s : Described) (body : List ℕ) (marks : List Arrival) (P j : ℕ) (allowed : allowed_length P ≡ true) (inside : j * P < s.length) where
  abbrev copies : Copies
  copies = copies_in (block_of s) body marks

  abbrev from : ℕ
  from = first_in P s j

  -- the lowest of them that has not arrived
  missing_needed : missing_from marks (first_needed s.mode from) (from + count_in P s j - first_needed s.mode from) ≡ lowest (λ k. needs P s j k && lacks copies k) 0 (blocks_of s)
  missing_needed =
      missing_in (block_of s) body marks (first_needed s.mode from) (from + count_in P s j) (blocks_of s) (needs P s j) (page_ends s P j allowed inside)
      (λ k. run-needs s.mode from (count_in P s j) k (page_some_blocks s P j allowed inside))

  -- and as a call finds it, with blocks of n bytes and m marks
  module _ (n m count : ℕ) (size : n ≡ block_of s) (store : good_store s (length body) (length marks) ≡ true) (counted : m ≡ length marks) (there : s.first_page + j < count) (o : Option ℕ) (lo hi : ℕ)
      (low : lo ≡ first_needed s.mode (j * (P / n))) (high : hi ≡ min (j * (P / n) + P / n) m) (found : o ≡ missing_from marks lo (hi - lo)) where
    pub page_found : (t : TargetState) → t.page_length ≡ P → t.page_count ≡ count → refused_at MissingBlock o ≡ page_judged s t copies j
    page_found t long many =
        let blocks : m ≡ blocks_of s = counted ∙ (store_parts s (length body) (length marks) store).1 in
        let per : P / n ≡ P / block_of s = ap (λ (k : ℕ). P / k) size in
        let first : j * (P / n) ≡ from = ap (λ (k : ℕ). j * k) per in
        let ends : hi ≡ from + count_in P s j = omega (arith, high, first, per, blocks, page_low s P j allowed inside) in
        let starts : lo ≡ first_needed s.mode from = low ∙ ap (first_needed s.mode) first in
        let test : (p c : ℕ) → Result Unit Code =
        λ p c. cond (ltb (j * p) s.length && ltb (s.first_page + j) c) (refused_at MissingBlock (lowest (λ k. needs p s j k && lacks copies k) 0 (blocks_of s))) (Err (refuse NoSuchPage (place_of (s.first_page + j)) Download)) in
        let here : refused_at MissingBlock o ≡ test P count =
        rw (lt-ltb (j * P) s.length inside, lt-ltb (s.first_page + j) count there)
        (ap (refused_at MissingBlock) (found ∙ (ap₂ (λ (a b : ℕ). missing_from marks a (b - a)) starts ends ∙ missing_needed))) in
        here ∙ ap₂ test (sym long) (sym many)
