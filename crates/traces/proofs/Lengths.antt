-- How long plain blocks and prepared pages are.
use Rattle.std.proofs.Common.{◌≡◌, ℕ, ◌-◌, ◌*◌, ◌/◌, ◌%◌, ◌<◌, ◌≤◌, min, true, List, length, replicate, sym, refl, ap, ◌∙◌, subst, inl, mul-le-mul_left, arith}
use Rattle.std.proofs.lemmas.List.{length-append, length-replicate}
use Rattle.blocks.specs.Bytes.{Bytes}
use Rattle.blocks.proofs.Xors.{xored-length}
use Rattle.modes.specs.declared.mode.Mode.{Mode}
use Rattle.modes.specs.declared.mode.Mode.TheVariants.{Codebook, Counter, Feedback}
use Rattle.modes.specs.Modes.{Depends, plain_by, block_count, joined}
use Rattle.modes.proofs.Joined.{length-block, whole_all, joined_long}
use Rattle.sections.specs.Seals.{chaining_of}
use Rattle.targets.specs.State.{TargetState}
use Rattle.downloads.specs.Copies.{Copies, Has, copy_at}
use Rattle.downloads.specs.Frames.{block_of, blocks_of}
use Rattle.downloads.specs.Blocks.{depends, block_bytes, plain_from}
use Rattle.downloads.specs.Pages.{first_in, count_in, needs, prepared}
use Rattle.traces.specs.Traces.{Setting}
use Rattle.traces.specs.Promise.{Fit}
use Rattle.traces.proofs.Lowest.{lowest_found}
use Rattle.traces.proofs.Wanted.{depends_true, copy_is}
use Rattle.traces.proofs.Framing.{Fitting, some_block}
use Rattle.traces.proofs.Giving.{sound_chain}
use Rattle.traces.proofs.Paging.{per_page}

-- a block depends on itself
pub own : (mode : Mode) (i : ℕ) → Depends mode i i
own Codebook i = refl
own Counter i = refl
own Feedback i = inl refl

-- whole blocks only
whole_block : (n L i : ℕ) → 0 < n → L % n ≡ 0 → i < block_count n L → min n (L - n * i) ≡ n
whole_block n L i some e low =
    let text : List ℕ = replicate L 0 in
    let long : length text ≡ L = length-replicate L 0 in
    sym (length-block n i text ∙ ap (λ (x : ℕ). min n (x - n * i)) long)
    ∙ whole_all n text i some (ap (λ (x : ℕ). x % n) long ∙ e) (subst (λ (x : ℕ). i < block_count n x) (sym long) low)

module _ (w : Setting) (t : TargetState) (fit : Fit w t) (copies : Copies) (ft : Fitting w.section copies) where
  abbrev n : ℕ
  n = block_of w.section

  abbrev L : ℕ
  L = w.section.length

  copy_long : (i : ℕ) → Has copies i → length (copy_at copies i) ≡ block_bytes w.section i
  copy_long i h = ap length (copy_is copies i h.0 h.1) ∙ (ft i h.0 h.1).1

  long_by : (mode : Mode) → (mode ≡ Codebook → L % n ≡ 0) → (i : ℕ) → i < blocks_of w.section → Has copies i → length (plain_by mode w.cipher (chaining_of w.cipher w.section).sync (copy_at copies) i) ≡ block_bytes w.section i
  long_by Codebook whole i low h =
      let size = fit.sized in
      let full : block_bytes w.section i ≡ n = whole_block n L i (some_block w.section) (whole refl) low in
      let b : length (copy_at copies i) ≡ w.cipher.size = copy_long i h ∙ (full ∙ sym size) in
      let bs : Bytes (copy_at copies i) = subst Bytes (sym (copy_is copies i h.0 h.1)) (ft i h.0 h.1).2 in
      (fit.lawful.inverse.stays (copy_at copies i) (b, bs)).0 ∙ (size ∙ sym full)
  long_by Counter whole i low h = xored-length (copy_at copies i) _ ∙ copy_long i h
  long_by Feedback whole i low h = xored-length (copy_at copies i) _ ∙ copy_long i h

  -- a plain block is as long as its cipher block
  pub plain_long : (i : ℕ) → i < blocks_of w.section → Has copies i → length (plain_from w.cipher w.section copies i) ≡ block_bytes w.section i
  plain_long i low h =
      long_by w.section.mode (λ e. ap (λ (x : ℕ). L % x) (sym fit.sized) ∙ (sound_chain w t fit).whole e) i low h

  -- a prepared page has a page's length
  pub prepared_long : (P fill : ℕ) → P % n ≡ 0 → (j : ℕ) → ((k : ℕ) → needs P w.section j k ≡ true → Has copies k) → length (prepared w.cipher w.section P fill copies j) ≡ P
  unfolding prepared
  prepared_long P fill whole j has =
      let first : ℕ = first_in P w.section j in
      let count : ℕ = count_in P w.section j in
      let bytes = joined (plain_from w.cipher w.section copies) first count in
      let long : length bytes ≡ min (n * count) (L - n * first) =
      joined_long n L (plain_from w.cipher w.section copies) first count
      (λ i a b. plain_long i (omega arith) (has i (lowest_found (λ x. depends w.section.mode x i) count first i a b (depends_true w.section.mode i i (own w.section.mode i))))) in
      let fewer : count ≤ P / n = omega arith in
      let within : length bytes ≤ P = omega (arith, long, mul-le-mul_left n fewer, per_page w P whole j) in
      omega (arith, length-append bytes (replicate (P - length bytes) fill), length-replicate (P - length bytes) fill)
