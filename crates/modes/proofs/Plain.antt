-- One block of a body deciphered.
use Rattle.std.proofs.Common.{◌≡◌, ℕ, ◌+◌, ◌-◌, ◌*◌, ◌<◌, ◌≤◌, List, length, take, drop, Ok, Option, refl, ap, ◌∙◌, ap₂, mul_comm, mul-one, mul-add, arith, length-take}
use Rattle.std.proofs.lemmas.Nat.{div_below, le-div}
use Rattle.blocks.specs.Bytes.{block, xored}
use Rattle.blocks.specs.Ciphers.{BlockMap, Lawful}
use Rattle.modes.specs.declared.mode.Mode.{Mode}
use Rattle.modes.specs.declared.mode.Mode.TheVariants.{Codebook, Counter, Feedback}
use Rattle.modes.specs.declared.mode.Sync.{Sync}
use Rattle.modes.specs.Counters.{counters_from}
use Rattle.modes.specs.Modes.{gamma, before, plain_by, block_count}
use Rattle.modes.specs.Steps.{plain_step, FromSync}
use Rattle.modes.specs.Calls.{chaining, mode_answer}
use Rattle.modes.specs.Laws.{Reaches, Undo}
use Rattle.modes.proofs.Joined.{cut_short}
use Rattle.modes.proofs.Judged.{judged_sound}
use Rattle.modes.proofs.Reaching.{reaches}
use Rattle.modes.proofs.Undoing.{undo}

-- a block that begins in the text is one of its blocks
pub index_in : (n i bytes : ℕ) → 0 < n → n * i < bytes → i < block_count n bytes
index_in n i bytes h l =
    let q : i + 1 ≤ block_count n bytes = le-div (i + 1) (bytes + n - 1) n h (omega (arith, mul_comm (i + 1) n, mul-add n i 1, mul-one n)) in
    omega arith

pub index_out : (n i bytes : ℕ) → 0 < n → bytes ≤ n * i → block_count n bytes ≤ i
index_out n i bytes h l =
    let q : block_count n bytes < i + 1 = div_below (bytes + n - 1) n (i + 1) h (omega (arith, mul_comm (i + 1) n, mul-add n i 1, mul-one n)) in
    omega arith

-- a step of the code gives the plain block
pub plain_step_lem : (mode : Mode) (c : BlockMap) (sync pad : List ℕ) (blocks : ℕ → List ℕ) (y z i : ℕ) → FromSync mode (c.enciphered sync) y z → (mode ≡ Feedback → pad ≡ before sync blocks i) →
    plain_step mode c y z i pad (blocks i) ≡ plain_by mode c sync blocks i
unfolding gamma
plain_step_lem Codebook c sync pad blocks y z i from p = refl
plain_step_lem Counter c sync pad blocks y z i from p = ap₂ (λ (u v : ℕ). xored (blocks i) (c.enciphered (counters_from u v i))) (from refl).0 (from refl).1
plain_step_lem Feedback c sync pad blocks y z i from p = ap (λ (x : List ℕ). xored (blocks i) (c.enciphered x)) (p refl)

-- a part as long as a block, from where the block begins
pub cut_is : (n i k : ℕ) (body : List ℕ) → k ≡ length (block n i body) → take ((n * i + k) - n * i) (drop (n * i) body) ≡ block n i body
cut_is n i k body e =
    let same : (n * i + k) - n * i ≡ k = omega arith in
    ap (λ (j : ℕ). take j (drop (n * i) body)) same ∙ cut_short n k (drop (n * i) body) (e ∙ length-take n (drop (n * i) body))

pub reach_judged : (c : BlockMap) (mode : Mode) (sync : Option Sync) (bytes : ℕ) → Lawful c → mode_answer c.size mode sync bytes ≡ Ok tt → Reaches (chaining c mode sync) bytes
reach_judged c mode sync bytes law h = reaches (chaining c mode sync) bytes (judged_sound c mode sync bytes law h)

pub undo_judged : (c : BlockMap) (mode : Mode) (sync : Option Sync) (bytes : ℕ) → Lawful c → mode_answer c.size mode sync bytes ≡ Ok tt → Undo (chaining c mode sync) bytes
undo_judged c mode sync bytes law h = undo (chaining c mode sync) bytes (judged_sound c mode sync bytes law h)
