-- What a call answers, by what it finds.
use Rattle.std.proofs.Common.{◌≡◌, ℕ, ◌<◌, false, not, Ok, Result, ap, ◌∙◌, rules}
use Rattle.std.proofs.lemmas.Bool.{lt-leb, eq-eqb, cond-false}
use Rattle.refusals.specs.Codes.{Code}
use Rattle.targets.specs.State.{TargetState, is_locked}
use Rattle.targets.specs.Calls.{erase_answer, reading, program_answer}

-- a page that is there, and a buffer as long as a page
pub reading_is : (t : TargetState) (p : ℕ) → p < t.page_count → (n : ℕ) (rest : Result Unit Code) → n ≡ t.page_length → reading t p n rest ≡ rest
reading_is t p there n rest e = cond-false _ _ _ (lt-leb t.page_count p there) ∙ cond-false _ _ _ (ap not (eq-eqb n t.page_length e))

pub erase_granted : (t : TargetState) (p : ℕ) → erase_answer t p ≡ Ok tt → (p < t.page_count) × (is_locked t p ≡ false)
erase_granted t p e = search rules

pub program_granted : (t : TargetState) (p n : ℕ) → program_answer t p n ≡ Ok tt → (p < t.page_count) × (n ≡ t.page_length) × (is_locked t p ≡ false)
program_granted t p n e = search rules
