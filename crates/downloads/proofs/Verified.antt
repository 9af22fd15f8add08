-- Verifying: what the call answers and leaves.
use Rattle.std.proofs.Common.{◌≡◌, ℕ, ◌<◌, ◌≤◌, max, Bool, true, false, eqb, List, length, Ok, Err, Result, refl, ap, ◌∙◌, inl, inr, arith}
use Rattle.std.proofs.lemmas.Bool.{lt-leb, le-leb, cases_lt}
use Rattle.refusals.specs.declared.Reason.TheVariants.{NoSuchPage}
use Rattle.refusals.specs.declared.Layer.TheVariants.{Download}
use Rattle.refusals.specs.Codes.{Code, refuse, then, unless}
use Rattle.gost.specs.Tables.{Rows}
use Rattle.sections.specs.Entries.{Described}
use Rattle.sections.specs.Files.{pages_end}
use Rattle.targets.specs.State.{TargetState, page_of}
use Rattle.downloads.specs.Copies.{sized}
use Rattle.downloads.specs.Verdicts.{first_off, verify_judged, good_on, verify_answer, last_page, read_after}

sized-then : {X Y : Type 0} (right : Bool) (first : Result X Code) (next : X → Result Y Code) → then (sized right first) next ≡ sized right (then first next)
sized-then true first next = refl
sized-then false first next = refl

-- what is told of the image's end
module _ (s : Described) (t : TargetState) (room : ℕ) (right : eqb room t.page_length ≡ true) where
  higher : max s.first_page t.page_count ≡ first_off s t
  higher =
      elim (cases_lt s.first_page t.page_count) [
        | inl low ↦ rw (lt-leb t.page_count s.first_page low) (omega arith)
        | inr high ↦ rw (le-leb t.page_count s.first_page high) (omega arith)
      ]

  pub verify_past : (place : ℕ) → t.page_count < pages_end t.page_length s → place ≡ max s.first_page t.page_count → Err (refuse NoSuchPage place Download) ≡ sized (eqb room t.page_length) (verify_judged s t)
  verify_past place over e = rw (right, lt-leb (pages_end t.page_length s) t.page_count over) (ap (λ (k : ℕ). Err (refuse NoSuchPage k Download)) (e ∙ higher))

  pub verify_there : pages_end t.page_length s ≤ t.page_count → Ok tt ≡ sized (eqb room t.page_length) (verify_judged s t)
  verify_there h = rw (right, le-leb (pages_end t.page_length s) t.page_count h)

module _ (rows : Rows) (key : List ℕ) (s : Described) (t : TargetState) (out : List ℕ) where
  abbrev judged : Result Unit Code
  judged = sized (eqb (length out) t.page_length) (verify_judged s t)

  abbrev Verifies : Result Bool Code → List ℕ → Type 0
  Verifies r page = (r ≡ verify_answer rows key s t (length out)) × (page ≡ read_after rows key s t out)

  leaves : (r : Result Bool Code) (page : List ℕ) → r ≡ then judged (λ _. Ok (good_on rows key s t)) → page ≡ unless r out (page_of t (last_page s t)) → Verifies r page
  unfolding verify_answer read_after
  leaves r page e p =
      let said = e ∙ sized-then (eqb (length out) t.page_length) (verify_judged s t) (λ _. Ok (good_on rows key s t)) in
      (said, p ∙ ap (λ (q : Result Bool Code). unless q out (page_of t (last_page s t))) said)

  pub verify_refused : (e : Code) → Err e ≡ judged → Verifies (Err e) out
  verify_refused e h = leaves (Err e) out (ap (λ (r : Result Unit Code). then r (λ _. Ok (good_on rows key s t))) h) refl

  pub verify_done : (good : Bool) (page : List ℕ) → Ok tt ≡ judged → good ≡ good_on rows key s t → page ≡ page_of t (last_page s t) → Verifies (Ok good) page
  verify_done good page h g p = leaves (Ok good) page (ap Ok g ∙ ap (λ (r : Result Unit Code). then r (λ _. Ok (good_on rows key s t))) h) p
