-- What the states of a download mean.
use Rattle.std.specs.Prelude.{ℕ, Bool, true, false, Ok, Err, Result}
use Rattle.refusals.specs.Codes.{Code, code_of}
use Rattle.sections.specs.Entries.{Described}
use Rattle.sections.specs.Meaning.{meaning_of}
use Rattle.downloads.specs.declared.state.Download.{Download}
use Rattle.downloads.specs.declared.state.Refused.{Refused}
use Rattle.downloads.specs.declared.state.Verdict.{Verdict}
use Rattle.downloads.specs.declared.state.Verdict.TheVariants.{Good, Differs}
use Rattle.downloads.specs.declared.state.Verified.{Verified}

-- the section of a download
abbrev pub section_in : {kind : ℕ} → Download kind → Described
section_in d = meaning_of d.section

-- what a call answers that gives the state back at a refusal
abbrev pub moved_on : {S T : Type 0} → Result S (Refused T) → Result Unit Code
moved_on (Ok s) = Ok tt
moved_on (Err e) = Err (code_of e.refusal)

-- the section of a download that stays as it is
abbrev pub stays : {S T : Type 0} → (S → Described) → (T → Described) → Result S (Refused T) → Described
stays new old (Ok s) = new s
stays new old (Err e) = old e.state

-- ---- verifying

abbrev pub is_good : Verdict → Bool
is_good Good = true
is_good Differs = false

abbrev pub verdict_of : Result Verified (Refused (Download 1)) → Result Bool Code
verdict_of (Ok v) = Ok (is_good v.verdict)
verdict_of (Err e) = Err (code_of e.refusal)

abbrev pub verified_of : Verified → Described
verified_of v = section_in v.state
