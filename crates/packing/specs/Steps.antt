-- What the functions below `pack` promise each other.
use Rattle.std.specs.Prelude.{◌≡◌, ℕ, ◌^◌, ◌<◌, List, length, Ok, Err, vec_items, Result}
use Rattle.std.specs.List.{AllByRecursion}
use Rattle.refusals.specs.declared.Refusal.{Refusal}
use Rattle.refusals.specs.Codes.{code_of, outcome}
use Rattle.blocks.specs.Ciphers.{BlockMap}
use Rattle.gost.specs.Tables.{Rows}
use Rattle.imitovstavka.specs.Chain.{imitovstavka}
use Rattle.modes.specs.Modes.{enciphered, deciphered}
use Rattle.sections.specs.Entries.{Described, fields_of, judged_fields}
use Rattle.sections.specs.Seals.{seal_answer, done, after, tagged, chaining_of, Opens}
use Rattle.sections.specs.Written.{entry_bytes}
use Rattle.packing.specs.declared.fault.Fault.{Fault}
use Rattle.packing.specs.declared.fault.Fault.TheVariants.{Refused, Memory}
use Rattle.packing.specs.declared.section.Sealed.{Sealed}
use Rattle.packing.specs.declared.plan.Plan.{Plan}
use Rattle.packing.specs.Plans.{Work, sync_words}
use Rattle.packing.specs.Sealing.{Means, fitting, sealed_section, sealed_body, map_of}
use Rattle.packing.specs.Packed.{fitting_all, packed_file}

-- the numbers of a plan fit their fields of an entry
pub record PlanFits (plan : Plan) : Type 0 where
  pub page : plan.first_page < 65536
  pub first : (sync_words plan.mode).first < 256 ^ 8
  pub second : (sync_words plan.mode).second < 256 ^ 8

-- the calls of sealing with the cipher of a kind
pub record SealedBy (map : BlockMap) (n : ℕ) (rows : Rows) (key image : List ℕ) (entry body : List ℕ) (r : Result Unit Refusal) (entry_new body_new : List ℕ) : Type 0 where
  pub answer : outcome r ≡ done (seal_answer n entry (length image) (length body))
  pub body_sealed : body_new ≡ after (seal_answer n entry (length image) (length body)) (λ s. enciphered (chaining_of map s) image) body
  pub entry_sealed : entry_new ≡ after (seal_answer n entry (length image) (length body)) (λ s. tagged (imitovstavka rows key s.bits image) entry) entry
  pub undo : (s : Described) → Ok s ≡ seal_answer n entry (length image) (length body) → Opens (chaining_of map s) image body_new

-- what a sealed section keeps: its entry is judged to be the section, and its body opens to the image
pub record Kept (m : Means) (w : Work) : Type 0 where
  pub judged : (place offset : ℕ) → judged_fields place offset (fields_of (entry_bytes (sealed_section m offset w))) ≡ Ok (sealed_section m offset w)
  pub long : length (sealed_body m w) ≡ length w.image
  pub opens : deciphered (chaining_of (map_of m w) (sealed_section m 0 w)) (sealed_body m w) ≡ w.image

pub record SealedAs (m : Means) (place : ℕ) (w : Work) (s : Sealed) : Type 0 where
  pub fits : fitting place w ≡ Ok tt
  pub entry : s.entry ≡ entry_bytes (sealed_section m 0 w)
  pub body : vec_items s.body ≡ sealed_body m w
  pub kept : Kept m w

-- the section is sealed, or refused as `fitting` says, or there is no memory
abbrev pub Sealing : Means → ℕ → Work → Result Sealed Fault → Type 0
Sealing m place w (Ok s) = SealedAs m place w s
Sealing m place w (Err (Refused e)) = fitting place w ≡ Err (code_of e)
Sealing m place w (Err Memory) = Unit {0}

-- the file, before it is listed
pub record FilledAs (m : Means) (ws : List Work) (file : List ℕ) : Type 0 where
  pub fits : fitting_all 1 ws ≡ Ok tt
  pub file_is : file ≡ packed_file m ws
  pub kept : AllByRecursion (λ w. Kept m w) ws

abbrev pub Filled : {X : Type 0} → (X → List ℕ) → Means → List Work → Result X Fault → Type 0
Filled meaning m ws (Ok x) = FilledAs m ws (meaning x)
Filled meaning m ws (Err (Refused e)) = fitting_all 1 ws ≡ Err (code_of e)
Filled meaning m ws (Err Memory) = Unit {0}
