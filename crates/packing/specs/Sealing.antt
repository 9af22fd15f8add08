-- One planned section sealed.
use Rattle.std.specs.Prelude.{ℕ, Bool, cond, ◌&&◌, List, length, Ok, Err, Result}
use Rattle.refusals.specs.declared.Reason.TheVariants.{BadField, BadLength}
use Rattle.refusals.specs.declared.Layer.TheVariants.{File}
use Rattle.refusals.specs.Codes.{Code, refuse}
use Rattle.blocks.specs.Ciphers.{BlockMap}
use Rattle.gost.specs.Tables.{Rows}
use Rattle.gost.specs.Cipher.{rows_of}
use Rattle.imitovstavka.specs.Chain.{imitovstavka}
use Rattle.modes.specs.Modes.{enciphered}
use Rattle.sections.specs.Entries.{Described, good_tag, good_sync, good_length}
use Rattle.sections.specs.Seals.{chaining_of}
use Rattle.sections.specs.Written.{Part}
use Rattle.packing.specs.declared.plan.Plan.{Plan}
use Rattle.packing.specs.declared.sealer.Sealer.{Sealer}
use Rattle.packing.specs.Plans.{Work, mode_in, sync_words, section_of}
use Rattle.keys.specs.Keys.{Spread, spread_in}
use Rattle.packing.specs.Keys.{cipher_of}

-- 1 to 32 bits, and a sync as its cipher and mode take it
abbrev pub good_plan : Plan → Bool
good_plan plan =
    good_tag plan.bits 0 && good_sync plan.cipher (mode_in plan.mode) (sync_words plan.mode).first (sync_words plan.mode).second

-- a plan and the length of its image are judged as listing judges an entry, at the section's number
unfoldable pub fitting : ℕ → Work → Result Unit Code
fitting place w =
    cond (good_plan w.plan)
    (cond (good_length w.plan.cipher (mode_in w.plan.mode) (length w.image)) (Ok tt) (Err (refuse BadLength place File)))
    (Err (refuse BadField place File))

-- what sealing takes: the table of the target, and the keys
pub record Means : Type 0 where
  pub rows : Rows
  pub keys : Spread

abbrev pub means_in : Sealer → Means
means_in s = record { rows = rows_of s.table.now; keys = spread_in s.keys.now }

-- the section of a plan for its image, its body at an offset
unfoldable pub sealed_section : Means → ℕ → Work → Described
sealed_section m offset w = section_of w.plan (length w.image) (imitovstavka m.rows m.keys.tag w.plan.bits w.image) offset

abbrev pub map_of : Means → Work → BlockMap
map_of m w = cipher_of m.rows m.keys w.plan.cipher

-- the image enciphered as the section says
unfoldable pub sealed_body : Means → Work → List ℕ
sealed_body m w = enciphered (chaining_of (map_of m w) (sealed_section m 0 w)) w.image

abbrev pub part_of : Means → ℕ → Work → Part
part_of m offset w = record { section = sealed_section m offset w; body = sealed_body m w }
