-- Planned sections.
use Rattle.std.specs.Prelude.{ℕ, List, Some, None, vec_items, Option}
use Rattle.modes.specs.declared.mode.Mode.{Mode}
use Rattle.modes.specs.declared.mode.Mode.TheVariants.{Codebook as InCodebook, Counter as InCounter, Feedback as InFeedback}
use Rattle.modes.specs.declared.mode.Sync.{Sync}
use Rattle.sections.specs.Entries.{Described}
use Rattle.packing.specs.declared.plan.PlannedMode.{PlannedMode}
use Rattle.packing.specs.declared.plan.PlannedMode.TheVariants.{Codebook, Counter, Feedback}
use Rattle.packing.specs.declared.plan.Plan.{Plan}
use Rattle.packing.specs.declared.plan.Planned.{Planned}

abbrev pub mode_in : PlannedMode → Mode
mode_in Codebook = InCodebook
mode_in (Counter s) = InCounter
mode_in (Feedback s) = InFeedback

abbrev pub sync_of : PlannedMode → Option Sync
sync_of Codebook = None
sync_of (Counter s) = Some s
sync_of (Feedback s) = Some s

-- the sync field of an entry, as two words
abbrev pub sync_words : PlannedMode → Sync
sync_words Codebook = record { first = 0; second = 0 }
sync_words (Counter s) = s
sync_words (Feedback s) = s

-- the section of a plan for an image of n bytes, with a tag and its body at an offset
abbrev pub section_of : Plan → ℕ → ℕ → ℕ → Described
section_of plan n tag offset = record {
  cipher = plan.cipher;
  mode = mode_in plan.mode;
  bits = plan.bits;
  first_page = plan.first_page;
  length = n;
  sync = sync_of plan.mode;
  tag = tag;
  offset = offset;
}

-- a plan with its image
pub record Work : Type 0 where
  pub plan : Plan
  pub image : List ℕ

abbrev pub work_of : Planned → Work
work_of p = record { plan = p.plan; image = vec_items p.image }
