use Rattle.std.proofs.Common.{◌≡◌, Ok, subst}
use Rattle.modes.specs.Calls.{mode_answer}
use Rattle.sections.specs.Entries.{Described}
use Rattle.sections.specs.Meaning.{meaning_of}
use Rattle.sections.proofs.Judged.{mode_ok}
use Rattle.downloads.specs.Frames.{block_of}
use Rattle.traces.proofs.run.bring_mode.Goals as goal

pub returns : goal.returns
returns c =
    let sec = c.section-section.result in
    subst (λ (d : Described). mode_answer (block_of d) d.mode d.sync d.length ≡ Ok tt) c.section-section.ensures (mode_ok (block_of (meaning_of sec)) sec.mode sec.sync sec.length sec.agreed sec.whole)
