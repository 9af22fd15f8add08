-- How the kinds of target are printed.
use Rattle.std.specs.Prelude.{ℕ, List, codes}
use Rattle.description.specs.declared.parts.TargetKind.{TargetKind}
use Rattle.description.specs.declared.parts.TargetKind.TheVariants.{Flash, Ram}

abbrev pub kind_text : TargetKind → List ℕ
kind_text Flash = codes "flash"
kind_text Ram = codes "ram"
