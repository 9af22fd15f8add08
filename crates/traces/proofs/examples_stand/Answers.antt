use Rattle.traces.proofs.Worked.{examples_hold}
use Rattle.traces.proofs.examples_stand.Goals as goal

pub returns : goal.returns
returns c = examples_hold
