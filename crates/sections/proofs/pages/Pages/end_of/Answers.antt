use Rattle.std.proofs.Common.{arith}
use Rattle.sections.proofs.Numbers.{pages_are}
use Rattle.sections.proofs.pages.Pages.end_of.Goals as goal

pub returns : goal.returns
returns c = omega (arith, pages_are c.args.s.now.length c.args.self.length c.args.self.some)
