use Rattle.std.proofs.Common.{◌≡◌, ◌+◌, ◌-◌, ◌*◌, ◌≤◌, [], length}
use Rattle.sections.specs.Files.{listed_from, bodies_from}
use Rattle.sections.specs.Meaning.{sections_in}
use Rattle.sections.proofs.pages.Pages.list_entries.Given as goal

abbrev pub invariant-loop-i : goal.invariant-loop-i
invariant-loop-i l = record {
  many : length (sections_in l.listing) ≡ l._i;
  low : l.offset ≤ 1000 + 20000 * l._i;
  same : listed_from l.self.length l.self.count l.file l.count 0 (bodies_from l.count) []
      ≡ listed_from l.self.length l.self.count l.file (l.count - l._i) l._i l.offset (sections_in l.listing);
}
