use Rattle.std.proofs.Common.{◌≡◌, ℕ, List, map, length, take, replicate, sym, ◌∙◌, subst}
use Rattle.sections.specs.Entries.{Described}
use Rattle.sections.specs.Meaning.{sections_in}
use Rattle.downloads.specs.declared.arrivals.Arrival.TheVariants.{Missing}
use Rattle.downloads.specs.Frames.{blocks_of}
use Rattle.downloads.specs.Received.{body_in, marks_of}
use Rattle.downloads.specs.States.{section_in as download_in}
use Rattle.traces.specs.Meaning.{call_of, answer_of, closed_in}
use Rattle.traces.specs.Promise.{Fit}
use Rattle.traces.specs.Buffers.{buffers}
use Rattle.traces.specs.Runs.{Runs}
use Rattle.traces.specs.Bench.{setting_on, stands_on, buffers_on}
use Rattle.traces.proofs.Ended.{opened, record_cleared, run_whole}
use Rattle.traces.proofs.run.run.Goals as goal

pub returns-clause-runs : goal.returns-clause-runs
returns-clause-runs g c d q =
    let cipher = g.C.BlockCipher.map in
    let b = c.args.bench.now in
    let t = g.T.Target.state b.target.now in
    let listing = sections_in c.args.listing.now in
    let n = (cipher b.cipher.now).size in
    let body = body_in b.received in
    let marks = marks_of b.received in
    let r = c.open.new.self in
    let s = download_in c.in_ok-state.state in
    let e = c.run_calls.ensures in
    let opens = c.in_ok-state.ensures in
    let ok = opened listing c.args.number n (length body) (length marks) s opens.answer in
    let clean = record_cleared listing c.args.number n (length body) marks (marks_of r) s opens.answer opens.arrivals in
    let w = setting_on cipher s b in
    let fit : Fit w t = record { lawful = g.met.C.BlockCipher.lawful c.args.bench.now.cipher.now; sized = ok.0; mode = c.bring_mode.ensures; target = g.met.T.Target.formed c.args.bench.now.target.now } in
    let p = c.run_calls.result in
    let calls = map call_of (take p.made c.args.calls.now) in
    let told = map answer_of (take p.made c.run_calls.new.answers) in
    let left = c.run_calls.new.bench in
    let runs = run_whole w t fit (body_in r) (marks_of r) clean calls e.bytes told b.page.now (stands_on g.T.Target.state s (closed_in p.phase) left) (buffers_on left) e.performs in
    let same : s ≡ d = sym e.section ∙ cc q in
    let P : Described → List ℕ → Type 0 = λ x xs. Runs (setting_on cipher x b) t (buffers xs (replicate (blocks_of x) Missing) b.page.now) calls told (g.T.Target.state left.target.now) (closed_in p.phase) (buffers_on left) in
    subst (λ (x : Described). P x body) same (subst (P s) opens.body runs)
