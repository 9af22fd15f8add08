use Rattle.std.proofs.Common.{◌≡◌, drop}
use Rattle.traces.specs.Meaning.{section_of, closed_in, stops_at}
use Rattle.traces.specs.Bench.{SameBench, setting_on, stands_on, buffers_on}
use Rattle.traces.proofs.Ran.{Ran, Quiet}
use Rattle.traces.proofs.run.run_calls.Given as goal

abbrev pub invariant-loop-made : goal.invariant-loop-made
invariant-loop-made g l =
    let e = l.initial in
    let s = section_of e.phase in
    Quiet (stops_at l.fn.until) l.answers l.made × (drop l.made l.answers ≡ drop l.made e.answers) × (section_of l.phase ≡ s) × SameBench e.bench l.bench
    × Ran (setting_on g.C.BlockCipher.map s e.bench) (stands_on g.T.Target.state s (closed_in e.phase) e.bench) (buffers_on e.bench) e.calls l.answers l.made
    (stands_on g.T.Target.state s (closed_in l.phase) l.bench) (buffers_on l.bench)
