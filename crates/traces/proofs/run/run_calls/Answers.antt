use Rattle.std.proofs.Common.{◌<◌, length, sym, ◌∙◌, arith}
use Rattle.traces.specs.Meaning.{section_of, closed_in, stops_at}
use Rattle.traces.specs.Bench.{setting_on, stands_on, buffers_on}
use Rattle.traces.proofs.Benches.{same_then, same_performs}
use Rattle.traces.proofs.Ran.{ran_more, quiet_more, ends_there, rest_more}
use Rattle.traces.proofs.run.run_calls.Goals as goal

pub returns-then-halts-clause-made : goal.returns-then-halts-clause-made
returns-then-halts-clause-made g c =
    let told = c.loop-made.answers in
    let room : c.loop-made.made < length told = omega (arith, c.loop-made-test.true, c.loop-made.auto.answers, c.requires.room) in
    ends_there (stops_at c.args.until) told c.loop-made.made c.perform-moved.result.answer room c.loop-made.invariant.0 (length c.args.calls.now) c.loop-made-test.true (sym c.halts.ensures ∙ c.if-halts.true)

pub returns-then-halts-clause-performs : goal.returns-then-halts-clause-performs
returns-then-halts-clause-performs g c =
    let map = g.C.BlockCipher.map in
    let state = g.T.Target.state in
    let a = c.args in
    let s = section_of a.phase in
    let e = c.perform-moved.ensures in
    let was = c.loop-made.invariant in
    let told = c.loop-made.answers in
    let room : c.loop-made.made < length told = omega (arith, c.loop-made-test.true, c.loop-made.auto.answers, c.requires.room) in
    let at = stands_on state s (closed_in a.phase) a.bench.now in
    let w = setting_on map s a.bench.now in
    (ran_more w at (buffers_on a.bench.now) a.calls.now told c.loop-made.made _ c.perform-moved.result.answer _ _ _ _ was.4 c.loop-made-test.true room e.bytes
    (same_performs map state a.bench.now c.loop-made.bench c.perform-moved.new.bench s (section_of c.loop-made.phase) (closed_in c.loop-made.phase) (closed_in c.perform-moved.result.phase) _ _ was.3 was.2 e.performs)).performs

pub loop-made-preserved : goal.loop-made-preserved
loop-made-preserved g c =
    let map = g.C.BlockCipher.map in
    let state = g.T.Target.state in
    let a = c.args in
    let s = section_of a.phase in
    let e = c.perform-moved.ensures in
    let was = c.loop-made.invariant in
    let told = c.loop-made.answers in
    let room : c.loop-made.made < length told = omega (arith, c.loop-made-test.true, c.loop-made.auto.answers, c.requires.room) in
    let at = stands_on state s (closed_in a.phase) a.bench.now in
    let w = setting_on map s a.bench.now in (
      quiet_more (stops_at a.until) told c.loop-made.made c.perform-moved.result.answer room was.0 (sym c.halts.ensures ∙ c.if-halts.false),
      rest_more told a.answers.now c.loop-made.made c.perform-moved.result.answer was.1,
      e.section ∙ was.2,
      same_then a.bench.now c.loop-made.bench c.perform-moved.new.bench was.3 e.same,
      ran_more w at (buffers_on a.bench.now) a.calls.now told c.loop-made.made _ c.perform-moved.result.answer _ _ _ _ was.4 c.loop-made-test.true room e.bytes
          (same_performs map state a.bench.now c.loop-made.bench c.perform-moved.new.bench s (section_of c.loop-made.phase) (closed_in c.loop-made.phase) (closed_in c.perform-moved.result.phase) _ _ was.3 was.2 e.performs),
    )
