-- What the calls and answers of the code mean.
use Rattle.std.specs.Prelude.{Bool, true, false, take}
use Rattle.refusals.specs.Codes.{code_of}
use Rattle.sections.specs.Entries.{Described}
use Rattle.downloads.specs.States.{section_in as download_in, is_good}
use Rattle.traces.specs.declared.call.Call.{Call}
use Rattle.traces.specs.declared.call.Call.TheVariants.{Frame, Give, Erase, Program, Close, Reopen, Verify}
use Rattle.traces.specs.declared.call.Answer.{Answer}
use Rattle.traces.specs.declared.call.Answer.TheVariants.{Done, Plain, Verdict, Refused, NotBuilt}
use Rattle.traces.specs.declared.call.Phase.{Phase}
use Rattle.traces.specs.declared.call.Phase.TheVariants.{Receiving, Closed}
use Rattle.traces.specs.declared.call.Until.{Until}
use Rattle.traces.specs.declared.call.Until.TheVariants.{End, Refusal}
use Rattle.traces.specs.declared.call.Progress.{Progress}
use Rattle.traces.specs.Traces as trace

abbrev pub call_of : Call → trace.Call
call_of (Frame first bytes) = trace.frame first bytes.now
call_of (Give block) = trace.give block
call_of (Erase page) = trace.erase page
call_of (Program page) = trace.program page
call_of Close = trace.close
call_of Reopen = trace.reopen
call_of Verify = trace.verify

abbrev pub answer_of : Answer → trace.Answer
answer_of Done = trace.done
answer_of (Plain block count) = trace.plain (take count block)
answer_of (Verdict v) = trace.verdict (is_good v)
answer_of (Refused e) = trace.refused (code_of e)
answer_of NotBuilt = trace.not_built

abbrev pub section_of : Phase → Described
section_of (Receiving d) = download_in d
section_of (Closed d) = download_in d

abbrev pub closed_in : Phase → Bool
closed_in (Receiving d) = false
closed_in (Closed d) = true

-- a trace stops at the first refusal
abbrev pub stops_at : Until → Bool
stops_at End = false
stops_at Refusal = true

abbrev pub section_in : Progress → Described
section_in p = section_of p.phase
