-- What the buffers of a trace hold.
use Rattle.std.specs.Prelude.{ℕ, cond, List, [], ◌∷◌, ◌==◌}
use Rattle.refusals.specs.Codes.{unless}
use Rattle.downloads.specs.declared.arrivals.Arrival.{Arrival}
use Rattle.downloads.specs.Copies.{sized}
use Rattle.downloads.specs.Frames.{block_of, body_after, marks_after}
use Rattle.downloads.specs.Pages.{page_judged, prepared_on}
use Rattle.downloads.specs.Verdicts.{read_after}
use Rattle.traces.specs.Traces.{Setting, Call, frame, give, erase, program, close, reopen, verify, Standing, step, answer_to}
use Rattle.traces.specs.Promise.{is_done}

pub record Buffers : Type 0 where
  pub body : List ℕ
  pub marks : List Arrival
  pub page : List ℕ

abbrev pub buffers : List ℕ → List Arrival → List ℕ → Buffers
buffers body marks page = record { body = body; marks = marks; page = page }

-- after a call that is made at s: an accepted frame goes into the body and is marked; programming
-- leaves its prepared page in the page buffer, and verifying the page that it read last
abbrev pub after : Setting → Standing → Buffers → Call → Buffers
after w s b (frame f bytes) =
    cond (is_done (answer_to w s (frame f bytes)))
    (buffers (body_after (block_of w.section) f bytes b.body) (marks_after (block_of w.section) f bytes b.marks) b.page) b
after w s b (give i) = b
after w s b (erase p) = b
after w s b (program j) =
    buffers b.body b.marks
    (unless (sized (w.room == s.target.page_length) (page_judged w.section s.target s.copies j)) b.page (prepared_on w.cipher w.section s.target s.copies j))
after w s b close = b
after w s b reopen = b
after w s b verify = buffers b.body b.marks (cond s.closed (read_after w.rows w.key w.section s.target b.page) b.page)

-- one call after the other
abbrev pub buffers_after : Setting → Standing → Buffers → List Call → Buffers
buffers_after w s b [] = b
buffers_after w s b (c ∷ calls) = buffers_after w (step w s c) (after w s b c) calls
