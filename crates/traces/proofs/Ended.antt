-- A trace that was run from an opened download.
use Rattle.std.proofs.Common.{◌≡◌, ℕ, true, false, ◌&&◌, eqb, List, length, replicate, Ok, Err, Result, sym, ap, ◌∙◌, subst, ap₂}
use Rattle.std.proofs.lemmas.Bool.{and_parts, eqb-true}
use Rattle.refusals.specs.Codes.{Code, then, unless}
use Rattle.sections.specs.Entries.{Described}
use Rattle.sections.specs.Files.{section_at, asked}
use Rattle.targets.specs.State.{TargetState}
use Rattle.downloads.specs.declared.arrivals.Arrival.{Arrival}
use Rattle.downloads.specs.declared.arrivals.Arrival.TheVariants.{Missing}
use Rattle.downloads.specs.Copies.{Copies, copies_in, sized}
use Rattle.downloads.specs.Frames.{block_of, blocks_of, good_store, open_answer}
use Rattle.downloads.proofs.Answered.{ok_sized, store_parts}
use Rattle.traces.specs.Traces.{Setting, Call, Answer, Standing, standing, begun, run, answers_of, AllOfBytes}
use Rattle.traces.specs.Promise.{Fit, Promise, target_after, closed_after}
use Rattle.traces.specs.Buffers.{Buffers, buffers, buffers_after}
use Rattle.traces.specs.Runs.{stands_by, Runs}
use Rattle.traces.specs.Bench.{PerformsAll}
use Rattle.traces.proofs.Promised.{promise_holds}
use Rattle.traces.proofs.Told.{stands_as_told}
use Rattle.traces.proofs.Calls.{cleared}

opened_then : (r : Result Described Code) (n body marks : ℕ) (s : Described) → then r (λ d. sized (eqb n (block_of d) && good_store d body marks) (Ok d)) ≡ Ok s → (n ≡ block_of s) × (good_store s body marks ≡ true)
opened_then (Ok d) n body marks s e =
    let a = ok_sized (eqb n (block_of d) && good_store d body marks) (Ok d) s e in
    let same : d ≡ s = cc a.1 in
    let p = and_parts (eqb n (block_of d)) (good_store d body marks) a.0 in
    (eqb-true n (block_of d) p.0 ∙ ap block_of same, ap (λ (x : Described). good_store x body marks) (sym same) ∙ p.1)
opened_then (Err x) n body marks s e = cc

pub opened : (listing : List Described) (number n body marks : ℕ) (s : Described) → Ok s ≡ open_answer listing number n body marks → (n ≡ block_of s) × (good_store s body marks ≡ true)
opened listing number n body marks s e = opened_then (asked number (section_at number listing)) n body marks s (sym e)

-- the record of an opened download
pub record_cleared : (listing : List Described) (number n body : ℕ) (marks after : List Arrival) (s : Described) → Ok s ≡ open_answer listing number n body (length marks) →
    after ≡ unless (open_answer listing number n body (length marks)) marks (replicate (length marks) Missing) → after ≡ replicate (blocks_of s) Missing
record_cleared listing number n body marks after s e h =
    h ∙ (ap (λ (r : Result Described Code). unless r marks (replicate (length marks) Missing)) (sym e) ∙ ap (λ (k : ℕ). replicate k Missing) (store_parts s body (length marks) (opened listing number n body (length marks) s e).1).1)

module _ (w : Setting) (t : TargetState) (fit : Fit w t) (body : List ℕ) (marks : List Arrival) (clean : marks ≡ replicate (blocks_of w.section) Missing) (calls : List Call) (all : AllOfBytes calls) where
  abbrev from : Standing
  from = stands_by w.section body marks false t

  from_is : from ≡ begun t
  from_is = ap (λ (c : Copies). standing c false t) (ap (λ (m : List Arrival). copies_in (block_of w.section) body m) clean ∙ cleared (block_of w.section) (blocks_of w.section) body)

  -- what was run
  pub run_whole : (told : List Answer) (page : List ℕ) (end : Standing) (left : Buffers) → PerformsAll w from end (buffers body marks page) left calls told →
      Runs w t (buffers body (replicate (blocks_of w.section) Missing) page) calls told end.target end.closed left
  run_whole told page end left p =
      let a : told ≡ answers_of w (begun t) calls = p.answers_are ∙ ap (λ (x : Standing). answers_of w x calls) from_is in
      let told_is = p.stands ∙ (ap (λ (x : Standing). run w x calls) from_is ∙ stands_as_told w t calls) in
      record {
        answers_are = a;
        target_is = ap (λ (x : Standing). x.target) told_is ∙ ap (target_after w t calls) (sym a);
        closed_is = ap (λ (x : Standing). x.closed) told_is ∙ ap (closed_after calls) (sym a);
        buffers_are = p.holds ∙ ap₂ (λ (x : Standing) (m : List Arrival). buffers_after w x (buffers body m page) calls) from_is clean;
        promise = subst (Promise w t calls) (sym a) (promise_holds w t calls fit all);
      }
