-- One call: what its real call leaves is what the trace says.
use Rattle.std.proofs.Common.{◌≡◌, ℕ, ◌-◌, ◌*◌, ◌<◌, min, Bool, true, false, cond, ◌&&◌, eqb, List, length, replicate, Some, None, Ok, Err, Result, sym, refl, ap, ◌∙◌, subst, ap₂, inl, inr, arith}
use lib.ListN.{length-replicate}
use Rattle.std.proofs.lemmas.Bool.{cases_lt, eq-eqb, false≢true}
use Rattle.refusals.specs.Codes.{Code, unless}
use Rattle.blocks.specs.Bytes.{Bytes, block}
use Rattle.blocks.specs.Ciphers.{BlockMap, Lawful}
use Rattle.modes.specs.Modes.{block_count}
use Rattle.modes.specs.Calls.{mode_answer}
use Rattle.modes.proofs.Joined.{length-block, bytes_block, count_ceil}
use Rattle.sections.specs.declared.section.Section.{Section}
use Rattle.sections.specs.Entries.{Described}
use Rattle.sections.specs.Meaning.{meaning_of}
use Rattle.sections.proofs.Judged.{mode_ok}
use Rattle.targets.specs.State.{TargetState, WellFormed}
use Rattle.targets.specs.Calls.{erase_answer, erased}
use Rattle.downloads.specs.declared.arrivals.Arrival.{Arrival}
use Rattle.downloads.specs.declared.arrivals.Arrival.TheVariants.{Arrived}
use Rattle.downloads.specs.Marks.{arrived_at}
use Rattle.downloads.specs.Copies.{Copies, copies_in, sized}
use Rattle.downloads.specs.Frames.{block_of, blocks_of, good_store, frame_answer, with_frame, body_after, marks_after, close_answer}
use Rattle.downloads.specs.Pages.{page_judged, page_answer, prepared_on, program_page_answer, target_programmed, buffer_after}
use Rattle.downloads.specs.Verdicts.{verify_answer, read_after}
use Rattle.downloads.proofs.Answered.{store_parts, block_some}
use Rattle.downloads.proofs.Marks.{past_marks}
use Rattle.downloads.proofs.Parts.{put_length}
use Rattle.downloads.proofs.Taken.{room, lies}
use Rattle.traces.specs.Traces.{Setting, Call, frame, give, erase, program, close, reopen, verify, Answer, done, not_built, Standing, standing, built, answered}
use Rattle.traces.specs.Answers.{blank, verdict_as}
use Rattle.traces.specs.Promise.{Fit, is_done}
use Rattle.traces.specs.Buffers.{Buffers, buffers, after}
use Rattle.traces.specs.Runs.{stands_by}
use Rattle.downloads.specs.declared.received.Received.{Received}
use Rattle.traces.specs.declared.call.Bench.{Bench}
use Rattle.downloads.specs.Received.{held_in, body_in, marks_of, copies_of}
use Rattle.traces.specs.Bench.{Serves, Performs, given_from, setting_on, stands_on, buffers_on}
use Rattle.traces.proofs.Outcomes.{answer_not}
use Rattle.traces.proofs.Framing.{Fitting}
use Rattle.traces.proofs.Paging.{whole_page}
use Rattle.traces.proofs.Calls.{step_not, answer_reopen, step_reopen, answer_erase, step_erase, answer_verify, step_verify, step_give, answer_frame, step_frame, answer_close, step_close, answer_give, answer_program, step_program}

-- what a body of bytes and its record hold are blocks of the section
some_arrived : (arrived : Bool) (b c : List ℕ) → cond arrived (Some b) None ≡ Some c → (arrived ≡ true) × (b ≡ c)
some_arrived true b c e = (refl, cc e)
some_arrived false b c e = cc

pub copies_fit : (s : Described) (body : List ℕ) (marks : List Arrival) → good_store s (length body) (length marks) ≡ true → Bytes body → Fitting s (copies_in (block_of s) body marks)
unfolding copies_in
copies_fit s body marks store bytes k b e =
    let store' = store_parts s (length body) (length marks) store in
    let a = some_arrived (arrived_at marks k) (block (block_of s) k body) b e in
    let low : k < blocks_of s = elim (cases_lt k (length marks)) [
      | inl l ↦ omega (arith, store'.1)
      | inr h ↦ absurd (false≢true (sym (past_marks marks k h) ∙ a.0))
    ] in
    (low, ap length (sym a.1) ∙ (length-block (block_of s) k body ∙ ap (λ (L : ℕ). min (block_of s) (L - block_of s * k)) store'.0), subst Bytes a.1 (bytes_block (block_of s) k body bytes))

-- a section's mode takes its sync and its length
pub mode_of : (sec : Section) (d : Described) → meaning_of sec ≡ d → mode_answer (block_of d) d.mode d.sync d.length ≡ Ok tt
mode_of sec d e = subst (λ (x : Described). mode_answer (block_of x) x.mode x.sync x.length ≡ Ok tt) e (mode_ok (block_of (meaning_of sec)) sec.mode sec.sync sec.length sec.agreed sec.whole)

-- a frame leaves as many marks, and as many bytes
module _ (s : Described) (body : List ℕ) (marks : List Arrival) (f : ℕ) (bytes : List ℕ) where
  abbrev taken : Result Unit Code
  taken = frame_answer s (length body) (length marks) (copies_in (block_of s) body marks) f bytes

  kept : {A : Type 0} (xs ys : List A) (closed : Bool) (r : Result Unit Code) → (r ≡ Ok tt → length ys ≡ length xs) → length (cond closed xs (unless r xs ys)) ≡ length xs
  kept xs ys true r h = refl
  kept xs ys false (Ok u) h = h refl
  kept xs ys false (Err e) h = refl

  pub marks_kept : (closed : Bool) → length (cond closed marks (unless taken marks (marks_after (block_of s) f bytes marks))) ≡ length marks
  marks_kept closed = kept marks (marks_after (block_of s) f bytes marks) closed taken (λ e.
      let m : ℕ = block_count (block_of s) (length bytes) in
      let long : length (replicate m Arrived) ≡ m = length-replicate m Arrived in
      put_length f (replicate m Arrived) marks (omega (arith, long, room s body marks f bytes (block_of s) refl (sym e) m (sym (count_ceil (block_of s) (block_of s) (length bytes) refl (block_some s.cipher))))))

  pub body_kept : (closed : Bool) → length (cond closed body (unless taken body (body_after (block_of s) f bytes body))) ≡ length body
  body_kept closed = kept body (body_after (block_of s) f bytes body) closed taken (λ e. put_length (block_of s * f) bytes body (lies s body marks f bytes (block_of s) refl (sym e)))

-- a call as it came
pub as_came : {w : Setting} {s u : Standing} {b v : Buffers} {c c' : Call} {a : Answer} → c' ≡ c → Performs w s u b v c a → Performs w s u b v c' a
as_came {w} {s} {u} {b} {v} {c} {c'} {a} e p = subst (λ (x : Call). Performs w s u b v x a) (sym e) p

module _ {C T : Type 0} (map : C → BlockMap) (state : T → TargetState) (d : Described) (bench : Bench C T) (serves : Serves map d bench) where
  abbrev w : Setting
  w = setting_on map d bench

  abbrev body : List ℕ
  body = body_in bench.received

  abbrev marks : List Arrival
  marks = marks_of bench.received

  abbrev page : List ℕ
  page = bench.page.now

  abbrev t : TargetState
  t = state bench.target.now

  abbrev store : good_store d (length body) (length marks) ≡ true
  store = serves.stored

  abbrev copies : Copies
  copies = copies_in (block_of d) body marks

  abbrev at : Bool → Standing
  at closed = stands_on state d closed bench

  abbrev held : Buffers
  held = buffers_on bench

  -- a call that cannot be made
  not_made : (closed : Bool) (c : Call) → built closed c ≡ false → after w (at closed) held c ≡ held → Performs w (at closed) (at closed) held held c not_built
  not_made closed c e h = record { answer = sym (answer_not w (at closed) c e); stands = sym (step_not w (at closed) c e); holds = sym h }

  abbrev framed : ℕ → List ℕ → Result Unit Code
  framed f bytes = frame_answer w.section (length body) (length marks) copies f bytes

  frame_holds : (f : ℕ) (bytes : List ℕ) (r : Result Unit Code) (b v : Buffers) → unless r b v ≡ cond (is_done (answered r done)) v b
  frame_holds f bytes (Ok u) b v = refl
  frame_holds f bytes (Err e) b v = refl

  parts_held : (r : Result Unit Code) (b₁ b₂ : List ℕ) (m₁ m₂ : List Arrival) → buffers (unless r b₁ b₂) (unless r m₁ m₂) page ≡ unless r (buffers b₁ m₁ page) (buffers b₂ m₂ page)
  parts_held (Ok u) b₁ b₂ m₁ m₂ = refl
  parts_held (Err e) b₁ b₂ m₁ m₂ = refl

  performs_frame_by : (closed : Bool) (f : ℕ) (bytes : List ℕ) (a : Answer) (body' : List ℕ) (marks' : List Arrival) →
      a ≡ cond closed not_built (answered (framed f bytes) done) →
      body' ≡ cond closed body (unless (framed f bytes) body (body_after (block_of w.section) f bytes body)) →
      marks' ≡ cond closed marks (unless (framed f bytes) marks (marks_after (block_of w.section) f bytes marks)) →
      copies_in (block_of w.section) body' marks' ≡ cond closed copies (unless (framed f bytes) copies (with_frame (block_of w.section) copies f bytes)) →
      Performs w (at closed) (stands_by w.section body' marks' closed t) held (buffers body' marks' page) (frame f bytes) a
  performs_frame_by true f bytes a body' marks' ea eb em ec =
      let n = not_made true (frame f bytes) refl (ap (λ (x : Answer). cond (is_done x) (buffers (body_after (block_of w.section) f bytes body) (marks_after (block_of w.section) f bytes marks) page) held) (answer_not w (at true) (frame f bytes) refl)) in
      record {
        answer = ea ∙ n.answer;
        stands = ap (λ (c : Copies). standing c true t) ec ∙ n.stands;
        holds = ap₂ (λ (b : List ℕ) (m : List Arrival). buffers b m page) eb em ∙ n.holds;
      }
  performs_frame_by false f bytes a body' marks' ea eb em ec =
      let n = block_of w.section in
      let said = answer_frame w (at false) (length body) (length marks) store f bytes refl in
      record {
        answer = ea ∙ sym said;
        stands = ap (λ (c : Copies). standing c false t) ec ∙ sym (step_frame w (at false) (length body) (length marks) store f bytes refl);
        holds =
            ap₂ (λ (b : List ℕ) (m : List Arrival). buffers b m page) eb em
            ∙ (parts_held (framed f bytes) body (body_after n f bytes body) marks (marks_after n f bytes marks)
            ∙ (frame_holds f bytes (framed f bytes) held (buffers (body_after n f bytes body) (marks_after n f bytes marks) page)
            ∙ ap (λ (x : Answer). cond (is_done x) (buffers (body_after n f bytes body) (marks_after n f bytes marks) page) held) (sym said)));
      }

  pub performs_frame : (closed closed' : Bool) (f : ℕ) (bytes : List ℕ) (a : Answer) (r : Received) → closed' ≡ closed →
      a ≡ cond closed not_built (answered (framed f bytes) done) →
      body_in r ≡ cond closed body (unless (framed f bytes) body (body_after (block_of d) f bytes body)) →
      marks_of r ≡ cond closed marks (unless (framed f bytes) marks (marks_after (block_of d) f bytes marks)) →
      copies_of (block_of d) (held_in r) ≡ cond closed copies (unless (framed f bytes) copies (with_frame (block_of d) copies f bytes)) →
      Performs w (at closed) (stands_by d (body_in r) (marks_of r) closed' t) held (buffers (body_in r) (marks_of r) page) (frame f bytes) a
  performs_frame closed closed' f bytes a r o ea eb em ec =
      let p = performs_frame_by closed f bytes a (body_in r) (marks_of r) ea eb em ec in
      record { answer = p.answer; stands = ap (λ (x : Bool). stands_by d (body_in r) (marks_of r) x t) o ∙ p.stands; holds = p.holds }

  pub performs_erase : (closed : Bool) (p : ℕ) (a : Answer) (t' : TargetState) → a ≡ answered (erase_answer t p) done → t' ≡ erased t p → Performs w (at closed) (stands_by w.section body marks closed t') held held (erase p) a
  performs_erase closed p a t' ea et = record {
    answer = ea ∙ sym (answer_erase w (at closed) p);
    stands = ap (standing copies closed) et ∙ sym (step_erase w (at closed) p);
    holds = refl;
  }

  pub performs_close : (closed closed' : Bool) (a : Answer) → a ≡ cond closed not_built (answered (close_answer w.section (length body) (length marks) copies) done) →
      closed' ≡ cond closed true (unless (close_answer w.section (length body) (length marks) copies) false true) → Performs w (at closed) (at closed') held held close a
  performs_close true closed' a ea ec =
      let n = not_made true close refl refl in record { answer = ea ∙ n.answer; stands = ap at ec ∙ n.stands; holds = refl }
  performs_close false closed' a ea ec = record {
    answer = ea ∙ sym (answer_close w (at false) (length body) (length marks) store refl);
    stands = ap at ec ∙ sym (step_close w (at false) (length body) (length marks) store refl);
    holds = refl;
  }

  pub performs_reopen : (closed closed' : Bool) (a : Answer) → a ≡ cond closed done not_built → closed' ≡ false → Performs w (at closed) (at closed') held held reopen a
  performs_reopen true closed' a ea ec = record { answer = ea ∙ sym (answer_reopen w (at true) refl); stands = ap at ec ∙ sym (step_reopen w (at true) refl); holds = refl }
  performs_reopen false closed' a ea ec =
      let n = not_made false reopen refl refl in record { answer = ea ∙ n.answer; stands = ap at ec ∙ n.stands; holds = refl }

  pub performs_verify : (closed closed' : Bool) (a : Answer) (page' : List ℕ) → closed' ≡ closed → a ≡ cond closed (verdict_as (verify_answer w.rows w.key w.section t w.room)) not_built →
      page' ≡ cond closed (read_after w.rows w.key w.section t page) page → Performs w (at closed) (at closed') held (buffers body marks page') verify a
  performs_verify true closed' a page' o ea ep = record { answer = ea ∙ sym (answer_verify w (at true) refl); stands = ap at o ∙ sym (step_verify w (at true)); holds = ap (buffers body marks) ep }
  performs_verify false closed' a page' o ea ep =
      let n = not_made false verify refl refl in record { answer = ea ∙ n.answer; stands = ap at o ∙ sym (step_verify w (at false)); holds = ap (buffers body marks) ep }

  -- what the section and the interfaces keep, with the section as its meaning
  module _ (sec : Section) (same : meaning_of sec ≡ d) (lawful : Lawful w.cipher) (formed : WellFormed t) (bytes : Bytes body) where
    fit : Fit w t
    fit = record { lawful = lawful; sized = serves.sized; mode = mode_of sec d same; target = formed }

    fits : Fitting w.section copies
    fits = copies_fit w.section body marks store bytes

    pub performs_give : (closed : Bool) (i : ℕ) (a : Answer) → a ≡ given_from w.cipher (meaning_of sec) (held_in bench.received) i → Performs w (at closed) (at closed) held held (give i) a
    performs_give closed i a ea = record {
      answer = ea ∙ (ap (λ (x : Described). given_from w.cipher x (held_in bench.received) i) same ∙ sym (answer_give w (at closed) (length body) (length marks) store t fit fits i (blank (block_of w.section)) (length-replicate (block_of w.section) 0)));
      stands = sym (step_give w (at closed) i);
      holds = refl;
    }

    page_said : (j : ℕ) → page_answer w.cipher w.section (length body) (length marks) t copies w.room j ≡ sized (eqb w.room t.page_length) (page_judged w.section t copies j)
    unfolding page_answer
    page_said j =
        let b = eqb w.room t.page_length in
        ap (λ (x : Bool). sized x (page_judged w.section t copies j)) (ap₂ (λ (x y : Bool). x && (y && b)) (eq-eqb w.cipher.size (block_of w.section) fit.sized) store)

    abbrev paged : Described → ℕ → Result Unit Code
    paged x j = program_page_answer w.cipher x (length body) (length marks) t (copies_in (block_of x) body marks) (length page) j

    pub performs_program : (closed : Bool) (j : ℕ) (a : Answer) (t' : TargetState) (page' : List ℕ) →
        a ≡ answered (paged (meaning_of sec) j) done →
        t' ≡ target_programmed w.cipher (meaning_of sec) (length body) (length marks) t (copies_of (block_of (meaning_of sec)) (held_in bench.received)) (length page) j →
        page' ≡ buffer_after w.cipher (meaning_of sec) (length body) (length marks) t (copies_of (block_of (meaning_of sec)) (held_in bench.received)) j page →
        Performs w (at closed) (stands_by d body marks closed t') held (buffers body marks page') (program j) a
    performs_program closed j a t' page' ea et ep =
        let c = w.cipher in
        record {
          answer = ea ∙ (ap (λ (x : Described). answered (paged x j) done) same ∙ sym (answer_program w (at closed) (length body) (length marks) store t fit fits j));
          stands =
              ap (standing copies closed) (et ∙ ap (λ (x : Described). target_programmed c x (length body) (length marks) t (copies_in (block_of x) body marks) (length page) j) same)
              ∙ sym (step_program w (at closed) (length body) (length marks) store t fit fits j (whole_page w t fit.target));
          holds =
              ap (buffers body marks)
              (ep ∙ (ap (λ (x : Described). buffer_after c x (length body) (length marks) t (copies_in (block_of x) body marks) j page) same
              ∙ ap (λ (r : Result Unit Code). unless r page (prepared_on c d t copies j)) (page_said j)));
        }
