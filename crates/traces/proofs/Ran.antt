-- A loop over the calls of a trace.
use Rattle.std.proofs.Common.{◌≡◌, ℕ, ◌+◌, ◌<◌, Bool, true, false, ◌&&◌, List, [], ◌∷◌, ◌++◌, map, length, get_or, take, drop, set, sym, refl, ap, ◌∙◌, subst, ap₂, inl, inr, arith}
use lib.ListN.{length-map}
use Rattle.std.proofs.lemmas.List.{map_more, map_push, take_more_set, map-set, get_or-set_same, get_or-set_other, drop-drop, drop-set-lt}
use Rattle.std.proofs.ByRecursion.{All-push}
use Rattle.std.proofs.lemmas.Bool.{cases_eq, and_parts, false≢true}
use Rattle.traces.specs.declared.call.Call.{Call as CodeCall}
use Rattle.traces.specs.declared.call.Answer.{Answer as CodeAnswer}
use Rattle.traces.specs.Traces.{Setting, Call, Answer, Standing, run, step, answer_to, answers_of, OfBytes, AllOfBytes, not_built, is_refused}
use Rattle.traces.specs.Meaning.{call_of, answer_of}
use Rattle.traces.specs.Buffers.{Buffers, after, buffers_after}
use Rattle.traces.specs.Runs.{Ends}
use Rattle.traces.specs.Bench.{Performs, PerformsAll}
use Rattle.traces.proofs.Running.{run_push, answers_push}

buffers_push : (w : Setting) (s : Standing) (b : Buffers) (calls : List Call) (c : Call) → buffers_after w s b (calls ++ c ∷ []) ≡ after w (run w s calls) (buffers_after w s b calls) c
buffers_push w s b [] c = refl
buffers_push w s b (x ∷ calls) c = buffers_push w (step w s x) (after w s b x) calls c

-- after i calls
pub record Ran (w : Setting) (s : Standing) (b : Buffers) (calls : List CodeCall) (told : List CodeAnswer) (i : ℕ) (u : Standing) (v : Buffers) : Type 0 where
  pub bytes : AllOfBytes (map call_of (take i calls))
  pub performs : PerformsAll w s u b v (map call_of (take i calls)) (map answer_of (take i told))

-- one call more
pub ran_more : (w : Setting) (s : Standing) (b : Buffers) (calls : List CodeCall) (told : List CodeAnswer) (i : ℕ) (d : CodeCall) (a : CodeAnswer) (u u' : Standing) (v v' : Buffers) → Ran w s b calls told i u v → i < length calls → i < length told →
    OfBytes (call_of (get_or calls i d)) → Performs w u u' v v' (call_of (get_or calls i d)) (answer_of a) → Ran w s b calls (set told i a) (i + 1) u' v'
ran_more w s b calls told i d a u u' v v' was li lt ob p =
    let c = call_of (get_or calls i d) in
    let past = map call_of (take i calls) in
    let more : map call_of (take (i + 1) calls) ≡ past ++ c ∷ [] = map_more call_of calls i d li in
    let h = was.performs in
    record {
      bytes = subst AllOfBytes (sym more) (All-push OfBytes past c was.bytes ob);
      performs = record {
        answers_are =
            ap (map answer_of) (take_more_set told i a lt)
            ∙ (map_push answer_of (take i told) a
            ∙ (ap₂ (λ (x : List Answer) (y : Answer). x ++ y ∷ []) h.answers_are (p.answer ∙ ap (λ (x : Standing). answer_to w x c) h.stands)
            ∙ sym (ap (answers_of w s) more ∙ answers_push w s past c)));
        stands = p.stands ∙ (ap (λ (x : Standing). step w x c) h.stands ∙ sym (ap (run w s) more ∙ run_push w s past c));
        holds = p.holds ∙ (ap₂ (λ (x : Standing) (y : Buffers). after w x y c) h.stands h.holds ∙ sym (ap (buffers_after w s b) more ∙ buffers_push w s b past c));
      };
    }

-- ---- how far a trace came

-- no call so far was refused, if it stops at one
abbrev pub Quiet : Bool → List CodeAnswer → ℕ → Type 0
Quiet stops told made = stops ≡ true → (k : ℕ) → k < made → is_refused (get_or (map answer_of told) k not_built) ≡ false

module _ (stops : Bool) (told : List CodeAnswer) (made : ℕ) (a : CodeAnswer) (room : made < length told) (was : Quiet stops told made) where
  here : get_or (map answer_of (set told made a)) made not_built ≡ answer_of a
  here = ap (λ xs. get_or xs made not_built) (map-set answer_of told made a) ∙ get_or-set_same (map answer_of told) made (answer_of a) not_built (subst (λ (n : ℕ). made < n) (sym (length-map told answer_of)) room)

  old : stops ≡ true → (k : ℕ) → k < made → is_refused (get_or (map answer_of (set told made a)) k not_built) ≡ false
  old q k l =
      ap is_refused (ap (λ xs. get_or xs k not_built) (map-set answer_of told made a) ∙ get_or-set_other (map answer_of told) made k (answer_of a) not_built (λ e. omega arith))
      ∙ was q k l

  -- one call more, at which it does not stop
  pub quiet_more : (stops && is_refused (answer_of a)) ≡ false → Quiet stops (set told made a) (made + 1)
  quiet_more e q k l = elim (cases_eq k made) [
    | inl p ↦ ap (λ n. is_refused (get_or (map answer_of (set told made a)) n not_built)) p ∙ (ap is_refused here ∙ (sym (ap (λ (b : Bool). b && is_refused (answer_of a)) q) ∙ e))
    | inr p ↦ old q k (omega arith)
  ]

  -- one call more, at which it stops
  pub ends_there : (calls : ℕ) → made < calls → (stops && is_refused (answer_of a)) ≡ true → Ends stops calls (map answer_of (set told made a)) (made + 1)
  ends_there calls low e =
      let p = and_parts stops (is_refused (answer_of a)) e in
      record {
        within = omega arith;
        all = λ q. absurd (false≢true (sym q ∙ p.0));
        before = λ q k l. old q k (omega arith);
        end = λ q. inr (made, omega arith, ap is_refused here ∙ p.1);
      }

-- the answers that were not written stay
pub rest_more : {A : Type 0} (xs ys : List A) (i : ℕ) (a : A) → drop i xs ≡ drop i ys → drop (i + 1) (set xs i a) ≡ drop (i + 1) ys
rest_more xs ys i a e = drop-set-lt (i + 1) xs i a (omega arith) ∙ (sym (drop-drop 1 i xs) ∙ (ap (drop 1) e ∙ drop-drop 1 i ys))
