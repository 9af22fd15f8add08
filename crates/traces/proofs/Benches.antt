-- A bench that lends the same things.
use Rattle.std.proofs.Common.{◌≡◌, ℕ, Bool, length, ap, ◌∙◌, subst, ap₂}
use Rattle.blocks.specs.Ciphers.{BlockMap}
use Rattle.gost.specs.declared.cipher.Gost.{Gost}
use Rattle.gost.specs.Keyed.{rows_in, words_in}
use Rattle.sections.specs.Entries.{Described}
use Rattle.targets.specs.State.{TargetState}
use Rattle.traces.specs.declared.call.Bench.{Bench}
use Rattle.traces.specs.Traces.{Setting, Call, Answer}
use Rattle.traces.specs.Runs.{setting}
use Rattle.traces.specs.Bench.{SameBench, Performs, PerformsOn, setting_on, stands_on, buffers_on}

module _ {C T : Type 0} where
  pub same_then : (a b c : Bench C T) → SameBench a b → SameBench b c → SameBench a c
  same_then a b c p q = record {
    cipher = q.cipher ∙ p.cipher;
    tag = q.tag ∙ p.tag;
    target = q.target ∙ p.target;
    received = record { body = q.received.body ∙ p.received.body; arrivals = q.received.arrivals ∙ p.received.arrivals };
    page = q.page ∙ p.page;
    body_long = q.body_long ∙ p.body_long;
    marks_long = q.marks_long ∙ p.marks_long;
    page_long = q.page_long ∙ p.page_long;
  }

  module _ (map : C → BlockMap) (a b : Bench C T) (h : SameBench a b) where
    -- its calls share the same
    pub same_setting : (s : Described) → setting_on map s b ≡ setting_on map s a
    same_setting s =
        ap₂ (λ (c : C) (x : Gost). setting (map c) s (rows_in x) (words_in x) (length b.page.now)) h.cipher h.tag
        ∙ ap (λ (n : ℕ). setting (map a.cipher.now) s (rows_in a.tag) (words_in a.tag) n) h.page_long

  -- a call is made in the setting that they share
  pub same_performs : (map : C → BlockMap) (state : T → TargetState) (a b b' : Bench C T) (s s' : Described) (closed closed' : Bool) (c : Call) (said : Answer) → SameBench a b → s' ≡ s →
      PerformsOn map state s' closed closed' b b' c said →
      Performs (setting_on map s a) (stands_on state s closed b) (stands_on state s closed' b') (buffers_on b) (buffers_on b') c said
  same_performs map state a b b' s s' closed closed' c said h e p =
      subst (λ (w : Setting). Performs w (stands_on state s closed b) (stands_on state s closed' b') (buffers_on b) (buffers_on b') c said) (same_setting map a b h s)
      (subst (λ (d : Described). PerformsOn map state d closed closed' b b' c said) e p)
