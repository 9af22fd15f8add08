-- Programming an image page: what the call answers and leaves.
use Rattle.std.proofs.Common.{◌≡◌, ℕ, ◌+◌, ◌*◌, ◌<◌, Bool, true, false, ◌&&◌, eqb, ltb, List, length, Ok, Err, Result, sym, ap, ◌∙◌, ap₂, arith}
use Rattle.std.proofs.lemmas.Bool.{and_parts, ltb-true}
use Rattle.refusals.specs.declared.Reason.TheVariants.{WrongBuffer, MissingBlock, NoSuchPage}
use Rattle.refusals.specs.declared.Layer.TheVariants.{Download}
use Rattle.refusals.specs.Codes.{Code, refuse, then, unless}
use Rattle.blocks.specs.Ciphers.{BlockMap}
use Rattle.description.specs.Limits.{allowed_length}
use Rattle.modes.specs.Modes.{joined}
use Rattle.modes.specs.Calls.{plain_of}
use Rattle.modes.proofs.Joined.{joined_same}
use Rattle.modes.proofs.Undoing.{depends_le}
use Rattle.sections.specs.Entries.{Described}
use Rattle.targets.specs.State.{TargetState}
use Rattle.targets.specs.Calls.{program_answer, programmed}
use Rattle.downloads.specs.declared.arrivals.Arrival.{Arrival}
use Rattle.downloads.specs.Marks.{lowest}
use Rattle.downloads.specs.Copies.{Copies, lacks, copies_in, refused_at}
use Rattle.downloads.specs.Frames.{block_of, blocks_of, good_store}
use Rattle.downloads.specs.Blocks.{depends, plain_from}
use Rattle.downloads.specs.Pages.{place_of, first_in, count_in, needs, filled_up, prepared, on_target, page_judged, page_answer, prepared_on, program_page_answer, buffer_after, target_programmed}
use Rattle.downloads.proofs.Lowest.{none_found, some_found}
use Rattle.downloads.proofs.Answered.{ok_cond}
use Rattle.downloads.proofs.Given.{none_at, plain_is}
use Rattle.downloads.proofs.Windows.{depends_test}
use Rattle.downloads.proofs.Prepared.{page_ends}

-- what is known of a page that can be prepared
pub record Granted (s : Described) (t : TargetState) (copies : Copies) (j : ℕ) : Type 0 where
  pub inside : j * t.page_length < s.length
  pub there : s.first_page + j < t.page_count
  pub have : (k : ℕ) → k < blocks_of s → needs t.page_length s j k ≡ true → lacks copies k ≡ false

pub page_granted : (s : Described) (t : TargetState) (copies : Copies) (j : ℕ) → page_judged s t copies j ≡ Ok tt → Granted s t copies j
page_granted s t copies j e =
    let test : ℕ → Bool = λ k. needs t.page_length s j k && lacks copies k in
    let a = ok_cond (on_target s t j) (refused_at MissingBlock (lowest test 0 (blocks_of s))) (refuse NoSuchPage (place_of (s.first_page + j)) Download) tt e in
    let b = and_parts (ltb (j * t.page_length) s.length) (ltb (s.first_page + j) t.page_count) a.0 in
    record {
      inside = ltb-true (j * t.page_length) s.length b.0;
      there = ltb-true (s.first_page + j) t.page_count b.1;
      have = λ k l n. sym (ap (λ (x : Bool). x && lacks copies k) n) ∙ none_found test (blocks_of s) 0 (none_at MissingBlock _ a.1) k (omega arith) (omega arith);
    }

module _ (c : BlockMap) (s : Described) (body : List ℕ) (marks : List Arrival) (t : TargetState) (j : ℕ) (page : List ℕ) where
  abbrev held : Copies
  held = copies_in (block_of s) body marks

  abbrev right : Bool
  right = eqb c.size (block_of s) && (good_store s (length body) (length marks) && eqb (length page) t.page_length)

  abbrev said : Result Unit Code
  said = page_answer c s (length body) (length marks) t held (length page) j

  pub record Does (r : Result Unit Code) (after : TargetState) (buffer : List ℕ) : Type 0 where
    pub answer : r ≡ program_page_answer c s (length body) (length marks) t held (length page) j
    pub target : after ≡ target_programmed c s (length body) (length marks) t held (length page) j
    pub page_is : buffer ≡ buffer_after c s (length body) (length marks) t held j page

  refuses : (e : Code) → Err e ≡ said → Does (Err e) t page
  refuses e h = record {
    answer = ap (λ (r : Result Unit Code). then r (λ _. program_answer t (s.first_page + j) t.page_length)) h;
    target = ap (λ (r : Result Unit Code). unless r t (programmed t (s.first_page + j) (prepared_on c s t held j))) h;
    page_is = ap (λ (r : Result Unit Code). unless r page (prepared_on c s t held j)) h;
  }

  pub program_unsized : false ≡ right → Does (Err (refuse WrongBuffer 0 Download)) t page
  unfolding page_answer
  program_unsized h = refuses (refuse WrongBuffer 0 Download) (rw (← h))

  pub program_refused : (e : Code) → true ≡ right → Err e ≡ page_judged s t held j → Does (Err e) t page
  unfolding page_answer
  program_refused e h k = refuses e (rw (← h) k)

  pub program_done : true ≡ right → Ok tt ≡ page_judged s t held j → (r : Result Unit Code) (after : TargetState) (buffer : List ℕ) →
      buffer ≡ prepared_on c s t held j → length buffer ≡ t.page_length → r ≡ program_answer t (s.first_page + j) (length buffer) → after ≡ programmed t (s.first_page + j) buffer → Does r after buffer
  unfolding page_answer
  program_done h k r after buffer made long a p =
      let ok : Ok tt ≡ said = rw (← h) k in
      record {
        answer = a ∙ (ap (program_answer t (s.first_page + j)) long ∙ ap (λ (q : Result Unit Code). then q (λ _. program_answer t (s.first_page + j) t.page_length)) ok);
        target = p ∙ (ap (programmed t (s.first_page + j)) made ∙ ap (λ (q : Result Unit Code). unless q t (programmed t (s.first_page + j) (prepared_on c s t held j))) ok);
        page_is = made ∙ ap (λ (q : Result Unit Code). unless q page (prepared_on c s t held j)) ok;
      }

  -- the page is made from the copies as from the body
  pub made_is : c.size ≡ block_of s → allowed_length t.page_length ≡ true → Granted s t held j → (P fill : ℕ) (buffer : List ℕ) → P ≡ t.page_length → fill ≡ t.fill →
      buffer ≡ filled_up P fill (joined (plain_of c s.mode s.sync body) (first_in P s j) (count_in P s j)) → buffer ≡ prepared_on c s t held j
  unfolding prepared
  made_is size allowed ok P fill buffer p f e =
      let Q : ℕ = t.page_length in
      let ends = page_ends s Q j allowed ok.inside in
      e ∙ (ap₂ (λ (x y : ℕ). filled_up x y (joined (plain_of c s.mode s.sync body) (first_in x s j) (count_in x s j))) p f
      ∙ ap (filled_up Q t.fill)
      (joined_same (plain_of c s.mode s.sync body) (plain_from c s held) (first_in Q s j) (count_in Q s j)
      (λ i a b. sym (plain_is c s body marks i size
      (λ k d. ok.have k (omega (arith, depends_le s.mode i k d)) (some_found (λ x. depends s.mode x k) (count_in Q s j) (first_in Q s j) i a b (depends_test s.mode i k d)))))))
