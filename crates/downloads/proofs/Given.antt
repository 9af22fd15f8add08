-- Giving a block.
use Rattle.std.proofs.Common.{◌≡◌, ℕ, ◌+◌, ◌-◌, ◌*◌, ◌<◌, ◌≤◌, min, Bool, true, false, not, ◌&&◌, eqb, ltb, List, [], length, Some, None, Ok, Err, Option, Result, unwrap_or, sym, refl, ap, ◌∙◌, subst, ap₂, arith}
use Rattle.std.proofs.lemmas.Bool.{cond-true, and_left, and_parts, ltb-true, lt-ltb, le-leb, eqb-true, eq-eqb, false≢true}
use Rattle.refusals.specs.declared.Reason.{Reason}
use Rattle.refusals.specs.declared.Reason.TheVariants.{BadBlock, MissingBlock, WrongBuffer}
use Rattle.refusals.specs.declared.Layer.TheVariants.{Download}
use Rattle.refusals.specs.Codes.{Code, refuse, then, unless}
use Rattle.blocks.specs.Bytes.{block}
use Rattle.blocks.specs.Ciphers.{BlockMap}
use Rattle.modes.specs.Modes.{Depends, block_count}
use Rattle.modes.specs.Calls.{agrees, whole_in, mode_answer, plain_of, block_answer, buffer_after, front}
use Rattle.modes.proofs.Undoing.{plain_same, depends_le}
use Rattle.modes.proofs.Joined.{length-block}
use Rattle.sections.specs.Entries.{Described}
use Rattle.sections.proofs.Judged.{mode_ok}
use Rattle.downloads.specs.declared.arrivals.Arrival.{Arrival}
use Rattle.downloads.specs.Marks.{arrived_at, lowest, missing_from}
use Rattle.downloads.specs.Copies.{Copies, lacks, copy_at, copies_in, refused_at}
use Rattle.downloads.specs.Frames.{block_of, blocks_of, good_store}
use Rattle.downloads.specs.Blocks.{depends, first_needed, block_bytes, plain_from, give_judged, give_answer, out_after}
use Rattle.downloads.proofs.Lowest.{none_found}
use Rattle.downloads.proofs.Marks.{lacks_is}
use Rattle.downloads.proofs.Windows.{in_window, window, depends_is, depends_test}
use Rattle.downloads.proofs.Answered.{store_parts, ok_cond}

pub copy_is : (n : ℕ) (body : List ℕ) (marks : List Arrival) (k : ℕ) → arrived_at marks k ≡ true → copy_at (copies_in n body marks) k ≡ block n k body
unfolding copies_in
copy_is n body marks k t = ap (λ (o : Option (List ℕ)). unwrap_or o []) (cond-true (arrived_at marks k) (Some (block n k body)) None t)

pub none_at : (why : Reason) (o : Option ℕ) → refused_at why o ≡ Ok tt → o ≡ None
none_at why None e = refl
none_at why (Some k) e = let z : ◌≡◌ {A = ℕ} 0 1 = cc in absurd (omega arith)

-- the missing blocks among those that are wanted, which lie together
pub missing_in : (n : ℕ) (body : List ℕ) (marks : List Arrival) (lo hi m : ℕ) (wanted : ℕ → Bool) → hi ≤ m → ((k : ℕ) → wanted k ≡ in_window lo hi k) →
    missing_from marks lo (hi - lo) ≡ lowest (λ k. wanted k && lacks (copies_in n body marks) k) 0 m
missing_in n body marks lo hi m wanted fits is =
    let copies = copies_in n body marks in
    window lo hi m (λ k. wanted k && lacks copies k) (λ k. not (arrived_at marks k)) fits
    (λ k a b.
    let w : wanted k ≡ true = is k ∙ rw (le-leb lo k a, lt-ltb k hi b) in
    ap (λ (x : Bool). x && lacks copies k) w ∙ lacks_is n body marks k)
    (λ k o. and_left (wanted k) (lacks copies k) (is k ∙ o))

module _ (s : Described) (body : List ℕ) (marks : List Arrival) (i : ℕ) (store : good_store s (length body) (length marks) ≡ true) where
  abbrev copies : Copies
  copies = copies_in (block_of s) body marks

  counted : length marks ≡ blocks_of s
  counted = (store_parts s (length body) (length marks) store).1

  pub give_found : (o : Option ℕ) → i < length marks → o ≡ missing_from marks (first_needed s.mode i) (i + 1 - first_needed s.mode i) → refused_at MissingBlock o ≡ give_judged s copies i
  give_found o l e =
      let in' : i < blocks_of s = omega (arith, counted) in
      rw (lt-ltb i (blocks_of s) in') (ap (refused_at MissingBlock) (e ∙ missing_in (block_of s) body marks (first_needed s.mode i) (i + 1) (blocks_of s) (depends s.mode i) (omega arith) (depends_is s.mode i)))

-- what is known of a block that is given
pub give_granted : (s : Described) (copies : Copies) (i : ℕ) → give_judged s copies i ≡ Ok tt → (i < blocks_of s) × ((k : ℕ) → Depends s.mode i k → lacks copies k ≡ false)
give_granted s copies i e =
    let a = ok_cond (ltb i (blocks_of s)) (refused_at MissingBlock (lowest (λ k. depends s.mode i k && lacks copies k) 0 (blocks_of s))) (refuse BadBlock i Download) tt e in
    let l = ltb-true i (blocks_of s) a.0 in
    let none = none_found (λ k. depends s.mode i k && lacks copies k) (blocks_of s) 0 (none_at MissingBlock _ a.1) in
    (l, λ k d. sym (ap (λ (x : Bool). x && lacks copies k) (depends_test s.mode i k d)) ∙ none k (omega arith) (omega (arith, depends_le s.mode i k d)))

-- it is made from the copies as from the body
pub plain_is : (c : BlockMap) (s : Described) (body : List ℕ) (marks : List Arrival) (i : ℕ) → c.size ≡ block_of s → ((k : ℕ) → Depends s.mode i k → lacks (copies_in (block_of s) body marks) k ≡ false) →
    plain_from c s (copies_in (block_of s) body marks) i ≡ plain_of c s.mode s.sync body i
plain_is c s body marks i size have =
    plain_same s.mode c _ (copy_at (copies_in (block_of s) body marks)) (λ k. block c.size k body) i
    (λ k d.
    let here : arrived_at marks k ≡ true = arrived (arrived_at marks k) (sym (lacks_is (block_of s) body marks k) ∙ have k d) in
    copy_is (block_of s) body marks k here ∙ ap (λ (n : ℕ). block n k body) (sym size))
  where
    arrived : (b : Bool) → not b ≡ false → b ≡ true
    arrived true e = refl
    arrived false e = sym e

-- ---- the answers

module _ (c : BlockMap) (s : Described) (body marks : ℕ) (copies : Copies) (i : ℕ) (out : List ℕ) where
  abbrev right : Bool
  right = eqb c.size (block_of s) && (good_store s body marks && eqb (length out) (block_of s))

  abbrev Gives : Result ℕ Code → List ℕ → Type 0
  Gives r after = (r ≡ give_answer c s body marks copies i (length out)) × (after ≡ out_after c s body marks copies i out)

  gives : (r : Result ℕ Code) (after : List ℕ) → r ≡ give_answer c s body marks copies i (length out) → after ≡ unless r out (front (plain_from c s copies i) out) → Gives r after
  unfolding out_after
  gives r after e o = (e, o ∙ ap (λ (q : Result ℕ Code). unless q out (front (plain_from c s copies i) out)) e)

  pub give_unsized : false ≡ right → Gives (Err (refuse WrongBuffer 0 Download)) out
  unfolding give_answer
  give_unsized h = gives (Err (refuse WrongBuffer 0 Download)) out (rw (← h)) refl

  pub give_refused : (e : Code) → true ≡ right → Err e ≡ give_judged s copies i → Gives (Err e) out
  unfolding give_answer
  give_refused e h j = gives (Err e) out (rw (← h) (ap (λ (r : Result Unit Code). then r (λ _. Ok (block_bytes s i))) j)) refl

  pub give_done : true ≡ right → Ok tt ≡ give_judged s copies i → (after : List ℕ) → after ≡ front (plain_from c s copies i) out → Gives (Ok (block_bytes s i)) after
  unfolding give_answer
  give_done h j after e = gives (Ok (block_bytes s i)) after (rw (← h) (ap (λ (r : Result Unit Code). then r (λ _. Ok (block_bytes s i))) j)) e

-- the parts as a call compares them: what belongs to the section first, then a buffer
pub parts_unlike : (x y z : Bool) → false ≡ (x && y) → false ≡ (x && (y && z))
parts_unlike true true z h = absurd (false≢true h)
parts_unlike true false z h = refl
parts_unlike false y z h = refl

pub room_unlike : (x y z : Bool) → true ≡ (x && y) → false ≡ z → false ≡ (x && (y && z))
room_unlike true true z h e = e
room_unlike true false z h e = refl
room_unlike false y z h e = refl

pub parts_right : (x y z : Bool) → true ≡ (x && y) → true ≡ z → true ≡ (x && (y && z))
parts_right true true z h e = e
parts_right true false z h e = h
parts_right false y z h e = h

pub record Parts (s : Described) (n body m room w : ℕ) : Type 0 where
  pub size : n ≡ block_of s
  pub store : good_store s body m ≡ true
  pub room_is : room ≡ w

pub parts_from : (s : Described) (n body m room w : ℕ) → (eqb n (block_of s) && (good_store s body m && eqb room w)) ≡ true → Parts s n body m room w
parts_from s n body m room w h =
    let a = and_parts (eqb n (block_of s)) (good_store s body m && eqb room w) h in
    let b = and_parts (good_store s body m) (eqb room w) a.1 in
    record { size = eqb-true n (block_of s) a.0; store = b.0; room_is = eqb-true room w b.1 }

-- a mode, sync and length that a section keeps
pub section-judged : (s : Described) (n body : ℕ) → n ≡ block_of s → body ≡ s.length → agrees (block_of s) s.mode s.sync ≡ true → whole_in s.mode (block_of s) s.length ≡ true →
    mode_answer n s.mode s.sync body ≡ Ok tt
section-judged s n body p q a w = ap₂ (λ (x y : ℕ). mode_answer x s.mode s.sync y) p q ∙ mode_ok (block_of s) s.mode s.sync s.length a w

-- a block that the cipher deciphers is given
module _ (c : BlockMap) (s : Described) (body : List ℕ) (marks : List Arrival) (i : ℕ) (out : List ℕ)
    (is_right : true ≡ right c s (length body) (length marks) (copies_in (block_of s) body marks) i out)
    (agreed : agrees (block_of s) s.mode s.sync ≡ true) (whole : whole_in s.mode (block_of s) s.length ≡ true)
    (judged : Ok tt ≡ give_judged s (copies_in (block_of s) body marks) i) where
  abbrev held : Copies
  held = copies_in (block_of s) body marks

  parts : Parts s c.size (length body) (length marks) (length out) (block_of s)
  parts = parts_from s c.size (length body) (length marks) (length out) (block_of s) (sym is_right)

  long : length body ≡ s.length
  long = (store_parts s (length body) (length marks) parts.store).0

  granted : (i < blocks_of s) × ((k : ℕ) → Depends s.mode i k → lacks held k ≡ false)
  granted = give_granted s held i (sym judged)

  inside : i < block_count c.size (length body)
  inside = subst (λ (m : ℕ). i < m) (ap₂ (λ (n L : ℕ). block_count n L) (sym parts.size) (sym long)) granted.0

  answered : block_answer c.size s.mode s.sync body i (length out) ≡ Ok (length (block c.size i body))
  answered =
      rw (eq-eqb (length out) c.size (parts.room_is ∙ sym parts.size), section-judged s c.size (length body) parts.size long agreed whole, lt-ltb i (block_count c.size (length body)) inside)

  bytes : length (block c.size i body) ≡ block_bytes s i
  bytes = length-block c.size i body ∙ ap₂ (λ (n L : ℕ). min n (L - n * i)) parts.size long

  pub given_is : (r : Result ℕ Code) (after : List ℕ) → r ≡ block_answer c.size s.mode s.sync body i (length out) → after ≡ buffer_after c s.mode s.sync body i out →
      Gives c s (length body) (length marks) held i out r after
  given_is r after e o =
      let d = give_done c s (length body) (length marks) held i out is_right judged after
      (o ∙ (ap (λ (q : Result ℕ Code). unless q out (front (plain_of c s.mode s.sync body i) out)) answered
      ∙ ap (λ (x : List ℕ). front x out) (sym (plain_is c s body marks i parts.size granted.1)))) in
      (e ∙ (answered ∙ (ap Ok bytes ∙ d.0)), d.1)
